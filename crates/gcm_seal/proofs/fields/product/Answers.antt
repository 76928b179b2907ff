use Rattle.std.proofs.Common.{◌≡◌, ℕ, ◌+◌, ◌*◌, ◌∙◌, [], ap, ap₂, arith, bit_xor, slice_index_or, zero-add}
use Rattle.std.proofs.lemmas.Nat.{and_mask}
use Rattle.gcm_seal.specs.Gcm.{times}
use Rattle.gcm_seal.specs.Tables.{raised, table_of}
use Rattle.gcm_seal.proofs.Field.{two_halves, raised-add}
use Rattle.gcm_seal.proofs.fields.product.Goals as goal

pub returns : goal.returns
returns c h holds =
    let place : (j : ℕ) → 4 * (16 + j) ≡ 64 + 4 * j = λ j. omega arith in
    let first = c.part-z.ensures h (λ j k. ap (λ n. slice_index_or c.args.tables.now n []) (zero-add j) ∙ holds j (omega arith)) in
    let second = c.part.ensures (raised 64 h) (λ j k. holds (16 + j) (omega arith) ∙ ap table_of (ap (λ n. raised n h) (place j) ∙ raised-add 64 (4 * j) h)) in
    second ∙ ap₂ (λ (z low : ℕ). bit_xor z (times 64 low (raised 64 h))) first (and_mask c.args.x 64) ∙ two_halves c.args.x h
