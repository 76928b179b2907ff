use Rattle.std.proofs.Common.{◌≡◌, ℕ, ◌-◌, ◌*◌, ◌/◌, ◌%◌, ◌^◌, ◌∙◌, ap, sym, arith, bit_and, bit_xor, slice_index}
use Rattle.std.proofs.lemmas.Nat.{and_mask}
use lib.Bits.{xor_zero_r}
use Rattle.gcm_seal.specs.Gcm.{times}
use Rattle.gcm_seal.specs.Tables.{raised, table_of}
use Rattle.gcm_seal.proofs.Field.{four_more, times_none, table_at}
use Rattle.gcm_seal.proofs.fields.part.Goals as goal

pub loop-i-init : goal.loop-i-init
loop-i-init c v tables = sym (ap (bit_xor c.args.start) (times_none (c.args.word / 2 ^ 64) v) ∙ xor_zero_r c.args.start)

pub loop-i-preserved : goal.loop-i-preserved
loop-i-preserved c v tables =
    let x : ℕ = c.args.word / 2 ^ (60 - 4 * c.loop-i.i) in
    four_more c.args.word v c.args.start c.loop-i.z _ c.loop-i.i c.loop-i-test.true (c.loop-i.invariant v tables)
    (ap (λ l. slice_index l (bit_and x 15)) (tables c.loop-i.i c.loop-i-test.true)
    ∙ ap (slice_index (table_of (raised (4 * c.loop-i.i) v))) (and_mask x 4)
    ∙ table_at (raised (4 * c.loop-i.i) v) (x % 16) (omega arith))

pub returns : goal.returns
returns c v tables =
    let all : c.loop-i.i ≡ 16 = omega arith in
    let whole : c.args.word / 1 ≡ c.args.word = omega arith in
    c.loop-i.invariant v tables
    ∙ ap (λ i. bit_xor c.args.start (times (4 * i) (c.args.word / 2 ^ (64 - 4 * i)) v)) all
    ∙ ap (λ n. bit_xor c.args.start (times 64 n v)) whole
