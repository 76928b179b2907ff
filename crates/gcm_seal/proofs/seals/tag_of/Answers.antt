use Rattle.std.proofs.Common.{◌≡◌, ℕ, ◌+◌, ◌*◌, ◌^◌, ◌∙◌, length, ap, ap₂, bit_xor, replicate, lit<}
use Rattle.std.specs.Int.{from_be_bytes, to_be_bytes, w128}
use Rattle.aes_block.specs.Aes.{cipher}
use Rattle.gcm_seal.specs.Gcm.{counter_block, absorbed, blocks, mul, tag_bytes}
use Rattle.gcm_seal.specs.Tables.{AreTables}
use Rattle.gcm_seal.proofs.seals.tag_of.Goals as goal

pub returns : goal.returns
unfolding tag_bytes
returns c k holds =
    let h : ℕ = c.from_be_bytes-h.result in
    let eh : h ≡ from_be_bytes w128 (cipher k (replicate 16 0)) =
    c.from_be_bytes-h.ensures ∙ ap (from_be_bytes w128) (c.encrypt_eight.ensures k holds 0 (lit< tt)) in
    let first : c.from_be_bytes.result ≡ from_be_bytes w128 (cipher k (counter_block c.args.iv.now 1)) =
    c.from_be_bytes.ensures ∙ ap (from_be_bytes w128) (c.encrypt_eight.ensures k holds 1 (lit< tt) ∙ ap (cipher k) c.counter_block-first.ensures) in
    let tables : AreTables c.hash_tables-tables.result h 32 = c.hash_tables-tables.ensures in
    let y = c.absorb_all-y-2.ensures h tables ∙ ap (λ (y : ℕ). absorbed h y c.args.text.now (blocks c.args.text.now)) (c.absorb_all-y.ensures h tables) in
    let s = c.product-s.ensures h tables ∙ ap (λ (x : ℕ). mul x h) (ap₂ bit_xor y c.lengths.ensures) in
    c.to_be_bytes.ensures ∙ ap₂ (λ (a b : ℕ). to_be_bytes w128 (bit_xor a b)) s first
    ∙ ap (λ (h : ℕ). to_be_bytes w128 (bit_xor (mul (bit_xor (absorbed h (absorbed h 0 c.args.aad.now (blocks c.args.aad.now)) c.args.text.now (blocks c.args.text.now))
    (length c.args.aad.now * 8 * 2 ^ 64 + length c.args.text.now * 8)) h) (from_be_bytes w128 (cipher k (counter_block c.args.iv.now 1))))) eh
