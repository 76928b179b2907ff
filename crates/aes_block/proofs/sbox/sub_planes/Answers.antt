use Rattle.std.proofs.Common.{ℕ, ◌++◌, ◌∙◌, ap, ap₂, List}
use Rattle.std.proofs.lemmas.Nat.Bits.{bit_at-lt}
use Rattle.aes_block.specs.Aes.{sub}
use Rattle.aes_block.specs.Planes.{byte8, byte_at, bits_of}
use Rattle.aes_block.specs.Circuit.{before_inverse, inverse, products, bottom}
use Rattle.aes_block.proofs.Sixteen.{sixteen_same}
use Rattle.aes_block.proofs.Table.{circuit_is}
use Rattle.aes_block.proofs.sbox.sub_planes.Goals as goal

pub returns : goal.returns
returns c i k =
    sixteen_same (λ p. byte8 (bits_of 8 c.bottom.result p i)) (λ p. sub (byte_at c.args.q p i)) (λ p h.
    let y = c.top-y.ensures p i h k in
    let s = c.before_inverse-t.ensures p i h k ∙ ap before_inverse y in
    let t = c.inverse-t.ensures p i h k ∙ ap inverse s in
    let z = c.products-z.ensures p i h k ∙ ap₂ (λ (a b : List ℕ). products (a ++ b)) t y in
    let out = c.bottom.ensures p i h k ∙ ap bottom z in
    ap byte8 out ∙ circuit_is _ _ _ _ _ _ _ _ (bit_at-lt _ _) (bit_at-lt _ _) (bit_at-lt _ _) (bit_at-lt _ _) (bit_at-lt _ _) (bit_at-lt _ _) (bit_at-lt _ _) (bit_at-lt _ _))
