use Rattle.std.proofs.Common.{◌≡◌, ℕ, ◌<◌, ◌∙◌, List, [], ◌∷◌, slice_index, slice_index_or}
use Rattle.aes_block.proofs.Sixteen.{below_eight, sixteen_same}
use Rattle.aes_block.proofs.Steps.{plane, blocks_of}
use Rattle.aes_block.proofs.planes.to_blocks.Goals as goal

pub returns : goal.returns
returns c i k =
    let out : List (List ℕ) = c.as_bytes-b0.result ∷ c.as_bytes-b1.result ∷ c.as_bytes-b2.result ∷ c.as_bytes-b3.result ∷ c.as_bytes-b4.result ∷ c.as_bytes-b5.result ∷ c.as_bytes-b6.result ∷ c.as_bytes-b7.result ∷ [] in
    let fit : (i : ℕ) → i < 8 → (p : ℕ) → p < 16 → slice_index (plane c.transpose-t.result i) p < 256 =
    below_eight (λ i. (p : ℕ) → p < 16 → slice_index (plane c.transpose-t.result i) p < 256)
    c.as_bytes-b0.ensures.fit c.as_bytes-b1.ensures.fit c.as_bytes-b2.ensures.fit c.as_bytes-b3.ensures.fit c.as_bytes-b4.ensures.fit c.as_bytes-b5.ensures.fit c.as_bytes-b6.ensures.fit c.as_bytes-b7.ensures.fit in
    let same : (i : ℕ) → i < 8 → (p : ℕ) → p < 16 → slice_index (slice_index_or out i []) p ≡ slice_index (plane c.transpose-t.result i) p =
    below_eight (λ i. (p : ℕ) → p < 16 → slice_index (slice_index_or out i []) p ≡ slice_index (plane c.transpose-t.result i) p)
    c.as_bytes-b0.ensures.same c.as_bytes-b1.ensures.same c.as_bytes-b2.ensures.same c.as_bytes-b3.ensures.same c.as_bytes-b4.ensures.same c.as_bytes-b5.ensures.same c.as_bytes-b6.ensures.same c.as_bytes-b7.ensures.same in
    sixteen_same (λ p. slice_index (slice_index_or out i []) p) (λ p. slice_index (plane c.transpose-t.result i) p) (same i k)
    ∙ blocks_of c.transpose-t.result c.args.q i k c.transpose-t.ensures (fit i k)
