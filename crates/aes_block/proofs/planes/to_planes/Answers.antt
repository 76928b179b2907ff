use Rattle.std.proofs.Common.{◌≡◌, ℕ, ◌<◌, ◌∙◌, [], slice_index, slice_index_or}
use Rattle.aes_block.specs.declared.planes.Planes.{Planes}
use Rattle.aes_block.proofs.Sixteen.{below_eight, sixteen_same}
use Rattle.aes_block.proofs.Steps.{plane, planes_of}
use Rattle.aes_block.proofs.planes.to_planes.Goals as goal

pub returns : goal.returns
returns c i k =
    let q : Planes = record { p0 = c.as_bytes-p0.result; p1 = c.as_bytes-p1.result; p2 = c.as_bytes-p2.result; p3 = c.as_bytes-p3.result; p4 = c.as_bytes-p4.result; p5 = c.as_bytes-p5.result; p6 = c.as_bytes-p6.result; p7 = c.as_bytes-p7.result } in
    let fit : (i : ℕ) → i < 8 → (p : ℕ) → p < 16 → slice_index (slice_index_or c.args.blocks i []) p < 256 =
    below_eight (λ i. (p : ℕ) → p < 16 → slice_index (slice_index_or c.args.blocks i []) p < 256)
    c.as_bytes-p0.ensures.fit c.as_bytes-p1.ensures.fit c.as_bytes-p2.ensures.fit c.as_bytes-p3.ensures.fit c.as_bytes-p4.ensures.fit c.as_bytes-p5.ensures.fit c.as_bytes-p6.ensures.fit c.as_bytes-p7.ensures.fit in
    let same : (i : ℕ) → i < 8 → (p : ℕ) → p < 16 → slice_index (plane q i) p ≡ slice_index (slice_index_or c.args.blocks i []) p =
    below_eight (λ i. (p : ℕ) → p < 16 → slice_index (plane q i) p ≡ slice_index (slice_index_or c.args.blocks i []) p)
    c.as_bytes-p0.ensures.same c.as_bytes-p1.ensures.same c.as_bytes-p2.ensures.same c.as_bytes-p3.ensures.same c.as_bytes-p4.ensures.same c.as_bytes-p5.ensures.same c.as_bytes-p6.ensures.same c.as_bytes-p7.ensures.same in
    planes_of c.transpose.result q i k c.transpose.ensures (λ p h. rw (same i k p h) (fit i k p h))
    ∙ sixteen_same (λ p. slice_index (plane q i) p) (λ p. slice_index (slice_index_or c.args.blocks i []) p) (same i k)
