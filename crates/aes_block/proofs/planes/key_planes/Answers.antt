use Rattle.std.proofs.Common.{◌∙◌, ◌∷◌, [], ap, slice_index}
use Rattle.aes_block.specs.declared.planes.Planes.{Planes}
use Rattle.aes_block.specs.Planes.{byte8, byte_at}
use Rattle.aes_block.proofs.Sixteen.{sixteen_same}
use Rattle.aes_block.proofs.Bytes.{byte8-back}
use Rattle.aes_block.proofs.planes.key_planes.Goals as goal

pub returns : goal.returns
returns c i k =
    let out : Planes = record { p0 = c.key_plane-p0.result; p1 = c.key_plane-p1.result; p2 = c.key_plane-p2.result; p3 = c.key_plane-p3.result; p4 = c.key_plane-p4.result; p5 = c.key_plane-p5.result; p6 = c.key_plane-p6.result; p7 = c.key_plane-p7.result } in
    sixteen_same (λ p. byte_at out p i) (λ p. slice_index c.args.bytes.now p)
    (λ p h. ap byte8 (λ j. c.key_plane-p0.ensures p i h k j ∷ c.key_plane-p1.ensures p i h k j ∷ c.key_plane-p2.ensures p i h k j ∷ c.key_plane-p3.ensures p i h k j ∷ c.key_plane-p4.ensures p i h k j ∷ c.key_plane-p5.ensures p i h k j ∷ c.key_plane-p6.ensures p i h k j ∷ c.key_plane-p7.ensures p i h k j ∷ [])
    ∙ byte8-back (slice_index c.args.bytes.now p) (c.as_bytes.ensures.fit p h))
