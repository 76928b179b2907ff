use Rattle.std.proofs.Common.{◌∷◌, [], ap}
use Rattle.aes_block.specs.declared.planes.Planes.{Planes}
use Rattle.aes_block.specs.Planes.{byte8, byte_at, shifted}
use Rattle.aes_block.proofs.Sixteen.{sixteen_same}
use Rattle.aes_block.proofs.rounds.shift_rows.Goals as goal

pub returns : goal.returns
returns c i =
    let out : Planes = record { p0 = c.shift_lanes-p0.result; p1 = c.shift_lanes-p1.result; p2 = c.shift_lanes-p2.result; p3 = c.shift_lanes-p3.result; p4 = c.shift_lanes-p4.result; p5 = c.shift_lanes-p5.result; p6 = c.shift_lanes-p6.result; p7 = c.shift_lanes-p7.result } in
    sixteen_same (λ p. byte_at out p i) (λ p. byte_at c.args.q (shifted p) i)
    (λ p h. ap byte8 (λ j. c.shift_lanes-p0.ensures p i h j ∷ c.shift_lanes-p1.ensures p i h j ∷ c.shift_lanes-p2.ensures p i h j ∷ c.shift_lanes-p3.ensures p i h j ∷ c.shift_lanes-p4.ensures p i h j ∷ c.shift_lanes-p5.ensures p i h j ∷ c.shift_lanes-p6.ensures p i h j ∷ c.shift_lanes-p7.ensures p i h j ∷ []))
