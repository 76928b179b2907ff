use Rattle.std.proofs.Common.{◌∙◌, ap₂}
use Rattle.aes_block.specs.Planes.{lows, highs}
use Rattle.aes_block.proofs.planes.transpose.Goals as goal

pub returns : goal.returns
returns c p h =
    let a0 = (c.swap_1.ensures p h).0 in
    let a1 = (c.swap_1.ensures p h).1 in
    let a2 = (c.swap_1-2.ensures p h).0 in
    let a3 = (c.swap_1-2.ensures p h).1 in
    let a4 = (c.swap_1-3.ensures p h).0 in
    let a5 = (c.swap_1-3.ensures p h).1 in
    let a6 = (c.swap_1-4.ensures p h).0 in
    let a7 = (c.swap_1-4.ensures p h).1 in
    let b0 = (c.swap_2.ensures p h).0 ∙ ap₂ (lows 2) a0 a2 in
    let b2 = (c.swap_2.ensures p h).1 ∙ ap₂ (highs 2) a0 a2 in
    let b1 = (c.swap_2-2.ensures p h).0 ∙ ap₂ (lows 2) a1 a3 in
    let b3 = (c.swap_2-2.ensures p h).1 ∙ ap₂ (highs 2) a1 a3 in
    let b4 = (c.swap_2-3.ensures p h).0 ∙ ap₂ (lows 2) a4 a6 in
    let b6 = (c.swap_2-3.ensures p h).1 ∙ ap₂ (highs 2) a4 a6 in
    let b5 = (c.swap_2-4.ensures p h).0 ∙ ap₂ (lows 2) a5 a7 in
    let b7 = (c.swap_2-4.ensures p h).1 ∙ ap₂ (highs 2) a5 a7 in
    let p0 = (c.swap_4.ensures p h).0 ∙ ap₂ (lows 4) b0 b4 in
    let p4 = (c.swap_4.ensures p h).1 ∙ ap₂ (highs 4) b0 b4 in
    let p1 = (c.swap_4-2.ensures p h).0 ∙ ap₂ (lows 4) b1 b5 in
    let p5 = (c.swap_4-2.ensures p h).1 ∙ ap₂ (highs 4) b1 b5 in
    let p2 = (c.swap_4-3.ensures p h).0 ∙ ap₂ (lows 4) b2 b6 in
    let p6 = (c.swap_4-3.ensures p h).1 ∙ ap₂ (highs 4) b2 b6 in
    let p3 = (c.swap_4-4.ensures p h).0 ∙ ap₂ (lows 4) b3 b7 in
    let p7 = (c.swap_4-4.ensures p h).1 ∙ ap₂ (highs 4) b3 b7 in
    (p0, p1, p2, p3, p4, p5, p6, p7)
