use Rattle.std.proofs.Common.{◌∙◌, ◌∷◌, [], ap}
use Rattle.aes_block.specs.Planes.{byte8, lane_bit}
use Rattle.aes_block.proofs.Bits.{lane_bit-lt}
use Rattle.aes_block.proofs.Bytes.{byte8-xor}
use Rattle.aes_block.proofs.rounds.add.Goals as goal

pub returns : goal.returns
returns c p i h =
    ap byte8 (λ j. c.xor-p0.ensures p i h j ∷ c.xor-p1.ensures p i h j ∷ c.xor-p2.ensures p i h j ∷ c.xor-p3.ensures p i h j ∷ c.xor-p4.ensures p i h j ∷ c.xor-p5.ensures p i h j ∷ c.xor-p6.ensures p i h j ∷ c.xor-p7.ensures p i h j ∷ [])
    ∙ byte8-xor (lane_bit c.args.q.p0 p i) (lane_bit c.args.q.p1 p i) (lane_bit c.args.q.p2 p i) (lane_bit c.args.q.p3 p i) (lane_bit c.args.q.p4 p i) (lane_bit c.args.q.p5 p i) (lane_bit c.args.q.p6 p i) (lane_bit c.args.q.p7 p i)
    (lane_bit c.args.k.now.p0 p i) (lane_bit c.args.k.now.p1 p i) (lane_bit c.args.k.now.p2 p i) (lane_bit c.args.k.now.p3 p i) (lane_bit c.args.k.now.p4 p i) (lane_bit c.args.k.now.p5 p i) (lane_bit c.args.k.now.p6 p i) (lane_bit c.args.k.now.p7 p i)
    (lane_bit-lt c.args.q.p0 p i) (lane_bit-lt c.args.q.p1 p i) (lane_bit-lt c.args.q.p2 p i) (lane_bit-lt c.args.q.p3 p i) (lane_bit-lt c.args.q.p4 p i) (lane_bit-lt c.args.q.p5 p i) (lane_bit-lt c.args.q.p6 p i) (lane_bit-lt c.args.q.p7 p i) (lane_bit-lt c.args.k.now.p0 p i) (lane_bit-lt c.args.k.now.p1 p i) (lane_bit-lt c.args.k.now.p2 p i) (lane_bit-lt c.args.k.now.p3 p i) (lane_bit-lt c.args.k.now.p4 p i) (lane_bit-lt c.args.k.now.p5 p i) (lane_bit-lt c.args.k.now.p6 p i) (lane_bit-lt c.args.k.now.p7 p i)
