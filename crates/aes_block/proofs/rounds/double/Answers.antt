use Rattle.std.proofs.Common.{◌∙◌, ◌∷◌, [], ap}
use Rattle.aes_block.specs.Planes.{byte8, lane_bit}
use Rattle.aes_block.proofs.Bits.{lane_bit-lt}
use Rattle.aes_block.proofs.Bytes.{byte8-xtime}
use Rattle.aes_block.proofs.rounds.double.Goals as goal

pub returns : goal.returns
returns c p i h =
    ap byte8 (λ j. lane_bit c.args.q.p7 p i ∷ c.xor-p1.ensures p i h j ∷ lane_bit c.args.q.p1 p i ∷ c.xor-p3.ensures p i h j ∷ c.xor-p4.ensures p i h j ∷ lane_bit c.args.q.p4 p i ∷ lane_bit c.args.q.p5 p i ∷ lane_bit c.args.q.p6 p i ∷ [])
    ∙ byte8-xtime (lane_bit c.args.q.p0 p i) (lane_bit c.args.q.p1 p i) (lane_bit c.args.q.p2 p i) (lane_bit c.args.q.p3 p i) (lane_bit c.args.q.p4 p i) (lane_bit c.args.q.p5 p i) (lane_bit c.args.q.p6 p i) (lane_bit c.args.q.p7 p i)
    (lane_bit-lt c.args.q.p0 p i) (lane_bit-lt c.args.q.p1 p i) (lane_bit-lt c.args.q.p2 p i) (lane_bit-lt c.args.q.p3 p i) (lane_bit-lt c.args.q.p4 p i) (lane_bit-lt c.args.q.p5 p i) (lane_bit-lt c.args.q.p6 p i) (lane_bit-lt c.args.q.p7 p i)
