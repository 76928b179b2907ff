use Rattle.std.proofs.Common.{◌≡◌, ◌∙◌, ◌<◌, ap, ap₂, arith, bit_xor}
use Rattle.aes_block.specs.Aes.{xtime}
use Rattle.aes_block.specs.Planes.{byte_at, turned}
use Rattle.aes_block.proofs.Steps.{mixed_columns}
use Rattle.aes_block.proofs.rounds.mix_columns.Goals as goal

pub returns : goal.returns
returns c i =
    mixed_columns c.args.q c.add.result i (λ p h.
    let two : turned 2 p < 16 = omega arith in
    let three : turned 1 (turned 2 p) ≡ turned 3 p = omega arith in
    let next = c.turn_columns_1-next.ensures p i h in
    let pair = c.add-pair.ensures p i h ∙ ap (bit_xor (byte_at c.args.q p i)) next in
    let beyond = c.turn_columns_1-next.ensures (turned 2 p) i two ∙ ap (λ m. byte_at c.args.q m i) three in
    let far = c.turn_columns_2-far.ensures p i h ∙ c.add-pair.ensures (turned 2 p) i two ∙ ap (bit_xor (byte_at c.args.q (turned 2 p) i)) beyond in
    let rest = c.add-rest.ensures p i h ∙ ap₂ bit_xor next far in
    c.add.ensures p i h ∙ ap₂ bit_xor (c.double-twice.ensures p i h ∙ ap xtime pair) rest)
