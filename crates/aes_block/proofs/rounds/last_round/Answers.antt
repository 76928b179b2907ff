use Rattle.std.proofs.Common.{◌∙◌, ℕ, List, ap}
use Rattle.aes_block.specs.Aes.{shift_rows, add_round_key}
use Rattle.aes_block.specs.Planes.{block_at}
use Rattle.aes_block.proofs.Steps.{added}
use Rattle.aes_block.proofs.rounds.last_round.Goals as goal

pub returns : goal.returns
returns c i k =
    added c.shift_rows-r.result c.args.k.now c.add.result i (λ p h. c.add.ensures p i h)
    ∙ ap (λ (x : List ℕ). add_round_key x (block_at c.args.k.now i)) (c.shift_rows-r.ensures i ∙ ap shift_rows (c.sub_planes-s.ensures i k))
