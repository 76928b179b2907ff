use Rattle.std.proofs.Common.{◌≡◌, ℕ, ◌+◌, ◌*◌, ◌∙◌, refl, ap, arith}
use Rattle.aes_block.specs.Aes.{cipher}
use Rattle.gcm_seal.specs.Gcm.{counter_block}
use Rattle.gcm_seal.proofs.Mixing.{all_mixed}
use Rattle.gcm_seal.proofs.streams.mix.Goals as goal

pub loop-turn-init : goal.loop-turn-init
loop-turn-init c k holds = (refl, (λ j h _. absurd (omega arith)), λ j h. refl)

pub loop-turn-preserved : goal.loop-turn-preserved
loop-turn-preserved c k holds =
    let place : (i : ℕ) → 8 * c.loop-turn.turn + 2 + i ≡ 8 * c.loop-turn.turn + i + 2 = λ i. omega arith in
    c.mix_eight.ensures k c.args.iv.now c.args.text.now
    (λ i below. c.stream-pad.ensures k holds i below ∙ ap (λ n. cipher k (counter_block c.args.iv.now n)) (place i))
    (c.loop-turn.invariant k holds)

pub returns : goal.returns
returns c k holds = all_mixed k c.args.iv.now c.args.text.now c.loop-turn.text (8 * c.loop-turn.turn) (omega arith) (c.loop-turn.invariant k holds)
