use Rattle.std.proofs.Common.{ℕ, ◌*◌, List}
use Rattle.aes_block.specs.Planes.{HasKey}
use Rattle.gcm_seal.specs.Tables.{IsMixedTo}
use Rattle.gcm_seal.proofs.streams.mix.Given as goal

abbrev pub invariant-loop-turn : goal.invariant-loop-turn
invariant-loop-turn l = (k : List ℕ) → HasKey l.key k → IsMixedTo k l.iv l.fn.text l.text (8 * l.turn)
