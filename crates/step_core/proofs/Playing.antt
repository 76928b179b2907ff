-- The words after items that were played are those that their steps make.
use Rattle.step_core.specs.Laws.{StepsMakeWords}
use Rattle.std.proofs.Common.{◌≡◌, List, [], ◌∷◌}
use Rattle.step_core.specs.Words.{plays, after_step}
use Rattle.step_core.specs.Items.{Table, PlaysTo, steps_of, with_slot}
use Rattle.step_core.specs.declared.items.Taken.{Taken}
use Rattle.step_core.specs.declared.items.Taken.TheVariants.{Stepped, Swapped, Missed}

pub played_words : (t u : Table) (xs : List Taken) → PlaysTo t xs u → u.words ≡ plays t.words (steps_of xs)
played_words t u [] p = p.0
played_words t u (Stepped s a ∷ xs) p = played_words (record t { words = after_step t.words s }) u xs p.1
played_words t u (Swapped k put taken ∷ xs) p = played_words (record t { slots = with_slot t.slots k put }) u xs p.1
played_words t u (Missed k ∷ xs) p = absurd p

pub made : StepsMakeWords
made = record { words = played_words }
