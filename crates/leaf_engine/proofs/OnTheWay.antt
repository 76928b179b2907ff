-- The premise of a call's run is met in every state that a run reaches.
use Rattle.std.proofs.Common.{◌≡◌, ℕ, ◌<◌, List, [], ◌∷◌, None, refl, sym, subst}
use Rattle.td_words.specs.declared.machines.Machine.{Machine}
use Rattle.flat_core.specs.Opening.{Opening}
use Rattle.flat_core.specs.Lawful.{Lawful}
use Rattle.flat_core.specs.Event.{State, start, event}
use Rattle.flat_core.specs.Run.{play}
use Rattle.flat_core.specs.Laws.{EveryWorldIsLawful, LocksExclude, NoWordsToTell}
use Rattle.flat_core.proofs.Induction.{counts_stay}
use Rattle.lock_words.specs.LockWords.{RunsFollow}
use Rattle.leaf_engine.specs.Facts.{FactsStand}
use Rattle.leaf_engine.specs.Reached.{ReachedIsMet}

-- there are no words to tell, as at the start
pub none-to-tell : NoWordsToTell → (o : Opening) (schedule : List ℕ) (s : State) → s.world.outgoing.to_tell ≡ None → (play o schedule s).world.outgoing.to_tell ≡ None
none-to-tell none o [] s h = h
none-to-tell none o (p ∷ ps) s h = none-to-tell none o ps (event o s p) (none o s p h)

pub record Laws : Type 0 where
  pub lawful : EveryWorldIsLawful
  pub exclude : LocksExclude
  pub tell : NoWordsToTell
  pub runs : RunsFollow
  pub facts : FactsStand

pub reached-is-met : Laws → ReachedIsMet
reached-is-met ls o schedule task mem t run m lp eight shows memory empty = record {
  processor = subst (λ (n : ℕ). task.place.lp < n) (sym (counts_stay o schedule (start o None))) lp;
  lawful = subst (λ (x : Machine). Lawful x (play o schedule (start o None)).world) m (ls.lawful o None schedule);
  shown = shows;
  memory = memory;
  exclusive = λ l. ls.exclude o None schedule l;
  few_sharers = λ l. ls.runs.few o None schedule l eight;
  nothing_to_tell = none-to-tell ls.tell o schedule (start o None) refl;
  facts = ls.facts o schedule;
  empty_hand = empty;
}
