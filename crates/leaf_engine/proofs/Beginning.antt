-- A run begins where its processor does.
use Rattle.std.proofs.Common.{◌≡◌, ℕ, zero, suc, List, [], length, Option, None, refl, ap, sym, subst, arith}
use Rattle.flat_core.specs.Processor.{Held, Progress}
use Rattle.td_words.specs.declared.replies.Reply.{Reply}
use Rattle.leaf_engine.specs.declared.events.Stage.TheVariants as stages
use Rattle.td_words.specs.declared.machines.Machine.{Machine}
use Rattle.mrtd_measure.specs.declared.measures.Measure.{Measure}
use Rattle.flat_core.specs.Locks.{sum_below, sharers, refusals}
use Rattle.flat_core.specs.Lawful.{Lawful}
use Rattle.flat_core.specs.Event.{start}
use Rattle.flat_core.specs.Laws.{EveryWorldIsLawful, LocksExclude}
use Rattle.word_rules.specs.Cells.{Shows, StartIsShown}
use Rattle.leaf_engine.specs.Decides.{IsHand}
use Rattle.leaf_engine.specs.Facts.{FactsBegin}
use Rattle.leaf_engine.specs.Calls.{StartIsMet, no_memory, CallsBegin, IsStage, AreLocks}
use Rattle.leaf_engine.proofs.Showing.{current-end, granted-end, not-acted-end}

pub calls-begin : CallsBegin
calls-begin o task row w words lp line between =
    let none : lp.call.held ≡ [] = ap (λ (c : Progress Reply). c.held) between.call in
    record {
      line = line;
      guest = between.guest;
      stage = subst (λ (c : Progress Reply). IsStage task.place.machine w stages.Trying c.phase) (sym between.call) tt;
      held = subst (λ (hs : List Held). AreLocks task.place.machine w [] hs) (sym none) refl;
      told = λ e. record { told = []; current = current-end words task.tree; waits = not-acted-end task.tree; rest = refl; locks = subst (λ (hs : List Held). Rattle.leaf_engine.specs.Follows.granted task.tree [] [] ≡ hs) (sym none) (granted-end task.tree []) };
    }

none-below : (n : ℕ) → sum_below (λ p. 0) n ≡ 0
none-below zero = refl
none-below (suc n) = rw (none-below n) refl

pub start-is-met : StartIsShown → EveryWorldIsLawful → LocksExclude → FactsBegin → StartIsMet
start-is-met shown lawful locks begin o task run m lp none = record {
  processor = lp;
  lawful = subst (λ (x : Machine). Lawful x (start o None).world) m (lawful o None []);
  shown = subst (λ (x : Machine). Shows x no_memory.words no_memory.slots (start o None)) m (shown o None);
  memory = record { words = λ q a. refl; slots = λ h a. tt; hand = subst (λ (x : Option Measure). IsHand x None) (sym none) tt };
  exclusive = λ l. locks o None [] l;
  few_sharers = λ l. (let a : sharers (start o None).lps (start o None).lp_count l ≡ 0 = none-below (length o.calls) in
      let b : refusals (start o None).lps (start o None).lp_count l ≡ 0 = none-below (length o.calls) in omega (arith, a, b));
  nothing_to_tell = refl;
  facts = begin o;
  empty_hand = λ e. refl;
}
