-- What each turn of a processor tells, and that the trace of a run is told by them.
use Rattle.std.specs.Prelude.{◌≡◌, ℕ, ◌+◌, ◌<◌, ◌≤◌, List, [], ◌∷◌, length, Some, None}
use Rattle.td_words.specs.declared.replies.Outcome.{Outcome}
use Rattle.flat_core.specs.Opening.{Opening}
use Rattle.flat_core.specs.Event.{State, Event, start, next_event, event}
use Rattle.flat_core.specs.Event as flat
use Rattle.flat_core.specs.Run.{play}
use Rattle.step_core.specs.Items.{Table, PlaysTo}
use Rattle.leaf_engine.specs.declared.events.Event.{Event as RunEvent}
use Rattle.leaf_engine.specs.declared.events.Event.TheVariants as run_event
use Rattle.leaf_engine.specs.Guests.{WordGuest, Leaves, step_of}
use Rattle.leaf_engine.specs.OwnLists.{Piece, taken_in, LeafTable, WordLp, LpTurns}
use Rattle.leaf_engine.specs.Merges.{Item, order, AreLeaves, AreCodes}
use Rattle.leaf_engine.specs.Following.{StandsOn, IsRunning}
use Rattle.merge_laws.specs.Merge.{Merge}
use Rattle.trace_lines.specs.Traces.{what_is, traces_from}
use Rattle.trace_laws.specs.Told.{told, turn_told}

-- an act by which the guest there was left: the count step of that virtual processor
pub record IsExitOf (o : Opening) (at : WordLp) (e : RunEvent) (vp : ℕ) : Type 0 where
  pub guest : WordGuest
  pub is_in : at.guest ≡ Some guest
  pub vp_is : guest.vp ≡ vp
  pub outcome : Outcome
  pub step : step_of o.codes at.beside.cached guest ≡ Leaves outcome
  pub acts : e ≡ run_event.Act

-- a turn of processor p from there, which made this event, was the flat machine's next one, and is told as that was
pub record WasTold (o : Opening) (s : State) (p : ℕ) (at : WordLp) (e : RunEvent) : Type 0 where
  pub event_is : Event
  pub next : next_event o s p ≡ Some event_is
  pub what : what_is s p event_is ≡ told o.codes at e
  pub leaves : (vp : ℕ) (outcome : Outcome) → event_is ≡ flat.Leaves vp outcome → IsExitOf o at e vp

-- So is each turn over words that show a state, whatever bundles have come in. In a run a processor makes its turn at one go
-- where a merge has led to a table. The turn tells the next event of the trace, from the state where the merge leads. Where it
-- has no line left, the trace has no event of it.
pub record TurnsAreTold : Type 0 where
  pub one : (o : Opening) (leaf : ℕ → LeafTable) (p : ℕ) (s : State) (t u : Table) (at after : WordLp) (e : RunEvent) (ps : List Piece)
      → AreLeaves o leaf → AreCodes o → IsRunning o s → p < s.lp_count → StandsOn o (leaf p) p s t at → LpTurns (leaf p) o.machine at e ps after → PlaysTo t (taken_in ps) u → WasTold o s p at e
  pub told : (o : Opening) (leaf : ℕ → LeafTable) (is : List Item) (now : ℕ → WordLp) (u u' : Table) (p : ℕ) (after : WordLp) (e : RunEvent) (ps : List Piece)
      → length o.calls ≤ 8 → AreLeaves o leaf → AreCodes o → Merge o leaf is now u → p < length o.calls → LpTurns (leaf p) o.machine (now p) e ps after → PlaysTo u (taken_in ps) u'
      → (number : ℕ) (further : List ℕ) → let s = play o (order is) (start o None) in
      traces_from o s number (p ∷ further) ≡ turn_told o.codes number p (now p) after e ∷ traces_from o (event o s p) (number + 1) further
  pub ended : (o : Opening) (leaf : ℕ → LeafTable) (is : List Item) (now : ℕ → WordLp) (u : Table) (p : ℕ)
      → length o.calls ≤ 8 → AreLeaves o leaf → AreCodes o → Merge o leaf is now u → p < length o.calls → (now p).lines ≡ []
      → (number : ℕ) (further : List ℕ) → let s = play o (order is) (start o None) in traces_from o s number (p ∷ further) ≡ traces_from o s number further
