-- A logical processor beside the flat machine: over words that show a state, its turn is its next event there.
use Rattle.std.specs.Prelude.{◌≡◌, ℕ, ◌<◌, ◌≤◌, ◌==◌, not, Some, None, List, length}
use Rattle.td_words.specs.Limits.{IsMachine}
use Rattle.flat_core.specs.World.{Made}
use Rattle.flat_core.specs.Opening.{Opening}
use Rattle.flat_core.specs.Event.{State, Event, start, calls_of, next_event, event}
use Rattle.flat_core.specs.Laws.{reached}
use Rattle.step_core.specs.Items.{Table, PlaysTo}
use Rattle.leaf_engine.specs.declared.events.Event.{Event as RunEvent}
use Rattle.leaf_engine.specs.declared.processors.Turn.{Turn}
use Rattle.leaf_engine.specs.declared.processors.Turn.TheVariants as turn
use Rattle.leaf_engine.specs.Trees.{added}
use Rattle.leaf_engine.specs.OwnLists.{first_lp}
use Rattle.leaf_engine.specs.Processors.{Turned, has_moved}
use Rattle.leaf_engine.specs.Merges.{no_table, AreCodes}
use Rattle.leaf_engine.specs.Following.{StandsOn, IsRunning}
use Rattle.leaf_dispatch.specs.Bounds.{events_left}
use Rattle.leaf_table.specs.Given.{given_in, IsGiven}
use Rattle.leaf_table.specs.Table.{code_in, place_table}
use Rattle.leaf_dispatch.specs.Shown.{shown}
use Rattle.leaf_dispatch.specs.States.{seen_of, Moves}
use Rattle.leaf_dispatch.specs.declared.states.LpState.{LpState}

-- this is processor p of a script's machine, with its secret words, the bundles that have come in and the script's lists
pub record IsProcessor (o : Opening) (p : ℕ) (l : LpState) : Type 0 where
  pub place : l.place ≡ record { machine = o.machine; lp = p }
  pub inside : p < length o.calls
  pub given : IsGiven o (given_in l.given)
  pub codes : (t i : ℕ) → code_in l.codes.now t i ≡ o.codes t i

-- it stands where a state has it
abbrev pub LpStands : Opening → State → Table → ℕ → LpState → Type 0
LpStands o s t p l = StandsOn o (place_table l.place (given_in l.given) (code_in l.codes.now)) p s t (seen_of l)

-- a turn was its next event, is told as that is shown, and then the words show the state after it; the bundles made so far are
-- those before and the turn's
pub record WasNext (o : Opening) (s : State) (u : Table) (p : ℕ) (before after : LpState) (told : RunEvent) : Type 0 where
  pub event_is : Event
  pub next : next_event o s p ≡ Some event_is
  pub told_is : told ≡ shown s p event_is
  pub stands : LpStands o (event o s p) u p after
  pub more : List Made
  pub bundles : (event o s p).world.outgoing.bundles ≡ added s.world.outgoing.bundles more
  pub own_bundles : (seen_of after).beside.bundles ≡ added (seen_of before).beside.bundles more

-- or none is left
abbrev pub IsNext : Opening → State → Table → ℕ → (before after : LpState) → Turn → Type 0
IsNext o s u p l l' (turn.Moved e) = WasNext o s u p l l' e
IsNext o s u p l l' turn.Ended = (next_event o s p ≡ None) × LpStands o s u p l'

-- A processor at the first of its calls stands where the start of a run has it. From then on, in each state of a run, with the
-- bundles that have come in by then, the turn of a processor that stands where that state has it is its next event, after which it
-- stands where the state after that event has it; and it has ended exactly where no line is left. So it is in each state that a
-- schedule of at most eight processors leads to from one opening.
pub record LpStatesFollow : Type 0 where
  pub starts : (o : Opening) (p : ℕ) (l : LpState) → seen_of l ≡ first_lp (calls_of o.calls p) → LpStands o (start o None) no_table p l
  pub follow : (o : Opening) (s : State) (p : ℕ) (l l' : LpState) (t u : Table) (r : Turn) → IsMachine o.machine → AreCodes o → IsRunning o s → IsProcessor o p l
      → LpStands o s t p l → Turned Moves (λ z. events_left (code_in z.codes.now) (seen_of z)) (PlaysTo t) l u l' r → has_moved r ≡ not (length l.lines.now == 0) → IsNext o s u p l l' r
  pub runs : (o : Opening) (schedule : List ℕ) (p : ℕ) (l l' : LpState) (t u : Table) (r : Turn) → IsMachine o.machine → length o.calls ≤ 8 → AreCodes o → IsProcessor o p l
      → let s = reached o None schedule in LpStands o s t p l → Turned Moves (λ z. events_left (code_in z.codes.now) (seen_of z)) (PlaysTo t) l u l' r → has_moved r ≡ not (length l.lines.now == 0)
      → IsNext o s u p l l' r
