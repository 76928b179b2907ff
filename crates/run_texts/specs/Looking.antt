-- What looks on while a script's processors make their turns.
use Rattle.std.specs.Prelude.{◌≡◌, ℕ, ◌+◌, ◌<◌, ◌≤◌, ◌==◌, Bool, true, false, not, if◌then◌else◌, List, [], ◌∷◌, length, Option, Some, None}
use Rattle.flat_core.specs.Opening.{Opening}
use Rattle.flat_core.specs.Event.{State, start, event, next_event, lines_left}
use Rattle.flat_core.specs.Event as flat
use Rattle.flat_core.specs.Run.{play, to_the_end}
use Rattle.step_core.specs.Items.{Table, PlaysTo}
use Rattle.atomic_table.specs.Seated.{TableId}
use Rattle.trace_table.specs.Benches.{bench_of, BenchDid}
use Rattle.trace_table.specs.declared.benches.SharedBench.{SharedBench}
use Rattle.leaf_engine.specs.declared.events.Event.{Event}
use Rattle.leaf_engine.specs.declared.processors.Turn.{Turn}
use Rattle.leaf_engine.specs.declared.processors.Turn.TheVariants as turn
use Rattle.leaf_engine.specs.Processors.{Turned, has_moved}
use Rattle.leaf_engine.specs.OwnLists.{Piece, taken_in, WordLp}
use Rattle.leaf_engine.specs.Merges.{Item, order, AreLeaves, AreCodes}
use Rattle.merge_laws.specs.Merge.{Merge}
use Rattle.leaf_table.specs.Given.{Given, given_of}
use Rattle.leaf_table.specs.Table.{code_in, leaf_table}
use Rattle.leaf_dispatch.specs.Bounds.{events_left}
use Rattle.leaf_dispatch.specs.Shown.{TurnsAs}
use Rattle.leaf_dispatch.specs.States.{seen_of, Moves}
use Rattle.leaf_dispatch.specs.declared.states.LpState.{LpState}
use Rattle.script_text.specs.Seen.{ScriptSeen}
use Rattle.run_texts.specs.Openings.{opening_of}
use Rattle.run_texts.specs.Replaying.{IsAtBench, StandsAt, HaveEnded}
use Rattle.run_texts.specs.declared.turns.Ran.{Ran}

-- a turn on the bench of a table
abbrev pub TurnsTo : LpState → SharedBench → LpState → SharedBench → Turn → Type 0
TurnsTo l b l' b' r = Turned Moves (λ z. events_left (code_in z.codes.now) (seen_of z)) (λ xs c. BenchDid b xs c) l b' l' r × (has_moved r ≡ not (length l.lines.now == 0))

-- The turn of processor p from one state over words to another is its next event from this state of the flat machine's run: a
-- merge has led there, and goes on by the turn.
pub record IsNext (o : Opening) (s : State) (p : ℕ) (l : LpState) (e : Event) (l' : LpState) : Type 0 where
  pub made : List Item
  pub is : s ≡ play o (order made) (start o None)
  pub now : ℕ → WordLp
  pub before : Table
  pub merge : Merge o (leaf_table o.machine (given_of o) o.codes) made now before
  pub few : length o.calls ≤ 8
  pub leaves : AreLeaves o (leaf_table o.machine (given_of o) o.codes)
  pub limits : AreCodes o
  pub inside : p < length o.calls
  pub here : now p ≡ seen_of l
  pub codes : code_in l.codes.now ≡ o.codes
  pub pieces : List Piece
  pub turned : TurnsAs (leaf_table o.machine (given_of o) o.codes p) o.machine (now p) e pieces (seen_of l')
  pub after : Table
  pub did : PlaysTo before (taken_in pieces) after
  pub some : (f : flat.Event) × (next_event o s p ≡ Some f)

-- What came of processor p's turn before an onlooker: an event, after which what it seeks of a run is what it sought before that
-- event; none, since no line was left, and it seeks the same; or the onlooker has stopped, and nothing was done.
abbrev pub Looked : {W : Type 0} → (seeks : W → Opening → List ℕ → State → List ℕ → Type 0) → (stops : W → Type 0) → (p : ℕ) → W → LpState → SharedBench → W → LpState → SharedBench → Option Bool → Type 0
Looked seeks stops p w l b w' l' b' (Some true) =
    (e : Event) × TurnsTo l b l' b' (turn.Moved e)
    × ((o : Opening) (schedule : List ℕ) (s : State) (items : List ℕ) → IsNext o s p l e l' → seeks w o schedule s (p ∷ items) → seeks w' o schedule (event o s p) items)
Looked seeks stops p w l b w' l' b' (Some false) =
    TurnsTo l b l' b' turn.Ended × ((o : Opening) (schedule : List ℕ) (s : State) (items : List ℕ) → seeks w o schedule s items → seeks w' o schedule s items)
Looked seeks stops p w l b w' l' b' None =
    stops w' × (l' ≡ l) × (b' ≡ b) × ((o : Opening) (schedule : List ℕ) (s : State) (items : List ℕ) → seeks w o schedule s items → seeks w' o schedule s items)

-- Items that make no event change nothing of what is sought: one of a processor that has ended, and one more of a processor before
-- which all have ended, where the run goes on to its end.
pub record GoesOn (o : Opening) (sought : State → List ℕ → Type 0) : Type 0 where
  pub idle : (s : State) (p : ℕ) (items : List ℕ) → lines_left o p (s.lps p) ≡ [] → sought s (p ∷ items) → sought s items
  pub one_more : (events : List ℕ) (p : ℕ) → p < length o.calls → let s = play o events (start o None) in
      ((q : ℕ) → q < p → lines_left o q (s.lps q) ≡ []) → sought s (to_the_end 0 o.calls) → sought s (p ∷ to_the_end 0 o.calls)

-- whatever the onlooker has seen
abbrev pub SeeksOn : {W : Type 0} → (W → Opening → List ℕ → State → List ℕ → Type 0) → Opening → (schedule : List ℕ) → Type 0
SeeksOn {W} seeks o schedule = (w : W) → GoesOn o (seeks w o schedule)

-- an onlooker's processors at their bench, under the schedule of a script
abbrev pub IsLeft : {W : Type 0} → (W → Opening → List ℕ → State → List ℕ → Type 0) → Given → ScriptSeen → (left : List ℕ) → W → List LpState → TableId → SharedBench → Type 0
IsLeft seeks given script left w lps id b = IsAtBench (opening_of given script) left (seeks w (opening_of given script) script.schedule) lps id (bench_of b)

-- Of processors of which the first n have ended, how many from the first one on have, after processor p's turn. One whose turn made no
-- event has ended.
abbrev pub ended_behind : (n p : ℕ) (moved : Bool) → ℕ
ended_behind n p true = n
ended_behind n p false = if p == n then n + 1 else n

-- All went on, up to the ends of the first n processors, and no item is left; or the onlooker has stopped, with some items left.
abbrev pub Goes : (stopped : Type 0) → (n : ℕ) → List LpState → (at : List ℕ → Type 0) → Bool → Type 0
Goes stopped n lps at true = HaveEnded n lps × at []
Goes stopped n lps at false = stopped × ((left : List ℕ) × at left)

abbrev pub HasGone : {W : Type 0} → (W → Opening → List ℕ → State → List ℕ → Type 0) → (W → Type 0) → Given → ScriptSeen → (n : ℕ) → W → List LpState → TableId → SharedBench → Bool → Type 0
HasGone seeks stops given script n w lps id b went = Goes (stops w) n lps (λ left. IsLeft seeks given script left w lps id b) went

-- at the end of a run
abbrev pub HasRun : {W : Type 0} → (W → Opening → List ℕ → State → List ℕ → Type 0) → (W → Type 0) → Opening → (schedule : List ℕ) → W → Ran → Type 0
HasRun seeks stops o schedule w r = Goes (stops w) (length r.lps.items) r.lps.items (λ left. StandsAt o left (seeks w o schedule) r.lps.items r.words.words) r.ended
