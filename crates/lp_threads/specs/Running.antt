-- Logical processors at their benches, and what it is to have run to the end.
use Rattle.std.specs.Prelude.{◌≡◌, ℕ, ◌<◌, Bool, true, List, [], ◌∷◌, length, slice_index_or}
use Rattle.td_words.specs.declared.machines.Machine.{Machine}
use Rattle.leaf_engine.specs.declared.events.Event.{Event}
use Rattle.leaf_engine.specs.OwnLists.{Piece, taken_in, joined}
use Rattle.trace_table.specs.Benches.{BenchDid}
use Rattle.lp_threads.specs.declared.lanes.Lane.{Lane}

-- a processor stands at a bench of its own machine
abbrev pub FitsBench : {P : Type 0} → (P → Machine) → Lane P → Type 0
FitsBench machine a = machine a.processor ≡ a.bench.machine

-- turns of a processor, each in pieces, lead from the first state to the second
abbrev pub TurnsLead : {P : Type 0} → (P → Event → List Piece → P → Type 0) → P → List (List Piece) → P → Type 0
TurnsLead moves p [] q = p ≡ q
TurnsLead {P} moves p (ps ∷ pss) q = (e : Event) × ((r : P) × moves p e ps r × TurnsLead moves r pss q)

-- A lane has made turns: its state is where turns of its processor lead, and its bench's own list has just their items more.
-- Nothing else that is seen of the bench changed, nor did the lane's number.
pub record HasTurned {P : Type 0} (moves : P → Event → List Piece → P → Type 0) (a b : Lane P) : Type 0 where
  pub number : b.lp ≡ a.lp
  pub turns : List (List Piece)
  pub lead : TurnsLead moves a.processor turns b.processor
  pub list : BenchDid a.bench (taken_in (joined turns)) b.bench

-- up to the end of its processor
pub record HasRun {P : Type 0} (has_ended : P → Bool) (moves : P → Event → List Piece → P → Type 0) (a b : Lane P) : Type 0 where
  pub ended : has_ended b.processor ≡ true
  pub turned : HasTurned moves a b

-- so has the lane at each place
abbrev pub HaveRun : {P : Type 0} → (P → Bool) → (P → Event → List Piece → P → Type 0) → List (Lane P) → List (Lane P) → Type 0
HaveRun {P} has_ended moves before after = (i : ℕ) (d : Lane P) → i < length before → HasRun has_ended moves (slice_index_or before i d) (slice_index_or after i d)
