-- The own lists of logical processors as one list, and what their calls are made by.
use Rattle.std.specs.Prelude.{◌≡◌, ℕ, ◌<◌, ◌≤◌, ◌^◌, ◌==◌, if◌then◌else◌, None, List, [], ◌∷◌, length}
use Rattle.std.specs.List.{All}
use Rattle.td_words.specs.declared.calls.Call.{Call}
use Rattle.td_words.specs.declared.calls.GuestOp.{GuestOp}
use Rattle.td_words.specs.declared.calls.GuestOp.TheVariants as op
use Rattle.flat_core.specs.Opening.{Opening}
use Rattle.flat_core.specs.Row.{OperationRow}
use Rattle.flat_core.specs.Guest.{ByRow, operation_of}
use Rattle.flat_core.specs.Table.{row_of}
use Rattle.step_core.specs.Items.{Table}
use Rattle.step_core.specs.declared.items.Taken.{Taken}
use Rattle.leaf_engine.specs.Means.{Meaning, OfCall, OfOperation, OfAccess, OfWalk, OfExit, MeansRow}
use Rattle.leaf_engine.specs.Guests.{Step, Operates, Accesses, Loads, Leaves}
use Rattle.leaf_engine.specs.OwnLists.{Piece, Unmarked, Marked, Wordless, LeafTable}

-- a piece of a processor's own list
pub record Item : Type 0 where
  pub lp : ℕ
  pub piece : Piece

-- the pieces that are processor p's, in order
abbrev pub part : ℕ → List Item → List Piece
part p [] = []
part p (i ∷ is) = if i.lp == p then i.piece ∷ part p is else part p is

-- the word steps and swaps, in order
abbrev pub step_before : Piece → List Taken → List Taken
step_before (Unmarked x) xs = x ∷ xs
step_before (Marked x) xs = x ∷ xs
step_before Wordless xs = xs

abbrev pub steps_taken : List Item → List Taken
steps_taken [] = []
steps_taken (i ∷ is) = step_before i.piece (steps_taken is)

-- the processors of the events, in order
abbrev pub event_before : Piece → ℕ → List ℕ → List ℕ
event_before (Unmarked x) p ps = ps
event_before (Marked x) p ps = p ∷ ps
event_before Wordless p ps = p ∷ ps

abbrev pub order : List Item → List ℕ
order [] = []
order (i ∷ is) = event_before i.piece i.lp (order is)

-- one list in which each of the first n own lists stands, each piece once, and nothing else
pub record IsMerge (n : ℕ) (own : ℕ → List Piece) (is : List Item) : Type 0 where
  pub each : (p : ℕ) → p < n → part p is ≡ own p
  pub nothing_else : (p : ℕ) → n ≤ p → part p is ≡ []

-- a machine's words and slots at the start of a run
abbrev pub no_table : Table
no_table = record { words = λ n. 0; slots = λ k. None }

-- the meaning of a guest's step, where an operation goes by that row
abbrev pub ByItsRow : Opening → (tdr vp line : ℕ) → Step → Meaning → Type 0
ByItsRow o t v line (Operates op) k = (row : OperationRow) → operation_of o t v line op ≡ ByRow row → k ≡ OfOperation t v row
ByItsRow o t v line (Accesses access r gpa page) k = k ≡ OfAccess t v line access r gpa page
ByItsRow o t v line (Loads access gpa level page) k = k ≡ OfWalk t v access gpa level page
ByItsRow o t v line (Leaves out) k = k ≡ OfExit t v out

-- an operation's registers, secret word, RTMR and address are within the limits of the grammar
abbrev pub IsOperation : GuestOp → Type 0
IsOperation (op.Set r x) = r < 8
IsOperation (op.Secret r k) = (r < 8) × (k < 512)
IsOperation (op.Add r s) = (r < 8) × (s < 8)
IsOperation (op.Load r gpa) = r < 8
IsOperation (op.Store r gpa) = r < 8
IsOperation (op.Accept gpa) = gpa < 2 ^ 47
IsOperation (op.Rtmr i) = i < 4
IsOperation op.Report = Unit {0}
IsOperation (op.Vmcall r) = r < 8

-- and so are a step's
abbrev pub IsStepOf : Step → Type 0
IsStepOf (Operates op) = IsOperation op
IsStepOf (Accesses access r gpa page) = (r < 8) × (gpa < 2 ^ 47)
IsStepOf (Loads access gpa level page) = (level ≤ 3) × (gpa < 2 ^ 47)
IsStepOf (Leaves out) = Unit {0}

-- what each processor makes its events by: leaves made for it, whose rows are its calls', and which mean these rows; and for
-- each step of a guest one that means it
pub record AreLeaves (o : Opening) (leaf : ℕ → LeafTable) : Type 0 where
  pub machine : (p : ℕ) (c : Call) → ((leaf p).call c).place.machine ≡ o.machine
  pub processor : (p : ℕ) (c : Call) → ((leaf p).call c).place.lp ≡ p
  pub row : (p : ℕ) (c : Call) → ((leaf p).call c).meaning ≡ OfCall (row_of o p c)
  pub means : (p : ℕ) (c : Call) → MeansRow ((leaf p).call c)
  pub step_machine : (p t v line : ℕ) (step : Step) → ((leaf p).step t v line step).place.machine ≡ o.machine
  pub step_processor : (p t v line : ℕ) (step : Step) → ((leaf p).step t v line step).place.lp ≡ p
  pub step_row : (p t v line : ℕ) (step : Step) → ByItsRow o t v line step ((leaf p).step t v line step).meaning
  pub step_means : (p t v line : ℕ) (step : Step) → IsStepOf step → MeansRow ((leaf p).step t v line step)
  pub codes : (p t i : ℕ) → (leaf p).codes t i ≡ o.codes t i

-- A script's lists have at most 256 operations, each within the limits of the grammar.
pub record AreCodes (o : Opening) : Type 0 where
  pub few : (t i : ℕ) → length (o.codes t i) ≤ 256
  pub each : (t i : ℕ) → All IsOperation (o.codes t i)
