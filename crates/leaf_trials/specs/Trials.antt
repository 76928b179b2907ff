-- Calls and an operation that were made up: their rows, and the trees of their leaves.
use Rattle.std.specs.Prelude.{ℕ, nat_lt, Some, None, [], ◌∷◌}
use Rattle.td_words.specs.declared.names.Mode.TheVariants.{Exclusive}
use Rattle.td_words.specs.declared.refusals.Status.TheVariants.{OperandInvalid}
use Rattle.td_words.specs.declared.replies.Reply.TheVariants.{Done}
use Rattle.td_words.specs.declared.replies.Value.TheVariants as value
use Rattle.td_words.specs.Place as place
use Rattle.flat_core.specs.World.{Made}
use Rattle.flat_core.specs.Processor.{OfPage, Entering, LoadNote}
use Rattle.flat_core.specs.Row.{Row, OperationRow, Try, needs, call_row}
use Rattle.flat_core.specs.Effects.{add_bundle}
use Rattle.flat_core.specs.Translations.{drop_td}
use Rattle.leaf_engine.specs.declared.needs.Place.{Place}
use Rattle.leaf_engine.specs.Trees.{Answer, Tree, Lock, End}
use Rattle.leaf_engine.specs.Trees as tree
use Rattle.leaf_engine.specs.Means.{Task, OfCall, OfOperation, MeansRow}

-- a call that enters a virtual processor of a TD under P of its page alone, and drops the TD's translations
abbrev pub asked_for : (tdr vp most : ℕ) → Entering
asked_for t v most = record { tdr = t; vp = v; most = most }

abbrev pub entering_row : Place → (tdr vp most : ℕ) → Row
entering_row p t v most = record {
  items = λ w. needs (nat_lt v p.machine.pages) (OperandInvalid 2) ∷ Try (OfPage v) Exclusive ∷ [];
  act = λ w. w;
  cached = λ w. drop_td t;
  enters = Some (asked_for t v most);
  value = λ w. value.Nothing;
}

abbrev pub entering_answer : (tdr vp most : ℕ) → Answer
entering_answer t v most = record { reply = Done value.Nothing; cached = drop_td t; enters = Some (asked_for t v most); notes = []; tells = []; bundles = [] }

abbrev pub entering_tree : Place → (tdr vp most : ℕ) → Tree
entering_tree p t v most = tree.needs (nat_lt v p.machine.pages) (OperandInvalid 2) (Lock (OfPage v) (place.Lock v) Exclusive (End (entering_answer t v most) [] []))

abbrev pub entering_task : Place → (tdr vp most : ℕ) → Task
entering_task p t v most = record { place = p; tree = entering_tree p t v most; meaning = OfCall (entering_row p t v most) }

-- a call that makes a bundle
abbrev pub making_row : Made → Row
making_row b = call_row (λ w. []) (add_bundle b) (λ w. value.Nothing)

abbrev pub making_answer : Made → Answer
making_answer b = record { reply = Done value.Nothing; cached = λ ts. ts; enters = None; notes = []; tells = []; bundles = b ∷ [] }

abbrev pub making_task : Place → Made → Task
making_task p b = record { place = p; tree = End (making_answer b) [] []; meaning = OfCall (making_row b) }

-- an operation that notes a word that was read at a GPA, and tells it
abbrev pub telling_row : (line gpa word : ℕ) → OperationRow
telling_row line gpa x = record { items = λ w. []; act = λ w. w; answer = λ w. None; notes = λ w. LoadNote line gpa x ∷ []; tells = λ w. x ∷ [] }

abbrev pub telling_answer : (line gpa word : ℕ) → Answer
telling_answer line gpa x = record { reply = Done (value.Number x); cached = λ ts. ts; enters = None; notes = LoadNote line gpa x ∷ []; tells = x ∷ []; bundles = [] }

abbrev pub telling_task : Place → (tdr vp line gpa word : ℕ) → Task
telling_task p t v line gpa x = record { place = p; tree = End (telling_answer line gpa x) [] []; meaning = OfOperation t v (telling_row line gpa x) }

-- they mean their rows
abbrev pub EnteringMeans : Type 0
EnteringMeans = (p : Place) (tdr vp most : ℕ) → MeansRow (entering_task p tdr vp most)

abbrev pub MakingMeans : Type 0
MakingMeans = (p : Place) (b : Made) → MeansRow (making_task p b)

abbrev pub TellingMeans : Type 0
TellingMeans = (p : Place) (tdr vp line gpa word : ℕ) → MeansRow (telling_task p tdr vp line gpa word)
