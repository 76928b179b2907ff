-- A leaf as a decision over the words that it is told: its tree mirrors its row from the top, one node for each lock, load
-- and condition.
use Rattle.std.specs.Prelude.{ℕ, Bool, true, false, if◌then◌else◌, Option, None, List, [], ◌∷◌, ◌++◌, drop}
use Rattle.td_words.specs.declared.names.Mode.{Mode}
use Rattle.td_words.specs.declared.refusals.Status.{Status}
use Rattle.td_words.specs.declared.replies.Reply.{Reply}
use Rattle.td_words.specs.declared.replies.Value.TheVariants as value
use Rattle.td_words.specs.declared.replies.Reply.TheVariants.{Done, Refused}
use Rattle.td_words.specs.Place.{WordPlace}
use Rattle.flat_core.specs.World.{Made}
use Rattle.flat_core.specs.Processor.{LockId, Translation, Entering, Note}
use Rattle.word_rules.specs.Rules.{View}
use Rattle.word_rules.specs.Views.{look}
use Rattle.leaf_engine.specs.Changes.{Change}

-- what a leaf comes to: its reply, and what becomes of its processor besides: of the translations that it caches, the guest
-- that it enters, what it notes and tells, and the bundles that it makes
pub record Answer : Type 0 where
  pub reply : Reply
  pub cached : List Translation → List Translation
  pub enters : Option Entering
  pub notes : List Note
  pub tells : List ℕ
  pub bundles : List Made

-- a reply, and nothing besides
abbrev pub only : Reply → Answer
only r = record { reply = r; cached = λ ts. ts; enters = None; notes = []; tells = []; bundles = [] }

-- a list once these are put at its end
abbrev pub added : {A : Type 0} → List A → List A → List A
added xs [] = xs
added xs (y ∷ ys) = xs ++ y ∷ ys

-- the try of a lock; a load, of which it depends on a part; a condition, with the reply where it fails; the end, with the
-- answer, the stores before the act, and the act's first store with those after it; and the end of a leaf whose load was the act
pub data Tree : Type 0 where
  Lock : (lock : LockId) (at : WordPlace) (mode : Mode) (further : Tree) → Tree
  Load : (view : View) (at : WordPlace) (further : ℕ → Tree) → Tree
  Test : (holds : Bool) (otherwise : Reply) (further : Tree) → Tree
  End : (answer : Answer) (fills changes : List Change) → Tree
  Since : (answer : Answer) (changes : List Change) → Tree

-- a condition of a call
abbrev pub needs : Bool → Status → Tree → Tree
needs b s t = Test b (Refused s) t

-- an end that changes nothing, and one whose changes are the act and what follows it
abbrev pub answers : Reply → Tree
answers r = End (only r) [] []

abbrev pub acts : Reply → List Change → Tree
acts r cs = End (only r) [] cs

-- an end that answers nothing
abbrev pub done : (fills changes : List Change) → Tree
done fs cs = End (only (Done value.Nothing)) fs cs

-- what is left of a tree after these answers. A lock that was granted counts as an answer, whose word isn't used
abbrev pub feed : Tree → List ℕ → Tree
feed (Lock l q m t) [] = Lock l q m t
feed (Lock l q m t) (x ∷ xs) = feed t xs
feed (Load v q k) [] = Load v q k
feed (Load v q k) (x ∷ xs) = feed (k (look v x)) xs
feed (Test b r t) xs = if b then feed t xs else End (only r) [] []
feed (End a fs cs) xs = End a fs cs
feed (Since a cs) xs = Since a cs

-- its conditions up to its next need are tested
abbrev pub settle : Tree → Tree
settle t = feed t []

-- after one more answer
abbrev pub fed : Tree → ℕ → Tree
fed t x = feed t (x ∷ [])

-- what is left once the need was given: a lock is passed over
abbrev pub passed : Tree → Tree
passed (Lock l q m t) = feed t []
passed t = t

-- what a tree that has ended answers
abbrev pub answer_of : Tree → Answer
answer_of (End a fs cs) = a
answer_of (Since a cs) = a
answer_of _ = only (Done value.Nothing)

-- all that its end changes, in order
abbrev pub changes_of : Tree → List Change
changes_of (End a fs cs) = fs ++ cs
changes_of (Since a cs) = cs
changes_of _ = []

-- those that are still to be handed out
abbrev pub changes_left : Tree → ℕ → List Change
changes_left t written = drop written (changes_of t)

-- it tests conditions alone and ends, and the load before was its act
abbrev pub has_acted : Tree → Bool
has_acted (Test b r t) = if b then has_acted t else true
has_acted (End a [] []) = true
has_acted (Since a cs) = true
has_acted _ = false
