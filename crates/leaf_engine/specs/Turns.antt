-- What a turn of a leaf does: the word steps up to its next event.
use Rattle.std.specs.Prelude.{◌≡◌, ℕ, ◌+◌, ◌<◌, ◌≤◌, ◌^◌, Bool, true, false, Option, Some, None, List, [], ◌∷◌, ◌++◌, length}
use Rattle.td_words.specs.declared.names.LockName.{LockName}
use Rattle.td_words.specs.declared.names.Mode.{Mode}
use Rattle.td_words.specs.declared.names.Mode.TheVariants.{Shared, Exclusive}
use Rattle.td_words.specs.declared.refusals.Status.TheVariants.{OperandBusy}
use Rattle.td_words.specs.declared.replies.Reply.{Reply}
use Rattle.td_words.specs.declared.replies.Reply.TheVariants.{Refused}
use Rattle.step_core.specs.declared.steps.WordStep.{WordStep}
use Rattle.step_core.specs.declared.steps.WordStep.TheVariants as step
use Rattle.step_core.specs.declared.locks.Tried.{Tried}
use Rattle.step_core.specs.declared.locks.Tried.TheVariants.{Granted, Denied}
use Rattle.step_core.specs.Locks.{shared_outcome, exclusive_outcome, weight_of}
use Rattle.step_core.specs.Words.{word_count}
use Rattle.td_words.specs.declared.machines.Machine.{Machine}
use Rattle.mrtd_measure.specs.declared.measures.Measure.{Measure}
use Rattle.step_core.specs.declared.items.Taken.{Taken}
use Rattle.step_core.specs.declared.items.Taken.TheVariants.{Stepped}
use Rattle.leaf_engine.specs.declared.needs.Need.{Need}
use Rattle.leaf_engine.specs.declared.needs.Need.TheVariants as need
use Rattle.leaf_engine.specs.declared.needs.Write.{Write}
use Rattle.leaf_engine.specs.declared.events.Event.{Event}
use Rattle.leaf_engine.specs.declared.events.Event.TheVariants as event
use Rattle.leaf_engine.specs.declared.events.RunTurn.{RunTurn}
use Rattle.leaf_engine.specs.declared.events.HeldLock.{HeldLock}
use Rattle.leaf_engine.specs.declared.events.Stage.{Stage}
use Rattle.leaf_engine.specs.declared.events.Stage.TheVariants as stage
use Rattle.leaf_engine.specs.declared.asking.Choice.{Choice}
use Rattle.leaf_engine.specs.declared.asking.Choice.TheVariants as choice
use Rattle.leaf_engine.specs.Changes.{Change}
use Rattle.leaf_engine.specs.Trees.{Tree, settle, passed, changes_of}
use Rattle.leaf_engine.specs.Decides.{Wants}
use Rattle.leaf_engine.specs.Items.{IsLoaded, IsWritten, AreChanged}

abbrev pub need_of : Choice → Need
need_of (choice.Lock name at mode) = need.Lock name at mode
need_of (choice.Verdict reply) = need.Verdict reply

-- the loads of a tree were made up to this need, and this is left of it
abbrev pub Asked : {B : Type 0} → (List Taken → B → Type 0) → ℕ → Tree → B → Tree → Choice → Type 0
Asked did n before bench after c =
    (xs : List Taken) × ((t : Tree) × did xs bench × IsLoaded n before xs t × Wants n (settle t) (need_of c) × (after ≡ passed (settle t)))

-- a write was made
abbrev pub Made : {B : Type 0} → (List Taken → B → Type 0) → Write → Option Measure → B → Option Measure → Type 0
Made did w h bench h' = (xs : List Taken) × did xs bench × IsWritten w h xs h'

-- changes were made in order
abbrev pub Changed : {B : Type 0} → (List Taken → B → Type 0) → Machine → List Change → Option Measure → B → Option Measure → Type 0
Changed did m cs h bench h' = (xs : List Taken) × did xs bench × AreChanged m cs h xs h'

-- how far a run is: what is left of its leaf's tree, its stage, the locks that it holds, the oldest first, and the hasher in
-- hand
pub record Standing : Type 0 where
  pub rest : Tree
  pub stage : Stage
  pub held : List HeldLock
  pub hasher : Option Measure

abbrev pub standing : Tree → Stage → List HeldLock → Option Measure → Standing
standing t stage held hasher = record { rest = t; stage = stage; held = held; hasher = hasher }

-- nothing is left to do
abbrev pub has_ended : Stage → List HeldLock → Bool
has_ended (stage.Answered reply) [] = true
has_ended (stage.Answered reply) (h ∷ hs) = false
has_ended stage.Trying hs = false
has_ended (stage.Undoing name at) hs = false

-- the answer of a call that is over
abbrev pub last_reply : Stage → List HeldLock → Option Reply
last_reply (stage.Answered reply) [] = Some reply
last_reply (stage.Answered reply) (h ∷ hs) = None
last_reply stage.Trying hs = None
last_reply (stage.Undoing name at) hs = None

abbrev pub busy : LockName → Stage
busy name = stage.Answered (Refused (OperandBusy name))

-- the one step of a try, and whether the word that it saw grants it
abbrev pub try_step : ℕ → Mode → WordStep
try_step at Shared = step.Add at 1
try_step at Exclusive = step.Exchange at 0 (2 ^ 63)

abbrev pub is_granted : Tried → Bool
is_granted Granted = true
is_granted (Denied seen) = false

abbrev pub grants : Mode → ℕ → Bool
grants Shared seen = is_granted (shared_outcome seen)
grants Exclusive seen = is_granted (exclusive_outcome seen)

-- one try on a bench
abbrev pub TriedOnce : {B : Type 0} → (List Taken → B → Type 0) → ℕ → Mode → B → Bool → Type 0
TriedOnce did at mode bench granted = (seen : ℕ) × did (Stepped (try_step at mode) seen ∷ []) bench × (granted ≡ grants mode seen)

-- after a denied try: of a shared one the undo is still due
abbrev pub denied : LockName → ℕ → Mode → Stage
denied name at Shared = stage.Undoing name at
denied name at Exclusive = busy name

-- after a try: its lock is held, or it was denied
abbrev pub tried : Standing → Tree → LockName → ℕ → Mode → Bool → Standing
tried s t name at mode true = record s { rest = t; held = s.held ++ record { name = name; at = at; mode = mode } ∷ [] }
tried s t name at mode false = record s { rest = t; stage = denied name at mode }

-- the turn of a leaf that came to a lock: its loads, and the step of the try
pub record Tries (s : Standing) (t : Tree) (loads xs : List Taken) (name : LockName) (at : ℕ) (mode : Mode) (s' : Standing) (e : Event) : Type 0 where
  pub seen : ℕ
  pub items : xs ≡ loads ++ Stepped (try_step at mode) seen ∷ []
  pub event : e ≡ event.Try name mode (grants mode seen)
  pub after : s' ≡ tried s t name at mode (grants mode seen)

-- the turn of a leaf that came to its reply: its loads, and its changes
pub record Replies (m : Machine) (s : Standing) (t : Tree) (loads xs : List Taken) (reply : Reply) (s' : Standing) (e : Event) : Type 0 where
  pub hasher : Option Measure
  pub changes : List Taken
  pub items : xs ≡ loads ++ changes
  pub changed : AreChanged m (changes_of t) s.hasher changes hasher
  pub event : e ≡ event.Act
  pub after : s' ≡ standing t (stage.Answered reply) s.held hasher

abbrev pub Comes : Machine → Standing → Tree → List Taken → List Taken → Need → Standing → Event → Type 0
Comes m s t loads xs (need.Lock name at mode) s' e = Tries s t loads xs name at mode s' e
Comes m s t loads xs (need.Load at) s' e = ⊥
Comes m s t loads xs (need.Verdict reply) s' e = Replies m s t loads xs reply s' e

-- the turn of a leaf on its way
pub record Advances (m : Machine) (s : Standing) (xs : List Taken) (s' : Standing) (e : Event) : Type 0 where
  pub loads : List Taken
  pub tree : Tree
  pub need : Need
  pub loaded : IsLoaded m.pages s.rest loads tree
  pub gives : Wants m.pages (settle tree) need
  pub comes : Comes m s (passed (settle tree)) loads xs need s' e

abbrev pub Went : {B : Type 0} → (List Taken → B → Type 0) → Machine → Standing → B → Standing → Event → Type 0
Went did m s bench s' e = (xs : List Taken) × did xs bench × Advances m s xs s' e

-- one step, whatever it answered
abbrev pub IsStep : WordStep → List Taken → Type 0
IsStep s xs = (answer : ℕ) × (xs ≡ Stepped s answer ∷ [])

-- the turn that takes back a denied try
pub record TakesBack (s : Standing) (name : LockName) (at : ℕ) (xs : List Taken) (s' : Standing) (e : Event) : Type 0 where
  pub items : IsStep (step.Sub at 1) xs
  pub event : e ≡ event.Undo name
  pub after : s' ≡ record s { stage = busy name }

-- the newest lock was given back
pub record GivesBack (held : List HeldLock) (xs : List Taken) (older : List HeldLock) (e : Event) : Type 0 where
  pub newest : HeldLock
  pub held_are : held ≡ older ++ newest ∷ []
  pub items : IsStep (step.Sub newest.at (weight_of newest.mode)) xs
  pub event : e ≡ event.Free newest.name

abbrev pub GaveBack : {B : Type 0} → (List Taken → B → Type 0) → List HeldLock → B → List HeldLock → Event → Type 0
GaveBack did held bench older e = (xs : List Taken) × did xs bench × GivesBack held xs older e

-- A turn makes these items, by the stage of its run (Base Architecture, "Concurrency Restrictions and Enforcement").
abbrev pub TurnBy : Stage → Machine → Standing → List Taken → Standing → Event → Type 0
TurnBy stage.Trying m s xs s' e = Advances m s xs s' e
TurnBy (stage.Undoing name at) m s xs s' e = TakesBack s name at xs s' e
TurnBy (stage.Answered reply) m s xs s' e = GivesBack s.held xs s'.held e × (s' ≡ record s { held = s'.held })

-- and answers the reply at its last event
pub record IsTurn (m : Machine) (s : Standing) (xs : List Taken) (s' : Standing) (result : RunTurn) : Type 0 where
  pub turn : TurnBy s.stage m s xs s' result.event
  pub reply : result.reply ≡ last_reply s'.stage s'.held

-- the same on a bench
abbrev pub Turned : {B : Type 0} → (List Taken → B → Type 0) → Machine → Standing → B → Standing → RunTurn → Type 0
Turned did m s bench s' result = (xs : List Taken) × did xs bench × IsTurn m s xs s' result

-- the locks held, and one that is to be undone, stand in the machine
abbrev pub AreIn : Machine → List HeldLock → Type 0
AreIn m [] = Unit {0}
AreIn m (h ∷ hs) = (h.at < word_count m) × AreIn m hs

-- a leaf on its way has handed out nothing
abbrev pub IsStageIn : Machine → ℕ → Stage → Type 0
IsStageIn m written stage.Trying = written ≡ 0
IsStageIn m written (stage.Undoing name at) = at < word_count m
IsStageIn m written (stage.Answered reply) = Unit {0}

-- a run that can go on: there is room for as many locks as its leaf can still try
pub record CanRun (m : Machine) (s : Standing) (tries written : ℕ) (waits : Bool) : Type 0 where
  pub held_in : AreIn m s.held
  pub stage_in : IsStageIn m written s.stage
  pub room : length s.held + tries ≤ 32
  pub ready : waits ≡ false

-- a leaf that has done nothing yet
pub record IsFresh (t rest : Tree) (tries written : ℕ) (waits : Bool) : Type 0 where
  pub whole : rest ≡ settle t
  pub few : tries ≤ 32
  pub unwritten : written ≡ 0
  pub ready : waits ≡ false
