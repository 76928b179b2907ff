-- A row: the ordered list of conditions and lock tries of a call or a guest operation, with its act and its answer.
use Rattle.std.specs.Prelude.{◌≡◌, ℕ, zero, suc, List, [], ◌∷◌, length, Option, None, Bool, true, false}
use Rattle.td_words.specs.declared.names.Mode.{Mode}
use Rattle.td_words.specs.declared.names.Mode.TheVariants.{Shared, Exclusive}
use Rattle.td_words.specs.declared.names.LockName.{LockName}
use Rattle.td_words.specs.declared.refusals.Status.{Status}
use Rattle.td_words.specs.declared.replies.Value.{Value}
use Rattle.td_words.specs.declared.replies.Outcome.{Outcome}
use Rattle.td_words.specs.declared.replies.Reply.{Reply}
use Rattle.td_words.specs.declared.replies.Reply.TheVariants.{Refused}
use Rattle.flat_core.specs.World.{World}
use Rattle.flat_core.specs.Processor.{LockId, name_of, Held, Phase, Trying, Undoing, Answered, Progress, Translation, Entering, Note}

-- a condition, with what is answered where it fails, or the try of a lock
pub data Item (R : Type 0) : Type 0 where
  Check : (holds : Bool) (otherwise : R) → Item R
  Try : (lock : LockId) (mode : Mode) → Item R

-- a call's conditions and tries on the world as it is, what its act changes of the world and of the translations
-- cached by its processor, the guest that it enters, and what it answers. Where it enters a guest, that is told to its
-- processor alone, and the line is answered at the exit
pub record Row : Type 0 where
  pub items : World → List (Item Reply)
  pub act : World → World
  pub cached : World → List Translation → List Translation
  pub enters : Option Entering
  pub value : World → Value

-- of a guest operation: what it answers is why the guest is left, if it is; and the words that it tells, as they are told
pub record OperationRow : Type 0 where
  pub items : World → List (Item (Option Outcome))
  pub act : World → World
  pub answer : World → Option Outcome
  pub notes : World → List Note
  pub tells : World → List ℕ

-- what a call or an operation does next
pub data Move (R : Type 0) : Type 0 where
  Attempts : (lock : LockId) (mode : Mode) → Move R
  Undoes : (lock : LockId) → Move R
  Refuses : (answer : R) → Move R
  Succeeds : Move R
  Releases : (held : Held) → Move R
  Rests : Move R

-- The row is gone through in order, and tries that were granted are passed over.
abbrev pub next : {R : Type 0} → List (Item R) → ℕ → Move R
next [] granted = Succeeds
next (Check true r ∷ items) granted = next items granted
next (Check false r ∷ items) granted = Refuses r
next (Try l m ∷ items) zero = Attempts l m
next (Try l m ∷ items) (suc granted) = next items granted

-- A denied shared try is undone, and then the locks held are released, the newest first.
abbrev pub next_in : {R : Type 0} → List (Item R) → Phase R → List Held → Move R
next_in items Trying hs = next items (length hs)
next_in items (Undoing l) hs = Undoes l
next_in items (Answered r) [] = Rests
next_in items (Answered r) (h ∷ hs) = Releases h

-- after a try: granted, or denied. Of a shared try that is denied the undo is still due
abbrev pub after_try : {R : Type 0} → (LockName → R) → LockId → Mode → Bool → Progress R → Progress R
after_try busy l m true p = record { phase = Trying; held = record { lock = l; mode = m } ∷ p.held }
after_try busy l Shared false p = record { phase = Undoing l; held = p.held }
after_try busy l Exclusive false p = record { phase = Answered (busy (name_of l)); held = p.held }

abbrev pub but_newest : List Held → List Held
but_newest [] = []
but_newest (h ∷ hs) = hs

-- after a move, where `busy` is the answer after a denied try, and `done` the one after the act
abbrev pub after_move : {R : Type 0} → (LockName → R) → Bool → R → Move R → Progress R → Progress R
after_move busy granted done (Attempts l m) p = after_try busy l m granted p
after_move busy granted done (Undoes l) p = record { phase = Answered (busy (name_of l)); held = p.held }
after_move busy granted done (Refuses r) p = record { phase = Answered r; held = p.held }
after_move busy granted done Succeeds p = record { phase = Answered done; held = p.held }
after_move busy granted done (Releases h) p = record { phase = p.phase; held = but_newest p.held }
after_move busy granted done Rests p = p

-- each condition holds
abbrev pub Passes : {R : Type 0} → List (Item R) → Type 0
Passes [] = Unit {0}
Passes (Check b r ∷ items) = (b ≡ true) × Passes items
Passes (Try l m ∷ items) = Passes items

-- how many tries a row has
abbrev pub tries_in : {R : Type 0} → List (Item R) → ℕ
tries_in [] = 0
tries_in (Check b r ∷ items) = tries_in items
tries_in (Try l m ∷ items) = suc (tries_in items)

-- words that rows are written in

abbrev pub needs : Bool → Status → Item Reply
needs b s = Check b (Refused s)

-- a call that enters no guest and leaves the cached translations as they are
abbrev pub call_row : (World → List (Item Reply)) → (World → World) → (World → Value) → Row
call_row conditions change answered = record { items = conditions; act = change; cached = λ w ts. ts; enters = None; value = answered }
