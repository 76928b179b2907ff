-- A guest that a logical processor is in, over words: what it does next, and what becomes of it.
use Rattle.std.specs.Prelude.{ℕ, zero, suc, ◌+◌, ◌/◌, ◌%◌, ◌==◌, Bool, true, false, if◌then◌else◌, nat_le, List, [], ◌∷◌, Option, Some, None, slice_get}
use Rattle.td_words.specs.declared.names.Access.{Access}
use Rattle.td_words.specs.declared.names.Access.TheVariants.{Read, Write}
use Rattle.td_words.specs.declared.names.LockName.{LockName}
use Rattle.td_words.specs.declared.names.LockName.TheVariants as name
use Rattle.td_words.specs.declared.calls.GuestOp.{GuestOp}
use Rattle.td_words.specs.declared.calls.GuestOp.TheVariants as op
use Rattle.td_words.specs.declared.refusals.Status.TheVariants.{OperandBusy}
use Rattle.td_words.specs.declared.replies.Outcome.{Outcome}
use Rattle.td_words.specs.declared.replies.Outcome.TheVariants.{Stop, Max, EptViolation, Busy, Vmcall}
use Rattle.td_words.specs.declared.replies.Value.TheVariants as value
use Rattle.td_words.specs.declared.replies.Reply.{Reply}
use Rattle.td_words.specs.declared.replies.Reply.TheVariants.{Done, Refused, Exited}
use Rattle.flat_core.specs.Processor.{Translation, Walk, Entering}
use Rattle.flat_core.specs.Tree.{page_of_gpa}
use Rattle.flat_core.specs.Translations.{look_up}
use Rattle.flat_core.specs.Guest.{is_private, walk_level}
use Rattle.leaf_engine.specs.declared.events.HeldLock.{HeldLock}
use Rattle.leaf_engine.specs.declared.events.Event.{Event}
use Rattle.leaf_engine.specs.declared.events.Event.TheVariants as event
use Rattle.leaf_engine.specs.Trees.{Answer, Tree, answer_of}
use Rattle.leaf_engine.specs.Turns.{Standing}

-- The virtual processor that runs on a logical processor: its TD, the root of the TD's secure EPT, how many operations it may
-- complete in this entry and has completed, its index, its position in its list, its walk, and why it is to be left; and the
-- run of what it does, once that has begun.
pub record WordGuest : Type 0 where
  pub tdr : ℕ
  pub vp : ℕ
  pub root : ℕ
  pub most : ℕ
  pub completed : ℕ
  pub index : ℕ
  pub position : ℕ
  pub walk : Option Walk
  pub leaving : Option Outcome
  pub run : Option Standing

-- the guest that a leaf enters: VP.ENTER's act tells where the virtual processor stands
abbrev pub entered_at : Option Entering → Reply → Option WordGuest
entered_at (Some e) (Done (value.Entered stale index position root)) = Some (record {
  tdr = e.tdr;
  vp = e.vp;
  root = root;
  most = e.most;
  completed = 0;
  index = index;
  position = position;
  walk = None;
  leaving = None;
  run = None;
})
entered_at _ _ = None

abbrev pub guest_entered : Answer → Option WordGuest
guest_entered a = entered_at a.enters a.reply

-- an act may enter one, and nothing else does
abbrev pub or_else : Option WordGuest → Option WordGuest → Option WordGuest
or_else (Some g) h = Some g
or_else None h = h

abbrev pub guest_after : Event → Tree → Option WordGuest → Option WordGuest
guest_after event.Act t g = or_else (guest_entered (answer_of t)) g
guest_after _ t g = g

-- what a guest does next: an operation that goes by a row; an access to a word of a page through a cached translation; the
-- load of the entry of a level in its walk, from the page where it stands; or it is left
pub data Step : Type 0 where
  Operates : (operation : GuestOp) → Step
  Accesses : (access : Access) (register gpa page : ℕ) → Step
  Loads : (access : Access) (gpa level page : ℕ) → Step
  Leaves : (outcome : Outcome) → Step

-- the page where the entry stands that a walk loads next
abbrev pub walk_page : (root : ℕ) → Option Walk → ℕ
walk_page root None = root
walk_page root (Some k) = k.page

abbrev pub private_step : WordGuest → Access → (register gpa : ℕ) → Option ℕ → Step
private_step g access r gpa None = Loads access gpa (walk_level g.walk) (walk_page g.root g.walk)
private_step g access r gpa (Some page) = Accesses access r gpa page

-- an access to a private GPA goes by a cached translation, or walks until there is one
abbrev pub operation_step : List Translation → WordGuest → GuestOp → Step
operation_step ts g (op.Load r gpa) = if is_private gpa then private_step g Read r gpa (look_up ts g.tdr (page_of_gpa gpa) Read) else Operates (op.Load r gpa)
operation_step ts g (op.Store r gpa) = if is_private gpa then private_step g Write r gpa (look_up ts g.tdr (page_of_gpa gpa) Write) else Operates (op.Store r gpa)
operation_step ts g o = Operates o

-- at the list's end the guest is left, which is tested first; then, after as many operations as were asked for
abbrev pub due_step : List Translation → WordGuest → Option GuestOp → Step
due_step ts g None = Leaves Stop
due_step ts g (Some o) = if nat_le g.most g.completed then Leaves Max else operation_step ts g o

abbrev pub staying_step : (ℕ → ℕ → List GuestOp) → List Translation → WordGuest → Option Outcome → Step
staying_step codes ts g (Some out) = Leaves out
staying_step codes ts g None = due_step ts g (slice_get (codes g.tdr g.index) g.position)

-- by the lists of operations, and the translations that are cached
abbrev pub step_of : (ℕ → ℕ → List GuestOp) → List Translation → WordGuest → Step
step_of codes ts g = staying_step codes ts g g.leaving

-- what a guest makes of a reply, with which its step has ended

-- an operation is completed
abbrev pub passed_on : WordGuest → WordGuest
passed_on g = record g { completed = g.completed + 1; position = g.position + 1; walk = None; run = None }

-- the guest is to be left
abbrev pub leaving_with : Outcome → WordGuest → WordGuest
leaving_with out g = record g { leaving = Some out; walk = None; run = None }

-- a VMCALL is behind its guest, and yet the guest is left
abbrev pub exited_with : Outcome → WordGuest → WordGuest
exited_with (Vmcall x) g = leaving_with (Vmcall x) (record g { position = g.position + 1 })
exited_with out g = leaving_with out g

abbrev pub operated : Reply → WordGuest → WordGuest
operated (Done v) g = passed_on g
operated (Exited out) g = exited_with out g
operated (Refused (OperandBusy n)) g = leaving_with (Busy n) g
operated (Refused s) g = record g { run = None }

-- the load of an entry tells the page that it names, and whether a walk goes on there, may read, and may write
abbrev pub named_page : ℕ → ℕ
named_page rights = rights / 8

abbrev pub is_right : Access → (level rights : ℕ) → Bool
is_right access (suc level) rights = rights / 4 % 2 == 1
is_right Read zero rights = rights / 2 % 2 == 1
is_right Write zero rights = rights % 2 == 1

-- a walk goes on, is done, or is an EPT violation
abbrev pub walked : Access → (gpa level rights : ℕ) → Bool → WordGuest → WordGuest
walked access gpa zero rights true g = record g { walk = None; run = None }
walked access gpa (suc level) rights true g = record g { walk = Some (record { gpa_page = page_of_gpa gpa; level = level; page = named_page rights }); run = None }
walked access gpa level rights false g = leaving_with (EptViolation gpa access) g

abbrev pub loaded : Access → (gpa level : ℕ) → Reply → WordGuest → WordGuest
loaded access gpa level (Done (value.Number rights)) g = walked access gpa level rights (is_right access level rights) g
loaded access gpa level _ g = record g { run = None }

abbrev pub stepped : Step → Reply → WordGuest → Option WordGuest
stepped (Operates o) r g = Some (operated r g)
stepped (Accesses access register gpa page) r g = Some (passed_on g)
stepped (Loads access gpa level page) r g = Some (loaded access gpa level r g)
stepped (Leaves out) r g = None

-- VP.ENTER gives E back before its guest's first operation: it is the newest of its locks
abbrev pub is_epoch_name : LockName → Bool
is_epoch_name name.Epoch = true
is_epoch_name _ = false

abbrev pub gives_epoch_back : List HeldLock → Bool
gives_epoch_back [] = false
gives_epoch_back (h ∷ []) = is_epoch_name h.name
gives_epoch_back (h ∷ k ∷ ks) = gives_epoch_back (k ∷ ks)
