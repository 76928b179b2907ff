-- What contracts see of the guest that a logical processor is in, and of its next step.
use Rattle.std.specs.Prelude.{◌≡◌, ℕ, ◌<◌, ◌≤◌, Bool, true, if◌then◌else◌, Option, Some, None, option_map, List, [], ◌∷◌, ◌++◌, slice_get, slice_index_or, vec_capacity, get_or, length}
use Rattle.std.specs.List.{All}
use Rattle.std.specs.Global.{Vec}
use Rattle.std.proofs.Props.{props}
use Rattle.report_core.specs.declared.facts.Facts.{Facts}
use Rattle.td_words.specs.declared.replies.Outcome.{Outcome}
use Rattle.td_words.specs.declared.replies.Reply.{Reply}
use Rattle.td_words.specs.declared.replies.Reply.TheVariants.{Done, Refused, Exited}
use Rattle.td_words.specs.declared.replies.Value.TheVariants as value
use Rattle.flat_core.specs.Processor.{Translation, Walk, Note, LoadNote, RtmrNote, ReportNote}
use Rattle.flat_core.specs.Digests.{digest_word, six_words}
use Rattle.report_text.specs.declared.guest.GuestNote.{GuestNote}
use Rattle.report_text.specs.declared.guest.GuestNote.TheVariants as note
use Rattle.leaf_engine.specs.Turns.{Standing}
use Rattle.leaf_engine.specs.Guests.{WordGuest, Step, Operates, Loads, Leaves, due_step, stepped}
use Rattle.leaf_dispatch.specs.Answers.{is_busy}
use Rattle.leaf_dispatch.specs.declared.guests.WalkAt.{WalkAt}
use Rattle.leaf_dispatch.specs.declared.guests.GuestAt.{GuestAt}

abbrev pub walk_seen : WalkAt → Walk
walk_seen w = record { gpa_page = w.gpa_page; level = w.level; page = w.page }

-- with the run of what it does
abbrev pub guest_seen : GuestAt → Option Standing → WordGuest
guest_seen g run = record {
  tdr = g.tdr;
  vp = g.vp;
  root = g.root;
  most = g.most;
  completed = g.completed;
  index = g.index;
  position = g.position;
  walk = option_map walk_seen g.walk;
  leaving = g.leaving;
  run = run;
}

-- its next step, by its own list
abbrev pub unless_left : Option Outcome → Step → Step
unless_left None s = s
unless_left (Some out) s = Leaves out

abbrev pub due_in : List Translation → GuestAt → Option Standing → Step
due_in ts g run = due_step ts (guest_seen g run) (slice_get g.list.now g.position)

abbrev pub next_in : List Translation → GuestAt → Option Standing → Step
next_in ts g run = unless_left g.leaving (due_in ts g run)

-- the level of a walk is one of the four
abbrev pub IsLow : Option WalkAt → Type 0
IsLow None = Unit {0}
IsLow (Some w) = w.level ≤ 3

-- where it isn't left, an operation of its list is due, and may be completed
abbrev pub CanCount : GuestAt → Step → Type 0
CanCount g (Leaves out) = Unit {0}
CanCount g s = (g.completed < g.most) × (g.position < length g.list.now)

-- a reply that isn't a refusal, but for a lock
abbrev pub is_outcome : Reply → Bool
is_outcome (Refused s) = is_busy (Refused s)
is_outcome r = true

-- what the load of an entry answers
abbrev pub IsNumber : Reply → Type 0
IsNumber (Done (value.Number seen)) = Unit {0}
IsNumber _ = ⊥

-- what the step answers by which a guest is left
abbrev pub IsExit : Reply → Type 0
IsExit (Exited out) = Unit {0}
IsExit _ = ⊥

-- the reply that a step may have
abbrev pub IsReplyOf : Step → Reply → Type 0
IsReplyOf (Operates o) r = is_outcome r ≡ true
IsReplyOf (Loads access gpa level page) r = IsNumber r
IsReplyOf (Leaves out) r = IsExit r
IsReplyOf _ r = Unit {0}

-- the guest, unless it was left
abbrev pub unless : Bool → GuestAt → Option GuestAt
unless left g = if left then None else Some g

-- what became of it
abbrev pub IsStepped : GuestAt → Step → Reply → Option GuestAt → Type 0
IsStepped g s r h = (run : Option Standing) → option_map (λ z. guest_seen z None) h ≡ stepped s r (guest_seen g run)

-- the facts that stand at a place of those that a processor keeps
abbrev pub no_facts : Facts
no_facts = record { mrtd = []; rtmr0 = []; rtmr1 = []; rtmr2 = []; rtmr3 = []; given = [] }

abbrev pub facts_at : List Facts → (place : ℕ) → Facts
facts_at reports place = slice_index_or reports place no_facts

-- what its guests noted, and the words that they told
abbrev pub note_seen : List Facts → GuestNote → Note
note_seen reports (note.Load line gpa word) = LoadNote line gpa word
note_seen reports (note.Rtmr line index digest) = RtmrNote line index (six_words (digest_word digest))
note_seen reports (note.Report line place) = ReportNote line (facts_at reports place)

-- a report's facts are among so many that are kept
abbrev pub IsPlaced : ℕ → GuestNote → Type 0
IsPlaced n (note.Report line place) = place < n
IsPlaced n _ = Unit {0}

abbrev pub notes_in : List Facts → Option GuestNote → List Note
notes_in reports None = []
notes_in reports (Some n) = note_seen reports n ∷ []

-- the facts of a turn, in a list
abbrev pub facts_in : Option Facts → List Facts
facts_in None = []
facts_in (Some f) = f ∷ []

-- what is kept of them before and after such a turn
pub record HasReported (before : Vec Facts) (f : Option Facts) (after : Vec Facts) : Type 0 where
  pub kept : after.items ≡ before.items ++ facts_in f
  pub room : vec_capacity before ≤ vec_capacity after

abbrev pub words_in : Option ℕ → List ℕ
words_in None = []
words_in (Some x) = x ∷ []

-- the guest after a turn of its step: as it was, or what its reply makes of it
abbrev pub IsNextGuest : GuestAt → Step → Option Reply → Option GuestAt → Type 0
IsNextGuest g s None h = h ≡ Some g
IsNextGuest g s (Some r) h = IsStepped g s r h

-- that all are has one proof
IsPlaced-prop : (n : ℕ) (x : GuestNote) → IsProp (IsPlaced n x)
IsPlaced-prop n (note.Load line gpa word) = hlevel
IsPlaced-prop n (note.Rtmr line index digest) = hlevel
IsPlaced-prop n (note.Report line place) = hlevel props

pub ArePlaced-prop : (n : ℕ) (notes : List GuestNote) → IsProp (All (IsPlaced n) notes)
ArePlaced-prop n notes = hlevel (λ (k : ℕ) (d : GuestNote) (l : k < length notes). IsPlaced-prop n (get_or notes k d))
