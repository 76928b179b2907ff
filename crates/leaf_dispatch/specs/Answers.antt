-- What a run keeps on its way, by what its leaf comes to, and what its act makes of its processor.
use Rattle.std.specs.Prelude.{◌≡◌, ℕ, ◌-◌, ◌≤◌, Bool, true, false, ◌||◌, Option, Some, None, List, [], ◌∷◌, length}
use Rattle.report_core.specs.declared.facts.Facts.{Facts}
use Rattle.td_words.specs.declared.refusals.Status.TheVariants.{OperandBusy}
use Rattle.td_words.specs.declared.replies.Reply.{Reply}
use Rattle.td_words.specs.declared.replies.Reply.TheVariants.{Refused}
use Rattle.flat_core.specs.World.{Made}
use Rattle.flat_core.specs.Processor.{Translation, Note}
use Rattle.leaf_engine.specs.declared.events.HeldLock.{HeldLock}
use Rattle.leaf_engine.specs.declared.events.Stage.{Stage}
use Rattle.leaf_engine.specs.declared.events.Stage.TheVariants as stage
use Rattle.leaf_engine.specs.Trees.{Answer, added}
use Rattle.leaf_engine.specs.Besides.{Beside}
use Rattle.leaf_engine.specs.Turns.{Standing}
use Rattle.leaf_engine.specs.Guests.{WordGuest, is_epoch_name, guest_entered, or_else}
use Rattle.leaf_table.specs.Ends.{Ends, with_report, EndsAs, BeginsUnderOther}

-- it holds no more locks than its leaf tries; and on its way the rest of its tree is so
abbrev pub FewTries : Ends → Standing → Type 0
FewTries e s = (length s.held ≤ e.tries) × (s.stage ≡ stage.Trying → EndsAs e (e.tries - length s.held) s.rest)

-- once it is answered its reply is one of these, or it says which lock was denied
abbrev pub is_busy : Reply → Bool
is_busy (Refused (OperandBusy n)) = true
is_busy _ = false

abbrev pub FitsStage : Ends → Stage → Type 0
FitsStage e (stage.Answered r) = (e.fits r || is_busy r) ≡ true
FitsStage e _ = Unit {0}

-- The oldest lock that a run holds isn't an E.
abbrev pub OldestIsOther : List HeldLock → Standing → Type 0
OldestIsOther [] s = s.stage ≡ stage.Trying → BeginsUnderOther s.rest
OldestIsOther (h ∷ hs) s = is_epoch_name h.name ≡ false

-- the guest that it enters
abbrev pub guest_by : (Reply → Answer) → Option Reply → Option WordGuest → Option WordGuest
guest_by answer None g = g
guest_by answer (Some r) g = or_else (guest_entered (answer r)) g

-- its answer by its reply, with the facts that it reported
abbrev pub answer_with : Ends → Option Facts → Reply → Answer
answer_with e f r = with_report e.reports f (e.answer r)

-- what it makes of its processor, part by part, and with the bundles that the turn made
abbrev pub cached_by : (Reply → Answer) → Option Reply → List Translation → List Translation
cached_by answer None ts = ts
cached_by answer (Some r) ts = (answer r).cached ts

abbrev pub notes_by : (Reply → Answer) → Option Reply → List Note
notes_by answer None = []
notes_by answer (Some r) = (answer r).notes

abbrev pub tells_by : (Reply → Answer) → Option Reply → List ℕ
tells_by answer None = []
tells_by answer (Some r) = (answer r).tells

abbrev pub beside_by : (Reply → Answer) → List Made → Option Reply → Beside → Beside
beside_by answer made act b = record {
  cached = cached_by answer act b.cached;
  notes = added b.notes (notes_by answer act);
  told = added b.told (tells_by answer act);
  bundles = added b.bundles made;
}
