-- What contracts see of a logical processor that is paused, and what it goes on with: the same script, and bundles that keep each
-- earlier one.
use Rattle.std.specs.Prelude.{◌≡◌, ℕ, ◌+◌, ◌<◌, ◌≤◌, ◌^◌, Bool, true, is_some, is_none, List, [], ◌∷◌, Option, Some, None, map, length, slice_get, vec_capacity}
use Rattle.std.specs.Global.{Vec}
use Rattle.report_core.specs.declared.facts.Facts.{Facts}
use Rattle.report_text.specs.declared.guest.GuestNote.{GuestNote}
use Rattle.td_words.specs.Seen.{CodeSeen}
use Rattle.td_words.specs.declared.machines.Machine.{Machine}
use Rattle.td_words.specs.declared.calls.Call.{Call}
use Rattle.td_words.specs.declared.calls.GuestOp.{GuestOp}
use Rattle.td_words.specs.declared.replies.Reply.{Reply}
use Rattle.flat_core.specs.Opening.{Incoming}
use Rattle.flat_core.specs.Processor.{Translation}
use Rattle.bundles.specs.Stores.{Stored}
use Rattle.leaf_engine.specs.Turns.{Standing}
use Rattle.leaf_engine.specs.Guests.{WordGuest, Step, due_step}
use Rattle.leaf_engine.specs.OwnLists.{WordLp}
use Rattle.host_turns.specs.HostTurns.{standing_of as host_standing, IsIn}
use Rattle.host_turns.specs.declared.runs.HostRun.{HostRun}
use Rattle.leaf_table.specs.Given.{Given}
use Rattle.leaf_table.specs.Leaves.{seen_with}
use Rattle.leaf_table.specs.Origins.{slot_in, bundle_for}
use Rattle.leaf_table.specs.Ends.{Ends, call_ends, step_tries, step_ends}
use Rattle.leaf_table.specs.Table.{code_in}
use Rattle.leaf_dispatch.specs.Running.{IsGoing, IsAnswered}
use Rattle.leaf_dispatch.specs.Pausing.{stands_with}
use Rattle.leaf_dispatch.specs.ShortRuns.{IsShortOf}
use Rattle.leaf_dispatch.specs.StepRuns.{step_run_seen, IsStepRunOf}
use Rattle.leaf_dispatch.specs.Guests.{note_seen, guest_seen, unless_left, IsLow}
use Rattle.leaf_dispatch.specs.Inside.{guest_in}
use Rattle.leaf_dispatch.specs.NoteRooms.{longest_in, room_of, most_reports, reports_of}
use Rattle.leaf_dispatch.specs.BundleRooms.{count_of, words_of, still_make}
use Rattle.leaf_dispatch.specs.declared.guests.GuestAt.{GuestAt}
use Rattle.leaf_dispatch.specs.declared.running.Running.{Running}
use Rattle.leaf_dispatch.specs.declared.call_runs.CallRun.{CallRun}
use Rattle.leaf_dispatch.specs.declared.step_runs.StepRun.{StepRun}
use Rattle.leaf_dispatch.specs.declared.paused.PausedLp.{PausedLp}

-- the bundle that a call under way takes, of those that are given
abbrev pub bundle_of : Given → Option Running → Option Incoming
bundle_of g None = None
bundle_of g (Some r) = bundle_for g r.run.leaf

-- how far the run of the call is, with this bundle
abbrev pub other_with : Option Incoming → Option Running → Option Standing
other_with b None = None
other_with b (Some r) = Some (stands_with b r)

abbrev pub host_or : Option HostRun → Option Standing → Option Standing
host_or None other = other
host_or (Some h) other = Some (host_standing h)

abbrev pub call_run_with : Option Incoming → CallRun → Option Standing
call_run_with b k = host_or k.host (other_with b k.other)

-- where it is in these lines and in its guest
abbrev pub paused_as : Option Incoming → PausedLp → List Call → WordLp
paused_as b p lines = record {
  lines = lines;
  run = call_run_with b p.run;
  guest = guest_in p.guest p.step_run;
  replies = p.replies.items;
  beside = record { cached = p.cached; notes = map (note_seen p.reports.items) p.notes.items; told = p.told.items; bundles = p.bundles.made };
}

abbrev pub paused_seen : PausedLp → List Call → Given → WordLp
paused_seen p lines g = paused_as (bundle_of g p.run.other) p lines

-- the run of the first of these lines is under way with this bundle, if there is a run
abbrev pub IsOtherWith : Option Incoming → Machine → Ends → Option Running → Type 0
IsOtherWith b m e None = Unit {0}
IsOtherWith b m e (Some r) = IsGoing m e (seen_with b r.run.leaf) (stands_with b r)

abbrev pub IsRunWith : Option Incoming → Machine → Ends → Option HostRun → Option Running → Type 0
IsRunWith b m e None other = IsOtherWith b m e other
IsRunWith b m e (Some h) other = (is_none other ≡ true) × IsShortOf host_standing IsIn m e h

abbrev pub IsLineWith : Option Incoming → Machine → List Call → CallRun → Type 0
IsLineWith b m [] k = Unit {0}
IsLineWith b m (c ∷ cs) k = IsRunWith b m (call_ends m c) k.host k.other

-- the guest goes on by the list of its virtual processor
abbrev pub next_on : List Translation → GuestAt → List GuestOp → Step
next_on ts g ops = unless_left g.leaving (due_step ts (guest_seen g None) (slice_get ops g.position))

pub record IsGuestOn (m : Machine) (codes : List CodeSeen) (ts : List Translation) (line : ℕ) (g : GuestAt) (step : StepRun) : Type 0 where
  pub tdr : g.tdr < m.pages
  pub vp : g.vp < m.pages
  pub low : IsLow g.walk
  pub ahead : g.completed ≤ g.position
  pub under_way : IsStepRunOf m (step_ends g.tdr line (next_on ts g (code_in codes g.tdr g.index))) step
  pub alone : step_tries (next_on ts g (code_in codes g.tdr g.index)) ≡ 0 → is_none (step_run_seen step) ≡ true

abbrev pub KeepsGuestOn : Machine → List CodeSeen → List Translation → (line : ℕ) → Option GuestAt → Option Running → StepRun → Type 0
KeepsGuestOn m codes ts line None run step = is_none (step_run_seen step) ≡ true
KeepsGuestOn m codes ts line (Some g) None step = ⊥
KeepsGuestOn m codes ts line (Some g) (Some r) step = IsAnswered (Some r) × IsGuestOn m codes ts line g step

-- there is room for what these lines and lists can come to
pub record HasRooms (codes : List CodeSeen) (lines : List Call) (run : Option Standing) (guest : Option WordGuest) (replies : Vec Reply) (notes : Vec GuestNote) (reports : Vec Facts) (told : Vec ℕ) (bundles : Stored) : Type 0 where
  pub few : length replies.items + length lines < 2 ^ 32
  pub room : length replies.items + length lines ≤ vec_capacity replies
  pub note_room : length notes.items + room_of (longest_in codes) lines run guest ≤ vec_capacity notes
  pub word_room : length told.items + room_of (longest_in codes) lines run guest ≤ vec_capacity told
  pub fact_room : length reports.items + reports_of (most_reports codes) (code_in codes) lines run guest ≤ vec_capacity reports
  pub few_facts : length reports.items + reports_of (most_reports codes) (code_in codes) lines run guest < 2 ^ 32
  pub bundle_room : still_make count_of lines run ≤ bundles.room
  pub payload_room : still_make words_of lines run ≤ bundles.word_room

-- where its call takes a bundle, this is one
abbrev pub HasIts : Option Incoming → Option Running → Type 0
HasIts b None = Unit {0}
HasIts b (Some r) = is_some b ≡ is_some (slot_in r.run.leaf)

-- it can go on with these lists and lines, and this bundle
pub record CanResumeWith (b : Option Incoming) (p : PausedLp) (codes : List CodeSeen) (lines : List Call) : Type 0 where
  pub under_way : IsLineWith b p.place.machine lines p.run
  pub inside : KeepsGuestOn p.place.machine codes p.cached (length p.replies.items + 1) p.guest p.run.other p.step_run
  pub rooms : HasRooms codes lines (call_run_with b p.run) (guest_in p.guest p.step_run) p.replies p.notes p.reports p.told p.bundles
  pub has : HasIts b p.run.other

abbrev pub CanResume : PausedLp → List CodeSeen → List Call → Given → Type 0
CanResume p codes lines g = CanResumeWith (bundle_of g p.run.other) p codes lines

-- the later bundles keep each earlier one
abbrev pub KeepsBundles : (earlier later : Given) → Type 0
KeepsBundles g h = (slot : ℕ) → is_some (g.bundles slot) ≡ true → h.bundles slot ≡ g.bundles slot

-- So a processor that can go on can do so with whatever bundles have come in besides, and then stands where it stood.
abbrev pub PausedStay : Type 0
PausedStay = (p : PausedLp) (codes : List CodeSeen) (lines : List Call) (g h : Given) → KeepsBundles g h → CanResume p codes lines g
    → CanResume p codes lines h × (paused_seen p lines h ≡ paused_seen p lines g)
