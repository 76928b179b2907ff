-- The room for the facts of reports: what the steps of a guest can report is among it, and a turn uses it.
use Rattle.std.proofs.Common.{◌≡◌, ◌∙◌, ℕ, zero, suc, ◌+◌, ◌≤◌, Bool, true, false, ◌==◌, ◌&&◌, if◌then◌else◌, drop, List, [], ◌∷◌, Option, Some, None, refl, ap, sym, subst, arith}
use Rattle.std.specs.Prelude.{nat_le, nat_lt, slice_get}
use Rattle.std.proofs.lemmas.Bool.{ltb-false, ltb-true}
use Rattle.td_words.specs.Seen.{CodeSeen}
use Rattle.td_words.specs.declared.names.Access.{Access}
use Rattle.td_words.specs.declared.names.Access.TheVariants.{Read, Write}
use Rattle.td_words.specs.declared.calls.Call.{Call}
use Rattle.td_words.specs.declared.calls.GuestOp.{GuestOp}
use Rattle.td_words.specs.declared.calls.GuestOp.TheVariants as op
use Rattle.td_words.specs.declared.replies.Outcome.{Outcome}
use Rattle.td_words.specs.declared.replies.Outcome.TheVariants.{Max}
use Rattle.flat_core.specs.Processor.{Translation}
use Rattle.flat_core.specs.Tree.{page_of_gpa}
use Rattle.flat_core.specs.Translations.{look_up}
use Rattle.flat_core.specs.Guest.{is_private}
use Rattle.leaf_engine.specs.declared.events.Stage.{Stage}
use Rattle.leaf_engine.specs.declared.events.Stage.TheVariants as stages
use Rattle.leaf_engine.specs.Turns.{Standing}
use Rattle.leaf_engine.specs.Guests.{WordGuest, Operates, Leaves, private_step, operation_step, due_step}
use Rattle.leaf_table.specs.Ends.{step_reports}
use Rattle.leaf_table.specs.Table.{code_in}
use Rattle.leaf_dispatch.specs.Bounds.{unless_leaving}
use Rattle.leaf_dispatch.specs.BundleRooms.{count_of}
use Rattle.leaf_dispatch.specs.Guests.{guest_seen, unless_left, due_in, next_in}
use Rattle.leaf_dispatch.specs.NoteRooms.{lines_reports, stage_room, run_room, stage_made, run_made, is_report, reports_in, most_reports, guest_reports, reports_of}
use Rattle.leaf_dispatch.specs.declared.guests.GuestAt.{GuestAt}

-- no list of a script has more reports than the list that has most
reports-among : (cs : List CodeSeen) (t i : ℕ) → reports_in (code_in cs t i) ≤ most_reports cs
reports-among [] t i = omega arith
reports-among (c ∷ cs) t i = (let rest = reports-among cs t i in by (c.tdr == t && c.index == i) (nat_lt (reports_in c.ops) (most_reports cs)) refl rest)
  where
    by : (b d : Bool) → nat_lt (reports_in c.ops) (most_reports cs) ≡ d → reports_in (code_in cs t i) ≤ most_reports cs
        → reports_in (if b then c.ops else code_in cs t i) ≤ (if d then most_reports cs else reports_in c.ops)
    by true true e rest = (let less = ltb-true (reports_in c.ops) (most_reports cs) e in omega (arith, less))
    by true false e rest = omega arith
    by false true e rest = rest
    by false false e rest = (let more = ltb-false (reports_in c.ops) (most_reports cs) e in omega (arith, more, rest))

reports-behind : (n : ℕ) (os : List GuestOp) → reports_in (drop n os) ≤ reports_in os
reports-behind zero os = omega arith
reports-behind (suc n) [] = omega arith
reports-behind (suc n) (o ∷ os) = (let rest = reports-behind n os in omega (arith, rest))

-- a guest reports no more than that
pub guest-among : (cs : List CodeSeen) (g : WordGuest) → guest_reports (code_in cs) g ≤ most_reports cs
guest-among cs g = by g.leaving
  where
    by : (l : Option Outcome) → unless_leaving l (reports_in (drop (g.position + run_made g.run) (code_in cs g.tdr g.index))) ≤ most_reports cs
    by None =
        let list = reports-among cs g.tdr g.index in
        let behind = reports-behind (g.position + run_made g.run) (code_in cs g.tdr g.index) in
        omega (arith, list, behind)
    by (Some out) = omega arith

-- before a call begins
pub reports-begun : (most : ℕ) (codes : ℕ → ℕ → List GuestOp) (cs : List Call) → reports_of most codes cs None None ≡ lines_reports most cs
reports-begun most codes [] = refl
reports-begun most codes (c ∷ cs) = refl

-- the operation that is due, by a list and a position in it

abbrev due_reports : Option GuestOp → ℕ
due_reports None = 0
due_reports (Some o) = if is_report o then 1 else 0

abbrev pub reports_at : List GuestOp → (position : ℕ) → ℕ
reports_at os n = due_reports (slice_get os n)

reports-from : (n : ℕ) (os : List GuestOp) → reports_in (drop n os) ≡ reports_at os n + reports_in (drop (suc n) os)
reports-from zero [] = refl
reports-from zero (o ∷ os) = refl
reports-from (suc n) [] = refl
reports-from (suc n) (o ∷ os) = reports-from n os

-- its own is among those that are left until its act is done
reports-due : (n k : ℕ) (os : List GuestOp) → k ≡ 0 → reports_in (drop (n + k) os) ≡ reports_at os n + reports_in (drop (suc n) os)
reports-due n k os none = (let here : n + k ≡ n = omega (arith, none) in ap (λ (i : ℕ). reports_in (drop i os)) here ∙ reports-from n os)

pub reports-by-stage : (n : ℕ) (os : List GuestOp) (x : Stage) → reports_in (drop (n + stage_made x) os) ≡ stage_room (reports_at os n) x + reports_in (drop (suc n) os)
reports-by-stage n os (stages.Answered r) =
    let next : n + 1 ≡ suc n = omega arith in
    let same = ap (λ (k : ℕ). reports_in (drop k os)) next in
    omega (arith, same)
reports-by-stage n os stages.Trying = reports-due n 0 os refl
reports-by-stage n os (stages.Undoing name at) = reports-due n 0 os refl

pub reports-by-run : (n : ℕ) (os : List GuestOp) (run : Option Standing) → reports_in (drop (n + run_made run) os) ≡ run_room (reports_at os n) run + reports_in (drop (suc n) os)
reports-by-run n os None = reports-due n 0 os refl
reports-by-run n os (Some s) = reports-by-stage n os s.stage

-- a step reports no more than its operation
step-asks : (line : ℕ) (ts : List Translation) (x : WordGuest) (due : Option GuestOp) → count_of (step_reports line (due_step ts x due)) ≤ due_reports due
step-asks line ts x None = omega arith
step-asks line ts x (Some o) = by (nat_le x.most x.completed)
  where
    accesses : (access : Access) (r gpa : ℕ) (page : Option ℕ) → count_of (step_reports line (private_step x access r gpa page)) ≤ 0
    accesses access r gpa None = omega arith
    accesses access r gpa (Some page) = omega arith

    loads : (r gpa : ℕ) (b : Bool) → count_of (step_reports line (if b then private_step x Read r gpa (look_up ts x.tdr (page_of_gpa gpa) Read) else Operates (op.Load r gpa))) ≤ 0
    loads r gpa true = accesses Read r gpa (look_up ts x.tdr (page_of_gpa gpa) Read)
    loads r gpa false = omega arith

    stores : (r gpa : ℕ) (b : Bool) → count_of (step_reports line (if b then private_step x Write r gpa (look_up ts x.tdr (page_of_gpa gpa) Write) else Operates (op.Store r gpa))) ≤ 0
    stores r gpa true = accesses Write r gpa (look_up ts x.tdr (page_of_gpa gpa) Write)
    stores r gpa false = omega arith

    operates : (o : GuestOp) → count_of (step_reports line (operation_step ts x o)) ≤ due_reports (Some o)
    operates (op.Load r gpa) = loads r gpa (is_private gpa)
    operates (op.Store r gpa) = stores r gpa (is_private gpa)
    operates o = omega arith

    by : (b : Bool) → count_of (step_reports line (if b then Leaves Max else operation_step ts x o)) ≤ due_reports (Some o)
    by true = omega arith
    by false = operates o

pub next-asks : (line : ℕ) (ts : List Translation) (g : GuestAt) (os : List GuestOp) → os ≡ g.list.now → g.leaving ≡ None → count_of (step_reports line (next_in ts g None)) ≤ reports_at os g.position
next-asks line ts g os list stays =
    subst (λ (ops : List GuestOp). count_of (step_reports line (next_in ts g None)) ≤ reports_at ops g.position) (sym list)
    (subst (λ (l : Option Outcome). count_of (step_reports line (unless_left l (due_in ts g None))) ≤ reports_at g.list.now g.position) (sym stays)
    (step-asks line ts (guest_seen g None) (slice_get g.list.now g.position)))

pub no-room : (x : Stage) → stage_room 0 x ≡ 0
no-room (stages.Answered r) = refl
no-room stages.Trying = refl
no-room (stages.Undoing name at) = refl

none-asked : (run : Option Standing) → run_room 0 run ≡ 0
none-asked None = refl
none-asked (Some s) = no-room s.stage

more-room : (n k : ℕ) (run : Option Standing) → n ≤ k → run_room n run ≤ run_room k run
more-room n k None few = few
more-room n k (Some s) few = by s.stage
  where
    by : (x : Stage) → stage_room n x ≤ stage_room k x
    by (stages.Answered r) = omega arith
    by stages.Trying = few
    by (stages.Undoing name at) = few

-- what the guest's next step can still report is among what the guest can
pub step-among : (codes : ℕ → ℕ → List GuestOp) (line : ℕ) (ts : List Translation) (g : GuestAt) (run : Option Standing) → codes g.tdr g.index ≡ g.list.now → run_room (count_of (step_reports line (next_in ts g None))) run ≤ guest_reports codes (guest_seen g run)
step-among codes line ts g run list = by g.leaving refl
  where
    os : List GuestOp
    os = codes g.tdr g.index

    by : (l : Option Outcome) → g.leaving ≡ l → run_room (count_of (step_reports line (next_in ts g None))) run ≤ guest_reports codes (guest_seen g run)
    by None stays =
        let asked = more-room (count_of (step_reports line (next_in ts g None))) (reports_at os g.position) run (next-asks line ts g os list stays) in
        let left = reports-by-run g.position os run in
        let is : guest_reports codes (guest_seen g run) ≡ reports_in (drop (g.position + run_made run) os) = ap (λ (l : Option Outcome). unless_leaving l (reports_in (drop (g.position + run_made run) os))) stays in
        omega (arith, asked, left, is)
    by (Some out) leaves =
        let none : run_room (count_of (step_reports line (next_in ts g None))) run ≡ 0 = ap (λ (l : Option Outcome). run_room (count_of (step_reports line (unless_left l (due_in ts g None)))) run) leaves ∙ none-asked run in
        omega (arith, none)

-- what a step can report uses so much of the room, also where its operation has more
pub uses-more : (made n k : ℕ) (x y : Stage) → n ≤ k → stage_room k y ≤ stage_room k x → made + stage_room n y ≤ stage_room n x → made + stage_room k y ≤ stage_room k x
uses-more made n k (stages.Answered r) (stages.Answered z) few less used = omega (arith, few, less, used)
uses-more made n k (stages.Answered r) stages.Trying few less used = omega (arith, few, less, used)
uses-more made n k (stages.Answered r) (stages.Undoing name at) few less used = omega (arith, few, less, used)
uses-more made n k stages.Trying (stages.Answered z) few less used = omega (arith, few, less, used)
uses-more made n k stages.Trying stages.Trying few less used = omega (arith, few, less, used)
uses-more made n k stages.Trying (stages.Undoing name at) few less used = omega (arith, few, less, used)
uses-more made n k (stages.Undoing name at) (stages.Answered z) few less used = omega (arith, few, less, used)
uses-more made n k (stages.Undoing name at) stages.Trying few less used = omega (arith, few, less, used)
uses-more made n k (stages.Undoing name at) (stages.Undoing number where-at) few less used = omega (arith, few, less, used)
