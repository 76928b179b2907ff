-- An event of a guest's step is an event of its processor.
use Rattle.std.proofs.Common.{◌≡◌, ◌∙◌, ℕ, zero, suc, ◌+◌, ◌-◌, ◌%◌, ◌<◌, ◌≤◌, Bool, true, false, ◌==◌, ◌&&◌, if◌then◌else◌, drop, List, [], ◌∷◌, length, Option, Some, None, option_map, is_none, is_some, IfSome, refl, ap, sym, subst, arith}
use Rattle.std.specs.Prelude.{nat_lt}
use Rattle.std.proofs.lemmas.Bool.{ltb-false, ltb-true}
use Rattle.report_core.specs.declared.facts.Facts.{Facts}
use Rattle.td_words.specs.Seen.{CodeSeen}
use Rattle.td_words.specs.declared.calls.Call.{Call}
use Rattle.td_words.specs.declared.calls.GuestOp.{GuestOp}
use Rattle.td_words.specs.declared.refusals.Status.TheVariants.{OperandBusy}
use Rattle.td_words.specs.declared.replies.Outcome.{Outcome}
use Rattle.td_words.specs.declared.replies.Outcome.TheVariants.{Vmcall}
use Rattle.td_words.specs.declared.replies.Value.TheVariants as value
use Rattle.td_words.specs.declared.replies.Reply.{Reply}
use Rattle.td_words.specs.declared.replies.Reply.TheVariants.{Done, Refused, Exited}
use Rattle.flat_core.specs.World.{Made}
use Rattle.flat_core.specs.Processor.{Translation, Note}
use Rattle.step_core.specs.declared.items.Taken.{Taken}
use Rattle.leaf_engine.specs.declared.needs.Place.{Place}
use Rattle.leaf_engine.specs.declared.events.Event.{Event}
use Rattle.leaf_engine.specs.declared.events.Stage.TheVariants as stages
use Rattle.leaf_engine.specs.Trees.{Answer, added}
use Rattle.leaf_engine.specs.Besides.{Beside}
use Rattle.leaf_engine.specs.Guests.{WordGuest, Step, Operates, Accesses, Loads, Leaves, step_of, stepped, is_right, walked, loaded, passed_on, operated, exited_with, gives_epoch_back}
use Rattle.leaf_engine.specs.Merges.{IsStepOf}
use Rattle.leaf_engine.specs.Turns.{Standing}
use Rattle.leaf_engine.specs.OwnLists.{TurnsInPieces, WordLp, running, after_step, line_after, EnteredTurn}
use Rattle.trace_laws.specs.Told.{step_told, event_told}
use Rattle.leaf_table.specs.Ends.{Ends, with_report, step_answer, step_reports, step_ends, step_tries}
use Rattle.guest_turns.specs.Turns.{kept_after}
use Rattle.leaf_dispatch.specs.Answers.{answer_with, beside_by, cached_by, notes_by, tells_by}
use Rattle.leaf_dispatch.specs.Bounds.{unless_leaving, run_used, stage_used, events_left}
use Rattle.leaf_dispatch.specs.BundleRooms.{count_of}
use Rattle.leaf_dispatch.specs.Guests.{guest_seen, facts_in, unless, unless_left, next_in, IsLow, CanCount, is_outcome, IsReplyOf, IsNextGuest}
use Rattle.leaf_dispatch.specs.Inside.{guest_in, unless_gives, acting, line_then, IsGuestKept, KeepsGuest}
use Rattle.leaf_dispatch.specs.NoteRooms.{longest_in, stage_room, run_room, stage_made, run_made, guest_room, room_left, reports_in, guest_reports, reports_left}
use Rattle.leaf_dispatch.specs.Running.{standing_of, run_seen, IsAnswered}
use Rattle.leaf_table.specs.Given.{Given}
use Rattle.leaf_table.specs.Table.{code_in, step_task, place_table}
use Rattle.leaf_dispatch.specs.Exits.{IsCounted}
use Rattle.leaf_dispatch.specs.Shown.{event_as, epoch_loaded}
use Rattle.leaf_dispatch.specs.StepRuns.{step_run_seen, IsStepRunOf, StepTurned}
use Rattle.leaf_dispatch.specs.declared.step_runs.StepRun.{StepRun}
use Rattle.leaf_dispatch.specs.declared.guests.GuestAt.{GuestAt}
use Rattle.leaf_dispatch.specs.declared.running.Running.{Running}
use Rattle.guest_turns.specs.declared.runs.LeafTurn.{LeafTurn}
use Rattle.leaf_dispatch.proofs.Lowering.{Gives}
use Rattle.leaf_dispatch.proofs.Turning.{line-gives, Moved}
use Rattle.leaf_dispatch.proofs.Shown.{counted-as}
use Rattle.leaf_dispatch.proofs.StepTurns.{step-is, guest-moves, cached-stays}
use Rattle.leaf_dispatch.proofs.Fewer.{run-same, Counts, IsLowStep, step-fewer}
use Rattle.leaf_dispatch.proofs.Replying.{reply-fits, first-trying}
use Rattle.leaf_table.proofs.NoBundles.{step-answers}
use Rattle.leaf_dispatch.proofs.Rooming.{room-is, operated-room, goes-room}
use Rattle.leaf_dispatch.proofs.Making.{less-stage, room-before, facts-room}
use Rattle.leaf_dispatch.proofs.FactRooms.{reports_at, reports-by-stage, reports-by-run, next-asks, no-room, uses-more}
use Rattle.leaf_dispatch.proofs.LineEvents.{no-run}
use Rattle.leaf_dispatch.proofs.ShortRuns.{none-is}

-- no list of a script is longer than the longest
pub longest-holds : (cs : List CodeSeen) (t i : ℕ) → length (code_in cs t i) ≤ longest_in cs
longest-holds [] t i = omega arith
longest-holds (c ∷ cs) t i = (let rest = longest-holds cs t i in by (c.tdr == t && c.index == i) (nat_lt (length c.ops) (longest_in cs)) refl rest)
  where
    by : (b d : Bool) → nat_lt (length c.ops) (longest_in cs) ≡ d → length (code_in cs t i) ≤ longest_in cs
        → length (if b then c.ops else code_in cs t i) ≤ (if d then longest_in cs else length c.ops)
    by true true e rest = (let less = ltb-true (length c.ops) (longest_in cs) e in omega (arith, less))
    by true false e rest = omega arith
    by false true e rest = rest
    by false false e rest = (let more = ltb-false (length c.ops) (longest_in cs) e in omega (arith, more, rest))

-- the load of an entry, and the exit, note and tell nothing
abbrev pub MakesNone : Step → ℕ → Type 0
MakesNone (Loads access gpa level page) made = made ≡ 0
MakesNone (Leaves out) made = made ≡ 0
MakesNone _ made = Unit {0}

unreported-is : (f : Option Facts) (a : Answer) → (with_report None f a).notes ≡ a.notes
unreported-is None a = refl
unreported-is (Some f) a = refl

pub notes-none : (t n : ℕ) (s : Step) (f : Option Facts) (act : Option Reply) → MakesNone s (length (notes_by (answer_with (step_ends t n s) f) act))
notes-none t n (Loads access gpa level page) f None = refl
notes-none t n (Loads access gpa level page) f (Some (Done (value.Number x))) = ap length (unreported-is f (step_answer t n (Loads access gpa level page) (Done (value.Number x))))
notes-none t n (Loads access gpa level page) f (Some r) = ap length (unreported-is f (step_answer t n (Loads access gpa level page) r)) ∙ loads r
  where
    loads : (r : Reply) → length (step_answer t n (Loads access gpa level page) r).notes ≡ 0
    loads (Done (value.Number x)) = refl
    loads r = refl
notes-none t n (Leaves out) f None = refl
notes-none t n (Leaves out) f (Some r) = ap length (unreported-is f (step_answer t n (Leaves out) r))
notes-none t n (Operates o) f act = tt
notes-none t n (Accesses access r gpa page) f act = tt

pub tells-none : (t n : ℕ) (s : Step) (act : Option Reply) → MakesNone s (length (tells_by (step_answer t n s) act))
tells-none t n (Loads access gpa level page) None = refl
tells-none t n (Loads access gpa level page) (Some (Done (value.Number x))) = refl
tells-none t n (Loads access gpa level page) (Some r) = refl
tells-none t n (Leaves out) None = refl
tells-none t n (Leaves out) (Some r) = refl
tells-none t n (Operates o) act = tt
tells-none t n (Accesses access r gpa page) act = tt

pub no-notes : (t n : ℕ) (s : Step) (f : Option Facts) (act : Option Reply) → act ≡ None → length (notes_by (answer_with (step_ends t n s) f) act) ≡ 0
no-notes t n s f act e = ap (λ (a : Option Reply). length (notes_by (answer_with (step_ends t n s) f) a)) e

-- what a step makes of its processor, with the facts that it reports
with-notes : (line : Option ℕ) (answer : Reply → Answer) (f : Option Facts) (act : Option Reply) (b : Beside)
    → beside_by (λ (r : Reply). with_report line f (answer r)) [] act b
    ≡ record { cached = cached_by answer act b.cached; notes = added b.notes (notes_by (λ (r : Reply). with_report line f (answer r)) act); told = added b.told (tells_by answer act); bundles = b.bundles }
with-notes line answer f None b = refl
with-notes line answer None (Some r) b = refl
with-notes None answer (Some f) (Some r) b = refl
with-notes (Some line) answer (Some f) (Some r) b = refl

pub no-tells : (t n : ℕ) (s : Step) (act : Option Reply) → act ≡ None → length (tells_by (step_answer t n s) act) ≡ 0
no-tells t n s act e = ap (λ (a : Option Reply). length (tells_by (step_answer t n s) a)) e

-- a guest that isn't left stays
staying : (g : GuestAt) (l : Option Outcome) (x s : Step) → unless_left l x ≡ s → g.leaving ≡ l → CanCount g s → Counts (guest_seen g None) s
staying g None x (Operates o) is e counts = (e, counts.0)
staying g None x (Accesses access r gpa page) is e counts = (e, counts.0)
staying g None x (Loads access gpa level page) is e counts = (e, counts.0)
staying g l x (Leaves out) is e counts = tt
staying g (Some out) x (Operates o) is e counts = cc
staying g (Some out) x (Accesses access r gpa page) is e counts = cc
staying g (Some out) x (Loads access gpa level page) is e counts = cc

with-run : (g : GuestAt) (run : Option Standing) (s : Step) → Counts (guest_seen g None) s → Counts (guest_seen g run) s
with-run g run (Operates o) counts = counts
with-run g run (Accesses access r gpa page) counts = counts
with-run g run (Loads access gpa level page) counts = counts
with-run g run (Leaves out) counts = counts

low-step : (s : Step) → IsStepOf s → IsLowStep s
low-step (Operates o) i = tt
low-step (Accesses access r gpa page) i = tt
low-step (Loads access gpa level page) i = i.0
low-step (Leaves out) i = tt

-- what stays of a guest that its step's reply doesn't leave
pub record StaysIn (x y : WordGuest) : Type 0 where
  pub tdr : y.tdr ≡ x.tdr
  pub vp : y.vp ≡ x.vp
  pub index : y.index ≡ x.index
  pub ahead : x.completed ≤ x.position → y.completed ≤ y.position

stays-operated : (r : Reply) (x : WordGuest) → StaysIn x (operated r x)
stays-operated (Done v) x = record { tdr = refl; vp = refl; index = refl; ahead = λ h. omega (arith, h) }
stays-operated (Exited (Vmcall word)) x = record { tdr = refl; vp = refl; index = refl; ahead = λ h. omega (arith, h) }
stays-operated (Exited o) x = exits o
  where
    exits : (o : Outcome) → StaysIn x (exited_with o x)
    exits (Vmcall word) = record { tdr = refl; vp = refl; index = refl; ahead = λ h. omega (arith, h) }
    exits o = record { tdr = refl; vp = refl; index = refl; ahead = λ h. h }
stays-operated (Refused (OperandBusy n)) x = record { tdr = refl; vp = refl; index = refl; ahead = λ h. h }
stays-operated (Refused s) x = record { tdr = refl; vp = refl; index = refl; ahead = λ h. h }

stays-loaded : (access : _) (gpa level : ℕ) (r : Reply) (x : WordGuest) → StaysIn x (loaded access gpa level r x)
stays-loaded access gpa level (Done (value.Number rights)) x = by level (is_right access level rights)
  where
    by : (n : ℕ) (b : Bool) → StaysIn x (walked access gpa n rights b x)
    by zero true = record { tdr = refl; vp = refl; index = refl; ahead = λ h. h }
    by (suc n) true = record { tdr = refl; vp = refl; index = refl; ahead = λ h. h }
    by zero false = record { tdr = refl; vp = refl; index = refl; ahead = λ h. h }
    by (suc n) false = record { tdr = refl; vp = refl; index = refl; ahead = λ h. h }
stays-loaded access gpa level r x = record { tdr = refl; vp = refl; index = refl; ahead = λ h. h }

stays-in : (s : Step) (r : Reply) (x y : WordGuest) → stepped s r x ≡ Some y → StaysIn x y
stays-in (Operates o) r x y e = (let same : operated r x ≡ y = cc in subst (λ (z : WordGuest). StaysIn x z) same (stays-operated r x))
stays-in (Accesses access q gpa page) r x y e = (let same : record x { completed = x.completed + 1; position = x.position + 1; walk = None; run = None } ≡ y = cc in subst (λ (z : WordGuest). StaysIn x z) same (record { tdr = refl; vp = refl; index = refl; ahead = λ h. omega (arith, h) }))
stays-in (Loads access gpa level page) r x y e = (let same : loaded access gpa level r x ≡ y = cc in subst (λ (z : WordGuest). StaysIn x z) same (stays-loaded access gpa level r x))
stays-in (Leaves out) r x y e = cc

pub guest-alone : (h : Option GuestAt) (k : StepRun) → step_run_seen k ≡ None → guest_in h k ≡ option_map (λ (g : GuestAt). guest_seen g None) h
guest-alone None k e = refl
guest-alone (Some g) k e = ap (λ (run : Option Standing). Some (guest_seen g run)) e

module _ (p : Place) (given : Given) (codes : List CodeSeen) (c : Call) (cs : List Call) (r : Running) (g : GuestAt) (step : StepRun) (ts us : List Translation) (rs : List Reply) (notes : List Note) (told : List ℕ) (ms : List Made) where
  abbrev pub at_line : ℕ
  at_line = length rs + 1

  abbrev pub x : WordGuest
  x = guest_seen g (step_run_seen step)

  abbrev besides : Beside
  besides = record { cached = ts; notes = notes; told = told; bundles = ms }

  abbrev pub before : WordLp
  before = record { lines = c ∷ cs; run = Some (standing_of r); guest = Some x; replies = rs; beside = besides }

  module _ {B : Type 0} (did : List Taken → B → Type 0) (bench : B) (kept : StepRun) (result : LeafTurn) (s : Step) (h : Option GuestAt) (facts : Option Facts) where
    abbrev ends : Ends
    ends = step_ends g.tdr at_line s

    abbrev was : Standing
    was = running (step_task given p g.tdr g.vp at_line s) (step_run_seen step)

    abbrev pub turned : WordLp
    turned = record {
      lines = c ∷ cs;
      run = line_then s result.reply (Some (standing_of r));
      guest = guest_in h kept;
      replies = rs;
      beside = record { cached = us; notes = added notes (notes_by (answer_with ends facts) result.act); told = added told (tells_by ends.answer result.act); bundles = ms };
    }

    module _ (is : next_in ts g None ≡ s) (inside : IsGuestKept p.machine codes ts at_line g step) (counts : CanCount g s) (low : IsStepOf s) (t : StepTurned did p.machine ends was bench kept result facts)
        (cached : us ≡ cached_by ends.answer result.act ts) (next : IsNextGuest g s result.reply h) where
      gives : Gives ends was t.stands result.event
      gives = line-gives did bench p.machine ends was result [] t

      step-at : step_of (code_in codes) ts x ≡ s
      step-at = run-same (code_in codes) ts (guest_seen g None) (step_run_seen step) ∙ (step-is (code_in codes) ts g None inside.list ∙ is)

      counted : Counts x s
      counted = with-run g (step_run_seen step) s (staying g g.leaving _ s is refl counts)

      none-begun : step_tries s ≡ 0 → step_run_seen step ≡ None
      none-begun none = none-is (step_run_seen step) (inside.alone (ap step_tries is ∙ none))

      first : step_tries s ≡ 0 → was.stage ≡ stages.Trying
      first none = first-trying given p g.tdr g.vp at_line s (step_run_seen step) none-begun none

      used : run_used x.run ≡ stage_used was.stage (length was.held)
      used = by (step_run_seen step)
        where
          by : (run : Option Standing) → run_used run ≡ stage_used (running (step_task given p g.tdr g.vp at_line s) run).stage (length (running (step_task given p g.tdr g.vp at_line s) run).held)
          by None = refl
          by (Some y) = refl

      made-before : run_made x.run ≡ stage_made was.stage
      made-before = by (step_run_seen step)
        where
          by : (run : Option Standing) → run_made run ≡ stage_made (running (step_task given p g.tdr g.vp at_line s) run).stage
          by None = refl
          by (Some y) = refl

      -- a single event has its reply
      at-once : step_tries s ≡ 0 → (z : Reply) × (result.reply ≡ Some z)
      at-once none = (let e = gives.once none (first none) in (e.0, t.turned.2.reply ∙ e.2))

      besides-are : turned.beside ≡ beside_by (answer_with ends facts) [] result.act besides
      besides-are =
          ap (λ (ys : List Translation). record { cached = ys; notes = added notes (notes_by (answer_with ends facts) result.act); told = added told (tells_by ends.answer result.act); bundles = ms }) cached
          ∙ sym (with-notes ends.reports ends.answer facts result.act besides)

      after : turned ≡ after_step c cs (standing_of r) x rs turned.beside s t.stands result.reply
      after = by result.reply next t.seen
        where
          by : (reply : Option Reply) → IsNextGuest g s reply h → step_run_seen kept ≡ kept_after reply t.stands
              → record { lines = c ∷ cs; run = line_then s reply (Some (standing_of r)); guest = guest_in h kept; replies = rs; beside = turned.beside } ≡ after_step c cs (standing_of r) x rs turned.beside s t.stands reply
          by None same seen = ap (λ (y : Option WordGuest). record { lines = c ∷ cs; run = Some (standing_of r); guest = y; replies = rs; beside = turned.beside })
              (ap (λ (y : Option GuestAt). guest_in y kept) same ∙ ap (λ (run : Option Standing). Some (guest_seen g run)) seen)
          by (Some z) goes seen = ap (λ (y : Option WordGuest). record { lines = c ∷ cs; run = Some (line_after s z (standing_of r)); guest = y; replies = rs; beside = turned.beside })
              (guest-alone h kept seen ∙ goes (step_run_seen step))

      fewer : events_left (code_in codes) turned < events_left (code_in codes) before
      fewer =
          subst (λ (q : WordLp). events_left (code_in codes) q < events_left (code_in codes) before) (sym after)
          (step-fewer (code_in codes) c cs (standing_of r) x rs besides turned.beside g.tdr at_line was t.stands result.event s step-at counted (low-step s low) refl used first gives
          (cached ∙ ap (λ (a : Option Reply). cached_by ends.answer a ts) t.act_is) result.reply t.turned.2.reply)

      -- what is told of it
      abbrev pub tells : ℕ → Event
      tells parity = event_as parity (event_told (step_told s) result.event)

      tells-so : (parity : ℕ) → IsCounted s parity t.turned.0 → tells parity ≡ event_as (epoch_loaded t.turned.0 % 2) (event_told (step_told (step_of (code_in codes) ts x)) result.event)
      tells-so parity counts =
          counted-as s result.event parity t.turned.0 counts
          ∙ ap (λ (z : Step). event_as (epoch_loaded t.turned.0 % 2) (event_told (step_told z) result.event)) (sym step-at)

      pub guest-moved : TurnsInPieces → gives_epoch_back r.run.held.items ≡ false → (parity : ℕ) → IsCounted s parity t.turned.0 → Moved given (code_in codes) did bench p before turned result.event (event_as parity (event_told (step_told s) result.event))
      guest-moved law back parity counts =
          let moved =
          guest-moves law did bench p given (code_in codes) c cs (standing_of r) x rs besides kept turned result facts (λ (xs : List Taken). tells parity ≡ event_as (epoch_loaded xs % 2) (event_told (step_told (step_of (code_in codes) ts x)) result.event)) s step-at t
          (tells-so parity counts)
          (after ∙ ap (λ (b : Beside). after_step c cs (standing_of r) x rs b s t.stands result.reply) besides-are) in
          record {
            pieces = moved.pieces;
            did_them = moved.did_them;
            turn = subst (λ (b : Bool). EnteredTurn (place_table p given (code_in codes)) p.machine c cs (standing_of r) x rs besides result.event moved.pieces turned b) (sym back) moved.turn;
            tells = moved.shows;
            fewer = fewer;
          }

      -- the room of what is noted, or told

      made-once : (made : ℕ) → made ≤ 1 → (result.act ≡ None → made ≡ 0) → made ≤ 1 - run_made x.run
      made-once made few none = by result.act refl
        where
          by : (act : Option Reply) → result.act ≡ act → made ≤ 1 - run_made x.run
          by None e = (let nil = none e in omega (arith, nil))
          by (Some z) e =
              let on : was.stage ≡ stages.Trying = (gives.act z (sym t.act_is ∙ e)).on in
              let fresh : run_made x.run ≡ 0 = made-before ∙ ap stage_made on in
              omega (arith, fresh, few)

      fresh-run : step_tries s ≡ 0 → run_made x.run ≡ 0
      fresh-run none = ap run_made (none-begun none)

      pub guest-fits : (longest made : ℕ) → longest ≡ longest_in codes → made ≤ 1 → (result.act ≡ None → made ≡ 0) → MakesNone s made → room_left longest turned + made ≤ room_left longest before
      guest-fits longest made is-longest few none makes =
          subst (λ (q : WordLp). room_left longest q + made ≤ room_left longest before) (sym after)
          (by s refl counted counts makes result.reply refl)
        where
          short : g.position < length g.list.now → g.completed < longest
          short within =
              let lists : length (code_in codes g.tdr g.index) ≤ longest_in codes = longest-holds codes g.tdr g.index in
              let list : length (code_in codes g.tdr g.index) ≡ length g.list.now = ap length inside.list in
              let ahead = inside.ahead in
              omega (arith, within, lists, list, ahead, is-longest)

          by : (s' : Step) → s' ≡ s → Counts x s' → CanCount g s' → MakesNone s' made → (reply : Option Reply) → result.reply ≡ reply
              → room_left longest (after_step c cs (standing_of r) x rs turned.beside s' t.stands reply) + made ≤ room_left longest before
          by (Operates o) same now within nil None e =
              let more = goes-room longest x now.0 now.1 (short within.1) ends was t.stands result.event made-before gives made few (λ no. none (t.act_is ∙ no)) in omega (arith, more)
          by (Operates o) same now within nil (Some z) e =
              let fits : IfSome result.reply (λ w. IsReplyOf s w) = reply-fits did bench p.machine result [] g.tdr at_line s was t first result.reply refl in
              let fit : IsReplyOf (Operates o) z = subst (λ (y : Step). IsReplyOf y z) (sym same) (subst (λ (w : Option Reply). IfSome w (λ w. IsReplyOf s w)) e fits) in
              let more = operated-room longest x now.0 now.1 (short within.1) z fit in
              let once = made-once made few none in
              omega (arith, more, once)
          by (Accesses access q gpa page) same now within nil None e = (let z = at-once (ap step_tries (sym same)) in absurd (no-none (sym e ∙ z.1)))
            where
              no-none : {w : Reply} → None ≡ Some w → ⊥
              no-none e = cc
          by (Accesses access q gpa page) same now within nil (Some z) e =
              let fresh = fresh-run (ap step_tries (sym same)) in
              let m = short within.1 in
              let n = now.1 in
              rw (room-is longest x now.0, now.0) (omega (arith, fresh, m, n, few))
          by (Loads access gpa level page) same now within nil reply e = loads (fresh-run (ap step_tries (sym same))) now nil reply (at-once (ap step_tries (sym same))) e
            where
              walks : (rights n : ℕ) (b : Bool) → x.leaving ≡ None → run_made x.run ≡ 0 → guest_room longest (walked access gpa n rights b x) ≤ guest_room longest x
              walks rights zero true stays fresh = rw (room-is longest x stays, stays) (omega (arith, fresh))
              walks rights (suc n) true stays fresh = rw (room-is longest x stays, stays) (omega (arith, fresh))
              walks rights zero false stays fresh = omega arith
              walks rights (suc n) false stays fresh = omega arith

              loads : run_made x.run ≡ 0 → Counts x (Loads access gpa level page) → made ≡ 0 → (reply : Option Reply) → (z : Reply) × (result.reply ≡ Some z) → result.reply ≡ reply
                  → room_left longest (after_step c cs (standing_of r) x rs turned.beside (Loads access gpa level page) t.stands reply) + made ≤ room_left longest before
              loads fresh now nil None z e = (let no : None ≡ Some z.0 = sym e ∙ z.1 in cc)
              loads fresh now nil (Some (Done (value.Number rights))) z e = (let w = walks rights level (is_right access level rights) now.0 fresh in omega (arith, w, nil))
              loads fresh now nil (Some w) z e = rw (room-is longest x now.0, now.0) (omega (arith, fresh, nil))
          by (Leaves out) same now within nil None e = (let z = at-once (ap step_tries (sym same)) in let no : None ≡ Some z.0 = sym e ∙ z.1 in cc)
          by (Leaves out) same now within nil (Some z) e = omega (arith, nil)

      -- the room of the facts that are reported

      reported-few : length (facts_in facts) + stage_room (count_of (step_reports at_line s)) t.stands.stage ≤ stage_room (count_of (step_reports at_line s)) was.stage
      reported-few =
          subst (λ (f : Option Facts). length (facts_in f) + stage_room (count_of (step_reports at_line s)) t.stands.stage ≤ stage_room (count_of (step_reports at_line s)) was.stage) (sym t.facts_is)
          (facts-room ends was t.stands result.event (step-answers g.tdr at_line s) gives)

      none-reported : step_reports at_line s ≡ None → length (facts_in facts) ≡ 0
      none-reported none =
          let few = reported-few in
          let before : stage_room (count_of (step_reports at_line s)) was.stage ≡ 0 = ap (λ (o : Option ℕ). stage_room (count_of o) was.stage) none ∙ no-room was.stage in
          omega (arith, few, before)

      abbrev ops : List GuestOp
      ops = code_in codes g.tdr g.index

      module _ (stays : x.leaving ≡ None) where
        abbrev own : ℕ
        own = reports_at ops g.position

        abbrev behind : ℕ
        behind = reports_in (drop (suc g.position) ops)

        reported-room : length (facts_in facts) + stage_room own t.stands.stage ≤ stage_room own was.stage
        reported-room =
            let asked : count_of (step_reports at_line s) ≤ own = subst (λ (z : Step). count_of (step_reports at_line z) ≤ own) is (next-asks at_line ts g ops inside.list stays) in
            uses-more (length (facts_in facts)) (count_of (step_reports at_line s)) own was.stage t.stands.stage asked (less-stage own was.stage t.stands.stage gives.stays_answered) reported-few

        reports-before : guest_reports (code_in codes) x ≡ stage_room own was.stage + behind
        reports-before =
            let left = reports-by-run g.position ops x.run in
            let run : stage_room own was.stage ≡ run_room own x.run = room-before own (step_task given p g.tdr g.vp at_line s) x.run in
            let here : guest_reports (code_in codes) x ≡ reports_in (drop (g.position + run_made x.run) ops) = ap (λ (l : Option Outcome). unless_leaving l (reports_in (drop (g.position + run_made x.run) ops))) stays in
            omega (arith, left, run, here)

        reports-on : guest_reports (code_in codes) (record x { run = Some t.stands }) ≡ stage_room own t.stands.stage + behind
        reports-on = ap (λ (l : Option Outcome). unless_leaving l (reports_in (drop (g.position + stage_made t.stands.stage) ops))) stays ∙ reports-by-stage g.position ops t.stands.stage

        reports-passed : guest_reports (code_in codes) (passed_on x) ≡ behind
        reports-passed =
            let next : g.position + 1 + 0 ≡ suc g.position = omega arith in
            ap (λ (l : Option Outcome). unless_leaving l (reports_in (drop (g.position + 1 + 0) ops))) stays ∙ ap (λ (k : ℕ). reports_in (drop k ops)) next

        reports-same : run_made x.run ≡ 0 → unless_leaving x.leaving (reports_in (drop (g.position + 0) ops)) ≤ guest_reports (code_in codes) x
        reports-same fresh = subst (λ (k : ℕ). unless_leaving x.leaving (reports_in (drop (g.position + 0) ops)) ≤ unless_leaving x.leaving (reports_in (drop (g.position + k) ops))) (sym fresh) (omega arith)

        operated-reports : (z : Reply) → is_outcome z ≡ true → length (facts_in facts) + guest_reports (code_in codes) (operated z x) ≤ guest_reports (code_in codes) x
        operated-reports z fits = by z fits
          where
            exits : (o : Outcome) → length (facts_in facts) + guest_reports (code_in codes) (exited_with o x) ≤ guest_reports (code_in codes) x
            exits (Vmcall w) = (let used = reported-room in let had = reports-before in omega (arith, used, had))
            exits o = (let used = reported-room in let had = reports-before in omega (arith, used, had))

            by : (z : Reply) → is_outcome z ≡ true → length (facts_in facts) + guest_reports (code_in codes) (operated z x) ≤ guest_reports (code_in codes) x
            by (Done v) fits = (let used = reported-room in let had = reports-before in let on = reports-passed in omega (arith, used, had, on))
            by (Exited o) fits = exits o
            by (Refused (OperandBusy n)) fits = (let used = reported-room in let had = reports-before in omega (arith, used, had))
            by (Refused s) fits = cc

      pub guest-reports : (most : ℕ) → length (facts_in facts) + reports_left most (code_in codes) turned ≤ reports_left most (code_in codes) before
      guest-reports most =
          subst (λ (q : WordLp). length (facts_in facts) + reports_left most (code_in codes) q ≤ reports_left most (code_in codes) before) (sym after)
          (by s refl counted result.reply refl)
        where
          by : (s' : Step) → s' ≡ s → Counts x s' → (reply : Option Reply) → result.reply ≡ reply
              → length (facts_in facts) + reports_left most (code_in codes) (after_step c cs (standing_of r) x rs turned.beside s' t.stands reply) ≤ reports_left most (code_in codes) before
          by (Operates o) same now None e =
              let used = reported-room now.0 in
              let had = reports-before now.0 in
              let left = reports-on now.0 in
              omega (arith, used, had, left)
          by (Operates o) same now (Some z) e =
              let fits : IfSome result.reply (λ w. IsReplyOf s w) = reply-fits did bench p.machine result [] g.tdr at_line s was t first result.reply refl in
              let fit : IsReplyOf (Operates o) z = subst (λ (y : Step). IsReplyOf y z) (sym same) (subst (λ (w : Option Reply). IfSome w (λ w. IsReplyOf s w)) e fits) in
              let more = operated-reports now.0 z fit in
              omega (arith, more)
          by (Accesses access q gpa page) same now None e = (let z = at-once (ap step_tries (sym same)) in let no : None ≡ Some z.0 = sym e ∙ z.1 in cc)
          by (Accesses access q gpa page) same now (Some z) e =
              let used = reported-room now.0 in
              let had = reports-before now.0 in
              let left = reports-passed now.0 in
              omega (arith, used, had, left)
          by (Loads access gpa level page) same now reply e =
              loads (none-reported (ap (step_reports at_line) (sym same))) (reports-same now.0 (fresh-run (ap step_tries (sym same)))) reply (at-once (ap step_tries (sym same))) e
            where
              walks : (rights n : ℕ) (b : Bool) → unless_leaving x.leaving (reports_in (drop (g.position + 0) ops)) ≤ guest_reports (code_in codes) x → guest_reports (code_in codes) (walked access gpa n rights b x) ≤ guest_reports (code_in codes) x
              walks rights zero true here = here
              walks rights (suc n) true here = here
              walks rights zero false here = omega arith
              walks rights (suc n) false here = omega arith

              loads : length (facts_in facts) ≡ 0 → unless_leaving x.leaving (reports_in (drop (g.position + 0) ops)) ≤ guest_reports (code_in codes) x → (reply : Option Reply) → (z : Reply) × (result.reply ≡ Some z) → result.reply ≡ reply
                  → length (facts_in facts) + reports_left most (code_in codes) (after_step c cs (standing_of r) x rs turned.beside (Loads access gpa level page) t.stands reply) ≤ reports_left most (code_in codes) before
              loads nil here None z e = (let no : None ≡ Some z.0 = sym e ∙ z.1 in cc)
              loads nil here (Some (Done (value.Number rights))) z e = (let w = walks rights level (is_right access level rights) here in omega (arith, w, nil))
              loads nil here (Some w) z e = omega (arith, here, nil)
          by (Leaves out) same now None e = (let z = at-once (ap step_tries (sym same)) in let no : None ≡ Some z.0 = sym e ∙ z.1 in cc)
          by (Leaves out) same now (Some z) e = (let nil = none-reported (ap (step_reports at_line) (sym same)) in omega (arith, nil))

      -- and what is kept then
      pub guest-keeps : (run : Option Running) → run_seen run ≡ line_then s result.reply (Some (standing_of r)) → IsAnswered run → IfSome h (λ y. IsLow y.walk × (y.list.now ≡ g.list.now)) → KeepsGuest p.machine codes us at_line h run kept
      guest-keeps run seen answered same = by h result.reply refl next same
        where
          still : (y : GuestAt) (run : Option Running) (reply : Option Reply) → run_seen run ≡ line_then s reply (Some (standing_of r)) → IsAnswered run → IsGuestKept p.machine codes us at_line y kept → KeepsGuest p.machine codes us at_line (Some y) run kept
          still y None None seen answered is = cc
          still y None (Some z) seen answered is = cc
          still y (Some k) reply seen answered is = (answered, is)

          -- a step that goes on is an operation's, which leaves what is cached
          goes-on : result.reply ≡ None → us ≡ ts × (step_tries s ≡ 0 → ⊥)
          goes-on none = by s refl
            where
              by : (s' : Step) → s ≡ s' → us ≡ ts × (step_tries s ≡ 0 → ⊥)
              by (Operates o) e = (cached ∙ (ap (λ (y : Step). cached_by (step_answer g.tdr at_line y) result.act ts) e ∙ acts result.act), λ z. two-tries (sym (ap step_tries e) ∙ z))
                where
                  acts : (act : Option Reply) → cached_by (step_answer g.tdr at_line (Operates o)) act ts ≡ ts
                  acts None = refl
                  acts (Some w) = cached-stays g.tdr at_line o w ts

                  two-tries : step_tries (Operates o) ≡ 0 → ⊥
                  two-tries z = omega (arith, z)
              by (Accesses access q gpa page) e = (let z = at-once (ap step_tries e) in let no : None ≡ Some z.0 = sym none ∙ z.1 in cc)
              by (Loads access gpa level page) e = (let z = at-once (ap step_tries e) in let no : None ≡ Some z.0 = sym none ∙ z.1 in cc)
              by (Leaves out) e = (let z = at-once (ap step_tries e) in let no : None ≡ Some z.0 = sym none ∙ z.1 in cc)

          by : (h' : Option GuestAt) (reply : Option Reply) → result.reply ≡ reply → IsNextGuest g s reply h' → IfSome h' (λ y. IsLow y.walk × (y.list.now ≡ g.list.now)) → KeepsGuest p.machine codes us at_line h' run kept
          by None None e next same = cc
          by None (Some z) e next same = ap is_none (t.seen ∙ ap (λ (w : Option Reply). kept_after w t.stands) e)
          by (Some y) None e next same =
              let on = goes-on e in
              let at : y ≡ g = cc in
              still y run result.reply seen answered
              (subst (λ (z : GuestAt). IsGuestKept p.machine codes us at_line z kept) (sym at)
              (record {
                tdr = inside.tdr;
                vp = inside.vp;
                list = inside.list;
                low = inside.low;
                ahead = inside.ahead;
                under_way = subst (λ (z : Step). IsStepRunOf p.machine (step_ends g.tdr at_line z) kept) (sym is ∙ ap (λ (ys : List Translation). next_in ys g None) (sym on.0)) t.under_way;
                alone = λ none. absurd (on.1 (ap step_tries (sym is ∙ ap (λ (ys : List Translation). next_in ys g None) (sym on.0)) ∙ none));
              }))
          by (Some y) (Some z) e next same =
              let gone : step_run_seen kept ≡ None = t.seen ∙ ap (λ (w : Option Reply). kept_after w t.stands) e in
              let st = stays-in s z x (guest_seen y None) (sym (next (step_run_seen step))) in
              still y run result.reply seen answered
              (record {
                tdr = subst (λ (n : ℕ). n < p.machine.pages) (sym st.tdr) inside.tdr;
                vp = subst (λ (n : ℕ). n < p.machine.pages) (sym st.vp) inside.vp;
                list = ap (λ (n : ℕ). code_in codes n y.index) st.tdr ∙ (ap (λ (n : ℕ). code_in codes g.tdr n) st.index ∙ (inside.list ∙ sym same.1));
                low = same.0;
                ahead = st.ahead inside.ahead;
                under_way = no-run p.machine (step_ends y.tdr at_line (next_in us y None)) kept gone;
                alone = λ none. ap is_none gone;
              })

-- the guest that makes the next event, and its VP.ENTER
pub record Acts (g : GuestAt) (guest : Option GuestAt) (run : Option Running) : Type 0 where
  pub guest_is : guest ≡ Some g
  pub line : Running
  pub run_is : run ≡ Some line
  pub back : gives_epoch_back line.run.held.items ≡ false

pub acts-in : (guest : Option GuestAt) (run : Option Running) (g : GuestAt) → acting guest run ≡ Some g → Acts g guest run
acts-in None run g e = cc
acts-in (Some h) None g e = cc
acts-in (Some h) (Some r) g e = by (gives_epoch_back r.run.held.items) refl e
  where
    by : (b : Bool) → gives_epoch_back r.run.held.items ≡ b → unless_gives b h ≡ Some g → Acts g (Some h) (Some r)
    by true back e = cc
    by false back e = record { guest_is = e; line = r; run_is = refl; back = back }

pub acts-as : (guest : Option GuestAt) (run : Option Running) (g : GuestAt) → guest ≡ Some g → is_some (acting guest run) ≡ true → acting guest run ≡ Some g
acts-as None run g e on = cc
acts-as (Some h) None g e on = cc
acts-as (Some h) (Some r) g e on = by (gives_epoch_back r.run.held.items) on
  where
    by : (b : Bool) → is_some (unless_gives b h) ≡ true → unless_gives b h ≡ Some g
    by true on = cc
    by false on = e

pub stays-kept : (left : Bool) (g : GuestAt) (list : List GuestOp) → IsLow g.walk × (g.list.now ≡ list) → IfSome (unless left g) (λ y. IsLow y.walk × (y.list.now ≡ list))
stays-kept true g list kept = tt
stays-kept false g list kept = kept

pub none-acts : {A : Type 0} (x : Option A) → is_some x ≡ false → x ≡ None
none-acts None e = refl
none-acts (Some y) e = cc

pub kept-of : (m : _) (codes : List CodeSeen) (ts : List Translation) (n : ℕ) (guest : Option GuestAt) (run : Option Running) (g : GuestAt) (step : StepRun) → acting guest run ≡ Some g → KeepsGuest m codes ts n guest run step → IsGuestKept m codes ts n g step
kept-of m codes ts n None run g step e keeps = cc
kept-of m codes ts n (Some h) None g step e keeps = cc
kept-of m codes ts n (Some h) (Some r) g step e keeps = by (gives_epoch_back r.run.held.items) e
  where
    by : (b : Bool) → unless_gives b h ≡ Some g → IsGuestKept m codes ts n g step
    by true e = cc
    by false e = (let same : h ≡ g = cc in subst (λ (z : GuestAt). IsGuestKept m codes ts n z step) same keeps.1)

pub answered-of : (m : _) (codes : List CodeSeen) (ts : List Translation) (n : ℕ) (guest : Option GuestAt) (run : Option Running) (g : GuestAt) (step : StepRun) → acting guest run ≡ Some g → KeepsGuest m codes ts n guest run step → IsAnswered run
answered-of m codes ts n None run g step e keeps = cc
answered-of m codes ts n (Some h) None g step e keeps = cc
answered-of m codes ts n (Some h) (Some r) g step e keeps = keeps.0
