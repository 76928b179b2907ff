-- A turn in a guest uses the room of what it notes and tells.
use Rattle.std.proofs.Common.{◌≡◌, ℕ, ◌+◌, ◌-◌, ◌<◌, ◌≤◌, true, length, Option, Some, None, refl, ap, ◌∙◌, arith}
use Rattle.report_core.specs.declared.facts.Facts.{Facts}
use Rattle.td_words.specs.declared.names.Access.TheVariants.{Read}
use Rattle.td_words.specs.declared.calls.GuestOp.TheVariants as op
use Rattle.td_words.specs.declared.refusals.Status.TheVariants.{OperandBusy}
use Rattle.td_words.specs.declared.replies.Outcome.{Outcome}
use Rattle.td_words.specs.declared.replies.Outcome.TheVariants.{Vmcall}
use Rattle.td_words.specs.declared.replies.Value.TheVariants as value
use Rattle.td_words.specs.declared.replies.Reply.{Reply}
use Rattle.td_words.specs.declared.replies.Reply.TheVariants.{Done, Refused, Exited}
use Rattle.leaf_engine.specs.declared.events.Event.{Event}
use Rattle.leaf_engine.specs.declared.events.Stage.{Stage}
use Rattle.leaf_engine.specs.declared.events.Stage.TheVariants as stages
use Rattle.leaf_engine.specs.Turns.{Standing}
use Rattle.leaf_engine.specs.Trees.{Answer}
use Rattle.leaf_engine.specs.Guests.{WordGuest, Step, Operates, Accesses, Loads, passed_on, exited_with, operated}
use Rattle.leaf_table.specs.Ends.{Ends, with_report, step_answer, step_reports, step_ends}
use Rattle.guest_turns.specs.Turns.{act_of}
use Rattle.leaf_dispatch.specs.Answers.{answer_with, notes_by, tells_by}
use Rattle.leaf_dispatch.specs.Guests.{is_outcome}
use Rattle.leaf_dispatch.specs.Bounds.{unless_leaving}
use Rattle.leaf_dispatch.specs.NoteRooms.{least, stage_made, run_made, guest_room}
use Rattle.leaf_dispatch.proofs.Lowering.{Gives}

-- a step notes and tells at most one thing each

by-reply-few : (t n : ℕ) (s : Step) (act : Option Reply) → length (notes_by (step_answer t n s) act) ≤ 1
by-reply-few t n s None = omega arith
by-reply-few t n (Operates (op.Load r gpa)) (Some (Done (value.Number x))) = omega arith
by-reply-few t n (Operates (op.Store r gpa)) (Some (Done (value.Number x))) = omega arith
by-reply-few t n (Operates (op.Rtmr i)) (Some (Done (value.Digest bytes))) = omega arith
by-reply-few t n (Operates (op.Vmcall r)) (Some (Exited (Vmcall x))) = omega arith
by-reply-few t n (Accesses Read r gpa page) (Some (Done (value.Number x))) = omega arith
by-reply-few t n (Loads access gpa level page) (Some (Done (value.Number x))) = omega arith
by-reply-few t n s (Some r) = omega arith

report-few : (line : Option ℕ) (f : Option Facts) (a : Answer) → length a.notes ≤ 1 → length (with_report line f a).notes ≤ 1
report-few line None a few = few
report-few None (Some f) a few = few
report-few (Some line) (Some f) a few = omega arith

pub notes-few : (t n : ℕ) (s : Step) (f : Option Facts) (act : Option Reply) → length (notes_by (answer_with (step_ends t n s) f) act) ≤ 1
notes-few t n s f None = omega arith
notes-few t n s f (Some r) = report-few (step_reports n s) f (step_answer t n s r) (by-reply-few t n s (Some r))

pub tells-few : (t n : ℕ) (s : Step) (act : Option Reply) → length (tells_by (step_answer t n s) act) ≤ 1
tells-few t n s None = omega arith
tells-few t n (Operates (op.Load r gpa)) (Some (Done (value.Number x))) = omega arith
tells-few t n (Operates (op.Store r gpa)) (Some (Done (value.Number x))) = omega arith
tells-few t n (Operates (op.Rtmr i)) (Some (Done (value.Digest bytes))) = omega arith
tells-few t n (Operates (op.Vmcall r)) (Some (Exited (Vmcall x))) = omega arith
tells-few t n (Accesses Read r gpa page) (Some (Done (value.Number x))) = omega arith
tells-few t n (Loads access gpa level page) (Some (Done (value.Number x))) = omega arith
tells-few t n s (Some r) = omega arith

made-few : (run : Option Standing) → run_made run ≤ 1
made-few None = omega arith
made-few (Some s) = by-stage s.stage
  where
    by-stage : (x : Stage) → stage_made x ≤ 1
    by-stage (stages.Answered r) = omega arith
    by-stage stages.Trying = omega arith
    by-stage (stages.Undoing name at) = omega arith

-- the room of a guest that stays

abbrev room_by : Option Outcome → ℕ → ℕ → ℕ
room_by l n made = unless_leaving l (n - made)

pub room-is : (longest : ℕ) (g : WordGuest) → g.leaving ≡ None → guest_room longest g ≡ least g.most longest - g.completed - run_made g.run
room-is longest g stays = ap (λ (l : Option Outcome). room_by l (least g.most longest - g.completed) (run_made g.run)) stays

module _ (longest : ℕ) (g : WordGuest) (stays : g.leaving ≡ None) (more : g.completed < g.most) (short : g.completed < longest) where
  -- an operation that has its reply leaves room for one less, or was noted before
  pub operated-room : (r : Reply) → is_outcome r ≡ true → guest_room longest (operated r g) + (1 - run_made g.run) ≤ guest_room longest g
  operated-room (Done v) fits = rw (room-is longest (passed_on g) stays, room-is longest g stays) (let few = made-few g.run in omega (arith, more, short, few))
  operated-room (Exited o) fits = exits o
    where
      exits : (o : Outcome) → guest_room longest (exited_with o g) + (1 - run_made g.run) ≤ guest_room longest g
      exits (Vmcall x) = rw (room-is longest g stays) (let few = made-few g.run in omega (arith, more, short, few))
      exits o = rw (room-is longest g stays) (let few = made-few g.run in omega (arith, more, short, few))
  operated-room (Refused (OperandBusy n)) fits = rw (room-is longest g stays) (let few = made-few g.run in omega (arith, more, short, few))
  operated-room (Refused s) fits = cc

  -- a step that goes on: its act makes its own
  pub goes-room : (e : Ends) (s stands : Standing) (ev : Event) → run_made g.run ≡ stage_made s.stage → Gives e s stands ev → (made : ℕ) → made ≤ 1 → (act_of ev stands.stage ≡ None → made ≡ 0)
      → guest_room longest (record g { run = Some stands }) + made ≤ guest_room longest g
  goes-room e s stands ev is gives made few none = rw (room-is longest g stays, room-is longest (record g { run = Some stands }) stays) (by-act (act_of ev stands.stage) refl)
    where
      made-by : (x y : Stage) → ((r : Reply) → x ≡ stages.Answered r → (z : Reply) × (y ≡ stages.Answered z)) → stage_made x ≤ stage_made y
      made-by (stages.Answered r) y h = (let at = h r refl in rw at.1 (omega arith))
      made-by stages.Trying y h = omega arith
      made-by (stages.Undoing name at) y h = omega arith

      by-act : (act : Option Reply) → act_of ev stands.stage ≡ act → least g.most longest - g.completed - stage_made stands.stage + made ≤ least g.most longest - g.completed - run_made g.run
      by-act None at = (let zero = none at in let grows = made-by s.stage stands.stage gives.stays_answered in omega (arith, zero, grows, is))
      by-act (Some r) at =
          let a = gives.act r at in
          let before : run_made g.run ≡ 0 = is ∙ ap stage_made a.on in
          let after : stage_made stands.stage ≡ 1 = ap stage_made a.stage in
          omega (arith, before, after, few, more, short)
