use Rattle.std.proofs.Common.{◌≡◌, ◌<◌, ◌≤◌, IfSome, Option, ◌+◌, map, length, length-append, refl, ◌∙◌, arith, ap, sym, subst, ℕ, List, None}
use Rattle.td_words.specs.declared.replies.Reply.{Reply}
use Rattle.leaf_table.specs.Ends.{step_answer, step_ends}
use Rattle.leaf_dispatch.specs.StepRuns.{IsStepRunOf}
use Rattle.std.specs.Prelude.{option_map}
use Rattle.report_core.specs.declared.facts.Facts.{Facts}
use Rattle.leaf_dispatch.proofs.Reporting.{noted-as, placed-more, placed-in}
use Rattle.leaf_dispatch.specs.Answers.{answer_with, notes_by, tells_by}
use Rattle.leaf_dispatch.specs.BundleRooms.{count_of, words_of}
use Rattle.leaf_dispatch.proofs.Making.{exit-room}
use Rattle.leaf_table.specs.Steps.{step_seen}
use Rattle.leaf_dispatch.specs.Guests.{note_seen, facts_at, facts_in, next_in, unless, IsLow, IsNextGuest}
use Rattle.leaf_dispatch.specs.declared.guests.GuestAt.{GuestAt}
use Rattle.leaf_table.specs.Given.{given_in}
use Rattle.leaf_dispatch.proofs.Rooming.{notes-few, tells-few}
use Rattle.leaf_dispatch.proofs.GuestEvents.{acts-as, stays-kept, kept-of, answered-of, notes-none, tells-none, no-notes, no-tells}
use Rattle.leaf_dispatch.proofs.Exiting.{still-at}
use Rattle.leaf_dispatch.proofs.CallTurns.{acting-alone}
use Rattle.leaf_dispatch.proofs.StateEvents.{StepsAt, guest-steps, guest-room, guest-facts, guest-asks}
use Rattle.leaf_dispatch.proofs.states.LpState.guest_event.Goals as goal

pub turn_guest-step-requires-clause-under_way : goal.turn_guest-step-requires-clause-under_way
turn_guest-step-requires-clause-under_way g c =
    let l = c.args.self.now in
    let at = ap (λ (rs : List Reply). length rs + 1) c.replies.ensures in
    let inside = kept-of l.place.machine l.codes.now l.cached (length l.replies.items + 1) l.guest l.run.other c.in-Some.guest l.step_run (acts-as l.guest l.run.other c.in-Some.guest c.in-Some.is c.requires.acts) l.inside in
    subst (λ (n : ℕ). IsStepRunOf l.place.machine (step_ends c.in-Some.guest.tdr n (next_in l.cached c.in-Some.guest None)) l.step_run) (sym at) inside.under_way

pub turn_guest-step-requires-clause-fact_room : goal.turn_guest-step-requires-clause-fact_room
turn_guest-step-requires-clause-fact_room g c =
    let l = c.args.self.now in
    let asks = guest-asks l.place.machine l.codes.now l.cached (length l.replies.items + 1) c.in-Some.guest l.step_run l.lines.now l.guest l.run.host l.run.other (acting-alone l.place.machine l.lines.now l.run l.guest c.in-Some.guest c.requires.lines l.under_way (acts-as l.guest l.run.other c.in-Some.guest c.in-Some.is c.requires.acts)) c.requires.lines (acts-as l.guest l.run.other c.in-Some.guest c.in-Some.is c.requires.acts) l.inside (length c.replies.result.now + 1) in
    let had = l.fact_room in
    omega (arith, asks, had)

pub place_behind-place-requires : goal.place_behind-place-requires
place_behind-place-requires g c =
    let l = c.args.self.now in
    let at = ap (λ (rs : List Reply). length rs + 1) c.replies.ensures in
    let s = step_seen c.turn_guest-step.result.step in
    let steps : StepsAt l.place (given_in l.given) l.codes.now l.replies.items l.told.items (map (note_seen l.reports.items) l.notes.items) l.cached l.bundles.made (g.B.Bench.did c.args.bench.now) c.turn_guest-step.new.bench c.turn_guest-step.new.kept c.turn_guest-step.new.turn c.turn_guest-step.new.cached s c.in-Some.guest (unless c.turn_guest-step.result.left c.turn_guest-step.new.guest) l.step_run c.turn_guest-step.result.parity c.turn_guest-step.ensures.turned.0 (length c.replies.result.now + 1) = record { counts = c.turn_guest-step.ensures.counts; low = c.turn_guest-step.ensures.within; is = sym (c.turn_guest-step.ensures.step None); turned = c.turn_guest-step.ensures.turned.2.0; counted = c.turn_guest-step.ensures.turned.2.1; cached = c.turn_guest-step.ensures.cached; next = c.turn_guest-step.ensures.next } in
    let few = guest-facts l.place (given_in l.given) l.codes.now l.replies.items l.told.items (map (note_seen l.reports.items) l.notes.items) l.cached l.bundles.made (g.B.Bench.did c.args.bench.now) c.turn_guest-step.new.bench c.turn_guest-step.new.kept c.turn_guest-step.new.turn c.turn_guest-step.new.cached s c.in-Some.guest (unless c.turn_guest-step.result.left c.turn_guest-step.new.guest) l.step_run c.turn_guest-step.result.parity c.turn_guest-step.ensures.turned.0 l.lines.now l.guest l.run.host l.run.other (acting-alone l.place.machine l.lines.now l.run l.guest c.in-Some.guest c.requires.lines l.under_way (acts-as l.guest l.run.other c.in-Some.guest c.in-Some.is c.requires.acts)) (length c.replies.result.now + 1) at steps c.requires.lines (acts-as l.guest l.run.other c.in-Some.guest c.in-Some.is c.requires.acts) l.inside in
    let had = l.few_facts in
    let count = ap length c.turn_guest-step.ensures.turned.1.kept ∙ length-append l.reports.items (facts_in c.turn_guest-step.ensures.turned.0) in
    omega (arith, few, had, count)

pub note_by-requires : goal.note_by-requires
note_by-requires g c = record {
  room = λ tdr f.
      let l = c.args.self.now in
      let at = ap (λ (rs : List Reply). length rs + 1) c.replies.ensures in
      let s = step_seen c.turn_guest-step.result.step in
      let steps : StepsAt l.place (given_in l.given) l.codes.now l.replies.items l.told.items (map (note_seen l.reports.items) l.notes.items) l.cached l.bundles.made (g.B.Bench.did c.args.bench.now) c.turn_guest-step.new.bench c.turn_guest-step.new.kept c.turn_guest-step.new.turn c.turn_guest-step.new.cached s c.in-Some.guest (unless c.turn_guest-step.result.left c.turn_guest-step.new.guest) l.step_run c.turn_guest-step.result.parity c.turn_guest-step.ensures.turned.0 (length c.replies.result.now + 1) = record { counts = c.turn_guest-step.ensures.counts; low = c.turn_guest-step.ensures.within; is = sym (c.turn_guest-step.ensures.step None); turned = c.turn_guest-step.ensures.turned.2.0; counted = c.turn_guest-step.ensures.turned.2.1; cached = c.turn_guest-step.ensures.cached; next = c.turn_guest-step.ensures.next } in
      let made : ℕ = length (notes_by (answer_with (step_ends tdr (length c.replies.result.now + 1) s) f) c.turn_guest-step.new.turn.act) in
      let room = guest-room l.place (given_in l.given) l.codes.now l.replies.items l.told.items (map (note_seen l.reports.items) l.notes.items) l.cached l.bundles.made (g.B.Bench.did c.args.bench.now) c.turn_guest-step.new.bench c.turn_guest-step.new.kept c.turn_guest-step.new.turn c.turn_guest-step.new.cached s c.in-Some.guest (unless c.turn_guest-step.result.left c.turn_guest-step.new.guest) l.step_run c.turn_guest-step.result.parity c.turn_guest-step.ensures.turned.0 l.lines.now l.guest l.run.host l.run.other (acting-alone l.place.machine l.lines.now l.run l.guest c.in-Some.guest c.requires.lines l.under_way (acts-as l.guest l.run.other c.in-Some.guest c.in-Some.is c.requires.acts)) (length c.replies.result.now + 1) at steps c.requires.lines (acts-as l.guest l.run.other c.in-Some.guest c.in-Some.is c.requires.acts) l.inside made (notes-few tdr (length c.replies.result.now + 1) s f c.turn_guest-step.new.turn.act) (no-notes tdr (length c.replies.result.now + 1) s f c.turn_guest-step.new.turn.act) (notes-none tdr (length c.replies.result.now + 1) s f c.turn_guest-step.new.turn.act) in
      let had = l.note_room in
      omega (arith, room, had);
}

pub tell_by-requires : goal.tell_by-requires
tell_by-requires g c = record {
  room = λ tdr line.
      let l = c.args.self.now in
      let at = ap (λ (rs : List Reply). length rs + 1) c.replies.ensures in
      let s = step_seen c.turn_guest-step.result.step in
      let steps : StepsAt l.place (given_in l.given) l.codes.now l.replies.items l.told.items (map (note_seen l.reports.items) l.notes.items) l.cached l.bundles.made (g.B.Bench.did c.args.bench.now) c.turn_guest-step.new.bench c.turn_guest-step.new.kept c.turn_guest-step.new.turn c.turn_guest-step.new.cached s c.in-Some.guest (unless c.turn_guest-step.result.left c.turn_guest-step.new.guest) l.step_run c.turn_guest-step.result.parity c.turn_guest-step.ensures.turned.0 (length c.replies.result.now + 1) = record { counts = c.turn_guest-step.ensures.counts; low = c.turn_guest-step.ensures.within; is = sym (c.turn_guest-step.ensures.step None); turned = c.turn_guest-step.ensures.turned.2.0; counted = c.turn_guest-step.ensures.turned.2.1; cached = c.turn_guest-step.ensures.cached; next = c.turn_guest-step.ensures.next } in
      let made : ℕ = length (tells_by (step_answer tdr line s) c.turn_guest-step.new.turn.act) in
      let room = guest-room l.place (given_in l.given) l.codes.now l.replies.items l.told.items (map (note_seen l.reports.items) l.notes.items) l.cached l.bundles.made (g.B.Bench.did c.args.bench.now) c.turn_guest-step.new.bench c.turn_guest-step.new.kept c.turn_guest-step.new.turn c.turn_guest-step.new.cached s c.in-Some.guest (unless c.turn_guest-step.result.left c.turn_guest-step.new.guest) l.step_run c.turn_guest-step.result.parity c.turn_guest-step.ensures.turned.0 l.lines.now l.guest l.run.host l.run.other (acting-alone l.place.machine l.lines.now l.run l.guest c.in-Some.guest c.requires.lines l.under_way (acts-as l.guest l.run.other c.in-Some.guest c.in-Some.is c.requires.acts)) (length c.replies.result.now + 1) at steps c.requires.lines (acts-as l.guest l.run.other c.in-Some.guest c.in-Some.is c.requires.acts) l.inside made (tells-few tdr line s c.turn_guest-step.new.turn.act) (no-tells tdr line s c.turn_guest-step.new.turn.act) (tells-none tdr line s c.turn_guest-step.new.turn.act) in
      let had = l.word_room in
      omega (arith, room, had);
}

pub invariant_of-self-clause-under_way : goal.invariant_of-self-clause-under_way
invariant_of-self-clause-under_way g c =
    let l = c.args.self.now in
    let answered = answered-of l.place.machine l.codes.now l.cached (length l.replies.items + 1) l.guest l.run.other c.in-Some.guest l.step_run (acts-as l.guest l.run.other c.in-Some.guest c.in-Some.is c.requires.acts) l.inside in
    still-at l.place.machine l.lines.now l.run (record l.run { other = c.answer_exit.new.kept }) (acting-alone l.place.machine l.lines.now l.run l.guest c.in-Some.guest c.requires.lines l.under_way (acts-as l.guest l.run.other c.in-Some.guest c.in-Some.is c.requires.acts)) refl (λ d is. c.answer_exit.ensures.under_way l.place.machine d is answered c.turn_guest-step.ensures.fits) l.under_way

pub invariant_of-self-clause-inside : goal.invariant_of-self-clause-inside
invariant_of-self-clause-inside g c =
    let l = c.args.self.now in
    let at = ap (λ (rs : List Reply). length rs + 1) c.replies.ensures in
    let s = step_seen c.turn_guest-step.result.step in
    let steps : StepsAt l.place (given_in l.given) l.codes.now l.replies.items l.told.items (map (note_seen l.reports.items) l.notes.items) l.cached l.bundles.made (g.B.Bench.did c.args.bench.now) c.turn_guest-step.new.bench c.turn_guest-step.new.kept c.turn_guest-step.new.turn c.turn_guest-step.new.cached s c.in-Some.guest c.leave_where.new.guest l.step_run c.turn_guest-step.result.parity c.turn_guest-step.ensures.turned.0 (length c.replies.result.now + 1) = record { counts = c.turn_guest-step.ensures.counts; low = c.turn_guest-step.ensures.within; is = sym (c.turn_guest-step.ensures.step None); turned = c.turn_guest-step.ensures.turned.2.0; counted = c.turn_guest-step.ensures.turned.2.1; cached = c.turn_guest-step.ensures.cached; next = subst (λ (h : Option GuestAt). IsNextGuest c.in-Some.guest s c.turn_guest-step.new.turn.reply h) (sym c.leave_where.ensures) c.turn_guest-step.ensures.next } in
    let answered = answered-of l.place.machine l.codes.now l.cached (length l.replies.items + 1) l.guest l.run.other c.in-Some.guest l.step_run (acts-as l.guest l.run.other c.in-Some.guest c.in-Some.is c.requires.acts) l.inside in
    let done = guest-steps l.place (given_in l.given) l.codes.now l.replies.items l.told.items (map (note_seen l.reports.items) l.notes.items) l.cached l.bundles.made (g.B.Bench.did c.args.bench.now) c.turn_guest-step.new.bench c.turn_guest-step.new.kept c.turn_guest-step.new.turn c.turn_guest-step.new.cached s c.in-Some.guest c.leave_where.new.guest l.step_run c.turn_guest-step.result.parity c.turn_guest-step.ensures.turned.0 c.answer_exit.new.kept (map (note_seen c.turn_guest-step.new.reports.items) c.note_by.new.notes.items) c.tell_by.new.words.items (length c.replies.result.now + 1) at steps (noted-as l.reports.items c.turn_guest-step.new.reports.items c.turn_guest-step.ensures.turned.0 c.place_behind-place.result l.notes.items c.note_by.new.notes.items (λ (z : Option Facts). notes_by (answer_with (step_ends c.in-Some.guest.tdr (length c.replies.result.now + 1) s) z) c.turn_guest-step.new.turn.act) c.turn_guest-step.ensures.turned.1.kept (placed-in c.as_slice.result.now c.turn_guest-step.new.reports.items l.reports.items c.turn_guest-step.ensures.turned.0 c.place_behind-place.result c.as_slice.ensures.value c.turn_guest-step.ensures.turned.1.kept (c.place_behind-place.ensures.facts l.reports.items c.turn_guest-step.ensures.turned.0 (ap length (sym c.reports-kept.ensures)))) l.places (c.note_by.ensures.noted c.in-Some.guest.tdr c.turn_guest-step.new.reports.items)) (c.tell_by.ensures.told c.in-Some.guest.tdr (length c.replies.result.now + 1))
    (c.answer_exit.ensures.answered answered) (subst (λ (h : Option GuestAt). IfSome h (λ y. IsLow y.walk × (y.list.now ≡ c.in-Some.guest.list.now))) (sym c.leave_where.ensures) (stays-kept c.turn_guest-step.result.left c.turn_guest-step.new.guest c.in-Some.guest.list.now c.turn_guest-step.ensures.kept)) c.turns_in_pieces.ensures l.lines.now l.guest l.run.host l.run.other (acting-alone l.place.machine l.lines.now l.run l.guest c.in-Some.guest c.requires.lines l.under_way (acts-as l.guest l.run.other c.in-Some.guest c.in-Some.is c.requires.acts)) c.requires.lines (acts-as l.guest l.run.other c.in-Some.guest c.in-Some.is c.requires.acts) l.inside c.answer_exit.ensures.seen in
    done.keeps

pub invariant_of-self-clause-note_room : goal.invariant_of-self-clause-note_room
invariant_of-self-clause-note_room g c =
    let l = c.args.self.now in
    let at = ap (λ (rs : List Reply). length rs + 1) c.replies.ensures in
    let s = step_seen c.turn_guest-step.result.step in
    let steps : StepsAt l.place (given_in l.given) l.codes.now l.replies.items l.told.items (map (note_seen l.reports.items) l.notes.items) l.cached l.bundles.made (g.B.Bench.did c.args.bench.now) c.turn_guest-step.new.bench c.turn_guest-step.new.kept c.turn_guest-step.new.turn c.turn_guest-step.new.cached s c.in-Some.guest c.leave_where.new.guest l.step_run c.turn_guest-step.result.parity c.turn_guest-step.ensures.turned.0 (length c.replies.result.now + 1) = record { counts = c.turn_guest-step.ensures.counts; low = c.turn_guest-step.ensures.within; is = sym (c.turn_guest-step.ensures.step None); turned = c.turn_guest-step.ensures.turned.2.0; counted = c.turn_guest-step.ensures.turned.2.1; cached = c.turn_guest-step.ensures.cached; next = subst (λ (h : Option GuestAt). IsNextGuest c.in-Some.guest s c.turn_guest-step.new.turn.reply h) (sym c.leave_where.ensures) c.turn_guest-step.ensures.next } in
    let answered = answered-of l.place.machine l.codes.now l.cached (length l.replies.items + 1) l.guest l.run.other c.in-Some.guest l.step_run (acts-as l.guest l.run.other c.in-Some.guest c.in-Some.is c.requires.acts) l.inside in
    let done = guest-steps l.place (given_in l.given) l.codes.now l.replies.items l.told.items (map (note_seen l.reports.items) l.notes.items) l.cached l.bundles.made (g.B.Bench.did c.args.bench.now) c.turn_guest-step.new.bench c.turn_guest-step.new.kept c.turn_guest-step.new.turn c.turn_guest-step.new.cached s c.in-Some.guest c.leave_where.new.guest l.step_run c.turn_guest-step.result.parity c.turn_guest-step.ensures.turned.0 c.answer_exit.new.kept (map (note_seen c.turn_guest-step.new.reports.items) c.note_by.new.notes.items) c.tell_by.new.words.items (length c.replies.result.now + 1) at steps (noted-as l.reports.items c.turn_guest-step.new.reports.items c.turn_guest-step.ensures.turned.0 c.place_behind-place.result l.notes.items c.note_by.new.notes.items (λ (z : Option Facts). notes_by (answer_with (step_ends c.in-Some.guest.tdr (length c.replies.result.now + 1) s) z) c.turn_guest-step.new.turn.act) c.turn_guest-step.ensures.turned.1.kept (placed-in c.as_slice.result.now c.turn_guest-step.new.reports.items l.reports.items c.turn_guest-step.ensures.turned.0 c.place_behind-place.result c.as_slice.ensures.value c.turn_guest-step.ensures.turned.1.kept (c.place_behind-place.ensures.facts l.reports.items c.turn_guest-step.ensures.turned.0 (ap length (sym c.reports-kept.ensures)))) l.places (c.note_by.ensures.noted c.in-Some.guest.tdr c.turn_guest-step.new.reports.items)) (c.tell_by.ensures.told c.in-Some.guest.tdr (length c.replies.result.now + 1))
    (c.answer_exit.ensures.answered answered) (subst (λ (h : Option GuestAt). IfSome h (λ y. IsLow y.walk × (y.list.now ≡ c.in-Some.guest.list.now))) (sym c.leave_where.ensures) (stays-kept c.turn_guest-step.result.left c.turn_guest-step.new.guest c.in-Some.guest.list.now c.turn_guest-step.ensures.kept)) c.turns_in_pieces.ensures l.lines.now l.guest l.run.host l.run.other (acting-alone l.place.machine l.lines.now l.run l.guest c.in-Some.guest c.requires.lines l.under_way (acts-as l.guest l.run.other c.in-Some.guest c.in-Some.is c.requires.acts)) c.requires.lines (acts-as l.guest l.run.other c.in-Some.guest c.in-Some.is c.requires.acts) l.inside c.answer_exit.ensures.seen in
    let made : ℕ = length (notes_by (answer_with (step_ends c.in-Some.guest.tdr (length c.replies.result.now + 1) s) (option_map (facts_at c.turn_guest-step.new.reports.items) c.place_behind-place.result)) c.turn_guest-step.new.turn.act) in
    let room = done.room made (notes-few c.in-Some.guest.tdr (length c.replies.result.now + 1) s (option_map (facts_at c.turn_guest-step.new.reports.items) c.place_behind-place.result) c.turn_guest-step.new.turn.act) (no-notes c.in-Some.guest.tdr (length c.replies.result.now + 1) s (option_map (facts_at c.turn_guest-step.new.reports.items) c.place_behind-place.result) c.turn_guest-step.new.turn.act) (notes-none c.in-Some.guest.tdr (length c.replies.result.now + 1) s (option_map (facts_at c.turn_guest-step.new.reports.items) c.place_behind-place.result) c.turn_guest-step.new.turn.act) in
    let had = l.note_room in
    let count = c.note_by.ensures.count c.in-Some.guest.tdr c.turn_guest-step.new.reports.items in
    let more = c.note_by.ensures.room in
    omega (arith, room, had, count, more)

pub invariant_of-self-clause-word_room : goal.invariant_of-self-clause-word_room
invariant_of-self-clause-word_room g c =
    let l = c.args.self.now in
    let at = ap (λ (rs : List Reply). length rs + 1) c.replies.ensures in
    let s = step_seen c.turn_guest-step.result.step in
    let steps : StepsAt l.place (given_in l.given) l.codes.now l.replies.items l.told.items (map (note_seen l.reports.items) l.notes.items) l.cached l.bundles.made (g.B.Bench.did c.args.bench.now) c.turn_guest-step.new.bench c.turn_guest-step.new.kept c.turn_guest-step.new.turn c.turn_guest-step.new.cached s c.in-Some.guest c.leave_where.new.guest l.step_run c.turn_guest-step.result.parity c.turn_guest-step.ensures.turned.0 (length c.replies.result.now + 1) = record { counts = c.turn_guest-step.ensures.counts; low = c.turn_guest-step.ensures.within; is = sym (c.turn_guest-step.ensures.step None); turned = c.turn_guest-step.ensures.turned.2.0; counted = c.turn_guest-step.ensures.turned.2.1; cached = c.turn_guest-step.ensures.cached; next = subst (λ (h : Option GuestAt). IsNextGuest c.in-Some.guest s c.turn_guest-step.new.turn.reply h) (sym c.leave_where.ensures) c.turn_guest-step.ensures.next } in
    let answered = answered-of l.place.machine l.codes.now l.cached (length l.replies.items + 1) l.guest l.run.other c.in-Some.guest l.step_run (acts-as l.guest l.run.other c.in-Some.guest c.in-Some.is c.requires.acts) l.inside in
    let done = guest-steps l.place (given_in l.given) l.codes.now l.replies.items l.told.items (map (note_seen l.reports.items) l.notes.items) l.cached l.bundles.made (g.B.Bench.did c.args.bench.now) c.turn_guest-step.new.bench c.turn_guest-step.new.kept c.turn_guest-step.new.turn c.turn_guest-step.new.cached s c.in-Some.guest c.leave_where.new.guest l.step_run c.turn_guest-step.result.parity c.turn_guest-step.ensures.turned.0 c.answer_exit.new.kept (map (note_seen c.turn_guest-step.new.reports.items) c.note_by.new.notes.items) c.tell_by.new.words.items (length c.replies.result.now + 1) at steps (noted-as l.reports.items c.turn_guest-step.new.reports.items c.turn_guest-step.ensures.turned.0 c.place_behind-place.result l.notes.items c.note_by.new.notes.items (λ (z : Option Facts). notes_by (answer_with (step_ends c.in-Some.guest.tdr (length c.replies.result.now + 1) s) z) c.turn_guest-step.new.turn.act) c.turn_guest-step.ensures.turned.1.kept (placed-in c.as_slice.result.now c.turn_guest-step.new.reports.items l.reports.items c.turn_guest-step.ensures.turned.0 c.place_behind-place.result c.as_slice.ensures.value c.turn_guest-step.ensures.turned.1.kept (c.place_behind-place.ensures.facts l.reports.items c.turn_guest-step.ensures.turned.0 (ap length (sym c.reports-kept.ensures)))) l.places (c.note_by.ensures.noted c.in-Some.guest.tdr c.turn_guest-step.new.reports.items)) (c.tell_by.ensures.told c.in-Some.guest.tdr (length c.replies.result.now + 1))
    (c.answer_exit.ensures.answered answered) (subst (λ (h : Option GuestAt). IfSome h (λ y. IsLow y.walk × (y.list.now ≡ c.in-Some.guest.list.now))) (sym c.leave_where.ensures) (stays-kept c.turn_guest-step.result.left c.turn_guest-step.new.guest c.in-Some.guest.list.now c.turn_guest-step.ensures.kept)) c.turns_in_pieces.ensures l.lines.now l.guest l.run.host l.run.other (acting-alone l.place.machine l.lines.now l.run l.guest c.in-Some.guest c.requires.lines l.under_way (acts-as l.guest l.run.other c.in-Some.guest c.in-Some.is c.requires.acts)) c.requires.lines (acts-as l.guest l.run.other c.in-Some.guest c.in-Some.is c.requires.acts) l.inside c.answer_exit.ensures.seen in
    let made : ℕ = length (tells_by (step_answer c.in-Some.guest.tdr (length c.replies.result.now + 1) s) c.turn_guest-step.new.turn.act) in
    let room = done.room made (tells-few c.in-Some.guest.tdr (length c.replies.result.now + 1) s c.turn_guest-step.new.turn.act) (no-tells c.in-Some.guest.tdr (length c.replies.result.now + 1) s c.turn_guest-step.new.turn.act) (tells-none c.in-Some.guest.tdr (length c.replies.result.now + 1) s c.turn_guest-step.new.turn.act) in
    let had = l.word_room in
    let count = c.tell_by.ensures.count c.in-Some.guest.tdr (length c.replies.result.now + 1) in
    let more = c.tell_by.ensures.room in
    omega (arith, room, had, count, more)

pub invariant_of-self-clause-fact_room : goal.invariant_of-self-clause-fact_room
invariant_of-self-clause-fact_room g c =
    let l = c.args.self.now in
    let at = ap (λ (rs : List Reply). length rs + 1) c.replies.ensures in
    let s = step_seen c.turn_guest-step.result.step in
    let steps : StepsAt l.place (given_in l.given) l.codes.now l.replies.items l.told.items (map (note_seen l.reports.items) l.notes.items) l.cached l.bundles.made (g.B.Bench.did c.args.bench.now) c.turn_guest-step.new.bench c.turn_guest-step.new.kept c.turn_guest-step.new.turn c.turn_guest-step.new.cached s c.in-Some.guest c.leave_where.new.guest l.step_run c.turn_guest-step.result.parity c.turn_guest-step.ensures.turned.0 (length c.replies.result.now + 1) = record { counts = c.turn_guest-step.ensures.counts; low = c.turn_guest-step.ensures.within; is = sym (c.turn_guest-step.ensures.step None); turned = c.turn_guest-step.ensures.turned.2.0; counted = c.turn_guest-step.ensures.turned.2.1; cached = c.turn_guest-step.ensures.cached; next = subst (λ (h : Option GuestAt). IsNextGuest c.in-Some.guest s c.turn_guest-step.new.turn.reply h) (sym c.leave_where.ensures) c.turn_guest-step.ensures.next } in
    let answered = answered-of l.place.machine l.codes.now l.cached (length l.replies.items + 1) l.guest l.run.other c.in-Some.guest l.step_run (acts-as l.guest l.run.other c.in-Some.guest c.in-Some.is c.requires.acts) l.inside in
    let done = guest-steps l.place (given_in l.given) l.codes.now l.replies.items l.told.items (map (note_seen l.reports.items) l.notes.items) l.cached l.bundles.made (g.B.Bench.did c.args.bench.now) c.turn_guest-step.new.bench c.turn_guest-step.new.kept c.turn_guest-step.new.turn c.turn_guest-step.new.cached s c.in-Some.guest c.leave_where.new.guest l.step_run c.turn_guest-step.result.parity c.turn_guest-step.ensures.turned.0 c.answer_exit.new.kept (map (note_seen c.turn_guest-step.new.reports.items) c.note_by.new.notes.items) c.tell_by.new.words.items (length c.replies.result.now + 1) at steps (noted-as l.reports.items c.turn_guest-step.new.reports.items c.turn_guest-step.ensures.turned.0 c.place_behind-place.result l.notes.items c.note_by.new.notes.items (λ (z : Option Facts). notes_by (answer_with (step_ends c.in-Some.guest.tdr (length c.replies.result.now + 1) s) z) c.turn_guest-step.new.turn.act) c.turn_guest-step.ensures.turned.1.kept (placed-in c.as_slice.result.now c.turn_guest-step.new.reports.items l.reports.items c.turn_guest-step.ensures.turned.0 c.place_behind-place.result c.as_slice.ensures.value c.turn_guest-step.ensures.turned.1.kept (c.place_behind-place.ensures.facts l.reports.items c.turn_guest-step.ensures.turned.0 (ap length (sym c.reports-kept.ensures)))) l.places (c.note_by.ensures.noted c.in-Some.guest.tdr c.turn_guest-step.new.reports.items)) (c.tell_by.ensures.told c.in-Some.guest.tdr (length c.replies.result.now + 1))
    (c.answer_exit.ensures.answered answered) (subst (λ (h : Option GuestAt). IfSome h (λ y. IsLow y.walk × (y.list.now ≡ c.in-Some.guest.list.now))) (sym c.leave_where.ensures) (stays-kept c.turn_guest-step.result.left c.turn_guest-step.new.guest c.in-Some.guest.list.now c.turn_guest-step.ensures.kept)) c.turns_in_pieces.ensures l.lines.now l.guest l.run.host l.run.other (acting-alone l.place.machine l.lines.now l.run l.guest c.in-Some.guest c.requires.lines l.under_way (acts-as l.guest l.run.other c.in-Some.guest c.in-Some.is c.requires.acts)) c.requires.lines (acts-as l.guest l.run.other c.in-Some.guest c.in-Some.is c.requires.acts) l.inside c.answer_exit.ensures.seen in
    let room = done.reports in
    let had = l.fact_room in
    let count = ap length c.turn_guest-step.ensures.turned.1.kept ∙ length-append l.reports.items (facts_in c.turn_guest-step.ensures.turned.0) in
    let more = c.turn_guest-step.ensures.turned.1.room in
    omega (arith, room, had, count, more)

pub invariant_of-self-clause-few_facts : goal.invariant_of-self-clause-few_facts
invariant_of-self-clause-few_facts g c =
    let l = c.args.self.now in
    let at = ap (λ (rs : List Reply). length rs + 1) c.replies.ensures in
    let s = step_seen c.turn_guest-step.result.step in
    let steps : StepsAt l.place (given_in l.given) l.codes.now l.replies.items l.told.items (map (note_seen l.reports.items) l.notes.items) l.cached l.bundles.made (g.B.Bench.did c.args.bench.now) c.turn_guest-step.new.bench c.turn_guest-step.new.kept c.turn_guest-step.new.turn c.turn_guest-step.new.cached s c.in-Some.guest c.leave_where.new.guest l.step_run c.turn_guest-step.result.parity c.turn_guest-step.ensures.turned.0 (length c.replies.result.now + 1) = record { counts = c.turn_guest-step.ensures.counts; low = c.turn_guest-step.ensures.within; is = sym (c.turn_guest-step.ensures.step None); turned = c.turn_guest-step.ensures.turned.2.0; counted = c.turn_guest-step.ensures.turned.2.1; cached = c.turn_guest-step.ensures.cached; next = subst (λ (h : Option GuestAt). IsNextGuest c.in-Some.guest s c.turn_guest-step.new.turn.reply h) (sym c.leave_where.ensures) c.turn_guest-step.ensures.next } in
    let answered = answered-of l.place.machine l.codes.now l.cached (length l.replies.items + 1) l.guest l.run.other c.in-Some.guest l.step_run (acts-as l.guest l.run.other c.in-Some.guest c.in-Some.is c.requires.acts) l.inside in
    let done = guest-steps l.place (given_in l.given) l.codes.now l.replies.items l.told.items (map (note_seen l.reports.items) l.notes.items) l.cached l.bundles.made (g.B.Bench.did c.args.bench.now) c.turn_guest-step.new.bench c.turn_guest-step.new.kept c.turn_guest-step.new.turn c.turn_guest-step.new.cached s c.in-Some.guest c.leave_where.new.guest l.step_run c.turn_guest-step.result.parity c.turn_guest-step.ensures.turned.0 c.answer_exit.new.kept (map (note_seen c.turn_guest-step.new.reports.items) c.note_by.new.notes.items) c.tell_by.new.words.items (length c.replies.result.now + 1) at steps (noted-as l.reports.items c.turn_guest-step.new.reports.items c.turn_guest-step.ensures.turned.0 c.place_behind-place.result l.notes.items c.note_by.new.notes.items (λ (z : Option Facts). notes_by (answer_with (step_ends c.in-Some.guest.tdr (length c.replies.result.now + 1) s) z) c.turn_guest-step.new.turn.act) c.turn_guest-step.ensures.turned.1.kept (placed-in c.as_slice.result.now c.turn_guest-step.new.reports.items l.reports.items c.turn_guest-step.ensures.turned.0 c.place_behind-place.result c.as_slice.ensures.value c.turn_guest-step.ensures.turned.1.kept (c.place_behind-place.ensures.facts l.reports.items c.turn_guest-step.ensures.turned.0 (ap length (sym c.reports-kept.ensures)))) l.places (c.note_by.ensures.noted c.in-Some.guest.tdr c.turn_guest-step.new.reports.items)) (c.tell_by.ensures.told c.in-Some.guest.tdr (length c.replies.result.now + 1))
    (c.answer_exit.ensures.answered answered) (subst (λ (h : Option GuestAt). IfSome h (λ y. IsLow y.walk × (y.list.now ≡ c.in-Some.guest.list.now))) (sym c.leave_where.ensures) (stays-kept c.turn_guest-step.result.left c.turn_guest-step.new.guest c.in-Some.guest.list.now c.turn_guest-step.ensures.kept)) c.turns_in_pieces.ensures l.lines.now l.guest l.run.host l.run.other (acting-alone l.place.machine l.lines.now l.run l.guest c.in-Some.guest c.requires.lines l.under_way (acts-as l.guest l.run.other c.in-Some.guest c.in-Some.is c.requires.acts)) c.requires.lines (acts-as l.guest l.run.other c.in-Some.guest c.in-Some.is c.requires.acts) l.inside c.answer_exit.ensures.seen in
    let room = done.reports in
    let had = l.few_facts in
    let count = ap length c.turn_guest-step.ensures.turned.1.kept ∙ length-append l.reports.items (facts_in c.turn_guest-step.ensures.turned.0) in
    omega (arith, room, had, count)

pub invariant_of-self-clause-places : goal.invariant_of-self-clause-places
invariant_of-self-clause-places g c =
    let l = c.args.self.now in
    let count = ap length c.turn_guest-step.ensures.turned.1.kept ∙ length-append l.reports.items (facts_in c.turn_guest-step.ensures.turned.0) in
    let more : length l.reports.items ≤ length c.turn_guest-step.new.reports.items = omega (arith, count) in
    c.note_by.ensures.placed (length c.turn_guest-step.new.reports.items) (placed-more (length l.reports.items) (length c.turn_guest-step.new.reports.items) l.notes.items more l.places)
    (subst (λ (z : List Facts). IfSome c.place_behind-place.result (λ at. at < length z)) c.as_slice.ensures.value c.place_behind-place.ensures.placed)

pub returns-clause-moved : goal.returns-clause-moved
returns-clause-moved g c =
    let l = c.args.self.now in
    let at = ap (λ (rs : List Reply). length rs + 1) c.replies.ensures in
    let s = step_seen c.turn_guest-step.result.step in
    let steps : StepsAt l.place (given_in l.given) l.codes.now l.replies.items l.told.items (map (note_seen l.reports.items) l.notes.items) l.cached l.bundles.made (g.B.Bench.did c.args.bench.now) c.turn_guest-step.new.bench c.turn_guest-step.new.kept c.turn_guest-step.new.turn c.turn_guest-step.new.cached s c.in-Some.guest c.leave_where.new.guest l.step_run c.turn_guest-step.result.parity c.turn_guest-step.ensures.turned.0 (length c.replies.result.now + 1) = record { counts = c.turn_guest-step.ensures.counts; low = c.turn_guest-step.ensures.within; is = sym (c.turn_guest-step.ensures.step None); turned = c.turn_guest-step.ensures.turned.2.0; counted = c.turn_guest-step.ensures.turned.2.1; cached = c.turn_guest-step.ensures.cached; next = subst (λ (h : Option GuestAt). IsNextGuest c.in-Some.guest s c.turn_guest-step.new.turn.reply h) (sym c.leave_where.ensures) c.turn_guest-step.ensures.next } in
    let answered = answered-of l.place.machine l.codes.now l.cached (length l.replies.items + 1) l.guest l.run.other c.in-Some.guest l.step_run (acts-as l.guest l.run.other c.in-Some.guest c.in-Some.is c.requires.acts) l.inside in
    let done = guest-steps l.place (given_in l.given) l.codes.now l.replies.items l.told.items (map (note_seen l.reports.items) l.notes.items) l.cached l.bundles.made (g.B.Bench.did c.args.bench.now) c.turn_guest-step.new.bench c.turn_guest-step.new.kept c.turn_guest-step.new.turn c.turn_guest-step.new.cached s c.in-Some.guest c.leave_where.new.guest l.step_run c.turn_guest-step.result.parity c.turn_guest-step.ensures.turned.0 c.answer_exit.new.kept (map (note_seen c.turn_guest-step.new.reports.items) c.note_by.new.notes.items) c.tell_by.new.words.items (length c.replies.result.now + 1) at steps (noted-as l.reports.items c.turn_guest-step.new.reports.items c.turn_guest-step.ensures.turned.0 c.place_behind-place.result l.notes.items c.note_by.new.notes.items (λ (z : Option Facts). notes_by (answer_with (step_ends c.in-Some.guest.tdr (length c.replies.result.now + 1) s) z) c.turn_guest-step.new.turn.act) c.turn_guest-step.ensures.turned.1.kept (placed-in c.as_slice.result.now c.turn_guest-step.new.reports.items l.reports.items c.turn_guest-step.ensures.turned.0 c.place_behind-place.result c.as_slice.ensures.value c.turn_guest-step.ensures.turned.1.kept (c.place_behind-place.ensures.facts l.reports.items c.turn_guest-step.ensures.turned.0 (ap length (sym c.reports-kept.ensures)))) l.places (c.note_by.ensures.noted c.in-Some.guest.tdr c.turn_guest-step.new.reports.items)) (c.tell_by.ensures.told c.in-Some.guest.tdr (length c.replies.result.now + 1))
    (c.answer_exit.ensures.answered answered) (subst (λ (h : Option GuestAt). IfSome h (λ y. IsLow y.walk × (y.list.now ≡ c.in-Some.guest.list.now))) (sym c.leave_where.ensures) (stays-kept c.turn_guest-step.result.left c.turn_guest-step.new.guest c.in-Some.guest.list.now c.turn_guest-step.ensures.kept)) c.turns_in_pieces.ensures l.lines.now l.guest l.run.host l.run.other (acting-alone l.place.machine l.lines.now l.run l.guest c.in-Some.guest c.requires.lines l.under_way (acts-as l.guest l.run.other c.in-Some.guest c.in-Some.is c.requires.acts)) c.requires.lines (acts-as l.guest l.run.other c.in-Some.guest c.in-Some.is c.requires.acts) l.inside c.answer_exit.ensures.seen in
    ((done.moved.pieces, done.moved.did_them, (refl, refl, refl, record { event_is = c.turn_guest-step.new.turn.event; turns = done.moved.turn; tells = c.event_told.ensures ∙ done.moved.tells })), done.moved.fewer)

pub invariant_of-self-clause-bundle_room : goal.invariant_of-self-clause-bundle_room
invariant_of-self-clause-bundle_room g c =
    let l = c.args.self.now in
    let answered = answered-of l.place.machine l.codes.now l.cached (length l.replies.items + 1) l.guest l.run.other c.in-Some.guest l.step_run (acts-as l.guest l.run.other c.in-Some.guest c.in-Some.is c.requires.acts) l.inside in
    let same = exit-room count_of l.lines.now l.run.host l.run.other c.answer_exit.new.kept (step_seen c.turn_guest-step.result.step) c.turn_guest-step.new.turn.reply (acting-alone l.place.machine l.lines.now l.run l.guest c.in-Some.guest c.requires.lines l.under_way (acts-as l.guest l.run.other c.in-Some.guest c.in-Some.is c.requires.acts)) c.answer_exit.ensures.seen (c.answer_exit.ensures.answered answered) in
    let had = l.bundle_room in
    omega (arith, same, had)

pub invariant_of-self-clause-payload_room : goal.invariant_of-self-clause-payload_room
invariant_of-self-clause-payload_room g c =
    let l = c.args.self.now in
    let answered = answered-of l.place.machine l.codes.now l.cached (length l.replies.items + 1) l.guest l.run.other c.in-Some.guest l.step_run (acts-as l.guest l.run.other c.in-Some.guest c.in-Some.is c.requires.acts) l.inside in
    let same = exit-room words_of l.lines.now l.run.host l.run.other c.answer_exit.new.kept (step_seen c.turn_guest-step.result.step) c.turn_guest-step.new.turn.reply (acting-alone l.place.machine l.lines.now l.run l.guest c.in-Some.guest c.requires.lines l.under_way (acts-as l.guest l.run.other c.in-Some.guest c.in-Some.is c.requires.acts)) c.answer_exit.ensures.seen (c.answer_exit.ensures.answered answered) in
    let had = l.payload_room in
    omega (arith, same, had)

pub invariant_of-self-clause-takes : goal.invariant_of-self-clause-takes
invariant_of-self-clause-takes g c = let l = c.args.self.now in c.answer_exit.ensures.takes (given_in l.given) l.takes
