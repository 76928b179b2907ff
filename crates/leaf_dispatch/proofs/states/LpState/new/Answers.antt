use Rattle.std.proofs.Common.{◌≡◌, ◌∙◌, ℕ, length, ap, arith}
use Rattle.leaf_dispatch.specs.NoteRooms.{longest_in, lines_room, most_reports, lines_reports}
use Rattle.leaf_dispatch.specs.BundleRooms.{count_of, words_of}
use Rattle.leaf_dispatch.proofs.LineEvents.{room-begun}
use Rattle.leaf_dispatch.proofs.FactRooms.{reports-begun}
use Rattle.leaf_dispatch.proofs.Making.{makes-begun}
use Rattle.leaf_table.specs.Table.{code_in}
use Rattle.leaf_dispatch.proofs.states.LpState.new.Goals as goal

pub invariant_of-result-clause-bundle_room : goal.invariant_of-result-clause-bundle_room
invariant_of-result-clause-bundle_room c =
    let begun = makes-begun count_of c.args.calls.now in
    let is = c.lines_bundles-count.ensures in
    let room = c.in-Ok-new.ensures.room in
    omega (arith, begun, is, room)

pub invariant_of-result-clause-payload_room : goal.invariant_of-result-clause-payload_room
invariant_of-result-clause-payload_room c =
    let begun = makes-begun words_of c.args.calls.now in
    let is = c.lines_payloads-words.ensures in
    let room = c.in-Ok-new.ensures.word_room in
    omega (arith, begun, is, room)

pub invariant_of-result-clause-note_room : goal.invariant_of-result-clause-note_room
invariant_of-result-clause-note_room c =
    let none = ap length c.in-Ok-with_capacity.ensures.items in
    let begun = room-begun (longest_in c.args.inputs.codes.now) c.args.calls.now in
    let is : c.in-Some.room ≡ lines_room (longest_in c.args.inputs.codes.now) c.args.calls.now = c.in-Some.ensures ∙ ap (λ (n : ℕ). lines_room n c.args.calls.now) c.longest.ensures in
    let room = c.in-Ok-with_capacity.ensures.capacity in
    omega (arith, none, begun, is, room)

pub invariant_of-result-clause-word_room : goal.invariant_of-result-clause-word_room
invariant_of-result-clause-word_room c =
    let none = ap length c.in-Ok-with_capacity-2.ensures.items in
    let begun = room-begun (longest_in c.args.inputs.codes.now) c.args.calls.now in
    let is : c.in-Some.room ≡ lines_room (longest_in c.args.inputs.codes.now) c.args.calls.now = c.in-Some.ensures ∙ ap (λ (n : ℕ). lines_room n c.args.calls.now) c.longest.ensures in
    let room = c.in-Ok-with_capacity-2.ensures.capacity in
    omega (arith, none, begun, is, room)

pub invariant_of-result-clause-fact_room : goal.invariant_of-result-clause-fact_room
invariant_of-result-clause-fact_room c =
    let none = ap length c.in-Ok-with_capacity-3.ensures.items in
    let begun = reports-begun (most_reports c.args.inputs.codes.now) (code_in c.args.inputs.codes.now) c.args.calls.now in
    let is : c.in-Some-lines_reports.facts ≡ lines_reports (most_reports c.args.inputs.codes.now) c.args.calls.now = c.in-Some-lines_reports.ensures ∙ ap (λ (n : ℕ). lines_reports n c.args.calls.now) c.most_reports.ensures in
    let room = c.in-Ok-with_capacity-3.ensures.capacity in
    omega (arith, none, begun, is, room)

pub invariant_of-result-clause-few_facts : goal.invariant_of-result-clause-few_facts
invariant_of-result-clause-few_facts c =
    let none = ap length c.in-Ok-with_capacity-3.ensures.items in
    let begun = reports-begun (most_reports c.args.inputs.codes.now) (code_in c.args.inputs.codes.now) c.args.calls.now in
    let is : c.in-Some-lines_reports.facts ≡ lines_reports (most_reports c.args.inputs.codes.now) c.args.calls.now = c.in-Some-lines_reports.ensures ∙ ap (λ (n : ℕ). lines_reports n c.args.calls.now) c.most_reports.ensures in
    let few = c.if-facts.false in
    omega (arith, none, begun, is, few)
