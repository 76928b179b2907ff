use Rattle.std.proofs.Common.{◌+◌, length}
use Rattle.leaf_table.specs.Given.{given_in}
use Rattle.leaf_dispatch.specs.CallRuns.{call_run_seen}
use Rattle.leaf_dispatch.specs.Inside.{guest_in}
use Rattle.leaf_dispatch.specs.Paused.{bundle_of, call_run_with, paused_seen}
use Rattle.leaf_dispatch.proofs.Pausing.{line-with, run-with, takes-with, room-with, guest-with, inside-with, same-rooms}
use Rattle.leaf_dispatch.proofs.paused.PausedLp.resume.Goals as goal

pub invariant_of-result-clause-under_way : goal.invariant_of-result-clause-under_way
invariant_of-result-clause-under_way c =
    let p = c.args.self in
    let g = given_in c.args.inputs.given in
    let k = c.with_input_of.result in
    line-with g p.place.machine c.args.lines.now p.run k c.with_input_of.ensures.host c.with_input_of.ensures.other c.requires.under_way

pub invariant_of-result-clause-inside : goal.invariant_of-result-clause-inside
invariant_of-result-clause-inside c =
    let p = c.args.self in
    let g = given_in c.args.inputs.given in
    let k = c.with_input_of.result in
    inside-with g p.place.machine c.args.inputs.codes.now p.cached (length p.replies.items + 1) p.guest c.with_list.result p.run.other k.other p.step_run c.with_list.ensures c.with_input_of.ensures.other c.requires.inside

pub invariant_of-result-clause-note_room : goal.invariant_of-result-clause-note_room
invariant_of-result-clause-note_room c =
    let p = c.args.self in
    let g = given_in c.args.inputs.given in
    let k = c.with_input_of.result in
    let rooms = same-rooms c.args.inputs.codes.now c.args.lines.now (call_run_with (bundle_of g p.run.other) p.run) (call_run_seen k) (guest_in p.guest p.step_run) (guest_in c.with_list.result p.step_run) p.replies p.notes p.reports p.told p.bundles
    (run-with g p.run k c.with_input_of.ensures.host c.with_input_of.ensures.other) (guest-with c.args.inputs.codes.now p.guest c.with_list.result p.step_run c.with_list.ensures) c.requires.rooms in
    rooms.note_room

pub invariant_of-result-clause-word_room : goal.invariant_of-result-clause-word_room
invariant_of-result-clause-word_room c =
    let p = c.args.self in
    let g = given_in c.args.inputs.given in
    let k = c.with_input_of.result in
    let rooms = same-rooms c.args.inputs.codes.now c.args.lines.now (call_run_with (bundle_of g p.run.other) p.run) (call_run_seen k) (guest_in p.guest p.step_run) (guest_in c.with_list.result p.step_run) p.replies p.notes p.reports p.told p.bundles
    (run-with g p.run k c.with_input_of.ensures.host c.with_input_of.ensures.other) (guest-with c.args.inputs.codes.now p.guest c.with_list.result p.step_run c.with_list.ensures) c.requires.rooms in
    rooms.word_room

pub invariant_of-result-clause-fact_room : goal.invariant_of-result-clause-fact_room
invariant_of-result-clause-fact_room c =
    let p = c.args.self in
    let g = given_in c.args.inputs.given in
    let k = c.with_input_of.result in
    let rooms = same-rooms c.args.inputs.codes.now c.args.lines.now (call_run_with (bundle_of g p.run.other) p.run) (call_run_seen k) (guest_in p.guest p.step_run) (guest_in c.with_list.result p.step_run) p.replies p.notes p.reports p.told p.bundles
    (run-with g p.run k c.with_input_of.ensures.host c.with_input_of.ensures.other) (guest-with c.args.inputs.codes.now p.guest c.with_list.result p.step_run c.with_list.ensures) c.requires.rooms in
    rooms.fact_room

pub invariant_of-result-clause-few_facts : goal.invariant_of-result-clause-few_facts
invariant_of-result-clause-few_facts c =
    let p = c.args.self in
    let g = given_in c.args.inputs.given in
    let k = c.with_input_of.result in
    let rooms = same-rooms c.args.inputs.codes.now c.args.lines.now (call_run_with (bundle_of g p.run.other) p.run) (call_run_seen k) (guest_in p.guest p.step_run) (guest_in c.with_list.result p.step_run) p.replies p.notes p.reports p.told p.bundles
    (run-with g p.run k c.with_input_of.ensures.host c.with_input_of.ensures.other) (guest-with c.args.inputs.codes.now p.guest c.with_list.result p.step_run c.with_list.ensures) c.requires.rooms in
    rooms.few_facts

pub invariant_of-result-clause-bundle_room : goal.invariant_of-result-clause-bundle_room
invariant_of-result-clause-bundle_room c =
    let p = c.args.self in
    let g = given_in c.args.inputs.given in
    let k = c.with_input_of.result in
    let rooms = same-rooms c.args.inputs.codes.now c.args.lines.now (call_run_with (bundle_of g p.run.other) p.run) (call_run_seen k) (guest_in p.guest p.step_run) (guest_in c.with_list.result p.step_run) p.replies p.notes p.reports p.told p.bundles
    (run-with g p.run k c.with_input_of.ensures.host c.with_input_of.ensures.other) (guest-with c.args.inputs.codes.now p.guest c.with_list.result p.step_run c.with_list.ensures) c.requires.rooms in
    rooms.bundle_room

pub invariant_of-result-clause-payload_room : goal.invariant_of-result-clause-payload_room
invariant_of-result-clause-payload_room c =
    let p = c.args.self in
    let g = given_in c.args.inputs.given in
    let k = c.with_input_of.result in
    let rooms = same-rooms c.args.inputs.codes.now c.args.lines.now (call_run_with (bundle_of g p.run.other) p.run) (call_run_seen k) (guest_in p.guest p.step_run) (guest_in c.with_list.result p.step_run) p.replies p.notes p.reports p.told p.bundles
    (run-with g p.run k c.with_input_of.ensures.host c.with_input_of.ensures.other) (guest-with c.args.inputs.codes.now p.guest c.with_list.result p.step_run c.with_list.ensures) c.requires.rooms in
    rooms.payload_room

pub invariant_of-result-clause-page_room : goal.invariant_of-result-clause-page_room
invariant_of-result-clause-page_room c = room-with (given_in c.args.inputs.given) c.args.self.spare c.args.self.run.other c.with_input_of.result.other c.with_input_of.ensures.other c.args.self.page_room

pub invariant_of-result-clause-takes : goal.invariant_of-result-clause-takes
invariant_of-result-clause-takes c = takes-with (given_in c.args.inputs.given) c.args.self.run.other c.with_input_of.result.other c.with_input_of.ensures.other c.requires.has

pub returns-clause-seen : goal.returns-clause-seen
returns-clause-seen c =
    let p = c.args.self in
    let g = given_in c.args.inputs.given in
    let k = c.with_input_of.result in
    let run = run-with g p.run k c.with_input_of.ensures.host c.with_input_of.ensures.other in
    let guest = guest-with c.args.inputs.codes.now p.guest c.with_list.result p.step_run c.with_list.ensures in
    λ i. record (paused_seen p c.args.lines.now g) { run = run i; guest = guest i }
