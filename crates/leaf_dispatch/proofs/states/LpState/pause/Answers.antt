use Rattle.std.proofs.Common.{◌+◌, length}
use Rattle.leaf_table.specs.Given.{given_in}
use Rattle.leaf_dispatch.specs.CallRuns.{call_run_seen}
use Rattle.leaf_dispatch.specs.Inside.{guest_in}
use Rattle.leaf_dispatch.specs.Paused.{bundle_of, call_run_with}
use Rattle.leaf_dispatch.specs.States.{seen_of}
use Rattle.leaf_dispatch.proofs.Pausing.{line-without, run-without, has-without, room-without, guest-without, inside-without, same-rooms}
use Rattle.leaf_dispatch.proofs.states.LpState.pause.Goals as goal

pub invariant_of-result-clause-page_room : goal.invariant_of-result-clause-page_room
invariant_of-result-clause-page_room c = room-without c.args.self.spare c.args.self.run.other c.without_input.result.other c.without_input.ensures.other c.args.self.page_room

pub returns-clause-resumable : goal.returns-clause-resumable
returns-clause-resumable c =
    let l = c.args.self in
    let k = c.without_input.result in
    let h = c.without_list.result in
    record {
      under_way = line-without (given_in l.given) l.place.machine l.lines.now l.run k c.without_input.ensures.host l.takes c.without_input.ensures.other l.under_way;
      inside = inside-without l.place.machine l.codes.now l.cached (length l.replies.items + 1) l.guest h l.run.other k.other l.step_run c.without_list.ensures c.without_input.ensures.other l.inside;
      rooms = same-rooms l.codes.now l.lines.now (call_run_seen l.run) (call_run_with (bundle_of (given_in l.given) k.other) k) (guest_in l.guest l.step_run) (guest_in h l.step_run) l.replies l.notes l.reports l.told l.bundles
          (run-without (given_in l.given) l.run k c.without_input.ensures.host l.takes c.without_input.ensures.other) (guest-without l.guest h l.step_run c.without_list.ensures)
          (record { few = l.few; room = l.room; note_room = l.note_room; word_room = l.word_room; fact_room = l.fact_room; few_facts = l.few_facts; bundle_room = l.bundle_room; payload_room = l.payload_room });
      has = has-without (given_in l.given) l.run.other k.other l.takes c.without_input.ensures.other;
    }

pub returns-clause-seen : goal.returns-clause-seen
returns-clause-seen c =
    let l = c.args.self in
    let run = run-without (given_in l.given) l.run c.without_input.result c.without_input.ensures.host l.takes c.without_input.ensures.other in
    let guest = guest-without l.guest c.without_list.result l.step_run c.without_list.ensures in
    λ i. record (seen_of l) { run = run i; guest = guest i }
