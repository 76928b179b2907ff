use Rattle.std.proofs.Common.{◌≤◌, Option, subst}
use Rattle.host_turns.specs.HostTurns.{standing_of, IsIn}
use Rattle.host_turns.specs.declared.runs.HostRun.{HostRun}
use Rattle.leaf_table.specs.Ends.{call_makes, call_ends}
use Rattle.leaf_table.specs.Given.{given_in}
use Rattle.leaf_table.specs.Table.{task_of}
use Rattle.leaf_dispatch.specs.NoteRooms.{run_room}
use Rattle.leaf_dispatch.specs.BundleRooms.{count_of, words_of}
use Rattle.leaf_dispatch.specs.ShortRuns.{seen_by}
use Rattle.leaf_dispatch.proofs.ShortRuns.{other-of, other-turned}
use Rattle.leaf_dispatch.proofs.call_turns.turn_other_call.Goals as goal

pub turn_call_run-requires-clause-under_way : goal.turn_call_run-requires-clause-under_way
turn_call_run-requires-clause-under_way g c =
    other-of standing_of IsIn c.args.place.machine (call_ends c.args.place.machine c.args.call.now) c.args.kept.now.host c.args.kept.now.other c.requires.alone c.requires.under_way

pub turn_call_run-requires-clause-room : goal.turn_call_run-requires-clause-room
turn_call_run-requires-clause-room g c =
    subst (λ (host : Option HostRun). run_room (count_of (call_makes c.args.call.now)) (seen_by standing_of host c.args.kept.now.other) ≤ c.args.bundles.now.room) c.requires.alone c.requires.room

pub turn_call_run-requires-clause-word_room : goal.turn_call_run-requires-clause-word_room
turn_call_run-requires-clause-word_room g c =
    subst (λ (host : Option HostRun). run_room (words_of (call_makes c.args.call.now)) (seen_by standing_of host c.args.kept.now.other) ≤ c.args.bundles.now.word_room) c.requires.alone c.requires.word_room

pub returns-clause-turned : goal.returns-clause-turned
returns-clause-turned g c =
    let turned = c.turn_call_run.ensures.turned in (
      turned.0,
      turned.1,
      other-turned standing_of IsIn (g.B.Bench.did c.args.bench.now) c.args.place.machine (call_ends c.args.place.machine c.args.call.now) (task_of (given_in c.args.given) c.args.place c.args.call.now) c.args.kept.now.host c.args.kept.now.other c.turn_call_run.new.kept
          c.turn_call_run.new.bench c.turn_call_run.new.turn turned.0 c.requires.alone turned.2,
    )
