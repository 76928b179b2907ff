use Rattle.std.proofs.Common.{[], ◌+◌, ◌≤◌, Option, length, subst}
use Rattle.std.specs.Prelude.{vec_capacity}
use Rattle.guest_turns.specs.declared.runs.SharedRun.{SharedRun}
use Rattle.leaf_dispatch.specs.BundleRooms.{count_of}
use Rattle.leaf_dispatch.specs.NoteRooms.{run_room}
use Rattle.leaf_dispatch.specs.ShortRuns.{seen_by}
use Rattle.guest_turns.specs.SharedTurns.{standing_of, IsIn}
use Rattle.leaf_table.specs.Ends.{step_reports, step_ends}
use Rattle.leaf_table.specs.Given.{given_in}
use Rattle.leaf_table.specs.Steps.{step_seen}
use Rattle.leaf_table.specs.Table.{step_task}
use Rattle.leaf_dispatch.proofs.ShortRuns.{other-of, other-turned}
use Rattle.leaf_dispatch.proofs.step_turns.turn_other_step.Goals as goal

pub turn_step_run-requires-clause-under_way : goal.turn_step_run-requires-clause-under_way
turn_step_run-requires-clause-under_way g c = other-of standing_of IsIn c.args.place.machine (step_ends c.args.tdr c.args.line (step_seen c.args.step)) c.args.kept.now.shared c.args.kept.now.other c.requires.alone c.requires.under_way

pub returns-clause-turned : goal.returns-clause-turned
returns-clause-turned g c =
    let s = step_seen c.args.step in (
      c.turn_step_run.ensures.turned.0,
      c.turn_step_run.ensures.turned.1,
      other-turned standing_of IsIn (g.B.Bench.did c.args.bench.now) c.args.place.machine (step_ends c.args.tdr c.args.line s) (step_task (given_in c.args.given) c.args.place c.args.tdr c.args.vp c.args.line s) c.args.kept.now.shared c.args.kept.now.other c.turn_step_run.new.kept
          c.turn_step_run.new.bench c.turn_step_run.new.turn [] c.requires.alone c.turn_step_run.ensures.turned.2,
    )

pub turn_step_run-requires-clause-fact_room : goal.turn_step_run-requires-clause-fact_room
turn_step_run-requires-clause-fact_room g c =
    subst (λ (k : Option SharedRun). length c.args.reports.now.items + run_room (count_of (step_reports c.args.line (step_seen c.args.step))) (seen_by standing_of k c.args.kept.now.other) ≤ vec_capacity c.args.reports.now) c.requires.alone c.requires.fact_room
