use Rattle.std.proofs.Common.{refl}
use Rattle.leaf_engine.specs.OwnLists.{running}
use Rattle.leaf_table.specs.Ends.{call_ends}
use Rattle.leaf_dispatch.specs.CallRuns.{call_run_seen}
use Rattle.leaf_table.specs.Given.{given_in}
use Rattle.leaf_table.specs.Table.{task_of}
use Rattle.leaf_dispatch.proofs.Replying.{act-fits}
use Rattle.leaf_dispatch.proofs.turns.turn_line.Goals as goal

pub drop_by-requires : goal.drop_by-requires
drop_by-requires g c =
    act-fits (g.B.Bench.did c.args.bench.now) c.turn_call.new.bench c.args.place.machine c.turn_call.new.turn c.turn_call.ensures.turned.0 (call_ends c.args.place.machine c.args.call.now)
    (running (task_of (given_in c.args.given) c.args.place c.args.call.now) (call_run_seen c.args.kept.now)) c.turn_call.ensures.turned.2 c.turn_call.new.turn.act refl

pub enter_by-requires-clause-fits : goal.enter_by-requires-clause-fits
enter_by-requires-clause-fits g c =
    act-fits (g.B.Bench.did c.args.bench.now) c.turn_call.new.bench c.args.place.machine c.turn_call.new.turn c.turn_call.ensures.turned.0 (call_ends c.args.place.machine c.args.call.now)
    (running (task_of (given_in c.args.given) c.args.place c.args.call.now) (call_run_seen c.args.kept.now)) c.turn_call.ensures.turned.2 c.turn_call.new.turn.act refl
