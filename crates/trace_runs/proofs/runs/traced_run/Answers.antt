use Rattle.leaf_table.specs.Given.{given_in}
use Rattle.run_texts.specs.Openings.{opening_of}
use Rattle.run_texts.proofs.Replayed.{open-of}
use Rattle.trace_runs.proofs.Tracing.{traces-seek-on, all-told}
use Rattle.trace_runs.proofs.runs.traced_run.Goals as goal

pub script_run-requires-clause-on : goal.script_run-requires-clause-on
script_run-requires-clause-on c = traces-seek-on c.traces_go_on.ensures (opening_of (given_in c.args.given) c.args.script.now) c.args.script.now.schedule

pub returns-then-ran : goal.returns-then-ran
returns-then-ran c =
    let o = opening_of (given_in c.args.given) c.args.script.now in
    all-told c.laws_of_turns.ensures c.traces_go_on.ensures o c.args.script.now.schedule c.script_run.new.seen c.in_ok-ran.ran (open-of (given_in c.args.given) c.args.script.now c.requires) c.if-ran.true c.in_ok-ran.ensures
