use Rattle.leaf_table.specs.Given.{given_in}
use Rattle.run_texts.specs.Openings.{opening_of}
use Rattle.run_texts.proofs.Replayed.{open-of}
use Rattle.run_texts.proofs.Ended.{leads-on, nobody-stops}
use Rattle.run_texts.proofs.replay.ended_processors.Goals as goal

pub script_run-requires-clause-on : goal.script_run-requires-clause-on
script_run-requires-clause-on c w = leads-on c.laws_of_turns.ensures.runs_end c.laws_of_turns.ensures.others (opening_of (given_in c.args.given) c.args.script.now) c.args.script.now.schedule

pub returns : goal.returns
returns c =
    nobody-stops c.laws_of_turns.ensures c.told_law.ensures.merged (opening_of (given_in c.args.given) c.args.script.now) c.args.script.now.schedule _ _ (open-of (given_in c.args.given) c.args.script.now c.requires.form) _ c.in_ok-ran.ensures
