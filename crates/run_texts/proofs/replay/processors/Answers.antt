use Rattle.std.proofs.Common.{rules}
use Rattle.leaf_table.specs.Given.{given_in}
use Rattle.run_texts.proofs.Replayed.{first-next}
use Rattle.run_texts.proofs.replay.processors.Goals as goal

pub loop-lp-preserved : goal.loop-lp-preserved
loop-lp-preserved c =
    rw c.in-Ok-push.ensures.items
    (first-next c.args.machine (given_in c.args.given) c.args.codes.now c.loop-lp.lps.items c.args.lists.now c.loop-lp.lp c.index-lists-lp.result c.in_ok-state.state c.deref.result.now c.loop-lp-test.true c.index-lists-lp.is c.deref.ensures.value c.loop-lp.invariant c.in_ok-state.ensures.place c.in_ok-state.ensures.given c.in_ok-state.ensures.codes c.in_ok-state.ensures.first)

-- one field is told apart, so that each of the others is sought by itself
pub invariant_of-t-38-clause-machine : goal.invariant_of-t-38-clause-machine
invariant_of-t-38-clause-machine c = search rules
