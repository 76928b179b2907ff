use Rattle.std.proofs.Common.{IfSome, ap, subst}
use Rattle.leaf_engine.specs.Guests.{Step}
use Rattle.leaf_table.specs.Ends.{call_ends}
use Rattle.leaf_table.specs.Steps.{step_seen}
use Rattle.leaf_dispatch.specs.Guests.{IsReplyOf}
use Rattle.leaf_dispatch.proofs.Exiting.{exits-fit}
use Rattle.leaf_dispatch.proofs.turns.answer_exit.Goals as goal

pub returns-in-Some-clause-under_way : goal.returns-in-Some-clause-under_way
returns-in-Some-clause-under_way c = λ m d under answered fits.
    c.answer_kept.ensures.under_way m (call_ends m d) under answered
    (exits-fit m d c.in-Some.reply (subst (λ (s : Step). IsReplyOf s c.in-Some.reply) (ap step_seen c.in-Leaves.is) (subst (λ r. IfSome r (λ x. IsReplyOf (step_seen c.args.step) x)) c.in-Some.is fits)))
