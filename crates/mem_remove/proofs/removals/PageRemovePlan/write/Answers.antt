use Rattle.std.proofs.Common.{ℕ, subst}
use Rattle.leaf_engine.specs.Decides.{HandsAt}
use Rattle.mem_remove.specs.RemoveTrees.{remove_changes}
use Rattle.mem_remove.proofs.removals.PageRemovePlan.write.Goals as goal

pub returns-clause-hands : goal.returns-clause-hands
returns-clause-hands c =
    let l = c.args.self.now in
    let a = c.args.act in
    let h = c.args._hand.now in
    subst (λ (i : ℕ). HandsAt l.place.machine (remove_changes l.tdr a.page i a.named a.children) c.args.number h h c.give_back.result) c.index-at.ensures.index (c.give_back.ensures.hands h)
