use Rattle.std.proofs.Common.{subst}
use Rattle.leaf_engine.specs.Decides.{HandsAt}
use Rattle.leaf_parts.specs.declared.listed_pages.PageList.{PageList}
use Rattle.leaf_parts.specs.ListTrees.{list_changes}
use Rattle.vcpu_control.proofs.vp_creations.VpCreatePlan.write.Goals as goal

pub returns-clause-hands : goal.returns-clause-hands
returns-clause-hands c =
    let l = c.args.self.now in
    let h = c.args._hand.now in
    subst (λ (list : PageList). HandsAt l.place.machine (list_changes list l.place.machine.pages l.tdr l.page c.args.act.count c.args.act.children) c.args.number h h c.write.result) c.vp_list.ensures (c.write.ensures.hands h)
