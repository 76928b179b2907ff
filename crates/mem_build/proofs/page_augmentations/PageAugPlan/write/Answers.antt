use Rattle.std.proofs.Common.{subst}
use Rattle.leaf_engine.specs.Decides.{HandsAt}
use Rattle.sept_parts.specs.declared.mappings.Mapping.{Mapping}
use Rattle.sept_parts.specs.MapTrees.{map_changes}
use Rattle.mem_build.proofs.page_augmentations.PageAugPlan.write.Goals as goal

pub returns-clause-hands : goal.returns-clause-hands
returns-clause-hands c =
    let m = c.args.self.now.place.machine in
    let h = c.args._hand.now in
    subst (λ (x : Mapping). HandsAt m (map_changes m.pages x c.args.act.page c.args.act.children) c.args.number h h c.map_write.result) c.mapping.ensures (c.map_write.ensures.hands h)
