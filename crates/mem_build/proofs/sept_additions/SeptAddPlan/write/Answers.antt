use Rattle.std.proofs.Common.{◌-◌, subst, arith}
use Rattle.leaf_engine.specs.Changes.{Clear}
use Rattle.leaf_engine.specs.Decides.{HandsAt}
use Rattle.sept_parts.specs.declared.mappings.Mapping.{Mapping}
use Rattle.sept_parts.specs.MapTrees.{map_changes}
use Rattle.sept_parts.proofs.MapWrites.{hands-behind}
use Rattle.mem_build.specs.SeptAddTrees.{sept_mapping}
use Rattle.mem_build.proofs.sept_additions.SeptAddPlan.write.Goals as goal

pub returns-clause-hands : goal.returns-clause-hands
returns-clause-hands c =
    let l = c.args.self.now in
    let m = l.place.machine in
    let h = c.args._hand.now in
    hands-behind m h h c.map_write.result (Clear l.page) (map_changes m.pages (sept_mapping l.tdr l.gpa l.level l.page) c.args.act.page c.args.act.children) c.args.number
    (omega (arith, c.if-number-eq0.false))
    (subst (λ (x : Mapping). HandsAt m (map_changes m.pages x c.args.act.page c.args.act.children) (c.args.number - 1) h h c.map_write.result) c.mapping.ensures (c.map_write.ensures.hands h))
