use Rattle.std.proofs.Common.{Bool, ◌-◌, ◌++◌, sym, subst, arith}
use Rattle.leaf_engine.specs.Changes.{Copy, changes_where}
use Rattle.leaf_engine.specs.Decides.{HandsAt}
use Rattle.sept_parts.specs.declared.mappings.Mapping.{Mapping}
use Rattle.sept_parts.specs.MapTrees.{private_mapping, map_changes}
use Rattle.sept_parts.proofs.MapWrites.{hands-behind, hands-mapped}
use Rattle.mem_build.specs.PageAddTrees.{Addition, addition, measure_changes, page_fills, page_changes}
use Rattle.mem_build.proofs.page_additions.PageAddPlan.write.Goals as goal

pub returns-then-number-lt4-clause-hands : goal.returns-then-number-lt4-clause-hands
returns-then-number-lt4-clause-hands c =
    let l = c.args.self.now in
    let m = l.place.machine in
    let g = l.given in
    let h = c.args.hand.now in
    let a : Addition = addition g.tdr g.gpa g.page g.source c.args.act in
    subst (λ (b : Bool). HandsAt m (changes_where b (page_fills a) ++ changes_where b (page_changes m.pages a)) c.args.number h h c.map_write.result) (sym c.in_ok-slot.ensures.0)
    (hands-behind m h h c.map_write.result (Copy g.source g.page) (page_changes m.pages a) c.args.number (omega (arith, c.if-number-eq0.false))
    (hands-mapped m h h c.map_write.result (private_mapping g.tdr g.gpa g.page) c.args.act.page c.args.act.children (measure_changes c.args.act.hkid g.gpa) (c.args.number - 1) (omega (arith, c.if-number-eq0.false, c.if-number-lt4.true))
    (subst (λ (x : Mapping). HandsAt m (map_changes m.pages x c.args.act.page c.args.act.children) (c.args.number - 1) h h c.map_write.result) c.mapping.ensures (c.map_write.ensures.hands h))))
