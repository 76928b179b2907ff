use Rattle.std.proofs.Common.{List, [], ◌∷◌, Result, subst}
use Rattle.flat_core.specs.Conditions.{growing_ops}
use Rattle.leaf_engine.specs.Changes.{Change, Clear}
use Rattle.leaf_engine.specs.Decides.{Decides, Ending, ending}
use Rattle.leaf_engine.specs.declared.plans.Stop.{Stop}
use Rattle.leaf_parts.proofs.Arguments.{arguments-hold}
use Rattle.sept_parts.specs.declared.mappings.Mapping.{Mapping}
use Rattle.sept_parts.specs.MapTrees.{map_changes, td_map_tree}
use Rattle.mem_build.specs.SeptAddTrees.{sept_add_arguments, sept_mapping}
use Rattle.mem_build.proofs.sept_additions.SeptAddPlan.decide.Goals as goal

pub returns-clause-decides : goal.returns-clause-decides
returns-clause-decides c =
    let l = c.args.self.now in
    let m = l.place.machine in
    let fills : List Change = Clear l.page ∷ [] in
    let comes : Mapping → Result Ending Stop = λ x. ending (λ a. Clear l.page ∷ map_changes m.pages x a.page a.children) c.td_map.result in
    arguments-hold m.pages (sept_add_arguments m l.tdr l.gpa l.level l.page)
    (rw c.from-pages.ensures at c.in_ok-check.ensures, (c.in_ok-check-2.ensures, (rw c.is_upper.ensures at c.in_ok-check-3.ensures, (rw c.from-pages.ensures at c.in_ok-check-4.ensures, (c.in_ok-check-5.ensures, (rw c.is_aligned-aligned.ensures at c.in_ok-check-6.ensures, tt))))))
    (td_map_tree m.pages growing_ops fills (sept_mapping l.tdr l.gpa l.level l.page)) c.args.told.left.now (comes (sept_mapping l.tdr l.gpa l.level l.page))
    (subst (λ (x : Mapping). Decides m.pages (td_map_tree m.pages growing_ops fills x) c.args.told.left.now (comes x)) c.mapping.ensures (c.td_map.ensures.decides fills))
