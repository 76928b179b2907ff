use Rattle.std.proofs.Common.{[], Result, subst}
use Rattle.flat_core.specs.Conditions.{augmented_ops}
use Rattle.leaf_engine.specs.Decides.{Decides, Ending, ending}
use Rattle.leaf_engine.specs.declared.plans.Stop.{Stop}
use Rattle.leaf_parts.proofs.Arguments.{arguments-hold}
use Rattle.sept_parts.specs.declared.mappings.Mapping.{Mapping}
use Rattle.sept_parts.specs.MapTrees.{map_changes, td_map_tree}
use Rattle.mem_build.specs.PageAugTrees.{page_aug_arguments, page_aug_mapping}
use Rattle.mem_build.proofs.page_augmentations.PageAugPlan.decide.Goals as goal

pub returns-clause-decides : goal.returns-clause-decides
returns-clause-decides c =
    let l = c.args.self.now in
    let m = l.place.machine in
    let comes : Mapping → Result Ending Stop = λ x. ending (λ a. map_changes m.pages x a.page a.children) c.td_map.result in
    arguments-hold m.pages (page_aug_arguments m l.tdr l.gpa l.page)
    (rw c.from-pages.ensures at c.in_ok-check.ensures, (c.in_ok-check-2.ensures, (rw c.from-pages.ensures at c.in_ok-check-3.ensures, (c.in_ok-check-4.ensures, (rw c.is_aligned.ensures at c.in_ok-check-5.ensures, tt)))))
    (td_map_tree m.pages augmented_ops [] (page_aug_mapping l.tdr l.gpa l.page)) c.args.told.left.now (comes (page_aug_mapping l.tdr l.gpa l.page))
    (subst (λ (x : Mapping). Decides m.pages (td_map_tree m.pages augmented_ops [] x) c.args.told.left.now (comes x)) c.mapping.ensures (c.td_map.ensures.decides []))
