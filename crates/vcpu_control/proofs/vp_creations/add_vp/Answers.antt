use Rattle.std.proofs.Common.{ℕ, refl, subst}
use Rattle.td_words.specs.declared.names.LimitName.TheVariants.{Vcpus}
use Rattle.td_words.specs.declared.refusals.Status.TheVariants.{Limit}
use Rattle.leaf_engine.specs.Decides.{Decides, ending}
use Rattle.leaf_parts.specs.declared.listed_pages.PageList.{PageList}
use Rattle.leaf_parts.specs.ListTrees.{list_changes, listed_tree}
use Rattle.leaf_parts.proofs.Parts.{passes}
use Rattle.vcpu_control.specs.Words.{has_room}
use Rattle.vcpu_control.specs.VpTrees.{vp_list}
use Rattle.vcpu_control.proofs.vp_creations.add_vp.Goals as goal

pub returns-clause-decides : goal.returns-clause-decides
returns-clause-decides c =
    let a = c.args in
    let n : ℕ = a.place.machine.pages in
    let count : ℕ = c.in_ok-count.count in
    rw (c.in_ok-count.ensures, c.in_ok-expected.ensures)
    (passes n (has_room a.td.op c.in_ok-expected.expected count) (Limit Vcpus) (listed_tree (vp_list a.td.tdcs) n a.tdr a.page count) c.load-2.new.self.left.now _ (rw c.has_room.ensures at c.in_ok-check.ensures)
    (subst (λ (list : PageList). Decides n (listed_tree list n a.tdr a.page count) c.load-2.new.self.left.now (ending (λ act. list_changes (vp_list act.page) n a.tdr a.page act.count act.children) c.take.result)) c.vp_list.ensures
    (c.take.ensures.decides (λ at. vp_list at) (rw c.vp_list.ensures refl))))
