use Rattle.std.proofs.Common.{ℕ, nat_lt, sym, subst}
use Rattle.td_words.specs.declared.refusals.Status.TheVariants.{TdcxNumIncorrect}
use Rattle.leaf_engine.specs.Decides.{Decides, ending}
use Rattle.leaf_parts.specs.declared.listed_pages.PageList.{PageList}
use Rattle.leaf_parts.specs.ListTrees.{list_changes, listed_tree}
use Rattle.leaf_parts.proofs.Parts.{passes}
use Rattle.td_control.specs.AddTrees.{control_list}
use Rattle.td_control.proofs.page_additions.add.Goals as goal

pub returns-clause-decides : goal.returns-clause-decides
returns-clause-decides c =
    let a = c.args in
    let n : ℕ = a.place.machine.pages in
    let count : ℕ = c.in_ok-count.count in
    rw c.in_ok-count.ensures
    (passes n (nat_lt count 2) (TdcxNumIncorrect 2) (listed_tree (control_list a.tdr) n a.tdr a.page count) c.load.new.self.left.now _ c.in_ok-check.ensures
    (subst (λ (list : PageList). Decides n (listed_tree list n a.tdr a.page count) c.load.new.self.left.now (ending (λ act. list_changes (control_list a.tdr) n a.tdr a.page act.count act.children) c.take.result)) c.control_list.ensures
    (c.take.ensures.decides (λ at. control_list a.tdr) (sym c.control_list.ensures))))
