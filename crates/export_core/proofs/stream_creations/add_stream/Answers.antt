use Rattle.std.proofs.Common.{ℕ, nat_lt, refl, subst}
use Rattle.td_words.specs.declared.names.LimitName.TheVariants.{Streams}
use Rattle.td_words.specs.declared.refusals.Status.TheVariants.{Limit}
use Rattle.leaf_engine.specs.Decides.{Decides, ending}
use Rattle.leaf_parts.specs.declared.listed_pages.PageList.{PageList}
use Rattle.leaf_parts.specs.ListTrees.{list_changes, listed_tree}
use Rattle.leaf_parts.proofs.Parts.{passes}
use Rattle.export_core.specs.StreamTrees.{stream_list}
use Rattle.export_core.proofs.stream_creations.add_stream.Goals as goal

pub returns-clause-decides : goal.returns-clause-decides
returns-clause-decides c =
    let a = c.args in
    let n : ℕ = a.place.machine.pages in
    let count : ℕ = c.in_ok-count.count in
    rw c.in_ok-count.ensures
    (passes n (nat_lt count 4) (Limit Streams) (listed_tree (stream_list a.tdcs) n a.tdr a.page count) c.load.new.self.left.now _ c.in_ok-check.ensures
    (subst (λ (list : PageList). Decides n (listed_tree list n a.tdr a.page count) c.load.new.self.left.now (ending (λ act. list_changes (stream_list act.page) n a.tdr a.page act.count act.children) c.take.result)) c.stream_list.ensures
    (c.take.ensures.decides (λ at. stream_list at) (rw c.stream_list.ensures refl))))
