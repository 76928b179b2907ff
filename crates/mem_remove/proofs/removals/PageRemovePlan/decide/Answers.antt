use Rattle.std.proofs.Common.{◌≡◌, subst, sym}
use Rattle.flat_core.specs.MemRows.{removed_states}
use Rattle.sept_walk.specs.SecureEpt.{index_at}
use Rattle.leaf_engine.specs.Trees.{Tree}
use Rattle.leaf_engine.specs.Decides.{Decides, ending}
use Rattle.leaf_parts.proofs.Parts.{behind-stop, behind-go, exit}
use Rattle.mem_remove.specs.declared.named_entries.Named.{Named}
use Rattle.mem_remove.specs.NamedTrees.{named_tree}
use Rattle.mem_remove.specs.RemoveTrees.{remove_arguments, remove_rest, remove_changes}
use Rattle.mem_remove.proofs.RemoveDecided.{remove-arguments}
use Rattle.mem_remove.proofs.removals.PageRemovePlan.decide.Goals as goal

pub returns-in_err-named-clause-decides : goal.returns-in_err-named-clause-decides
returns-in_err-named-clause-decides c =
    let l = c.args.self.now in
    let m = l.place.machine in
    rw (exit c.from_residual-in_err-named.result c.in_err-named.field-0.0 _ c.from_residual-in_err-named.ensures.1 (λ y h. h))
    (behind-stop m.pages (λ t. remove_arguments m l.tdr l.gpa t)
    (remove-arguments m.pages m l.tdr l.gpa (rw c.from.ensures at c.in_ok-check.ensures) c.in_ok-check-2.ensures (rw c.is_aligned.ensures at c.in_ok-check-3.ensures))
    (λ (f : Named → Tree). named_tree m.pages l.tdr l.gpa 0 removed_states f) (λ (n : Named). remove_rest l.tdr (index_at 0 l.gpa) n)
    c.args.told.left.now c.find_named.new.told.left.now c.in_err-named.field-0.0 c.in_err-named.ensures.goes)

pub returns-clause-decides : goal.returns-clause-decides
returns-clause-decides c =
    let l = c.args.self.now in
    let m = l.place.machine in
    let n : Named = record { tdcs = c.named.inside.0.0; page = c.named.inside.0.1.0; entry = record { state = c.named.inside.0.1.1.0.state; page = c.named.inside.0.1.1.0.page; mark = c.named.inside.0.1.1.0.mark } } in
    let is : c.in_ok-named.named ≡ n = cc in
    let r = ending (λ a. remove_changes l.tdr a.page (index_at 0 l.gpa) a.named a.children) c.remove.result in
    behind-go m.pages (λ t. remove_arguments m l.tdr l.gpa t)
    (remove-arguments m.pages m l.tdr l.gpa (rw c.from.ensures at c.in_ok-check.ensures) c.in_ok-check-2.ensures (rw c.is_aligned.ensures at c.in_ok-check-3.ensures))
    (λ (f : Named → Tree). named_tree m.pages l.tdr l.gpa 0 removed_states f) (λ (n : Named). remove_rest l.tdr (index_at 0 l.gpa) n)
    c.args.told.left.now c.find_named.new.told.left.now c.in_ok-named.named r
    c.in_ok-named.ensures.goes (subst (λ (x : Named). Decides m.pages (remove_rest l.tdr (index_at 0 l.gpa) x) c.find_named.new.told.left.now r) (sym is) (c.remove.ensures.decides (index_at 0 l.gpa)))
