use Rattle.std.proofs.Common.{ℕ, Err}
use Rattle.td_words.specs.declared.names.Mode.TheVariants.{Shared}
use Rattle.leaf_engine.specs.Trees.{Tree}
use Rattle.leaf_parts.proofs.Parts.{goes-on, goes-stop, feeds-on, exit}
use Rattle.sept_parts.specs.SeptTrees.{tree_lock_tree, root_page_tree, walk_tree}
use Rattle.mem_remove.specs.NamedTrees.{epoch_lock_tree}
use Rattle.export_core.proofs.SharedDecided.{walking, behind_tree, behind_epoch, behind_root}
use Rattle.export_core.proofs.shared_entries.shared_walk.Goals as goal

pub returns-in_err-tree_lock-clause-goes : goal.returns-in_err-tree_lock-clause-goes
returns-in_err-tree_lock-clause-goes c =
    let n = c.args.place.machine.pages in let t = c.args.tdr in let d = c.args.tdcs in let e = c.in_err-tree_lock.field-0.0 in
    goes-stop n (walking n t c.args.gpa d) c.args.told.now.left.now c.tree_lock.new.told.left.now c.from_residual.result e
    (exit c.from_residual.result e _ c.from_residual.ensures.1 (λ y h. h))
    (λ k. c.in_err-tree_lock.ensures.goes t (behind_tree n t c.args.gpa d k))

pub returns-in_err-epoch_lock-clause-goes : goal.returns-in_err-epoch_lock-clause-goes
returns-in_err-epoch_lock-clause-goes c =
    let n = c.args.place.machine.pages in let t = c.args.tdr in let d = c.args.tdcs in let e = c.in_err-epoch_lock.field-0.0 in
    goes-stop n (walking n t c.args.gpa d) c.args.told.now.left.now c.epoch_lock.new.told.left.now c.from_residual-in_err-epoch_lock.result e
    (exit c.from_residual-in_err-epoch_lock.result e _ c.from_residual-in_err-epoch_lock.ensures.1 (λ y h. h))
    (λ k. c.in_ok-tree_lock.ensures.goes t (behind_tree n t c.args.gpa d k) (Err e)
    (c.in_err-epoch_lock.ensures.goes t (behind_epoch n t c.args.gpa k)))

pub returns-in_err-root-clause-goes : goal.returns-in_err-root-clause-goes
returns-in_err-root-clause-goes c =
    let n = c.args.place.machine.pages in let t = c.args.tdr in let d = c.args.tdcs in let e = c.in_err-root.field-0.0 in
    goes-stop n (walking n t c.args.gpa d) c.args.told.now.left.now c.root_page.new.told.left.now c.from_residual-in_err-root.result e
    (exit c.from_residual-in_err-root.result e _ c.from_residual-in_err-root.ensures.1 (λ y h. h))
    (λ k. c.in_ok-tree_lock.ensures.goes t (behind_tree n t c.args.gpa d k) (Err e)
    (c.in_ok-epoch_lock.ensures.goes t (behind_epoch n t c.args.gpa k) (Err e)
    (c.in_err-root.ensures.goes (behind_root n t c.args.gpa k))))

pub returns-clause-goes : goal.returns-clause-goes
returns-clause-goes c =
    let n = c.args.place.machine.pages in let t = c.args.tdr in let d = c.args.tdcs in
    goes-on n (λ (f : Unit {0} → Tree). tree_lock_tree t d Shared (f tt)) (λ u f. behind_tree n t c.args.gpa d f tt) c.args.told.now.left.now c.tree_lock.new.told.left.now c.walk.new.told.left.now tt c.walk.result (c.in_ok-tree_lock.ensures.goes t)
    (goes-on n (λ (f : Unit {0} → Tree). epoch_lock_tree t d Shared (f tt)) (λ u f. behind_epoch n t c.args.gpa f tt) c.tree_lock.new.told.left.now c.epoch_lock.new.told.left.now c.walk.new.told.left.now tt c.walk.result (c.in_ok-epoch_lock.ensures.goes t)
    (goes-on n (λ (f : ℕ → Tree). root_page_tree n t f) (λ root f. walk_tree n root c.args.gpa 0 f) c.epoch_lock.new.told.left.now c.root_page.new.told.left.now c.walk.new.told.left.now c.in_ok-root.root c.walk.result c.in_ok-root.ensures.goes c.walk.ensures.goes))

pub returns-clause-feeds : goal.returns-clause-feeds
returns-clause-feeds c =
    let n = c.args.place.machine.pages in let t = c.args.tdr in let d = c.args.tdcs in
    feeds-on (λ (f : Unit {0} → Tree). tree_lock_tree t d Shared (f tt)) (λ u f. behind_tree n t c.args.gpa d f tt) c.args.told.now.left.now c.tree_lock.new.told.left.now c.walk.new.told.left.now tt c.walk.result (c.in_ok-tree_lock.ensures.feeds t)
    (feeds-on (λ (f : Unit {0} → Tree). epoch_lock_tree t d Shared (f tt)) (λ u f. behind_epoch n t c.args.gpa f tt) c.tree_lock.new.told.left.now c.epoch_lock.new.told.left.now c.walk.new.told.left.now tt c.walk.result (c.in_ok-epoch_lock.ensures.feeds t)
    (feeds-on (λ (f : ℕ → Tree). root_page_tree n t f) (λ root f. walk_tree n root c.args.gpa 0 f) c.epoch_lock.new.told.left.now c.root_page.new.told.left.now c.walk.new.told.left.now c.in_ok-root.root c.walk.result c.in_ok-root.ensures.feeds c.walk.ensures.feeds))
