use Rattle.std.proofs.Common.{ℕ}
use Rattle.td_words.specs.declared.names.Mode.TheVariants.{Shared}
use Rattle.leaf_engine.specs.Trees.{Tree}
use Rattle.leaf_parts.proofs.Parts.{goes-on, goes-off, exit}
use Rattle.sept_parts.specs.SeptTrees.{tree_lock_tree, root_page_tree}
use Rattle.access_core.specs.AcceptTrees.{passed_walk}
use Rattle.access_core.proofs.accepts.entry_page.Goals as goal

abbrev held : (t tdcs : ℕ) → (Unit {0} → Tree) → Tree
held t d f = tree_lock_tree t d Shared (f tt)

abbrev below : (pages t gpa : ℕ) → Unit {0} → (ℕ → Tree) → Tree
below n t gpa u f = root_page_tree n t (λ root. passed_walk n gpa root f)

abbrev walked : (pages gpa root : ℕ) → (ℕ → Tree) → Tree
walked n gpa root f = passed_walk n gpa root f

pub returns-in_err-tree_lock-clause-goes : goal.returns-in_err-tree_lock-clause-goes
returns-in_err-tree_lock-clause-goes c =
    goes-off c.args.place.machine.pages (held c.args.tdr c.args.tdcs) (below c.args.place.machine.pages c.args.tdr c.args.gpa)
    c.args.told.now.left.now c.tree_lock.new.told.left.now c.tree_lock.new.told.left.now c.in_err-tree_lock.field-0.0 c.from_residual.result
    (exit c.from_residual.result c.in_err-tree_lock.field-0.0 _ c.from_residual.ensures.1 (λ y h. h)) (c.in_err-tree_lock.ensures.goes c.args.tdr)

pub returns-in_err-root-clause-goes : goal.returns-in_err-root-clause-goes
returns-in_err-root-clause-goes c =
    goes-on c.args.place.machine.pages (held c.args.tdr c.args.tdcs) (below c.args.place.machine.pages c.args.tdr c.args.gpa)
    c.args.told.now.left.now c.tree_lock.new.told.left.now c.root_page.new.told.left.now tt c.from_residual-in_err-root.result
    (c.in_ok-tree_lock.ensures.goes c.args.tdr)
    (goes-off c.args.place.machine.pages (λ (f : ℕ → Tree). root_page_tree c.args.place.machine.pages c.args.tdr f) (walked c.args.place.machine.pages c.args.gpa)
    c.tree_lock.new.told.left.now c.root_page.new.told.left.now c.root_page.new.told.left.now c.in_err-root.field-0.0 c.from_residual-in_err-root.result
    (exit c.from_residual-in_err-root.result c.in_err-root.field-0.0 _ c.from_residual-in_err-root.ensures.1 (λ y h. h)) c.in_err-root.ensures.goes)

pub returns-clause-goes : goal.returns-clause-goes
returns-clause-goes c =
    goes-on c.args.place.machine.pages (held c.args.tdr c.args.tdcs) (below c.args.place.machine.pages c.args.tdr c.args.gpa)
    c.args.told.now.left.now c.tree_lock.new.told.left.now c.passed_walk.new.told.left.now tt c.passed_walk.result
    (c.in_ok-tree_lock.ensures.goes c.args.tdr)
    (goes-on c.args.place.machine.pages (λ (f : ℕ → Tree). root_page_tree c.args.place.machine.pages c.args.tdr f) (walked c.args.place.machine.pages c.args.gpa)
    c.tree_lock.new.told.left.now c.root_page.new.told.left.now c.passed_walk.new.told.left.now c.in_ok-root.root c.passed_walk.result
    c.in_ok-root.ensures.goes c.passed_walk.ensures.goes)
