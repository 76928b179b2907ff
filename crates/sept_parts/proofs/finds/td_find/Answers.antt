use Rattle.leaf_engine.specs.Trees.{Tree}
use Rattle.leaf_parts.specs.declared.heads.Td.{Td}
use Rattle.leaf_parts.specs.Heads.{td_head_tree}
use Rattle.leaf_parts.proofs.Parts.{goes-on, goes-off, feeds-on, exit}
use Rattle.sept_parts.specs.declared.finds.Found.{Found}
use Rattle.sept_parts.specs.SeptTrees.{tree_lock_tree, find_tree}
use Rattle.sept_parts.proofs.finds.td_find.Goals as goal

pub returns-in_err-td-clause-goes : goal.returns-in_err-td-clause-goes
returns-in_err-td-clause-goes c =
    goes-off c.args.place.machine.pages (λ (f : Td → Tree). td_head_tree c.args.place.machine.pages c.args.tdr c.args.modes.op c.args.allowed.now f)
    (λ (td : Td) (f : Found → Tree). tree_lock_tree c.args.tdr td.tdcs c.args.modes.tree (find_tree c.args.place.machine.pages c.args.tdr c.args.gpa c.args.level f))
    c.args.told.now.left.now c.td_head.new.told.left.now c.td_head.new.told.left.now c.in_err-td.field-0.0 c.from_residual.result
    (exit c.from_residual.result c.in_err-td.field-0.0 _ c.from_residual.ensures.1 (λ y h. h)) c.in_err-td.ensures.goes

pub returns-in_err-tree_lock-clause-goes : goal.returns-in_err-tree_lock-clause-goes
returns-in_err-tree_lock-clause-goes c =
    goes-on c.args.place.machine.pages (λ (f : Td → Tree). td_head_tree c.args.place.machine.pages c.args.tdr c.args.modes.op c.args.allowed.now f)
    (λ (td : Td) (f : Found → Tree). tree_lock_tree c.args.tdr td.tdcs c.args.modes.tree (find_tree c.args.place.machine.pages c.args.tdr c.args.gpa c.args.level f))
    c.args.told.now.left.now c.td_head.new.told.left.now c.tree_lock.new.told.left.now c.in_ok-td.td c.from_residual-in_err-tree_lock.result
    c.in_ok-td.ensures.goes
    (goes-off c.args.place.machine.pages (λ (f : Unit {0} → Tree). tree_lock_tree c.args.tdr c.in_ok-td.td.tdcs c.args.modes.tree (f tt))
    (λ (u : Unit {0}) (f : Found → Tree). find_tree c.args.place.machine.pages c.args.tdr c.args.gpa c.args.level f)
    c.td_head.new.told.left.now c.tree_lock.new.told.left.now c.tree_lock.new.told.left.now c.in_err-tree_lock.field-0.0 c.from_residual-in_err-tree_lock.result
    (exit c.from_residual-in_err-tree_lock.result c.in_err-tree_lock.field-0.0 _ c.from_residual-in_err-tree_lock.ensures.1 (λ y h. h)) (c.in_err-tree_lock.ensures.goes c.args.tdr))

pub returns-clause-goes : goal.returns-clause-goes
returns-clause-goes c =
    goes-on c.args.place.machine.pages (λ (f : Td → Tree). td_head_tree c.args.place.machine.pages c.args.tdr c.args.modes.op c.args.allowed.now f)
    (λ (td : Td) (f : Found → Tree). tree_lock_tree c.args.tdr td.tdcs c.args.modes.tree (find_tree c.args.place.machine.pages c.args.tdr c.args.gpa c.args.level f))
    c.args.told.now.left.now c.td_head.new.told.left.now c.find.new.told.left.now c.in_ok-td.td c.find.result
    c.in_ok-td.ensures.goes
    (goes-on c.args.place.machine.pages (λ (f : Unit {0} → Tree). tree_lock_tree c.args.tdr c.in_ok-td.td.tdcs c.args.modes.tree (f tt))
    (λ (u : Unit {0}) (f : Found → Tree). find_tree c.args.place.machine.pages c.args.tdr c.args.gpa c.args.level f)
    c.td_head.new.told.left.now c.tree_lock.new.told.left.now c.find.new.told.left.now tt c.find.result
    (c.in_ok-tree_lock.ensures.goes c.args.tdr) c.find.ensures.goes)

pub returns-clause-feeds : goal.returns-clause-feeds
returns-clause-feeds c =
    feeds-on (λ (f : Td → Tree). td_head_tree c.args.place.machine.pages c.args.tdr c.args.modes.op c.args.allowed.now f)
    (λ (td : Td) (f : Found → Tree). tree_lock_tree c.args.tdr td.tdcs c.args.modes.tree (find_tree c.args.place.machine.pages c.args.tdr c.args.gpa c.args.level f))
    c.args.told.now.left.now c.td_head.new.told.left.now c.find.new.told.left.now c.in_ok-td.td c.find.result
    c.in_ok-td.ensures.feeds
    (feeds-on (λ (f : Unit {0} → Tree). tree_lock_tree c.args.tdr c.in_ok-td.td.tdcs c.args.modes.tree (f tt))
    (λ (u : Unit {0}) (f : Found → Tree). find_tree c.args.place.machine.pages c.args.tdr c.args.gpa c.args.level f)
    c.td_head.new.told.left.now c.tree_lock.new.told.left.now c.find.new.told.left.now tt c.find.result
    (c.in_ok-tree_lock.ensures.feeds c.args.tdr) c.find.ensures.feeds)
