use Rattle.std.proofs.Common.{ℕ, Err, ◌∙◌}
use Rattle.td_words.specs.declared.names.Mode.TheVariants.{Exclusive}
use Rattle.leaf_engine.specs.Trees.{Tree}
use Rattle.leaf_parts.specs.declared.heads.Td.{Td}
use Rattle.leaf_parts.proofs.Parts.{goes-stop, exit}
use Rattle.sept_parts.specs.SeptTrees.{tree_lock_tree}
use Rattle.stream_parts.specs.AloneTrees.{td_alone_tree}
use Rattle.stream_parts.proofs.op_states.td_alone.Goals as goal

abbrev headed : (t : ℕ) → (ℕ → Tree) → Td → Tree
headed t f td = tree_lock_tree t td.tdcs Exclusive (f td.tdcs)

pub returns-in_err-td-clause-goes : goal.returns-in_err-td-clause-goes
returns-in_err-td-clause-goes c =
    let a = c.args in
    goes-stop a.place.machine.pages (λ (f : ℕ → Tree). td_alone_tree a.place.machine.pages a.tdr a.allowed.now f) a.told.now.left.now c.td_head.new.told.left.now c.from_residual.result c.in_err-td.field-0.0
    (exit c.from_residual.result c.in_err-td.field-0.0 _ c.from_residual.ensures.1 (λ y h. h)) (λ f. c.in_err-td.ensures.goes (headed a.tdr f))

pub returns-in_err-tree_lock-clause-goes : goal.returns-in_err-tree_lock-clause-goes
returns-in_err-tree_lock-clause-goes c =
    let a = c.args in
    let e = c.in_err-tree_lock.field-0.0 in
    goes-stop a.place.machine.pages (λ (f : ℕ → Tree). td_alone_tree a.place.machine.pages a.tdr a.allowed.now f) a.told.now.left.now c.tree_lock.new.told.left.now c.from_residual-in_err-tree_lock.result e
    (exit c.from_residual-in_err-tree_lock.result e _ c.from_residual-in_err-tree_lock.ensures.1 (λ y h. h))
    (λ f. c.in_ok-td.ensures.goes (headed a.tdr f) (Err e) (c.in_err-tree_lock.ensures.goes a.tdr (λ u. f c.in_ok-td.td.tdcs)))

pub returns-clause-goes : goal.returns-clause-goes
returns-clause-goes c = λ f r end. c.in_ok-td.ensures.goes (headed c.args.tdr f) r (c.in_ok-tree_lock.ensures.goes c.args.tdr (λ u. f c.in_ok-td.td.tdcs) r end)

pub returns-clause-feeds : goal.returns-clause-feeds
returns-clause-feeds c = λ f. c.in_ok-td.ensures.feeds (headed c.args.tdr f) ∙ c.in_ok-tree_lock.ensures.feeds c.args.tdr (λ u. f c.in_ok-td.td.tdcs)
