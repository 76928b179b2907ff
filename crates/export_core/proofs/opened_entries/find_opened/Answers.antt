use Rattle.std.proofs.Common.{Err}
use Rattle.leaf_parts.proofs.Parts.{goes-stop, exit}
use Rattle.export_core.proofs.OpenedDecided.{opening, behind_head, behind_tree, behind_find}
use Rattle.export_core.proofs.opened_entries.find_opened.Goals as goal

pub returns-in_err-td-clause-goes : goal.returns-in_err-td-clause-goes
returns-in_err-td-clause-goes c =
    let n = c.args.place.machine.pages in let t = c.args.tdr in let o = c.args.ops.now in let a = c.args.allowed.now in let e = c.in_err-td.field-0.0 in
    goes-stop n (opening n t c.args.gpa o a) c.args.told.now.left.now c.td_head.new.told.left.now c.from_residual.result e
    (exit c.from_residual.result e _ c.from_residual.ensures.1 (λ y h. h))
    (λ k. c.in_err-td.ensures.goes (behind_head n t c.args.gpa o a k))

pub returns-in_err-tree_lock-clause-goes : goal.returns-in_err-tree_lock-clause-goes
returns-in_err-tree_lock-clause-goes c =
    let n = c.args.place.machine.pages in let t = c.args.tdr in let o = c.args.ops.now in let a = c.args.allowed.now in let e = c.in_err-tree_lock.field-0.0 in
    goes-stop n (opening n t c.args.gpa o a) c.args.told.now.left.now c.tree_lock.new.told.left.now c.from_residual-in_err-tree_lock.result e
    (exit c.from_residual-in_err-tree_lock.result e _ c.from_residual-in_err-tree_lock.ensures.1 (λ y h. h))
    (λ k. c.in_ok-td.ensures.goes (behind_head n t c.args.gpa o a k) (Err e)
    (c.in_err-tree_lock.ensures.goes t (behind_tree n t c.args.gpa o a c.in_ok-td.td.tdcs k)))

pub returns-in_err-found-clause-goes : goal.returns-in_err-found-clause-goes
returns-in_err-found-clause-goes c =
    let n = c.args.place.machine.pages in let t = c.args.tdr in let o = c.args.ops.now in let a = c.args.allowed.now in let e = c.in_err-found.field-0.0 in
    goes-stop n (opening n t c.args.gpa o a) c.args.told.now.left.now c.find.new.told.left.now c.from_residual-in_err-found.result e
    (exit c.from_residual-in_err-found.result e _ c.from_residual-in_err-found.ensures.1 (λ y h. h))
    (λ k. c.in_ok-td.ensures.goes (behind_head n t c.args.gpa o a k) (Err e)
    (c.in_ok-tree_lock.ensures.goes t (behind_tree n t c.args.gpa o a c.in_ok-td.td.tdcs k) (Err e)
    (c.in_err-found.ensures.goes (behind_find n t c.args.gpa o a c.in_ok-td.td.tdcs k))))

pub returns-in_err-taken-clause-goes : goal.returns-in_err-taken-clause-goes
returns-in_err-taken-clause-goes c =
    let n = c.args.place.machine.pages in let t = c.args.tdr in let o = c.args.ops.now in let a = c.args.allowed.now in let e = c.in_err-taken.field-0.0 in
    goes-stop n (opening n t c.args.gpa o a) c.args.told.now.left.now c.taken.new.told.left.now c.from_residual-in_err-taken.result e
    (exit c.from_residual-in_err-taken.result e _ c.from_residual-in_err-taken.ensures.1 (λ y h. h))
    (λ k. c.in_ok-td.ensures.goes (behind_head n t c.args.gpa o a k) (Err e)
    (c.in_ok-tree_lock.ensures.goes t (behind_tree n t c.args.gpa o a c.in_ok-td.td.tdcs k) (Err e)
    (c.in_ok-found.ensures.goes (behind_find n t c.args.gpa o a c.in_ok-td.td.tdcs k) (Err e)
    (c.in_err-taken.ensures.goes (λ u. k (record { tdcs = c.in_ok-td.td.tdcs; page = c.in_ok-found.found.page; entry = c.in_ok-found.found.entry }))))))

pub returns-clause-goes : goal.returns-clause-goes
returns-clause-goes c = λ k r d.
    let n = c.args.place.machine.pages in let t = c.args.tdr in let o = c.args.ops.now in let a = c.args.allowed.now in
    c.in_ok-td.ensures.goes (behind_head n t c.args.gpa o a k) r
    (c.in_ok-tree_lock.ensures.goes t (behind_tree n t c.args.gpa o a c.in_ok-td.td.tdcs k) r
    (c.in_ok-found.ensures.goes (behind_find n t c.args.gpa o a c.in_ok-td.td.tdcs k) r
    (c.in_ok-taken.ensures.goes (λ u. k (record { tdcs = c.in_ok-td.td.tdcs; page = c.in_ok-found.found.page; entry = c.in_ok-found.found.entry })) r d)))
