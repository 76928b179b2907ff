use Rattle.std.proofs.Common.{ℕ, Err}
use Rattle.td_words.specs.declared.names.Mode.TheVariants.{Shared}
use Rattle.leaf_engine.specs.Trees.{Tree}
use Rattle.leaf_parts.specs.declared.heads.Td.{Td}
use Rattle.leaf_parts.proofs.Parts.{goes-on, goes-stop, exit}
use Rattle.leaf_parts.specs.Heads.{td_head_tree}
use Rattle.export_core.specs.WriteTrees.{page_tree, shared_walk}
use Rattle.export_core.proofs.SharedDecided.{writing, behind_head, behind_walk, behind_page}
use Rattle.export_core.proofs.shared_entries.find_writable.Goals as goal

pub returns-in_err-td-clause-goes : goal.returns-in_err-td-clause-goes
returns-in_err-td-clause-goes c =
    let n = c.args.place.machine.pages in let t = c.args.tdr in let o = c.args.ops.now in let a = c.args.allowed.now in let e = c.in_err-td.field-0.0 in
    goes-stop n (writing n t c.args.gpa o a) c.args.told.now.left.now c.td_head.new.told.left.now c.from_residual.result e
    (exit c.from_residual.result e _ c.from_residual.ensures.1 (λ y h. h))
    (λ k. c.in_err-td.ensures.goes (behind_head n t c.args.gpa o a k))

pub returns-in_err-at-clause-goes : goal.returns-in_err-at-clause-goes
returns-in_err-at-clause-goes c =
    let n = c.args.place.machine.pages in let t = c.args.tdr in let o = c.args.ops.now in let a = c.args.allowed.now in let e = c.in_err-at.field-0.0 in
    goes-stop n (writing n t c.args.gpa o a) c.args.told.now.left.now c.shared_walk.new.told.left.now c.from_residual-in_err-at.result e
    (exit c.from_residual-in_err-at.result e _ c.from_residual-in_err-at.ensures.1 (λ y h. h))
    (λ k. c.in_ok-td.ensures.goes (behind_head n t c.args.gpa o a k) (Err e)
    (c.in_err-at.ensures.goes (behind_walk n t c.args.gpa o a c.in_ok-td.td.tdcs k)))

pub returns-in_err-page-clause-goes : goal.returns-in_err-page-clause-goes
returns-in_err-page-clause-goes c =
    let n = c.args.place.machine.pages in let t = c.args.tdr in let o = c.args.ops.now in let a = c.args.allowed.now in let e = c.in_err-page.field-0.0 in
    goes-stop n (writing n t c.args.gpa o a) c.args.told.now.left.now c.page_of.new.told.left.now c.from_residual-in_err-page.result e
    (exit c.from_residual-in_err-page.result e _ c.from_residual-in_err-page.ensures.1 (λ y h. h))
    (λ k. c.in_ok-td.ensures.goes (behind_head n t c.args.gpa o a k) (Err e)
    (c.in_ok-at.ensures.goes (behind_walk n t c.args.gpa o a c.in_ok-td.td.tdcs k) (Err e)
    (c.in_err-page.ensures.goes (behind_page n t c.args.gpa o a c.in_ok-td.td.tdcs c.in_ok-at.at k))))

pub returns-clause-goes : goal.returns-clause-goes
returns-clause-goes c =
    let n = c.args.place.machine.pages in let t = c.args.tdr in let o = c.args.ops.now in let a = c.args.allowed.now in
    let d = c.in_ok-td.td.tdcs in
    goes-on n (λ (f : Td → Tree). td_head_tree n t Shared o f) (λ td f. behind_head n t c.args.gpa o a f td) c.args.told.now.left.now c.td_head.new.told.left.now c.held_entry.new.told.left.now c.in_ok-td.td c.held_entry.result c.in_ok-td.ensures.goes
    (goes-on n (λ (f : ℕ → Tree). shared_walk n t c.args.gpa d f) (λ at f. behind_walk n t c.args.gpa o a d f at) c.td_head.new.told.left.now c.shared_walk.new.told.left.now c.held_entry.new.told.left.now c.in_ok-at.at c.held_entry.result c.in_ok-at.ensures.goes
    (goes-on n (λ (f : ℕ → Tree). page_tree n c.args.gpa c.in_ok-at.at f) (λ p f. behind_page n t c.args.gpa o a d c.in_ok-at.at f p) c.shared_walk.new.told.left.now c.page_of.new.told.left.now c.held_entry.new.told.left.now c.in_ok-page.page c.held_entry.result c.in_ok-page.ensures.goes
    c.held_entry.ensures.goes))
