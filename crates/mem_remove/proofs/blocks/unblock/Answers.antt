use Rattle.std.proofs.Common.{◌≡◌, Result, Ok, Err, [], refl, sym, subst}
use Rattle.leaf_engine.specs.declared.plans.Stop.{Stop}
use Rattle.leaf_engine.specs.Trees.{done}
use Rattle.leaf_engine.specs.Decides.{Ending, Decides}
use Rattle.leaf_parts.proofs.Parts.{exit}
use Rattle.sept_walk.specs.SecureEpt.{index_at}
use Rattle.mem_remove.specs.declared.named_entries.Named.{Named}
use Rattle.mem_remove.specs.RangeTrees.{unblock_rest, unblock_changes}
use Rattle.mem_remove.proofs.blocks.unblock.Goals as goal

pub returns-in_err-n-clause-decides : goal.returns-in_err-n-clause-decides
returns-in_err-n-clause-decides c =
    rw (exit c.from_residual.result c.in_err-n.field-0.0 _ c.from_residual.ensures.1 (λ y h. h))
    (c.in_err-n.ensures.goes (unblock_rest (index_at c.args.level c.args.gpa)))

pub returns-in_err-tracked-clause-decides : goal.returns-in_err-tracked-clause-decides
returns-in_err-tracked-clause-decides c =
    let n : Named = record { tdcs = c.in_ok-n.n.tdcs; page = c.in_ok-n.n.page; entry = record { state = c.entry.inside.state; page = c.entry.inside.page; mark = c.entry.inside.mark } } in
    let is : c.in_ok-n.n ≡ n = cc in
    rw (exit c.from_residual-in_err-tracked.result c.in_err-tracked.field-0.0 _ c.from_residual-in_err-tracked.ensures.1 (λ y h. h))
    (c.in_ok-n.ensures.goes (unblock_rest (index_at c.args.level c.args.gpa)) (Err c.in_err-tracked.field-0.0)
    (subst (λ (x : Named). Decides c.args.place.machine.pages (unblock_rest (index_at c.args.level c.args.gpa) x) c.find_named.new.told.left.now (Err c.in_err-tracked.field-0.0)) (sym is)
    (c.in_err-tracked.ensures.goes (λ u. done [] (unblock_changes n.page (index_at c.args.level c.args.gpa) n.entry.page n.entry.state)))))

pub returns-clause-decides : goal.returns-clause-decides
returns-clause-decides c =
    let n : Named = record { tdcs = c.in_ok-n.n.tdcs; page = c.in_ok-n.n.page; entry = record { state = c.entry.inside.state; page = c.entry.inside.page; mark = c.entry.inside.mark } } in
    let is : c.in_ok-n.n ≡ n = cc in
    let a = c.done.result.act in
    let r : Result Ending Stop = Ok (record { reply = c.done.result.reply; changes = unblock_changes a.page (index_at c.args.level c.args.gpa) a.named a.state }) in
    c.in_ok-n.ensures.goes (unblock_rest (index_at c.args.level c.args.gpa)) r
    (subst (λ (x : Named). Decides c.args.place.machine.pages (unblock_rest (index_at c.args.level c.args.gpa) x) c.find_named.new.told.left.now r) (sym is)
    (c.in_ok-tracked.ensures.goes (λ u. done [] (unblock_changes n.page (index_at c.args.level c.args.gpa) n.entry.page n.entry.state)) r (rw c.done.ensures (refl, refl))))
