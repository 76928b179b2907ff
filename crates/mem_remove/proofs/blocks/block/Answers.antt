use Rattle.std.proofs.Common.{◌≡◌, Result, Ok, Err, refl, sym, subst}
use Rattle.leaf_engine.specs.declared.plans.Stop.{Stop}
use Rattle.leaf_engine.specs.Decides.{Ending, Decides}
use Rattle.leaf_parts.proofs.Parts.{exit}
use Rattle.sept_walk.specs.SecureEpt.{index_at}
use Rattle.mem_remove.specs.declared.named_entries.Named.{Named}
use Rattle.mem_remove.specs.RangeTrees.{block_rest, block_changes}
use Rattle.mem_remove.proofs.blocks.block.Goals as goal

pub returns-in_err-n-clause-decides : goal.returns-in_err-n-clause-decides
returns-in_err-n-clause-decides c =
    rw (exit c.from_residual.result c.in_err-n.field-0.0 _ c.from_residual.ensures.1 (λ y h. h))
    (c.in_err-n.ensures.goes (block_rest c.args.tdr c.args.level (index_at c.args.level c.args.gpa)))

pub returns-in_err-epoch-clause-decides : goal.returns-in_err-epoch-clause-decides
returns-in_err-epoch-clause-decides c =
    rw (exit c.from_residual-in_err-epoch.result c.in_err-epoch.field-0.0 _ c.from_residual-in_err-epoch.ensures.1 (λ y h. h))
    (c.in_ok-n.ensures.goes (block_rest c.args.tdr c.args.level (index_at c.args.level c.args.gpa)) (Err c.in_err-epoch.field-0.0)
    (rw (c.in_err-epoch.ensures.0, c.in_err-epoch.ensures.1, c.word_address.ensures) refl))

pub returns-clause-decides : goal.returns-clause-decides
returns-clause-decides c =
    let n : Named = record { tdcs = c.in_ok-n.n.tdcs; page = c.in_ok-n.n.page; entry = record { state = c.entry.inside.state; page = c.entry.inside.page; mark = c.entry.inside.mark } } in
    let is : c.in_ok-n.n ≡ n = cc in
    let a = c.done.result.act in
    let r : Result Ending Stop = Ok (record { reply = c.done.result.reply; changes = block_changes c.args.tdr c.args.level a.page (index_at c.args.level c.args.gpa) a.named a.state a.epoch }) in
    c.in_ok-n.ensures.goes (block_rest c.args.tdr c.args.level (index_at c.args.level c.args.gpa)) r
    (subst (λ (x : Named). Decides c.args.place.machine.pages (block_rest c.args.tdr c.args.level (index_at c.args.level c.args.gpa) x) c.find_named.new.told.left.now r) (sym is)
    (rw (c.in_ok-epoch.ensures, c.done.ensures) (refl, refl)))
