use Rattle.std.proofs.Common.{nat_lt, Err}
use Rattle.td_words.specs.declared.refusals.Status.TheVariants.{OperandInvalid}
use Rattle.leaf_parts.specs.Heads.{tdr_head_tree}
use Rattle.leaf_parts.proofs.Parts.{exit, passes}
use Rattle.key_table.specs.FlushTrees.{flush_rest, flushable}
use Rattle.key_table.proofs.flush_ends.FlushDonePlan.decide.Goals as goal

pub returns-in_err-tdr_head-clause-decides : goal.returns-in_err-tdr_head-clause-decides
returns-in_err-tdr_head-clause-decides c =
    let l = c.args.self.now in
    rw (exit c.from_residual-in_err-tdr_head.result c.in_err-tdr_head.field-0.0 _ c.from_residual-in_err-tdr_head.ensures.1 (λ y h. h))
    (passes l.place.machine.pages (nat_lt l.tdr l.place.machine.pages) (OperandInvalid 1) (tdr_head_tree l.tdr flushable (flush_rest l.place.machine l.tdr)) c.args.told.left.now (Err c.in_err-tdr_head.field-0.0) (rw c.from.ensures at c.in_ok-check.ensures)
    (c.in_err-tdr_head.ensures.goes (λ u. flush_rest l.place.machine l.tdr)))

pub returns-clause-decides : goal.returns-clause-decides
returns-clause-decides c =
    let l = c.args.self.now in
    passes l.place.machine.pages (nat_lt l.tdr l.place.machine.pages) (OperandInvalid 1) (tdr_head_tree l.tdr flushable (flush_rest l.place.machine l.tdr)) c.args.told.left.now _ (rw c.from.ensures at c.in_ok-check.ensures)
    (c.in_ok-tdr_head.ensures.goes (λ u. flush_rest l.place.machine l.tdr) _ c.end_flush.ensures.decides)
