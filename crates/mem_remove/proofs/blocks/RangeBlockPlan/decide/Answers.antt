use Rattle.leaf_parts.proofs.Parts.{exit}
use Rattle.mem_remove.specs.RangeTrees.{block_map}
use Rattle.mem_remove.proofs.blocks.RangeBlockPlan.decide.Goals as goal

pub returns-in_err-are_in_range-clause-decides : goal.returns-in_err-are_in_range-clause-decides
returns-in_err-are_in_range-clause-decides c =
    let l = c.args.self.now in
    rw (exit c.from_residual.result c.in_err-are_in_range.field-0.0 _ c.from_residual.ensures.1 (λ y h. h))
    (c.in_err-are_in_range.ensures.goes (λ u. block_map l.place.machine l.tdr l.gpa l.level))

pub returns-clause-decides : goal.returns-clause-decides
returns-clause-decides c = (let l = c.args.self.now in c.in_ok-are_in_range.ensures.goes (λ u. block_map l.place.machine l.tdr l.gpa l.level) _ c.block.ensures.decides)
