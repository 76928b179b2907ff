use Rattle.std.proofs.Common.{[], ◌∷◌, ◌==◌, nat_lt, Err}
use Rattle.td_words.specs.declared.names.LifeState.TheVariants as life
use Rattle.td_words.specs.declared.refusals.Status.TheVariants.{OperandInvalid}
use Rattle.leaf_engine.specs.Trees.{needs}
use Rattle.leaf_parts.specs.Heads.{tdr_head_tree}
use Rattle.leaf_parts.proofs.Parts.{exit, passes}
use Rattle.key_table.specs.ReclaimTrees.{reclaim_rest}
use Rattle.key_table.proofs.page_reclaims.ReclaimPlan.decide.Goals as goal

pub returns-in_err-tdr_head-clause-decides : goal.returns-in_err-tdr_head-clause-decides
returns-in_err-tdr_head-clause-decides c =
    let l = c.args.self.now in
    rw (exit c.from_residual-in_err-tdr_head.result c.in_err-tdr_head.field-0.0 _ c.from_residual-in_err-tdr_head.ensures.1 (λ y h. h))
    (passes l.place.machine.pages (nat_lt l.tdr l.place.machine.pages) (OperandInvalid 1) (needs (nat_lt l.page l.place.machine.pages) (OperandInvalid 2) (tdr_head_tree l.tdr (life.Teardown ∷ []) (reclaim_rest l.tdr l.page (l.page == l.tdr)))) c.args.told.left.now (Err c.in_err-tdr_head.field-0.0) (rw c.from.ensures at c.in_ok-check.ensures)
    (passes l.place.machine.pages (nat_lt l.page l.place.machine.pages) (OperandInvalid 2) (tdr_head_tree l.tdr (life.Teardown ∷ []) (reclaim_rest l.tdr l.page (l.page == l.tdr))) c.args.told.left.now (Err c.in_err-tdr_head.field-0.0) (rw c.from-2.ensures at c.in_ok-check-2.ensures)
    (c.in_err-tdr_head.ensures.goes (λ u. reclaim_rest l.tdr l.page (l.page == l.tdr)))))

pub returns-clause-decides : goal.returns-clause-decides
returns-clause-decides c =
    let l = c.args.self.now in
    passes l.place.machine.pages (nat_lt l.tdr l.place.machine.pages) (OperandInvalid 1) (needs (nat_lt l.page l.place.machine.pages) (OperandInvalid 2) (tdr_head_tree l.tdr (life.Teardown ∷ []) (reclaim_rest l.tdr l.page (l.page == l.tdr)))) c.args.told.left.now _ (rw c.from.ensures at c.in_ok-check.ensures)
    (passes l.place.machine.pages (nat_lt l.page l.place.machine.pages) (OperandInvalid 2) (tdr_head_tree l.tdr (life.Teardown ∷ []) (reclaim_rest l.tdr l.page (l.page == l.tdr))) c.args.told.left.now _ (rw c.from-2.ensures at c.in_ok-check-2.ensures)
    (c.in_ok-tdr_head.ensures.goes (λ u. reclaim_rest l.tdr l.page (l.page == l.tdr)) _ c.give_back.ensures.decides))
