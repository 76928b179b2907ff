use Rattle.std.proofs.Common.{[], ◌∷◌, Err}
use Rattle.td_words.specs.declared.names.LifeState.TheVariants as life
use Rattle.leaf_parts.specs.Arguments.{two_pages}
use Rattle.leaf_parts.specs.Heads.{tdr_head_tree}
use Rattle.leaf_parts.proofs.Arguments.{arguments-hold}
use Rattle.leaf_parts.proofs.Parts.{exit}
use Rattle.td_control.specs.AddTrees.{room_tree}
use Rattle.td_control.proofs.page_additions.AddCxPlan.decide.Goals as goal

pub returns-in_err-tdr_head-clause-decides : goal.returns-in_err-tdr_head-clause-decides
returns-in_err-tdr_head-clause-decides c =
    let l = c.args.self.now in
    rw (exit c.from_residual-in_err-tdr_head.result c.in_err-tdr_head.field-0.0 _ c.from_residual-in_err-tdr_head.ensures.1 (λ y h. h))
    (arguments-hold l.place.machine.pages (two_pages l.place.machine l.tdr l.page) (rw c.from.ensures at c.in_ok-check.ensures, (rw c.from-2.ensures at c.in_ok-check-2.ensures, (c.in_ok-check-3.ensures, tt)))
    (tdr_head_tree l.tdr (life.KeysConfigured ∷ []) (room_tree l.place.machine.pages l.tdr l.page)) c.args.told.left.now (Err c.in_err-tdr_head.field-0.0) (c.in_err-tdr_head.ensures.goes (λ u. room_tree l.place.machine.pages l.tdr l.page)))

pub returns-clause-decides : goal.returns-clause-decides
returns-clause-decides c =
    let l = c.args.self.now in
    arguments-hold l.place.machine.pages (two_pages l.place.machine l.tdr l.page) (rw c.from.ensures at c.in_ok-check.ensures, (rw c.from-2.ensures at c.in_ok-check-2.ensures, (c.in_ok-check-3.ensures, tt)))
    (tdr_head_tree l.tdr (life.KeysConfigured ∷ []) (room_tree l.place.machine.pages l.tdr l.page)) c.args.told.left.now _ (c.in_ok-tdr_head.ensures.goes (λ u. room_tree l.place.machine.pages l.tdr l.page) _ c.add.ensures.decides)
