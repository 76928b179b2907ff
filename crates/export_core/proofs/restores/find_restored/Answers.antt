use Rattle.std.proofs.Common.{Err, refl}
use Rattle.sept_walk.specs.SecureEpt.{index_at}
use Rattle.leaf_parts.proofs.Parts.{exit}
use Rattle.export_core.specs.RestoreTrees.{restore_map, restore_rest}
use Rattle.export_core.proofs.restores.find_restored.Goals as goal

pub returns-in_err-are_in_range-clause-decides : goal.returns-in_err-are_in_range-clause-decides
returns-in_err-are_in_range-clause-decides c =
    let m = c.args.place.machine in
    rw (exit c.from_residual.result c.in_err-are_in_range.field-0.0 _ c.from_residual.ensures.1 (λ y h. h))
    (c.in_err-are_in_range.ensures.goes (λ u. restore_map m c.args.tdr c.args.gpa))

pub returns-in_err-entry-clause-decides : goal.returns-in_err-entry-clause-decides
returns-in_err-entry-clause-decides c =
    let m = c.args.place.machine in
    let e = c.in_err-entry.field-0.0 in
    rw (exit c.from_residual-in_err-entry.result e _ c.from_residual-in_err-entry.ensures.1 (λ y h. h))
    (c.in_ok-are_in_range.ensures.goes (λ u. restore_map m c.args.tdr c.args.gpa) (Err e)
    (c.in_err-entry.ensures.goes (restore_rest (index_at 0 c.args.gpa))))

pub returns-in_err-dirtied-clause-decides : goal.returns-in_err-dirtied-clause-decides
returns-in_err-dirtied-clause-decides c =
    let m = c.args.place.machine in
    let e = c.in_err-dirtied.field-0.0 in
    rw (exit c.from_residual-in_err-dirtied.result e _ c.from_residual-in_err-dirtied.ensures.1 (λ y h. h))
    (c.in_ok-are_in_range.ensures.goes (λ u. restore_map m c.args.tdr c.args.gpa) (Err e)
    (c.in_ok-entry.ensures.goes (restore_rest (index_at 0 c.args.gpa)) (Err e)
    (rw (c.in_err-dirtied.ensures.0, c.in_err-dirtied.ensures.1, c.word_address.ensures) refl)))

pub returns-in_err-unrestored-clause-decides : goal.returns-in_err-unrestored-clause-decides
returns-in_err-unrestored-clause-decides c =
    let m = c.args.place.machine in
    let e = c.in_err-unrestored.field-0.0 in
    rw (exit c.from_residual-in_err-unrestored.result e _ c.from_residual-in_err-unrestored.ensures.1 (λ y h. h))
    (c.in_ok-are_in_range.ensures.goes (λ u. restore_map m c.args.tdr c.args.gpa) (Err e)
    (c.in_ok-entry.ensures.goes (restore_rest (index_at 0 c.args.gpa)) (Err e)
    (rw (c.in_ok-dirtied.ensures, c.in_err-unrestored.ensures.0, c.in_err-unrestored.ensures.1, c.word_address-2.ensures) refl)))

pub returns-clause-decides : goal.returns-clause-decides
returns-clause-decides c =
    let m = c.args.place.machine in
    c.in_ok-are_in_range.ensures.goes (λ u. restore_map m c.args.tdr c.args.gpa) _
    (c.in_ok-entry.ensures.goes (restore_rest (index_at 0 c.args.gpa)) _
    (rw (c.in_ok-dirtied.ensures, c.in_ok-unrestored.ensures) (refl, refl)))
