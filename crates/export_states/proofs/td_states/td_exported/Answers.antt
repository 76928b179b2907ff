use Rattle.leaf_parts.proofs.Parts.{exit}
use Rattle.leaf_engine.specs.Trees.{Tree}
use Rattle.export_states.specs.declared.states.Stated.{Stated}
use Rattle.export_states.specs.TdStateTrees.{td_asked, td_changes, rtmr_at}
use Rattle.export_states.proofs.Payloads.{comes-stop, comes-short, comes-all}
use Rattle.export_states.proofs.td_states.td_exported.Goals as goal

pub returns-in_err-stated-clause-comes : goal.returns-in_err-stated-clause-comes
returns-in_err-stated-clause-comes c = λ slot.
    let m = c.args.place.machine in
    rw (exit c.from_residual.result c.in_err-stated.field-0.0 _ c.from_residual.ensures.1 (λ y h. h))
    (comes-stop m.pages (λ (f : Stated → Tree). td_asked m c.args.tdr f) slot 1 td_changes rtmr_at 24 c.args.told.now c.to_export.new.told.left.now c.in_err-stated.field-0.0 c.in_err-stated.ensures.goes)

pub returns-in_err-payload-clause-comes : goal.returns-in_err-payload-clause-comes
returns-in_err-payload-clause-comes c = λ slot.
    let m = c.args.place.machine in
    rw (exit c.from_residual-in_err-payload.result c.in_err-payload.field-0.0 _ c.from_residual-in_err-payload.ensures.1 (λ y h. h))
    (comes-short m.pages (λ (f : Stated → Tree). td_asked m c.args.tdr f) slot 1 td_changes rtmr_at 24 c.args.told.now c.to_export.new.told.left.now
    c.in_ok-stated.stated c.in_ok-stated.ensures.goes c.in_err-payload.field-0.0 c.in_err-payload.ensures.0 c.in_err-payload.ensures.1)

pub returns-clause-comes : goal.returns-clause-comes
returns-clause-comes c = λ slot.
    let m = c.args.place.machine in
    comes-all m.pages (λ (f : Stated → Tree). td_asked m c.args.tdr f) slot 1 td_changes rtmr_at 24 c.args.told.now c.to_export.new.told.left.now
    c.in_ok-stated.stated c.in_ok-stated.ensures.goes c.in_ok-payload.payload.now c.in_ok-stated.ensures.feeds c.in_ok-payload.ensures.0 c.in_ok-payload.ensures.1
