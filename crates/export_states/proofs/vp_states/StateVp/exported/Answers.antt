use Rattle.leaf_parts.proofs.Parts.{exit}
use Rattle.leaf_engine.specs.Trees.{Tree}
use Rattle.access_core.specs.RtmrTrees.{register_at}
use Rattle.export_states.specs.declared.states.Stated.{Stated}
use Rattle.export_states.specs.VpStateTrees.{vp_asked, vp_changes}
use Rattle.export_states.proofs.Payloads.{comes-stop, comes-short, comes-all}
use Rattle.export_states.proofs.vp_states.StateVp.exported.Goals as goal

pub returns-in_err-stated-clause-comes : goal.returns-in_err-stated-clause-comes
returns-in_err-stated-clause-comes c =
    let l = c.args.self.now in
    rw (exit c.from_residual.result c.in_err-stated.field-0.0 _ c.from_residual.ensures.1 (λ y h. h))
    (comes-stop l.place.machine.pages (λ (f : Stated → Tree). vp_asked l.place.machine l.tdr l.vp f) l.slot 2 (vp_changes l.vp) (λ (x : Stated). register_at l.vp) 8 c.args.told.now c.to_export.new.told.left.now c.in_err-stated.field-0.0 c.in_err-stated.ensures.goes)

pub returns-in_err-payload-clause-comes : goal.returns-in_err-payload-clause-comes
returns-in_err-payload-clause-comes c =
    let l = c.args.self.now in
    rw (exit c.from_residual-in_err-payload.result c.in_err-payload.field-0.0 _ c.from_residual-in_err-payload.ensures.1 (λ y h. h))
    (comes-short l.place.machine.pages (λ (f : Stated → Tree). vp_asked l.place.machine l.tdr l.vp f) l.slot 2 (vp_changes l.vp) (λ (x : Stated). register_at l.vp) 8 c.args.told.now c.to_export.new.told.left.now
    c.in_ok-stated.stated c.in_ok-stated.ensures.goes c.in_err-payload.field-0.0 c.in_err-payload.ensures.0 c.in_err-payload.ensures.1)

pub returns-clause-comes : goal.returns-clause-comes
returns-clause-comes c =
    let l = c.args.self.now in
    comes-all l.place.machine.pages (λ (f : Stated → Tree). vp_asked l.place.machine l.tdr l.vp f) l.slot 2 (vp_changes l.vp) (λ (x : Stated). register_at l.vp) 8 c.args.told.now c.to_export.new.told.left.now
    c.in_ok-stated.stated c.in_ok-stated.ensures.goes c.in_ok-payload.payload.now c.in_ok-stated.ensures.feeds c.in_ok-payload.ensures.0 c.in_ok-payload.ensures.1
