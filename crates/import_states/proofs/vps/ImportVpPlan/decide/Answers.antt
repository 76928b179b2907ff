use Rattle.std.proofs.Common.{refl}
use Rattle.flat_core.specs.Inputs.{input_in}
use Rattle.leaf_parts.proofs.Parts.{exit}
use Rattle.import_states.specs.VpImportTrees.{vp_import_end}
use Rattle.import_states.proofs.vps.ImportVpPlan.decide.Goals as goal

pub returns-in_err-room-clause-decides : goal.returns-in_err-room-clause-decides
returns-in_err-room-clause-decides c =
    let l = c.args.self.now in
    rw (exit c.from_residual.result c.in_err-room.field-0.0 _ c.from_residual.ensures.1 (λ y h. h)) (c.in_err-room.ensures.goes (vp_import_end l.vp (input_in l.input)))

pub returns-clause-decides : goal.returns-clause-decides
returns-clause-decides c =
    let l = c.args.self.now in
    c.in_ok-room.ensures.goes (vp_import_end l.vp (input_in l.input)) _ (rw c.done.ensures (refl, refl))
