use Rattle.std.proofs.Common.{refl, ap, sym}
use Rattle.leaf_engine.specs.Trees.{Tree, answer_of}
use Rattle.stream_parts.proofs.Unmade.{none-made}
use Rattle.export_states.specs.VpStateTrees.{vp_state_task}
use Rattle.export_states.proofs.vp_states.StateVp.bundle.Goals as goal

pub returns-in-Ok : goal.returns-in-Ok
returns-in-Ok c = rw (c.bundle.ensures, ap (λ (t : Tree). (answer_of t).bundles) c.in-Ok.ensures.comes.0) refl

pub returns-in-Err : goal.returns-in-Err
returns-in-Err c =
    let l = c.args.self.now in
    sym (none-made l.place.machine.pages (vp_state_task l.place l.tdr l.vp l.slot).tree c.args.told.now c.in-Err.field-0 c.in-Err.ensures.comes)
