use Rattle.std.proofs.Common.{ap, refl}
use Rattle.leaf_engine.specs.Trees.{changes_of}
use Rattle.leaf_engine.proofs.Decided.{decided-none}
use Rattle.export_states.specs.VpStateTrees.{vp_state_task}
use Rattle.export_states.proofs.vp_states.StateVpPlan.write.Goals as goal

pub returns-in-Ok-clause-hands : goal.returns-in-Ok-clause-hands
returns-in-Ok-clause-hands c = rw (ap changes_of c.in-Ok.ensures.comes.0) c.vp_write.ensures.hands

pub returns-in-Err-clause-hands : goal.returns-in-Err-clause-hands
returns-in-Err-clause-hands c =
    let l = c.args.self.now in
    rw (decided-none l.place.machine.pages (vp_state_task l.place l.tdr l.vp l.slot).tree c.args.told.now c.in-Err.field-0 c.in-Err.ensures.comes) (refl, refl)
