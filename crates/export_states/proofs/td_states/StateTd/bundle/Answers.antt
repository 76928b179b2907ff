use Rattle.std.proofs.Common.{sym, ap}
use Rattle.leaf_engine.specs.Trees.{Tree, answer_of}
use Rattle.stream_parts.proofs.Unmade.{none-made}
use Rattle.export_states.specs.TdStateTrees.{td_tree}
use Rattle.export_states.proofs.td_states.StateTd.bundle.Goals as goal

pub returns-in-Ok : goal.returns-in-Ok
returns-in-Ok c =
    let l = c.args.self.now in
    rw c.bundle.ensures (sym (ap (λ (t : Tree). (answer_of t).bundles) (rw c.as_slice.ensures.value at (c.in-Ok.ensures.comes l.slot).0)))

pub returns-in-Err : goal.returns-in-Err
returns-in-Err c =
    let l = c.args.self.now in
    sym (none-made l.place.machine.pages (td_tree l.place.machine l.tdr l.slot) l.told.items c.in-Err.field-0 (rw c.as_slice.ensures.value at (c.in-Err.ensures.comes l.slot)))
