use Rattle.std.proofs.Common.{ap}
use Rattle.leaf_engine.specs.Trees.{changes_of}
use Rattle.leaf_engine.proofs.Decided.{decided-none}
use Rattle.export_states.specs.TdStateTrees.{td_tree}
use Rattle.export_states.proofs.td_states.StateTd.stated.Goals as goal

pub returns-in-Ok-clause-changes : goal.returns-in-Ok-clause-changes
returns-in-Ok-clause-changes c = (let l = c.args.self.now in ap changes_of (rw c.as_slice.ensures.value at (c.in-Ok.ensures.comes l.slot).0))

pub returns-in-Err-clause-changes : goal.returns-in-Err-clause-changes
returns-in-Err-clause-changes c =
    let l = c.args.self.now in
    decided-none l.place.machine.pages (td_tree l.place.machine l.tdr l.slot) l.told.items c.in-Err.field-0 (rw c.as_slice.ensures.value at (c.in-Err.ensures.comes l.slot))
