use Rattle.leaf_engine.specs.Trees.{feed, changes_of}
use Rattle.leaf_engine.proofs.Decided.{none-left, none-next, some-next}
use Rattle.export_states.specs.TdStateTrees.{td_tree}
use Rattle.export_states.proofs.td_states.StateTdLeaf.write.Goals as goal

pub returns-in_err-stated-clause-next : goal.returns-in_err-stated-clause-next
returns-in_err-stated-clause-next c =
    let l = c.args.self.now in
    rw c.from_residual.ensures (none-left l.place.machine (changes_of (feed (td_tree l.place.machine l.tdr l.slot) l.told.items)) l.written c.args.hasher.now c.in_err-stated.ensures.changes)

pub returns-in_err-write-clause-next : goal.returns-in_err-write-clause-next
returns-in_err-write-clause-next c =
    let l = c.args.self.now in
    rw c.from_residual-in_err-write.ensures (none-next l.place.machine (changes_of (feed (td_tree l.place.machine l.tdr l.slot) l.told.items)) l.written c.args.hasher.now c.td_write.new.hand (rw c.in_ok-stated.ensures.changes c.in_err-write.ensures.hands))

pub returns-clause-next : goal.returns-clause-next
returns-clause-next c =
    let l = c.args.self.now in
    some-next l.place.machine (changes_of (feed (td_tree l.place.machine l.tdr l.slot) l.told.items)) l.written c.args.hasher.now c.td_write.new.hand c.in_ok-write.write (rw c.in_ok-stated.ensures.changes c.in_ok-write.ensures.hands)
