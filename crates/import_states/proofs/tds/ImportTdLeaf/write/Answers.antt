use Rattle.flat_core.specs.Inputs.{input_in}
use Rattle.leaf_engine.specs.Trees.{feed, changes_of}
use Rattle.leaf_engine.proofs.Decided.{none-left, none-next, some-next}
use Rattle.import_states.specs.TdImportTrees.{td_import_tree}
use Rattle.import_states.proofs.tds.ImportTdLeaf.write.Goals as goal

pub returns-in_err-begun-clause-next : goal.returns-in_err-begun-clause-next
returns-in_err-begun-clause-next c =
    let l = c.args.self.now in
    rw c.from_residual.ensures (none-left l.place.machine (changes_of (feed (td_import_tree l.place.machine (input_in l.input) l.tdr l.slot) l.told.items)) l.written c.args.hasher.now c.in_err-begun.ensures.changes)

pub returns-in_err-write-clause-next : goal.returns-in_err-write-clause-next
returns-in_err-write-clause-next c =
    let l = c.args.self.now in
    rw c.from_residual-in_err-write.ensures
    (none-next l.place.machine (changes_of (feed (td_import_tree l.place.machine (input_in l.input) l.tdr l.slot) l.told.items)) l.written c.args.hasher.now c.td_write.new._hand (rw c.in_ok-begun.ensures.changes c.in_err-write.ensures.hands))

pub returns-clause-next : goal.returns-clause-next
returns-clause-next c =
    let l = c.args.self.now in
    some-next l.place.machine (changes_of (feed (td_import_tree l.place.machine (input_in l.input) l.tdr l.slot) l.told.items)) l.written c.args.hasher.now c.td_write.new._hand c.in_ok-write.write (rw c.in_ok-begun.ensures.changes c.in_ok-write.ensures.hands)
