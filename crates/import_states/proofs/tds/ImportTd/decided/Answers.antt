use Rattle.flat_core.specs.Inputs.{input_in}
use Rattle.import_states.proofs.Asked.{begun-decides}
use Rattle.import_states.proofs.tds.ImportTd.decided.Goals as goal

pub returns-clause-decides : goal.returns-clause-decides
returns-clause-decides c =
    let l = c.args.self.now in
    rw c.as_slice.ensures.value at (begun-decides l.place.machine (input_in l.input) l.tdr l.slot c.as_slice.result.now c.td_import.new.told.left.now c.td_import.result c.td_import.ensures.goes)
