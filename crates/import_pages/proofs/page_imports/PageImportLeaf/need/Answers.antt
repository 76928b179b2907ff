use Rattle.std.proofs.Common.{sym}
use Rattle.flat_core.specs.Inputs.{input_in}
use Rattle.import_pages.proofs.ImportSteps.{kept-gives, kept-passed, found-gives, found-kept, stop-gives, stop-then}
use Rattle.import_pages.proofs.page_imports.PageImportLeaf.need.Goals as goal

pub returns-in-Some-clause-gives : goal.returns-in-Some-clause-gives
returns-in-Some-clause-gives c = (let l = c.args.self.now in kept-gives l.place.machine (input_in l.input) l.tdr l.slot l.page l.importing l.told.items c.in-Some.field-0 c.in-Some.is)

pub returns-in-Some-clause-rest : goal.returns-in-Some-clause-rest
returns-in-Some-clause-rest c = (let l = c.args.self.now in kept-passed l.place.machine (input_in l.input) l.tdr l.slot l.page l.importing l.told.items c.in-Some.field-0 c.in-Some.is)

pub returns-in-Ok-clause-gives : goal.returns-in-Ok-clause-gives
returns-in-Ok-clause-gives c =
    let l = c.args.self.now in
    found-gives l.place.machine (input_in l.input) l.tdr l.slot l.page l.importing l.told.items c.in-None.is c.to_import.new.told.left.now c.in-Ok.importing (rw (sym c.as_slice.ensures.value) c.in-Ok.ensures.feeds)

pub returns-in-Ok-clause-rest : goal.returns-in-Ok-clause-rest
returns-in-Ok-clause-rest c =
    let l = c.args.self.now in
    found-kept l.place.machine (input_in l.input) l.tdr l.slot l.page l.importing l.told.items c.in-None.is c.to_import.new.told.left.now c.in-Ok.importing (rw (sym c.as_slice.ensures.value) c.in-Ok.ensures.feeds)

pub returns-in-Err-clause-gives : goal.returns-in-Err-clause-gives
returns-in-Err-clause-gives c =
    let l = c.args.self.now in
    rw c.need_at.ensures.need (stop-gives l.place.machine (input_in l.input) l.tdr l.slot l.page l.importing l.told.items c.in-None.is c.to_import.new.told.left.now c.in-Err.stop (rw (sym c.as_slice.ensures.value) c.in-Err.ensures.goes))

pub returns-in-Err-clause-rest : goal.returns-in-Err-clause-rest
returns-in-Err-clause-rest c =
    let l = c.args.self.now in
    stop-then l.place.machine (input_in l.input) l.tdr l.slot l.page l.importing l.told.items c.in-None.is c.to_import.new.told.left.now c.in-Err.stop (rw (sym c.as_slice.ensures.value) c.in-Err.ensures.goes) c.need_at.new.told.items c.need_at.ensures.told
