use Rattle.std.proofs.Common.{sym}
use Rattle.flat_core.specs.Inputs.{input_in}
use Rattle.import_pages.proofs.ImportSteps.{kept-ends, found-ends, stop-ends}
use Rattle.import_pages.proofs.page_imports.PageImport.ended.Goals as goal

pub returns-in-Some : goal.returns-in-Some
returns-in-Some c = (let l = c.args.self.now in kept-ends l.place.machine (input_in l.input) l.tdr l.slot l.page l.importing l.told.items c.in-Some.importing c.in-Some.is l.known)

pub returns-in-Ok : goal.returns-in-Ok
returns-in-Ok c =
    let l = c.args.self.now in
    found-ends l.place.machine (input_in l.input) l.tdr l.slot l.page l.importing l.told.items c.in-None.is c.to_import.new.told.left.now c.in-Ok.importing (rw (sym c.as_slice.ensures.value) c.in-Ok.ensures.feeds) c.in-Ok.ensures.inside

pub returns-in-Err : goal.returns-in-Err
returns-in-Err c =
    let l = c.args.self.now in
    stop-ends l.place.machine (input_in l.input) l.tdr l.slot l.page l.importing l.told.items c.in-None.is c.to_import.new.told.left.now c.in-Err.field-0 (rw (sym c.as_slice.ensures.value) c.in-Err.ensures.goes)
