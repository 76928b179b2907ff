use Rattle.flat_core.specs.Inputs.{input_in}
use Rattle.import_pages.proofs.ImportSteps.{room-none, word-told}
use Rattle.import_pages.proofs.page_imports.PageImportLeaf.tell.Goals as goal

pub returns-clause-rest : goal.returns-clause-rest
returns-clause-rest c =
    let l = c.args.self.now in
    word-told l.place.machine (input_in l.input) l.tdr l.slot l.page l.importing l.told.items (room-none l.place.machine (input_in l.input) l.tdr l.slot l.page l.importing l.told.items (l.room c.requires)) c.args.word c.push.new.self.items c.push.ensures.items
