use Rattle.export_pages.proofs.PageSteps.{page-told, asked-told}
use Rattle.export_pages.proofs.page_exports.PageExportLeaf.tell.Goals as goal

pub returns-in-Some-clause-rest : goal.returns-in-Some-clause-rest
returns-in-Some-clause-rest c = (let l = c.args.self.now in page-told l.place l.tdr l.gpa l.stream l.slot l.exporting l.told.items l.words c.in-Some.field-0 c.in-Some.is c.args.word c.push.new.self c.push.ensures)

pub returns-in-None-clause-rest : goal.returns-in-None-clause-rest
returns-in-None-clause-rest c = (let l = c.args.self.now in asked-told l.place l.tdr l.gpa l.stream l.slot l.exporting l.told.items l.words c.in-None.is c.args.word c.push-in-None.new.self.items c.push-in-None.ensures.items)
