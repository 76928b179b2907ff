use Rattle.export_pages.proofs.page_conditions.tracked_in.Goals as goal

pub returns-in-LiveExport-clause-goes : goal.returns-in-LiveExport-clause-goes
returns-in-LiveExport-clause-goes c = rw c.in-LiveExport.is c.tracked.ensures.goes
