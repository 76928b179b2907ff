use Rattle.std.proofs.Common.{inr}
use Rattle.bundle_store.specs.declared.outside.SaveFault.TheVariants as save
use Rattle.script_runner.proofs.Unsaved.{tells-unsaved}
use Rattle.script_runner.proofs.top.save_file.Goals as goal

pub returns-in-Ok-unwritten-clause-saves : goal.returns-in-Ok-unwritten-clause-saves
returns-in-Ok-unwritten-clause-saves g c =
    let failed = c.in-Err-Failed.ensures in
    inr (save.Failed, record { noted = rw c.in-Err-Failed.field-0-is at c.in-Err-Failed.ensures.noted; told = failed.told; kept = failed.kept; cause = rw c.in-Err-Failed.field-0-is at c.in-Err-Failed.ensures.cause; later = failed.later }, tells-unsaved _ _ _ _ _ c.in-Ok-unwritten.ensures c.tell.ensures.tells)
