use Rattle.td_words.specs.declared.names.OpState.TheVariants.{PausedExport}
use Rattle.export_core.proofs.pauses.PausePlan.decide.Goals as goal

pub returns-clause-decides : goal.returns-clause-decides
returns-clause-decides c = c.op_verdict.ensures.decides PausedExport
