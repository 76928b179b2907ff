use Rattle.td_words.specs.declared.names.OpState.TheVariants.{LiveImport}
use Rattle.import_core.proofs.commits.CommitPlan.decide.Goals as goal

pub returns-clause-decides : goal.returns-clause-decides
returns-clause-decides c = c.op_verdict.ensures.decides LiveImport
