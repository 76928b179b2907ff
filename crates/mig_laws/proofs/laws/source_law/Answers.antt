use Rattle.mig_laws.proofs.Source.{source_kept, every_page_holds, every_sent_tracked, no_store_reaches}
use Rattle.mig_laws.proofs.laws.source_law.Goals as goal

pub returns-clause-kept : goal.returns-clause-kept
returns-clause-kept c = source_kept

pub returns-clause-pages : goal.returns-clause-pages
returns-clause-pages c = every_page_holds

pub returns-clause-tracked : goal.returns-clause-tracked
returns-clause-tracked c = every_sent_tracked

pub returns-clause-stores : goal.returns-clause-stores
returns-clause-stores c = no_store_reaches
