use Rattle.flat_core.proofs.Owned.{lawful_owned, owners_kept, every_page_owned}
use Rattle.flat_core.proofs.laws.page_owner_law.Goals as goal

pub returns-clause-lawful : goal.returns-clause-lawful
returns-clause-lawful c = lawful_owned

pub returns-clause-kept : goal.returns-clause-kept
returns-clause-kept c = owners_kept

pub returns-clause-run : goal.returns-clause-run
returns-clause-run c = every_page_owned
