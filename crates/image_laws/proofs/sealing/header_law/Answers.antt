use Rattle.image_laws.proofs.Values.{tables_agree, lawful_have_values, rows_find_faults}
use Rattle.image_laws.proofs.sealing.header_law.Goals as goal

pub returns-clause-tables : goal.returns-clause-tables
returns-clause-tables c = tables_agree

pub returns-clause-values : goal.returns-clause-values
returns-clause-values c = lawful_have_values

pub returns-clause-faults : goal.returns-clause-faults
returns-clause-faults c = rows_find_faults
