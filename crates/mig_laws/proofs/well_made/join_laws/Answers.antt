use Rattle.mig_laws.proofs.Begun.{imports-begin, token-fits-then}
use Rattle.mig_laws.proofs.Joined.{token-brings-all}
use Rattle.mig_laws.proofs.Latest.{imports-stay-in-order, imports-keep-last}
use Rattle.mig_laws.proofs.well_made.join_laws.Goals as goal

pub returns-clause-begin : goal.returns-clause-begin
returns-clause-begin c = imports-begin

pub returns-clause-order : goal.returns-clause-order
returns-clause-order c = imports-stay-in-order

pub returns-clause-pages : goal.returns-clause-pages
returns-clause-pages c = imports-keep-last

pub returns-clause-tokens : goal.returns-clause-tokens
returns-clause-tokens c = token-brings-all

pub returns-clause-fits : goal.returns-clause-fits
returns-clause-fits c = token-fits-then
