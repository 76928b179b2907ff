use Rattle.flat_core.proofs.Spared.{row_spares}
use Rattle.flat_core.proofs.Ends.{events_spare}
use Rattle.flat_core.proofs.Entered.{entered_kept, entered_in_guest}
use Rattle.flat_core.proofs.laws.guest_law.Goals as goal

pub returns-clause-spare : goal.returns-clause-spare
returns-clause-spare c = row_spares

pub returns-clause-events : goal.returns-clause-events
returns-clause-events c = events_spare

pub returns-clause-kept : goal.returns-clause-kept
returns-clause-kept c = entered_kept

pub returns-clause-run : goal.returns-clause-run
returns-clause-run c = entered_in_guest
