use Rattle.flat_core.proofs.Always.{access_kept, access_always_holds, guests_reach_their_own}
use Rattle.flat_core.proofs.Memories.{accesses_are_own}
use Rattle.flat_core.proofs.laws.translation_law.Goals as goal

pub returns-clause-kept : goal.returns-clause-kept
returns-clause-kept c = access_kept

pub returns-clause-run : goal.returns-clause-run
returns-clause-run c = access_always_holds

pub returns-clause-own : goal.returns-clause-own
returns-clause-own c = guests_reach_their_own

pub returns-clause-accesses : goal.returns-clause-accesses
returns-clause-accesses c = accesses_are_own
