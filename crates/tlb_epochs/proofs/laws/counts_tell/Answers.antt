use Rattle.tlb_epochs.proofs.Entries.{counts}
use Rattle.tlb_epochs.proofs.laws.counts_tell.Goals as goal

pub returns : goal.returns
returns c = counts
