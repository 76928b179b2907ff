use Rattle.map_laws.proofs.Tracked.{counts-epoch}
use Rattle.map_laws.proofs.epochs.count_of.Goals as goal

pub returns : goal.returns
returns c = counts-epoch c.args.epoch c.count_at.result c.count_at.ensures
