use Rattle.map_laws.proofs.Tracked.{decides-tracked}
use Rattle.map_laws.proofs.epochs.tracked_by.Goals as goal

pub returns : goal.returns
returns c = decides-tracked c.args.pamt c.args.epoch c.args.previous c.is_tracked.result c.is_tracked.ensures
