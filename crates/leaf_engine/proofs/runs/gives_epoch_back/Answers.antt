use Rattle.std.proofs.Common.{◌∙◌, ap, sym}
use Rattle.leaf_engine.proofs.Newest.{is_epoch, by-newest}
use Rattle.leaf_engine.proofs.runs.gives_epoch_back.Goals as goal

pub returns-in-Some : goal.returns-in-Some
returns-in-Some c = c.is_epoch.ensures ∙ (ap is_epoch c.in-Some.ensures.value ∙ sym (by-newest c.args.held.now))
