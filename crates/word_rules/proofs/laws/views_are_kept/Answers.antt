use Rattle.word_rules.proofs.Kept.{views-are-kept}
use Rattle.word_rules.proofs.laws.views_are_kept.Goals as goal

pub returns : goal.returns
returns c = views-are-kept c.packings_undone.ensures
