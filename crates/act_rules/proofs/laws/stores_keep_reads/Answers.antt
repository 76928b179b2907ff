use Rattle.act_rules.proofs.Stored.{stores-keep-reads}
use Rattle.act_rules.proofs.laws.stores_keep_reads.Goals as goal

pub returns : goal.returns
returns c = stores-keep-reads c.places_injective.ensures c.views_are_kept.ensures c.words_never_conflict.ensures.words c.words_never_conflict.ensures.acts
