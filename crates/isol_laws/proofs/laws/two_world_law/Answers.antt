use Rattle.isol_laws.proofs.Worlds.{worlds_are_kept, blind_alike, blind_prints, blind_bundles, agreeing_show, secrets_are_private}
use Rattle.isol_laws.proofs.laws.two_world_law.Goals as goal

pub returns-clause-kept : goal.returns-clause-kept
returns-clause-kept c = worlds_are_kept c.translation_law.ensures.kept c.alike_laws.ensures.events c.alike_laws.ensures.told

pub returns-clause-alike : goal.returns-clause-alike
returns-clause-alike c = blind_alike c.translation_law.ensures.kept c.alike_laws.ensures.events c.alike_laws.ensures.told

pub returns-clause-prints : goal.returns-clause-prints
returns-clause-prints c = blind_prints c.translation_law.ensures.kept c.alike_laws.ensures.events c.alike_laws.ensures.told

pub returns-clause-bundles : goal.returns-clause-bundles
returns-clause-bundles c = blind_bundles c.translation_law.ensures.kept c.alike_laws.ensures.events c.alike_laws.ensures.told

pub returns-clause-agreeing : goal.returns-clause-agreeing
returns-clause-agreeing c = agreeing_show c.translation_law.ensures.kept c.alike_laws.ensures.events c.alike_laws.ensures.told

pub returns-clause-private : goal.returns-clause-private
returns-clause-private c = secrets_are_private
