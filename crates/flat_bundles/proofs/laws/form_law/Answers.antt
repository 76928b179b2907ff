use Rattle.flat_bundles.proofs.Formed.{forms_kept, every_bundle_is_formed}
use Rattle.flat_bundles.proofs.laws.form_law.Goals as goal

pub returns-clause-kept : goal.returns-clause-kept
returns-clause-kept c = forms_kept

pub returns-clause-runs : goal.returns-clause-runs
returns-clause-runs c = every_bundle_is_formed
