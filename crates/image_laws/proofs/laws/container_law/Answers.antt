use Rattle.image_laws.proofs.Containers.{whole_is_kept, runs_make_whole, containers_bring_bundles, nothing_is_forged, containers_bring_words, images_are_kept, containers_bring_images}
use Rattle.image_laws.proofs.laws.container_law.Goals as goal

pub returns-clause-kept : goal.returns-clause-kept
returns-clause-kept c = whole_is_kept

pub returns-clause-runs : goal.returns-clause-runs
returns-clause-runs c = runs_make_whole

pub returns-clause-bundles : goal.returns-clause-bundles
returns-clause-bundles c = containers_bring_bundles

pub returns-clause-forged : goal.returns-clause-forged
returns-clause-forged c = nothing_is_forged

pub returns-clause-words : goal.returns-clause-words
returns-clause-words c = containers_bring_words

pub returns-clause-follow : goal.returns-clause-follow
returns-clause-follow c = images_are_kept

pub returns-clause-images : goal.returns-clause-images
returns-clause-images c = containers_bring_images
