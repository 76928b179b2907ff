use Rattle.image_laws.proofs.Covered.{containers_are_covered, containers_agree, alike_show, runs_show_the_same}
use Rattle.image_laws.proofs.Arriving.{alike_come_in_agreeing, sealed_come_alike}
use Rattle.image_laws.proofs.sealing.covered_law.Goals as goal

pub returns-clause-bytes : goal.returns-clause-bytes
returns-clause-bytes c = containers_are_covered c.bundles_read_again.ensures

pub returns-clause-containers : goal.returns-clause-containers
returns-clause-containers c = containers_agree

pub returns-clause-alike : goal.returns-clause-alike
returns-clause-alike c = alike_show

pub returns-clause-runs : goal.returns-clause-runs
returns-clause-runs c = runs_show_the_same c.two_world_law.ensures.bundles c.two_world_law.ensures.agreeing

pub returns-clause-come : goal.returns-clause-come
returns-clause-come c = alike_come_in_agreeing

pub returns-clause-sealed : goal.returns-clause-sealed
returns-clause-sealed c = sealed_come_alike
