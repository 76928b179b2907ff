use Rattle.leaf_trials.proofs.Meant.{entering-means, making-means, telling-means}
use Rattle.leaf_trials.proofs.laws.trials_mean.Goals as goal

pub returns-clause-entering : goal.returns-clause-entering
returns-clause-entering c = entering-means

pub returns-clause-making : goal.returns-clause-making
returns-clause-making c = making-means

pub returns-clause-telling : goal.returns-clause-telling
returns-clause-telling c = telling-means
