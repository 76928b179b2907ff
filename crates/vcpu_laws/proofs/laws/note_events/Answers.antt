use Rattle.vcpu_laws.proofs.Images.{pauses_are_noted, commits_are_noted}
use Rattle.vcpu_laws.proofs.laws.note_events.Goals as goal

pub returns-clause-pauses : goal.returns-clause-pauses
returns-clause-pauses c = pauses_are_noted

pub returns-clause-commits : goal.returns-clause-commits
returns-clause-commits c = commits_are_noted
