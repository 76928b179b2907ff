use Rattle.flat_laws.proofs.Usable.{usable-name-their-own, host-pages-are-unnamed, owners-alone-use}
use Rattle.flat_laws.proofs.Moves.{pages-move-unnamed}
use Rattle.flat_laws.proofs.GivenBack.{given-back-are-emptied}
use Rattle.flat_laws.proofs.laws.move_law.Goals as goal

pub returns-clause-usable : goal.returns-clause-usable
returns-clause-usable c = usable-name-their-own

pub returns-clause-host : goal.returns-clause-host
returns-clause-host c = host-pages-are-unnamed

pub returns-clause-owners : goal.returns-clause-owners
returns-clause-owners c = owners-alone-use

pub returns-clause-moves : goal.returns-clause-moves
returns-clause-moves c = pages-move-unnamed

pub returns-clause-emptied : goal.returns-clause-emptied
returns-clause-emptied c = given-back-are-emptied
