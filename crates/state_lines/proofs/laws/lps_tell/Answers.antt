use Rattle.state_lines.proofs.Standing.{lp-told}
use Rattle.state_lines.proofs.laws.lps_tell.Goals as goal

pub returns : goal.returns
returns c = λ f o t p calls words s at_words at limits lawful shown stands. lp-told c.packings_undone.ensures f o words s limits lawful shown t p calls at_words at stands
