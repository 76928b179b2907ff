use Rattle.state_lines.proofs.Going.{states-go-on}
use Rattle.state_lines.proofs.laws.states_go_on.Goals as goal

pub returns : goal.returns
returns c = states-go-on c.event_laws.ensures.others c.end_laws.ensures.runs_end
