use Rattle.trace_lines.proofs.Going.{traces-go-on}
use Rattle.trace_lines.proofs.laws.traces_go_on.Goals as goal

pub returns : goal.returns
returns c = traces-go-on c.event_laws.ensures.others c.end_laws.ensures.runs_end
