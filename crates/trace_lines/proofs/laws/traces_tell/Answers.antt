use Rattle.trace_lines.proofs.Telling.{traces-tell}
use Rattle.trace_lines.proofs.laws.traces_tell.Goals as goal

pub returns : goal.returns
returns c = traces-tell c.event_laws.ensures.others c.end_laws.ensures.one_reply
