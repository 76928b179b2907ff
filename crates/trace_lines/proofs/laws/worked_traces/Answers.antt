use Rattle.trace_lines.proofs.Worked.{examples}
use Rattle.trace_lines.proofs.laws.worked_traces.Goals as goal

pub returns : goal.returns
returns c = examples
