use Rattle.std.proofs.Common.{None, ◌++◌}
use Rattle.flat_core.specs.Event.{start}
use Rattle.flat_core.specs.Run.{to_the_end}
use Rattle.trace_texts.proofs.Names.{lines_named}
use Rattle.trace_texts.proofs.OfCalls.{events-of}
use Rattle.trace_texts.proofs.laws.lines_name_calls.Goals as goal

pub returns : goal.returns
returns c = record { names = lines_named c.scripts_are_in_form.ensures; events = λ o schedule. events-of o (start o None) 1 (schedule ++ to_the_end 0 o.calls) }
