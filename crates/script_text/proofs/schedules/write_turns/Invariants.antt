use Rattle.std.proofs.Common.{◌≡◌, ◌++◌, replicate}
use Rattle.script_text.proofs.schedules.write_turns.Given as goal

abbrev pub invariant-loop-turn : goal.invariant-loop-turn
invariant-loop-turn l = l.schedule.items ≡ l.initial.schedule.items ++ replicate l._turn l.turns.lp
