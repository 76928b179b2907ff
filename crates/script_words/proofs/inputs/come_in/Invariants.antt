use Rattle.std.proofs.Common.{take, IfSome}
use Rattle.std.specs.List.{All}
use Rattle.flat_words.specs.Words.{BringsWords}
use Rattle.incoming.specs.Arrivals.{at_slot}
use Rattle.script_words.proofs.inputs.come_in.Given as goal

abbrev pub invariant-loop-i : goal.invariant-loop-i
invariant-loop-i l = All (λ b. IfSome (at_slot l.bundles b.slot) BringsWords) (take l.i l.sealed)
