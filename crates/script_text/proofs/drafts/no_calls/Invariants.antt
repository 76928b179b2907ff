use Rattle.std.proofs.Common.{◌≡◌, map, [], replicate}
use Rattle.script_text.proofs.drafts.no_calls.Given as goal

abbrev pub invariant-loop-lp : goal.invariant-loop-lp
invariant-loop-lp l = map (λ list. list.items) l.calls.items ≡ replicate l._lp []
