use Rattle.std.proofs.Common.{◌≡◌, ◌++◌, map, string_bytes}
use Rattle.state_runs.specs.Reading.{lps_read}
use Rattle.state_runs.proofs.reading.push_lps.Given as goal

abbrev pub invariant-loop-lp : goal.invariant-loop-lp
invariant-loop-lp l = string_bytes l.text ≡ string_bytes l.initial.text ++ lps_read l.form l.words (map (λ list. list.items) l.calls) l.lps l.lp
