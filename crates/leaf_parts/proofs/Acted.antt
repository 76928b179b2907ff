-- Rows' acts, as leaves cite them.
use Rattle.std.proofs.Common.{[]}
use Rattle.std.specs.Prelude.{None}
use Rattle.td_words.specs.declared.machines.Machine.{Machine}
use Rattle.flat_core.specs.Opening.{Opening}

-- of a run's opening a call's row uses the machine alone
abbrev pub opening : Machine → Opening
opening m = record { machine = m; codes = λ t i. []; calls = []; bundles = λ slot. None; secrets = λ i. 0 }
