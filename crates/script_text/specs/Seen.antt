-- What contracts see of a script.
use Rattle.std.specs.Prelude.{ℕ, List}
use Rattle.td_words.specs.Seen.{CodeSeen}
use Rattle.td_words.specs.declared.calls.Call.{Call}
use Rattle.td_words.specs.declared.machines.Machine.{Machine}

-- the machine, the schedule's items, the lists of guest operations, and each processor's calls
pub record ScriptSeen : Type 0 where
  pub machine : Machine
  pub schedule : List ℕ
  pub codes : List CodeSeen
  pub calls : List (List Call)
