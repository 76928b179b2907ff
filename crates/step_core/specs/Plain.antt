-- What contracts see of a bench that nobody else uses.
use Rattle.std.specs.Prelude.{ℕ, List, Option, None, replicate, slice_index, slice_index_or}
use Rattle.td_words.specs.declared.machines.Machine.{Machine}
use Rattle.mrtd_measure.specs.declared.measures.Measure.{Measure}
use Rattle.step_core.specs.Words.{word_count}
use Rattle.step_core.specs.Items.{Table}

-- the machine, its words in the order of their addresses, and its hashers in the order of their slots
pub record PlainSeen : Type 0 where
  pub machine : Machine
  pub words : List ℕ
  pub slots : List (Option Measure)

-- the same by address and by slot
abbrev pub table_of : PlainSeen → Table
table_of b = record { words = λ n. slice_index b.words n; slots = λ n. slice_index_or b.slots n None }

-- every word 0, and no hasher anywhere
abbrev pub start_of : Machine → PlainSeen
start_of m = record { machine = m; words = replicate (word_count m) 0; slots = replicate m.hkids None }
