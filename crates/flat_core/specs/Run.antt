-- Runs: one event of the named processor for each item of the schedule, and then each processor to its end in number
-- order.
use Rattle.std.specs.Prelude.{ℕ, suc, ◌+◌, List, [], ◌∷◌, ◌++◌, replicate, Option, Some, None}
use Rattle.td_words.specs.declared.calls.Call.{Call}
use Rattle.flat_core.specs.World.{Made}
use Rattle.flat_core.specs.Opening.{Opening}
use Rattle.flat_core.specs.Table.{most_events}
use Rattle.flat_core.specs.Event.{State, start, event}

abbrev pub play : Opening → List ℕ → State → State
play o [] s = s
play o (p ∷ ps) s = play o ps (event o s p)

abbrev pub events_in : List Call → ℕ
events_in [] = 0
events_in (c ∷ cs) = most_events c + events_in cs

-- at least as many items as each processor can use: what is left over does nothing
abbrev pub to_the_end : ℕ → List (List Call) → List ℕ
to_the_end p [] = []
to_the_end p (cs ∷ css) = replicate (events_in cs) p ++ to_the_end (suc p) css

abbrev pub run_telling : Option (List ℕ) → Opening → List ℕ → State
run_telling words_to_tell o schedule = play o (schedule ++ to_the_end 0 o.calls) (start o words_to_tell)

abbrev pub run : Opening → List ℕ → State
run o schedule = run_telling None o schedule

-- the run in which each word that is told is the next of these in place of a register's
abbrev pub run_told : Opening → List ℕ → List ℕ → State
run_told o schedule words_to_tell = run_telling (Some words_to_tell) o schedule

-- the words that guests told, in order, and the bundles that were made
abbrev pub told_in : State → List ℕ
told_in s = s.world.outgoing.told

abbrev pub bundles_in : State → List Made
bundles_in s = s.world.outgoing.bundles

-- what a TD's guest memory holds at a GPA page
abbrev pub guest_memory : State → ℕ → ℕ → Option (ℕ → ℕ)
guest_memory s t g = s.world.hidden.memories t g
