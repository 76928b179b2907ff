-- The state after the first events of a run.
use Rattle.std.specs.Prelude.{ℕ, zero, suc, List, [], ◌∷◌, ◌++◌, Option, Some, None}
use Rattle.flat_core.specs.Opening.{Opening}
use Rattle.flat_core.specs.Event.{State, Event, start, next_event, event}
use Rattle.flat_core.specs.Run.{to_the_end}

-- how many events are still to be made of one and n more: an item of a processor that has no event left makes none
abbrev pub still_due : Option Event → ℕ → ℕ
still_due None n = suc n
still_due (Some e) n = n

-- from a state on n events, by the processors' numbers; fewer where these come to an end
abbrev pub after_events : Opening → ℕ → List ℕ → State → State
after_events o zero ps s = s
after_events o (suc n) [] s = s
after_events o (suc n) (p ∷ ps) s = after_events o (still_due (next_event o s p) n) ps (event o s p)

-- the state after the first n events of the run under a schedule; after all of them where it has fewer
unfoldable pub state_after : Opening → ℕ → List ℕ → State
state_after o n schedule = after_events o n (schedule ++ to_the_end 0 o.calls) (start o None)
