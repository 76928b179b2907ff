-- The locks that a call holds on its way to its act: the first that its row tries, in their order and modes. The page that it
-- has tried because an entry names it is still the one named, whatever others do: whoever changes that holds T alone.
use Rattle.std.specs.Prelude.{◌≡◌, ℕ, List, [], ◌∷◌, length, ◌<◌, ◌==◌, false, Option, Some, None}
use Rattle.td_words.specs.declared.calls.Call.{Call}
use Rattle.td_words.specs.declared.replies.Reply.{Reply}
use Rattle.flat_core.specs.World.{World}
use Rattle.flat_core.specs.Processor.{Held, Phase, Trying, Guest}
use Rattle.flat_core.specs.Opening.{Opening}
use Rattle.flat_core.specs.Tries.{tries_of}
use Rattle.flat_core.specs.Inside.{held_then}
use Rattle.flat_core.specs.Event.{State, Event, lines_left, next_event, world_after}
use Rattle.flat_core.specs.AccessLaw.{IsGuarded}
use Rattle.flat_core.specs.Laws.{reached, IsExclusive, IsKeptInRuns, HoldsInRuns}
use Rattle.word_rules.specs.Permissions.{Respects, NoLaterConflict}
use Rattle.lock_words.specs.Grips.{grip_of}

-- the first of its list
abbrev pub HoldsFirstOf : Opening → World → Call → List Held → Type 0
HoldsFirstOf o w c hs = (rest : List Held) × (tries_of o c w ≡ held_then hs rest)

-- so of the next line, outside guests, while it is on its way
abbrev pub LineHolds : Opening → World → List Call → List Held → Type 0
LineHolds o w [] hs = Unit {0}
LineHolds o w (c ∷ cs) hs = HoldsFirstOf o w c hs

abbrev pub PhaseHolds : Opening → World → List Call → Option Guest → Phase Reply → List Held → Type 0
PhaseHolds o w cs None Trying hs = LineHolds o w cs hs
PhaseHolds o w cs _ _ hs = Unit {0}

-- and of each processor
abbrev pub CallsHoldTheirs : Opening → State → Type 0
CallsHoldTheirs o s = (q : ℕ) → PhaseHolds o s.world (lines_left o q (s.lps q)) (s.lps q).guest (s.lps q).call.phase (s.lps q).call.held

-- where locks exclude, and as many processors take part as have calls
pub record CallsHoldApart (o : Opening) (s : State) : Type 0 where
  pub exclusive : IsExclusive s
  pub count : s.lp_count ≡ length o.calls
  pub each : CallsHoldTheirs o s

abbrev pub CallLocksAreKept : Type 0
CallLocksAreKept = IsKeptInRuns CallsHoldApart

-- In a state: every event, a call's and a guest's, changes what words are only as the rules say, under what its processor has.
abbrev pub EventsRespect : Opening → State → Type 0
EventsRespect o s = (p : ℕ) (e : Event) → next_event o s p ≡ Some e → Respects (grip_of s p) s.world (world_after e s.world)

-- So it is where no stale translation is used and calls hold their locks, and so in every state that a schedule leads to.
abbrev pub GuardedEventsRespect : Type 0
GuardedEventsRespect = (o : Opening) (s : State) → IsGuarded o s → CallsHoldTheirs o s → EventsRespect o s

abbrev pub EveryEventRespects : Type 0
EveryEventRespects = HoldsInRuns EventsRespect

-- So what another processor may read, owe, fill, try or swap stays allowed to it through each event.
abbrev pub EventsSpareOthers : Type 0
EventsSpareOthers = (o : Opening) (words_to_tell : Option (List ℕ)) (schedule : List ℕ) (p q : ℕ) (e : Event)
    → let s = reached o words_to_tell schedule in p < s.lp_count → q < s.lp_count → (q == p) ≡ false → next_event o s p ≡ Some e
    → NoLaterConflict (grip_of s q) (grip_of s p) s.world (world_after e s.world)
