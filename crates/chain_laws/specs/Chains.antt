-- A chain: modules in a row, each with a flat state of its own, in which what one makes comes in at its neighbours. A pair is a
-- chain of two (TD Migration Architecture, "Migration Session Control").
use Rattle.std.specs.Prelude.{ℕ, zero, suc, List, [], ◌∷◌, ◌++◌, map, length, replicate, filter, flat_map, Option, None, Bool, true, false, not, if◌then◌else◌}
use Rattle.std.specs.List.{range_with_len}
use Rattle.td_words.specs.declared.calls.Call.{Call}
use Rattle.flat_core.specs.World.{World, Made, put}
use Rattle.flat_core.specs.Opening.{Opening, Incoming}
use Rattle.flat_core.specs.Event.{State, start, next_event, lines_left, event}
use Rattle.flat_core.specs.Run.{to_the_end}
use Rattle.flat_core.specs.Laws.{with_bundles}
use Rattle.flat_core.specs.TwoWorlds.{words_told}
use Rattle.flat_bundles.specs.Ended.{ended_bundles}
use Rattle.mig_laws.specs.Ivs.{is_forward}
use Rattle.incoming.specs.Arrivals.{SlotIncoming, at_slot}
use Rattle.image_laws.specs.Containers.{as_made}

-- a module that runs: its state, and the items that are left of its schedule and, behind it, of each processor to its end
pub record Module : Type 0 where
  pub state : State
  pub items : List ℕ

-- a chain before it runs: the opening and the schedule of each module, and how many there are
pub record Chain : Type 0 where
  pub openings : ℕ → Opening
  pub schedules : ℕ → List ℕ
  pub count : ℕ

-- a chain that runs, with the words that guests of all modules told, in the order of the events
pub record Running : Type 0 where
  pub modules : ℕ → Module
  pub told : List ℕ

abbrev pub state_of : Running → ℕ → State
state_of r i = (r.modules i).state

abbrev pub world_of : Running → ℕ → World
world_of r i = (state_of r i).world

-- What comes in at a module, once the calls that made it have ended: of the module before it the bundles of types 0 to 5, and of the
-- one behind it those of type 6.
abbrev pub comes_forward : Chain → (ℕ → Module) → ℕ → List Made
comes_forward c ms zero = []
comes_forward c ms (suc i) = filter is_forward (ended_bundles (c.openings i) (ms i).state)

abbrev pub comes_back : Chain → (ℕ → Module) → ℕ → List Made
comes_back c ms i = filter (λ b. not (is_forward b)) (ended_bundles (c.openings (suc i)) (ms (suc i)).state)

abbrev pub comes_in : Chain → (ℕ → Module) → ℕ → List Made
comes_in c ms i = comes_forward c ms i ++ comes_back c ms i

-- It comes in as it was made, each bundle in its slot.
abbrev pub in_its_slot : Made → SlotIncoming
in_its_slot b = record { slot = b.slot; bundle = as_made b }

abbrev pub in_slot : List Made → (slot : ℕ) → Option Incoming
in_slot bundles slot = at_slot (map in_its_slot bundles) slot

abbrev pub inputs : Chain → (ℕ → Module) → (i slot : ℕ) → Option Incoming
inputs c ms i slot = in_slot (comes_in c ms i) slot

-- a module's opening at an event
abbrev pub opening_now : Chain → (ℕ → Module) → ℕ → Opening
opening_now c ms i = with_bundles (c.openings i) (inputs c ms i)

-- A module's next event is of the first processor of its items that has a line left. Where no item has one, it has none.
abbrev pub has_line : List Call → Bool
has_line [] = false
has_line (c ∷ cs) = true

abbrev pub items_due : Opening → State → List ℕ → List ℕ
items_due o s [] = []
items_due o s (p ∷ ps) = if has_line (lines_left o p (s.lps p)) then p ∷ ps else items_due o s ps

abbrev pub go_on : Opening → State → List ℕ → Module
go_on o s [] = record { state = s; items = [] }
go_on o s (p ∷ ps) = record { state = event o s p; items = ps }

abbrev pub turn : Opening → Module → Module
turn o m = go_on o m.state (items_due o m.state m.items)

abbrev pub told_by : Opening → State → List ℕ → List ℕ
told_by o s [] = []
told_by o s (p ∷ ps) = words_told s.world (next_event o s p)

-- one event of module i
abbrev pub chain_event : Chain → Running → ℕ → Running
chain_event c r i =
    let o = opening_now c r.modules i in
    let m = r.modules i in
    record { modules = put r.modules i (turn o m); told = r.told ++ told_by o m.state (items_due o m.state m.items) }

abbrev pub play_chain : Chain → List ℕ → Running → Running
play_chain c [] r = r
play_chain c (i ∷ is) r = play_chain c is (chain_event c r i)

abbrev pub first_module : Chain → ℕ → Module
first_module c i = let o = c.openings i in record { state = start o None; items = c.schedules i ++ to_the_end 0 o.calls }

abbrev pub first_modules : Chain → Running
first_modules c = record { modules = first_module c; told = [] }

-- a moment of a run, after so many turns, each of the module with that number
abbrev pub at_moment : Chain → List ℕ → Running
at_moment c turns = play_chain c turns (first_modules c)

-- A plan gives a module its next so many events.
pub record PlanItem : Type 0 where
  pub number : ℕ
  pub events : ℕ

abbrev pub turns_of : List PlanItem → List ℕ
turns_of plan = flat_map (λ (x : PlanItem). replicate x.events x.number) plan

-- Behind it each module runs to its end, in order. What is left over does nothing.
abbrev pub last_turns : Chain → List ℕ
last_turns c = flat_map (λ i. replicate (length (first_module c i).items) i) (range_with_len 0 c.count)

abbrev pub chain_run : Chain → List PlanItem → Running
chain_run c plan = at_moment c (turns_of plan ++ last_turns c)
