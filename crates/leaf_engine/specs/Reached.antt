-- The premise of a call's run is met on the way too: in every state that a run reaches.
use Rattle.std.specs.Prelude.{◌≡◌, ℕ, ◌<◌, ◌≤◌, None, List, length}
use Rattle.flat_core.specs.Opening.{Opening}
use Rattle.flat_core.specs.Laws.{reached}
use Rattle.word_rules.specs.Cells.{Shows}
use Rattle.step_core.specs.Items.{Table}
use Rattle.leaf_engine.specs.declared.events.Stage.TheVariants as stages
use Rattle.leaf_engine.specs.Changes.{Memory}
use Rattle.leaf_engine.specs.Means.{Task}
use Rattle.leaf_engine.specs.Tables.{IsMemory}
use Rattle.leaf_engine.specs.Turns.{Standing}
use Rattle.leaf_engine.specs.Calls.{IsShown}

-- Where words on a table show a state that a schedule of at most eight processors leads to, all else that a call's run asks
-- of the state is so.
abbrev pub ReachedIsMet : Type 0
ReachedIsMet = (o : Opening) (schedule : List ℕ) (task : Task) (mem : Memory) (t : Table) (run : Standing) → let s = reached o None schedule in
    o.machine ≡ task.place.machine → task.place.lp < length o.calls → length o.calls ≤ 8
    → Shows task.place.machine mem.words mem.slots s → IsMemory task.place.machine t run.hasher mem → (run.stage ≡ stages.Trying → mem.hand ≡ None)
    → IsShown task s mem t run
