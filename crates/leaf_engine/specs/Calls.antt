-- A call's run beside its processor in the flat machine, event by event.
use Rattle.std.specs.Prelude.{◌≡◌, ◌⊎◌, ℕ, ◌+◌, ◌^◌, ◌<◌, false, Option, Some, None, List, [], ◌∷◌, ◌++◌, length}
use Rattle.td_words.specs.declared.names.LockName.{LockName}
use Rattle.td_words.specs.declared.machines.Machine.{Machine}
use Rattle.td_words.specs.declared.calls.Call.{Call}
use Rattle.td_words.specs.declared.replies.Reply.{Reply}
use Rattle.td_words.specs.Place.{WordPlace, IsIn, address}
use Rattle.flat_core.specs.World.{World, Made}
use Rattle.flat_core.specs.Processor.{LockId, name_of, Held, Phase, Trying, Undoing, Answered, Entering, new_guest, Lp}
use Rattle.flat_core.specs.Locks.{sharers, refusals}
use Rattle.flat_core.specs.Opening.{Opening}
use Rattle.flat_core.specs.Row.{Row}
use Rattle.flat_core.specs.Table.{row_of}
use Rattle.flat_core.specs.Lawful.{Lawful}
use Rattle.flat_core.specs.Event.{State, start, lines_left, event}
use Rattle.flat_core.specs.Laws.{IsBetween}
use Rattle.word_rules.specs.Cells.{Shows}
use Rattle.lock_words.specs.Grips.{IsExclusive}
use Rattle.lock_words.specs.LockWords.{place_of, Stands}
use Rattle.step_core.specs.Items.{Table, PlaysTo}
use Rattle.step_core.specs.declared.items.Taken.{Taken}
use Rattle.leaf_engine.specs.declared.events.RunTurn.{RunTurn}
use Rattle.leaf_engine.specs.declared.events.HeldLock.{HeldLock}
use Rattle.leaf_engine.specs.declared.events.Stage.{Stage}
use Rattle.leaf_engine.specs.declared.events.Stage.TheVariants as stages
use Rattle.leaf_engine.specs.Facts.{Facts}
use Rattle.leaf_engine.specs.Changes.{Memory}
use Rattle.leaf_engine.specs.Trees.{added, feed, settle}
use Rattle.leaf_engine.specs.Besides.{beside_of, beside_after, bundles_made}
use Rattle.leaf_engine.specs.Means.{Task, OfCall, MeansRow}
use Rattle.leaf_engine.specs.Follows.{granted, Current, NotActed}
use Rattle.leaf_engine.specs.Tables.{IsMemory}
use Rattle.leaf_engine.specs.Turns.{Standing, standing, IsTurn, has_ended}

-- a lock by its name and the address of its word, where it stands
pub record IsLockAt (m : Machine) (w : World) (name : LockName) (at : ℕ) (l : LockId) : Type 0 where
  pub name_is : name ≡ name_of l
  pub at_is : at ≡ address m.pages (place_of w l)
  pub in_machine : IsIn m (place_of w l)
  pub stands : Stands w l

-- the locks that a run holds, the oldest first, are those of its call, the newest first
abbrev pub AreLocks : Machine → World → List HeldLock → List Held → Type 0
AreLocks m w held [] = held ≡ []
AreLocks m w held (h ∷ hs) = (older : List HeldLock) × ((x : HeldLock) × (held ≡ older ++ x ∷ []) × (x.mode ≡ h.mode) × IsLockAt m w x.name x.at h.lock × AreLocks m w older hs)

-- its stage is the call's phase
abbrev pub IsStage : Machine → World → Stage → Phase Reply → Type 0
IsStage m w stages.Trying Trying = Unit {0}
IsStage m w (stages.Undoing name at) (Undoing l) = IsLockAt m w name at l
IsStage m w (stages.Answered reply) (Answered r) = reply ≡ r
IsStage m w _ _ = ⊥

-- on its way, what it was told stands, and says which locks it holds
pub record IsTold (task : Task) (words : WordPlace → ℕ) (run : Standing) (held : List Held) : Type 0 where
  pub told : List ℕ
  pub current : Current words task.tree told
  pub waits : NotActed task.tree told
  pub rest : run.rest ≡ feed task.tree told
  pub locks : granted task.tree told [] ≡ held

-- the line that a processor is at is a call of this row
pub record IsLine (o : Opening) (me : ℕ) (row : Row) (lp : Lp) : Type 0 where
  pub call : Call
  pub further : List Call
  pub lines : lines_left o me lp ≡ call ∷ further
  pub row_is : row_of o me call ≡ row

-- a run of a call's leaf is where its processor is
pub record IsCallAt (o : Opening) (task : Task) (row : Row) (w : World) (words : WordPlace → ℕ) (lp : Lp) (run : Standing) : Type 0 where
  pub line : IsLine o task.place.lp row lp
  pub guest : lp.guest ≡ None
  pub stage : IsStage task.place.machine w run.stage lp.call.phase
  pub held : AreLocks task.place.machine w run.held lp.call.held
  pub told : run.stage ≡ stages.Trying → IsTold task words run lp.call.held

-- words that show a lawful state, on a table
pub record IsShown (task : Task) (s : State) (mem : Memory) (t : Table) (run : Standing) : Type 0 where
  pub processor : task.place.lp < s.lp_count
  pub lawful : Lawful task.place.machine s.world
  pub shown : Shows task.place.machine mem.words mem.slots s
  pub memory : IsMemory task.place.machine t run.hasher mem
  pub exclusive : IsExclusive s
  pub few_sharers : (l : LockId) → sharers s.lps s.lp_count l + refusals s.lps s.lp_count l + 1 < 2 ^ 63
  pub nothing_to_tell : s.world.outgoing.to_tell ≡ None
  pub facts : Facts s
  pub empty_hand : run.stage ≡ stages.Trying → mem.hand ≡ None

-- it goes on, or its call is over, with its reply
pub record GoesOn (o : Opening) (task : Task) (row : Row) (before : List Reply) (w : World) (mem : Memory) (lp : Lp) (run : Standing) (reply : Option Reply) : Type 0 where
  pub no_reply : reply ≡ None
  pub replies_are : lp.replies ≡ before
  pub call : IsCallAt o task row w mem.words lp run
  pub empty_hand : run.stage ≡ stages.Trying → mem.hand ≡ None

pub record IsOver (replies : List Reply) (lp : Lp) (reply : Option Reply) : Type 0 where
  pub answer : Reply
  pub reply_is : reply ≡ Some answer
  pub replies_are : lp.replies ≡ replies ++ answer ∷ []
  pub between : IsBetween lp

-- or it has entered a guest, under the locks that it holds
pub record HasEntered (task : Task) (row : Row) (before : Lp) (w : World) (lp : Lp) (run : Standing) : Type 0 where
  pub entering : Entering
  pub enters : row.enters ≡ Some entering
  pub guest : lp.guest ≡ Some (new_guest entering)
  pub call_is : lp.call ≡ before.call
  pub replies_are : lp.replies ≡ before.replies
  pub reply : Reply
  pub answered : run.stage ≡ stages.Answered reply
  pub held : AreLocks task.place.machine w run.held lp.call.held

abbrev pub Then : Opening → Task → Row → (before : Lp) → World → Memory → Lp → Standing → Option Reply → Type 0
Then o task row before w mem lp run reply = GoesOn o task row before.replies w mem lp run reply ⊎ (IsOver before.replies lp reply ⊎ HasEntered task row before w lp run)

-- After a turn, in the state after the flat machine's event: what the processor has besides its call is what the turn makes
-- of it, and the bundles made so far are those before and the turn's.
pub record After (o : Opening) (task : Task) (row : Row) (before s : State) (u : Table) (run : Standing) (result : RunTurn) : Type 0 where
  pub mem : Memory
  pub shown : Shows task.place.machine mem.words mem.slots s
  pub memory : IsMemory task.place.machine u run.hasher mem
  pub beside : (bundles : List Made) → let b = beside_after result.event run.rest (beside_of (before.lps task.place.lp) bundles) in beside_of (s.lps task.place.lp) b.bundles ≡ b
  pub bundles : s.world.outgoing.bundles ≡ added before.world.outgoing.bundles (bundles_made result.event run.rest)
  pub then_ : Then o task row (before.lps task.place.lp) s.world mem (s.lps task.place.lp) run result.reply

-- Over words that show a state, each turn of a call's run is the next event of its processor: the words show the state
-- after that event, its processor has what the leaf's answer makes of it, and the reply comes with the last one.
abbrev pub CallsFollow : Type 0
CallsFollow = (o : Opening) (task : Task) (row : Row) (s : State) (mem : Memory) (t u : Table) (run run' : Standing) (xs : List Taken) (result : RunTurn)
    → MeansRow task → task.meaning ≡ OfCall row → IsShown task s mem t run → IsCallAt o task row s.world mem.words (s.lps task.place.lp) run
    → has_ended run.stage run.held ≡ false → IsTurn task.place.machine run xs run' result → PlaysTo t xs u
    → After o task row s (event o s task.place.lp) u run' result

-- A run begins where its processor does: at a line that is a call of its row, between two calls.
abbrev pub CallsBegin : Type 0
CallsBegin = (o : Opening) (task : Task) (row : Row) (w : World) (words : WordPlace → ℕ) (lp : Lp) → IsLine o task.place.lp row lp → IsBetween lp
    → IsCallAt o task row w words lp (standing (settle task.tree) stages.Trying [] None)

-- The premise can be met: words that are all 0, with no hasher anywhere, show the start of every run.
abbrev pub no_memory : Memory
no_memory = record { words = λ q. 0; slots = λ h. None; hand = None }

abbrev pub StartIsMet : Type 0
StartIsMet = (o : Opening) (task : Task) (run : Standing) → o.machine ≡ task.place.machine → task.place.lp < length o.calls → run.hasher ≡ None
    → IsShown task (start o None) no_memory (record { words = λ n. 0; slots = λ k. None }) run
