-- Lock words follow the states of locks, through every try, undo and release.
use Rattle.std.specs.Prelude.{◌≡◌, ℕ, ◌+◌, ◌^◌, ◌<◌, ◌≤◌, Bool, true, false, ◌==◌, nat_lt, if◌then◌else◌, Option, Some, None, List, [], ◌∷◌, length, slice_index}
use Rattle.td_words.specs.declared.names.LockName.TheVariants as name
use Rattle.td_words.specs.declared.calls.Call.{Call}
use Rattle.td_words.specs.declared.names.OpState.{OpState}
use Rattle.td_words.specs.declared.names.Mode.{Mode}
use Rattle.td_words.specs.declared.names.Mode.TheVariants.{Shared, Exclusive}
use Rattle.td_words.specs.declared.machines.Machine.{Machine}
use Rattle.td_words.specs.Place.{WordPlace, IsIn, same_place, lock_place}
pub use Rattle.td_words.specs.Place.{weight_of}
use Rattle.flat_core.specs.World.{World}
use Rattle.flat_core.specs.Processor.{LockId, OfPage, OfOp, OfTree, OfEpoch, OfRtmr, OfKeys, Held, Phase, Trying, Undoing, Answered, Guest, Lp, nothing_yet}
use Rattle.flat_core.specs.Locks.{same_lock, sum_below, sharers, refusals, grants}
use Rattle.flat_core.specs.Lawful.{Lawful, IsAlive}
use Rattle.flat_core.specs.Opening.{Opening}
use Rattle.flat_core.specs.Row.{Move, Attempts, Undoes, Releases, Passes, next_in}
use Rattle.flat_core.specs.Event.{State, Event, OfCall, OfOperation, Leaves, start, next_event, calls_of, is_granted, event}
use Rattle.flat_core.specs.Conditions.{td_row}
use Rattle.flat_core.specs.Table.{row_of}
use Rattle.flat_core.specs.Laws.{IsQuiet, reached}
use Rattle.word_rules.specs.Guards.{Grip, Locked}
use Rattle.lock_words.specs.Grips.{locks_of}
use Rattle.word_rules.specs.Cells.{lock_word, Shows}
use Rattle.word_rules.specs.Permissions.{Respects}

-- the place of a lock's word in a world
abbrev pub tdcs_of : World → ℕ → ℕ
tdcs_of w t = slice_index (w.tds.controls t) 0

abbrev pub place_of : World → LockId → WordPlace
place_of w (OfPage p) = lock_place 0 (name.Page p)
place_of w (OfOp t) = lock_place (tdcs_of w t) name.Op
place_of w (OfTree t) = lock_place (tdcs_of w t) name.Tree
place_of w (OfEpoch t) = lock_place (tdcs_of w t) name.Epoch
place_of w (OfRtmr t) = lock_place (tdcs_of w t) name.Rtmr
place_of w OfKeys = lock_place 0 name.Keys

-- the locks of a TD stand while it is alive and has its TDCS page
pub record TdStands (w : World) (t : ℕ) : Type 0 where
  pub alive : IsAlive w.pages w.tds t
  pub has_tdcs : (length (w.tds.controls t) == 0) ≡ false

abbrev pub Stands : World → LockId → Type 0
Stands w (OfPage p) = Unit {0}
Stands w (OfOp t) = TdStands w t
Stands w (OfTree t) = TdStands w t
Stands w (OfEpoch t) = TdStands w t
Stands w (OfRtmr t) = TdStands w t
Stands w OfKeys = Unit {0}

-- the locks that are held, or being refused, stand: of every processor's call, and of its guest's operation
abbrev pub HeldStand : World → List Held → Type 0
HeldStand w [] = Unit {0}
HeldStand w (h ∷ hs) = Stands w h.lock × HeldStand w hs

abbrev pub UndoStands : {R : Type 0} → World → Phase R → Type 0
UndoStands w Trying = Unit {0}
UndoStands w (Undoing l) = Stands w l
UndoStands w (Answered r) = Unit {0}

abbrev pub GuestStands : World → Option Guest → Type 0
GuestStands w None = Unit {0}
GuestStands w (Some g) = HeldStand w g.operation.held × UndoStands w g.operation.phase

abbrev pub LocksStand : State → Type 0
LocksStand s = (q : ℕ) → q < s.lp_count → HeldStand s.world (s.lps q).call.held × UndoStands s.world (s.lps q).call.phase × GuestStands s.world (s.lps q).guest

-- what a holder of one lock adds to the word of another
abbrev pub weight_at : LockId → LockId → Mode → ℕ
weight_at k l mode = if same_lock k l then weight_of mode else 0

-- What a step adds to the word of a lock: a granted try the weight of its mode, and a shared one that is denied 1, which
-- its undo takes off. A release takes off the weight that the lock was held with.
abbrev pub move_adds : {R : Type 0} → Move R → Bool → LockId → ℕ
move_adds (Attempts k mode) true l = weight_at k l mode
move_adds (Attempts k Shared) false l = weight_at k l Shared
move_adds (Attempts k Exclusive) false l = 0
move_adds _ granted l = 0

abbrev pub move_takes_off : {R : Type 0} → Move R → LockId → ℕ
move_takes_off (Undoes k) l = weight_at k l Shared
move_takes_off (Releases h) l = weight_at h.lock l h.mode
move_takes_off _ l = 0

abbrev pub adds : Event → Bool → LockId → ℕ
adds (OfCall row move) granted l = move_adds move granted l
adds (OfOperation row move) granted l = move_adds move granted l
adds _ granted l = 0

abbrev pub takes_off : Event → LockId → ℕ
takes_off (OfCall row move) l = move_takes_off move l
takes_off (OfOperation row move) l = move_takes_off move l
takes_off _ l = 0

-- where a guest is left, its call is still on its way, and its operation holds nothing
abbrev pub has_let_go : Option Guest → Type 0
has_let_go None = Unit {0}
has_let_go (Some g) = g.operation ≡ nothing_yet

abbrev pub LetsGo : Lp → Event → Type 0
LetsGo lp (Leaves v out) = (lp.call.phase ≡ Trying) × has_let_go lp.guest
LetsGo lp _ = Unit {0}

-- an event of a processor of the machine
pub record IsNext (o : Opening) (s : State) (p : ℕ) (e : Event) : Type 0 where
  pub processor : p < s.lp_count
  pub next : next_event o s p ≡ Some e
  pub lets_go : LetsGo (s.lps p) e

-- the lock that it steps on
abbrev pub move_lock : {R : Type 0} → Move R → Option LockId
move_lock (Attempts l mode) = Some l
move_lock (Undoes l) = Some l
move_lock (Releases h) = Some h.lock
move_lock _ = None

abbrev pub lock_of : Event → Option LockId
lock_of (OfCall row move) = move_lock move
lock_of (OfOperation row move) = move_lock move
lock_of _ = None

-- how many locks the first n processors hold, and two more each, for tries that were denied
abbrev pub locks_held : (ℕ → Lp) → ℕ → ℕ
locks_held lps n = sum_below (λ p. length (locks_of (lps p)) + 2) n

-- Every lock's word follows every event, and tells whether a try is granted, as long as its low bits don't reach bit 63.
pub record LockWordsFollow : Type 0 where
  pub event : (o : Opening) (s : State) (p : ℕ) (e : Event) → IsNext o s p e → (l : LockId) → let s' = event o s p in
      lock_word s'.lps s'.lp_count l + takes_off e l ≡ lock_word s.lps s.lp_count l + adds e (is_granted s e) l
  pub exclusive : (s : State) (l : LockId) → grants s.lps s.lp_count l Exclusive ≡ (lock_word s.lps s.lp_count l == 0)
  pub shared : (s : State) (l : LockId) → sharers s.lps s.lp_count l + refusals s.lps s.lp_count l < 2 ^ 63
      → grants s.lps s.lp_count l Shared ≡ nat_lt (lock_word s.lps s.lp_count l) (2 ^ 63)
  pub few : (s : State) (l : LockId) → sharers s.lps s.lp_count l + refusals s.lps s.lp_count l ≤ locks_held s.lps s.lp_count

-- words where one is another
abbrev pub put_word : (WordPlace → ℕ) → WordPlace → ℕ → WordPlace → ℕ
put_word words q x r = if same_place r q then x else words r

-- words that show a state still show it after a try, an undo or a release, where that lock's word is its word then; and
-- after every other event that changes nothing of the world as they are
pub record LockStepsShown : Type 0 where
  pub step : (m : Machine) (words : WordPlace → ℕ) (slots : ℕ → Option (List ℕ)) (o : Opening) (s : State) (p : ℕ) (e : Event) (l : LockId)
      → Shows m words slots s → Lawful m s.world → IsNext o s p e → IsQuiet e → lock_of e ≡ Some l → Stands s.world l
      → let s' = event o s p in Shows m (put_word words (place_of s.world l) (lock_word s'.lps s'.lp_count l)) slots s'
  pub quiet : (m : Machine) (words : WordPlace → ℕ) (slots : ℕ → Option (List ℕ)) (o : Opening) (s : State) (p : ℕ) (e : Event)
      → Shows m words slots s → IsNext o s p e → IsQuiet e → lock_of e ≡ None → Shows m words slots (event o s p)
  pub seen : (m : Machine) (words : WordPlace → ℕ) (slots : ℕ → Option (List ℕ)) (s : State) (l : LockId)
      → Shows m words slots s → Lawful m s.world → Stands s.world l → IsIn m (place_of s.world l) → words (place_of s.world l) ≡ lock_word s.lps s.lp_count l

-- The locks of a TD stay where they are, and the TD stands, through the acts of others while P of its TDR page is held.
abbrev pub TdLocksStay : Type 0
TdLocksStay = (m : Machine) (g : Grip) (before after : World) (t : ℕ) → Lawful m before → Respects g before after → g.sole (Locked (OfPage t)) ≡ false
    → TdStands before t → (tdcs_of after t ≡ tdcs_of before t) × TdStands after t

-- Where the conditions at the beginning of a TD's row hold, its locks stand.
abbrev pub HeadsStand : Type 0
HeadsStand = (w : World) (t : ℕ) (mode : Mode) (allowed : List OpState) → Passes (td_row w t mode allowed) → TdStands w t

-- At the start of a run the first event of each processor with a call is that call's, no lock is shared, and nobody is
-- being refused one.
pub record StartFollows : Type 0 where
  pub next : (o : Opening) (words_to_tell : Option (List ℕ)) (p : ℕ) (c : Call) (cs : List Call) → p < length o.calls → calls_of o.calls p ≡ c ∷ cs
      → let s = start o words_to_tell in IsNext o s p (OfCall (row_of o p c) (next_in ((row_of o p c).items s.world) Trying []))
  pub few : (o : Opening) (words_to_tell : Option (List ℕ)) (l : LockId) → let s = start o words_to_tell in sharers s.lps s.lp_count l + refusals s.lps s.lp_count l ≡ 0

-- In every state that a run of at most eight processors reaches, the low bits of each lock's word stay below bit 63, so
-- that it tells whether a shared try is granted; and in every run each next event is one that the words follow.
pub record RunsFollow : Type 0 where
  pub few : (o : Opening) (words_to_tell : Option (List ℕ)) (schedule : List ℕ) (l : LockId) → length o.calls ≤ 8
      → let s = reached o words_to_tell schedule in sharers s.lps s.lp_count l + refusals s.lps s.lp_count l + 1 < 2 ^ 63
  pub told : (o : Opening) (words_to_tell : Option (List ℕ)) (schedule : List ℕ) (l : LockId) → length o.calls ≤ 8
      → let s = reached o words_to_tell schedule in grants s.lps s.lp_count l Shared ≡ nat_lt (lock_word s.lps s.lp_count l) (2 ^ 63)
  pub next : (o : Opening) (words_to_tell : Option (List ℕ)) (schedule : List ℕ) (p : ℕ) (e : Event)
      → let s = reached o words_to_tell schedule in next_event o s p ≡ Some e → IsNext o s p e
