-- The world after an event of a leaf's move.
use Rattle.std.proofs.Common.{◌≡◌, ◌⊎◌, ℕ, Option, refl, ap, ◌∙◌, inl, inr}
use Rattle.td_words.specs.declared.names.Mode.{Mode}
use Rattle.td_words.specs.declared.replies.Reply.{Reply}
use Rattle.flat_core.specs.World.{World}
use Rattle.flat_core.specs.Processor.{LockId, Trying, Progress, nothing_yet}
use Rattle.flat_core.specs.Opening.{Opening}
use Rattle.flat_core.specs.Row.{Move, Attempts, Undoes, Refuses, Succeeds, Releases, Rests, next}
use Rattle.flat_core.specs.Event.{State, Event, event, after_event, world_after}
use Rattle.lock_words.specs.LockWords.{IsNext}
use Rattle.leaf_engine.specs.Means.{Meaning, OfCall, OfOperation, OfAccess, OfWalk, OfExit, work_of}
use Rattle.leaf_engine.specs.Doing.{HasMoves, event_of}
use Rattle.leaf_engine.proofs.Doings.{act-world}

quiet-world : (k : Meaning) → HasMoves k → (mv : Move Reply) → (mv ≡ Succeeds → ⊥) → (w : World) → world_after (event_of k mv) w ≡ w
quiet-world (OfCall row) h (Attempts l m) n w = refl
quiet-world (OfCall row) h (Undoes l) n w = refl
quiet-world (OfCall row) h (Refuses r) n w = refl
quiet-world (OfCall row) h Succeeds n w = absurd (n refl)
quiet-world (OfCall row) h (Releases x) n w = refl
quiet-world (OfCall row) h Rests n w = refl
quiet-world (OfOperation t v row) h (Attempts l m) n w = refl
quiet-world (OfOperation t v row) h (Undoes l) n w = refl
quiet-world (OfOperation t v row) h (Refuses r) n w = refl
quiet-world (OfOperation t v row) h Succeeds n w = absurd (n refl)
quiet-world (OfOperation t v row) h (Releases x) n w = refl
quiet-world (OfOperation t v row) h Rests n w = refl
quiet-world (OfAccess t v line access r gpa page) h mv n w = absurd h
quiet-world (OfWalk t v access gpa level page) h mv n w = absurd h
quiet-world (OfExit t v out) h mv n w = absurd h

-- a single event refuses nothing, and tries nothing
pub moves-refused : (k : Meaning) (w : World) (n : ℕ) (r : Reply) → next ((work_of k).items w) n ≡ Refuses r → HasMoves k
moves-refused (OfCall row) w n r e = tt
moves-refused (OfOperation t v row) w n r e = tt
moves-refused (OfAccess t v line access rg gpa page) w n r e = cc
moves-refused (OfWalk t v access gpa level page) w n r e = cc
moves-refused (OfExit t v out) w n r e = cc

pub moves-tried : (k : Meaning) (w : World) (n : ℕ) (l : LockId) (m : Mode) → next ((work_of k).items w) n ≡ Attempts l m → HasMoves k
moves-tried (OfCall row) w n l m e = tt
moves-tried (OfOperation t v row) w n l m e = tt
moves-tried (OfAccess t v line access r gpa page) w n l m e = cc
moves-tried (OfWalk t v access gpa level page) w n l m e = cc
moves-tried (OfExit t v out) w n l m e = cc

pub has-moves : (k : Meaning) (x : Progress Reply) → HasMoves k ⊎ (x ≡ nothing_yet) → (x.phase ≡ Trying → ⊥) → HasMoves k
has-moves k x (inl h) n = h
has-moves k x (inr e) n = absurd (n (ap (λ (y : Progress Reply). y.phase) e))

event-world : (o : Opening) (s : State) (p : ℕ) (e : Event) → IsNext o s p e → (event o s p).world ≡ world_after e s.world
event-world o s p e next = ap (λ (x : Option Event). (after_event p s x).world) next.next

pub world-acted : (o : Opening) (s : State) (p : ℕ) (k : Meaning) → IsNext o s p (event_of k Succeeds) → (event o s p).world ≡ (work_of k).act s.world
world-acted o s p k next = event-world o s p (event_of k Succeeds) next ∙ act-world k s.world

pub world-stays : (o : Opening) (s : State) (p : ℕ) (k : Meaning) (mv : Move Reply) → HasMoves k → (mv ≡ Succeeds → ⊥) → IsNext o s p (event_of k mv) → (event o s p).world ≡ s.world
world-stays o s p k mv moves not next = event-world o s p (event_of k mv) next ∙ quiet-world k moves mv not s.world
