-- Where a leaf stands against its row, while the words that it was told stand.
use Rattle.std.specs.Prelude.{◌≡◌, ◌⊎◌, ℕ, true, false, if◌then◌else◌, List, [], ◌∷◌, length}
use Rattle.td_words.specs.declared.machines.Machine.{Machine}
use Rattle.td_words.specs.declared.replies.Reply.{Reply}
use Rattle.td_words.specs.Place.{WordPlace, IsIn}
use Rattle.flat_core.specs.Processor.{Held}
use Rattle.flat_core.specs.Row.{Move, Attempts, Refuses, Succeeds, next}
use Rattle.word_rules.specs.Views.{look}
use Rattle.leaf_engine.specs.Changes.{changed_all}
use Rattle.leaf_engine.specs.Trees.{Tree, Lock, Load, Test, End, Since, only, feed, has_acted}
use Rattle.leaf_engine.specs.Means.{Task, Instant, IsAt, Work, work_of, hold, Locks, Loads, Acts, MayChangeBy, MayOweAll, MeansRow}

-- the locks that these answers say were granted, the newest first, before those held so far
abbrev pub granted : Tree → List ℕ → List Held → List Held
granted (Lock l q m t) [] hs = hs
granted (Lock l q m t) (x ∷ xs) hs = granted t xs (record { lock = l; mode = m } ∷ hs)
granted (Load v q k) [] hs = hs
granted (Load v q k) (x ∷ xs) hs = granted (k (look v x)) xs hs
granted (Test b r t) xs hs = if b then granted t xs hs else hs
granted (End a fs cs) xs hs = hs
granted (Since a cs) xs hs = hs

-- what it was told stands, as far as it looked
abbrev pub Current : (WordPlace → ℕ) → Tree → List ℕ → Type 0
Current words (Lock l q m t) [] = Unit {0}
Current words (Lock l q m t) (x ∷ xs) = Current words t xs
Current words (Load v q k) [] = Unit {0}
Current words (Load v q k) (x ∷ xs) = (look v x ≡ look v (words q)) × Current words (k (look v x)) xs
Current words (Test b r t) xs = b ≡ true → Current words t xs
Current words (End a fs cs) xs = Unit {0}
Current words (Since a cs) xs = Unit {0}

-- none of the loads that it was told was its act
abbrev pub NotActed : Tree → List ℕ → Type 0
NotActed (Lock l q m t) [] = Unit {0}
NotActed (Lock l q m t) (x ∷ xs) = NotActed t xs
NotActed (Load v q k) [] = Unit {0}
NotActed (Load v q k) (x ∷ xs) = (has_acted (k (look v x)) ≡ false) × NotActed (k (look v x)) xs
NotActed (Test b r t) xs = b ≡ true → NotActed t xs
NotActed (End a fs cs) xs = Unit {0}
NotActed (Since a cs) xs = Unit {0}

-- against the next move of its row: it comes to the lock that is tried, to a load, to the refusal, or to the act
abbrev pub Comes : Machine → Instant → Work → List Held → Tree → Move Reply → Type 0
Comes m c k hs (Lock l q mode t) n = (n ≡ Attempts l mode) × Locks m c hs l q
Comes m c k hs (Load v q t) n = IsIn m q × Loads c k hs v q t
Comes m c k hs (Test b r t) n = ⊥
Comes m c k hs (End a fs cs) n =
    ((n ≡ Refuses a.reply) × (a ≡ only a.reply) × (fs ≡ []) × (cs ≡ []))
    ⊎ ((n ≡ Succeeds) × Acts m c k hs a fs cs × MayChangeBy m (k.grasp c hs) (hold c hs) c.state.world (k.act c.state.world) (changed_all fs c.memory) cs)
Comes m c k hs (Since a cs) n = (n ≡ Succeeds) × Acts m c k hs a [] cs × MayOweAll m (hold c hs) (k.act c.state.world) c.memory cs

-- A leaf that was told words that stand comes to the next move of its row, under the locks that it was granted.
abbrev pub LeavesFollowRows : Type 0
LeavesFollowRows = (task : Task) (c : Instant) (told : List ℕ) → MeansRow task → IsAt task c → Current c.memory.words task.tree told
    → let k = work_of task.meaning in let hs = granted task.tree told [] in
    Comes task.place.machine c k hs (feed task.tree told) (next (k.items c.state.world) (length hs))
