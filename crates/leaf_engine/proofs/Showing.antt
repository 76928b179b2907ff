-- Over words that show a state a leaf on its way makes the next move of its row.
use Rattle.std.proofs.Common.{◌≡◌, ◌⊎◌, ℕ, ◌-◌, Bool, true, false, if◌then◌else◌, List, [], ◌∷◌, ◌++◌, length, Option, refl, ap, sym, ◌∙◌, subst, inl, inr}
use Rattle.td_words.specs.declared.names.LockName.{LockName}
use Rattle.td_words.specs.declared.names.Mode.{Mode}
use Rattle.td_words.specs.declared.names.Mode.TheVariants.{Shared, Exclusive}
use Rattle.td_words.specs.declared.machines.Machine.{Machine}
use Rattle.td_words.specs.declared.replies.Reply.{Reply}
use Rattle.td_words.specs.Place.{WordPlace, address}
use Rattle.td_words.specs.Laws.{PlacesInjective}
use Rattle.mrtd_measure.specs.declared.measures.Measure.{Measure}
use Rattle.flat_core.specs.World.{World}
use Rattle.flat_core.specs.Processor.{LockId, name_of, Held}
use Rattle.flat_core.specs.Row.{Move, Attempts, Refuses, Succeeds, next}
use Rattle.word_rules.specs.Guards.{Grip}
use Rattle.word_rules.specs.Cells.{Shows}
use Rattle.lock_words.specs.LockWords.{place_of}
use Rattle.step_core.specs.Words.{with_word}
use Rattle.step_core.specs.Items.{Table, PlaysTo}
use Rattle.step_core.specs.declared.items.Taken.{Taken}
use Rattle.step_core.specs.declared.items.Taken.TheVariants.{Stepped}
use Rattle.step_core.specs.Laws.{PagesChangeAlone}
use Rattle.leaf_engine.specs.declared.needs.Need.{Need}
use Rattle.leaf_engine.specs.declared.needs.Need.TheVariants as need
use Rattle.leaf_engine.specs.declared.events.Event.{Event}
use Rattle.word_rules.specs.Views.{look}
use Rattle.leaf_engine.specs.Changes.{Memory, Change, Put, PutHash, Raise, Clear, Copy, Swap, changed, changed_all}
use Rattle.leaf_engine.specs.Trees.{Answer, only, Tree, Lock, Load, Test, End, Since, feed, settle, passed, answer_of, changes_of, has_acted}
use Rattle.leaf_engine.specs.Means.{Task, Instant, Work, work_of, hold, grasp_of, Locks, MayFillAll, MayTakeAll, FillsAllowed, MayOweAll, MayChangeBy, LocksStay, acted, AnswersAs}
use Rattle.leaf_engine.specs.Decides.{Wants, IsHand}
use Rattle.leaf_engine.specs.Items.{IsLoaded, AreChanged}
use Rattle.leaf_engine.specs.Follows.{granted, Current, NotActed, Comes}
use Rattle.leaf_engine.specs.Tables.{IsMemory, AreChangesIn}
use Rattle.leaf_engine.specs.Turns.{Comes as TurnComes, Standing, Tries, Replies, tried, denied, try_step, grants}
use Rattle.leaf_engine.specs.Shown.{OnWay, locks_held, move_due, word_tried, lock_tried, TriesRow, EndsRow, TurnShows, TurnsShow}
use Rattle.leaf_engine.proofs.Decided.{feed-append, settled}
use Rattle.leaf_engine.proofs.Following.{leaves-follow-rows}
use Rattle.leaf_engine.proofs.Loading.{told-more}
use Rattle.leaf_engine.proofs.Changing.{word_put, all-changes}

-- the step of a try

try_plays : (t u : Table) (at seen : ℕ) (mode : Mode) → PlaysTo t (Stepped (try_step at mode) seen ∷ []) u
    → (seen ≡ t.words at) × (u.words ≡ with_word t.words at (word_tried mode (t.words at))) × (u.slots ≡ t.slots)
try_plays t u at seen Shared p = (p.0, p.1.0, p.1.1)
try_plays t u at seen Exclusive p = (p.0, p.1.0, p.1.1)

-- the lock that a tree comes to
pub record ComesTo (m : Machine) (c : Instant) (hs : List Held) (n : Move Reply) (tree : Tree) (name : LockName) (at : ℕ) (mode : Mode) : Type 0 where
  pub lock : LockId
  pub due : n ≡ Attempts lock mode
  pub name_is : name ≡ name_of lock
  pub at_is : at ≡ address m.pages (place_of c.state.world lock)
  pub stands : Locks m c hs lock (place_of c.state.world lock)

pub comes-to : (m : Machine) (c : Instant) (k : Work) (hs : List Held) (n : Move Reply) (tree : Tree) (name : LockName) (at : ℕ) (mode : Mode) → Comes m c k hs tree n
    → Wants m.pages tree (need.Lock name at mode) → ComesTo m c hs n tree name at mode
comes-to m c k hs n (Lock l q mode' t) name at mode co g =
    let a : name ≡ name_of l = cc in
    let b : at ≡ address m.pages q = cc in
    let d : mode' ≡ mode = cc in
    record {
      lock = l;
      due = co.0 ∙ ap (Attempts l) d;
      name_is = a;
      at_is = b ∙ ap (address m.pages) (co.1.at);
      stands = subst (λ (z : WordPlace). Locks m c hs l z) co.1.at co.1;
    }
comes-to m c k hs n (Load v q t) name at mode co g = cc
comes-to m c k hs n (Test b r t) name at mode co g = absurd g
comes-to m c k hs n (End a fs cs) name at mode co g = cc
comes-to m c k hs n (Since a cs) name at mode co g = cc

-- a lock that counts as granted

abbrev pub IsLock : Tree → LockId → Mode → Type 0
IsLock (Lock l q m t) k mode = (l ≡ k) × (m ≡ mode)
IsLock _ k mode = ⊥

pub current-end : (words : WordPlace → ℕ) (t : Tree) → Current words t []
current-end words (Lock l q m t) = tt
current-end words (Load v q k) = tt
current-end words (Test b r t) = λ e. current-end words t
current-end words (End a fs cs) = tt
current-end words (Since a cs) = tt

pub granted-end : (t : Tree) (hs : List Held) → granted t [] hs ≡ hs
granted-end (Lock l q m t) hs = refl
granted-end (Load v q k) hs = refl
granted-end (Test true r t) hs = granted-end t hs
granted-end (Test false r t) hs = refl
granted-end (End a fs cs) hs = refl
granted-end (Since a cs) hs = refl

pub current-lock : (words : WordPlace → ℕ) (t : Tree) (told : List ℕ) (k : LockId) (mode : Mode) → Current words t told → IsLock (feed t told) k mode → Current words t (told ++ 0 ∷ [])
current-lock words (Lock l q m t) [] k mode cu h = current-end words t
current-lock words (Lock l q m t) (y ∷ told) k mode cu h = current-lock words t told k mode cu h
current-lock words (Load v q f) [] k mode cu h = absurd h
current-lock words (Load v q f) (y ∷ told) k mode cu h = (cu.0, current-lock words (f (look v y)) told k mode cu.1 h)
current-lock words (Test true r t) told k mode cu h = λ e. current-lock words t told k mode (cu e) h
current-lock words (Test false r t) told k mode cu h = absurd h
current-lock words (End a fs cs) told k mode cu h = absurd h
current-lock words (Since a cs) told k mode cu h = absurd h

pub granted-lock : (t : Tree) (told : List ℕ) (k : LockId) (mode : Mode) (hs : List Held) → IsLock (feed t told) k mode
    → granted t (told ++ 0 ∷ []) hs ≡ record { lock = k; mode = mode } ∷ granted t told hs
granted-lock (Lock l q m t) [] k mode hs h = (let a : l ≡ k = h.0 in let b : m ≡ mode = h.1 in granted-end t (record { lock = l; mode = m } ∷ hs) ∙ rw (a, b) refl)
granted-lock (Lock l q m t) (y ∷ told) k mode hs h = granted-lock t told k mode (record { lock = l; mode = m } ∷ hs) h
granted-lock (Load v q f) [] k mode hs h = absurd h
granted-lock (Load v q f) (y ∷ told) k mode hs h = granted-lock (f (look v y)) told k mode hs h
granted-lock (Test true r t) told k mode hs h = granted-lock t told k mode hs h
granted-lock (Test false r t) told k mode hs h = absurd h
granted-lock (End a fs cs) told k mode hs h = absurd h
granted-lock (Since a cs) told k mode hs h = absurd h

-- a leaf that comes to a lock has not acted yet

has-not-acted : (t : Tree) (told : List ℕ) (k : LockId) (mode : Mode) → IsLock (feed t told) k mode → has_acted t ≡ false
has-not-acted (Lock l q m t) told k mode h = refl
has-not-acted (Load v q f) told k mode h = refl
has-not-acted (Test true r t) told k mode h = has-not-acted t told k mode h
has-not-acted (Test false r t) told k mode h = absurd h
has-not-acted (End a fs cs) told k mode h = absurd h
has-not-acted (Since a cs) told k mode h = absurd h

pub not-acted-end : (t : Tree) → NotActed t []
not-acted-end (Lock l q m t) = tt
not-acted-end (Load v q k) = tt
not-acted-end (Test b r t) = λ e. not-acted-end t
not-acted-end (End a fs cs) = tt
not-acted-end (Since a cs) = tt

not-acted-lock : (t : Tree) (told : List ℕ) (k : LockId) (mode : Mode) → IsLock (feed t told) k mode → NotActed t (told ++ 0 ∷ [])
not-acted-lock (Lock l q m t) [] k mode h = not-acted-end t
not-acted-lock (Lock l q m t) (y ∷ told) k mode h = not-acted-lock t told k mode h
not-acted-lock (Load v q f) [] k mode h = absurd h
not-acted-lock (Load v q f) (y ∷ told) k mode h = (has-not-acted (f (look v y)) told k mode h, not-acted-lock (f (look v y)) told k mode h)
not-acted-lock (Test true r t) told k mode h = λ e. not-acted-lock t told k mode h
not-acted-lock (Test false r t) told k mode h = absurd h
not-acted-lock (End a fs cs) told k mode h = absurd h
not-acted-lock (Since a cs) told k mode h = absurd h

pub is-lock : (m : Machine) (c : Instant) (k : Work) (hs : List Held) (tree : Tree) (l : LockId) (mode : Mode) → Comes m c k hs tree (Attempts l mode) → (name : LockName) (at : ℕ) (mode' : Mode)
    → Wants m.pages tree (need.Lock name at mode') → IsLock tree l mode
is-lock m c k hs (Lock l' q mode'' t) l mode co name at mode' g = (cc (co.0), cc (co.0))
is-lock m c k hs (Load v q t) l mode co name at mode' g = cc
is-lock m c k hs (Test b r t) l mode co name at mode' g = absurd g
is-lock m c k hs (End a fs cs) l mode co name at mode' g = cc
is-lock m c k hs (Since a cs) l mode co name at mode' g = cc

pub passed-lock : (tree : Tree) (l : LockId) (mode : Mode) → IsLock tree l mode → passed tree ≡ feed tree (0 ∷ [])
passed-lock (Lock l' q m t) l mode h = refl
passed-lock (Load v q t) l mode h = absurd h
passed-lock (Test b r t) l mode h = absurd h
passed-lock (End a fs cs) l mode h = absurd h
passed-lock (Since a cs) l mode h = absurd h

-- changes that may be made are in the machine

pub allowed-fills : (m : Machine) (g h : Grip) (w : World) (cs : List Change) → FillsAllowed m g h w cs → MayFillAll m g w cs
allowed-fills m g h w [] a = tt
allowed-fills m g h w (c ∷ cs) a = a.0

pub allowed-takes : (m : Machine) (g h : Grip) (w : World) (cs : List Change) → FillsAllowed m g h w cs → MayTakeAll h w cs
allowed-takes m g h w [] a = tt
allowed-takes m g h w (c ∷ cs) a = a.1

pub both-allowed : (m : Machine) (g h : Grip) (w : World) (cs : List Change) → MayFillAll m g w cs → MayTakeAll h w cs → FillsAllowed m g h w cs
both-allowed m g h w [] fills takes = tt
both-allowed m g h w (c ∷ cs) fills takes = (fills, takes)

fills-in : (m : Machine) (g : Grip) (w : World) (cs ds : List Change) → MayFillAll m g w cs → AreChangesIn m ds → AreChangesIn m (cs ++ ds)
fills-in m g w [] ds a b = b
fills-in m g w (Put q x ∷ cs) ds a b = (a.0.0, fills-in m g w cs ds a.1 b)
fills-in m g w (PutHash q x ∷ cs) ds a b = absurd a.0
fills-in m g w (Raise q more ∷ cs) ds a b = absurd a.0
fills-in m g w (Clear p ∷ cs) ds a b = (a.0.0, fills-in m g w cs ds a.1 b)
fills-in m g w (Copy p q ∷ cs) ds a b = ((a.0.0, a.0.1, a.0.2), fills-in m g w cs ds a.1 b)
fills-in m g w (Swap h made ∷ cs) ds a b = absurd a.0

owed-in : (m : Machine) (g : Grip) (w : World) (mem : Memory) (cs : List Change) → MayOweAll m g w mem cs → AreChangesIn m cs
owed-in m g w mem [] a = tt
owed-in m g w mem (Put q x ∷ cs) a = (a.0.0, owed-in m g w (changed (Put q x) mem) cs a.1)
owed-in m g w mem (PutHash q x ∷ cs) a = (a.0.0, owed-in m g w (changed (PutHash q x) mem) cs a.1)
owed-in m g w mem (Raise q more ∷ cs) a = absurd a.0
owed-in m g w mem (Clear p ∷ cs) a = (a.0.0, owed-in m g w (changed (Clear p) mem) cs a.1)
owed-in m g w mem (Copy p q ∷ cs) a = absurd a.0
owed-in m g w mem (Swap h made ∷ cs) a = (a.0.0, owed-in m g w (changed (Swap h made) mem) cs a.1)

act-in : (m : Machine) (g y : Grip) (w w' : World) (mem : Memory) (cs : List Change) → MayChangeBy m g y w w' mem cs → AreChangesIn m cs
act-in m g y w w' mem [] a = tt
act-in m g y w w' mem (Put q x ∷ cs) a = (a.0.0, owed-in m y w' (changed (Put q x) mem) cs a.1)
act-in m g y w w' mem (PutHash q x ∷ cs) a = (a.0.0, owed-in m y w' (changed (PutHash q x) mem) cs a.1)
act-in m g y w w' mem (Raise q more ∷ cs) a = (a.0.0, owed-in m y w' (changed (Raise q more) mem) cs a.1)
act-in m g y w w' mem (Clear p ∷ cs) a = absurd a.0
act-in m g y w w' mem (Copy p q ∷ cs) a = absurd a.0
act-in m g y w w' mem (Swap h made ∷ cs) a = (a.0.0, owed-in m y w' (changed (Swap h made) mem) cs a.1)

pub changed-append : (cs ds : List Change) (mem : Memory) → changed_all (cs ++ ds) mem ≡ changed_all ds (changed_all cs mem)
changed-append [] ds mem = refl
changed-append (c ∷ cs) ds mem = changed-append cs ds (changed c mem)

-- what a tree that comes to its reply does
pub record EndsWith (m : Machine) (c : Instant) (k : Work) (hs : List Held) (n : Move Reply) (tree : Tree) (reply : Reply) : Type 0 where
  pub inside : AreChangesIn m (changes_of tree)
  pub kept : passed tree ≡ tree
  pub ends : ((n ≡ Refuses reply) × (answer_of tree ≡ only reply) × (changes_of tree ≡ []))
      ⊎ ((n ≡ Succeeds) × ((answer_of tree).reply ≡ reply) × AnswersAs k c.state.world (answer_of tree) × (let mem = changed_all (changes_of tree) c.memory in Shows m mem.words mem.slots (acted k c.state))
      × LocksStay c.state.world (k.act c.state.world) hs)

shows-append : (m : Machine) (c : Instant) (k : Work) (fs cs : List Change) → (let mem = changed_all cs (changed_all fs c.memory) in Shows m mem.words mem.slots (acted k c.state))
    → (let mem = changed_all (fs ++ cs) c.memory in Shows m mem.words mem.slots (acted k c.state))
shows-append m c k fs cs s = subst (λ (mem : Memory). Shows m mem.words mem.slots (acted k c.state)) (sym (changed-append fs cs c.memory)) s

pub ends-with : (m : Machine) (c : Instant) (k : Work) (hs : List Held) (n : Move Reply) (tree : Tree) (reply : Reply) → Comes m c k hs tree n → Wants m.pages tree (need.Verdict reply)
    → EndsWith m c k hs n tree reply
ends-with m c k hs n (Lock l q mode t) reply co g = cc
ends-with m c k hs n (Load v q t) reply co g = cc
ends-with m c k hs n (Test b r t) reply co g = absurd g
ends-with m c k hs n (End a fs cs) reply (inl co) g =
    let e : a.reply ≡ reply = cc in
    let none : fs ++ cs ≡ [] = rw (co.2, co.3) refl in
    record { inside = subst (λ (z : List Change). AreChangesIn m z) (sym none) tt; kept = refl; ends = inl (co.0 ∙ ap Refuses e, co.1 ∙ ap only e, none) }
ends-with m c k hs n (End a fs cs) reply (inr co) g =
    let e : a.reply ≡ reply = cc in
    record {
      inside = fills-in m (k.grasp c hs) c.state.world fs cs (allowed-fills m (k.grasp c hs) (grasp_of c hs) c.state.world fs co.1.fills_allowed) (act-in m (k.grasp c hs) (hold c hs) c.state.world (k.act c.state.world) (changed_all fs c.memory) cs co.2);
      kept = refl;
      ends = inr (co.0, e, co.1.answers, shows-append m c k fs cs co.1.shows, co.1.locks_stay);
    }
ends-with m c k hs n (Since a cs) reply co g =
    let e : a.reply ≡ reply = cc in
    record {
      inside = owed-in m (hold c hs) (k.act c.state.world) c.memory cs co.2;
      kept = refl;
      ends = inr (co.0, e, co.1.answers, co.1.shows, co.1.locks_stay);
    }

-- the turn

tries-turn : PlacesInjective → (task : Task) (c : Instant) (told : List ℕ) (t u : Table) (s s' : Standing) (loads xs : List Taken) (tree : Tree) (name : LockName) (at : ℕ) (mode : Mode) (e : Event)
    → OnWay task c told t s → IsLoaded task.place.machine.pages s.rest loads tree → Wants task.place.machine.pages (settle tree) (need.Lock name at mode)
    → Tries s (passed (settle tree)) loads xs name at mode s' e → PlaysTo t xs u → TurnShows task c told u s s' e
tries-turn inj task c told t u s s' loads xs tree name at mode e on l g tr p =
    let m = task.place.machine in
    let k = work_of task.meaning in
    let l' : IsLoaded m.pages (feed task.tree told) loads tree = subst (λ (z : Tree). IsLoaded m.pages z loads tree) on.rest l in
    let d = told-more task c told loads (Stepped (try_step at mode) tr.seen ∷ []) tree t u s.hasher on.means on.at on.current l' on.memory (subst (λ (z : List Taken). PlaysTo t z u) tr.items p) in
    let here : settle tree ≡ feed task.tree d.now = ap settle d.rest ∙ settled task.tree d.now in
    let g' : Wants m.pages (feed task.tree d.now) (need.Lock name at mode) = subst (λ (z : Tree). Wants m.pages z (need.Lock name at mode)) here g in
    let co = leaves-follow-rows task c d.now on.means on.at d.current in
    let to = comes-to m c k (locks_held task d.now) (move_due task c d.now) (feed task.tree d.now) name at mode co g' in
    let co' : Comes m c k (locks_held task d.now) (feed task.tree d.now) (Attempts to.lock mode) = subst (λ (z : Move Reply). Comes m c k (locks_held task d.now) (feed task.tree d.now) z) to.due co in
    let lock = is-lock m c k (locks_held task d.now) (feed task.tree d.now) to.lock mode co' name at mode g' in
    let play = try_plays t u at tr.seen mode d.plays in
    let place : WordPlace = place_of c.state.world to.lock in
    let word : t.words at ≡ c.memory.words place = ap t.words to.at_is ∙ on.memory.words place to.stands.in_machine in
    let put : u.words ≡ with_word t.words (address m.pages place) (word_tried mode (c.memory.words place)) =
    play.1 ∙ (ap (λ (z : ℕ). with_word t.words z (word_tried mode (t.words at))) to.at_is ∙ ap (λ (z : ℕ). with_word t.words (address m.pages place) (word_tried mode z)) word) in
    let by : TriesRow task c told u s s' name mode (grants mode tr.seen) = record {
      lock = to.lock;
      now = d.now;
      due = subst (λ (hs : List Held). next (k.items c.state.world) (length hs) ≡ Attempts to.lock mode) d.same_locks to.due;
      name_is = to.name_is;
      stands = subst (λ (hs : List Held). Locks m c hs to.lock place) d.same_locks to.stands;
      granted_by = ap (grants mode) (play.0 ∙ word);
      memory = subst (λ (h : Option Measure). IsMemory m u h (lock_tried c.state.world to.lock mode c.memory)) (sym hasher-same)
          (record {
            words = word_put inj m t.words u.words c.memory.words place (word_tried mode (c.memory.words place)) to.stands.in_machine put on.memory.words;
            slots = λ h in_h. subst (λ (f : ℕ → Option Measure). IsHand (f (h - 1)) (c.memory.slots h)) (sym play.2) (on.memory.slots h in_h);
            hand = on.memory.hand;
          });
      current = current-lock c.memory.words task.tree d.now to.lock mode d.current lock;
      waits = not-acted-lock task.tree d.now to.lock mode lock;
      one_more = granted-lock task.tree d.now to.lock mode [] lock ∙ ap (λ (hs : List Held). record { lock = to.lock; mode = mode } ∷ hs) d.same_locks;
      rest = rest-is ∙ (ap passed here ∙ (passed-lock (feed task.tree d.now) to.lock mode lock ∙ feed-append task.tree d.now (0 ∷ [])));
      stage_is = subst (λ (z : ℕ). s'.stage ≡ (if grants mode tr.seen then s.stage else denied name z mode)) to.at_is stage-now;
      held_is = subst (λ (z : ℕ). s'.held ≡ (if grants mode tr.seen then s.held ++ record { name = name; at = z; mode = mode } ∷ [] else s.held)) to.at_is held-now;
    } in
    subst (λ (z : Event). TurnShows task c told u s s' z) (sym tr.event) by
  where
    hasher-of : (b : Bool) → (tried s (passed (settle tree)) name at mode b).hasher ≡ s.hasher
    hasher-of true = refl
    hasher-of false = refl

    hasher-same : s'.hasher ≡ s.hasher
    hasher-same = ap (λ (z : Standing). z.hasher) tr.after ∙ hasher-of (grants mode tr.seen)

    stage-of : (b : Bool) → (tried s (passed (settle tree)) name at mode b).stage ≡ (if b then s.stage else denied name at mode)
    stage-of true = refl
    stage-of false = refl

    stage-now : s'.stage ≡ (if grants mode tr.seen then s.stage else denied name at mode)
    stage-now = ap (λ (z : Standing). z.stage) tr.after ∙ stage-of (grants mode tr.seen)

    held-of : (b : Bool) → (tried s (passed (settle tree)) name at mode b).held ≡ (if b then s.held ++ record { name = name; at = at; mode = mode } ∷ [] else s.held)
    held-of true = refl
    held-of false = refl

    held-now : s'.held ≡ (if grants mode tr.seen then s.held ++ record { name = name; at = at; mode = mode } ∷ [] else s.held)
    held-now = ap (λ (z : Standing). z.held) tr.after ∙ held-of (grants mode tr.seen)

    rest-of : (b : Bool) → (tried s (passed (settle tree)) name at mode b).rest ≡ passed (settle tree)
    rest-of true = refl
    rest-of false = refl

    rest-is : s'.rest ≡ passed (settle tree)
    rest-is = ap (λ (z : Standing). z.rest) tr.after ∙ rest-of (grants mode tr.seen)

ends-turn : PlacesInjective → PagesChangeAlone → (task : Task) (c : Instant) (told : List ℕ) (t u : Table) (s s' : Standing) (loads xs : List Taken) (tree : Tree) (reply : Reply) (e : Event)
    → OnWay task c told t s → IsLoaded task.place.machine.pages s.rest loads tree → Wants task.place.machine.pages (settle tree) (need.Verdict reply)
    → Replies task.place.machine s (passed (settle tree)) loads xs reply s' e → PlaysTo t xs u → TurnShows task c told u s s' e
ends-turn inj pages task c told t u s s' loads xs tree reply e on l g en p =
    let m = task.place.machine in
    let k = work_of task.meaning in
    let l' : IsLoaded m.pages (feed task.tree told) loads tree = subst (λ (z : Tree). IsLoaded m.pages z loads tree) on.rest l in
    let d = told-more task c told loads en.changes tree t u s.hasher on.means on.at on.current l' on.memory (subst (λ (z : List Taken). PlaysTo t z u) en.items p) in
    let here : settle tree ≡ feed task.tree d.now = ap settle d.rest ∙ settled task.tree d.now in
    let g' : Wants m.pages (feed task.tree d.now) (need.Verdict reply) = subst (λ (z : Tree). Wants m.pages z (need.Verdict reply)) here g in
    let co = leaves-follow-rows task c d.now on.means on.at d.current in
    let w = ends-with m c k (locks_held task d.now) (move_due task c d.now) (feed task.tree d.now) reply co g' in
    let it : passed (settle tree) ≡ feed task.tree d.now = ap passed here ∙ w.kept in
    let ch : AreChanged m (changes_of (feed task.tree d.now)) s.hasher en.changes en.hasher = subst (λ (z : Tree). AreChanged m (changes_of z) s.hasher en.changes en.hasher) it en.changed in
    let after : Memory = changed_all (changes_of (feed task.tree d.now)) c.memory in
    let mem : IsMemory m u en.hasher after = all-changes inj pages m (changes_of (feed task.tree d.now)) s.hasher en.hasher en.changes t u c.memory w.inside ch d.plays on.memory in
    let due : move_due task c d.now ≡ move_due task c told = ap (λ (hs : List Held). next (k.items c.state.world) (length hs)) d.same_locks in
    let by : EndsRow task c told u s s' = record {
      reply = reply;
      after = after;
      answered = ap (λ (z : Standing). z.stage) en.after;
      held_is = ap (λ (z : Standing). z.held) en.after;
      memory = subst (λ (h : Option Measure). IsMemory m u h after) (sym (ap (λ (z : Standing). z.hasher) en.after)) mem;
      ends = either m c k (move_due task c d.now) (move_due task c told) (locks_held task d.now) (locks_held task told) (changes_of (feed task.tree d.now)) (answer_of (feed task.tree d.now)) (answer_of s'.rest) reply due d.same_locks
          (ap answer_of (sym (ap (λ (z : Standing). z.rest) en.after ∙ it))) w.ends;
    } in
    subst (λ (z : Event). TurnShows task c told u s s' z) (sym en.event) by
  where
    either : (m : Machine) (c : Instant) (k : Work) (n n' : Move Reply) (hs hs' : List Held) (cs : List Change) (a a' : Answer) (reply : Reply) → n ≡ n' → hs ≡ hs' → a ≡ a'
        → (((n ≡ Refuses reply) × (a ≡ only reply) × (cs ≡ []))
        ⊎ ((n ≡ Succeeds) × (a.reply ≡ reply) × AnswersAs k c.state.world a × (let mem = changed_all cs c.memory in Shows m mem.words mem.slots (acted k c.state)) × LocksStay c.state.world (k.act c.state.world) hs))
        → (((n' ≡ Refuses reply) × (a' ≡ only reply) × (changed_all cs c.memory ≡ c.memory))
        ⊎ ((n' ≡ Succeeds) × (a'.reply ≡ reply) × AnswersAs k c.state.world a' × (let mem = changed_all cs c.memory in Shows m mem.words mem.slots (acted k c.state)) × LocksStay c.state.world (k.act c.state.world) hs'))
    either m c k n n' hs hs' cs a a' reply e l f (inl x) = inl (sym e ∙ x.0, sym f ∙ x.1, ap (λ (z : List Change). changed_all z c.memory) x.2)
    either m c k n n' hs hs' cs a a' reply e l f (inr x) =
        inr (sym e ∙ x.0, sym (ap (λ (z : Answer). z.reply) f) ∙ x.1, subst (λ (z : Answer). AnswersAs k c.state.world z) f x.2, x.3, subst (λ (z : List Held). LocksStay c.state.world (k.act c.state.world) z) l x.4)

pub turns-show : PlacesInjective → PagesChangeAlone → TurnsShow
turns-show inj pages task c told t u s s' xs e on go p = by go.need go.gives go.comes
  where
    by : (n : Need) → Wants task.place.machine.pages (settle go.tree) n → TurnComes task.place.machine s (passed (settle go.tree)) go.loads xs n s' e → TurnShows task c told u s s' e
    by (need.Lock name at mode) g co = tries-turn inj task c told t u s s' go.loads xs go.tree name at mode e on go.loaded g co p
    by (need.Load at) g co = absurd co
    by (need.Verdict reply) g co = ends-turn inj pages task c told t u s s' go.loads xs go.tree reply e on go.loaded g co p
