-- The next piece of a processor's turn.
use Rattle.std.proofs.Common.{◌≡◌, ℕ, Bool, true, false, ◌==◌, List, [], ◌∷◌, ◌++◌, length, None, refl, ap, sym, ◌∙◌, subst}
use Rattle.std.proofs.lemmas.Bool.{eqb-true}
use Rattle.td_words.specs.declared.names.LockName.{LockName}
use Rattle.td_words.specs.declared.names.Mode.{Mode}
use Rattle.td_words.specs.Place.{WordPlace}
use Rattle.flat_core.specs.World.{put}
use Rattle.flat_core.specs.Opening.{Opening}
use Rattle.flat_core.specs.Event.{State}
use Rattle.flat_core.proofs.Tests.{put_here}
use Rattle.word_rules.specs.Views.{look}
use Rattle.step_core.specs.declared.steps.WordStep.{WordStep}
use Rattle.step_core.specs.declared.steps.WordStep.TheVariants as step
use Rattle.step_core.specs.Items.{Table}
use Rattle.step_core.specs.declared.items.Taken.{Taken}
use Rattle.step_core.specs.declared.items.Taken.TheVariants.{Stepped, Swapped, Missed}
use Rattle.leaf_engine.specs.declared.events.Event.{Event as RunEvent}
use Rattle.leaf_engine.specs.declared.events.Stage.{Stage}
use Rattle.leaf_engine.specs.declared.events.Stage.TheVariants as stages
use Rattle.leaf_engine.specs.declared.needs.Need.TheVariants as need
use Rattle.leaf_engine.specs.Changes.{Memory}
use Rattle.leaf_engine.specs.Trees.{Tree, Lock, Load, Test, End, Since, feed, settle, fed, passed, has_acted}
use Rattle.leaf_engine.specs.Decides.{Wants}
use Rattle.leaf_engine.specs.Items.{IsLoadAt, IsLoaded}
use Rattle.leaf_engine.specs.Turns.{Standing, Advances, Tries, tried, try_step, grants}
use Rattle.leaf_engine.specs.OwnLists.{Piece, Unmarked, Marked, joined, last_marked, GoesIn, TurnIn, WordLp, LpTurns}
use Rattle.leaf_engine.proofs.Decided.{settled}
use Rattle.leaf_engine.proofs.Loading.{LooksRight}
use Rattle.merge_laws.proofs.Stores.{Due, last_at, laid-same}
use Rattle.merge_laws.proofs.Standing.{table_for, Trees, Does, TurnsTo, Laws, on_table, Position, RunsAt, task_for}
use Rattle.merge_laws.proofs.SlotSteps.{slots-stay}
use Rattle.merge_laws.proofs.Own.{at-other}
use Rattle.merge_laws.proofs.QuietSteps.{rearranged, loads-right, GoesOnBehind, loaded, told-load}
use Rattle.merge_laws.proofs.Pieces.{AtTurn, Came, came-as, answers-as, PieceAnswers}
use Rattle.merge_laws.proofs.LockPieces.{try-piece}

-- a load of a leaf that goes on

pub told-tree : (o : Opening) (trees : Trees) (s : State) (mem : Memory) (t : Table) (pos : ℕ → Position) (p : ℕ) (d : Does) (run : Standing) → (a : AtTurn o trees s mem t pos p d run) → (st : run.stage ≡ stages.Trying)
    → settle run.rest ≡ feed d.tree (a.runs.at.told st).told
told-tree o trees s mem t pos p d run a st = ap settle (a.runs.at.told st).rest ∙ settled d.tree (a.runs.at.told st).told

pub load-piece : (ls : Laws) (o : Opening) (trees : Trees) (s : State) (mem : Memory) (t : Table) (pos : ℕ → Position) (p : ℕ) (d : Does) (run run' : Standing) (e : RunEvent) (at x : ℕ) (tp : List Piece) (tps : List (List Piece)) (end_ : WordLp)
    → AtTurn o trees s mem t pos p d run → (pos p).owes ≡ [] → run.stage ≡ stages.Trying → IsLoadAt o.machine.pages (settle run.rest) at → GoesOnBehind (settle run.rest) x → x ≡ t.words at → GoesIn o.machine (loaded run x) tp run' e
    → TurnsTo o trees p (d.after e run') tps end_
    → Came o trees p s t pos (Unmarked (Stepped (step.Load at) x)) (tp ++ joined tps) end_
load-piece ls o trees s mem t pos p d run run' e at x tp tps end_ a none st load on an goes own =
    record {
      memory = mem;
      now = now;
      stands = rearranged ls o trees s mem t t pos p now a.are a.known a.all (slots-stay o s mem.slots t.slots pos p now a.all.slots (sym a.no_swaps)) (λ k j f q g in_q owes. refl) (λ k j f g part q in_q fills. refl) (a.leads.within_bundles (loaded run x) ∙ a.bundles)
          (record {
            stands = a.leads.within_stands mem.words (loaded run x) going_on st;
            due = tt;
          })
          (λ r in_r. a.all.laid_is r in_r ∙ laid-same (length o.calls) (λ k. (pos k).owes) (λ k. (put pos p now k).owes) (on_table o.machine t) (on_table o.machine t) r (λ k j. same k r) refl);
      rest = record {
        owed = [];
        owes_are = refl;
        swaps_are = refl;
        hasher = run.hasher;
        hand = a.hand.hand;
        in_hand = a.hand.is;
        items = [];
        last = run.hasher;
        are = λ i. (refl, i);
        last_is = a.leads.within_run mem.words (loaded run x) run.hasher going_on st refl;
        turns = tp ∷ tps;
        pieces = refl;
        own = (e, (after, line, own));
      };
    }
  where
    now : Position
    now = record { at = d.within (loaded run x); owes = []; swaps = []; fill = None }

    after : WordLp
    after = d.after e run'

    right : LooksRight mem.words (feed d.tree (a.runs.at.told st).told) x
    right = loads-right ls o trees s mem t pos p d run at x a.are a.known a.all a.inside none a.here a.runs st (subst (λ (z : Tree). IsLoadAt o.machine.pages z at) (told-tree o trees s mem t pos p d run a st) load) an

    going_on : RunsAt (task_for o p d) d.far s.world mem.words (loaded run x)
    going_on = told-load o p d s.world mem.words run x a.runs st right (subst (λ (z : Tree). GoesOnBehind z x) (told-tree o trees s mem t pos p d run a st) on)

    line : LpTurns (table_for o trees p) o.machine (d.within (loaded run x)) e tp after
    line = a.leads.turns mem.words (loaded run x) run' e tp going_on st (subst (λ (z : Stage). TurnIn z o.machine (loaded run x) tp run' e) (sym st) goes) a.going

    same : (k : ℕ) (r : WordPlace) → last_at (pos k).owes r ≡ last_at (put pos p now k).owes r
    same k r = by (k == p) refl
      where
        by : (b : Bool) → (k == p) ≡ b → last_at (pos k).owes r ≡ last_at (put pos p now k).owes r
        by true f =
            let k-is : k ≡ p = eqb-true k p f in
            subst (λ (z : ℕ). last_at (pos z).owes r ≡ last_at (put pos p now z).owes r) (sym k-is)
            (ap (λ (ds : List Due). last_at ds r) none ∙ sym (ap (λ (z : Position). last_at z.owes r) (put_here pos p now)))
        by false f = sym (ap (λ (z : Position). last_at z.owes r) (at-other pos p k now f))

-- a tree that has ended without a store

abbrev pub IsDone : Tree → Type 0
IsDone (End r [] []) = Unit {0}
IsDone (Since r cs) = Unit {0}
IsDone _ = ⊥

acted-done : (t : Tree) → has_acted t ≡ true → IsDone (settle t)
acted-done (Lock l q m t) h = cc
acted-done (Load v q k) h = cc
acted-done (Test true r t) h = acted-done t h
acted-done (Test false r t) h = tt
acted-done (End r [] []) h = tt
acted-done (End r [] (c ∷ cs)) h = cc
acted-done (End r (f ∷ fs) cs) h = cc
acted-done (Since r cs) h = tt

pub done-settled : (t : Tree) → IsDone t → settle t ≡ t
done-settled (Lock l q m t) h = absurd h
done-settled (Load v q k) h = absurd h
done-settled (Test b r t) h = absurd h
done-settled (End r fs cs) h = refl
done-settled (Since r cs) h = refl

done-no-load : (n : ℕ) (t : Tree) (at : ℕ) → IsDone t → IsLoadAt n t at → ⊥
done-no-load n (Lock l q m t) at h i = i
done-no-load n (Load v q k) at h i = h
done-no-load n (Test b r t) at h i = i
done-no-load n (End r fs cs) at h i = i
done-no-load n (Since r cs) at h i = i

pub done-loads : (n : ℕ) (u : Tree) (xs : List Taken) (tree : Tree) → IsDone u → IsLoaded n u xs tree → (xs ≡ []) × (settle tree ≡ u)
done-loads n u [] tree d l = (refl, ap settle (sym l) ∙ done-settled u d)
done-loads n u (Stepped s x ∷ xs) tree d l = absurd (done-no-load n u l.0.0 d (subst (λ (z : Tree). IsLoadAt n z l.0.0) (done-settled u d) l.0.1))
done-loads n u (Swapped k a b ∷ xs) tree d l = absurd l
done-loads n u (Missed k ∷ xs) tree d l = absurd l

-- a load behind which its leaf isn't done
pub goes-on : (n : ℕ) (rest : Tree) (at x : ℕ) → IsLoadAt n rest at → (IsDone (fed rest x) → ⊥) → GoesOnBehind rest x
goes-on n (Load v q k) at x l h = by (has_acted (k (look v x))) refl
  where
    by : (b : Bool) → has_acted (k (look v x)) ≡ b → has_acted (k (look v x)) ≡ false
    by false e = e
    by true e = absurd (h (acted-done (k (look v x)) e))
goes-on n (Lock l q m t) at x i h = absurd i
goes-on n (Test b r t) at x i h = absurd i
goes-on n (End r fs cs) at x i h = absurd i
goes-on n (Since r cs) at x i h = absurd i

pub last-behind : (x : Taken) (ys : List Taken) (z : Taken) → last_marked (x ∷ (ys ++ z ∷ [])) ≡ Unmarked x ∷ last_marked (ys ++ z ∷ [])
last-behind x [] z = refl
last-behind x (y ∷ ys) z = refl

tried-same : (run : Standing) (x : ℕ) (t : Tree) (name : LockName) (at : ℕ) (mode : Mode) (b : Bool) → tried run t name at mode b ≡ tried (loaded run x) t name at mode b
tried-same run x t name at mode true = refl
tried-same run x t name at mode false = refl

-- the head of a processor's pieces
abbrev pub Heads : List Piece → List (List Piece) → Piece → List Piece → Type 0
Heads tp tps piece ps = tp ++ joined tps ≡ piece ∷ ps

no-lock-given : (n : ℕ) (t : Tree) (name : LockName) (at : ℕ) (mode : Mode) → IsDone t → Wants n t (need.Lock name at mode) → ⊥
no-lock-given n (Lock l q m t) name at mode d g = d
no-lock-given n (Load v q k) name at mode d g = d
no-lock-given n (Test b r t) name at mode d g = d
no-lock-given n (End r fs cs) name at mode d g = cc
no-lock-given n (Since r cs) name at mode d g = cc

-- a turn that comes to a lock
pub lock-turn : (ls : Laws) (o : Opening) (trees : Trees) (s : State) (mem : Memory) (t : Table) (pos : ℕ → Position) (p : ℕ) (d : Does) (run run' : Standing) (e : RunEvent) (loads items : List Taken) (tree : Tree) (name : LockName) (at : ℕ)
    (mode : Mode) (tps : List (List Piece)) (end_ : WordLp) (piece : Piece) (ps : List Piece) → AtTurn o trees s mem t pos p d run → (pos p).owes ≡ [] → run.stage ≡ stages.Trying → IsLoaded o.machine.pages run.rest loads tree
    → Wants o.machine.pages (settle tree) (need.Lock name at mode) → Tries run (passed (settle tree)) loads items name at mode run' e
    → TurnsTo o trees p (d.after e run') tps end_
    → Heads (last_marked items) tps piece ps → PieceAnswers t piece → Came o trees p s t pos piece ps end_
lock-turn ls o trees s mem t pos p d run run' e [] items tree name at mode tps end_ piece ps a none st l g tr own h an =
    let x : Taken = Stepped (try_step at mode) tr.seen in
    let h' : Marked x ∷ joined tps ≡ piece ∷ ps = ap (λ (z : List Taken). last_marked z ++ joined tps) (sym tr.items) ∙ h in
    let goes : Advances o.machine run (x ∷ []) run' e = record {
      loads = [];
      tree = tree;
      need = need.Lock name at mode;
      loaded = l;
      gives = g;
      comes = record { seen = tr.seen; items = refl; event = tr.event; after = tr.after };
    } in
    let given : Wants o.machine.pages (settle run.rest) (need.Lock name at mode) = subst (λ (z : Tree). Wants o.machine.pages (settle z) (need.Lock name at mode)) (sym l) g in
    came-as o trees p s t pos (Marked x) piece (joined tps) ps end_ h'
    (try-piece ls o trees s mem t pos p d run run' e (passed (settle tree)) name at mode tr.seen tps end_ a none st goes given tr.after (answers-as t (Marked x) piece (joined tps) ps h' an) own)
lock-turn ls o trees s mem t pos p d run run' e (Swapped k u v ∷ loads) items tree name at mode tps end_ piece ps a none st l g tr own h an = absurd l
lock-turn ls o trees s mem t pos p d run run' e (Missed k ∷ loads) items tree name at mode tps end_ piece ps a none st l g tr own h an = absurd l
lock-turn ls o trees s mem t pos p d run run' e (Stepped w x ∷ loads) items tree name at mode tps end_ piece ps a none st l g tr own h an =
    let n = o.machine.pages in
    let from : ℕ = l.0.0 in
    let y : Taken = Stepped (try_step at mode) tr.seen in
    let tp : List Piece = last_marked (loads ++ y ∷ []) in
    let w-is : w ≡ step.Load from = l.0.2 in
    let h' : Unmarked (Stepped (step.Load from) x) ∷ (tp ++ joined tps) ≡ piece ∷ ps =
    ap (λ (z : WordStep). Unmarked (Stepped z x) ∷ (tp ++ joined tps)) (sym w-is)
    ∙ (ap (λ (z : List Piece). z ++ joined tps) (sym (last-behind (Stepped w x) loads y)) ∙ (ap (λ (z : List Taken). last_marked z ++ joined tps) (sym tr.items) ∙ h)) in
    let never : IsDone (fed (settle run.rest) x) → ⊥ = λ d.
    (let dl = done-loads n (fed (settle run.rest) x) loads tree d l.1 in no-lock-given n (settle tree) name at mode (subst (λ (z : Tree). IsDone z) (sym dl.1) d) g) in
    let goes : GoesIn o.machine (loaded run x) tp run' e = record {
      items = loads ++ y ∷ [];
      goes = record {
        loads = loads;
        tree = tree;
        need = need.Lock name at mode;
        loaded = l.1;
        gives = g;
        comes = record { seen = tr.seen; items = refl; event = tr.event; after = tr.after ∙ tried-same run x (passed (settle tree)) name at mode (grants mode tr.seen) };
      };
      pieces = refl;
    } in
    came-as o trees p s t pos (Unmarked (Stepped (step.Load from) x)) piece (tp ++ joined tps) ps end_ h'
    (load-piece ls o trees s mem t pos p d run run' e from x tp tps end_ a none st l.0.1 (goes-on n (settle run.rest) from x l.0.1 never)
    (answers-as t (Unmarked (Stepped (step.Load from) x)) piece (tp ++ joined tps) ps h' an) goes own)
