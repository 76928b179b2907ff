-- No leaf loads a lock's word, so what it was told stands through every step on one.
use Rattle.std.proofs.Common.{◌≡◌, ℕ, Bool, true, false, List, [], ◌∷◌, refl, ap, sym, ◌∙◌, subst, inl, inr}
use Rattle.td_words.specs.Place.{WordPlace, same_place}
use Rattle.td_words.specs.Laws.{PlacesInjective}
use Rattle.td_words.specs.declared.machines.Machine.{Machine}
use Rattle.td_words.specs.declared.replies.Reply.{Reply}
use Rattle.flat_core.specs.Processor.{Held}
use Rattle.flat_core.specs.Row.{Item, Check, Try}
use Rattle.word_rules.specs.Guards.{Grip, Role, Guard, Meets}
use Rattle.word_rules.specs.Rules.{Class, PageLock, TdLock, View, reads, sees, tries}
use Rattle.word_rules.specs.Permissions.{Tries as MayTry}
use Rattle.word_rules.specs.Spots.{spot, guard_at}
use Rattle.word_rules.specs.Views.{look}
use Rattle.lock_words.specs.LockWords.{put_word}
use Rattle.leaf_engine.specs.Trees.{Tree, Lock, Load, Test, End, Since}
use Rattle.leaf_engine.specs.Means.{Task, Instant, IsAt, Work, work_of, Means, MeansRow, Loads, hold, grasp_of}
use Rattle.leaf_engine.specs.Follows.{Current}

reads-tries : (g h : Grip) (at : Role → Guard) (c : Class) (v : View) → Meets g at (tries c) → Meets h at (reads c v) → ⊥
reads-tries g h at PageLock v t r = r
reads-tries g h at TdLock v t r = r
reads-tries g h at _ v t r = t

sees-tries : (g h : Grip) (at : Role → Guard) (c : Class) (v : View) → Meets g at (tries c) → Meets h at (sees c v) → ⊥
sees-tries g h at PageLock v t r = r
sees-tries g h at TdLock v t r = r
sees-tries g h at _ v t r = t

loads-tries : (c : Instant) (k : Work) (hs : List Held) (g : Grip) (v : View) (q : WordPlace) (t : ℕ → Tree) → MayTry g c.state.world q → Loads c k hs v q t → ⊥
loads-tries c k hs g v q t y (inl r) = reads-tries g (hold c hs) (guard_at (spot c.state.world q)) (spot c.state.world q).class v y r
loads-tries c k hs g v q t y (inr (inl r)) = sees-tries g (k.grasp c hs) (guard_at (spot c.state.world q)) (spot c.state.world q).class v y r.0
loads-tries c k hs g v q t y (inr (inr r)) = reads-tries g (grasp_of c hs) (guard_at (spot c.state.world q)) (spot c.state.world q).class v y r

other-word : PlacesInjective → (c : Instant) (k : Work) (hs : List Held) (g : Grip) (v : View) (r q : WordPlace) (x : ℕ) (t : ℕ → Tree) (words : WordPlace → ℕ) → MayTry g c.state.world q → Loads c k hs v r t
    → put_word words q x r ≡ words r
other-word inj c k hs g v r q x t words y l = by (same_place r q) refl
  where
    by : (b : Bool) → same_place r q ≡ b → put_word words q x r ≡ words r
    by false e = rw e refl
    by true e =
        let s : r ≡ q = (inj.same r q).0 e in
        absurd (loads-tries c k hs g v r t (subst (λ (z : WordPlace). MayTry g c.state.world z) (sym s) y) l)

untouched : PlacesInjective → (m : Machine) (c : Instant) (k : Work) (hs : List Held) (t : Tree) (items : List (Item Reply)) (xs : List ℕ) (g : Grip) (q : WordPlace) (x : ℕ)
    → Means m c k hs t items → MayTry g c.state.world q → Current c.memory.words t xs → Current (put_word c.memory.words q x) t xs
untouched inj m c k hs (Lock l r mode t) items [] g q x a y cu = tt
untouched inj m c k hs (Lock l r mode t) [] (z ∷ zs) g q x a y cu = absurd a
untouched inj m c k hs (Lock l r mode t) (Check b out ∷ is) (z ∷ zs) g q x a y cu = absurd a
untouched inj m c k hs (Lock l r mode t) (Try l' mode' ∷ is) (z ∷ zs) g q x a y cu = untouched inj m c k (record { lock = l; mode = mode } ∷ hs) t is zs g q x a.3 y cu
untouched inj m c k hs (Load v r t) items [] g q x a y cu = tt
untouched inj m c k hs (Load v r t) items (z ∷ zs) g q x a y cu = (
  cu.0 ∙ ap (look v) (sym (other-word inj c k hs g v r q x t c.memory.words y a.1)),
  untouched inj m c k hs (t (look v z)) items zs g q x (subst (λ (n : ℕ). Means m c k hs (t n) items) (sym cu.0) a.2) y cu.1,
)
untouched inj m c k hs (Test b out t) [] xs g q x a y cu = absurd a
untouched inj m c k hs (Test b out t) (Try l mode ∷ is) xs g q x a y cu = absurd a
untouched inj m c k hs (Test b out t) (Check b' out' ∷ is) xs g q x a y cu = λ e. untouched inj m c k hs t is xs g q x (a.2 (sym a.0 ∙ e)) y (cu e)
untouched inj m c k hs (End r fs cs) items xs g q x a y cu = tt
untouched inj m c k hs (Since r cs) items xs g q x a y cu = tt

pub still-current : PlacesInjective → (task : Task) (c : Instant) (xs : List ℕ) (g : Grip) (q : WordPlace) (x : ℕ) → MeansRow task → IsAt task c → MayTry g c.state.world q
    → Current c.memory.words task.tree xs → Current (put_word c.memory.words q x) task.tree xs
still-current inj task c xs g q x means at y cu =
    untouched inj task.place.machine c (work_of task.meaning) [] task.tree ((work_of task.meaning).items c.state.world) xs g q x (means.means c at) y cu
