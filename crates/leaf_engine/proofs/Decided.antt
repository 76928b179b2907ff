-- A decision is the next need of its tree, and what its act hands out are the tree's changes.
use Rattle.std.proofs.Common.{◌≡◌, ℕ, zero, suc, ◌+◌, true, false, List, [], ◌∷◌, ◌++◌, drop, Option, Some, None, Result, Ok, Err, refl, ap, sym, ◌∙◌, subst, arith}
use Rattle.std.proofs.lemmas.List.{append-nil}
use Rattle.td_words.specs.declared.machines.Machine.{Machine}
use Rattle.mrtd_measure.specs.declared.measures.Measure.{Measure}
use Rattle.leaf_engine.specs.declared.needs.Need.TheVariants as need
use Rattle.leaf_engine.specs.declared.needs.Write.{Write}
use Rattle.leaf_engine.specs.declared.plans.Stop.{Stop}
use Rattle.leaf_engine.specs.declared.plans.Stop.TheVariants as stop
use Rattle.word_rules.specs.Views.{look}
use Rattle.leaf_engine.specs.Changes.{Change}
use Rattle.leaf_engine.specs.Trees.{Tree, Lock, Load, Test, End, Since, feed, settle, passed, changes_of}
use Rattle.leaf_engine.specs.Decides.{Ending, Decides, Wants, need_for, told_then, HandsNext, HandsAt}

pub feed-append : (t : Tree) (xs ys : List ℕ) → feed (feed t xs) ys ≡ feed t (xs ++ ys)
feed-append (Lock l q m t) [] ys = refl
feed-append (Lock l q m t) (x ∷ xs) ys = feed-append t xs ys
feed-append (Load v q k) [] ys = refl
feed-append (Load v q k) (x ∷ xs) ys = feed-append (k (look v x)) xs ys
feed-append (Test true r t) xs ys = feed-append t xs ys
feed-append (Test false r t) xs ys = refl
feed-append (End a fs cs) xs ys = refl
feed-append (Since a cs) xs ys = refl

pub settled : (t : Tree) (xs : List ℕ) → settle (feed t xs) ≡ feed t xs
settled t xs = feed-append t xs [] ∙ ap (feed t) (append-nil xs)

decides-gives : (n : ℕ) (t : Tree) (xs : List ℕ) (r : Result Ending Stop) → Decides n t xs r → Wants n (feed t xs) (need_for r)
decides-gives n (Lock l q m t) [] r h = ap need_for h
decides-gives n (Lock l q m t) (x ∷ xs) r h = decides-gives n t xs r h
decides-gives n (Load v q k) [] r h = ap need_for h
decides-gives n (Load v q k) (x ∷ xs) r h = decides-gives n (k (look v x)) xs r h
decides-gives n (Test true out t) xs r h = decides-gives n t xs r (h.0 refl)
decides-gives n (Test false out t) xs r h = ap need_for (h.1 refl)
decides-gives n (End a fs cs) xs (Ok v) h = ap need.Verdict (sym h.0)
decides-gives n (End a fs cs) xs (Err e) h = absurd h
decides-gives n (Since a cs) xs (Ok v) h = ap need.Verdict (sym h.0)
decides-gives n (Since a cs) xs (Err e) h = absurd h

-- what is left of a tree once it gave a need
stays : (n : ℕ) (s : Tree) (v : Ending) → Wants n s (need_for (Ok v)) → s ≡ passed s
stays n (Load v q k) u h = refl
stays n (Lock l q m t) u h = cc
stays n (End a fs cs) u h = refl
stays n (Since a cs) u h = refl
stays n (Test b out t) u h = absurd h

goes-by : (n : ℕ) (s : Tree) (e : Stop) → Wants n s (need_for (Err e)) → feed s (told_then [] e) ≡ passed s
goes-by n (Load v q k) (stop.Lock name at m) h = cc
goes-by n (Load v q k) (stop.Load at) h = refl
goes-by n (Load v q k) (stop.Refused reply) h = refl
goes-by n (Lock l q m t) (stop.Lock name at m') h = refl
goes-by n (Lock l q m t) (stop.Load at) h = cc
goes-by n (Lock l q m t) (stop.Refused reply) h = cc
goes-by n (End a fs cs) e h = refl
goes-by n (Since a cs) e h = refl
goes-by n (Test b out t) e h = absurd h

then-behind : (xs : List ℕ) (e : Stop) → told_then xs e ≡ xs ++ told_then [] e
then-behind xs (stop.Lock name at m) = refl
then-behind xs (stop.Load at) = sym (append-nil xs)
then-behind xs (stop.Refused reply) = sym (append-nil xs)

-- the need that a decision gives, and what is left then
pub decided : (n : ℕ) (t : Tree) (xs : List ℕ) (r : Result Ending Stop) → Decides n t xs r → Wants n (settle (feed t xs)) (need_for r)
decided n t xs r h = rw (settled t xs) (decides-gives n t xs r h)

pub decided-kept : (n : ℕ) (t : Tree) (xs : List ℕ) (v : Ending) → Decides n t xs (Ok v) → feed t xs ≡ passed (settle (feed t xs))
decided-kept n t xs v h = rw (settled t xs) (stays n (feed t xs) v (decides-gives n t xs (Ok v) h))

pub decided-then : (n : ℕ) (t : Tree) (xs : List ℕ) (e : Stop) → Decides n t xs (Err e) → feed t (told_then xs e) ≡ passed (settle (feed t xs))
decided-then n t xs e h =
    ap (feed t) (then-behind xs e) ∙ (sym (feed-append t xs (told_then [] e))
    ∙ rw (settled t xs) (goes-by n (feed t xs) e (decides-gives n t xs (Err e) h)))

-- what a decision changes
pub decided-changes : (n : ℕ) (t : Tree) (xs : List ℕ) (v : Ending) → Decides n t xs (Ok v) → changes_of (feed t xs) ≡ v.changes
decided-changes n (Lock l q m t) [] v h = cc
decided-changes n (Lock l q m t) (x ∷ xs) v h = decided-changes n t xs v h
decided-changes n (Load w q k) [] v h = cc
decided-changes n (Load w q k) (x ∷ xs) v h = decided-changes n (k (look w x)) xs v h
decided-changes n (Test true out t) xs v h = decided-changes n t xs v (h.0 refl)
decided-changes n (Test false out t) xs v h = (let e = h.1 refl in cc)
decided-changes n (End a fs cs) xs v h = sym h.1
decided-changes n (Since a cs) xs v h = sym h.1

pub decided-none : (n : ℕ) (t : Tree) (xs : List ℕ) (e : Stop) → Decides n t xs (Err e) → changes_of (feed t xs) ≡ []
decided-none n (Lock l q m t) [] e h = refl
decided-none n (Lock l q m t) (x ∷ xs) e h = decided-none n t xs e h
decided-none n (Load v q k) [] e h = refl
decided-none n (Load v q k) (x ∷ xs) e h = decided-none n (k (look v x)) xs e h
decided-none n (Test true out t) xs e h = decided-none n t xs e (h.0 refl)
decided-none n (Test false out t) xs e h = refl
decided-none n (End a fs cs) xs e h = absurd h
decided-none n (Since a cs) xs e h = absurd h

drop_none : (k : ℕ) → drop {A = Change} k [] ≡ []
drop_none zero = refl
drop_none (suc k) = refl

-- of no changes none is left
pub none-left : (m : Machine) (cs : List Change) (k : ℕ) (h : Option Measure) → cs ≡ [] → HandsNext m (drop k cs) (drop k cs) h h None
none-left m cs k h e = rw e (drop_none k, drop_none k, refl)

-- the change of a number is the next of those that are left
pub none-next : (m : Machine) (cs : List Change) (k : ℕ) (h h' : Option Measure) → HandsAt m cs k h h' None → HandsNext m (drop k cs) (drop k cs) h h' None
none-next m [] k h h' a = (drop_none k, drop_none k, a.1)
none-next m (c ∷ cs) zero h h' a = absurd a
none-next m (c ∷ cs) (suc k) h h' a = none-next m cs k h h' a

some-at : (m : Machine) (cs : List Change) (k : ℕ) (h h' : Option Measure) (w : Write) → HandsAt m cs k h h' (Some w) → HandsNext m (drop k cs) (drop (suc k) cs) h h' (Some w)
some-at m [] k h h' w a = cc
some-at m (c ∷ cs) zero h h' w a = (c, refl, a.0, a.1)
some-at m (c ∷ cs) (suc k) h h' w a = some-at m cs k h h' w a

pub some-next : (m : Machine) (cs : List Change) (k : ℕ) (h h' : Option Measure) (w : Write) → HandsAt m cs k h h' (Some w) → HandsNext m (drop k cs) (drop (k + 1) cs) h h' (Some w)
some-next m cs k h h' w a =
    let more : suc k ≡ k + 1 = omega arith in
    subst (λ (j : ℕ). HandsNext m (drop k cs) (drop j cs) h h' (Some w)) more (some-at m cs k h h' w a)
