-- A leaf that was told words that stand comes to the next move of its row.
use Rattle.std.proofs.Common.{◌≡◌, ℕ, suc, ◌+◌, true, false, cond, List, [], ◌∷◌, length, refl, ap, sym, ◌∙◌, subst, inl, inr, arith, add-zero}
use Rattle.td_words.specs.declared.machines.Machine.{Machine}
use Rattle.td_words.specs.declared.replies.Reply.{Reply}
use Rattle.flat_core.specs.Processor.{Held}
use Rattle.flat_core.specs.Row.{Item, Check, Try, Refuses, next}
use Rattle.word_rules.specs.Views.{look}
use Rattle.leaf_engine.specs.Trees.{Tree, Lock, Load, Test, End, Since, feed}
use Rattle.leaf_engine.specs.Means.{Instant, Work, work_of, Means}
use Rattle.leaf_engine.specs.Follows.{granted, Current, Comes, LeavesFollowRows}

-- how many tries these answers pass
tries : Tree → List ℕ → ℕ
tries (Lock l q m t) [] = 0
tries (Lock l q m t) (x ∷ xs) = suc (tries t xs)
tries (Load v q k) [] = 0
tries (Load v q k) (x ∷ xs) = tries (k (look v x)) xs
tries (Test b r t) xs = cond b (tries t xs) 0
tries (End a fs cs) xs = 0
tries (Since a cs) xs = 0

tries-granted : (t : Tree) (xs : List ℕ) (hs : List Held) → length (granted t xs hs) ≡ tries t xs + length hs
unfolding tries
tries-granted (Lock l q m t) [] hs = omega arith
tries-granted (Lock l q m t) (x ∷ xs) hs = (let e : length (granted t xs (record { lock = l; mode = m } ∷ hs)) ≡ tries t xs + suc (length hs) = tries-granted t xs (record { lock = l; mode = m } ∷ hs) in omega (arith, e))
tries-granted (Load v q k) [] hs = omega arith
tries-granted (Load v q k) (x ∷ xs) hs = tries-granted (k (look v x)) xs hs
tries-granted (Test true r t) xs hs = tries-granted t xs hs
tries-granted (Test false r t) xs hs = omega arith
tries-granted (End a fs cs) xs hs = omega arith
tries-granted (Since a cs) xs hs = omega arith

comes : (m : Machine) (c : Instant) (k : Work) (hs : List Held) (t : Tree) (items : List (Item Reply)) (xs : List ℕ) → Means m c k hs t items → Current c.memory.words t xs
    → Comes m c k (granted t xs hs) (feed t xs) (next items (tries t xs))
unfolding tries
comes m c k hs (Lock l q mode t) [] xs a cu = absurd a
comes m c k hs (Lock l q mode t) (Check b r ∷ is) xs a cu = absurd a
comes m c k hs (Lock l q mode t) (Try l' mode' ∷ is) [] a cu = (let e : l' ≡ l = sym a.0 in let g : mode' ≡ mode = sym a.1 in rw (e, g) refl, a.2)
comes m c k hs (Lock l q mode t) (Try l' mode' ∷ is) (x ∷ xs) a cu = comes m c k (record { lock = l; mode = mode } ∷ hs) t is xs a.3 cu
comes m c k hs (Load v q t) items [] a cu = (a.0, a.1)
comes m c k hs (Load v q t) items (x ∷ xs) a cu =
    comes m c k hs (t (look v x)) items xs (subst (λ (z : ℕ). Means m c k hs (t z) items) (sym cu.0) a.2) cu.1
comes m c k hs (Test b r t) [] xs a cu = absurd a
comes m c k hs (Test b r t) (Try l mode ∷ is) xs a cu = absurd a
comes m c k hs (Test true r t) (Check b' r' ∷ is) xs a cu = rw (sym a.0) (comes m c k hs t is xs (a.2 (sym a.0)) (cu refl))
comes m c k hs (Test false r t) (Check b' r' ∷ is) xs a cu = rw (sym a.0) (inl (ap Refuses (sym (a.1 refl)), refl, refl, refl))
comes m c k hs (End r fs cs) [] xs a cu = inr (refl, a.0, a.1)
comes m c k hs (End r fs cs) (Check b s ∷ is) xs a cu = absurd a
comes m c k hs (End r fs cs) (Try l mode ∷ is) xs a cu = absurd a
comes m c k hs (Since r cs) [] xs a cu = (refl, a.0, a.1)
comes m c k hs (Since r cs) (Check b s ∷ is) xs a cu = absurd a
comes m c k hs (Since r cs) (Try l mode ∷ is) xs a cu = absurd a

pub leaves-follow-rows : LeavesFollowRows
leaves-follow-rows task c told means at cu =
    let k = work_of task.meaning in
    let count : length (granted task.tree told []) ≡ tries task.tree told = tries-granted task.tree told [] ∙ add-zero (tries task.tree told) in
    subst (λ (n : ℕ). Comes task.place.machine c k (granted task.tree told []) (feed task.tree told) (next (k.items c.state.world) n)) (sym count)
    (comes task.place.machine c k [] task.tree (k.items c.state.world) told (means.means c at) cu)
