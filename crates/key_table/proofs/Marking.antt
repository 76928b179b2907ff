-- The loop over the words of HKIDs goes by its tree, and they are stored one by one.
use Rattle.std.proofs.Common.{◌≡◌, ℕ, zero, suc, ◌+◌, ◌-◌, ◌<◌, ◌≤◌, nat_lt, true, List, [], ◌∷◌, ◌++◌, length, slice_index, Option, Some, None, Result, Ok, Err, refl, sym, ◌∙◌, subst, arith, append_assoc}
use Rattle.std.proofs.lemmas.Bool.{ltb-true}
use Rattle.std.proofs.lemmas.List.{append-nil}
use Rattle.td_words.specs.declared.machines.Machine.{Machine}
use Rattle.td_words.specs.declared.replies.Value.TheVariants as value
use Rattle.td_words.specs.declared.replies.Reply.TheVariants.{Done}
use Rattle.td_words.specs.Address.{key_at}
use Rattle.td_words.specs.Place as place
use Rattle.mrtd_measure.specs.declared.measures.Measure.{Measure}
use Rattle.step_core.specs.Words.{word_count}
use Rattle.step_core.specs.declared.steps.WordStep.TheVariants as step
use Rattle.leaf_engine.specs.declared.needs.Write.TheVariants as write
use Rattle.leaf_engine.specs.declared.plans.Stop.{Stop}
use Rattle.leaf_engine.specs.declared.plans.Stop.TheVariants as stop
use Rattle.leaf_engine.specs.Changes.{Change, Put}
use Rattle.leaf_engine.specs.Decides.{Ending, Decides, HandsAt}
use Rattle.key_table.specs.Words.{marked}
use Rattle.key_table.specs.CacheTrees.{mark_keys, marks, cache_changes}

-- it wants a word
pub stops : (pages number left : ℕ) (cs : List Change) (xs : List ℕ) (r : Result Ending Stop) → 0 < left → xs ≡ [] → r ≡ Err (stop.Load (key_at pages number)) → Decides pages (mark_keys number left cs) xs r
stops pages number zero cs xs r a b e = absurd (omega arith)
stops pages number (suc left) cs xs r a b e = subst (λ (ys : List ℕ). Decides pages (mark_keys number (suc left) cs) ys r) (sym b) e

-- it was told one
pub goes : (pages number left key : ℕ) (cs : List Change) (xs ys : List ℕ) (r : Result Ending Stop) → 0 < left → xs ≡ key ∷ ys
    → Decides pages (mark_keys (number + 1) (left - 1) (cs ++ Put (place.Key number) (marked key) ∷ [])) ys r → Decides pages (mark_keys number left cs) xs r
goes pages number zero key cs xs ys r a b d = absurd (omega arith)
goes pages number (suc left) key cs xs ys r a b d =
    let n : number + 1 ≡ suc number = omega arith in
    let l : suc left - 1 ≡ left = omega arith in
    subst (λ (zs : List ℕ). Decides pages (mark_keys number (suc left) cs) zs r) (sym b)
    (subst (λ (j : ℕ). Decides pages (mark_keys j left (cs ++ Put (place.Key number) (marked key) ∷ [])) ys r) n
    (subst (λ (j : ℕ). Decides pages (mark_keys (number + 1) j (cs ++ Put (place.Key number) (marked key) ∷ [])) ys r) l d))

pub more : (number left key : ℕ) (cs : List Change) (xs ys : List ℕ) → 0 < left → xs ≡ key ∷ ys
    → (cs ++ Put (place.Key number) (marked key) ∷ []) ++ marks (number + 1) (left - 1) ys ≡ cs ++ marks number left xs
more number zero key cs xs ys a b = absurd (omega arith)
more number (suc left) key cs xs ys a b =
    let n : number + 1 ≡ suc number = omega arith in
    let l : suc left - 1 ≡ left = omega arith in
    rw (b, n, l) (append_assoc cs (Put (place.Key number) (marked key) ∷ []) (marks (suc number) left ys))

-- all are told
pub ends : (pages number left : ℕ) (cs whole : List Change) (xs : List ℕ) → left ≡ 0 → cs ++ marks number left xs ≡ whole
    → Decides pages (mark_keys number left cs) xs (Ok (record { reply = Done value.Nothing; changes = whole }))
ends pages number zero cs whole xs a b = (refl, sym b ∙ append-nil cs)
ends pages number (suc left) cs whole xs a b = absurd (omega (arith, a))

-- one by one
hands : (m : Machine) (number left : ℕ) (keys : List ℕ) (k : ℕ) (h : Option Measure) → number + left ≡ 3 + m.hkids → left ≤ length keys → k < left
    → HandsAt m (marks number left keys) k h h (Some (write.Word (step.Store (key_at m.pages (number + k)) (marked (slice_index keys k)))))
hands m number zero keys k h a b c = absurd (omega (arith, c))
hands m number (suc left) [] k h a b c = absurd (omega (arith, b))
hands m number (suc left) (key ∷ keys) zero h a b c =
    let same : number + 0 ≡ number = omega arith in
    let small : key_at m.pages number < word_count m = omega (arith, a) in
    rw same (small, λ hand held. (refl, held))
hands m number (suc left) (key ∷ keys) (suc k) h a b c =
    let on : number + suc k ≡ suc number + k = omega arith in
    rw on (hands m (suc number) left keys k h (omega (arith, a)) (omega (arith, b)) (omega (arith, c)))

none : (m : Machine) (number left : ℕ) (keys : List ℕ) (k : ℕ) (h : Option Measure) → left ≤ k → HandsAt m (marks number left keys) k h h None
none m number zero keys k h b = (refl, refl)
none m number (suc left) [] k h b = (refl, refl)
none m number (suc left) (key ∷ keys) zero h b = absurd (omega (arith, b))
none m number (suc left) (key ∷ keys) (suc k) h b = none m (suc number) left keys k h (omega (arith, b))

pub hands_told : (m : Machine) (told : List ℕ) (k : ℕ) (h : Option Measure) → nat_lt m.hkids (length told) ≡ true → k < m.hkids
    → HandsAt m (cache_changes m told) k h h (Some (write.Word (step.Store (key_at m.pages (3 + k)) (marked (slice_index told (k + 1))))))
hands_told m [] k h a b = (let some = ltb-true m.hkids 0 a in absurd (omega (arith, some)))
hands_told m (lock ∷ keys) k h a b =
    let behind : k + 1 ≡ suc k = omega arith in
    let some = ltb-true m.hkids (length (lock ∷ keys)) a in
    rw behind (hands m 3 m.hkids keys k h refl (omega (arith, some)) b)

pub none_told : (m : Machine) (told : List ℕ) (k : ℕ) (h : Option Measure) → m.hkids ≤ k → HandsAt m (cache_changes m told) k h h None
none_told m [] k h b = (refl, refl)
none_told m (lock ∷ keys) k h b = none m 3 m.hkids keys k h b
