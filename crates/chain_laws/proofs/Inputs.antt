-- An input that has come stays as it came.
use Rattle.std.proofs.Common.{◌≡◌, ◌≢◌, sym, ◌∙◌, ap, subst, ℕ, zero, suc, List, [], ◌∷◌, ◌++◌, Option, Some, Bool, true, not, inl, inr, ◌⊎◌, get_or, arith}
use Rattle.std.specs.Prelude.{AllPairs}
use Rattle.std.specs.List.{All, Contains, filter}
use Rattle.std.proofs.lemmas.Bool.{eq-eqb, ne_eqb}
use Rattle.std.proofs.lemmas.List.Elements.{All-nil, All-head, All-tail, All-append, All-weaker, All-filter, All-contains, All-contains_itself, Contains-append_left, Contains-append_right, filter_passes}
use Rattle.std.proofs.lemmas.List.Kept.{AllPairs-filter}
use Rattle.td_words.specs.Slots.{output_slots}
use Rattle.flat_core.specs.World.{Made}
use Rattle.flat_core.specs.Opening.{Opening, Incoming}
use Rattle.flat_core.specs.Event.{State, event}
use Rattle.flat_core.specs.Run.{bundles_in}
use Rattle.flat_core.specs.Laws.{with_bundles}
use Rattle.flat_core.proofs.Tests.{by_test}
use Rattle.flat_bundles.specs.Bundles.{AreOfLines, AreFitting}
use Rattle.flat_bundles.specs.Ended.{has_ended, all_left, ended_bundles}
use Rattle.flat_bundles.proofs.Bundles.{lines_kept}
use Rattle.flat_bundles.proofs.Ended.{ended_stay}
use Rattle.bundle_texts.proofs.Pairs.{pairs_cons, pairs_head, pairs_tail, first_or_later, is_later, is_first}
use Rattle.mig_laws.specs.Ivs.{is_forward}
use Rattle.image_laws.specs.Containers.{as_made}
use Rattle.chain_laws.specs.Chains.{Chain, Running, state_of, comes_forward, comes_back, comes_in, in_slot, inputs, play_chain, first_modules, at_moment}
use Rattle.chain_laws.specs.Inputs.{AreSlotsApart, InputsStay}
use Rattle.chain_laws.proofs.Turns.{module_keeps, chain_keeps, chain_append, modules_keep}
use Rattle.chain_laws.proofs.Grown.{made_by, ended_made, IsFound, found}

abbrev Apart : Made → Made → Type 0
Apart m n = m.slot ≢ n.slot

-- where slots are apart, a slot has the one bundle of it
the_one : (xs : List Made) (m : Made) → AllPairs Apart xs → Contains xs m → in_slot xs m.slot ≡ Some (as_made m)
the_one [] m apart (k, low, e) = absurd (omega (arith, low))
the_one (x ∷ xs) m apart c = by (the_one xs m (pairs_tail Apart x xs apart)) (first_or_later x m xs c)
  where
    by : (Contains xs m → in_slot xs m.slot ≡ Some (as_made m)) → (x ≡ m) ⊎ Contains xs m → in_slot (x ∷ xs) m.slot ≡ Some (as_made m)
    by rest (inl same) = let own = eq-eqb x.slot m.slot (ap (λ (z : Made). z.slot) same) in rw own (ap (λ (z : Made). Some (as_made z)) same)
    by rest (inr later) = let other : x.slot ≢ m.slot = All-contains (Apart x) xs m (pairs_head Apart x xs apart) later in rw (ne_eqb x.slot m.slot other) (rest later)

pairs_append : (xs ys : List Made) → AllPairs Apart xs → AllPairs Apart ys → All (λ x. All (Apart x) ys) xs → AllPairs Apart (xs ++ ys)
pairs_append [] ys a b h = b
pairs_append (x ∷ xs) ys a b h =
    pairs_cons Apart x (xs ++ ys) (All-append (Apart x) xs ys (pairs_head Apart x xs a) (All-head (λ z. All (Apart z) ys) x xs h))
    (pairs_append xs ys (pairs_tail Apart x xs a) b (All-tail (λ z. All (Apart z) ys) x xs h))

-- what passes stays among what passes
in_filter : (f : Made → Bool) (xs : List Made) (m : Made) → f m ≡ true → Contains xs m → Contains (filter f xs) m
in_filter f [] m e c = c
in_filter f (x ∷ xs) m e c = by (in_filter f xs m e) (first_or_later x m xs c)
  where
    by : (Contains xs m → Contains (filter f xs) m) → (x ≡ m) ⊎ Contains xs m → Contains (filter f (x ∷ xs)) m
    by rest (inl same) = let first : f x ≡ true = ap f same ∙ e in rw first (subst (Contains (x ∷ filter f xs)) same (is_first x (filter f xs)))
    by rest (inr later) = by_test (f x) (λ y. rw y (is_later x m (filter f xs) (rest later))) (λ y. rw y (rest later))

filters_in : (f : Made → Bool) (xs ys : List Made) → All (Contains ys) xs → All (Contains (filter f ys)) (filter f xs)
filters_in f xs ys h k d low = in_filter f ys (get_or (filter f xs) k d) (filter_passes f xs k d low) (All-filter f (Contains ys) xs h k d low)

-- a bundle whose call has ended has ended from then on
module _ (c : Chain) (i : ℕ) where
  abbrev o : Opening
  o = c.openings i

  ended_event : (bundles : ℕ → Option Incoming) (s : State) (p : ℕ) (m : Made) → Contains (ended_bundles o s) m → Contains (ended_bundles o (event (with_bundles o bundles) s p)) m
  ended_event bundles s p m k =
      let after : List Made = ended_bundles o (event (with_bundles o bundles) s p) in
      let f : Made → Bool = has_ended (all_left o s) in
      All-contains (Contains after) (filter f after) m (All-filter f (Contains after) after (All-contains_itself after)) (subst (λ (l : List Made). Contains l m) (ended_stay o bundles s p) k)

  ended_stays : (xs : List ℕ) (r : Running) → All (Contains (ended_bundles o (state_of (play_chain c xs r) i))) (ended_bundles o (state_of r i))
  ended_stays xs r =
      let first : List Made = ended_bundles o (state_of r i) in
      chain_keeps c (λ q. All (Contains (ended_bundles o (state_of q i))) first)
      (λ q x h. module_keeps (λ s. All (Contains (ended_bundles o s)) first) c q x i h
      (λ p. All-weaker (Contains (ended_bundles o (state_of q i))) (Contains (ended_bundles o (event (with_bundles o (inputs c q.modules i)) (state_of q i) p)))
      (λ m k. ended_event (inputs c q.modules i) (state_of q i) p m k) first h))
      xs r (All-contains_itself first)

module _ (c : Chain) (apart : AreSlotsApart c) (before after : List ℕ) where
  abbrev r : Running
  r = at_moment c before

  abbrev later : Running
  later = play_chain c after r

  of_lines : (j : ℕ) → AreOfLines (c.openings j).calls (made_by later j)
  of_lines j = subst (λ (q : Running). AreOfLines (c.openings j).calls (made_by q j)) (chain_append c before after (first_modules c))
      (modules_keep (λ o s. AreFitting o s × AreOfLines o.calls (bundles_in s)) lines_kept c (before ++ after) j).1

  -- of one neighbour, those of one way
  abbrev ended : Running → ℕ → List Made
  ended q j = ended_bundles (c.openings j) (state_of q j)

  apart_of : (way : Made → Bool) (j : ℕ) → AllPairs Apart (filter way (ended later j))
  apart_of way j = AllPairs-filter Apart way (ended later j) (AllPairs-filter Apart (has_ended (all_left (c.openings j) (state_of later j))) (made_by later j) ((of_lines j).apart (apart.own j)))

  abbrev IsNamed : ℕ → Made → Type 0
  IsNamed j m = Contains (output_slots (c.openings j).calls) m.slot

  named_of : (way : Made → Bool) (j : ℕ) → All (IsNamed j) (filter way (ended later j))
  named_of way j = All-filter way (IsNamed j) (ended later j) (ended_made (c.openings j) (state_of later j) (IsNamed j) (of_lines j).each)

  -- all that comes in
  front_stays : (i : ℕ) → All (Contains (comes_forward c later.modules i)) (comes_forward c r.modules i)
  front_stays zero = All-nil (Contains (comes_forward c later.modules 0))
  front_stays (suc i) = filters_in is_forward (ended r i) (ended later i) (ended_stays c i after r)

  back_stays : (i : ℕ) → All (Contains (comes_back c later.modules i)) (comes_back c r.modules i)
  back_stays i = filters_in (λ m. not (is_forward m)) (ended r (suc i)) (ended later (suc i)) (ended_stays c (suc i) after r)

  all_stay : (i : ℕ) → All (Contains (comes_in c later.modules i)) (comes_in c r.modules i)
  all_stay i =
      let front : List Made = comes_forward c later.modules i in
      let back : List Made = comes_back c later.modules i in
      All-append (Contains (front ++ back)) (comes_forward c r.modules i) (comes_back c r.modules i)
      (All-weaker (Contains front) (Contains (front ++ back)) (λ m k. Contains-append_left front back m k) (comes_forward c r.modules i) (front_stays i))
      (All-weaker (Contains back) (Contains (front ++ back)) (λ m k. Contains-append_right front back m k) (comes_back c r.modules i) (back_stays i))

  all_apart : (i : ℕ) → AllPairs Apart (comes_in c later.modules i)
  all_apart zero = apart_of (λ m. not (is_forward m)) 1
  all_apart (suc i) =
      let front : List Made = comes_forward c later.modules (suc i) in
      let back : List Made = comes_back c later.modules (suc i) in
      let backward : Made → Bool = λ m. not (is_forward m) in
      pairs_append front back (apart_of is_forward i) (apart_of backward (suc (suc i)))
      (λ k d low j e high same. apart.two i (get_or front k d).slot (named_of is_forward i k d low)
      (subst (Contains (output_slots (c.openings (suc (suc i))).calls)) (sym same) (named_of backward (suc (suc i)) j e high)))

  stays : (i slot : ℕ) (b : Incoming) → inputs c r.modules i slot ≡ Some b → inputs c later.modules i slot ≡ Some b
  stays i slot b e =
      let now : List Made = comes_in c later.modules i in
      let f : IsFound (Contains now) slot b = found (Contains now) slot (comes_in c r.modules i) b (all_stay i) e in
      subst (λ (n : ℕ). in_slot now n ≡ Some b) f.own (the_one now f.made (all_apart i) f.holds ∙ ap (λ (z : Incoming). Some z) (sym f.is))

pub inputs_stay : InputsStay
inputs_stay c before after i slot b apart e =
    subst (λ (q : Running). inputs c q.modules i slot ≡ Some b) (sym (chain_append c before after (first_modules c))) (stays c apart before after i slot b e)
