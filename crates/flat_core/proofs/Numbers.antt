-- The entries of a TD that are in some state of those that are exported: their numbers, each once.
use Rattle.std.proofs.Common.{◌≡◌, refl, sym, ◌∙◌, subst, ap, ℕ, zero, suc, ◌^◌, ◌<◌, ◌≤◌, List, [], ◌∷◌, length, Bool, true, false, not, eqb, ◌==◌, ◌&&◌, if◌then◌else◌, arith}
use Rattle.std.specs.List.{list_any, IsDistinct, AllByRecursion}
use Rattle.std.proofs.lemmas.Bool.{eqb-true, eqb-false, ne_eqb, not-true, and_parts}
use Rattle.std.proofs.lemmas.Map.Steps.{length-le_from_distinct_below}
use Rattle.td_words.specs.declared.names.PageKind.{PageKind}
use Rattle.td_words.specs.declared.names.PageKind.TheVariants as kind
use Rattle.td_words.specs.declared.names.EntryState.{EntryState}
use Rattle.td_words.specs.declared.names.EntryState.TheVariants as entry
use Rattle.td_words.specs.declared.machines.Machine.{Machine}
use Rattle.td_words.specs.Packing.{Entry, is_exported}
use Rattle.flat_core.specs.World.{World}
use Rattle.flat_core.specs.Locks.{one_if, sum_below}
use Rattle.flat_core.specs.Conditions.{same_kind}
use Rattle.flat_core.specs.Exports.{is_page_where, entries_where}
use Rattle.flat_core.specs.Lawful.{IsAlive, IsNodeOf, Lawful, all_differ, is_free, is_node, is_named_kind}
use Rattle.flat_core.specs.Laws.{AreSoMany}
use Rattle.flat_core.proofs.Tests.{by_test, same_self}
use Rattle.flat_core.proofs.Maps.{kind_named, node_named}
use Rattle.flat_core.proofs.Exports.{IsOfExported, free_unmarked}

private_kind : (k : PageKind) → same_kind k kind.Reg ≡ true → k ≡ kind.Reg
private_kind kind.Reg h = refl
private_kind _ h = cc

private_level : (l : ℕ) → kind.Reg ≡ kind_named l → l ≡ 0
private_level zero h = refl
private_level (suc l) h = cc

node_unmarked : (s : EntryState) → is_node s ≡ true → is_exported s ≡ false
node_unmarked entry.NlMapped h = refl
node_unmarked entry.NlBlocked h = refl
node_unmarked _ h = cc

-- numbers below a bound, each once, are no more than the bound
each_apart : (x : ℕ) (ys : List ℕ) → list_any (λ q. q == x) ys ≡ false → AllByRecursion (λ y. eqb x y ≡ false) ys
each_apart x [] n = tt
each_apart x (y ∷ ys) n = by_test (y == x)
    (λ e. absurd (let no : true ≡ false = rw e at n in cc))
    (λ e. (ne_eqb x y (λ same. eqb-false y x e (sym same)), each_apart x ys (rw e at n)))

distinct : (xs : List ℕ) → all_differ xs ≡ true → IsDistinct eqb xs
unfolding IsDistinct
distinct [] d = tt
distinct (x ∷ xs) d = let h = and_parts (not (list_any (λ q. q == x) xs)) (all_differ xs) d in (each_apart x xs (not-true _ h.0), distinct xs h.1)

among_flipped : (q : ℕ) (xs : List ℕ) → list_any (eqb q) xs ≡ true → list_any (λ i. i == q) xs ≡ true
among_flipped q [] h = cc
among_flipped q (x ∷ xs) h = by_test (x == q)
    (λ y. rw y refl)
    (λ y. (let other : eqb q x ≡ false = ne_eqb q x (λ same. eqb-false x q y (sym same)) in rw y (among_flipped q xs (rw other at h))))

few_numbers : (xs : List ℕ) (n : ℕ) → all_differ xs ≡ true → ((q : ℕ) → list_any (λ i. i == q) xs ≡ true → q < n) → length xs ≤ n
few_numbers xs n d small = length-le_from_distinct_below xs n (distinct xs d) (λ q h. small q (among_flipped q xs h))

none_among : (xs : List ℕ) (n : ℕ) → length xs ≡ 0 → list_any (λ i. i == n) xs ≡ false
none_among [] n e = refl
none_among (x ∷ xs) n e = absurd (omega (arith, e))

module _ (m : Machine) (w : World) (lawful : Lawful m w) (t : ℕ) (alive : IsAlive w.pages w.tds t) where
  pub upper_unmarked : (l n : ℕ) → is_exported (w.tds.entries t (suc l) n).state ≡ false
  upper_unmarked l n = by_test (is_free (w.tds.entries t (suc l) n).state)
      (λ y. free_unmarked _ y)
      (λ y. node_unmarked _ (lawful.tree.upper t l n alive y).0)

  module _ (f : EntryState → Bool) (of : IsOfExported f) where
    abbrev entries : ℕ → Entry
    entries n = w.tds.entries t 0 n

    abbrev counts : ℕ → Bool
    counts p = is_page_where f w.pages t (w.tds.entries t 0) p

    -- the numbers of the pages that count
    abbrev numbers_below : ℕ → List ℕ
    numbers_below zero = []
    numbers_below (suc k) = if counts k then w.pages.numbers k ∷ numbers_below k else numbers_below k

    private : (p : ℕ) → counts p ≡ true → w.pages.kinds p ≡ kind.Reg
    private p c = private_kind _ (and_parts (same_kind (w.pages.kinds p) kind.Reg) (w.pages.owners p == t && f (entries (w.pages.numbers p)).state) c).0

    own : (p : ℕ) → counts p ≡ true → w.pages.owners p ≡ t
    own p c = eqb-true _ t (and_parts (w.pages.owners p == t) (f (entries (w.pages.numbers p)).state) (and_parts (same_kind (w.pages.kinds p) kind.Reg) (w.pages.owners p == t && f (entries (w.pages.numbers p)).state) c).1).0

    holds : (p : ℕ) → counts p ≡ true → f (entries (w.pages.numbers p)).state ≡ true
    holds p c = (and_parts (w.pages.owners p == t) (f (entries (w.pages.numbers p)).state) (and_parts (same_kind (w.pages.kinds p) kind.Reg) (w.pages.owners p == t && f (entries (w.pages.numbers p)).state) c).1).1

    -- each is named by the entry of its number
    named_here : (p : ℕ) → counts p ≡ true → (entries (w.pages.numbers p)).page ≡ p
    named_here p c =
        let named = lawful.tree.named p (ap is_named_kind (private p c)) (subst (λ (u : ℕ). IsAlive w.pages w.tds u) (sym (own p c)) alive) in
        let used : is_free (w.tds.entries t (w.pages.levels p) (w.pages.numbers p)).state ≡ false = subst (λ (u : ℕ). is_free (w.tds.entries u (w.pages.levels p) (w.pages.numbers p)).state ≡ false) (own p c) named.0 in
        let page : (w.tds.entries t (w.pages.levels p) (w.pages.numbers p)).page ≡ p = subst (λ (u : ℕ). (w.tds.entries u (w.pages.levels p) (w.pages.numbers p)).page ≡ p) (own p c) named.1 in
        let node = node_named m w lawful t (w.pages.levels p) (w.pages.numbers p) alive used in
        let low : w.pages.levels p ≡ 0 = private_level _ (sym (private p c) ∙ (ap w.pages.kinds (sym page) ∙ node.page.kind)) in
        subst (λ (l : ℕ). (w.tds.entries t l (w.pages.numbers p)).page ≡ p) low page

    record Found (k n : ℕ) : Type 0 where
      page : ℕ
      small : page < k
      counted : counts page ≡ true
      number : w.pages.numbers page ≡ n

    found : (k n : ℕ) → list_any (λ i. i == n) (numbers_below k) ≡ true → Found k n
    found zero n h = cc
    found (suc k) n h = by_test (counts k)
        (λ y. by_test (w.pages.numbers k == n)
        (λ z. record { page = k; small = omega arith; counted = y; number = eqb-true _ n z })
        (λ z. later (found k n (rw (y, z) at h))))
        (λ y. later (found k n (rw y at h)))
      where
        later : Found k n → Found (suc k) n
        later r = record { page = r.page; small = (let s = r.small in omega (arith, s)); counted = r.counted; number = r.number }

    among : (k p : ℕ) → p < k → counts p ≡ true → list_any (λ i. i == w.pages.numbers p) (numbers_below k) ≡ true
    among zero p small c = absurd (omega (arith, small))
    among (suc k) p small c = by_test (p == k)
        (λ y. (let here : p ≡ k = eqb-true p k y in let c' : counts k ≡ true = subst (λ (z : ℕ). counts z ≡ true) here c in
        subst (λ (z : ℕ). list_any (λ i. i == w.pages.numbers z) (numbers_below (suc k)) ≡ true) (sym here) (rw (c', same_self (w.pages.numbers k)) refl)))
        (λ y. (let apart : p ≡ k → ⊥ = eqb-false p k y in let rest = among k p (omega (arith, small, apart)) c in
        by_test (counts k)
        (λ z. by_test (w.pages.numbers k == w.pages.numbers p) (λ u. rw (z, u) refl) (λ u. rw (z, u) rest))
        (λ z. rw z rest)))

    fresh : (k : ℕ) → counts k ≡ true → list_any (λ i. i == w.pages.numbers k) (numbers_below k) ≡ false
    fresh k c = by_test (list_any (λ i. i == w.pages.numbers k) (numbers_below k))
        (λ y. absurd (let r = found k (w.pages.numbers k) y in
        let same : r.page ≡ k = sym (named_here r.page r.counted) ∙ (ap (λ (n : ℕ). (entries n).page) r.number ∙ named_here k c) in
        let small = r.small in omega (arith, small, same)))
        (λ y. y)

    differ : (k : ℕ) → all_differ (numbers_below k) ≡ true
    differ zero = refl
    differ (suc k) = by_test (counts k) (λ y. rw (y, fresh k y) (differ k)) (λ y. rw y (differ k))

    many : (k : ℕ) → length (numbers_below k) ≡ sum_below (λ p. one_if (counts p)) k
    many zero = refl
    many (suc k) = by_test (counts k) (λ y. rw y (let rest = many k in omega (arith, rest))) (λ y. rw y (let rest = many k in omega (arith, rest)))

    used : (s : EntryState) → f s ≡ true → is_free s ≡ false
    used s h = by_test (is_free s) (λ y. absurd (let no : true ≡ false = sym h ∙ of s (free_unmarked s y) in cc)) (λ y. y)

    here : (n : ℕ) → f (entries n).state ≡ true → list_any (λ i. i == n) (numbers_below m.pages) ≡ true
    here n h =
        let node : IsNodeOf w.pages t (entries n).page kind.Reg 0 n = (lawful.tree.lowest t n alive (used _ h)).1 in
        let c : counts (entries n).page ≡ true = rw (node.page.kind, node.page.owner, same_self t, node.number_is) h in
        let small : (entries n).page < m.pages = lawful.pages.in_machine _ (ap (λ (k : PageKind). same_kind k kind.Nda) node.page.kind) in
        subst (λ (i : ℕ). list_any (λ j. j == i) (numbers_below m.pages) ≡ true) node.number_is (among m.pages (entries n).page small c)

    each : (n : ℕ) → list_any (λ i. i == n) (numbers_below m.pages) ≡ f (entries n).state
    each n = by_test (f (entries n).state)
        (λ y. here n y ∙ sym y)
        (λ y. by_test (list_any (λ i. i == n) (numbers_below m.pages))
        (λ z. absurd (let r = found m.pages n z in
        let no : true ≡ false = sym (holds r.page r.counted) ∙ (ap (λ (i : ℕ). f (entries i).state) r.number ∙ y) in cc))
        (λ z. z ∙ sym y))

    pub so_many : (k : ℕ) → entries_where f m.pages w.pages w.tds t ≡ k → AreSoMany f (w.tds.entries t 0) k
    so_many k e = record { numbers = numbers_below m.pages; each = each; once = differ m.pages; many = many m.pages ∙ e }

    -- where none counts, f holds of none
    pub holds_of_none : entries_where f m.pages w.pages w.tds t ≡ 0 → (n : ℕ) → f (w.tds.entries t 0 n).state ≡ false
    holds_of_none e n = sym (each n) ∙ none_among (numbers_below m.pages) n (many m.pages ∙ e)

    -- a TD has no more entries of level 0 than pages of 4 KiB have GPAs
    pub few_where : entries_where f m.pages w.pages w.tds t ≤ 2 ^ 35
    few_where = subst (λ (k : ℕ). k ≤ 2 ^ 35) (many m.pages) (few_numbers (numbers_below m.pages) (2 ^ 35) (differ m.pages) small)
      where
        small : (n : ℕ) → list_any (λ i. i == n) (numbers_below m.pages) ≡ true → n < 2 ^ 35
        small n h = let low = lawful.tree.in_range t 0 n (used _ (sym (each n) ∙ h)) in omega (arith, low)
