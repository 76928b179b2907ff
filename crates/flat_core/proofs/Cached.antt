-- Lists of cached translations: the one that was cached last is found, one that is found is in the list, and what each
-- change leaves in the list was in it.
use Rattle.std.proofs.Common.{◌≡◌, ◌⊎◌, inl, inr, refl, ◌∙◌, ℕ, zero, suc, List, [], ◌∷◌, ◌++◌, drop, filter, Some, Bool, true, false, not, ◌==◌, ◌&&◌, arith}
use Rattle.std.specs.Prelude.{Contains}
use Rattle.std.proofs.lemmas.Bool.{eq-eqb, eqb-true, and_parts}
use Rattle.std.proofs.lemmas.List.Elements.{All-drop, All-filter, All-contains, All-contains_itself, filter_passes, Contains-push_cases}
use Rattle.td_words.specs.declared.names.EntryState.{EntryState}
use Rattle.td_words.specs.declared.names.Access.{Access}
use Rattle.td_words.specs.declared.names.Access.TheVariants.{Read, Write}
use Rattle.flat_core.specs.Processor.{Translation}
use Rattle.flat_core.specs.Tree.{allows, may_write}
use Rattle.flat_core.specs.Translations.{is_of_page, allows_access, look_up, cache, drop_td}
use Rattle.flat_core.proofs.Tests.{by_test}

abbrev others : ℕ → ℕ → List Translation → List Translation
others t g cs = filter (λ x. not (is_of_page t g x)) cs

skip-others : (t g : ℕ) (access : Access) (cs ds : List Translation) → look_up (others t g cs ++ ds) t g access ≡ look_up ds t g access
skip-others t g access [] ds = refl
skip-others t g access (c ∷ cs) ds = by_test (is_of_page t g c)
    (λ y. rw y (skip-others t g access cs ds))
    (λ n. rw (n, n) (skip-others t g access cs ds))

-- the same of any of its tails
tail-others : (t g k : ℕ) (access : Access) (cs ds : List Translation) → look_up (drop k (others t g cs) ++ ds) t g access ≡ look_up ds t g access
tail-others t g zero access cs ds = skip-others t g access cs ds
tail-others t g (suc k) access [] ds = refl
tail-others t g (suc k) access (c ∷ cs) ds = by_test (is_of_page t g c)
    (λ y. rw y (tail-others t g (suc k) access cs ds))
    (λ n. rw n (tail-others t g k access cs ds))

pub cached_found : (c : Translation) (cs : List Translation) (access : Access) → allows_access access c ≡ true → look_up (cache c cs) c.tdr c.gpa_page access ≡ Some c.page
cached_found c cs access h =
    tail-others c.tdr c.gpa_page _ access cs (c ∷ [])
    ∙ (let a = eq-eqb c.tdr c.tdr refl in let b = eq-eqb c.gpa_page c.gpa_page refl in rw (a, b, h) refl)

-- an entry of level 0 that allows an access gives a translation that does
pub allowed_cached : (access : Access) (s : EntryState) (c : Translation) → c.may_write ≡ may_write s → allows s access ≡ true → allows_access access c ≡ true
allowed_cached Read s c e h = refl
allowed_cached Write s c e h = e ∙ h

-- one that is found is in the list, and is of that TD and GPA page
pub found_in : (cs : List Translation) (t n : ℕ) (access : Access) (page : ℕ) → look_up cs t n access ≡ Some page → (c : Translation) × Contains cs c × (c.tdr ≡ t) × (c.gpa_page ≡ n) × (c.page ≡ page)
found_in [] t n access page e = cc
found_in (c ∷ cs) t n access page e = by_test (is_of_page t n c && allows_access access c)
    (λ y. let a = and_parts (is_of_page t n c) (allows_access access c) y in let b = and_parts (c.tdr == t) (c.gpa_page == n) a.0 in
    let at : Some c.page ≡ Some page = rw y at e in
    (c, (0, omega arith, refl), eqb-true _ t b.0, eqb-true _ n b.1, cc))
    (λ y. let r = found_in cs t n access page (rw y at e) in let i = r.1 in let low = i.1 in (r.0, (suc i.0, omega (arith, low), i.2), r.2, r.3, r.4))

-- what is left of a list was in it

left_of_filter : (f : Translation → Bool) (cs : List Translation) (c : Translation) → Contains (filter f cs) c → Contains cs c
left_of_filter f cs c = All-contains (Contains cs) (filter f cs) c (All-filter f (Contains cs) cs (All-contains_itself cs))

left_of_drop : (n : ℕ) (cs : List Translation) (c : Translation) → Contains (drop n cs) c → Contains cs c
left_of_drop n cs c = All-contains (Contains cs) (drop n cs) c (All-drop (Contains cs) n cs (All-contains_itself cs))

-- and of those of other TDs none is the TD's
pub dropped : (t : ℕ) (cs : List Translation) (c : Translation) → Contains (drop_td t cs) c → Contains cs c × ((c.tdr == t) ≡ false)
dropped t cs c h = (
  left_of_filter (λ x. not (x.tdr == t)) cs c h,
  by_test (c.tdr == t)
      (λ y. let kept : not (c.tdr == t) ≡ true = All-contains (λ x. not (x.tdr == t) ≡ true) (drop_td t cs) c (filter_passes (λ x. not (x.tdr == t)) cs) h in let no : false ≡ true = rw y at kept in cc)
      (λ n. n),
)

-- once one more is cached there is that one besides
pub one_more : (x : Translation) (cs : List Translation) (c : Translation) → Contains (cache x cs) c → Contains cs c ⊎ (x ≡ c)
one_more x cs c h = elim (Contains-push_cases _ x c h) [
  | inl a ↦ inl (left_of_filter (λ y. not (is_of_page x.tdr x.gpa_page y)) cs c (left_of_drop _ (others x.tdr x.gpa_page cs) c a))
  | inr b ↦ inr b
]
