-- What a guest may do at a word of a page that its cached translations reach; and a word of a private page that it stores shows
-- its act.
use Rattle.std.proofs.Common.{◌≡◌, ℕ, ◌<◌, Bool, true, false, not, ◌==◌, ◌||◌, ◌&&◌, List, [], ◌∷◌, Option, Some, refl, ap, ◌∙◌}
use Rattle.std.specs.List.{list_any}
use Rattle.std.proofs.lemmas.Bool.{eq-eqb, and_parts}
use Rattle.td_words.specs.declared.names.Access.{Access}
use Rattle.td_words.specs.declared.names.PageKind.TheVariants as kind
use Rattle.td_words.specs.declared.machines.Machine.{Machine}
use Rattle.td_words.specs.Place.{WordPlace}
use Rattle.td_words.specs.Place as place
use Rattle.flat_core.specs.Processor.{Translation, Guest}
use Rattle.flat_core.specs.Effects.{set_word, store_memory}
use Rattle.flat_core.specs.Translations.{look_up, is_of_page, allows_access}
use Rattle.flat_core.specs.Event.{State}
use Rattle.flat_core.proofs.Tests.{by_test}
use Rattle.word_rules.specs.Cells.{Shows}
use Rattle.lock_words.specs.Grips.{is_usable_at, reaches, reaches_as}
use Rattle.lock_words.specs.LockWords.{put_word}
use Rattle.leaf_engine.specs.Means.{Instant, IsInGuest}
use Rattle.leaf_parts.proofs.Aside.{aside, back, kept-but, control-kept}

-- a translation that is found is usable, and lets write where whatever allows the access does
module _ (t n page : ℕ) (access : Access) (must : Bool) (may : (c : Translation) → allows_access access c ≡ true → (not must || c.may_write) ≡ true) where
  or-last : (a : Bool) {b : Bool} → b ≡ true → (a || b) ≡ true
  or-last true e = refl
  or-last false e = e

  here : (c : Translation) → Some c.page ≡ Some page → (is_of_page t n c && allows_access access c) ≡ true → is_usable_at t page must c ≡ true
  here c is y =
      let both = and_parts (is_of_page t n c) (allows_access access c) y in
      let its = and_parts (c.tdr == t) (c.gpa_page == n) both.0 in
      let page_is : c.page ≡ page = cc in
      let same : (c.page == page) ≡ true = eq-eqb c.page page page_is in
      let allowed : (not must || c.may_write) ≡ true = may c both.1 in rw (its.0, same, allowed) refl

  pub found-usable : (cs : List Translation) → look_up cs t n access ≡ Some page → list_any (is_usable_at t page must) cs ≡ true
  found-usable [] e = cc
  found-usable (c ∷ cs) e = by_test (is_of_page t n c && allows_access access c)
      (λ y. (let usable : is_usable_at t page must c ≡ true = here c (rw y at e) y in rw usable refl))
      (λ y. or-last (is_usable_at t page must c) (found-usable cs (rw y at e)))

  -- so the guest that is in reaches its page
  pub guest-reaches : (c : Instant) (v : ℕ) (g : Guest) → IsInGuest c t v g → look_up (c.state.lps c.me).cached t n access ≡ Some page → reaches (c.state.lps c.me) page must ≡ true
  guest-reaches c v g is found =
      ap (λ (x : Option Guest). reaches_as x page must (c.state.lps c.me).cached) is.guest
      ∙ (ap (λ (u : ℕ). list_any (is_usable_at u page must) (c.state.lps c.me).cached) is.td ∙ found-usable (c.state.lps c.me).cached found)

-- a word that is stored in a private page, which its guest knows then
pub private-shown : (m : Machine) (words : WordPlace → ℕ) (slots : ℕ → Option (List ℕ)) (s : State) (t n page i x : ℕ) → page < m.pages → Shows m words slots s → s.world.pages.kinds page ≡ kind.Reg
    → Shows m (put_word words (place.Word page i) x) slots (record s { world = store_memory t n i x (set_word page i x s.world) })
private-shown m words slots s t n page i x in_page sh reg = record {
  word = back (kept-but (store_memory t n i x (set_word page i x s.world)) (aside page m words s sh.word) (record {
    kinds = refl;
    owners = refl;
    blocked = refl;
    key_table = refl;
    page = λ q o d. record {
      words = λ j. rw o refl;
      tdr = λ is j. refl;
      owned = λ h. record { stands = λ z. z; level = refl; number = refl; entries = λ l e. refl; vp = λ j. refl; stream = λ j. refl; control = λ is z. control-kept refl (λ l e. refl) (λ f j. refl) };
    };
  })) (put_word words (place.Word page i) x) (λ r. refl) (λ r. refl) (λ k. refl) (λ r j o. rw o refl)
      (λ j b. (let was : words (place.Word page j) ≡ s.world.words page j = rw reg at (sh.word (place.Word page j) (in_page, b)) in rw (reg, was) refl));
  hasher = sh.hasher;
}
