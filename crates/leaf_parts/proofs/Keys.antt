-- The words of HKIDs in the key table.
use Rattle.std.proofs.Common.{◌≡◌, ℕ, suc, ◌+◌, ◌-◌, ◌<◌, ◌≤◌, true, false, ◌==◌, if◌then◌else◌, List, Option, Some, refl, sym, subst, arith}
use Rattle.std.proofs.lemmas.Bool.{eqb-true, ne_eqb}
use Rattle.std.proofs.lemmas.Bool.Decides.{nat_tests}
use Rattle.td_words.specs.declared.machines.Machine.{Machine}
use Rattle.td_words.specs.Packing.{key_word}
use Rattle.td_words.specs.Place.{WordPlace}
use Rattle.td_words.specs.Place as place
use Rattle.flat_core.specs.World.{World}
use Rattle.flat_core.specs.Event.{State}
use Rattle.flat_core.proofs.Tests.{by_test}
use Rattle.word_rules.specs.Cells.{Shows, IsAs, key_cell}
use Rattle.leaf_engine.specs.Means.{IsHkid}
use Rattle.leaf_parts.specs.Words.{is_hkid}

pub hkid-in : (m : Machine) (h : ℕ) → IsHkid m h → is_hkid m h ≡ true
hkid-in m h i = grind (arith, nat_tests)

-- none is one of the three words that the table begins with
pub key-apart : (h n : ℕ) → n < 3 → (3 + (h - 1) == n) ≡ false
key-apart h n few = ne_eqb (3 + (h - 1)) n (λ e. absurd (omega (arith, few, e)))

pub key-here : (w : World) (lock h : ℕ) → 1 ≤ h → key_cell w lock (3 + (h - 1)) ≡ Some (key_word (w.key_table.keys h))
key-here w lock h first =
    let it : suc (3 + (h - 1) - 3) ≡ h = omega (arith, first) in
    rw (key-apart h 0 (omega arith), key-apart h 1 (omega arith), key-apart h 2 (omega arith), it) refl

pub key-shown : (m : Machine) (words : WordPlace → ℕ) (slots : ℕ → Option (List ℕ)) (s : State) (h : ℕ) → Shows m words slots s → IsHkid m h → words (place.Key (3 + (h - 1))) ≡ key_word (s.world.key_table.keys h)
key-shown m words slots s h sh i = rw (key-here s.world _ h i.0) at (sh.word (place.Key (3 + (h - 1))) (let first = i.0 in let last = i.1 in omega (arith, first, last)))

-- where the key of one HKID changes, its word does, and no other
module _ (w w' : World) (h : ℕ) (first : 1 ≤ h) (keys : (j : ℕ) → (j == h) ≡ false → w'.key_table.keys j ≡ w.key_table.keys j) (exported : w'.key_table.last_exported ≡ w.key_table.last_exported) (imported : w'.key_table.last_imported ≡ w.key_table.last_imported) where
  another : (k : ℕ) → (k == 0) ≡ false → (k == 1) ≡ false → (k == 2) ≡ false → (k == 3 + (h - 1)) ≡ false → (suc (k - 3) == h) ≡ false
  another k a b c n = grind (arith, nat_tests, first)

  key-there : (lock k : ℕ) → (k == 3 + (h - 1)) ≡ false → key_cell w' lock k ≡ key_cell w lock k
  key-there lock k n = by_test (k == 0) (λ z. rw z refl)
      (λ a. by_test (k == 1) (λ z. rw (a, z, exported) refl)
      (λ b. by_test (k == 2) (λ z. rw (a, b, z, imported) refl)
      (λ c. rw (a, b, c, keys (suc (k - 3)) (another k a b c n)) refl)))

  pub key-changed : (lock k x : ℕ) → IsAs (key_cell w lock k) x → IsAs (key_cell w' lock k) (if k == 3 + (h - 1) then key_word (w'.key_table.keys h) else x)
  key-changed lock k x was = by_test (k == 3 + (h - 1))
      (λ e. rw e (subst (λ (j : ℕ). IsAs (key_cell w' lock j) (key_word (w'.key_table.keys h))) (sym (eqb-true k (3 + (h - 1)) e)) (rw (key-here w' lock h first) refl)))
      (λ n. rw n (subst (λ (c : Option ℕ). IsAs c x) (sym (key-there lock k n)) was))
