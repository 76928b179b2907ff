-- The hashers in the slots of HKIDs, where what is measured of one TD changes.
use Rattle.std.proofs.Common.{◌≡◌, ℕ, true, false, ◌==◌, List, [], ◌∷◌, Option, Some, None, refl, ap, sym, ◌∙◌, subst}
use Rattle.std.proofs.lemmas.Bool.{eq-eqb, eqb-true}
use Rattle.td_words.specs.declared.names.OpState.{OpState}
use Rattle.td_words.specs.declared.names.OpState.TheVariants as op
use Rattle.td_words.specs.declared.machines.Machine.{Machine}
use Rattle.flat_core.specs.World.{World}
use Rattle.flat_core.specs.Lawful.{Lawful, IsAlive, key_owner}
use Rattle.flat_core.proofs.Tests.{by_test}
use Rattle.word_rules.specs.Cells.{IsAs, built_hasher, hasher_cell}
use Rattle.leaf_engine.specs.Changes.{Hand}
use Rattle.leaf_parts.proofs.Begun.{IsTd}
use Rattle.leaf_parts.proofs.Told.{only-op}

-- what is in every slot is what is shown of it
abbrev pub AllHashers : (ℕ → Hand) → World → Type 0
AllHashers slots w = (h : ℕ) → IsAs (hasher_cell w h) (slots h)

-- while a TD is built, its hasher is in its HKID's slot
abbrev pub initialized : List OpState
initialized = op.Initialized ∷ []

pub hasher-told : (m : Machine) (w : World) (t : ℕ) (slots : ℕ → Hand) → AllHashers slots w → Lawful m w → IsTd m w t initialized → slots (w.tds.hkids t) ≡ Some (w.tds.measured t)
hasher-told m w t slots sh la x = rw (la.keys.owner t x.alive, x.configured, only-op op.Initialized (w.tds.ops t) x.op) at (sh (w.tds.hkids t))

-- an act that keeps the hashers of other TDs
module _ (m : Machine) (w w' : World) (t : ℕ) (slots slots' : ℕ → Hand) (la : Lawful m w) (alive : IsAlive w.pages w.tds t) (table : w'.key_table ≡ w.key_table) (others : (u : ℕ) → (u == t) ≡ false → built_hasher w' (Some u) ≡ built_hasher w (Some u))
    (there : (k : ℕ) → (k == w.tds.hkids t) ≡ false → slots' k ≡ slots k) where
  other-hasher : (o : Option ℕ) (x : Hand) → ((u : ℕ) → o ≡ Some u → (u == t) ≡ false) → IsAs (built_hasher w o) x → IsAs (built_hasher w' o) x
  other-hasher None x n a = tt
  other-hasher (Some u) x n a = subst (λ (c : Option Hand). IsAs c x) (sym (others u (n u refl))) a

  other-owner : (k : ℕ) → (k == w.tds.hkids t) ≡ false → (u : ℕ) → key_owner (w.key_table.keys k) ≡ Some u → (u == t) ≡ false
  other-owner k n u e = by_test (u == t)
      (λ y. absurd (let its : w.tds.hkids u ≡ k = (la.keys.owned k u e).1 in
      let no : true ≡ false = sym (eq-eqb k (w.tds.hkids t) (sym its ∙ ap w.tds.hkids (eqb-true u t y))) ∙ n in cc))
      (λ d. d)

  same-owner : (k : ℕ) → key_owner (w'.key_table.keys k) ≡ key_owner (w.key_table.keys k)
  same-owner k = rw table refl

  pub hashers-but : IsAs (built_hasher w' (Some t)) (slots' (w.tds.hkids t)) → AllHashers slots w → AllHashers slots' w'
  hashers-but its sh k = subst (λ (o : Option ℕ). IsAs (built_hasher w' o) (slots' k)) (sym (same-owner k)) (by_test (k == w.tds.hkids t)
      (λ y. subst (λ (j : ℕ). IsAs (built_hasher w' (key_owner (w.key_table.keys j))) (slots' j)) (sym (eqb-true k (w.tds.hkids t) y))
      (subst (λ (o : Option ℕ). IsAs (built_hasher w' o) (slots' (w.tds.hkids t))) (sym (la.keys.owner t alive)) its))
      (λ n. subst (λ (x : Hand). IsAs (built_hasher w' (key_owner (w.key_table.keys k))) x) (sym (there k n)) (other-hasher (key_owner (w.key_table.keys k)) (slots k) (other-owner k n) (sh k))))
