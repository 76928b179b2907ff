-- The lock words of a TD stay where they are while P of its TDR page is held.
use Rattle.std.proofs.Common.{◌≡◌, ◌⊎◌, refl, sym, ◌∙◌, ap, subst, inl, inr, ℕ, zero, suc, true, false, ◌==◌, List, [], ◌∷◌, length, arith}
use Rattle.std.specs.Prelude.{slice_index}
use Rattle.std.proofs.lemmas.Bool.{eq-eqb, eqb-true, ne_eqb}
use Rattle.td_words.specs.declared.names.PageKind.{PageKind}
use Rattle.td_words.specs.declared.names.PageKind.TheVariants as kind
use Rattle.td_words.specs.declared.places.TheConstants.{TDR_LIFE, TDCS_OP_LOCK}
use Rattle.td_words.specs.declared.names.LifeState.{LifeState}
use Rattle.td_words.specs.Place.{Word}
use Rattle.flat_core.specs.World.{World}
use Rattle.flat_core.specs.Processor.{OfPage}
use Rattle.flat_core.proofs.Tests.{by_test}
use Rattle.word_rules.specs.Guards.{Grip, Locked}
use Rattle.word_rules.specs.Rules.{Class, TdLock, TdrWord, Unused, UpperEntry, moves}
use Rattle.word_rules.specs.Views.{no_page}
use Rattle.word_rules.specs.Spots.{Spot, spot, page_spot, control_class, root_class, entry_class}
use Rattle.word_rules.specs.Permissions.{MayAt}
use Rattle.lock_words.specs.LockWords.{tdcs_of, TdLocksStay}
use Rattle.lock_words.proofs.Shown.{tdcs-page}

abbrev pub lock_spot : ℕ → ℕ → Spot
lock_spot t c = record { class = TdLock; td = t; page = c; named = no_page }

abbrev root_spot : ℕ → Spot
root_spot t = record { class = TdrWord; td = t; page = t; named = no_page }

-- before

first-class : (w : World) (t : ℕ) (cs : List ℕ) → (length cs == 0) ≡ false → control_class w t (slice_index cs 0) cs TDCS_OP_LOCK ≡ TdLock
first-class w t [] h = cc
first-class w t (c ∷ cs) h = rw (eq-eqb c c refl) refl

lock-spot : (w : World) (t c : ℕ) → w.pages.kinds c ≡ kind.Tdcx → w.pages.owners c ≡ t → control_class w t c (w.tds.controls t) TDCS_OP_LOCK ≡ TdLock → spot w (Word c TDCS_OP_LOCK) ≡ lock_spot t c
lock-spot w t c k o e = rw (k, o, e) refl

root-spot : (w : World) (t : ℕ) → w.pages.kinds t ≡ kind.Tdr → w.pages.owners t ≡ t → spot w (Word t TDR_LIFE) ≡ root_spot t
root-spot w t k o = rw (k, o) refl

-- afterwards

record IsFirst (w : World) (o c : ℕ) (k : PageKind) : Type 0 where
  kind_is : k ≡ kind.Tdcx
  rest : List ℕ
  controls : w.tds.controls o ≡ c ∷ rest

no-root-class : (c : ℕ) (rest : List ℕ) → root_class c rest ≡ TdLock → ⊥
no-root-class c [] h = cc
no-root-class c (r ∷ rest) h = by_test (r == c) (λ y. let z : UpperEntry ≡ TdLock = rw y at h in cc) (λ y. let z : Unused ≡ TdLock = rw y at h in cc)

no-entry-class : (w : World) (t level : ℕ) (k : Class) → (k ≡ TdLock) ⊎ (k ≡ TdrWord) → entry_class w t level ≡ k → ⊥
no-entry-class w t zero k (inl e) h = cc
no-entry-class w t (suc zero) k (inl e) h = cc
no-entry-class w t (suc (suc l)) k (inl e) h = cc
no-entry-class w t zero k (inr e) h = cc
no-entry-class w t (suc zero) k (inr e) h = cc
no-entry-class w t (suc (suc l)) k (inr e) h = cc

of-controls : (w : World) (o c : ℕ) (cs : List ℕ) → w.tds.controls o ≡ cs → control_class w o c cs TDCS_OP_LOCK ≡ TdLock → IsFirst w o c kind.Tdcx
of-controls w o c [] e h = cc
of-controls w o c (d ∷ rest) e h =
    by_test (d == c)
    (λ y. let is : d ≡ c = eqb-true d c y in record { kind_is = refl; rest = rest; controls = rw is at e })
    (λ n. absurd (no-root-class c rest (rw n at h)))

of-kind : (w : World) (o c : ℕ) (k : PageKind) → (page_spot w o c k TDCS_OP_LOCK).class ≡ TdLock → IsFirst w o c k
of-kind w o c kind.Tdcx h = of-controls w o c (w.tds.controls o) refl h
of-kind w o c kind.Ept h = absurd (no-entry-class w o (w.pages.levels c) TdLock (inl refl) h)
of-kind w o c kind.Nda h = cc
of-kind w o c kind.Reg h = cc
of-kind w o c kind.Tdr h = cc
of-kind w o c kind.Tdvpr h = cc
of-kind w o c kind.Migsc h = cc

td-of : (w : World) (o c i : ℕ) (k : PageKind) → k ≡ kind.Tdcx → (page_spot w o c k i).td ≡ o
td-of w o c i kind.Tdcx e = refl
td-of w o c i kind.Nda e = cc
td-of w o c i _ e = refl

no-control-root : (w : World) (o c : ℕ) (cs : List ℕ) → control_class w o c cs TDR_LIFE ≡ TdrWord → ⊥
no-control-root w o c [] h = cc
no-control-root w o c (d ∷ rest) h = by_test (d == c) (λ y. let z : TdLock ≡ TdrWord = rw y at h in cc) (λ n. later rest (rw n at h))
  where
    later : (rest : List ℕ) → root_class c rest ≡ TdrWord → ⊥
    later [] h = cc
    later (r ∷ rest) h = by_test (r == c) (λ y. let z : UpperEntry ≡ TdrWord = rw y at h in cc) (λ y. let z : Unused ≡ TdrWord = rw y at h in cc)

of-root : (w : World) (o c : ℕ) (k : PageKind) → (page_spot w o c k TDR_LIFE).class ≡ TdrWord → k ≡ kind.Tdr
of-root w o c kind.Tdr h = refl
of-root w o c kind.Tdcx h = absurd (no-control-root w o c (w.tds.controls o) h)
of-root w o c kind.Ept h = absurd (no-entry-class w o (w.pages.levels c) TdrWord (inr refl) h)
of-root w o c kind.Nda h = cc
of-root w o c kind.Reg h = cc
of-root w o c kind.Tdvpr h = cc
of-root w o c kind.Migsc h = cc

-- what moves words of those classes holds P of the TDR page alone

alone : (g : Grip) (t : ℕ) → g.sole (Locked (OfPage t)) ≡ false → g.sole (Locked (OfPage t)) ≡ true → ⊥
alone g t n y = let bad : true ≡ false = sym y ∙ n in cc

no-move : (g : Grip) (t : ℕ) (s : Spot) → g.sole (Locked (OfPage t)) ≡ false → (s ≡ lock_spot t s.page) ⊎ (s ≡ root_spot t) → MayAt g s moves → ⊥
no-move g t s n (inl e) m = by (subst (λ (z : Spot). MayAt g z moves) e m)
  where
    by : MayAt g (lock_spot t s.page) moves → ⊥
    by (inl x) = alone g t n x.0
    by (inr x) = x
no-move g t s n (inr e) m = by (subst (λ (z : Spot). MayAt g z moves) e m)
  where
    by : MayAt g (root_spot t) moves → ⊥
    by (inl x) = alone g t n x.0
    by (inr x) = x

stayed : (g : Grip) (t : ℕ) (s s' is : Spot) → g.sole (Locked (OfPage t)) ≡ false → s ≡ is → (is ≡ lock_spot t is.page) ⊎ (is ≡ root_spot t) → (s' ≡ s) ⊎ MayAt g s moves → s' ≡ is
stayed g t s s' is n e k (inl d) = d ∙ e
stayed g t s s' is n e k (inr m) = absurd (no-move g t is n k (subst (λ (z : Spot). MayAt g z moves) e m))

lived : (g : Grip) (t : ℕ) (a b : LifeState) → g.sole (Locked (OfPage t)) ≡ false → (b ≡ a) ⊎ (g.sole (Locked (OfPage t)) ≡ true) → b ≡ a
lived g t a b n (inl e) = e
lived g t a b n (inr y) = absurd (alone g t n y)

not-empty : (c : ℕ) (rest cs : List ℕ) → cs ≡ c ∷ rest → (length cs == 0) ≡ false
not-empty c rest cs e = rw e (ne_eqb (suc (length rest)) 0 (λ h. omega (arith, h)))

pub td-locks-stay : TdLocksStay
td-locks-stay m g w w' t la r n st =
    let c = tdcs_of w t in
    let p = tdcs-page m w t la st in
    let now : spot w' (Word c TDCS_OP_LOCK) ≡ lock_spot t c =
    stayed g t (spot w (Word c TDCS_OP_LOCK)) _ (lock_spot t c) n (lock-spot w t c p.kind p.owner (first-class w t (w.tds.controls t) st.has_tdcs)) (inl refl) (r.word (Word c TDCS_OP_LOCK)) in
    let root : spot w' (Word t TDR_LIFE) ≡ root_spot t =
    stayed g t (spot w (Word t TDR_LIFE)) _ (root_spot t) n (root-spot w t st.alive.kind (la.pages.tdr t st.alive.kind)) (inr refl) (r.word (Word t TDR_LIFE)) in
    let found = of-kind w' (w'.pages.owners c) c (w'.pages.kinds c) (ap (λ (s : Spot). s.class) now) in
    let owner : w'.pages.owners c ≡ t = sym (td-of w' (w'.pages.owners c) c TDCS_OP_LOCK (w'.pages.kinds c) found.kind_is) ∙ ap (λ (s : Spot). s.td) now in
    let controls : w'.tds.controls t ≡ c ∷ found.rest = subst (λ (z : ℕ). w'.tds.controls z ≡ c ∷ found.rest) owner found.controls in
    let life : w'.tds.lives t ≡ w.tds.lives t = lived g t (w.tds.lives t) (w'.tds.lives t) n (r.life t) in (
      ap (λ (z : List ℕ). slice_index z 0) controls,
      record {
        alive = record { kind = of-root w' (w'.pages.owners t) t (w'.pages.kinds t) (ap (λ (s : Spot). s.class) root); life = rw life st.alive.life };
        has_tdcs = not-empty c found.rest (w'.tds.controls t) controls;
      },
    )
