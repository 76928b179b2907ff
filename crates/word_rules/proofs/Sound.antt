-- Two rules that clash are never met by two processors.
use Rattle.std.proofs.Common.{◌≡◌, refl, inl, inr, true, List, [], ◌∷◌}
use Rattle.std.proofs.lemmas.Bool.{or_cases, and_parts}
use Rattle.word_rules.specs.Guards.{Guard, Role, Tdr, Op, Tree, Epoch, Rtmr, Own, Named, Keys, Reach, Change, Want, Has, Sole, Clear, Rule, Grip, Apart, MeetsWant, MeetsAll, Meets, same_role, clash, clash_any, clash_lists, clash_each, clashes}

pub same-true : (a b : Role) → same_role a b ≡ true → a ≡ b
same-true Tdr Tdr h = refl
same-true Op Op h = refl
same-true Tree Tree h = refl
same-true Epoch Epoch h = refl
same-true Rtmr Rtmr h = refl
same-true Own Own h = refl
same-true Named Named h = refl
same-true Keys Keys h = refl
same-true Reach Reach h = refl
same-true Change Change h = refl
same-true _ _ h = cc

clash-sound : (g h : Grip) (at : Role → Guard) (a b : Want) → Apart g h → clash a b ≡ true → MeetsWant g at a → MeetsWant h at b → ⊥
clash-sound g h at (Sole a) (Has b) p e x y = p.there.sole (at a) x (rw (same-true a b e) y)
clash-sound g h at (Has a) (Sole b) p e x y = p.back.sole (at a) (rw (same-true a b e) y) x
clash-sound g h at (Sole a) (Sole b) p e x y = p.there.both (at a) x (rw (same-true a b e) y)
clash-sound g h at (Clear a) (Has b) p e x y = p.there.clear (at a) x (rw (same-true a b e) y)
clash-sound g h at (Has a) (Clear b) p e x y = p.back.clear (at a) (rw (same-true a b e) y) x
clash-sound g h at (Sole a) (Clear b) p e x y = cc
clash-sound g h at (Clear a) (Sole b) p e x y = cc
clash-sound g h at (Clear a) (Clear b) p e x y = cc
clash-sound g h at (Has a) (Has b) p e x y = cc

any-sound : (g h : Grip) (at : Role → Guard) (a : Want) (bs : List Want) → Apart g h → clash_any a bs ≡ true → MeetsWant g at a → MeetsAll h at bs → ⊥
any-sound g h at a [] p e x y = cc
any-sound g h at a (b ∷ bs) p e x y =
    elim (or_cases (clash a b) _ e) [ inl c ↦ clash-sound g h at a b p c x y.0 | inr c ↦ any-sound g h at a bs p c x y.1 ]

lists-sound : (g h : Grip) (at : Role → Guard) (xs bs : List Want) → Apart g h → clash_lists xs bs ≡ true → MeetsAll g at xs → MeetsAll h at bs → ⊥
lists-sound g h at [] bs p e x y = cc
lists-sound g h at (a ∷ xs) bs p e x y =
    elim (or_cases (clash_any a bs) _ e) [ inl c ↦ any-sound g h at a bs p c x.0 y | inr c ↦ lists-sound g h at xs bs p c x.1 y ]

each-sound : (g h : Grip) (at : Role → Guard) (xs : List Want) (r : Rule) → Apart g h → clash_each xs r ≡ true → MeetsAll g at xs → Meets h at r → ⊥
each-sound g h at xs [] p e x y = absurd y
each-sound g h at xs (b ∷ r) p e x (inl y) = lists-sound g h at xs b p (and_parts (clash_lists xs b) (clash_each xs r) e).0 x y
each-sound g h at xs (b ∷ r) p e x (inr y) = each-sound g h at xs r p (and_parts (clash_lists xs b) (clash_each xs r) e).1 x y

pub clashes-sound : (g h : Grip) (at : Role → Guard) (r s : Rule) → Apart g h → clashes r s ≡ true → Meets g at r → Meets h at s → ⊥
clashes-sound g h at [] s p e x y = absurd x
clashes-sound g h at (a ∷ r) s p e (inl x) y = each-sound g h at a s p (and_parts (clash_each a s) (clashes r s) e).0 x y
clashes-sound g h at (a ∷ r) s p e (inr x) y = clashes-sound g h at r s p (and_parts (clash_each a s) (clashes r s) e).1 x y
