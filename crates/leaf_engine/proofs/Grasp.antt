-- What a processor has of the guards goes by the locks that it holds, in whatever order.
use Rattle.std.proofs.Common.{◌≡◌, ℕ, Bool, true, false, ◌&&◌, ◌||◌, List, ◌++◌, refl, ap, sym, ◌∙◌}
use Rattle.std.specs.List.{list_any}
use Rattle.std.proofs.lemmas.List.Folds.{list_any-append}
use Rattle.flat_core.specs.Processor.{Held, Lp}
use Rattle.flat_core.specs.Locks.{same_lock, is_alone}
use Rattle.flat_core.specs.Event.{State}
use Rattle.word_rules.specs.Guards.{Guard, Locked, Reached, Written}
use Rattle.lock_words.specs.Grips.{has_of, lock_has, sole_of, clear_of, grip_with, lock_grip, grip_of, locks_of}

either-way : (a b : Bool) → (a || b) ≡ (b || a)
either-way true true = refl
either-way true false = refl
either-way false true = refl
either-way false false = refl

any-way : (f : Held → Bool) (xs ys : List Held) → list_any f (xs ++ ys) ≡ list_any f (ys ++ xs)
any-way f xs ys = list_any-append f xs ys ∙ (either-way (list_any f xs) (list_any f ys) ∙ sym (list_any-append f ys xs))

module _ (lp : Lp) (xs ys : List Held) where
  has-way : (g : Guard) → has_of lp (xs ++ ys) g ≡ has_of lp (ys ++ xs) g
  has-way (Locked l) = any-way (λ h. same_lock h.lock l) xs ys
  has-way (Reached p) = refl
  has-way (Written p) = refl

  lock-way : (g : Guard) → lock_has (xs ++ ys) g ≡ lock_has (ys ++ xs) g
  lock-way (Locked l) = any-way (λ h. same_lock h.lock l) xs ys
  lock-way (Reached p) = refl
  lock-way (Written p) = refl

  sole-way : (g : Guard) → sole_of (xs ++ ys) g ≡ sole_of (ys ++ xs) g
  sole-way (Locked l) = any-way (λ h. is_alone h.mode && same_lock h.lock l) xs ys
  sole-way (Reached p) = refl
  sole-way (Written p) = refl

pub grasp-is : (s : State) (p : ℕ) (kept held : List Held) → locks_of (s.lps p) ≡ kept ++ held → grip_with s p (held ++ kept) ≡ grip_of s p
grasp-is s p kept held e =
    (λ i. record { has = λ g. has-way (s.lps p) held kept g i; sole = λ g. sole-way (s.lps p) held kept g i; clear = clear_of s p }) ∙ ap (grip_with s p) (sym e)

pub hold-is : (s : State) (p : ℕ) (kept held : List Held) → locks_of (s.lps p) ≡ kept ++ held → lock_grip (held ++ kept) ≡ lock_grip (locks_of (s.lps p))
hold-is s p kept held e =
    (λ i. record { has = λ g. lock-way (s.lps p) held kept g i; sole = λ g. sole-way (s.lps p) held kept g i; clear = λ x. false }) ∙ ap lock_grip (sym e)
