-- The locks that the calls of virtual processors hold behind the beginnings of their rows, and at their ends.
use Rattle.std.proofs.Common.{◌≡◌, ℕ, true, false, ◌==◌, List, [], ◌∷◌, ◌++◌, refl}
use Rattle.std.proofs.lemmas.Bool.{eq-eqb}
use Rattle.td_words.specs.declared.names.Mode.{Mode}
use Rattle.td_words.specs.declared.names.Mode.TheVariants.{Shared, Exclusive}
use Rattle.flat_core.specs.Processor.{OfPage, OfOp, Held}
use Rattle.lock_words.specs.Grips.{holds, holds_alone}
use Rattle.leaf_parts.proofs.Begun.{page_lock, op_lock}

-- behind the beginning: P of the TDR page and O; and at the end P of the page besides
abbrev pub td_locks : ℕ → Mode → List Held
td_locks t mode = op_lock t mode ∷ page_lock t Shared ∷ []

abbrev pub page_locks : (t p : ℕ) → Mode → List Held
page_locks t p mode = page_lock p Exclusive ∷ td_locks t mode

module _ (t p : ℕ) (mode : Mode) (kept : List Held) (other : (p == t) ≡ false) where
  pub td-held : holds (td_locks t mode ++ kept) (OfPage t) ≡ true
  td-held = rw (eq-eqb t t refl) refl

  pub op-held : holds (td_locks t mode ++ kept) (OfOp t) ≡ true
  op-held = rw (eq-eqb t t refl) refl

  pub held-td : holds (page_locks t p mode ++ kept) (OfPage t) ≡ true
  held-td = rw (other, eq-eqb t t refl) refl

  pub held-op : holds (page_locks t p mode ++ kept) (OfOp t) ≡ true
  held-op = rw (eq-eqb t t refl) refl

  pub held-page : holds (page_locks t p mode ++ kept) (OfPage p) ≡ true
  held-page = rw (eq-eqb p p refl) refl

  pub alone-page : holds_alone (page_locks t p mode ++ kept) (OfPage p) ≡ true
  alone-page = rw (eq-eqb p p refl) refl

pub op-alone : (t : ℕ) (kept : List Held) → holds_alone (td_locks t Exclusive ++ kept) (OfOp t) ≡ true
op-alone t kept = rw (eq-eqb t t refl) refl

pub alone-op : (t p : ℕ) (kept : List Held) → holds_alone (page_locks t p Exclusive ++ kept) (OfOp t) ≡ true
alone-op t p kept = rw (eq-eqb t t refl) refl
