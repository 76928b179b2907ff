-- A TD stands where its row's beginning passes; and events at the start of a run.
use Rattle.std.proofs.Common.{◌≡◌, refl, ℕ, true, false, ◌==◌, length, arith}
use Rattle.std.specs.Prelude.{[], ◌∷◌}
use Rattle.std.specs.List.{list_any}
use Rattle.std.proofs.lemmas.Bool.{eqb-true}
use Rattle.td_words.specs.declared.names.PageKind.TheVariants as kind
use Rattle.td_words.specs.declared.names.LifeState.TheVariants as life
use Rattle.td_words.specs.NameNumber.{life_number}
use Rattle.flat_core.specs.World.{World}
use Rattle.flat_core.specs.Conditions.{same_kind}
use Rattle.flat_core.specs.Locks.{shared_of, refused_of}
use Rattle.flat_core.proofs.Tests.{tdr_kind}
use Rattle.flat_core.proofs.Blind.{is_living}
use Rattle.flat_core.proofs.LockLaw.{sum_none}
use Rattle.lock_words.specs.LockWords.{TdStands, HeadsStand, StartFollows}

two-controls : (n : ℕ) → (n == 2) ≡ true → (n == 0) ≡ false
two-controls n h = let e : n ≡ 2 = eqb-true n 2 h in rw e refl

-- its TDR page, its life, and its two TDCX pages
pub td-stands : (w : World) (t : ℕ) → same_kind (w.pages.kinds t) kind.Tdr ≡ true → list_any (λ s. life_number s == life_number (w.tds.lives t)) (life.KeysConfigured ∷ []) ≡ true → (length (w.tds.controls t) == 2) ≡ true
    → TdStands w t
td-stands w t root alive count = record {
  alive = record { kind = tdr_kind (w.pages.kinds t) root; life = is_living (w.tds.lives t) alive };
  has_tdcs = two-controls (length (w.tds.controls t)) count;
}

pub heads-stand : HeadsStand
heads-stand w t mode allowed h = td-stands w t h.0 h.1.0 h.1.1.0

pub start-follows : StartFollows
start-follows = record {
  next = λ o ws p c cs lt e. record { processor = lt; next = rw e refl; lets_go = tt };
  few = λ o ws l. let n = length o.calls in let a = sum_none (shared_of l) n refl in let b = sum_none (refused_of l) n refl in omega (arith, a, b);
}
