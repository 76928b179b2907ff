-- The flat machine's entry epochs of a TD, one virtual processor after the other.
use Rattle.std.proofs.Common.{◌≡◌, refl, sym, ◌∙◌, ap, ℕ, ◌+◌, ◌-◌, List, [], ◌∷◌, Contains, Option, Some, None, Bool, true, false, cond, ◌==◌, zero-add}
use Rattle.std.specs.List.{All}
use Rattle.std.proofs.lemmas.List.Elements.{All-nil, All-cons, Contains-push, Contains-append_left, Contains-append_right}
use Rattle.std.proofs.lemmas.List.Sums.{sum_by-cons}
use Rattle.flat_core.specs.Locks.{one_if}
use Rattle.flat_core.specs.Tracking.{entry_epochs, entered_at}
use Rattle.tlb_epochs.specs.Epochs.{IsNear, entered_before}
use Rattle.tlb_epochs.specs.Laws.{CountsTell}

by_entry : {A : Type 0} (o : Option ℕ) → (o ≡ None → A) → ((e : ℕ) → o ≡ Some e → A) → A
by_entry None outside inside = outside refl
by_entry (Some e) outside inside = inside e refl

near : (entered : ℕ → Option ℕ) (epoch : ℕ) (vs : List ℕ) → ((v e : ℕ) → Contains vs v → entered v ≡ Some e → IsNear epoch e)
    → All (IsNear epoch) (entry_epochs entered vs)
near entered epoch [] each = All-nil (IsNear epoch)
near entered epoch (v ∷ vs) each =
    let rest : All (IsNear epoch) (entry_epochs entered vs) = near entered epoch vs (λ x e has. each x e (Contains-append_right (v ∷ []) vs x has)) in
    by_entry (entered v)
    (λ outside. rw outside rest)
    (λ e inside. rw inside (All-cons (IsNear epoch) e (entry_epochs entered vs) (each v e (Contains-append_left (v ∷ []) vs v (Contains-push [] v)) inside) rest))

one : (b : Bool) → cond b 1 0 ≡ one_if b
one true = refl
one false = refl

count : (entered : ℕ → Option ℕ) (epoch : ℕ) (vs : List ℕ) → entered_before epoch (entry_epochs entered vs) ≡ entered_at entered (epoch - 1) vs
count entered epoch [] = refl
count entered epoch (v ∷ vs) =
    let rest : entered_before epoch (entry_epochs entered vs) ≡ entered_at entered (epoch - 1) vs = count entered epoch vs in
    by_entry (entered v)
    (λ outside. rw outside (rest ∙ sym (zero-add _)))
    (λ e inside. rw inside (sum_by-cons (λ x. cond (x == epoch - 1) 1 0) e (entry_epochs entered vs)
    ∙ ap (λ n. n + entered_before epoch (entry_epochs entered vs)) (one (e == epoch - 1)) ∙ ap (λ n. one_if (e == epoch - 1) + n) rest))

pub counts : CountsTell
counts = record {
  near = λ w t all. near w.vps.entered (w.tds.epochs t) (w.tds.vps t) all;
  count = λ w t. count w.vps.entered (w.tds.epochs t) (w.tds.vps t);
}
