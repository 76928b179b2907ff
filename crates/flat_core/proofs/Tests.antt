-- Tests and what they tell.
use Rattle.std.proofs.Common.{◌≡◌, ◌≢◌, refl, sym, ◌∙◌, ap, ℕ, ◌≤◌, Some, Bool, true, false, ◌==◌, ◌&&◌, nat_le, arith}
use Rattle.std.proofs.lemmas.Bool.{eq-eqb, eqb-true}
use Rattle.std.proofs.lemmas.Bool.Decides.{nat_tests}
use Rattle.td_words.specs.declared.names.PageKind.{PageKind}
use Rattle.td_words.specs.declared.names.PageKind.TheVariants as kind
use Rattle.flat_core.specs.Conditions.{same_kind, is_host_in}
use Rattle.flat_core.specs.World.{World, put}

pub by_test : {A : Type 0} (b : Bool) → (b ≡ true → A) → (b ≡ false → A) → A
by_test true t f = t refl
by_test false t f = f refl

pub host_kind : (k : PageKind) → same_kind k kind.Nda ≡ true → k ≡ kind.Nda
host_kind kind.Nda h = refl
host_kind _ h = cc

pub tdr_kind : (k : PageKind) → same_kind k kind.Tdr ≡ true → k ≡ kind.Tdr
tdr_kind kind.Tdr h = refl
tdr_kind kind.Nda h = cc
tdr_kind _ h = cc

pub kind_owned : (k : PageKind) → k ≢ kind.Nda → same_kind k kind.Nda ≡ false
kind_owned kind.Nda h = absurd (h refl)
kind_owned _ h = refl

pub range_of : (h n : ℕ) → (nat_le 1 h && nat_le h n) ≡ true → (1 ≤ h) × (h ≤ n)
range_of h n e = (grind (arith, nat_tests), grind (arith, nat_tests))

pub some_same : (a b : ℕ) → Some a ≡ Some b → a ≡ b
some_same a b e = cc

pub same_self : (n : ℕ) → (n == n) ≡ true
same_self n = eq-eqb n n refl

pub put_here : {A : Type 0} (f : ℕ → A) (p : ℕ) (x : A) → put f p x p ≡ x
put_here f p x = rw (same_self p) refl

-- a page that isn't the host's is another one than the host's
pub host_apart : (w : World) (q p : ℕ) → is_host_in w.pages q ≡ true → is_host_in w.pages p ≡ false → (p == q) ≡ false
host_apart w q p host owned = by_test (p == q)
    (λ y. absurd (let no : true ≡ false = sym host ∙ (ap (is_host_in w.pages) (sym (eqb-true p q y)) ∙ owned) in cc))
    (λ n. n)
