-- Four bundles in slots of their own.
use Rattle.std.proofs.Common.{◌≡◌, ◌≢◌, ◌≤◌, ℕ, [], ◌∷◌, length, All, arith}
use Rattle.std.proofs.lemmas.List.Elements.{All-nil, All-cons}
use Rattle.flat_core.specs.World.{Made}
use Rattle.bundle_texts.specs.Ordered.{FitContainer}
use Rattle.bundle_texts.proofs.Pairs.{pairs_nil, pairs_cons}

all_four : (P : Made → Type 0) (a b c d : Made) → P a → P b → P c → P d → All P (a ∷ b ∷ c ∷ d ∷ [])
all_four P a b c d pa pb pc pd =
    All-cons P a (b ∷ c ∷ d ∷ []) pa (All-cons P b (c ∷ d ∷ []) pb (All-cons P c (d ∷ []) pc (All-cons P d [] pd (All-nil P))))

pub record Slot (slot : ℕ) (m : Made) : Type 0 where
  pub here : m.slot ≡ slot
  pub small : length m.payload ≤ 512

pub fit_four : (a b c d : Made) → Slot 4095 a → Slot 7 b → Slot 300 c → Slot 0 d → FitContainer (a ∷ b ∷ c ∷ d ∷ [])
fit_four a b c d sa sb sc sd =
    let R : Made → Made → Type 0 = λ m n. m.slot ≢ n.slot in
    let ia : a.slot ≡ 4095 = sa.here in
    let ib : b.slot ≡ 7 = sb.here in
    let ic : c.slot ≡ 300 = sc.here in
    let id : d.slot ≡ 0 = sd.here in
    record {
      apart = pairs_cons R a (b ∷ c ∷ d ∷ [])
          (All-cons (R a) b (c ∷ d ∷ []) (λ e. omega (arith, ia, ib, e)) (All-cons (R a) c (d ∷ []) (λ e. omega (arith, ia, ic, e))
          (All-cons (R a) d [] (λ e. omega (arith, ia, id, e)) (All-nil (R a)))))
          (pairs_cons R b (c ∷ d ∷ [])
          (All-cons (R b) c (d ∷ []) (λ e. omega (arith, ib, ic, e)) (All-cons (R b) d [] (λ e. omega (arith, ib, id, e)) (All-nil (R b))))
          (pairs_cons R c (d ∷ []) (All-cons (R c) d [] (λ e. omega (arith, ic, id, e)) (All-nil (R c)))
          (pairs_cons R d [] (All-nil (R d)) (pairs_nil R))));
      slots = all_four (λ m. m.slot ≤ 4095) a b c d (omega (arith, ia)) (omega (arith, ib)) (omega (arith, ic)) (omega (arith, id));
      pages = all_four (λ m. length m.payload ≤ 512) a b c d sa.small sb.small sc.small sd.small;
    }
