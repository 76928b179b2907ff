-- A lock of a TD that doesn't stand is held by nobody, and nobody is being refused it, so its word is 0.
use Rattle.std.proofs.Common.{◌≡◌, ℕ, zero, suc, ◌+◌, ◌<◌, true, false, List, [], ◌∷◌, Option, Some, None, refl, ap, subst, arith}
use Rattle.std.proofs.lemmas.Bool.{eqb-true}
use Rattle.flat_core.specs.World.{World}
use Rattle.flat_core.specs.Processor.{LockId, OfPage, OfOp, OfTree, OfEpoch, OfRtmr, OfKeys, Held, Phase, Trying, Undoing, Answered, Guest}
use Rattle.flat_core.specs.Locks.{same_lock, is_alone, alone_in, shared_in, refused_in, guest_alone, guest_shared, guest_refused, alone_of, shared_of, refused_of, sum_below, holders, sharers, refusals}
use Rattle.flat_core.specs.Event.{State}
use Rattle.flat_core.proofs.Tests.{by_test}
use Rattle.word_rules.specs.Cells.{lock_word}
use Rattle.lock_words.specs.LockWords.{Stands, HeldStand, UndoStands, GuestStands, LocksStand}

same-is : (k l : LockId) → same_lock k l ≡ true → k ≡ l
same-is (OfPage p) (OfPage q) h = ap OfPage (eqb-true p q h)
same-is (OfOp p) (OfOp q) h = ap OfOp (eqb-true p q h)
same-is (OfTree p) (OfTree q) h = ap OfTree (eqb-true p q h)
same-is (OfEpoch p) (OfEpoch q) h = ap OfEpoch (eqb-true p q h)
same-is (OfRtmr p) (OfRtmr q) h = ap OfRtmr (eqb-true p q h)
same-is OfKeys OfKeys h = refl
same-is _ _ h = cc

module _ (w : World) (l : LockId) (gone : Stands w l → ⊥) where
  other : (k : LockId) → Stands w k → same_lock k l ≡ false
  other k h = by_test (same_lock k l) (λ y. absurd (gone (subst (Stands w) (same-is k l y) h))) (λ n. n)

  none-alone : (hs : List Held) → HeldStand w hs → alone_in l hs ≡ 0
  none-alone [] h = refl
  none-alone (x ∷ hs) h = by_test (is_alone x.mode) (λ y. rw (y, other x.lock h.0, none-alone hs h.1) refl) (λ n. rw (n, none-alone hs h.1) refl)

  none-shared : (hs : List Held) → HeldStand w hs → shared_in l hs ≡ 0
  none-shared [] h = refl
  none-shared (x ∷ hs) h = by_test (is_alone x.mode) (λ y. rw (y, none-shared hs h.1) refl) (λ n. rw (n, other x.lock h.0, none-shared hs h.1) refl)

  none-refused : {R : Type 0} (p : Phase R) → UndoStands w p → refused_in l p ≡ 0
  none-refused Trying h = refl
  none-refused (Undoing k) h = rw (other k h) refl
  none-refused (Answered r) h = refl

  no-guest-alone : (g : Option Guest) → GuestStands w g → guest_alone l g ≡ 0
  no-guest-alone None h = refl
  no-guest-alone (Some g) h = none-alone g.operation.held h.0

  no-guest-shared : (g : Option Guest) → GuestStands w g → guest_shared l g ≡ 0
  no-guest-shared None h = refl
  no-guest-shared (Some g) h = none-shared g.operation.held h.0

  no-guest-refused : (g : Option Guest) → GuestStands w g → guest_refused l g ≡ 0
  no-guest-refused None h = refl
  no-guest-refused (Some g) h = none-refused g.operation.phase h.1

  none-below : (f : ℕ → ℕ) (n : ℕ) → ((q : ℕ) → q < n → f q ≡ 0) → sum_below f n ≡ 0
  none-below f zero h = refl
  none-below f (suc n) h =
      let here : f n ≡ 0 = h n (omega arith) in
      let below : sum_below f n ≡ 0 = none-below f n (λ q small. h q (omega (arith, small))) in
      omega (arith, here, below)

  both : (a b : ℕ) → a ≡ 0 → b ≡ 0 → a + b ≡ 0
  both a b x y = omega (arith, x, y)

-- in a state where all that are held stand
pub unheld : (s : State) (l : LockId) → LocksStand s → (Stands s.world l → ⊥) → lock_word s.lps s.lp_count l ≡ 0
unheld s l stand gone =
    let a : holders s.lps s.lp_count l ≡ 0 = none-below s.world l gone (λ q. alone_of l (s.lps q)) s.lp_count
    (λ q small. both s.world l gone _ _ (none-alone s.world l gone (s.lps q).call.held (stand q small).0) (no-guest-alone s.world l gone (s.lps q).guest (stand q small).2)) in
    let b : sharers s.lps s.lp_count l ≡ 0 = none-below s.world l gone (λ q. shared_of l (s.lps q)) s.lp_count
    (λ q small. both s.world l gone _ _ (none-shared s.world l gone (s.lps q).call.held (stand q small).0) (no-guest-shared s.world l gone (s.lps q).guest (stand q small).2)) in
    let d : refusals s.lps s.lp_count l ≡ 0 = none-below s.world l gone (λ q. refused_of l (s.lps q)) s.lp_count
    (λ q small. both s.world l gone _ _ (none-refused s.world l gone (s.lps q).call.phase (stand q small).1) (no-guest-refused s.world l gone (s.lps q).guest (stand q small).2)) in
    rw (a, b, d) refl
