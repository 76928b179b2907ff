-- Whether a block is tracked, and the counts of entries, by the words that leaves are told.
use Rattle.std.proofs.Common.{◌≡◌, refl, sym, ap, ◌∙◌, subst, ℕ, zero, suc, ◌+◌, ◌-◌, ◌<◌, ◌%◌, Bool, true, false, ◌==◌, nat_lt, if◌then◌else◌, cond, List, replicate, arith}
use Rattle.std.specs.List.{All}
use Rattle.std.proofs.lemmas.Bool.{eq-eqb, eqb-true, eqb-false, ltb-true}
use Rattle.std.proofs.lemmas.List.Elements.{All-nil, All-cons}
use Rattle.std.proofs.lemmas.List.Sums.{sum_by-cons}
use Rattle.td_words.specs.declared.places.TheConstants.{TDCS_EPOCH, TDCS_ENTERED}
use Rattle.td_words.specs.declared.refusals.Status.TheVariants.{TlbTrackingNotDone}
use Rattle.td_words.specs.declared.replies.Reply.TheVariants.{Refused}
use Rattle.td_words.specs.Place.{WordPlace}
use Rattle.td_words.specs.Place as place
use Rattle.flat_core.specs.Tracking.{tracked}
use Rattle.flat_core.proofs.Tests.{by_test}
use Rattle.leaf_engine.specs.Trees.{Tree, Load, answers}
use Rattle.word_rules.specs.Rules.{Whole}
use Rattle.tlb_epochs.specs.Epochs.{IsNear, entered_before}
use Rattle.tlb_epochs.proofs.Counted.{far, next_to}
use Rattle.mem_remove.specs.TrackedTrees.{blocked_told, other_parity, tracked_from}
use Rattle.map_laws.specs.Leaves.{answered}
use Rattle.map_laws.specs.Epochs.{CountsEpoch, DecidesTracked}

pub counts-epoch : (epoch number : ℕ) → number ≡ epoch % 2 → CountsEpoch epoch number
counts-epoch epoch number is = record {
  enters = λ tdcs me vp. rw is refl;
  leaves = λ tdcs. rw is refl;
  asked = λ tdcs further.
      let same : other_parity (suc epoch) ≡ number = omega (arith, is) in
      ap (λ (n : ℕ). Load Whole (place.Word tdcs (TDCS_ENTERED + n)) further) same;
}

-- so many entries at the epoch before
abbrev entries : (epoch n : ℕ) → List ℕ
entries epoch n = replicate n (epoch - 1)

near : (epoch n : ℕ) → All (IsNear epoch) (entries epoch n)
near epoch zero = All-nil (IsNear epoch)
near epoch (suc n) = All-cons (IsNear epoch) (epoch - 1) (entries epoch n) (omega arith, omega arith) (near epoch n)

count : (epoch n : ℕ) → entered_before epoch (entries epoch n) ≡ n
count epoch zero = refl
count epoch (suc n) =
    sum_by-cons (λ e. cond (e == epoch - 1) 1 0) (epoch - 1) (entries epoch n)
    ∙ rw (eq-eqb (epoch - 1) (epoch - 1) refl) (omega (arith, count epoch n))

-- a test that tells of each such list tells what leaves test, by whether the block is of the epoch before
abbrev Tells : (blocked epoch n : ℕ) → Bool → Type 0
Tells blocked epoch n b = (entered : List ℕ) → All (IsNear epoch) entered → entered_before epoch entered ≡ n → b ≡ tracked blocked epoch entered

told : (blocked epoch n : ℕ) (b : Bool) → Tells blocked epoch n b → b ≡ tracked blocked epoch (entries epoch n)
told blocked epoch n b h = h (entries epoch n) (near epoch n) (count epoch n)

next-told : (blocked epoch n : ℕ) (b : Bool) → Tells blocked epoch n b → (blocked + 1 == epoch) ≡ true → b ≡ (n == 0)
next-told blocked epoch n b h same =
    let is : blocked + 1 ≡ epoch = eqb-true (blocked + 1) epoch same in
    told blocked epoch n b h
    ∙ sym (next_to blocked epoch n (omega (arith, is)) (omega (arith, is)) (entries epoch n) (near epoch n) (count epoch n))

far-told : (blocked epoch n : ℕ) (b : Bool) → Tells blocked epoch n b → (blocked + 1 == epoch) ≡ false → b ≡ nat_lt blocked epoch
far-told blocked epoch n b h differ = by_test (nat_lt blocked epoch)
    (λ below. (let less : blocked < epoch = ltb-true blocked epoch below in
    let not : blocked + 1 ≡ epoch → ⊥ = eqb-false (blocked + 1) epoch differ in
    told blocked epoch n b h ∙ sym (far blocked epoch less (omega (arith, less, not)) (entries epoch n) (near epoch n)) ∙ sym below))
    (λ not. told blocked epoch n b h ∙ rw not refl)

module _ (words : WordPlace → ℕ) (tdcs page : ℕ) (further : Tree) (n : ℕ) (b : Bool) where
  decided : (blocked epoch : ℕ) → Tells blocked epoch n b → words (place.Word tdcs (TDCS_ENTERED + other_parity epoch)) ≡ n
      → (x : Bool) → (blocked + 1 == epoch) ≡ x
      → answered words (tracked_from x tdcs blocked epoch further) ≡ (if b then answered words further else answers (Refused TlbTrackingNotDone))
  decided blocked epoch h is true same = rw (is, next-told blocked epoch n b h same) refl
  decided blocked epoch h is false differ = rw (far-told blocked epoch n b h differ) refl

  -- the two words that are told first
  abbrev Decided : (pamt epoch : ℕ) → Type 0
  Decided pamt epoch =
      answered words (tracked_from (blocked_told pamt + 1 == epoch) tdcs (blocked_told pamt) epoch further)
      ≡ (if b then answered words further else answers (Refused TlbTrackingNotDone))

pub decides-tracked : (pamt epoch n : ℕ) (b : Bool) → Tells (blocked_told pamt) epoch n b → DecidesTracked pamt epoch n b
decides-tracked pamt epoch n b h words tdcs page further p e c =
    subst (λ (x : ℕ). Decided words tdcs page further n b x (words (place.Word tdcs TDCS_EPOCH))) (sym p)
    (subst (λ (x : ℕ). Decided words tdcs page further n b pamt x) (sym e)
    (decided words tdcs page further n b (blocked_told pamt) epoch h c (blocked_told pamt + 1 == epoch) refl))
