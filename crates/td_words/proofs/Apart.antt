-- Addresses never meet.
use Rattle.std.proofs.Common.{arith, refl}
use Rattle.td_words.specs.Laws.{AddressesApart, ControlWordsApart}

pub apart : AddressesApart
apart = record {
  locks = λ p q e. omega arith;
  pamts = λ p q e. omega arith;
  words = λ p i q j a b e. (omega arith, omega arith);
  lock_pamt = λ p q e. omega arith;
  lock_content = λ p q j b e. omega arith;
  pamt_content = λ p q j b e. omega arith;
  lock_key = λ pages p k h. omega arith;
  pamt_key = λ pages p k h. omega arith;
  content_key = λ pages p i k h a. omega arith;
  keys = λ pages j k e. omega arith;
  lock_undone = λ p. (omega arith, omega arith);
  pamt_undone = λ p. (omega arith, omega arith);
  word_undone = λ p i a. (omega arith, omega arith);
}

pub places_apart : ControlWordsApart
places_apart = record { tdr = refl; tdcs = refl; vp = refl; stream = refl; keys = refl }
