-- Words that are all 0 show the start of a run.
use Rattle.std.proofs.Common.{◌≡◌, refl, ℕ, ◌==◌, arith}
use Rattle.td_words.specs.declared.places.TheConstants.{KEY_LOCK, KEY_LAST_EXPORTED, KEY_LAST_IMPORTED}
use Rattle.td_words.specs.Place.{WordPlace}
use Rattle.td_words.specs.Place as place
use Rattle.flat_core.specs.Processor.{LockId, OfPage, OfKeys, idle}
use Rattle.flat_core.specs.Locks.{alone_of, shared_of, refused_of}
use Rattle.flat_core.specs.Event.{start}
use Rattle.flat_core.proofs.Tests.{by_test}
use Rattle.flat_core.proofs.LockLaw.{sum_none}
use Rattle.word_rules.specs.Cells.{lock_word, key_cell, cell, IsAs, StartIsShown}

no-lock : (n : ℕ) (l : LockId) → 0 ≡ lock_word (λ p. idle) n l
no-lock n l =
    let a = sum_none (alone_of l) n refl in
    let b = sum_none (shared_of l) n refl in
    let c = sum_none (refused_of l) n refl in omega (arith, a, b, c)

pub start-is-shown : StartIsShown
start-is-shown o ws = record { word = λ q i. at q; hasher = λ h. tt }
  where
    key : (k : ℕ) → IsAs (key_cell (start o ws).world (lock_word (λ p. idle) (start o ws).lp_count OfKeys) k) 0
    key k =
        by_test (k == KEY_LOCK) (λ y. rw y (no-lock (start o ws).lp_count OfKeys)) (λ n0.
        by_test (k == KEY_LAST_EXPORTED) (λ y. rw (n0, y) refl) (λ n1.
        by_test (k == KEY_LAST_IMPORTED) (λ y. rw (n0, n1, y) refl) (λ n2. rw (n0, n1, n2) refl)))

    at : (q : WordPlace) → IsAs (cell (start o ws) q) 0
    at (place.Lock p) = no-lock (start o ws).lp_count (OfPage p)
    at (place.Pamt p) = refl
    at (place.Word p i) = refl
    at (place.Key k) = key k
