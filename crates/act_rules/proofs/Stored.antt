-- Stores of others leave what is read.
use Rattle.std.proofs.Common.{◌≡◌, refl, sym, ◌∙◌, ap, subst, ℕ, false}
use Rattle.td_words.specs.Place.{WordPlace, same_place}
use Rattle.td_words.specs.Laws.{PlacesInjective}
use Rattle.flat_core.proofs.Tests.{by_test}
use Rattle.word_rules.specs.Rules.{View, Grade, spares}
use Rattle.word_rules.specs.Views.{look, IsKept, ViewsAreKept}
use Rattle.word_rules.specs.Permissions.{Writes, Owes, Fills, WordsNeverConflict, ActsNeverConflict}
use Rattle.act_rules.specs.Stores.{LooksSame, OthersStoresKeepReads}

module _ (places : PlacesInjective) (views : ViewsAreKept) (never : WordsNeverConflict) (later : ActsNeverConflict) where
  -- where the store isn't at the word that is read, or keeps what is looked at
  looks : (words : WordPlace → ℕ) (q r : WordPlace) (x : ℕ) (v : View) → (q ≡ r → look v x ≡ look v (words q)) → LooksSame words q x r v
  looks words q r x v k =
      by_test (same_place r q)
      (λ y. let e : r ≡ q = (places.same r q).0 y in rw y (k (sym e) ∙ ap (λ (z : WordPlace). look v (words z)) (sym e)))
      (λ n. rw n refl)

  graded : (words : WordPlace → ℕ) (q r : WordPlace) (x : ℕ) (v : View) (k : Grade) → IsKept k (words q) x → (q ≡ r → spares k v ≡ false → ⊥) → LooksSame words q x r v
  graded words q r x v k i bad = looks words q r x v (λ e. by_test (spares k v) (λ y. views.kept k v (words q) x y i) (λ n. absurd (bad e n)))

  pub stores-keep-reads : OthersStoresKeepReads
  stores-keep-reads g h w words a = record {
    act = λ q r x v k rd wr i. graded words q r x v k i (λ e n. (never g h w a).reads_writes r v k n rd (subst (λ (z : WordPlace). Writes h w z k) e wr));
    owed = λ q r x v k rd ow i. graded words q r x v k i (λ e n. (never g h w a).reads_owes r v k n rd (subst (λ (z : WordPlace). Owes h w z k) e ow));
    left = λ after q r x v k rs rd ow i. graded words q r x v k i (λ e n. (later g h w after a rs).reads_later r v k n rd (subst (λ (z : WordPlace). Owes h after z k) e ow));
    filled = λ q r x v rd fi. looks words q r x v (λ e. absurd ((never h g w (record { there = a.back; back = a.there })).fills_reads r v (subst (λ (z : WordPlace). Fills h w z) e fi) rd));
    seen = λ q r x v k se ow i. graded words q r x v k i (λ e n. (never g h w a).sees_owes r v k n se (subst (λ (z : WordPlace). Owes h w z k) e ow));
  }
