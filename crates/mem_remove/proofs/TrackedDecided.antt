-- The decision whether a block is tracked: one at the epoch before TD_EPOCH, and that of a page.
use Rattle.std.proofs.Common.{◌≡◌, ℕ, ◌+◌, ◌==◌, List, ◌∷◌, Result, Ok, Err, refl, ◌∙◌}
use Rattle.std.proofs.lemmas.Bool.{eq-eqb}
use Rattle.td_words.specs.declared.refusals.Status.TheVariants.{TlbTrackingNotDone}
use Rattle.leaf_engine.specs.declared.plans.Stop.{Stop}
use Rattle.leaf_engine.specs.Trees.{Tree, needs, feed}
use Rattle.leaf_engine.specs.Decides.{Ending, Decides}
use Rattle.leaf_parts.specs.Parts.{Goes, Feeds}
use Rattle.leaf_parts.proofs.Parts.{goes-stop, passes, refuses, feed-passes, Checked}
use Rattle.mem_remove.specs.TrackedTrees.{blocked_told, previous_tree, block_tree, tracked_tree}

module _ (n tdcs blocked : ℕ) (before : List ℕ) (epoch : ℕ) (left : List ℕ) (told : before ≡ epoch ∷ left) (next : blocked + 1 ≡ epoch) where
  abbrev whole : (Unit {0} → Tree) → Tree
  whole k = block_tree tdcs blocked (k tt)

  abbrev counting : (ℕ → Tree) → Tree
  counting k = previous_tree tdcs epoch k

  abbrev none_left : Tree → ℕ → Tree
  none_left k count = needs (count == 0) TlbTrackingNotDone k

  behind : (k : Tree) (r : Result Ending Stop) → Decides n (counting (none_left k)) left r → Decides n (block_tree tdcs blocked k) before r
  behind k r d = rw (told, eq-eqb (blocked + 1) epoch next) d

  pub uncounted : (after : List ℕ) (e : Stop) (r : Result (Unit {0}) Stop) → r ≡ Err e → Goes {A = ℕ} n counting left after (Err e) → Goes n whole before after r
  uncounted after e r is g = goes-stop n whole before after r e is (λ k. behind (k tt) (Err e) (g (none_left (k tt))))

  pub counted : (after : List ℕ) (count : ℕ) (r : Result (Unit {0}) Stop) → Goes {A = ℕ} n counting left after (Ok count) → Checked (count == 0) TlbTrackingNotDone r → Goes n whole before after r
  counted after count (Ok u) g h = λ k r d. behind (k tt) r (g (none_left (k tt)) r (passes n (count == 0) TlbTrackingNotDone (k tt) after r h d))
  counted after count (Err e) g h = λ k. behind (k tt) (Err e) (g (none_left (k tt)) (Err e) (refuses n (count == 0) TlbTrackingNotDone (k tt) after e h.0 h.1))

  behind-fed : (k : Tree) → feed (block_tree tdcs blocked k) before ≡ feed (counting (none_left k)) left
  behind-fed k = rw (told, eq-eqb (blocked + 1) epoch next) refl

  pub counted-fed : (after : List ℕ) (count : ℕ) (r : Result (Unit {0}) Stop) → Feeds counting left after (Ok count) → Checked (count == 0) TlbTrackingNotDone r → Feeds whole before after r
  counted-fed after count (Ok u) g h = λ k. behind-fed (k tt) ∙ (g (none_left (k tt)) ∙ feed-passes (count == 0) TlbTrackingNotDone (k tt) after h)
  counted-fed after count (Err e) g h = tt

-- behind the word that tells the block of a page
pub behind-block : (n tdcs page pamt : ℕ) (before between after : List ℕ) (r : Result (Unit {0}) Stop) → before ≡ pamt ∷ between → Goes n (λ f. block_tree tdcs (blocked_told pamt) (f tt)) between after r
    → Goes n (λ f. tracked_tree tdcs page (f tt)) before after r
behind-block n tdcs page pamt before between after (Ok u) told g = λ further v d. rw told (g further v d)
behind-block n tdcs page pamt before between after (Err e) told g = λ further. rw told (g further)
