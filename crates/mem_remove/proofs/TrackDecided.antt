-- The decision of MEM.TRACK behind the beginning of its row.
use Rattle.std.proofs.Common.{◌≡◌, ℕ, ◌-◌, ◌^◌, ◌==◌, true, false, nat_lt, List, [], ◌∷◌, Result, Ok, Err, refl}
use Rattle.td_words.specs.declared.names.Counter.TheVariants.{TdEpoch}
use Rattle.td_words.specs.declared.names.Mode.TheVariants.{Exclusive}
use Rattle.td_words.specs.declared.places.TheConstants.{TDCS_EPOCH}
use Rattle.td_words.specs.declared.refusals.Status.TheVariants.{CounterLimit, PreviousTlbEpochBusy}
use Rattle.td_words.specs.declared.replies.Reply.TheVariants.{Done, Refused}
use Rattle.td_words.specs.declared.replies.Value.TheVariants as value
use Rattle.td_words.specs.Place as place
use Rattle.word_rules.specs.Rules.{Whole}
use Rattle.leaf_engine.specs.declared.plans.Stop.{Stop}
use Rattle.leaf_engine.specs.declared.plans.Stop.TheVariants as stop
use Rattle.leaf_engine.specs.Trees.{Tree, Load, needs, done}
use Rattle.leaf_engine.specs.Decides.{Ending, Decides}
use Rattle.leaf_parts.specs.Parts.{Goes}
use Rattle.leaf_parts.proofs.Parts.{passes, refuses}
use Rattle.mem_remove.specs.NamedTrees.{epoch_lock_tree}
use Rattle.mem_remove.specs.TrackedTrees.{previous_tree}
use Rattle.mem_remove.specs.TrackTrees.{track_changes, track_epoch, track_rest}

abbrev pub locking : (t tdcs : ℕ) → (Unit {0} → Tree) → Tree
locking t tdcs f = epoch_lock_tree t tdcs Exclusive (f tt)

abbrev pub behind_lock : ℕ → Unit {0} → Tree
behind_lock tdcs u = Load Whole (place.Word tdcs TDCS_EPOCH) (λ epoch. track_epoch tdcs epoch)

abbrev pub counting : (tdcs epoch : ℕ) → (ℕ → Tree) → Tree
counting tdcs epoch f = previous_tree tdcs epoch f

module _ (n t tdcs : ℕ) (before between left : List ℕ) (u : Unit {0}) (lock : Goes n (locking t tdcs) before between (Ok u)) (epoch : ℕ) (told : between ≡ epoch ∷ left) where
  abbrev advancing : Tree
  advancing = done [] (track_changes tdcs epoch)

  abbrev none_left : ℕ → Tree
  none_left count = needs (count == 0) (PreviousTlbEpochBusy count) advancing

  behind : (r : Result Ending Stop) → Decides n (track_epoch tdcs epoch) left r → Decides n (track_rest t tdcs) before r
  behind r d = lock (behind_lock tdcs) r (rw told d)

  pub is-last : (e : Stop) → nat_lt epoch (2 ^ 32 - 1) ≡ false → e ≡ stop.Refused (Refused (CounterLimit TdEpoch)) → Decides n (track_rest t tdcs) before (Err e)
  is-last e last refused = behind (Err e) (refuses n (nat_lt epoch (2 ^ 32 - 1)) (CounterLimit TdEpoch) (counting tdcs epoch none_left) left e last refused)

  module _ (room : nat_lt epoch (2 ^ 32 - 1) ≡ true) where
    behind-room : (r : Result Ending Stop) → Decides n (counting tdcs epoch none_left) left r → Decides n (track_rest t tdcs) before r
    behind-room r d = behind r (passes n (nat_lt epoch (2 ^ 32 - 1)) (CounterLimit TdEpoch) (counting tdcs epoch none_left) left r room d)

    pub is-uncounted : (after : List ℕ) (e : Stop) → Goes {A = ℕ} n (counting tdcs epoch) left after (Err e) → Decides n (track_rest t tdcs) before (Err e)
    is-uncounted after e g = behind-room (Err e) (g none_left)

    module _ (after : List ℕ) (count : ℕ) (g : Goes {A = ℕ} n (counting tdcs epoch) left after (Ok count)) where
      pub is-busy : (e : Stop) → (count == 0) ≡ false → e ≡ stop.Refused (Refused (PreviousTlbEpochBusy count)) → Decides n (track_rest t tdcs) before (Err e)
      is-busy e some refused = behind-room (Err e) (g none_left (Err e) (refuses n (count == 0) (PreviousTlbEpochBusy count) advancing after e some refused))

      pub is-left : (count == 0) ≡ true → Decides n (track_rest t tdcs) before (Ok (record { reply = Done value.Nothing; changes = track_changes tdcs epoch }))
      is-left none = behind-room _ (g none_left _ (passes n (count == 0) (PreviousTlbEpochBusy count) advancing after _ none (refl, refl)))
