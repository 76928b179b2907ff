-- TLB epochs in the words that leaves are told (Base Architecture, "TLB Tracking Sequence").
use Rattle.std.specs.Prelude.{◌≡◌, ℕ, suc, ◌+◌, ◌-◌, ◌^◌, [], ◌∷◌, drop, Bool, if◌then◌else◌}
use Rattle.td_words.specs.declared.places.TheConstants.{TDCS_EPOCH, TDCS_ENTERED}
use Rattle.td_words.specs.declared.refusals.Status.TheVariants.{TlbTrackingNotDone}
use Rattle.td_words.specs.declared.replies.Reply.TheVariants.{Refused}
use Rattle.td_words.specs.Place.{WordPlace}
use Rattle.td_words.specs.Place as place
use Rattle.word_rules.specs.Rules.{Whole}
use Rattle.leaf_engine.specs.Changes.{Raise}
use Rattle.leaf_engine.specs.Trees.{Tree, Load, answers}
use Rattle.vcpu_control.specs.EnterTrees.{enter_changes}
use Rattle.vcpu_control.specs.ExitTrees.{exit_changes}
use Rattle.mem_remove.specs.TrackedTrees.{other_parity, previous_tree, tracked_tree}
use Rattle.map_laws.specs.Leaves.{answered}

-- TDCS's count of that number is of those that enter at an epoch: VP.ENTER's act adds one to it, an exit of one that entered
-- then takes it off, and it is asked for as that of the epoch before once TD_EPOCH has risen by one
pub record CountsEpoch (epoch number : ℕ) : Type 0 where
  pub enters : (tdcs me vp : ℕ) → enter_changes tdcs me vp epoch
      ≡ Raise (place.Word tdcs (TDCS_ENTERED + number)) 1 ∷ drop 1 (enter_changes tdcs me vp epoch)
  pub leaves : (tdcs : ℕ) → exit_changes tdcs epoch ≡ Raise (place.Word tdcs (TDCS_ENTERED + number)) (2 ^ 64 - 1) ∷ []
  pub asked : (tdcs : ℕ) (further : ℕ → Tree) → previous_tree tdcs (suc epoch) further
      ≡ Load Whole (place.Word tdcs (TDCS_ENTERED + number)) further

-- where memory has these three words, a page's PAMT word, TD_EPOCH and the count of the epoch before, leaves go on behind the
-- condition that the page's block is tracked, or are refused there
abbrev pub DecidesTracked : (pamt epoch previous : ℕ) → Bool → Type 0
DecidesTracked pamt epoch previous tracked = (words : WordPlace → ℕ) (tdcs page : ℕ) (further : Tree)
    → words (place.Pamt page) ≡ pamt → words (place.Word tdcs TDCS_EPOCH) ≡ epoch
    → words (place.Word tdcs (TDCS_ENTERED + other_parity epoch)) ≡ previous
    → answered words (tracked_tree tdcs page further)
    ≡ (if tracked then answered words further else answers (Refused TlbTrackingNotDone))
