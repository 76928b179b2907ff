-- VP.ENTER as a decision over the words that it is told.
use Rattle.std.specs.Prelude.{ℕ, zero, suc, ◌+◌, ◌%◌, ◌^◌, ◌<◌, ◌==◌, ◌&&◌, not, nat_lt, nat_le, Option, Some, None, Bool, List, [], ◌∷◌}
use Rattle.td_words.specs.declared.names.PageKind.TheVariants as kind
use Rattle.td_words.specs.declared.names.VcpuState.TheVariants as vcpu
use Rattle.td_words.specs.declared.names.Mode.TheVariants.{Shared, Exclusive}
use Rattle.td_words.specs.declared.machines.Machine.{Machine}
use Rattle.td_words.specs.declared.places.TheConstants.{TDR_ROOT, TDCS_EPOCH_LOCK, TDCS_EPOCH, TDCS_ENTERED, VP_INDEX, VP_STATE, VP_ASSOCIATED, VP_LAST_EPOCH, VP_POSITION}
use Rattle.td_words.specs.declared.refusals.Status.{Status}
use Rattle.td_words.specs.declared.refusals.Status.TheVariants.{OperandInvalid, PageMetadataIncorrect, VcpuStateIncorrect, VcpuAssociated}
use Rattle.td_words.specs.declared.replies.Value.TheVariants as value
use Rattle.td_words.specs.declared.replies.Reply.TheVariants.{Done}
use Rattle.td_words.specs.Place as place
use Rattle.flat_core.specs.Processor.{OfPage, OfEpoch}
use Rattle.flat_core.specs.Conditions.{same_vp_state, is_elsewhere, lp_shown, running_ops}
use Rattle.flat_core.specs.Translations.{is_stale, cache_at_entry}
use Rattle.flat_core.specs.VpRows.{enter_vp}
use Rattle.word_rules.specs.Rules.{Whole}
use Rattle.leaf_engine.specs.declared.needs.Place.{Place}
use Rattle.leaf_engine.specs.Changes.{Change, Put, Raise}
use Rattle.leaf_engine.specs.Trees.{Answer, Tree, Lock, Load, End, needs}
use Rattle.leaf_engine.specs.Means.{Task, OfCall, MeansRow}
use Rattle.leaf_parts.specs.Words.{page_told}
use Rattle.leaf_parts.specs.Arguments.{checked}
use Rattle.leaf_parts.specs.Heads.{td_head_tree}
use Rattle.vcpu_control.specs.Words.{says_page_of, vcpu_told}

-- the logical processor that an association's word names
abbrev pub lp_told : ℕ → Option ℕ
lp_told zero = None
lp_told (suc lp) = Some lp

-- the addition to the count of TD_EPOCH's parity is the act; then the association and the last epoch
abbrev pub enter_changes : (tdcs me vp epoch : ℕ) → List Change
enter_changes tdcs me vp epoch =
    Raise (place.Word tdcs (TDCS_ENTERED + epoch % 2)) 1
    ∷ Put (place.Word vp VP_ASSOCIATED) (me + 1)
    ∷ Put (place.Word vp VP_LAST_EPOCH) epoch
    ∷ []

-- the guest begins, and the TD's translations are dropped where they may be stale, which its processor is told with where
-- the guest begins
abbrev pub enter_answer : (tdr vp most : ℕ) → Option ℕ → (last epoch index position root : ℕ) → Answer
enter_answer tdr vp most associated last epoch index position root = record {
  reply = Done (value.Entered (is_stale associated last epoch) index position root);
  cached = cache_at_entry associated last epoch tdr;
  enters = Some (record { tdr = tdr; vp = vp; most = most });
  notes = [];
  tells = [];
  bundles = [];
}

-- the virtual processor's index and position, and the root page
abbrev pub enter_guest : (pages me tdr tdcs vp most : ℕ) → Option ℕ → (last epoch : ℕ) → Tree
enter_guest pages me tdr tdcs vp most associated last epoch =
    Load Whole (place.Word vp VP_INDEX) (λ index.
    Load Whole (place.Word vp VP_POSITION) (λ position.
    Load Whole (place.Word tdr TDR_ROOT) (λ root. End (enter_answer tdr vp most associated last epoch index position (page_told pages root)) [] (enter_changes tdcs me vp epoch))))

-- TD_EPOCH is held, and the last epoch told
abbrev pub enter_epoch : (pages me tdr tdcs vp most : ℕ) → Option ℕ → Tree
enter_epoch pages me tdr tdcs vp most associated =
    Lock (OfEpoch tdr) (place.Word tdcs TDCS_EPOCH_LOCK) Shared
    (Load Whole (place.Word tdcs TDCS_EPOCH) (λ epoch.
    Load Whole (place.Word vp VP_LAST_EPOCH) (λ last. enter_guest pages me tdr tdcs vp most associated last epoch)))

-- the virtual processor is associated with no other logical processor
abbrev pub enter_associated : (pages me tdr tdcs vp most : ℕ) → Tree
enter_associated pages me tdr tdcs vp most =
    Load Whole (place.Word vp VP_ASSOCIATED) (λ word.
    needs (not (is_elsewhere me (lp_told word))) (VcpuAssociated (lp_shown (lp_told word))) (enter_epoch pages me tdr tdcs vp most (lp_told word)))

-- and is READY
abbrev pub enter_rest : (pages me tdr tdcs vp most : ℕ) → Tree
enter_rest pages me tdr tdcs vp most =
    Lock (OfPage vp) (place.Lock vp) Exclusive
    (Load Whole (place.Pamt vp) (λ pamt.
    needs (says_page_of tdr kind.Tdvpr pamt) (PageMetadataIncorrect vp)
    (Load Whole (place.Word vp VP_STATE) (λ state.
    needs (same_vp_state (vcpu_told state) vcpu.Ready) (VcpuStateIncorrect (vcpu_told state)) (enter_associated pages me tdr tdcs vp most)))))

-- two pages, which are not the same, and a number of operations
abbrev pub entry_arguments : Machine → (tdr vp most : ℕ) → List (Bool × Status)
entry_arguments m tdr vp most =
    (nat_lt tdr m.pages, OperandInvalid 1) ∷ (nat_lt vp m.pages, OperandInvalid 2) ∷ (nat_le 1 most && nat_lt most (2 ^ 16), OperandInvalid 3)
    ∷ (not (vp == tdr), OperandInvalid 2) ∷ []

abbrev pub enter_tree : Machine → (me tdr vp most : ℕ) → Tree
enter_tree m me tdr vp most = checked (entry_arguments m tdr vp most) (td_head_tree m.pages tdr Shared running_ops (λ td. enter_rest m.pages me tdr td.tdcs vp most))

abbrev pub vp_enter_task : Place → (tdr vp most : ℕ) → Task
vp_enter_task p tdr vp most = record { place = p; tree = enter_tree p.machine p.lp tdr vp most; meaning = OfCall (enter_vp p.machine p.lp tdr vp most) }

-- The leaf of VP.ENTER means its row.
abbrev pub EntryMeans : Type 0
EntryMeans = (p : Place) (tdr vp most : ℕ) → p.machine.pages < 65536 → MeansRow (vp_enter_task p tdr vp most)
