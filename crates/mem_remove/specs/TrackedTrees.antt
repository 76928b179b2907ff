-- TLB epochs as decisions over the words that they are told (Base Architecture, "TLB Tracking Sequence").
use Rattle.std.specs.Prelude.{ℕ, ◌+◌, ◌-◌, ◌/◌, ◌%◌, ◌^◌, ◌==◌, nat_lt, Bool, true, false}
use Rattle.td_words.specs.declared.places.TheConstants.{TDCS_EPOCH, TDCS_ENTERED}
use Rattle.td_words.specs.declared.refusals.Status.TheVariants.{TlbTrackingNotDone}
use Rattle.td_words.specs.Place as place
use Rattle.word_rules.specs.Rules.{Whole}
use Rattle.leaf_engine.specs.Trees.{Tree, Load, needs}

-- BEPOCH, as a PAMT word says it
abbrev pub blocked_told : ℕ → ℕ
blocked_told pamt = pamt / 2 ^ 32

-- which of TDCS's two counts is of the virtual processors in guest that entered at the epoch before: that of the other parity
abbrev pub other_parity : ℕ → ℕ
other_parity epoch = 1 - epoch % 2

-- that count
abbrev pub previous_tree : (tdcs epoch : ℕ) → (ℕ → Tree) → Tree
previous_tree tdcs epoch further = Load Whole (place.Word tdcs (TDCS_ENTERED + other_parity epoch)) further

-- A block at the epoch before TD_EPOCH is tracked where nobody is in guest who entered then; earlier ones always are. The
-- count is loaded in the first case alone, since where it isn't 0 it may fall at any time.
abbrev pub tracked_from : (is_previous : Bool) → (tdcs blocked epoch : ℕ) → Tree → Tree
tracked_from true tdcs blocked epoch further = previous_tree tdcs epoch (λ count. needs (count == 0) TlbTrackingNotDone further)
tracked_from false tdcs blocked epoch further = needs (nat_lt blocked epoch) TlbTrackingNotDone further

-- a block at that epoch is tracked
abbrev pub block_tree : (tdcs blocked : ℕ) → Tree → Tree
block_tree tdcs blocked further = Load Whole (place.Word tdcs TDCS_EPOCH) (λ epoch. tracked_from (blocked + 1 == epoch) tdcs blocked epoch further)

-- and that of a page
abbrev pub tracked_tree : (tdcs page : ℕ) → Tree → Tree
tracked_tree tdcs page further = Load Whole (place.Pamt page) (λ pamt. block_tree tdcs (blocked_told pamt) further)
