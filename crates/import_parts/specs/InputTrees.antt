-- The bundle that a call takes, and the fields of its header against what TDCS and a stream say.
use Rattle.std.specs.Prelude.{ℕ, ◌-◌, ◌%◌, ◌^◌, ◌==◌, ◌&&◌, nat_lt, nat_le, Bool, List, [], ◌∷◌}
use Rattle.std.specs.List.{list_any}
use Rattle.td_words.specs.declared.names.HeaderField.TheVariants as field
use Rattle.td_words.specs.declared.names.OpState.{OpState}
use Rattle.td_words.specs.declared.places.TheConstants.{STREAM_COUNTER}
use Rattle.td_words.specs.declared.refusals.Status.{Status}
use Rattle.td_words.specs.declared.refusals.Status.TheVariants.{OperandInvalid, NoBundle, BundleHeader, BundleCounter, BundleTag}
use Rattle.td_words.specs.Place as place
use Rattle.flat_core.specs.World.{ClearHeader}
use Rattle.flat_core.specs.Inputs.{Input, most_stream, most_index, fits_version, has_no_fault, fault_shown}
use Rattle.word_rules.specs.Rules.{Whole}
use Rattle.leaf_engine.specs.Trees.{Tree, Load, needs}
use Rattle.stream_parts.specs.declared.rooms.Room.{Room}
use Rattle.stream_parts.specs.Streams.{page_tree}
use Rattle.stream_parts.specs.Rooms.{session_tree, mig_epoch_tree}
use Rattle.stream_parts.specs.AloneTrees.{td_alone_tree}

-- there is one in the slot, it has the form of one, and its type is one of these
abbrev pub input_checks : Input → (slot : ℕ) → List ℕ → List (Bool × Status)
input_checks x slot kinds =
    (x.there, NoBundle slot) ∷ (has_no_fault x.fault, BundleHeader (fault_shown x.fault)) ∷ (list_any (λ k. k == x.header.kind) kinds, BundleHeader field.Kind) ∷ []

abbrev pub input_tree : Input → (slot : ℕ) → List ℕ → Tree → Tree
input_tree x slot kinds further =
    needs x.there (NoBundle slot)
    (needs (has_no_fault x.fault) (BundleHeader (fault_shown x.fault))
    (needs (list_any (λ k. k == x.header.kind) kinds) (BundleHeader field.Kind) further))

-- behind the argument and the bundle a TD's map is held alone
abbrev pub input_alone_tree : (pages : ℕ) → Input → (tdr slot : ℕ) → (kinds : List ℕ) → List OpState → (ℕ → Tree) → Tree
input_alone_tree pages x tdr slot kinds allowed further = needs (nat_lt tdr pages) (OperandInvalid 1) (input_tree x slot kinds (td_alone_tree pages tdr allowed further))

-- whether the fields of a header have values that its form allows: those that depend on the type, and the others
abbrev pub fits_type : ClearHeader → Bool
fits_type h =
    nat_le h.stream (most_stream h.kind) && (nat_le h.index (most_index h.kind) && (fits_version h && (h.gpa % 4096 == 0)))

abbrev pub has_numbers : (counter epoch iv session : ℕ) → Bool
has_numbers counter epoch iv session = nat_lt counter (2 ^ 32) && ((iv == counter) && (nat_lt epoch (2 ^ 32) && (nat_le 1 session && nat_lt session (2 ^ 16))))

-- its tag is that of its bytes
abbrev pub tag_tree : Input → Tree → Tree
tag_tree x further = needs x.tag_right BundleTag further

-- its session and its epoch are the TD's
abbrev pub session_same_tree : (tdcs : ℕ) → ClearHeader → Tree → Tree
session_same_tree tdcs h further = session_tree tdcs (λ session. needs (h.session == session) (BundleHeader field.Session) further)

abbrev pub epoch_same_tree : (tdcs : ℕ) → ClearHeader → Tree → Tree
epoch_same_tree tdcs h further = mig_epoch_tree tdcs (λ epoch. needs (h.epoch == epoch) (BundleHeader field.Epoch) further)

-- its counter is the one that is due, which isn't the last one
abbrev pub is_due : ClearHeader → (due : ℕ) → Bool
is_due h due = h.counter == due && nat_lt due (2 ^ 32 - 1)

abbrev pub due_tree : ClearHeader → (due : ℕ) → Tree → Tree
due_tree h due further = needs (is_due h due) (BundleCounter due h.counter) further

-- on the stream of that number
abbrev pub counter_due_tree : (pages tdcs stream : ℕ) → ClearHeader → (Room → Tree) → Tree
counter_due_tree pages tdcs stream h further =
    page_tree pages tdcs stream (λ page.
    Load Whole (place.Word page STREAM_COUNTER) (λ counter. due_tree h counter (further (record { page = page; counter = counter }))))
