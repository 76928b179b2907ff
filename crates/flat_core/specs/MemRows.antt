-- Calls that build a TD's secure EPT, add its pages, block, track, remove and relocate them, and measure the first (Base
-- Architecture, "Secure EPT", "TLB Tracking Sequence" and "TD Measurement").
use Rattle.std.specs.Prelude.{ℕ, ◌+◌, List, [], ◌∷◌, ◌++◌, map, Option, Some, None, not, ◌==◌}
use Rattle.std.specs.List.{range_with_len}
use Rattle.mrtd_measure.specs.Records.{page_record, chunk_records}
use Rattle.td_words.specs.declared.names.PageKind.TheVariants as kind
use Rattle.td_words.specs.declared.names.OpState.TheVariants as op
use Rattle.td_words.specs.declared.names.EntryState.{EntryState}
use Rattle.td_words.specs.declared.names.EntryState.TheVariants as entry
use Rattle.td_words.specs.declared.names.Mode.TheVariants.{Shared, Exclusive}
use Rattle.td_words.specs.declared.refusals.Status.TheVariants.{PageMetadataIncorrect}
use Rattle.td_words.specs.declared.replies.Value.{Value}
use Rattle.td_words.specs.declared.replies.Value.TheVariants as value
use Rattle.td_words.specs.declared.machines.Machine.{Machine}
use Rattle.td_words.specs.Packing.{Entry}
use Rattle.td_words.specs.declared.replies.Reply.{Reply}
use Rattle.flat_core.specs.World.{World}
use Rattle.flat_core.specs.Row.{Item, Row, call_row, needs}
use Rattle.flat_core.specs.Arguments.{page_argument, gpa_argument, level_argument, upper_level_argument, apart_argument, aligned_argument, chunk_argument}
use Rattle.flat_core.specs.Digests.{digest_bytes}
use Rattle.flat_core.specs.Conditions.{page_exclusive, tree_shared, tree_exclusive, epoch_shared, epoch_exclusive, host_page, blocking_ops, growing_ops, augmented_ops, begun_ops, td_shared, td_exclusive}
use Rattle.flat_core.specs.Tree.{page_of_gpa, word_of_gpa, number_at, entry_at, walk, state_in, empty_below, named_page}
use Rattle.flat_core.specs.Tracking.{tracked_page, epoch_room, previous_epoch_left}
use Rattle.flat_core.specs.Effects.{set_page, clear_page, block_page, set_epoch, set_state, map_page, unmap_page, begin_memory, end_memory, measure}

-- MEM.SEPT.ADD TDR GPA LEVEL PAGE: the page is cleared, and will hold the 512 entries below the one of that level (ABI
-- Reference, "TDH.MEM.SEPT.ADD")
abbrev pub add_sept : Machine → (tdr gpa level page : ℕ) → Row
add_sept m tdr gpa level page = call_row
    (λ w. page_argument m 1 tdr ∷ gpa_argument 2 gpa ∷ upper_level_argument 3 level ∷ page_argument m 4 page ∷ apart_argument 4 page tdr ∷ aligned_argument 2 level gpa
    ∷ (td_shared w tdr growing_ops ++ tree_exclusive tdr ∷ (walk w tdr gpa level ++ state_in w tdr gpa level (entry.Free ∷ []) ∷ page_exclusive page ∷ host_page w page ∷ [])))
    (λ w. clear_page page (map_page page kind.Ept entry.NlMapped tdr level (number_at level gpa) w))
    (λ w. value.Nothing)

-- what is shown of an entry: its state, and the page that it names where it isn't FREE
abbrev pub page_shown : EntryState → ℕ → Option ℕ
page_shown entry.Free p = None
page_shown _ p = Some p

abbrev pub entry_value : Entry → Value
entry_value e = value.Entry e.state (page_shown e.state e.page)

-- MEM.SEPT.RD TDR GPA LEVEL (ABI Reference, "TDH.MEM.SEPT.RD")
abbrev pub read_sept : Machine → (tdr gpa level : ℕ) → Row
read_sept m tdr gpa level = call_row
    (λ w. page_argument m 1 tdr ∷ gpa_argument 2 gpa ∷ level_argument 3 level ∷ aligned_argument 2 level gpa
    ∷ (td_shared w tdr begun_ops ++ tree_exclusive tdr ∷ walk w tdr gpa level))
    (λ w. w)
    (λ w. entry_value (entry_at w tdr level gpa))

-- MEM.PAGE.ADD TDR GPA PAGE SOURCE: the page becomes a private page with the source's words, and that it was added there
-- is measured (ABI Reference, "TDH.MEM.PAGE.ADD")
abbrev pub add_page : Machine → (tdr gpa page source : ℕ) → Row
add_page m tdr gpa page source = call_row
    (λ w. page_argument m 1 tdr ∷ gpa_argument 2 gpa ∷ page_argument m 3 page ∷ page_argument m 4 source
    ∷ apart_argument 3 page tdr ∷ apart_argument 4 source tdr ∷ apart_argument 4 source page ∷ aligned_argument 2 0 gpa
    ∷ (td_exclusive w tdr (op.Initialized ∷ []) ++ tree_exclusive tdr ∷ (walk w tdr gpa 0 ++ state_in w tdr gpa 0 (entry.Free ∷ [])
    ∷ page_exclusive source ∷ host_page w source ∷ page_exclusive page ∷ host_page w page ∷ [])))
    (λ w. measure tdr (page_record gpa) (begin_memory tdr (page_of_gpa gpa) (w.words source)
    (set_page page (w.words source) (map_page page kind.Reg entry.Mapped tdr 0 (number_at 0 gpa) w))))
    (λ w. value.Nothing)

-- MEM.PAGE.AUG TDR GPA PAGE: the page becomes a private page that waits until its guest accepts it. Its words stay what
-- they were, nobody reads them, and nothing is measured (ABI Reference, "TDH.MEM.PAGE.AUG")
abbrev pub augment_page : Machine → (tdr gpa page : ℕ) → Row
augment_page m tdr gpa page = call_row
    (λ w. page_argument m 1 tdr ∷ gpa_argument 2 gpa ∷ page_argument m 3 page ∷ apart_argument 3 page tdr ∷ aligned_argument 2 0 gpa
    ∷ (td_shared w tdr augmented_ops ++ tree_exclusive tdr ∷ (walk w tdr gpa 0 ++ state_in w tdr gpa 0 (entry.Free ∷ []) ∷ page_exclusive page ∷ host_page w page ∷ [])))
    (λ w. map_page page kind.Reg entry.Pending tdr 0 (number_at 0 gpa) w)
    (λ w. value.Nothing)

-- the states of entries that can be blocked, and of those that are
abbrev pub open_states : List EntryState
open_states = entry.Mapped ∷ entry.Pending ∷ entry.NlMapped ∷ []

abbrev pub blocked_states : List EntryState
blocked_states = entry.Blocked ∷ entry.PendingBlocked ∷ entry.NlBlocked ∷ []

-- what an entry becomes that is blocked, and one that is unblocked (Base Architecture, "Secure EPT Entry State Diagram")
abbrev pub blocked_state : EntryState → EntryState
blocked_state entry.Mapped = entry.Blocked
blocked_state entry.Pending = entry.PendingBlocked
blocked_state entry.NlMapped = entry.NlBlocked
blocked_state s = s

abbrev pub unblocked_state : EntryState → EntryState
unblocked_state entry.Blocked = entry.Mapped
unblocked_state entry.PendingBlocked = entry.Pending
unblocked_state entry.NlBlocked = entry.NlMapped
unblocked_state s = s

-- The beginning of the rows that block, unblock, remove and relocate: the map is held alone, TD_EPOCH stays, the entry is in one of
-- these states, and the page that it names is held alone.
abbrev pub named_row : World → (tdr gpa level : ℕ) → List EntryState → List (Item Reply) → List (Item Reply)
named_row w tdr gpa level allowed rest =
    td_shared w tdr blocking_ops ++ tree_exclusive tdr ∷ epoch_shared tdr ∷ (walk w tdr gpa level ++ state_in w tdr gpa level allowed ∷ named_page w tdr gpa level Exclusive ∷ rest)

-- MEM.RANGE.BLOCK TDR GPA LEVEL: no further translation goes through the entry, and that this began at TD_EPOCH is noted
-- (ABI Reference, "TDH.MEM.RANGE.BLOCK")
abbrev pub block_range : Machine → (tdr gpa level : ℕ) → Row
block_range m tdr gpa level = call_row
    (λ w. page_argument m 1 tdr ∷ gpa_argument 2 gpa ∷ level_argument 3 level ∷ aligned_argument 2 level gpa
    ∷ named_row w tdr gpa level open_states [])
    (λ w. block_page tdr (entry_at w tdr level gpa).page (set_state tdr level (number_at level gpa) (blocked_state (entry_at w tdr level gpa).state) w))
    (λ w. value.Nothing)

-- MEM.RANGE.UNBLOCK TDR GPA LEVEL (ABI Reference, "TDH.MEM.RANGE.UNBLOCK")
abbrev pub unblock_range : Machine → (tdr gpa level : ℕ) → Row
unblock_range m tdr gpa level = call_row
    (λ w. page_argument m 1 tdr ∷ gpa_argument 2 gpa ∷ level_argument 3 level ∷ aligned_argument 2 level gpa
    ∷ named_row w tdr gpa level blocked_states (tracked_page w tdr (entry_at w tdr level gpa).page ∷ []))
    (λ w. set_state tdr level (number_at level gpa) (unblocked_state (entry_at w tdr level gpa).state) w)
    (λ w. value.Nothing)

-- those in which a private page can be removed or relocated
abbrev pub removed_states : List EntryState
removed_states = entry.Blocked ∷ entry.PendingBlocked ∷ []

-- MEM.PAGE.REMOVE TDR GPA: a private page is the host's again, once nobody can use a translation to it (ABI Reference,
-- "TDH.MEM.PAGE.REMOVE")
abbrev pub remove_page : Machine → (tdr gpa : ℕ) → Row
remove_page m tdr gpa = call_row
    (λ w. page_argument m 1 tdr ∷ gpa_argument 2 gpa ∷ aligned_argument 2 0 gpa
    ∷ named_row w tdr gpa 0 removed_states (tracked_page w tdr (entry_at w tdr 0 gpa).page ∷ []))
    (λ w. unmap_page tdr 0 (number_at 0 gpa) (end_memory tdr (page_of_gpa gpa) w))
    (λ w. value.Nothing)

-- MEM.SEPT.REMOVE TDR GPA LEVEL: so is a secure EPT page of which all entries are FREE (ABI Reference, "TDH.MEM.SEPT.REMOVE")
abbrev pub remove_sept : Machine → (tdr gpa level : ℕ) → Row
remove_sept m tdr gpa level = call_row
    (λ w. page_argument m 1 tdr ∷ gpa_argument 2 gpa ∷ upper_level_argument 3 level ∷ aligned_argument 2 level gpa
    ∷ named_row w tdr gpa level (entry.NlBlocked ∷ []) (empty_below w tdr gpa level ∷ tracked_page w tdr (entry_at w tdr level gpa).page ∷ []))
    (λ w. unmap_page tdr level (number_at level gpa) w)
    (λ w. value.Nothing)

-- MEM.PAGE.RELOCATE TDR GPA PAGE: a private page moves to another page, once nobody can use a translation to it: PAGE gets its
-- words and its place in the map, and the old page is the host's again (ABI Reference, "TDH.MEM.PAGE.RELOCATE")
abbrev pub another_page : World → (tdr gpa page : ℕ) → Item Reply
another_page w t gpa page = needs (not (page == (entry_at w t 0 gpa).page)) (PageMetadataIncorrect page)

abbrev pub move_page : (tdr number page : ℕ) → World → World
move_page t number page w =
    let e = w.tds.entries t 0 number in
    set_page page (w.words e.page) (map_page page kind.Reg (unblocked_state e.state) t 0 number (unmap_page t 0 number w))

abbrev pub relocate_page : Machine → (tdr gpa page : ℕ) → Row
relocate_page m tdr gpa page = call_row
    (λ w. page_argument m 1 tdr ∷ gpa_argument 2 gpa ∷ page_argument m 3 page ∷ apart_argument 3 page tdr ∷ aligned_argument 2 0 gpa
    ∷ named_row w tdr gpa 0 removed_states
    (another_page w tdr gpa page ∷ page_exclusive page ∷ host_page w page ∷ tracked_page w tdr (entry_at w tdr 0 gpa).page ∷ []))
    (λ w. move_page tdr (number_at 0 gpa) page w)
    (λ w. value.Nothing)

-- MEM.TRACK TDR: TD_EPOCH rises, once no virtual processor is in guest that entered at the epoch before it (ABI Reference,
-- "TDH.MEM.TRACK")
abbrev pub advance_epoch : Machine → ℕ → Row
advance_epoch m tdr = call_row
    (λ w. page_argument m 1 tdr ∷ (td_shared w tdr augmented_ops ++ epoch_exclusive tdr ∷ epoch_room w tdr ∷ previous_epoch_left w tdr ∷ []))
    (λ w. set_epoch tdr (w.tds.epochs tdr + 1) w)
    (λ w. value.Nothing)

-- the bytes of the chunk of 256 that begins at a GPA, in the words of its page: 32 words, each with its lowest byte first
abbrev pub chunk_bytes : (ℕ → ℕ) → ℕ → List ℕ
chunk_bytes ws gpa = digest_bytes (map ws (range_with_len (word_of_gpa gpa) 32))

-- MR.EXTEND TDR GPA: the chunk at that GPA is measured (ABI Reference, "TDH.MR.EXTEND")
abbrev pub extend : Machine → (tdr gpa : ℕ) → Row
extend m tdr gpa = call_row
    (λ w. page_argument m 1 tdr ∷ gpa_argument 2 gpa ∷ chunk_argument 2 gpa
    ∷ (td_exclusive w tdr (op.Initialized ∷ []) ++ tree_shared tdr ∷ (walk w tdr gpa 0 ++ state_in w tdr gpa 0 (entry.Mapped ∷ []) ∷ named_page w tdr gpa 0 Shared ∷ [])))
    (λ w. measure tdr (chunk_records gpa (chunk_bytes (w.words (entry_at w tdr 0 gpa).page) gpa)) w)
    (λ w. value.Nothing)
