-- Calls of a migration's source (TD Migration Architecture, "Migration Session Control" and "Private Memory Migration").
use Rattle.std.specs.Prelude.{ℕ, ◌+◌, ◌-◌, ◌%◌, ◌^◌, List, [], ◌∷◌, ◌++◌, length, map, Bool, true, false, nat_lt, if◌then◌else◌, Some}
use Rattle.td_words.specs.declared.names.PageKind.TheVariants as kind
use Rattle.td_words.specs.declared.names.OpState.{OpState}
use Rattle.td_words.specs.declared.names.OpState.TheVariants as op
use Rattle.td_words.specs.declared.names.EntryState.{EntryState}
use Rattle.td_words.specs.declared.names.EntryState.TheVariants as entry
use Rattle.td_words.specs.declared.names.LimitName.TheVariants.{Streams}
use Rattle.td_words.specs.declared.names.Mode.TheVariants.{Exclusive}
use Rattle.td_words.specs.declared.machines.Machine.{Machine}
use Rattle.td_words.specs.declared.refusals.Status.TheVariants.{Limit}
use Rattle.td_words.specs.declared.replies.Value.TheVariants as value
use Rattle.td_words.specs.declared.replies.Reply.{Reply}
use Rattle.td_words.specs.Packing.{is_exported}
use Rattle.flat_core.specs.World.{World, VpImage, Image, put}
use Rattle.flat_core.specs.Row.{Item, Row, call_row, needs}
use Rattle.flat_core.specs.Arguments.{page_argument, apart_argument, gpa_argument, aligned_argument}
use Rattle.flat_core.specs.Conditions.{page_exclusive, tree_shared, tree_exclusive, epoch_shared, host_page, td_shared, td_exclusive}
use Rattle.flat_core.specs.Tree.{number_at, entry_at, walk, state_in, has_page, named_page}
use Rattle.flat_core.specs.Effects.{take_page, clear_page, set_op, block_page, restate}
use Rattle.flat_core.specs.Exports.{is_dirty}

-- those in which a TD may get streams: before it is imported or exported
abbrev pub stream_ops : List OpState
stream_ops = op.Uninitialized ∷ op.Initialized ∷ op.Runnable ∷ []

-- those in which it is exported running, and in which its export can be aborted: running, or paused
abbrev pub live_ops : List OpState
live_ops = op.LiveExport ∷ []

abbrev pub abortable_ops : List OpState
abortable_ops = op.LiveExport ∷ op.PausedExport ∷ []

-- the one in which what an export that was aborted left of its entries is restored
abbrev pub restoring_ops : List OpState
restoring_ops = op.Runnable ∷ []

-- MIG.STREAM.CREATE TDR PAGE: the page is cleared and becomes the page of the next migration stream (ABI Reference,
-- "TDH.MIG.STREAM.CREATE")
abbrev pub stream_room : World → ℕ → Item Reply
stream_room w t = needs (nat_lt (length (w.tds.streams t)) 4) (Limit Streams)

abbrev pub add_stream : ℕ → ℕ → World → World
add_stream t p w = record w {
  tds = record (w.tds) { streams = put w.tds.streams t (w.tds.streams t ++ p ∷ []) };
  streams = record { counters = put w.streams.counters p 0; cleaned = put w.streams.cleaned p 0; first_exports = put w.streams.first_exports p 0 };
}

abbrev pub create_stream : Machine → (tdr page : ℕ) → Row
create_stream m tdr page = call_row
    (λ w. page_argument m 1 tdr ∷ page_argument m 2 page ∷ apart_argument 2 page tdr
    ∷ (td_exclusive w tdr stream_ops ++ stream_room w tdr ∷ page_exclusive page ∷ host_page w page ∷ []))
    (λ w. add_stream tdr page (clear_page page (take_page page kind.Migsc tdr w)))
    (λ w. value.Nothing)

-- EXPORT.BLOCKW TDR GPA: no further translation may write to the page, and that this began at TD_EPOCH is noted. Other pages
-- may be blocked at the same time, so it is by the page's lock that the entry's state stays (ABI Reference,
-- "TDH.EXPORT.BLOCKW")
abbrev pub writable_states : List EntryState
writable_states = entry.Mapped ∷ entry.ExportedDirty ∷ []

abbrev pub write_blocked : EntryState → EntryState
write_blocked entry.Mapped = entry.BlockedW
write_blocked entry.ExportedDirty = entry.ExportedDirtyBlockedW
write_blocked s = s

abbrev pub block_write : Machine → (tdr gpa : ℕ) → Row
block_write m tdr gpa = call_row
    (λ w. page_argument m 1 tdr ∷ gpa_argument 2 gpa ∷ aligned_argument 2 0 gpa
    ∷ (td_shared w tdr live_ops ++ tree_shared tdr ∷ epoch_shared tdr
    ∷ (walk w tdr gpa 0 ++ has_page w tdr gpa 0 ∷ named_page w tdr gpa 0 Exclusive ∷ state_in w tdr gpa 0 writable_states ∷ [])))
    (λ w. let e = entry_at w tdr 0 gpa in block_page tdr e.page (restate tdr (number_at 0 gpa) (write_blocked e.state) e.mark w))
    (λ w. value.Nothing)

-- The beginning of the rows that give a guest its page back: the map is held alone, the entry is in one of these states, and
-- the page that it names is held alone.
abbrev pub opened_row : World → (tdr gpa : ℕ) → (ops : List OpState) → (allowed : List EntryState) → List (Item Reply)
opened_row w tdr gpa ops allowed =
    td_shared w tdr ops ++ tree_exclusive tdr ∷ (walk w tdr gpa 0 ++ state_in w tdr gpa 0 allowed ∷ named_page w tdr gpa 0 Exclusive ∷ [])

-- EXPORT.UNBLOCKW TDR GPA: the guest may write to the page again. One that was exported is dirty from then on, which is
-- counted once (ABI Reference, "TDH.EXPORT.UNBLOCKW")
abbrev pub write_blocked_states : List EntryState
write_blocked_states = entry.BlockedW ∷ entry.ExportedBlockedW ∷ entry.ExportedDirtyBlockedW ∷ []

abbrev pub write_unblocked : EntryState → EntryState
write_unblocked entry.BlockedW = entry.Mapped
write_unblocked entry.ExportedBlockedW = entry.ExportedDirty
write_unblocked entry.ExportedDirtyBlockedW = entry.ExportedDirty
write_unblocked s = s

abbrev pub is_first_dirt : EntryState → Bool
is_first_dirt entry.ExportedBlockedW = true
is_first_dirt _ = false

abbrev pub count_dirt : ℕ → Bool → World → World
count_dirt t first w = record w { tds = record (w.tds) { dirtied = put w.tds.dirtied t (if first then w.tds.dirtied t + 1 else w.tds.dirtied t) } }

abbrev pub unblock_write : Machine → (tdr gpa : ℕ) → Row
unblock_write m tdr gpa = call_row
    (λ w. page_argument m 1 tdr ∷ gpa_argument 2 gpa ∷ aligned_argument 2 0 gpa ∷ opened_row w tdr gpa live_ops write_blocked_states)
    (λ w. let e = entry_at w tdr 0 gpa in count_dirt tdr (is_first_dirt e.state) (restate tdr (number_at 0 gpa) (write_unblocked e.state) e.mark w))
    (λ w. value.Nothing)

-- EXPORT.PAUSE TDR: the TD runs no more, and what an import of the session may start it with is what it has now (ABI
-- Reference, "TDH.EXPORT.PAUSE")
abbrev pub vp_image : World → ℕ → VpImage
vp_image w v = record { registers = w.hidden.registers v; position = w.vps.positions v }

abbrev pub image_of : World → ℕ → Image
image_of w t = record { pages = w.hidden.memories t; mrtd = w.tds.mrtds t; rtmrs = w.hidden.rtmrs t; vps = map (vp_image w) (w.tds.vps t) }

abbrev pub note_pause : ℕ → World → World
note_pause t w = record w { hidden = record (w.hidden) { paused = put w.hidden.paused (w.tds.sessions t) (Some (image_of w t)) } }

abbrev pub pause : Machine → ℕ → Row
pause m tdr = call_row
    (λ w. page_argument m 1 tdr ∷ (td_exclusive w tdr live_ops ++ tree_exclusive tdr ∷ []))
    (λ w. set_op tdr op.PausedExport (note_pause tdr w))
    (λ w. value.Nothing)

-- EXPORT.ABORT TDR: the TD runs on here (ABI Reference, "TDH.EXPORT.ABORT")
abbrev pub abort_export : Machine → ℕ → Row
abort_export m tdr = call_row
    (λ w. page_argument m 1 tdr ∷ (td_exclusive w tdr abortable_ops ++ tree_exclusive tdr ∷ []))
    (set_op tdr op.Runnable)
    (λ w. value.Nothing)

-- EXPORT.RESTORE TDR GPA: what an export that was aborted left of an entry ends (ABI Reference, "TDH.EXPORT.RESTORE")
abbrev pub restored_states : List EntryState
restored_states = entry.BlockedW ∷ entry.ExportedBlockedW ∷ entry.ExportedDirty ∷ entry.ExportedDirtyBlockedW ∷ []

-- one less, modulo 2^64: the number of unrestored entries counts with the first exports of all streams
abbrev pub one_less : ℕ → ℕ
one_less n = (n + (2 ^ 64 - 1)) % 2 ^ 64

abbrev pub count_restored : ℕ → EntryState → World → World
count_restored t s w = record w {
  tds = record (w.tds) {
    dirtied = put w.tds.dirtied t (if is_dirty s then w.tds.dirtied t - 1 else w.tds.dirtied t);
    unrestored = put w.tds.unrestored t (if is_exported s then one_less (w.tds.unrestored t) else w.tds.unrestored t);
  };
}

abbrev pub restore : Machine → (tdr gpa : ℕ) → Row
restore m tdr gpa = call_row
    (λ w. page_argument m 1 tdr ∷ gpa_argument 2 gpa ∷ aligned_argument 2 0 gpa ∷ opened_row w tdr gpa restoring_ops restored_states)
    (λ w. let e = entry_at w tdr 0 gpa in count_restored tdr e.state (restate tdr (number_at 0 gpa) entry.Mapped 0 w))
    (λ w. value.Nothing)
