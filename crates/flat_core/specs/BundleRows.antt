-- Calls of a migration's source that make a bundle each, in an output slot (TD Migration Architecture, "Migration Bundles";
-- ABI Reference, "TDH.EXPORT" leaf functions).
use Rattle.std.specs.Prelude.{ℕ, zero, suc, ◌+◌, ◌-◌, ◌%◌, ◌^◌, max, List, [], ◌∷◌, ◌++◌, length, flat_map, Option}
use Rattle.td_words.specs.declared.names.PageKind.TheVariants as kind
use Rattle.td_words.specs.declared.names.OpState.{OpState}
use Rattle.td_words.specs.declared.names.OpState.TheVariants as op
use Rattle.td_words.specs.declared.names.EntryState.{EntryState}
use Rattle.td_words.specs.declared.names.EntryState.TheVariants as entry
use Rattle.td_words.specs.declared.names.Mode.TheVariants.{Exclusive}
use Rattle.td_words.specs.declared.machines.Machine.{Machine}
use Rattle.td_words.specs.declared.replies.Value.TheVariants as value
use Rattle.td_words.specs.declared.replies.Reply.{Reply}
use Rattle.flat_core.specs.World.{World}
use Rattle.flat_core.specs.Row.{Item, Row, call_row}
use Rattle.flat_core.specs.Arguments.{page_argument, apart_argument, gpa_argument, aligned_argument, stream_argument, start_argument}
use Rattle.flat_core.specs.PageLists.{page_count, bundle_version, count_said, count_argument, gpas_argument, gpas_from}
use Rattle.flat_core.specs.Digests.{six_words}
use Rattle.flat_core.specs.Conditions.{page_exclusive, tree_shared, tree_exclusive, epoch_shared, keys_exclusive, td_page, td_shared, td_exclusive}
use Rattle.flat_core.specs.Tracking.{tracked_block}
use Rattle.flat_core.specs.Tree.{number_at, entry_at, walk, state_in, has_page, named_page}
use Rattle.flat_core.specs.Effects.{set_op, restate}
use Rattle.flat_core.specs.ExportRows.{abortable_ops}
use Rattle.flat_core.specs.Sessions.{stream_page, bundles_so_far, has_stream, counter_room, session_room, mig_epoch_room, all_restored, other_epoch, none_missing, none_dirty, td_state_left, vp_state_left, payload_words, About, about, make_bundle, begin_session, set_mig_epoch, count_export, note_td_export, note_vp_export}

-- the states from which a session begins, and in which the states of a TD and of its virtual processors are exported
abbrev pub session_ops : List OpState
session_ops = op.Runnable ∷ []

abbrev pub paused_ops : List OpState
paused_ops = op.PausedExport ∷ []

-- EXPORT.STATE.IMMUTABLE TDR SLOT: a session begins, and its first bundle has MRTD and says how many virtual processors there
-- are (ABI Reference, "TDH.EXPORT.STATE.IMMUTABLE")
abbrev pub export_immutable : Machine → (tdr slot : ℕ) → Row
export_immutable m tdr slot = call_row
    (λ w. page_argument m 1 tdr ∷ (td_exclusive w tdr session_ops ++ keys_exclusive ∷ has_stream w tdr 0 ∷ all_restored w tdr ∷ session_room w ∷ []))
    (λ w. make_bundle tdr slot (record (about 0 1) { info = length (w.tds.vps tdr) }) (six_words (w.tds.mrtds tdr)) (begin_session tdr w))
    (λ w. value.Nothing)

-- EXPORT.MEM TDR GPA STREAM SLOT [COUNT]: the bundle has the words of private pages at consecutive GPAs (ABI Reference,
-- "TDH.EXPORT.MEM"). While the TD is exported running, no translation may write to any of them any more, which the latest of
-- their blocks tells.
abbrev pub exportable : OpState → List EntryState
exportable op.LiveExport = entry.BlockedW ∷ entry.ExportedDirtyBlockedW ∷ []
exportable _ = entry.Mapped ∷ entry.BlockedW ∷ entry.ExportedDirty ∷ entry.ExportedDirtyBlockedW ∷ []

abbrev pub page_to_export : World → (tdr gpa : ℕ) → List (Item Reply)
page_to_export w t gpa =
    walk w t gpa 0 ++ has_page w t gpa 0 ∷ named_page w t gpa 0 Exclusive ∷ state_in w t gpa 0 (exportable (w.tds.ops t)) ∷ other_epoch w t gpa ∷ []

abbrev pub latest_block : World → (tdr : ℕ) → List ℕ → ℕ
latest_block w t [] = 0
latest_block w t (gpa ∷ []) = w.pages.blocked (entry_at w t 0 gpa).page
latest_block w t (gpa ∷ next ∷ gpas) = max (w.pages.blocked (entry_at w t 0 gpa).page) (latest_block w t (next ∷ gpas))

abbrev pub tracked_in : OpState → World → (tdr : ℕ) → List ℕ → List (Item Reply)
tracked_in op.LiveExport w t gpas = tracked_block w t (latest_block w t gpas) ∷ []
tracked_in _ w t gpas = []

abbrev pub words_of_pages : World → (tdr : ℕ) → List ℕ → List ℕ
words_of_pages w t [] = []
words_of_pages w t (gpa ∷ []) = payload_words (w.words (entry_at w t 0 gpa).page) 512
words_of_pages w t (gpa ∷ next ∷ gpas) = payload_words (w.words (entry_at w t 0 gpa).page) 512 ++ words_of_pages w t (next ∷ gpas)

abbrev pub about_pages : World → (tdr stream gpa : ℕ) → Option ℕ → About
about_pages w t k gpa count =
    record (about 3 (w.tds.mig_epochs t)) { version = bundle_version count; stream = k; info = count_said count; gpa = gpa }

-- each page is exported, and counted at the stream
abbrev pub export_page : (tdr stream gpa : ℕ) → World → World
export_page t k gpa w =
    count_export t k (entry_at w t 0 gpa).state (restate t (number_at 0 gpa) entry.ExportedBlockedW (w.tds.mig_epochs t) w)

abbrev pub export_each : (tdr stream : ℕ) → List ℕ → World → World
export_each t k [] w = w
export_each t k (gpa ∷ gpas) w = export_each t k gpas (export_page t k gpa w)

-- what is asked behind the arguments
abbrev pub export_conditions : World → (tdr stream : ℕ) → List ℕ → List (Item Reply)
export_conditions w t k gpas =
    td_shared w t abortable_ops ++ has_stream w t k ∷ tree_shared t ∷ epoch_shared t ∷ (flat_map (page_to_export w t) gpas
    ++ page_exclusive (stream_page w t k) ∷ counter_room w t k ∷ tracked_in (w.tds.ops t) w t gpas)

abbrev pub export_pages : Machine → (tdr gpa stream slot : ℕ) → Option ℕ → Row
export_pages m tdr gpa k slot count = let gpas = gpas_from gpa (page_count count) in call_row
    (λ w. page_argument m 1 tdr ∷ gpa_argument 2 gpa ∷ stream_argument 3 k
    ∷ (count_argument 5 count ++ aligned_argument 2 0 gpa ∷ (gpas_argument 5 gpa count ++ export_conditions w tdr k gpas)))
    (λ w. export_each tdr k gpas (make_bundle tdr slot (about_pages w tdr k gpa count) (words_of_pages w tdr gpas) w))
    (λ w. value.Nothing)

-- EXPORT.TRACK TDR SLOT START: a token ends the migration epoch and says how many bundles came before it; the start token is
-- the last one, once every state and no dirty page is left (ABI Reference, "TDH.EXPORT.TRACK")
abbrev pub start_epoch : ℕ
start_epoch = 2 ^ 32 - 1

abbrev pub token_ops : ℕ → List OpState
token_ops zero = abortable_ops
token_ops (suc n) = paused_ops

abbrev pub token_conditions : World → (tdr start : ℕ) → List (Item Reply)
token_conditions w t zero = mig_epoch_room w t ∷ []
token_conditions w t (suc n) = none_missing w t ∷ none_dirty w t ∷ []

abbrev pub track_export : (tdr start : ℕ) → World → World
track_export t zero w = set_mig_epoch t (w.tds.mig_epochs t + 1) w
track_export t (suc n) w = set_op t op.PostExport (set_mig_epoch t start_epoch w)

abbrev pub token_kind : ℕ → ℕ
token_kind zero = 4
token_kind (suc n) = 5

abbrev pub token_epoch : World → (tdr start : ℕ) → ℕ
token_epoch w t zero = w.tds.mig_epochs t + 1
token_epoch w t (suc n) = start_epoch

abbrev pub export_token : Machine → (tdr slot start : ℕ) → Row
export_token m tdr slot start = call_row
    (λ w. page_argument m 1 tdr ∷ start_argument 3 start ∷ (td_exclusive w tdr (token_ops start) ++ tree_exclusive tdr ∷ counter_room w tdr 0 ∷ token_conditions w tdr start))
    (λ w. make_bundle tdr slot (record (about (token_kind start) (token_epoch w tdr start)) { total = bundles_so_far w tdr }) [] (track_export tdr start w))
    (λ w. value.Nothing)

-- EXPORT.STATE.TD TDR SLOT: the bundle has the RTMRs (ABI Reference, "TDH.EXPORT.STATE.TD")
abbrev pub export_td : Machine → (tdr slot : ℕ) → Row
export_td m tdr slot = call_row
    (λ w. page_argument m 1 tdr ∷ (td_exclusive w tdr paused_ops ++ td_state_left w tdr ∷ counter_room w tdr 0 ∷ []))
    (λ w. make_bundle tdr slot (about 1 (w.tds.mig_epochs tdr)) (payload_words (w.hidden.rtmrs tdr) 24) (note_td_export tdr w))
    (λ w. value.Nothing)

-- EXPORT.STATE.VP TDR VP SLOT: the bundle has the registers of a virtual processor, its index and, in 32 bits, its position
-- (ABI Reference, "TDH.EXPORT.STATE.VP")
abbrev pub export_vp : Machine → (tdr vp slot : ℕ) → Row
export_vp m tdr vp slot = call_row
    (λ w. page_argument m 1 tdr ∷ page_argument m 2 vp ∷ apart_argument 2 vp tdr
    ∷ (td_exclusive w tdr paused_ops ++ page_exclusive vp ∷ td_page w tdr vp kind.Tdvpr ∷ vp_state_left w tdr vp ∷ counter_room w tdr 0 ∷ []))
    (λ w. make_bundle tdr slot (record (about 2 (w.tds.mig_epochs tdr)) { index = w.vps.indexes vp; info = w.vps.positions vp % 2 ^ 32 }) (payload_words (w.hidden.registers vp) 8) (note_vp_export tdr vp w))
    (λ w. value.Nothing)
