-- EXPORT.MEM as a decision over the words that it is told, its bundle, and its changes.
use Rattle.std.specs.Prelude.{ℕ, zero, suc, ◌+◌, ◌%◌, ◌^◌, ◌==◌, not, nat_lt, if◌then◌else◌, None, List, [], ◌∷◌}
use Rattle.td_words.specs.declared.names.EntryState.{EntryState}
use Rattle.td_words.specs.declared.names.EntryState.TheVariants as entry
use Rattle.td_words.specs.declared.names.OpState.{OpState}
use Rattle.td_words.specs.declared.names.OpState.TheVariants as op
use Rattle.td_words.specs.declared.names.Mode.TheVariants.{Shared, Exclusive}
use Rattle.td_words.specs.declared.machines.Machine.{Machine}
use Rattle.td_words.specs.declared.places.TheConstants.{TDCS_STREAM_COUNT, STREAM_COUNTER, STREAM_CLEANED, STREAM_FIRST_EXPORTS}
use Rattle.td_words.specs.declared.refusals.Status.TheVariants.{OperandInvalid, NoStream, ExportedThisEpoch}
use Rattle.td_words.specs.declared.replies.Value.TheVariants as value
use Rattle.td_words.specs.declared.replies.Reply.TheVariants.{Done}
use Rattle.td_words.specs.Packing.{is_exported}
use Rattle.td_words.specs.Place as place
use Rattle.flat_core.specs.Arguments.{level_size}
use Rattle.flat_core.specs.World.{ClearHeader, Made}
use Rattle.flat_core.specs.Processor.{OfPage}
use Rattle.flat_core.specs.ExportRows.{abortable_ops}
use Rattle.flat_core.specs.BundleRows.{exportable, export_pages}
use Rattle.sept_walk.specs.SecureEpt.{index_at}
use Rattle.word_rules.specs.Rules.{Whole}
use Rattle.leaf_engine.specs.declared.needs.Place.{Place}
use Rattle.leaf_engine.specs.Changes.{Change, Put}
use Rattle.leaf_engine.specs.Trees.{Answer, Tree, Lock, Load, End, only, needs}
use Rattle.leaf_engine.specs.Means.{Task, OfCall}
use Rattle.leaf_parts.specs.declared.heads.Td.{Td}
use Rattle.leaf_parts.specs.Heads.{td_head_tree}
use Rattle.mem_remove.specs.declared.named_entries.Named.{Named}
use Rattle.mem_remove.specs.TrackedTrees.{tracked_tree}
use Rattle.stream_parts.specs.declared.rooms.Room.{Room}
use Rattle.stream_parts.specs.Streams.{page_tree as stream_page_tree}
use Rattle.stream_parts.specs.Rooms.{counter_tree, session_tree, mig_epoch_tree}
use Rattle.export_core.specs.OpenedTrees.{restated}
use Rattle.export_core.specs.WriteTrees.{shared_walk, page_tree, held_tree}
use Rattle.export_pages.specs.declared.page_exports.Exporting.{Exporting}

-- a TDR page, the GPA of a private page, and a stream's number
abbrev pub page_export_arguments : Machine → (tdr gpa stream : ℕ) → Tree → Tree
page_export_arguments m tdr gpa k further =
    needs (nat_lt tdr m.pages) (OperandInvalid 1)
    (needs (nat_lt gpa (2 ^ 47)) (OperandInvalid 2)
    (needs (nat_lt k 4) (OperandInvalid 3)
    (needs (gpa % level_size 0 == 0) (OperandInvalid 2) further)))

-- the TD has a stream of that number
abbrev pub has_stream_tree : (tdcs stream : ℕ) → Tree → Tree
has_stream_tree tdcs k further = Load Whole (place.Word tdcs TDCS_STREAM_COUNT) (λ count. needs (nat_lt k count) (NoStream k) further)

-- under T and E the entry names a page, which is held alone, and is in a state that may be exported in the TD's operation state
abbrev pub exportable_tree : (pages t gpa : ℕ) → Td → (Named → Tree) → Tree
exportable_tree pages t gpa td further =
    shared_walk pages t gpa td.tdcs (λ at. page_tree pages gpa at (λ p. held_tree pages td.tdcs gpa at (exportable td.op) p further))

-- it wasn't exported in this migration epoch, which is told
abbrev pub other_epoch_tree : Named → (ℕ → Tree) → Tree
other_epoch_tree n further = mig_epoch_tree n.tdcs (λ epoch. needs (not (n.entry.mark == epoch)) ExportedThisEpoch (further epoch))

-- the page of the stream of that number is held alone, and has room for another bundle
abbrev pub held_room_tree : (pages tdcs stream : ℕ) → (Room → Tree) → Tree
held_room_tree pages tdcs k further = stream_page_tree pages tdcs k (λ page. Lock (OfPage page) (place.Lock page) Exclusive (counter_tree page further))

-- while guests may run no translation may write to the page any more
abbrev pub tracked_in_tree : OpState → (tdcs page : ℕ) → Tree → Tree
tracked_in_tree op.LiveExport tdcs page further = tracked_tree tdcs page further
tracked_in_tree _ tdcs page further = further

-- which word of its stream counts an entry of that state
abbrev pub counted_at : EntryState → ℕ
counted_at s = if is_exported s then STREAM_CLEANED else STREAM_FIRST_EXPORTS

-- what else its bundle says, and how many entries that word counted before
abbrev pub said_tree : Named → Room → (epoch : ℕ) → (Exporting → Tree) → Tree
said_tree n r e further =
    session_tree n.tdcs (λ s.
    Load Whole (place.Word r.page (counted_at n.entry.state)) (λ c.
    further (record { at = n.page; page = n.entry.page; state = n.entry.state; room = r; session = s; epoch = e; count = c })))

-- behind the entry
abbrev pub named_rest : (pages stream : ℕ) → OpState → Named → (Exporting → Tree) → Tree
named_rest pages k o n further = other_epoch_tree n (λ epoch. held_room_tree pages n.tdcs k (λ room. tracked_in_tree o n.tdcs n.entry.page (said_tree n room epoch further)))

-- behind the beginning of the row
abbrev pub td_rest : (pages t gpa stream : ℕ) → Td → (Exporting → Tree) → Tree
td_rest pages t gpa k td further = has_stream_tree td.tdcs k (exportable_tree pages t gpa td (λ n. named_rest pages k td.op n further))

-- all conditions
abbrev pub page_export_asked : Machine → (tdr gpa stream : ℕ) → (Exporting → Tree) → Tree
page_export_asked m tdr gpa k further = page_export_arguments m tdr gpa k (td_head_tree m.pages tdr Shared abortable_ops (λ td. td_rest m.pages tdr gpa k td further))

-- the words of a page from that one on, so many, one after another
unfoldable pub words_tree : (page from left : ℕ) → (List ℕ → Tree) → Tree
words_tree page from zero further = further []
words_tree page from (suc left) further = Load Whole (place.Word page from) (λ x. words_tree page (suc from) left (λ xs. further (x ∷ xs)))

-- the header of its bundle
abbrev pub page_header : (gpa stream : ℕ) → Exporting → ClearHeader
page_header g k x = record {
  size = 64;
  version = 1;
  stream = k;
  kind = 3;
  reserved = 0;
  counter = x.room.counter;
  epoch = x.epoch;
  iv = x.room.counter;
  session = x.session;
  index = 0;
  info = 0;
  gpa = g;
  total = 0;
}

abbrev pub page_bundle : (gpa stream slot : ℕ) → Exporting → List ℕ → Made
page_bundle g k h x ws = record { slot = h; header = page_header g k x; payload = ws }

abbrev pub page_answer : (gpa stream slot : ℕ) → Exporting → List ℕ → Answer
page_answer g k h x ws = record (only (Done value.Nothing)) { bundles = page_bundle g k h x ws ∷ [] }

-- the entry with its new state and mark is the act; then the stream counts the bundle and the entry
abbrev pub page_export_changes : (index : ℕ) → Exporting → List Change
page_export_changes index x =
    restated x.at index x.page entry.ExportedBlockedW x.epoch
    ∷ Put (place.Word x.room.page STREAM_COUNTER) (x.room.counter + 1)
    ∷ Put (place.Word x.room.page (counted_at x.state)) ((x.count + 1) % 2 ^ 64)
    ∷ []

abbrev pub page_export_end : (gpa stream slot : ℕ) → Exporting → List ℕ → Tree
page_export_end gpa k slot x ws = End (page_answer gpa k slot x ws) [] (page_export_changes (index_at 0 gpa) x)

-- behind all conditions the page's words are told
abbrev pub page_words_tree : (gpa stream slot : ℕ) → Exporting → Tree
page_words_tree gpa k slot x = words_tree x.page 0 512 (page_export_end gpa k slot x)

abbrev pub page_export_tree : Machine → (tdr gpa stream slot : ℕ) → Tree
page_export_tree m tdr gpa k slot = page_export_asked m tdr gpa k (page_words_tree gpa k slot)

abbrev pub page_export_task : Place → (tdr gpa stream slot : ℕ) → Task
page_export_task p tdr gpa k slot = record {
  place = p;
  tree = page_export_tree p.machine tdr gpa k slot;
  meaning = OfCall (export_pages p.machine tdr gpa k slot None);
}
