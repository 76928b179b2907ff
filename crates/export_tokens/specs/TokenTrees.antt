-- A token of an export as a decision over the words that it is told, its bundle, and its changes.
use Rattle.std.specs.Prelude.{ℕ, zero, suc, ◌+◌, ◌-◌, ◌^◌, ◌==◌, nat_lt, List, [], ◌∷◌}
use Rattle.td_words.specs.declared.names.OpState.{OpState}
use Rattle.td_words.specs.declared.names.OpState.TheVariants as op
use Rattle.td_words.specs.declared.names.Counter.TheVariants.{MigEpoch}
use Rattle.td_words.specs.declared.machines.Machine.{Machine}
use Rattle.td_words.specs.declared.places.TheConstants.{TDCS_OP, TDCS_DIRTIED, TDCS_MIG_EPOCH, TDCS_TD_EXPORTED, TDCS_VPS_EXPORTED, TDCS_VP_COUNT, STREAM_COUNTER, STREAM_CLEANED}
use Rattle.td_words.specs.declared.refusals.Status.TheVariants.{OperandInvalid, CounterLimit, StateMissing, DirtyPages}
use Rattle.td_words.specs.declared.replies.Reply.TheVariants.{Done}
use Rattle.td_words.specs.declared.replies.Value.TheVariants as value
use Rattle.td_words.specs.NameNumber.{op_number}
use Rattle.td_words.specs.Place as place
use Rattle.flat_core.specs.World.{ClearHeader, Made}
use Rattle.flat_core.specs.ExportRows.{abortable_ops}
use Rattle.flat_core.specs.BundleRows.{paused_ops, start_epoch, token_kind, export_token}
use Rattle.word_rules.specs.Rules.{Whole}
use Rattle.leaf_engine.specs.declared.needs.Place.{Place}
use Rattle.leaf_engine.specs.Changes.{Change, Put}
use Rattle.leaf_engine.specs.Trees.{Tree, Load, End, only, needs}
use Rattle.leaf_engine.specs.Means.{Task, OfCall}
use Rattle.leaf_parts.specs.Words.{vps_told}
use Rattle.stream_parts.specs.Streams.{pages_tree, sum_tree}
use Rattle.stream_parts.specs.Rooms.{room_tree, session_tree, mig_epoch_tree}
use Rattle.stream_parts.specs.AloneTrees.{td_alone_tree}
use Rattle.export_tokens.specs.declared.tokens.Streams.{Streams}
use Rattle.export_tokens.specs.declared.tokens.TokenWords.{TokenWords}

-- the beginning of both tokens' rows: the map is held alone, and stream 0 has room. The pages of all streams come with it
abbrev pub streams_tree : Machine → (tdr : ℕ) → List OpState → (Streams → Tree) → Tree
streams_tree m tdr allowed further =
    td_alone_tree m.pages tdr allowed (λ d.
    room_tree m.pages d 0 (λ room.
    pages_tree m.pages d (λ pages. further (record { tdcs = d; room = room; pages = pages }))))

-- the migration epoch that a token begins, which isn't the last one
abbrev pub next_epoch_tree : (tdcs : ℕ) → (ℕ → Tree) → Tree
next_epoch_tree tdcs further = mig_epoch_tree tdcs (λ epoch. needs (nat_lt epoch (2 ^ 32 - 2)) (CounterLimit MigEpoch) (further (epoch + 1)))

-- the TD state and every VCPU state were exported in the session
abbrev pub missing_in : (td_exported vps vps_exported : ℕ) → ℕ
missing_in td_exported vps vps_exported = (1 - td_exported) + (vps_told vps - vps_exported)

abbrev pub none_missing_tree : (tdcs : ℕ) → Tree → Tree
none_missing_tree tdcs further =
    Load Whole (place.Word tdcs TDCS_TD_EXPORTED) (λ td_exported.
    Load Whole (place.Word tdcs TDCS_VP_COUNT) (λ vps.
    Load Whole (place.Word tdcs TDCS_VPS_EXPORTED) (λ vps_exported.
    needs (missing_in td_exported vps vps_exported == 0) (StateMissing (missing_in td_exported vps vps_exported)) further)))

-- no page is dirty
abbrev pub none_dirty_tree : (tdcs : ℕ) → List ℕ → Tree → Tree
none_dirty_tree tdcs pages further =
    Load Whole (place.Word tdcs TDCS_DIRTIED) (λ dirtied.
    sum_tree STREAM_CLEANED pages (λ cleaned. needs (dirtied - cleaned == 0) (DirtyPages (dirtied - cleaned)) further))

-- how many bundles came before it, and the session
abbrev pub total_tree : Streams → (epoch : ℕ) → (TokenWords → Tree) → Tree
total_tree s epoch further =
    sum_tree STREAM_COUNTER s.pages.items (λ total.
    session_tree s.tdcs (λ session. further (record { tdcs = s.tdcs; room = s.room; epoch = epoch; session = session; total = total })))

-- what comes behind the arguments, by START
abbrev pub parts_tree : Machine → (tdr start : ℕ) → (TokenWords → Tree) → Tree
parts_tree m tdr zero further = streams_tree m tdr abortable_ops (λ s. next_epoch_tree s.tdcs (λ epoch. total_tree s epoch further))
parts_tree m tdr (suc n) further =
    streams_tree m tdr paused_ops (λ s. none_missing_tree s.tdcs (none_dirty_tree s.tdcs s.pages.items (total_tree s start_epoch further)))

abbrev pub whole_tree : Machine → (tdr start : ℕ) → (TokenWords → Tree) → Tree
whole_tree m tdr start further = needs (nat_lt tdr m.pages) (OperandInvalid 1) (needs (nat_lt start 2) (OperandInvalid 3) (parts_tree m tdr start further))

-- its bundle: on stream 0, with nothing but a header
abbrev pub token_header : (start : ℕ) → TokenWords → ClearHeader
token_header start x = record {
  size = 64;
  version = 1;
  stream = 0;
  kind = token_kind start;
  reserved = 0;
  counter = x.room.counter;
  epoch = x.epoch;
  iv = x.room.counter;
  session = x.session;
  index = 0;
  info = 0;
  gpa = 0;
  total = x.total;
}

abbrev pub token_made : (slot start : ℕ) → TokenWords → Made
token_made slot start x = record { slot = slot; header = token_header start x; payload = [] }

-- the store of the migration epoch is the act; then a start token ends the export's running, and stream 0 counts the bundle
abbrev pub count_change : (page counter : ℕ) → List Change
count_change page counter = Put (place.Word page STREAM_COUNTER) (counter + 1) ∷ []

abbrev pub token_changes : (start tdcs page epoch counter : ℕ) → List Change
token_changes zero tdcs page epoch counter = Put (place.Word tdcs TDCS_MIG_EPOCH) epoch ∷ count_change page counter
token_changes (suc n) tdcs page epoch counter = Put (place.Word tdcs TDCS_MIG_EPOCH) epoch ∷ Put (place.Word tdcs TDCS_OP) (op_number op.PostExport) ∷ count_change page counter

abbrev pub token_end : (slot start : ℕ) → TokenWords → Tree
token_end slot start x = End (record (only (Done value.Nothing)) { bundles = token_made slot start x ∷ [] }) [] (token_changes start x.tdcs x.room.page x.epoch x.room.counter)

abbrev pub token_tree : Machine → (tdr slot start : ℕ) → Tree
token_tree m tdr slot start = whole_tree m tdr start (token_end slot start)

abbrev pub token_task : Place → (tdr slot start : ℕ) → Task
token_task p tdr slot start = record { place = p; tree = token_tree p.machine tdr slot start; meaning = OfCall (export_token p.machine tdr slot start) }
