-- Words that the rows of a migration session are written in (TD Migration Architecture, "Migration Session Control" and
-- "Migration Bundles").
use Rattle.std.specs.Prelude.{ℕ, ◌+◌, ◌-◌, ◌%◌, ◌^◌, List, length, map, not, ◌==◌, nat_lt, slice_index_or, if◌then◌else◌}
use Rattle.std.specs.List.{list_any, range_with_len, sum_by}
use Rattle.td_words.specs.declared.names.EntryState.{EntryState}
use Rattle.td_words.specs.declared.names.Counter.TheVariants as counter
use Rattle.td_words.specs.declared.names.OpState.TheVariants as op
use Rattle.td_words.specs.declared.refusals.Status.TheVariants.{CounterLimit, NoStream, UnrestoredPages, ExportedThisEpoch, StateMissing, DirtyPages, AlreadyExported}
use Rattle.td_words.specs.declared.replies.Reply.{Reply}
use Rattle.td_words.specs.Packing.{is_exported}
use Rattle.flat_core.specs.World.{World, ClearHeader, put}
use Rattle.flat_core.specs.Row.{Item, needs}
use Rattle.flat_core.specs.Tree.{entry_at}
use Rattle.flat_core.specs.Effects.{add_bundle}

-- the page of a TD's stream, and its counter
abbrev pub stream_page : World → (t stream : ℕ) → ℕ
stream_page w t k = slice_index_or (w.tds.streams t) k 0

abbrev pub stream_counter : World → (t stream : ℕ) → ℕ
stream_counter w t k = w.streams.counters (stream_page w t k)

-- bundles of the session so far, on all streams
abbrev pub bundles_so_far : World → ℕ → ℕ
bundles_so_far w t = sum_by w.streams.counters (w.tds.streams t)

-- how many entries are exported, and how many of these are dirty
abbrev pub unrestored_count : World → ℕ → ℕ
unrestored_count w t = (w.tds.unrestored t + sum_by w.streams.first_exports (w.tds.streams t)) % 2 ^ 64

abbrev pub dirty_count : World → ℕ → ℕ
dirty_count w t = w.tds.dirtied t - sum_by w.streams.cleaned (w.tds.streams t)

-- how many states of the TD and of its virtual processors weren't exported in the session
abbrev pub missing_states : World → ℕ → ℕ
missing_states w t = (1 - w.tds.td_exported t) + (length (w.tds.vps t) - w.tds.vps_exported t)

-- conditions
abbrev pub has_stream : World → (t stream : ℕ) → Item Reply
has_stream w t k = needs (nat_lt k (length (w.tds.streams t))) (NoStream k)

abbrev pub counter_room : World → (t stream : ℕ) → Item Reply
counter_room w t k = needs (nat_lt (stream_counter w t k) (2 ^ 32 - 1)) (CounterLimit counter.Mb)

abbrev pub session_room : World → Item Reply
session_room w = needs (nat_lt w.key_table.last_exported 65535) (CounterLimit counter.Session)

abbrev pub mig_epoch_room : World → ℕ → Item Reply
mig_epoch_room w t = needs (nat_lt (w.tds.mig_epochs t) (2 ^ 32 - 2)) (CounterLimit counter.MigEpoch)

abbrev pub all_restored : World → ℕ → Item Reply
all_restored w t = needs (unrestored_count w t == 0) (UnrestoredPages (unrestored_count w t))

abbrev pub other_epoch : World → (tdr gpa : ℕ) → Item Reply
other_epoch w t gpa = needs (not ((entry_at w t 0 gpa).mark == w.tds.mig_epochs t)) ExportedThisEpoch

abbrev pub none_missing : World → ℕ → Item Reply
none_missing w t = needs (missing_states w t == 0) (StateMissing (missing_states w t))

abbrev pub none_dirty : World → ℕ → Item Reply
none_dirty w t = needs (dirty_count w t == 0) (DirtyPages (dirty_count w t))

abbrev pub td_state_left : World → ℕ → Item Reply
td_state_left w t = needs (w.tds.td_exported t == 0) AlreadyExported

abbrev pub vp_state_left : World → (tdr vp : ℕ) → Item Reply
vp_state_left w t v = needs (not (w.vps.exported v == w.tds.sessions t)) AlreadyExported

-- the words of a payload, in order
abbrev pub payload_words : (ℕ → ℕ) → ℕ → List ℕ
payload_words ws n = map ws (range_with_len 0 n)

-- what differs from one bundle of a session to the next; and what differs by kind and epoch alone
pub record About : Type 0 where
  pub version : ℕ
  pub stream : ℕ
  pub kind : ℕ
  pub epoch : ℕ
  pub index : ℕ
  pub info : ℕ
  pub gpa : ℕ
  pub total : ℕ

abbrev pub about : (kind epoch : ℕ) → About
about k e = record { version = 1; stream = 0; kind = k; epoch = e; index = 0; info = 0; gpa = 0; total = 0 }

-- its header: its stream's counter is the counter and the IV
abbrev pub header_of : World → ℕ → About → ClearHeader
header_of w t a = record {
  size = 64;
  version = a.version;
  stream = a.stream;
  kind = a.kind;
  reserved = 0;
  counter = stream_counter w t a.stream;
  epoch = a.epoch;
  iv = stream_counter w t a.stream;
  session = w.tds.sessions t;
  index = a.index;
  info = a.info;
  gpa = a.gpa;
  total = a.total;
}

abbrev pub count_bundle : (t stream : ℕ) → World → World
count_bundle t k w = record w { streams = record (w.streams) { counters = put w.streams.counters (stream_page w t k) (stream_counter w t k + 1) } }

-- a bundle is made, and its stream counts it
abbrev pub make_bundle : (t slot : ℕ) → About → List ℕ → World → World
make_bundle t slot a payload w = count_bundle t a.stream (add_bundle (record { slot = slot; header = header_of w t a; payload = payload }) w)

-- but v at each of these
abbrev pub put_all : {A : Type 0} → (ℕ → A) → List ℕ → A → ℕ → A
put_all f ps v n = if list_any (λ p. p == n) ps then v else f n

-- A session begins: the TD is exported running, under a number that was never used, from migration epoch 1 on; nothing is
-- counted yet.
abbrev pub begin_session : ℕ → World → World
begin_session t w = record w {
  tds = record (w.tds) {
    ops = put w.tds.ops t op.LiveExport;
    sessions = put w.tds.sessions t (w.key_table.last_exported + 1);
    mig_epochs = put w.tds.mig_epochs t 1;
    td_exported = put w.tds.td_exported t 0;
    vps_exported = put w.tds.vps_exported t 0;
    dirtied = put w.tds.dirtied t 0;
    unrestored = put w.tds.unrestored t 0;
  };
  streams = record {
    counters = put_all w.streams.counters (w.tds.streams t) 0;
    cleaned = put_all w.streams.cleaned (w.tds.streams t) 0;
    first_exports = put_all w.streams.first_exports (w.tds.streams t) 0;
  };
  key_table = record (w.key_table) { last_exported = w.key_table.last_exported + 1 };
}

abbrev pub set_mig_epoch : (t epoch : ℕ) → World → World
set_mig_epoch t e w = record w { tds = record (w.tds) { mig_epochs = put w.tds.mig_epochs t e } }

-- an exported page is counted at its stream: as cleaned where it was exported before in the session, else as a first export
abbrev pub count_export : (t stream : ℕ) → EntryState → World → World
count_export t k s w = record w {
  streams = record (w.streams) {
    cleaned = if is_exported s then put w.streams.cleaned (stream_page w t k) (w.streams.cleaned (stream_page w t k) + 1) else w.streams.cleaned;
    first_exports = if is_exported s then w.streams.first_exports else put w.streams.first_exports (stream_page w t k) (w.streams.first_exports (stream_page w t k) + 1);
  };
}

-- the TD state, and a VCPU state, were exported in the session; these are counted in a word
abbrev pub note_td_export : ℕ → World → World
note_td_export t w = record w { tds = record (w.tds) { td_exported = put w.tds.td_exported t 1 } }

abbrev pub note_vp_export : (t vp : ℕ) → World → World
note_vp_export t v w = record w {
  tds = record (w.tds) { vps_exported = put w.tds.vps_exported t ((w.tds.vps_exported t + 1) % 2 ^ 64) };
  vps = record (w.vps) { exported = put w.vps.exported v (w.tds.sessions t) };
}
