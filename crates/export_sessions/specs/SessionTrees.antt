-- The export of a TD's immutable state, with which a session begins, as a decision over the words that it is told; its
-- changes, and the bundle that it makes.
use Rattle.std.specs.Prelude.{ℕ, zero, suc, ◌+◌, ◌%◌, ◌^◌, ◌<◌, ◌≤◌, ◌==◌, nat_lt, length, List, [], ◌∷◌, ◌++◌, Result, Ok, Err}
use Rattle.std.specs.List.{All}
use Rattle.td_words.specs.declared.names.Counter.TheVariants as counter
use Rattle.td_words.specs.declared.names.OpState.TheVariants as op
use Rattle.td_words.specs.declared.names.Mode.TheVariants.{Exclusive}
use Rattle.td_words.specs.declared.machines.Machine.{Machine}
use Rattle.td_words.specs.declared.places.TheConstants.{TDCS_OP, TDCS_DIRTIED, TDCS_UNRESTORED, TDCS_MIG_EPOCH, TDCS_SESSION, TDCS_TD_EXPORTED, TDCS_VPS_EXPORTED, TDCS_VP_COUNT, TDCS_MRTD, STREAM_COUNTER, STREAM_CLEANED, STREAM_FIRST_EXPORTS, KEY_LOCK, KEY_LAST_EXPORTED}
use Rattle.td_words.specs.declared.refusals.Status.TheVariants.{OperandInvalid, NoStream, UnrestoredPages, CounterLimit}
use Rattle.td_words.specs.declared.replies.Reply.TheVariants.{Done}
use Rattle.td_words.specs.declared.replies.Value.TheVariants as value
use Rattle.td_words.specs.NameNumber.{op_number}
use Rattle.td_words.specs.Place as place
use Rattle.arrayvec.specs.ArrayVec.{ArrayVec}
use Rattle.flat_core.specs.World.{ClearHeader, Made}
use Rattle.flat_core.specs.Processor.{OfKeys}
use Rattle.flat_core.specs.BundleRows.{session_ops, export_immutable}
use Rattle.word_rules.specs.Rules.{Whole}
use Rattle.leaf_engine.specs.declared.needs.Place.{Place}
use Rattle.leaf_engine.specs.declared.plans.Stop.{Stop}
use Rattle.leaf_engine.specs.Changes.{Change, Put}
use Rattle.leaf_engine.specs.Trees.{Tree, Lock, Load, End, Answer, needs, only}
use Rattle.leaf_engine.specs.Means.{Task, OfCall}
use Rattle.leaf_parts.specs.Words.{vps_told}
use Rattle.leaf_parts.specs.Heads.{td_head_tree}
use Rattle.stream_parts.specs.Streams.{pages_tree, sum_tree}
use Rattle.export_sessions.specs.declared.changes.Session.{Session}
use Rattle.export_sessions.specs.declared.sessions.Export.{Export}

-- what is stored of a stream: it has counted so many bundles of the session, and nothing besides
abbrev pub stream_puts : (counter page : ℕ) → List Change
stream_puts counter p = Put (place.Word p STREAM_COUNTER) counter ∷ Put (place.Word p STREAM_CLEANED) 0 ∷ Put (place.Word p STREAM_FIRST_EXPORTS) 0 ∷ []

-- of the first of these so many, and of the others none
abbrev pub stream_changes : (counter : ℕ) → List ℕ → List Change
stream_changes counter [] = []
stream_changes counter (p ∷ ps) = stream_puts counter p ++ stream_changes 0 ps

-- of the TD: it is exported running, in the session of that number, from migration epoch 1 on, and nothing is counted yet
abbrev pub td_puts : (tdcs number : ℕ) → List Change
td_puts tdcs number =
    Put (place.Word tdcs TDCS_OP) (op_number op.LiveExport)
    ∷ Put (place.Word tdcs TDCS_SESSION) number
    ∷ Put (place.Word tdcs TDCS_MIG_EPOCH) 1
    ∷ Put (place.Word tdcs TDCS_TD_EXPORTED) 0
    ∷ Put (place.Word tdcs TDCS_VPS_EXPORTED) 0
    ∷ Put (place.Word tdcs TDCS_DIRTIED) 0
    ∷ Put (place.Word tdcs TDCS_UNRESTORED) 0
    ∷ []

-- its pages are of that machine, and there are at most four streams
abbrev pub IsSession : Machine → Session → Type 0
IsSession m s = (s.tdcs < m.pages) × All (λ p. p < m.pages) s.streams.items × (length s.streams.items ≤ 4)

-- the number of the last session in the key table is the act; then come the words of the TD and of its streams, of which the
-- first counts the bundle
abbrev pub session_changes : Session → List Change
session_changes s = Put (place.Key KEY_LAST_EXPORTED) s.number ∷ (td_puts s.tdcs s.number ++ stream_changes 1 s.streams.items)

-- the bundle: it is the first one of the session and of its first stream, and its payload is MRTD
abbrev pub session_header : Session → ClearHeader
session_header s = record {
  size = 64;
  version = 1;
  stream = 0;
  kind = 0;
  reserved = 0;
  counter = 0;
  epoch = 1;
  iv = 0;
  session = s.number;
  index = 0;
  info = s.vps;
  gpa = 0;
  total = 0;
}

abbrev pub session_bundle : (slot : ℕ) → Session → (mrtd : List ℕ) → Made
session_bundle slot s mrtd = record { slot = slot; header = session_header s; payload = mrtd }

-- there is a stream, and none of the TD's entries is exported
abbrev pub unrestored_tree : (tdcs : ℕ) → ArrayVec ℕ → (ArrayVec ℕ → Tree) → Tree
unrestored_tree tdcs streams further =
    needs (nat_lt 0 (length streams.items)) (NoStream 0)
    (Load Whole (place.Word tdcs TDCS_UNRESTORED) (λ unrestored.
    sum_tree STREAM_FIRST_EXPORTS streams.items (λ first.
    needs ((unrestored + first) % 2 ^ 64 == 0) (UnrestoredPages ((unrestored + first) % 2 ^ 64)) (further streams))))

abbrev pub restored_tree : (pages tdcs : ℕ) → (ArrayVec ℕ → Tree) → Tree
restored_tree pages tdcs further = pages_tree pages tdcs (λ streams. unrestored_tree tdcs streams further)

-- there is a number for another session, and how many virtual processors the TD has
abbrev pub numbered_tree : (tdcs : ℕ) → ArrayVec ℕ → (Session → Tree) → Tree
numbered_tree tdcs streams further =
    Load Whole (place.Key KEY_LAST_EXPORTED) (λ last.
    needs (nat_lt last 65535) (CounterLimit counter.Session)
    (Load Whole (place.Word tdcs TDCS_VP_COUNT) (λ vps. further (record { tdcs = tdcs; streams = streams; number = last + 1; vps = vps_told vps }))))

-- so many words of a page from one on
abbrev pub words_tree : (page at left : ℕ) → (List ℕ → Tree) → Tree
words_tree page at zero further = further []
words_tree page at (suc left) further = Load Whole (place.Word page at) (λ word. words_tree page (at + 1) left (λ words. further (word ∷ words)))

-- behind the beginning of a TD's row: the key table is held alone
abbrev pub session_rest : (pages tdcs : ℕ) → (Session → Tree) → Tree
session_rest pages tdcs further = Lock OfKeys (place.Key KEY_LOCK) Exclusive (restored_tree pages tdcs (λ streams. numbered_tree tdcs streams further))

-- a session that begins with these words of MRTD
pub record Exported : Type 0 where
  pub session : Session
  pub mrtd : List ℕ

abbrev pub begun_tree : Machine → (tdr : ℕ) → (Session → Tree) → Tree
begun_tree m tdr further = needs (nat_lt tdr m.pages) (OperandInvalid 1) (td_head_tree m.pages tdr Exclusive session_ops (λ td. session_rest m.pages td.tdcs further))

abbrev pub with_mrtd : (Exported → Tree) → Session → Tree
with_mrtd further s = words_tree s.tdcs TDCS_MRTD 6 (λ words. further (record { session = s; mrtd = words }))

abbrev pub export_tree : Machine → (tdr : ℕ) → (Exported → Tree) → Tree
export_tree m tdr further = begun_tree m tdr (with_mrtd further)

-- the end: the bundle is made, and the session begins
abbrev pub session_answer : (slot : ℕ) → Exported → Answer
session_answer slot e = record (only (Done value.Nothing)) { bundles = session_bundle slot e.session e.mrtd ∷ [] }

abbrev pub session_end : (slot : ℕ) → Exported → Tree
session_end slot e = End (session_answer slot e) [] (session_changes e.session)

abbrev pub immutable_task : Place → (tdr slot : ℕ) → Task
immutable_task p tdr slot = record { place = p; tree = export_tree p.machine tdr (session_end slot); meaning = OfCall (export_immutable p.machine tdr slot) }

-- what the code comes to, as its tree tells it on: words that are passed, and a session
abbrev pub passed_in : {A : Type 0} → (words : List ℕ) → Result A Stop → Result (List ℕ) Stop
passed_in words (Ok x) = Ok words
passed_in words (Err e) = Err e

abbrev pub exported_in : Result Export Stop → Result Exported Stop
exported_in (Ok e) = Ok (record { session = e.session; mrtd = e.mrtd.now })
exported_in (Err e) = Err e
