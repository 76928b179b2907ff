-- What every world of every run keeps. What is said of a TD's pages and HKID holds while the TD is alive: its page is a
-- TDR page, and its life isn't at its end.
use Rattle.std.specs.Prelude.{◌≡◌, ◌≢◌, ℕ, suc, ◌+◌, ◌*◌, ◌/◌, ◌%◌, ◌^◌, ◌<◌, ◌≤◌, List, [], ◌∷◌, length, Option, Some, None, Bool, true, false, not, ◌==◌, ◌&&◌, slice_get}
use Rattle.std.specs.List.{list_any, sum_by}
use Rattle.td_words.specs.declared.names.PageKind.{PageKind}
use Rattle.td_words.specs.declared.names.PageKind.TheVariants as kind
use Rattle.td_words.specs.declared.names.LifeState.TheVariants as life
use Rattle.td_words.specs.declared.names.OpState.{OpState}
use Rattle.td_words.specs.declared.names.OpState.TheVariants as op
use Rattle.td_words.specs.declared.names.OpState.TheVariants.{Uninitialized}
use Rattle.td_words.specs.declared.names.EntryState.{EntryState}
use Rattle.td_words.specs.declared.names.EntryState.TheVariants as entry
use Rattle.td_words.specs.declared.machines.Machine.{Machine}
use Rattle.td_words.specs.NameNumber.{life_number}
use Rattle.td_words.specs.Packing.{is_lawful_entry, is_exported, Key, Unassigned, AssignedTo, FlushedOf}
use Rattle.flat_core.specs.World.{World, Pages, Tds, Streams, KeyTable, free_entry}
use Rattle.flat_core.specs.Row.{Row, Passes}
use Rattle.flat_core.specs.Arguments.{level_size}
use Rattle.flat_core.specs.Conditions.{is_host_in}
use Rattle.flat_core.specs.Exports.{is_dirty, entries_where}
use Rattle.flat_core.specs.PageLists.{most_pages}

-- a TD that is alive
pub record IsAlive (pages : Pages) (tds : Tds) (t : ℕ) : Type 0 where
  pub kind : pages.kinds t ≡ kind.Tdr
  pub life : (life_number (tds.lives t) == life_number life.Teardown) ≡ false

-- a page of that kind, of that TD
pub record IsPageOf (pages : Pages) (t p : ℕ) (k : PageKind) : Type 0 where
  pub kind : pages.kinds p ≡ k
  pub owner : pages.owners p ≡ t

-- and the node of that level and number of its TD's tree
pub record IsNodeOf (pages : Pages) (t p : ℕ) (k : PageKind) (level number : ℕ) : Type 0 where
  pub page : IsPageOf pages t p k
  pub level_is : pages.levels p ≡ level
  pub number_is : pages.numbers p ≡ number

-- pages: a TDR page owns itself, and a page that isn't the host's belongs to a TDR page; both are pages of the machine;
-- the PAMT says nothing else of a host page
pub record LawfulPages (count : ℕ) (pages : Pages) : Type 0 where
  pub tdr : (t : ℕ) → pages.kinds t ≡ kind.Tdr → pages.owners t ≡ t
  pub owner : (p : ℕ) → is_host_in pages p ≡ false → pages.kinds (pages.owners p) ≡ kind.Tdr
  pub in_machine : (p : ℕ) → is_host_in pages p ≡ false → p < count
  pub host : (p : ℕ) → is_host_in pages p ≡ true → (pages.owners p ≡ 0) × (pages.blocked p ≡ 0)
  pub blocked : (p : ℕ) → pages.blocked p < 2 ^ 32

-- the TDCX pages of a TD: at most two, its own, and not the same one
abbrev pub AreControls : Pages → ℕ → List ℕ → Type 0
AreControls pages t [] = Unit {0}
AreControls pages t (c ∷ []) = IsPageOf pages t c kind.Tdcx
AreControls pages t (c ∷ r ∷ []) = IsPageOf pages t c kind.Tdcx × IsPageOf pages t r kind.Tdcx × ((c == r) ≡ false)
AreControls pages t (c ∷ r ∷ x ∷ cs) = ⊥

-- pages of one kind of a TD
abbrev pub ArePagesOf : Pages → ℕ → PageKind → List ℕ → Type 0
ArePagesOf pages t k [] = Unit {0}
ArePagesOf pages t k (p ∷ ps) = IsPageOf pages t p k × ArePagesOf pages t k ps

-- no page comes twice
abbrev pub all_differ : List ℕ → Bool
all_differ [] = true
all_differ (p ∷ ps) = not (list_any (λ q. q == p) ps) && all_differ ps

-- the control pages, virtual processors and streams of a TD, and TD_EPOCH: at least 1 from MNG.INIT on
pub record LawfulTds (pages : Pages) (tds : Tds) : Type 0 where
  pub controls : (t : ℕ) → IsAlive pages tds t → AreControls pages t (tds.controls t)
  pub vps : (t : ℕ) → IsAlive pages tds t → ArePagesOf pages t kind.Tdvpr (tds.vps t)
  pub vps_few : (t : ℕ) → length (tds.vps t) ≤ 8
  pub vps_differ : (t : ℕ) → all_differ (tds.vps t) ≡ true
  pub vps_expected : (t : ℕ) → tds.vps_expected t ≤ 8
  pub streams : (t : ℕ) → IsAlive pages tds t → ArePagesOf pages t kind.Migsc (tds.streams t)
  pub streams_few : (t : ℕ) → length (tds.streams t) ≤ 4
  pub streams_differ : (t : ℕ) → all_differ (tds.streams t) ≡ true
  pub epoch : (t : ℕ) → tds.epochs t < 2 ^ 32
  pub epoch_begun : (t : ℕ) → tds.ops t ≢ Uninitialized → 1 ≤ tds.epochs t

-- a page of that kind of a TD that is alive is in the TD's list
abbrev pub IsListed : Pages → Tds → (ℕ → List ℕ) → PageKind → ℕ → Type 0
IsListed pages tds lists k p = pages.kinds p ≡ k → IsAlive pages tds (pages.owners p) → list_any (λ q. q == p) (lists (pages.owners p)) ≡ true

-- each control page, virtual processor and stream page of a TD is in its list, a virtual processor at its index
pub record LawfulLists (pages : Pages) (tds : Tds) (indexes : ℕ → ℕ) : Type 0 where
  pub control : (p : ℕ) → IsListed pages tds tds.controls kind.Tdcx p
  pub vp : (p : ℕ) → IsListed pages tds tds.vps kind.Tdvpr p
  pub stream : (p : ℕ) → IsListed pages tds tds.streams kind.Migsc p
  pub index : (t i v : ℕ) → IsAlive pages tds t → slice_get (tds.vps t) i ≡ Some v → indexes v ≡ i

-- an entry that maps a secure EPT page, blocked or not; and one that is FREE
abbrev pub is_node : EntryState → Bool
is_node entry.NlMapped = true
is_node entry.NlBlocked = true
is_node _ = false

abbrev pub is_free : EntryState → Bool
is_free entry.Free = true
is_free _ = false

-- the pages that entries name: secure EPT pages and private pages
abbrev pub is_named_kind : PageKind → Bool
is_named_kind kind.Ept = true
is_named_kind kind.Reg = true
is_named_kind _ = false

-- Ownership: an entry that isn't FREE names a page that its TD owns, at its own node, so no page is named twice and a
-- host page by none; each secure EPT page and each private page is named by the entry at its node, of level 3 at most;
-- nothing is mapped below a FREE entry; and each GPA that is mapped is below 2^47.
-- In a machine within the limits each entry has a packing.
pub record LawfulTree (count : ℕ) (pages : Pages) (tds : Tds) : Type 0 where
  pub entry : count ≤ 1024 → (t l n : ℕ) → is_lawful_entry (tds.entries t l n) ≡ true
  pub upper : (t l n : ℕ) → IsAlive pages tds t → is_free (tds.entries t (suc l) n).state ≡ false
      → (is_node (tds.entries t (suc l) n).state ≡ true) × IsNodeOf pages t (tds.entries t (suc l) n).page kind.Ept (suc l) n
  pub lowest : (t n : ℕ) → IsAlive pages tds t → is_free (tds.entries t 0 n).state ≡ false
      → (is_node (tds.entries t 0 n).state ≡ false) × IsNodeOf pages t (tds.entries t 0 n).page kind.Reg 0 n
  pub below : (t l n : ℕ) → l < 3 → IsAlive pages tds t → is_free (tds.entries t l n).state ≡ false → is_free (tds.entries t (suc l) (n / 512)).state ≡ false
  pub in_range : (t l n : ℕ) → is_free (tds.entries t l n).state ≡ false → n * level_size l < 2 ^ 47
  pub named : (p : ℕ) → is_named_kind (pages.kinds p) ≡ true → IsAlive pages tds (pages.owners p)
      → (is_free (tds.entries (pages.owners p) (pages.levels p) (pages.numbers p)).state ≡ false)
      × ((tds.entries (pages.owners p) (pages.levels p) (pages.numbers p)).page ≡ p)
      × (pages.levels p ≤ 3)

-- the TD that the key table gives an HKID to
abbrev pub key_owner : Key → Option ℕ
key_owner Unassigned = None
key_owner (AssignedTo t) = Some t
key_owner (FlushedOf t b) = Some t

-- an HKID that is flushed, written back or not
abbrev pub is_flushed : Key → Bool
is_flushed Unassigned = false
is_flushed (AssignedTo t) = false
is_flushed (FlushedOf t b) = true

-- the HKID of a TD that is alive is one of the machine's and its own, and is flushed exactly where the TD is blocked;
-- and each HKID that isn't free is that of such a TD
pub record LawfulKeys (count : ℕ) (pages : Pages) (tds : Tds) (table : KeyTable) : Type 0 where
  pub in_range : (t : ℕ) → IsAlive pages tds t → (1 ≤ tds.hkids t) × (tds.hkids t ≤ count)
  pub owner : (t : ℕ) → IsAlive pages tds t → key_owner (table.keys (tds.hkids t)) ≡ Some t
  pub owned : (h t : ℕ) → key_owner (table.keys h) ≡ Some t → IsAlive pages tds t × (tds.hkids t ≡ h)
  pub flushed : (t : ℕ) → IsAlive pages tds t → is_flushed (table.keys (tds.hkids t)) ≡ (life_number (tds.lives t) == life_number life.Blocked)

-- a TD as MNG.CREATE begins it
pub record IsNew (tds : Tds) (rtmrs : ℕ → ℕ → ℕ) (t : ℕ) : Type 0 where
  pub op : tds.ops t ≡ Uninitialized
  pub epoch : tds.epochs t ≡ 0
  pub entries : (l n : ℕ) → tds.entries t l n ≡ free_entry
  pub vps : tds.vps t ≡ []
  pub vps_expected : tds.vps_expected t ≡ 0
  pub streams : tds.streams t ≡ []
  pub mrtd : (k : ℕ) → tds.mrtds t k ≡ 0
  pub session : tds.sessions t ≡ 0
  pub mig_epoch : tds.mig_epochs t ≡ 0
  pub td_exported : tds.td_exported t ≡ 0
  pub vps_exported : tds.vps_exported t ≡ 0
  pub dirtied : tds.dirtied t ≡ 0
  pub unrestored : tds.unrestored t ≡ 0
  pub rtmr : (k : ℕ) → rtmrs t k ≡ 0

-- nothing of what stands in TDCS or in the secure EPT has changed before the TD has its two TDCX pages
pub record LawfulBeginnings (pages : Pages) (tds : Tds) (rtmrs : ℕ → ℕ → ℕ) : Type 0 where
  pub is_new : (t : ℕ) → IsAlive pages tds t → (length (tds.controls t) == 2) ≡ false → IsNew tds rtmrs t

-- The dirty entries of a TD are the pages dirtied less all that its streams cleaned; and its exported ones are the unrestored
-- entries with all first exports, modulo 2^64 (TD Migration Architecture, "Private Memory Migration").
pub record LawfulCounts (count : ℕ) (pages : Pages) (tds : Tds) (streams : Streams) : Type 0 where
  pub dirtied : (t : ℕ) → IsAlive pages tds t → entries_where is_dirty count pages tds t + sum_by streams.cleaned (tds.streams t) ≡ tds.dirtied t
  pub unrestored : (t : ℕ) → IsAlive pages tds t → entries_where is_exported count pages tds t ≡ (tds.unrestored t + sum_by streams.first_exports (tds.streams t)) % 2 ^ 64

-- A stream counts its bundles in 32 bits; each page that it cleaned, and each that it exported first, was in one of them. The
-- streams of a TD that is UNINITIALIZED have counted nothing.
pub record LawfulStreams (pages : Pages) (tds : Tds) (streams : Streams) : Type 0 where
  pub counter : (s : ℕ) → streams.counters s < 2 ^ 32
  pub cleaned : (s : ℕ) → streams.cleaned s ≤ most_pages * streams.counters s
  pub first_exports : (s : ℕ) → streams.first_exports s ≤ most_pages * streams.counters s
  pub uncounted : (t s : ℕ) → IsAlive pages tds t → tds.ops t ≡ Uninitialized → list_any (λ q. q == s) (tds.streams t) ≡ true → streams.counters s ≡ 0

-- the operation states of a TD that is being exported
abbrev pub is_exporting : OpState → Bool
is_exporting op.LiveExport = true
is_exporting op.PausedExport = true
is_exporting op.PostExport = true
is_exporting _ = false

-- and of one that is being imported, or whose import was given up
abbrev pub is_importing : OpState → Bool
is_importing op.MemoryImport = true
is_importing op.StateImport = true
is_importing op.PostImport = true
is_importing op.LiveImport = true
is_importing op.FailedImport = true
is_importing _ = false

-- the most virtual processors of a TD in an operation state: none before its MNG.INIT or its import, and until all of an
-- import's states have come in, as many as it expects (ABI Reference, "TDH.VP.CREATE")
abbrev pub most_vps : OpState → (expected : ℕ) → ℕ
most_vps op.Uninitialized expected = 0
most_vps op.MemoryImport expected = expected
most_vps op.StateImport expected = expected
most_vps _ expected = 8

-- A session has a number of 16 bits and a migration epoch of 32; an export has a first stream, and its epochs begin with 1; an
-- import has a first stream as well, and no more virtual processors than it expects.
pub record LawfulSessions (tds : Tds) (table : KeyTable) : Type 0 where
  pub last_exported : table.last_exported < 2 ^ 16
  pub session : (t : ℕ) → tds.sessions t < 2 ^ 16
  pub mig_epoch : (t : ℕ) → tds.mig_epochs t < 2 ^ 32
  pub mig_epoch_begun : (t : ℕ) → is_exporting (tds.ops t) ≡ true → 1 ≤ tds.mig_epochs t
  pub first_stream : (t : ℕ) → is_exporting (tds.ops t) ≡ true → 1 ≤ length (tds.streams t)
  pub import_stream : (t : ℕ) → is_importing (tds.ops t) ≡ true → 1 ≤ length (tds.streams t)
  pub vps : (t : ℕ) → length (tds.vps t) ≤ most_vps (tds.ops t) (tds.vps_expected t)

-- what every world of a machine keeps
pub record Lawful (m : Machine) (w : World) : Type 0 where
  pub size : w.size ≡ m.pages
  pub pages : LawfulPages m.pages w.pages
  pub tds : LawfulTds w.pages w.tds
  pub lists : LawfulLists w.pages w.tds w.vps.indexes
  pub tree : LawfulTree m.pages w.pages w.tds
  pub keys : LawfulKeys m.hkids w.pages w.tds w.key_table
  pub beginnings : LawfulBeginnings w.pages w.tds w.hidden.rtmrs
  pub counts : LawfulCounts m.pages w.pages w.tds w.streams
  pub streams : LawfulStreams w.pages w.tds w.streams
  pub sessions : LawfulSessions w.tds w.key_table

-- a row whose act keeps it, where its conditions held; and the words to tell stay as they are
pub record RowKeeps (m : Machine) (row : Row) : Type 0 where
  pub act : (w : World) → Lawful m w → Passes (row.items w) → Lawful m (row.act w)
  pub to_tell : (w : World) → (row.act w).outgoing.to_tell ≡ w.outgoing.to_tell
