-- No stale translation is used (Base Architecture, "TLB Tracking Sequence"). A translation may be used, at an epoch, as
-- `IsUsable` says; a walk under way is used at its guest's entry epoch. What every state keeps:
--   * no virtual processor's last epoch is above its TD's TD_EPOCH (`last`), and each in guest entered at TD_EPOCH or at the
--     epoch before (`near`)
--   * one that is associated is of a TD that may have run here and hasn't ended (`bound`), and TD_EPOCH is 0 before MNG.INIT
--     (`early`)
--   * a cached translation of a TD has a virtual processor of the TD that is associated with its logical processor
--     (`associated`)
--   * where a TD is in guest on a logical processor, none of the TD's virtual processors that are associated with it last
--     entered at a later epoch than that guest (`newest`)
--   * a translation that may be used, and a walk, names what the TD's map names at that place, blocked or not (`named`); the
--     entry that a walk loads next is of level 2 at most (`level`)
--   * where the entry there allows less by now, its page was blocked at that epoch or later, or a translation is exempt
--     (`rights`)
--   * no translation that may be used is of a page that its guest hasn't accepted (`accepted`)
-- That the guest whose record a walk stands in is associated there, and counted at its last epoch, is said by `IsOccupied`.
use Rattle.std.specs.Prelude.{◌≡◌, ◌⊎◌, ℕ, suc, ◌/◌, ◌^◌, ◌≤◌, Bool, true, false, not, ◌==◌, ◌&&◌, ◌||◌, List, Contains, Option, Some, None}
use Rattle.td_words.specs.declared.names.PageKind.TheVariants as kind
use Rattle.td_words.specs.declared.names.LifeState.TheVariants as life
use Rattle.td_words.specs.declared.names.OpState.{OpState}
use Rattle.td_words.specs.declared.names.OpState.TheVariants as op
use Rattle.td_words.specs.declared.names.EntryState.{EntryState}
use Rattle.td_words.specs.declared.names.EntryState.TheVariants as entry
use Rattle.td_words.specs.Packing.{Entry}
use Rattle.flat_core.specs.World.{World}
use Rattle.flat_core.specs.Processor.{Translation, Walk, Guest}
use Rattle.flat_core.specs.Tree.{same_state, may_read, may_write}
use Rattle.flat_core.specs.Lawful.{IsPageOf, is_free}
use Rattle.flat_core.specs.Event.{State}

-- a virtual processor of a TD is associated with logical processor p
pub record IsHere (w : World) (p t v : ℕ) : Type 0 where
  pub tdr : w.pages.kinds t ≡ kind.Tdr
  pub life : w.tds.lives t ≡ life.KeysConfigured
  pub page : IsPageOf w.pages t v kind.Tdvpr
  pub associated : w.vps.associated v ≡ Some p

-- no virtual processor of the TD is in guest there
abbrev pub IsOutside : Option Guest → ℕ → Type 0
IsOutside None t = Unit {0}
IsOutside (Some g) t = (g.tdr == t) ≡ false

-- What is cached of a TD on a logical processor may be used, at an epoch: at the entry epoch of its virtual processor in
-- guest there; else at TD_EPOCH, where one that is associated there last entered at TD_EPOCH, since its next entry drops
-- nothing.
pub data IsUsable (w : World) (p : ℕ) (guest : Option Guest) (t epoch : ℕ) : Type 0 where
  inside : (g : Guest) → guest ≡ Some g → g.tdr ≡ t → w.vps.entered g.vp ≡ Some epoch → IsUsable w p guest t epoch
  outside : (v : ℕ) → IsOutside guest t → IsHere w p t v → w.vps.lasts v ≡ w.tds.epochs t → epoch ≡ w.tds.epochs t → IsUsable w p guest t epoch

-- the entry of a translation's GPA page, and the one that names a walk's node
abbrev pub entry_of : World → Translation → Entry
entry_of w c = w.tds.entries c.tdr 0 c.gpa_page

abbrev pub node_number : Walk → ℕ
node_number k = k.gpa_page / 512 ^ suc k.level

abbrev pub node_of : World → ℕ → Walk → Entry
node_of w t k = w.tds.entries t (suc k.level) (node_number k)

-- an entry allows less than a translation with or without the right to write
abbrev pub allows_less : (writes : Bool) → EntryState → Bool
allows_less writes s = not (may_read s && (not writes || may_write s))

-- an entry whose page its guest hasn't accepted
abbrev pub is_pending : EntryState → Bool
is_pending entry.Pending = true
is_pending entry.PendingBlocked = true
is_pending _ = false

-- Exempt is each entry that is EXPORTED_BLOCKEDW while its TD is PAUSED_EXPORT, POST_EXPORT or RUNNABLE: from the pause on an
-- export takes pages without a block, since no virtual processor of the TD can run, and after an abort they are so in RUNNABLE.
-- An entry whose page was blocked before it went out is exempt as well (TD Migration Architecture, "Private Memory Migration").
abbrev pub may_be_exempt : OpState → Bool
may_be_exempt op.PausedExport = true
may_be_exempt op.PostExport = true
may_be_exempt op.Runnable = true
may_be_exempt _ = false

abbrev pub IsExempt : World → Translation → Type 0
IsExempt w c = ((entry_of w c).state ≡ entry.ExportedBlockedW) × (may_be_exempt (w.tds.ops c.tdr) ≡ true)

-- the page that an entry is of, where the entry isn't FREE
pub record Names (e : Entry) (page : ℕ) : Type 0 where
  pub used : is_free e.state ≡ false
  pub page_is : e.page ≡ page

-- a translation that may be used at an epoch
pub record IsCurrent (w : World) (c : Translation) (epoch : ℕ) : Type 0 where
  pub named : Names (entry_of w c) c.page
  pub rights : allows_less c.may_write (entry_of w c).state ≡ true → (epoch ≤ w.pages.blocked c.page) ⊎ IsExempt w c
  pub accepted : is_pending (entry_of w c).state ≡ false

-- a walk of a TD's guest that entered at an epoch
pub record IsOnCourse (w : World) (t : ℕ) (k : Walk) (epoch : ℕ) : Type 0 where
  pub level : k.level ≤ 2
  pub named : Names (node_of w t k) k.page
  pub rights : same_state (node_of w t k).state entry.NlMapped ≡ false → epoch ≤ w.pages.blocked k.page

-- of one logical processor, its cached translations and its guest
pub record LawfulTranslations (w : World) (p : ℕ) (cached : List Translation) (guest : Option Guest) : Type 0 where
  pub associated : (c : Translation) → Contains cached c → (v : ℕ) × IsHere w p c.tdr v
  pub newest : (g : Guest) (epoch v : ℕ) → guest ≡ Some g → w.vps.entered g.vp ≡ Some epoch → IsHere w p g.tdr v → w.vps.lasts v ≤ epoch
  pub usable : (c : Translation) (epoch : ℕ) → Contains cached c → IsUsable w p guest c.tdr epoch → IsCurrent w c epoch
  pub walk : (g : Guest) (k : Walk) (epoch : ℕ) → guest ≡ Some g → g.walk ≡ Some k → w.vps.entered g.vp ≡ Some epoch → IsOnCourse w g.tdr k epoch

-- Before MR.FINALIZE, or IMPORT.COMMIT, no guest of a TD has run here, and none does once an import was given up.
abbrev pub has_not_run : OpState → Bool
has_not_run op.Uninitialized = true
has_not_run op.Initialized = true
has_not_run op.MemoryImport = true
has_not_run op.StateImport = true
has_not_run op.PostImport = true
has_not_run op.FailedImport = true
has_not_run _ = false

-- of the world alone
pub record LawfulEpochs (w : World) : Type 0 where
  pub last : (t v : ℕ) → w.pages.kinds t ≡ kind.Tdr → IsPageOf w.pages t v kind.Tdvpr → w.vps.lasts v ≤ w.tds.epochs t
  pub near : (t v epoch : ℕ) → w.pages.kinds t ≡ kind.Tdr → IsPageOf w.pages t v kind.Tdvpr → w.vps.entered v ≡ Some epoch
      → (epoch ≤ w.tds.epochs t) × (w.tds.epochs t ≤ suc epoch)
  pub bound : (t v p : ℕ) → w.pages.kinds t ≡ kind.Tdr → IsPageOf w.pages t v kind.Tdvpr → w.vps.associated v ≡ Some p
      → (w.tds.lives t ≡ life.KeysConfigured) × (has_not_run (w.tds.ops t) ≡ false)
  pub early : (t : ℕ) → w.pages.kinds t ≡ kind.Tdr → w.tds.ops t ≡ op.Uninitialized → w.tds.epochs t ≡ 0

-- of a state
pub record AccessHolds (s : State) : Type 0 where
  pub epochs : LawfulEpochs s.world
  pub each : (p : ℕ) → LawfulTranslations s.world p (s.lps p).cached (s.lps p).guest
