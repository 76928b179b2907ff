-- The world of the flat machine: what the conditions of calls read and what their acts change. It has one function for
-- each fact, by the number of the page, TD, virtual processor, stream or HKID that the fact is about.
use Rattle.std.specs.Prelude.{ℕ, List, [], Option, None, ◌==◌, if◌then◌else◌}
use Rattle.td_words.specs.declared.names.PageKind.{PageKind}
use Rattle.td_words.specs.declared.names.PageKind.TheVariants as kind
use Rattle.td_words.specs.declared.names.LifeState.{LifeState}
use Rattle.td_words.specs.declared.names.LifeState.TheVariants as life
use Rattle.td_words.specs.declared.names.OpState.{OpState}
use Rattle.td_words.specs.declared.names.OpState.TheVariants as op
use Rattle.td_words.specs.declared.names.EntryState.TheVariants as entry
use Rattle.td_words.specs.declared.names.VcpuState.{VcpuState}
use Rattle.td_words.specs.declared.names.VcpuState.TheVariants as vcpu
use Rattle.td_words.specs.Packing.{Entry, Key, Unassigned}

-- f, but v at k
abbrev pub put : {A : Type 0} → (ℕ → A) → ℕ → A → ℕ → A
put f k v n = if n == k then v else f n

-- what the PAMT says of each page (Base Architecture, "Physical Address Metadata Table"), and which node of its TD's
-- secure EPT a secure EPT or private page is: the level of the entry that names it, and that entry's number there
pub record Pages : Type 0 where
  pub kinds : ℕ → PageKind
  pub owners : ℕ → ℕ  -- the TDR page of its TD
  pub blocked : ℕ → ℕ  -- BEPOCH
  pub levels : ℕ → ℕ
  pub numbers : ℕ → ℕ

-- each TD, by its TDR page (Base Architecture, "TD Control Structures"; TD Migration Architecture, "Migration Session
-- Control")
pub record Tds : Type 0 where
  pub lives : ℕ → LifeState
  pub hkids : ℕ → ℕ
  pub controls : ℕ → List ℕ  -- its TDCX pages: TDCS, and the root of the secure EPT
  pub ops : ℕ → OpState
  pub epochs : ℕ → ℕ  -- TD_EPOCH
  pub entries : ℕ → ℕ → ℕ → Entry  -- the secure EPT, by level and number
  pub vps : ℕ → List ℕ  -- its TDVPR pages, in the order of their indexes
  pub vps_expected : ℕ → ℕ  -- how many virtual processors an import expects
  pub streams : ℕ → List ℕ  -- its stream pages, in the order of their indexes
  pub measured : ℕ → List ℕ  -- the bytes that MRTD is the digest of
  pub mrtds : ℕ → ℕ → ℕ  -- MRTD, six words
  pub mrtds_given : ℕ → Option (ℕ → ℕ)  -- MRTD that an import gave
  pub sessions : ℕ → ℕ
  pub mig_epochs : ℕ → ℕ
  pub td_exported : ℕ → ℕ  -- 1 where the TD state was exported in the session
  pub vps_exported : ℕ → ℕ  -- how many VCPU states were
  pub dirtied : ℕ → ℕ  -- less all pages cleaned: entries that are dirty
  pub unrestored : ℕ → ℕ  -- with all first exports, modulo 2^64: entries in an exported state

-- each virtual processor, by its TDVPR page
pub record Vps : Type 0 where
  pub indexes : ℕ → ℕ
  pub states : ℕ → VcpuState
  pub associated : ℕ → Option ℕ  -- with that logical processor
  pub lasts : ℕ → ℕ  -- TD_EPOCH at its last entry
  pub positions : ℕ → ℕ  -- in its list of operations
  pub exported : ℕ → ℕ  -- the session of its last export
  pub entered : ℕ → Option ℕ  -- TD_EPOCH at its entry, while it is in guest

-- each migration stream, by its page
pub record Streams : Type 0 where
  pub counters : ℕ → ℕ  -- bundles made or imported
  pub cleaned : ℕ → ℕ  -- dirty entries that an export made clean
  pub first_exports : ℕ → ℕ  -- pages first exported in the session

-- the key ownership table, by HKID, and the sessions so far
pub record KeyTable : Type 0 where
  pub keys : ℕ → Key
  pub last_exported : ℕ
  pub last_imported : ℕ

-- a TD as a migration carries it over: what its private pages hold, by GPA page, MRTD, RTMRs, and of each virtual processor,
-- in the order of their indexes, its registers and its position
pub record VpImage : Type 0 where
  pub registers : ℕ → ℕ
  pub position : ℕ

pub record Image : Type 0 where
  pub pages : ℕ → Option (ℕ → ℕ)
  pub mrtd : ℕ → ℕ
  pub rtmrs : ℕ → ℕ
  pub vps : List VpImage

-- what no condition reads, and no reply but the word that VMCALL tells: registers, RTMRs, and what each TD's private
-- pages hold as its guest knows it; and each TD at the pause of its export, and as its import was committed
pub record Hidden : Type 0 where
  pub registers : ℕ → ℕ → ℕ  -- by TDVPR page
  pub rtmrs : ℕ → ℕ → ℕ  -- by TDR page, four RTMRs of six words each
  pub memories : ℕ → ℕ → Option (ℕ → ℕ)  -- by TDR page and GPA page: the words that the TD's guest knows to be there
  pub paused : ℕ → Option Image  -- by session
  pub given : ℕ → Option Image  -- by session

-- a bundle's header without its tag
pub record ClearHeader : Type 0 where
  pub size : ℕ
  pub version : ℕ
  pub stream : ℕ
  pub kind : ℕ
  pub reserved : ℕ
  pub counter : ℕ
  pub epoch : ℕ
  pub iv : ℕ
  pub session : ℕ
  pub index : ℕ
  pub info : ℕ
  pub gpa : ℕ
  pub total : ℕ

-- a bundle that was made, before it is sealed: its slot, which tells the line that made it, since no two lines name one;
-- its header; and the words of its payload
pub record Made : Type 0 where
  pub slot : ℕ
  pub header : ClearHeader
  pub payload : List ℕ

-- what has left the machine: words that guests told, in order, and the bundles made. Where words to tell are given, a
-- guest tells the next of them in place of its register's
pub record Outgoing : Type 0 where
  pub told : List ℕ
  pub to_tell : Option (List ℕ)
  pub bundles : List Made

-- all that a call can ask about and change
pub record World : Type 0 where
  pub size : ℕ  -- the number of pages
  pub pages : Pages
  pub words : ℕ → ℕ → ℕ  -- the 512 words of each page
  pub tds : Tds
  pub vps : Vps
  pub streams : Streams
  pub key_table : KeyTable
  pub hidden : Hidden
  pub outgoing : Outgoing

abbrev pub free_entry : Entry
free_entry = record { state = entry.Free; page = 0; mark = 0 }

abbrev pub host_pages : Pages
host_pages = record { kinds = λ p. kind.Nda; owners = λ p. 0; blocked = λ p. 0; levels = λ p. 0; numbers = λ p. 0 }

abbrev pub no_tds : Tds
no_tds = record {
  lives = λ t. life.HkidAssigned;
  hkids = λ t. 0;
  controls = λ t. [];
  ops = λ t. op.Uninitialized;
  epochs = λ t. 0;
  entries = λ t l n. free_entry;
  vps = λ t. [];
  vps_expected = λ t. 0;
  streams = λ t. [];
  measured = λ t. [];
  mrtds = λ t i. 0;
  mrtds_given = λ t. None;
  sessions = λ t. 0;
  mig_epochs = λ t. 0;
  td_exported = λ t. 0;
  vps_exported = λ t. 0;
  dirtied = λ t. 0;
  unrestored = λ t. 0;
}

abbrev pub no_vps : Vps
no_vps = record {
  indexes = λ v. 0;
  states = λ v. vcpu.Created;
  associated = λ v. None;
  lasts = λ v. 0;
  positions = λ v. 0;
  exported = λ v. 0;
  entered = λ v. None;
}

-- a machine of so many pages at the start of a run: all are host pages of zeros, and all HKIDs are free
abbrev pub first_world : ℕ → Option (List ℕ) → World
first_world n words_to_tell = record {
  size = n;
  pages = host_pages;
  words = λ p i. 0;
  tds = no_tds;
  vps = no_vps;
  streams = record { counters = λ s. 0; cleaned = λ s. 0; first_exports = λ s. 0 };
  key_table = record { keys = λ h. Unassigned; last_exported = 0; last_imported = 0 };
  hidden = record { registers = λ v i. 0; rtmrs = λ t i. 0; memories = λ t g. None; paused = λ n. None; given = λ n. None };
  outgoing = record { told = []; to_tell = words_to_tell; bundles = [] };
}
