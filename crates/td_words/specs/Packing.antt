-- How PAMT entries, secure EPT entries and key table words are packed into words of 64 bits, and read back.
use Rattle.std.specs.Prelude.{ℕ, ◌+◌, ◌*◌, ◌/◌, ◌%◌, ◌^◌, Option, Some, None, Bool, true, false, ◌==◌, ◌&&◌, nat_lt, if◌then◌else◌, not}
use Rattle.td_words.specs.declared.names.PageKind.{PageKind}
use Rattle.td_words.specs.declared.names.PageKind.TheVariants as kind
use Rattle.td_words.specs.declared.names.EntryState.{EntryState}
use Rattle.td_words.specs.declared.names.EntryState.TheVariants as entry
use Rattle.td_words.specs.declared.names.HkidState.TheVariants as hkid
use Rattle.td_words.specs.NameNumber.{kind_number, entry_number, hkid_number}

-- what the PAMT says of a page (Base Architecture, "Physical Address Metadata Table")
pub record Pamt : Type 0 where
  pub kind : PageKind
  pub owner : ℕ  -- its TDR page
  pub epoch : ℕ  -- BEPOCH

-- bits 0 to 3 kind, 4 to 19 owner, 32 to 63 BEPOCH
abbrev pub pamt_word : Pamt → ℕ
pamt_word p = kind_number p.kind + (16 * p.owner + 2 ^ 32 * p.epoch)

-- a host page has no owner and no BEPOCH
abbrev pub is_lawful_pamt : Pamt → Bool
is_lawful_pamt p = nat_lt p.owner 1024 && (nat_lt p.epoch (2 ^ 32) && (if kind_number p.kind == kind_number kind.Nda then (p.owner == 0) && (p.epoch == 0) else true))

-- what a secure EPT entry says: its state, the page that it names, and the migration epoch of its last export
pub record Entry : Type 0 where
  pub state : EntryState
  pub page : ℕ
  pub mark : ℕ

-- bits 0 to 3 state, 4 to 19 page, 32 to 63 mark
abbrev pub entry_word : Entry → ℕ
entry_word e = entry_number e.state + (16 * e.page + 2 ^ 32 * e.mark)

-- a state after an export keeps its mark
abbrev pub is_exported : EntryState → Bool
is_exported entry.ExportedBlockedW = true
is_exported entry.ExportedDirty = true
is_exported entry.ExportedDirtyBlockedW = true
is_exported _ = false

-- FREE names no page, and the mark differs from 0 exactly in the exported states
abbrev pub is_lawful_entry : Entry → Bool
is_lawful_entry e =
    nat_lt e.page 1024 && (nat_lt e.mark (2 ^ 32)
    && ((if entry_number e.state == entry_number entry.Free then e.page == 0 else true) && (if is_exported e.state then not (e.mark == 0) else e.mark == 0)))

-- the kind and the state of a number
abbrev pub kind_of : ℕ → Option PageKind
kind_of n =
    if n == 0 then Some kind.Nda
    else if n == 1 then Some kind.Reg
    else if n == 2 then Some kind.Tdr
    else if n == 3 then Some kind.Tdcx
    else if n == 4 then Some kind.Tdvpr
    else if n == 5 then Some kind.Ept
    else if n == 6 then Some kind.Migsc
    else None

abbrev pub entry_state_of : ℕ → Option EntryState
entry_state_of n =
    if n == 0 then Some entry.Free
    else if n == 1 then Some entry.Mapped
    else if n == 2 then Some entry.Blocked
    else if n == 3 then Some entry.Pending
    else if n == 4 then Some entry.PendingBlocked
    else if n == 5 then Some entry.NlMapped
    else if n == 6 then Some entry.NlBlocked
    else if n == 7 then Some entry.BlockedW
    else if n == 8 then Some entry.ExportedBlockedW
    else if n == 9 then Some entry.ExportedDirty
    else if n == 10 then Some entry.ExportedDirtyBlockedW
    else None

-- a value read back: it is lawful, and the word is its packing
abbrev pub pamt_if : ℕ → Pamt → Option Pamt
pamt_if word p = if is_lawful_pamt p && (pamt_word p == word) then Some p else None

abbrev pub pamt_of_kind : ℕ → Option PageKind → Option Pamt
pamt_of_kind word None = None
pamt_of_kind word (Some k) = pamt_if word (record { kind = k; owner = word / 16 % 65536; epoch = word / 2 ^ 32 })

-- the value whose packing a word is, if it is one
abbrev pub pamt_in : ℕ → Option Pamt
pamt_in word = pamt_of_kind word (kind_of (word % 16))

abbrev pub entry_if : ℕ → Entry → Option Entry
entry_if word e = if is_lawful_entry e && (entry_word e == word) then Some e else None

abbrev pub entry_of_state : ℕ → Option EntryState → Option Entry
entry_of_state word None = None
entry_of_state word (Some s) = entry_if word (record { state = s; page = word / 16 % 65536; mark = word / 2 ^ 32 })

abbrev pub entry_in : ℕ → Option Entry
entry_in word = entry_of_state word (entry_state_of (word % 16))

-- what the key ownership table says of an HKID: free, or whose it is; flushed with or without the write-back
pub data Key : Type 0 where
  Unassigned : Key
  AssignedTo : (tdr : ℕ) → Key
  FlushedOf : (tdr : ℕ) (written_back : Bool) → Key

-- bits 0 to 1 state, bit 2 the write-back, 4 to 19 the TDR page
abbrev pub key_word : Key → ℕ
key_word Unassigned = 0
key_word (AssignedTo t) = hkid_number hkid.Assigned + 16 * t
key_word (FlushedOf t true) = hkid_number hkid.Flushed + 4 + 16 * t
key_word (FlushedOf t false) = hkid_number hkid.Flushed + 16 * t

abbrev pub is_lawful_key : Key → Bool
is_lawful_key Unassigned = true
is_lawful_key (AssignedTo t) = nat_lt t 1024
is_lawful_key (FlushedOf t b) = nat_lt t 1024

abbrev pub key_if : ℕ → Key → Option Key
key_if word k = if is_lawful_key k && (key_word k == word) then Some k else None

-- the key table word read back
abbrev pub key_in : ℕ → Option Key
key_in word =
    if word == 0 then Some Unassigned
    else if word % 16 == 1 then key_if word (AssignedTo (word / 16))
    else if word % 16 == 2 then key_if word (FlushedOf (word / 16) false)
    else if word % 16 == 6 then key_if word (FlushedOf (word / 16) true)
    else None
