-- What the words that leaves load say.
use Rattle.std.specs.Prelude.{ℕ, ◌+◌, ◌-◌, ◌/◌, ◌%◌, Bool, ◌==◌, ◌&&◌, nat_lt, nat_le, if◌then◌else◌}
use Rattle.td_words.specs.declared.names.PageKind.{PageKind}
use Rattle.td_words.specs.declared.names.PageKind.TheVariants as kind
use Rattle.td_words.specs.declared.names.LifeState.{LifeState}
use Rattle.td_words.specs.declared.names.LifeState.TheVariants as life
use Rattle.td_words.specs.declared.names.OpState.{OpState}
use Rattle.td_words.specs.declared.names.OpState.TheVariants as op
use Rattle.td_words.specs.declared.machines.Machine.{Machine}
use Rattle.td_words.specs.NameNumber.{kind_number}

-- a PAMT word of a page of that kind
abbrev pub says_kind : PageKind → ℕ → Bool
says_kind k word = word % 16 == kind_number k

abbrev pub says_host : ℕ → Bool
says_host word = says_kind kind.Nda word

-- a PAMT word of a page with that owner
abbrev pub says_owner : (t word : ℕ) → Bool
says_owner t word = word / 16 % 65536 == t

-- a key table word of a free HKID
abbrev pub says_free : ℕ → Bool
says_free word = word == 0

-- an HKID of the machine, which is all that a TDR page ever tells
abbrev pub is_hkid : Machine → ℕ → Bool
is_hkid m h = nat_le 1 h && nat_le h m.hkids

-- the life state, the operation state and the page of a number
abbrev pub life_told : ℕ → LifeState
life_told n =
    if n == 0 then life.HkidAssigned
    else if n == 1 then life.KeysConfigured
    else if n == 2 then life.Blocked
    else life.Teardown

abbrev pub op_told : ℕ → OpState
op_told n =
    if n == 0 then op.Uninitialized
    else if n == 1 then op.Initialized
    else if n == 2 then op.Runnable
    else if n == 3 then op.LiveExport
    else if n == 4 then op.PausedExport
    else if n == 5 then op.PostExport
    else if n == 6 then op.MemoryImport
    else if n == 7 then op.StateImport
    else if n == 8 then op.PostImport
    else if n == 9 then op.LiveImport
    else op.FailedImport

abbrev pub page_told : (pages word : ℕ) → ℕ
page_told pages word = if nat_lt word pages then word else 0

-- the number of a TD's virtual processors, and 8 where more are told, as never happens
abbrev pub vps_told : ℕ → ℕ
vps_told count = if nat_lt count 8 then count else 8

-- a child count after a page was taken, and after one was given back. Before a page is taken it is less than the machine
-- has pages; any other number, for which 0 stands, is never told
abbrev pub raised : (pages count : ℕ) → ℕ
raised pages count = if nat_lt count pages then count + 1 else 0

abbrev pub lowered : ℕ → ℕ
lowered count = count - 1
