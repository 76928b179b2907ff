-- The numbers of the names: each name's place in its list, from 0.
use Rattle.std.specs.Prelude.{ℕ}
use Rattle.td_words.specs.declared.names.PageKind.{PageKind}
use Rattle.td_words.specs.declared.names.PageKind.TheVariants as kind
use Rattle.td_words.specs.declared.names.LifeState.{LifeState}
use Rattle.td_words.specs.declared.names.LifeState.TheVariants as life
use Rattle.td_words.specs.declared.names.OpState.{OpState}
use Rattle.td_words.specs.declared.names.OpState.TheVariants as op
use Rattle.td_words.specs.declared.names.EntryState.{EntryState}
use Rattle.td_words.specs.declared.names.EntryState.TheVariants as entry
use Rattle.td_words.specs.declared.names.VcpuState.{VcpuState}
use Rattle.td_words.specs.declared.names.VcpuState.TheVariants as vcpu
use Rattle.td_words.specs.declared.names.HkidState.{HkidState}
use Rattle.td_words.specs.declared.names.HkidState.TheVariants as hkid

abbrev pub kind_number : PageKind → ℕ
kind_number kind.Nda = 0
kind_number kind.Reg = 1
kind_number kind.Tdr = 2
kind_number kind.Tdcx = 3
kind_number kind.Tdvpr = 4
kind_number kind.Ept = 5
kind_number kind.Migsc = 6

abbrev pub life_number : LifeState → ℕ
life_number life.HkidAssigned = 0
life_number life.KeysConfigured = 1
life_number life.Blocked = 2
life_number life.Teardown = 3

abbrev pub op_number : OpState → ℕ
op_number op.Uninitialized = 0
op_number op.Initialized = 1
op_number op.Runnable = 2
op_number op.LiveExport = 3
op_number op.PausedExport = 4
op_number op.PostExport = 5
op_number op.MemoryImport = 6
op_number op.StateImport = 7
op_number op.PostImport = 8
op_number op.LiveImport = 9
op_number op.FailedImport = 10

abbrev pub entry_number : EntryState → ℕ
entry_number entry.Free = 0
entry_number entry.Mapped = 1
entry_number entry.Blocked = 2
entry_number entry.Pending = 3
entry_number entry.PendingBlocked = 4
entry_number entry.NlMapped = 5
entry_number entry.NlBlocked = 6
entry_number entry.BlockedW = 7
entry_number entry.ExportedBlockedW = 8
entry_number entry.ExportedDirty = 9
entry_number entry.ExportedDirtyBlockedW = 10

abbrev pub vcpu_number : VcpuState → ℕ
vcpu_number vcpu.Created = 0
vcpu_number vcpu.Ready = 1

abbrev pub hkid_number : HkidState → ℕ
hkid_number hkid.Free = 0
hkid_number hkid.Assigned = 1
hkid_number hkid.Flushed = 2
