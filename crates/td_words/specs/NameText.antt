-- How the names of the profile are printed.
use Rattle.std.specs.Prelude.{ℕ, List, ◌++◌, codes}
use Rattle.std.specs.Fmt.{decimal}
use Rattle.td_words.specs.declared.names.PageKind.{PageKind}
use Rattle.td_words.specs.declared.names.PageKind.TheVariants as kind
use Rattle.td_words.specs.declared.names.LifeState.{LifeState}
use Rattle.td_words.specs.declared.names.LifeState.TheVariants as life
use Rattle.td_words.specs.declared.names.OpState.{OpState}
use Rattle.td_words.specs.declared.names.OpState.TheVariants as op
use Rattle.td_words.specs.declared.names.EntryState.{EntryState}
use Rattle.td_words.specs.declared.names.EntryState.TheVariants as entry
use Rattle.td_words.specs.declared.names.VcpuState.{VcpuState}
use Rattle.td_words.specs.declared.names.VcpuState.TheVariants as vcpu
use Rattle.td_words.specs.declared.names.HkidState.{HkidState}
use Rattle.td_words.specs.declared.names.HkidState.TheVariants as hkid
use Rattle.td_words.specs.declared.names.Access.{Access}
use Rattle.td_words.specs.declared.names.Access.TheVariants as access
use Rattle.td_words.specs.declared.names.Counter.{Counter}
use Rattle.td_words.specs.declared.names.Counter.TheVariants as counter
use Rattle.td_words.specs.declared.names.LimitName.{LimitName}
use Rattle.td_words.specs.declared.names.LimitName.TheVariants as limit
use Rattle.td_words.specs.declared.names.HeaderField.{HeaderField}
use Rattle.td_words.specs.declared.names.HeaderField.TheVariants as field
use Rattle.td_words.specs.declared.names.ReadField.{ReadField}
use Rattle.td_words.specs.declared.names.ReadField.TheVariants as read
use Rattle.td_words.specs.declared.names.LockName.{LockName}
use Rattle.td_words.specs.declared.names.LockName.TheVariants as lock

abbrev pub kind_text : PageKind → List ℕ
kind_text kind.Nda = codes "PT_NDA"
kind_text kind.Reg = codes "PT_REG"
kind_text kind.Tdr = codes "PT_TDR"
kind_text kind.Tdcx = codes "PT_TDCX"
kind_text kind.Tdvpr = codes "PT_TDVPR"
kind_text kind.Ept = codes "PT_EPT"
kind_text kind.Migsc = codes "PT_MIGSC"

abbrev pub life_text : LifeState → List ℕ
life_text life.HkidAssigned = codes "TD_HKID_ASSIGNED"
life_text life.KeysConfigured = codes "TD_KEYS_CONFIGURED"
life_text life.Blocked = codes "TD_BLOCKED"
life_text life.Teardown = codes "TD_TEARDOWN"

abbrev pub op_text : OpState → List ℕ
op_text op.Uninitialized = codes "UNINITIALIZED"
op_text op.Initialized = codes "INITIALIZED"
op_text op.Runnable = codes "RUNNABLE"
op_text op.LiveExport = codes "LIVE_EXPORT"
op_text op.PausedExport = codes "PAUSED_EXPORT"
op_text op.PostExport = codes "POST_EXPORT"
op_text op.MemoryImport = codes "MEMORY_IMPORT"
op_text op.StateImport = codes "STATE_IMPORT"
op_text op.PostImport = codes "POST_IMPORT"
op_text op.LiveImport = codes "LIVE_IMPORT"
op_text op.FailedImport = codes "FAILED_IMPORT"

abbrev pub entry_text : EntryState → List ℕ
entry_text entry.Free = codes "FREE"
entry_text entry.Mapped = codes "MAPPED"
entry_text entry.Blocked = codes "BLOCKED"
entry_text entry.Pending = codes "PENDING"
entry_text entry.PendingBlocked = codes "PENDING_BLOCKED"
entry_text entry.NlMapped = codes "NL_MAPPED"
entry_text entry.NlBlocked = codes "NL_BLOCKED"
entry_text entry.BlockedW = codes "BLOCKEDW"
entry_text entry.ExportedBlockedW = codes "EXPORTED_BLOCKEDW"
entry_text entry.ExportedDirty = codes "EXPORTED_DIRTY"
entry_text entry.ExportedDirtyBlockedW = codes "EXPORTED_DIRTY_BLOCKEDW"

abbrev pub vcpu_text : VcpuState → List ℕ
vcpu_text vcpu.Created = codes "CREATED"
vcpu_text vcpu.Ready = codes "READY"

abbrev pub hkid_text : HkidState → List ℕ
hkid_text hkid.Free = codes "HKID_FREE"
hkid_text hkid.Assigned = codes "HKID_ASSIGNED"
hkid_text hkid.Flushed = codes "HKID_FLUSHED"

abbrev pub access_text : Access → List ℕ
access_text access.Read = codes "READ"
access_text access.Write = codes "WRITE"

abbrev pub counter_text : Counter → List ℕ
counter_text counter.TdEpoch = codes "TD_EPOCH"
counter_text counter.MigEpoch = codes "MIG_EPOCH"
counter_text counter.Mb = codes "MB"
counter_text counter.Session = codes "SESSION"

abbrev pub limit_text : LimitName → List ℕ
limit_text limit.Vcpus = codes "VCPUS"
limit_text limit.Streams = codes "STREAMS"

abbrev pub field_text : HeaderField → List ℕ
field_text field.Short = codes "SHORT"
field_text field.Size = codes "SIZE"
field_text field.Version = codes "VERSION"
field_text field.Kind = codes "TYPE"
field_text field.Reserved = codes "RESERVED"
field_text field.Value = codes "VALUE"
field_text field.Length = codes "LENGTH"
field_text field.Stream = codes "STREAM"
field_text field.Session = codes "SESSION"
field_text field.Epoch = codes "EPOCH"
field_text field.Index = codes "INDEX"
field_text field.Count = codes "COUNT"

abbrev pub read_text : ReadField → List ℕ
read_text read.Life = codes "LIFE"
read_text read.Op = codes "OP"
read_text read.Epoch = codes "EPOCH"
read_text read.Mrtd = codes "MRTD"

abbrev pub lock_text : LockName → List ℕ
lock_text (lock.Page p) = codes "P " ++ decimal p
lock_text lock.Op = codes "O"
lock_text lock.Tree = codes "T"
lock_text lock.Epoch = codes "E"
lock_text lock.Rtmr = codes "R"
lock_text lock.Keys = codes "K"
