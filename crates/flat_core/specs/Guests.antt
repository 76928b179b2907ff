-- Virtual processors in guest: what stays of one while it runs on its logical processor, through all that others do.
use Rattle.std.specs.Prelude.{◌≡◌, ◌≢◌, ℕ, true, ◌==◌, List, [], ◌∷◌, Some}
use Rattle.std.specs.List.{list_any}
use Rattle.td_words.specs.NameNumber.{op_number}
use Rattle.flat_core.specs.Conditions.{running_ops}
use Rattle.td_words.specs.declared.names.PageKind.TheVariants as kind
use Rattle.td_words.specs.declared.names.LifeState.TheVariants as life
use Rattle.td_words.specs.declared.names.VcpuState.TheVariants as vcpu
use Rattle.td_words.specs.declared.names.Mode.TheVariants.{Shared, Exclusive}
use Rattle.td_words.specs.declared.machines.Machine.{Machine}
use Rattle.td_words.specs.declared.calls.Call.{Call}
use Rattle.td_words.specs.declared.calls.Call.TheVariants.{ExportPause}
use Rattle.flat_core.specs.World.{World}
use Rattle.flat_core.specs.Processor.{OfPage, OfOp, OfEpoch, Held}
use Rattle.flat_core.specs.Opening.{Opening}
use Rattle.flat_core.specs.Row.{Row, Passes}
use Rattle.flat_core.specs.Table.{row_of}
use Rattle.flat_core.specs.Lawful.{Lawful, IsPageOf}

-- a virtual processor that runs on logical processor p: its TD is there and runs, it is READY, associated with p, and counted
-- at the epoch at which it last entered
pub record IsOccupied (w : World) (p t v : ℕ) : Type 0 where
  pub tdr : w.pages.kinds t ≡ kind.Tdr
  pub life : w.tds.lives t ≡ life.KeysConfigured
  pub running : list_any (λ s. op_number s == op_number (w.tds.ops t)) running_ops ≡ true
  pub page : IsPageOf w.pages t v kind.Tdvpr
  pub ready : w.vps.states v ≡ vcpu.Ready
  pub associated : w.vps.associated v ≡ Some p
  pub epoch : ℕ
  pub entered : w.vps.entered v ≡ Some epoch
  pub current : w.vps.lasts v ≡ epoch

-- a virtual processor is as it was, with its registers
pub record SameVp (before after : World) (v : ℕ) : Type 0 where
  pub index : after.vps.indexes v ≡ before.vps.indexes v
  pub state : after.vps.states v ≡ before.vps.states v
  pub associated : after.vps.associated v ≡ before.vps.associated v
  pub last : after.vps.lasts v ≡ before.vps.lasts v
  pub position : after.vps.positions v ≡ before.vps.positions v
  pub exported : after.vps.exported v ≡ before.vps.exported v
  pub entered : after.vps.entered v ≡ before.vps.entered v
  pub registers : (r : ℕ) → after.hidden.registers v r ≡ before.hidden.registers v r

-- one that runs on p runs on, as it was
pub record Spares (before after : World) (p t v : ℕ) : Type 0 where
  pub occupied : IsOccupied after p t v
  pub same : SameVp before after v

-- Beside each row: the act of another processor's call leaves one that runs on p so. The conditions of each row alone keep
-- others off, and no lock is needed for it, but for EXPORT.PAUSE of its own TD: its conditions hold also with a virtual
-- processor in guest, and only O, which the guest's VP.ENTER shares, keeps it off.
abbrev pub RowSpares : (m : Machine) (me : ℕ) → Row → (tdr : ℕ) → Type 0
RowSpares m me row t = (w : World) (p v : ℕ) → Lawful m w → Passes (row.items w) → IsOccupied w p t v → p ≢ me → Spares w (row.act w) p t v

abbrev pub RowsSpare : Type 0
RowsSpare = (o : Opening) (me : ℕ) (c : Call) (t : ℕ) → c ≢ ExportPause t → RowSpares o.machine me (row_of o me c) t

-- the locks that VP.ENTER leaves to its guest, the newest first: P of its TDVPR page alone, O, and P of the TDR page; and
-- those before it gives E back
abbrev pub guest_locks : (tdr vp : ℕ) → List Held
guest_locks t v = record { lock = OfPage v; mode = Exclusive } ∷ record { lock = OfOp t; mode = Shared } ∷ record { lock = OfPage t; mode = Shared } ∷ []

abbrev pub entry_locks : (tdr vp : ℕ) → List Held
entry_locks t v = record { lock = OfEpoch t; mode = Shared } ∷ guest_locks t v
