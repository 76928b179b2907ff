-- Virtual processors, in a reader's terms: which event gives which of them which registers, position and state (Base
-- Architecture, "TD VCPU Life Cycle").
use Rattle.std.specs.Prelude.{◌≡◌, ℕ, ◌+◌, ◌%◌, ◌^◌, List, ◌∷◌, Option, Some, ◌==◌, if◌then◌else◌}
use Rattle.td_words.specs.declared.names.VcpuState.{VcpuState}
use Rattle.td_words.specs.declared.names.VcpuState.TheVariants as vcpu
use Rattle.td_words.specs.declared.calls.Call.{Call}
use Rattle.td_words.specs.declared.calls.Call.TheVariants as call
use Rattle.td_words.specs.declared.calls.GuestOp.{GuestOp}
use Rattle.td_words.specs.declared.calls.GuestOp.TheVariants as op
use Rattle.flat_core.specs.World.{World, put}
use Rattle.flat_core.specs.Processor.{Guest}
use Rattle.flat_core.specs.Opening.{Opening}
use Rattle.flat_core.specs.Inputs.{input_in}
use Rattle.flat_core.specs.Row.{Succeeds}
use Rattle.flat_core.specs.Tree.{word_of_gpa}
use Rattle.flat_core.specs.Guest.{is_private, shared_page}
use Rattle.flat_core.specs.Event.{State, Event, OfCall, OfOperation, Reaches, lines_left, next_event, event, operation_due}

-- a virtual processor, by its TDVPR page
pub record Vcpu : Type 0 where
  pub registers : ℕ → ℕ
  pub position : ℕ
  pub state : VcpuState

abbrev pub vcpu_at : World → (vp : ℕ) → Vcpu
vcpu_at w v = record { registers = w.hidden.registers v; position = w.vps.positions v; state = w.vps.states v }

-- what it has after a call has succeeded: VP.CREATE begins it with zeros, at position 0, VP.INIT sets register 0 and makes it
-- READY, and IMPORT.STATE.VP gives it registers and position of its bundle, and makes it READY
abbrev pub vcpu_after_call : Opening → Call → World → (vp : ℕ) → Vcpu
vcpu_after_call o (call.VpCreate tdr page) w v = if v == page then record { registers = λ r. 0; position = 0; state = vcpu.Created } else vcpu_at w v
vcpu_after_call o (call.VpInit tdr vp value) w v =
    if v == vp then record { registers = put (w.hidden.registers v) 0 value; position = w.vps.positions v; state = vcpu.Ready } else vcpu_at w v
vcpu_after_call o (call.ImportStateVp tdr vp slot) w v =
    let x = input_in (o.bundles slot) in if v == vp then record { registers = x.words; position = x.header.info; state = vcpu.Ready } else vcpu_at w v
vcpu_after_call o _ w v = vcpu_at w v

-- the registers of a guest's virtual processor after an operation of its own: `set`, `secret`, `add` and a load from a shared
-- GPA set one
abbrev pub registers_after_operation : Opening → GuestOp → Guest → World → ℕ → ℕ
registers_after_operation o (op.Set r x) g w = put (w.hidden.registers g.vp) r x
registers_after_operation o (op.Secret r k) g w = put (w.hidden.registers g.vp) r (o.secrets k)
registers_after_operation o (op.Add r s) g w = put (w.hidden.registers g.vp) r ((w.hidden.registers g.vp r + w.hidden.registers g.vp s) % 2 ^ 64)
registers_after_operation o (op.Load r gpa) g w = if is_private gpa then w.hidden.registers g.vp else put (w.hidden.registers g.vp) r (w.words (shared_page gpa) (word_of_gpa gpa))
registers_after_operation o _ g w = w.hidden.registers g.vp

-- and each operation, once it has succeeded, moves it to its next position
abbrev pub passes : (registers : ℕ → ℕ) → Guest → World → Vcpu
passes registers g w = record { registers = registers; position = w.vps.positions g.vp + 1; state = w.vps.states g.vp }

abbrev pub vcpu_after_operation : Opening → Option GuestOp → Guest → World → (vp : ℕ) → Vcpu
vcpu_after_operation o (Some op) g w v = if v == g.vp then passes (registers_after_operation o op g w) g w else vcpu_at w v
vcpu_after_operation o _ g w v = vcpu_at w v

-- after its access to a word of a private page: a load puts the word into the register, and it too moves on
abbrev pub vcpu_after_access : Option GuestOp → Guest → (page : ℕ) → World → (vp : ℕ) → Vcpu
vcpu_after_access (Some (op.Load r gpa)) g page w v = if v == g.vp then passes (put (w.hidden.registers g.vp) r (w.words page (word_of_gpa gpa))) g w else vcpu_at w v
vcpu_after_access (Some (op.Store r gpa)) g page w v = if v == g.vp then passes (w.hidden.registers g.vp) g w else vcpu_at w v
vcpu_after_access _ g page w v = vcpu_at w v

-- after an event of a processor with these lines left and this guest: any other event leaves it as it is, so also an entry, an
-- exit, a pause, a commit and an abort
abbrev pub vcpu_after_event : Opening → List Call → Option Guest → Option Event → World → (vp : ℕ) → Vcpu
vcpu_after_event o (c ∷ cs) guest (Some (OfCall row Succeeds)) w = vcpu_after_call o c w
vcpu_after_event o cs (Some g) (Some (OfOperation row Succeeds)) w = vcpu_after_operation o (operation_due o w g) g w
vcpu_after_event o cs (Some g) (Some (Reaches tdr vp access register gpa page)) w = vcpu_after_access (operation_due o w g) g page w
vcpu_after_event _ _ _ _ w = vcpu_at w

abbrev pub EventsChangeVcpus : Type 0
EventsChangeVcpus = (o : Opening) (s : State) (p v : ℕ)
    → vcpu_at (event o s p).world v ≡ vcpu_after_event o (lines_left o p (s.lps p)) (s.lps p).guest (next_event o s p) s.world v
