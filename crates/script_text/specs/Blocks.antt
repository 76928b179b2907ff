-- The fields of MNG.RD, output slots, `code` blocks and their operations.
use Rattle.std.specs.Prelude.{ℕ, ◌+◌, ◌*◌, ◌^◌, ◌%◌, List, [], ◌∷◌, Option, Some, None, is_some, Result, Ok, Err, Bool, true, false, not, ◌&&◌, ◌||◌, ◌==◌, nat_lt, nat_le, slice_index_or, slice_set, length, replicate, if◌then◌else◌, codes}
use Rattle.std.specs.List.{list_all}
use Rattle.std.specs.Str.{bytes_eq}
use Rattle.td_words.specs.declared.calls.GuestOp.{GuestOp}
use Rattle.td_words.specs.declared.calls.GuestOp.TheVariants as guest
use Rattle.td_words.specs.declared.machines.Machine.{Machine}
use Rattle.td_words.specs.declared.names.ReadField.{ReadField}
use Rattle.td_words.specs.declared.names.ReadField.TheVariants as field
use Rattle.line_words.specs.declared.mnemonics.CallName.{CallName}
use Rattle.line_words.specs.declared.mnemonics.CallName.TheVariants as name
use Rattle.script_text.specs.declared.faults.Reason.{Reason}
use Rattle.script_text.specs.declared.faults.Reason.TheVariants as reason
use Rattle.script_text.specs.declared.operations.OpName.{OpName}
use Rattle.script_text.specs.declared.operations.OpName.TheVariants as op
use Rattle.script_text.specs.declared.operations.Operand.{Operand}
use Rattle.script_text.specs.declared.operations.Operand.TheVariants as operand
use Rattle.script_text.specs.declared.code_blocks.CodePlace.{CodePlace}
use Rattle.script_text.specs.Counted.{◌>>=◌, counted_of, number_at, argument}

-- the field of MNG.RD that a word names
abbrev pub field_of : List ℕ → Result ReadField Reason
field_of word =
    if bytes_eq word (codes "LIFE") then Ok field.Life
    else if bytes_eq word (codes "OP") then Ok field.Op
    else if bytes_eq word (codes "EPOCH") then Ok field.Epoch
    else if bytes_eq word (codes "MRTD") then Ok field.Mrtd
    else Err reason.Name

-- which argument of a call, from 0, is the slot of the bundle that it makes
abbrev pub slot_place_of : CallName → Option ℕ
slot_place_of name.ExportStateImmutable = Some 1
slot_place_of name.ExportMem = Some 3
slot_place_of name.ExportTrack = Some 1
slot_place_of name.ExportStateTd = Some 1
slot_place_of name.ExportStateVp = Some 2
slot_place_of name.ImportAbort = Some 1
slot_place_of _ = None

-- an output slot is 0 to 4,095
abbrev pub is_slot : ℕ → Bool
is_slot slot = nat_le slot 4095

-- the output slot at a place; 0 where the number there is none, and then the line is refused
abbrev pub slot_at : List (Option ℕ) → ℕ → ℕ
slot_at ns i = if is_slot (argument ns i) then argument ns i else 0

-- the argument at that place is an output slot, where there is such a place
abbrev pub fits_slot : Option ℕ → List (Option ℕ) → Bool
fits_slot None ns = true
fits_slot (Some i) ns = is_slot (argument ns i)

-- no line named an output slot of the 4,096 that there are
unfoldable pub none_named : List Bool
none_named = replicate 4096 false

-- a slot is named once; `named` says which were
abbrev pub with_slot : List Bool → Option ℕ → Result (List Bool) Reason
with_slot named None = Ok named
with_slot named (Some slot) = if slice_index_or named slot false then Err reason.Slot else Ok (slice_set named slot true)

-- where `listed` marks a VCPU's list
abbrev pub list_place : CodePlace → ℕ
list_place p = 8 * p.tdr + p.index

-- no VCPU of the 1,024 pages that there may be had a list
unfoldable pub none_listed : List Bool
none_listed = replicate 8192 false

-- VCPU 0 to 7 of a page of the machine; `listed` says of 8 times the page and the VCPU whether it had a list
abbrev pub code_in : Machine → List Bool → ℕ → ℕ → Result CodePlace Reason
code_in m listed tdr index =
    if not (nat_lt tdr m.pages && nat_lt index 8) then Err reason.Range
    else if slice_index_or listed (8 * tdr + index) false then Err reason.Repeated
    else Ok (record { tdr = tdr; index = index })

-- `code TDR INDEX`
unfoldable pub code_of : Machine → List Bool → List (Option ℕ) → Result CodePlace Reason
code_of m listed ns = do
  _ ← counted_of 2 ns
  tdr ← number_at ns 0
  index ← number_at ns 1
  code_in m listed tdr index

abbrev pub operation_of : List ℕ → Option OpName
operation_of word =
    if bytes_eq word (codes "set") then Some op.Set
    else if bytes_eq word (codes "secret") then Some op.Secret
    else if bytes_eq word (codes "add") then Some op.Add
    else if bytes_eq word (codes "load") then Some op.Load
    else if bytes_eq word (codes "store") then Some op.Store
    else if bytes_eq word (codes "accept") then Some op.Accept
    else if bytes_eq word (codes "rtmr") then Some op.Rtmr
    else if bytes_eq word (codes "report") then Some op.Report
    else if bytes_eq word (codes "vmcall") then Some op.Vmcall
    else None

abbrev pub name_of : OpName → List ℕ
name_of op.Set = codes "set"
name_of op.Secret = codes "secret"
name_of op.Add = codes "add"
name_of op.Load = codes "load"
name_of op.Store = codes "store"
name_of op.Accept = codes "accept"
name_of op.Rtmr = codes "rtmr"
name_of op.Report = codes "report"
name_of op.Vmcall = codes "vmcall"

abbrev pub first_operand_of : OpName → Option Operand
first_operand_of op.Accept = Some operand.PageGpa
first_operand_of op.Rtmr = Some operand.RtmrIndex
first_operand_of op.Report = None
first_operand_of _ = Some operand.Register

abbrev pub second_operand_of : OpName → Option Operand
second_operand_of op.Set = Some operand.Value
second_operand_of op.Secret = Some operand.SecretWord
second_operand_of op.Add = Some operand.Register
second_operand_of op.Load = Some operand.WordGpa
second_operand_of op.Store = Some operand.WordGpa
second_operand_of _ = None

-- registers 0 to 7, secret words 0 to 511, RTMRs 0 to 3; the addresses of words and of private pages
abbrev pub is_operand : Operand → ℕ → Bool
is_operand operand.Register n = nat_lt n 8
is_operand operand.Value n = true
is_operand operand.SecretWord n = nat_lt n 512
is_operand operand.RtmrIndex n = nat_lt n 4
is_operand operand.WordGpa n = nat_lt n (2 ^ 48) && (n % 8 == 0)
is_operand operand.PageGpa n = nat_lt n (2 ^ 47) && (n % 4096 == 0)

-- an operand that there is
abbrev pub fits_operand : Option Operand → ℕ → Bool
fits_operand None n = true
fits_operand (Some o) n = is_operand o n

abbrev pub operand_count : OpName → ℕ
operand_count o = if is_some (second_operand_of o) then 2 else if is_some (first_operand_of o) then 1 else 0

-- as many numbers
abbrev pub numbers_of : OpName → ℕ → ℕ → List (Option ℕ)
numbers_of o first second =
    if is_some (second_operand_of o) then Some first ∷ Some second ∷ [] else if is_some (first_operand_of o) then Some first ∷ [] else []

abbrev pub fit_operands : OpName → ℕ → ℕ → Bool
fit_operands o first second = fits_operand (first_operand_of o) first && fits_operand (second_operand_of o) second

-- as many numbers as the operation has operands, each in range
abbrev pub operands_of : OpName → List (Option ℕ) → Result (Unit {0}) Reason
operands_of o ns =
    if not (length ns == operand_count o) then Err reason.Count
    else if not (list_all is_some ns) then Err reason.Number
    else if not (fit_operands o (argument ns 0) (argument ns 1)) then Err reason.Range
    else Ok tt

-- the operation of a name and its operands
abbrev pub guest_op_of : OpName → ℕ → ℕ → GuestOp
guest_op_of op.Set register value = guest.Set register value
guest_op_of op.Secret register number = guest.Secret register number
guest_op_of op.Add register other = guest.Add register other
guest_op_of op.Load register gpa = guest.Load register gpa
guest_op_of op.Store register gpa = guest.Store register gpa
guest_op_of op.Accept gpa none = guest.Accept gpa
guest_op_of op.Rtmr index none = guest.Rtmr index
guest_op_of op.Report none other = guest.Report
guest_op_of op.Vmcall register none = guest.Vmcall register

-- a list has at most 256 operations, of which four are reports
abbrev pub is_report : GuestOp → Bool
is_report guest.Report = true
is_report _ = false

abbrev pub reports_in : List GuestOp → ℕ
reports_in [] = 0
reports_in (g ∷ gs) = (if is_report g then 1 else 0) + reports_in gs

abbrev pub is_full : List GuestOp → GuestOp → Bool
is_full ops g = nat_le 256 (length ops) || (is_report g && nat_le 4 (reports_in ops))

-- the operation of a name and those numbers, or the first reason why there is none
abbrev pub operation_with : OpName → List (Option ℕ) → Result GuestOp Reason
operation_with o ns = operands_of o ns >>= (λ t. Ok (guest_op_of o (argument ns 0) (argument ns 1)))
