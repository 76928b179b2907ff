-- What one line says, by its first word and the numbers behind it, or the first reason why it is bad.
use Rattle.std.specs.Prelude.{ℕ, List, [], ◌∷◌, map, Option, Some, None, is_some, Result, Ok, Err, Bool, true, false, not, ◌==◌, ◌&&◌, nat_lt, nat_le, slice_index_or, length, if◌then◌else◌, codes}
use Rattle.std.specs.List.{list_all}
use Rattle.std.specs.Str.{bytes_eq}
use Rattle.td_words.specs.declared.calls.Call.TheVariants as calls
use Rattle.td_words.specs.declared.machines.Machine.{Machine}
use Rattle.td_words.specs.Limits.{in_limits}
use Rattle.line_words.specs.declared.mnemonics.CallName.{CallName}
use Rattle.line_words.specs.declared.mnemonics.CallName.TheVariants as name
use Rattle.line_words.specs.declared.mnemonics.Mnemonic.{Mnemonic}
use Rattle.line_words.specs.Mnemonics.{mnemonics, mnemonic_in}
use Rattle.line_words.specs.Number.{number}
use Rattle.script_text.specs.declared.faults.Reason.{Reason}
use Rattle.script_text.specs.declared.faults.Reason.TheVariants as reason
use Rattle.script_text.specs.declared.operations.OpName.{OpName}
use Rattle.script_text.specs.declared.lines.Keyword.{Keyword}
use Rattle.script_text.specs.declared.lines.Keyword.TheVariants as keyword
use Rattle.script_text.specs.declared.lines.Block.{Block}
use Rattle.script_text.specs.declared.lines.Block.TheVariants as block
use Rattle.script_text.specs.declared.lines.Stage.{Stage}
use Rattle.script_text.specs.declared.lines.Entry.{Entry}
use Rattle.script_text.specs.declared.lines.Entry.TheVariants as entry
use Rattle.script_text.specs.Counted.{◌>>=◌, counted_of, number_at, argument}
use Rattle.script_text.specs.Blocks.{slot_place_of, slot_at, fits_slot, code_of, operation_of, guest_op_of, operands_of}

abbrev pub keyword_of : List ℕ → Option Keyword
keyword_of word =
    if bytes_eq word (codes "machine") then Some keyword.Machine
    else if bytes_eq word (codes "schedule") then Some keyword.Schedule
    else if bytes_eq word (codes "code") then Some keyword.Code
    else if bytes_eq word (codes "lp") then Some keyword.Lp
    else if bytes_eq word (codes "end") then Some keyword.End
    else None

abbrev pub machine_in : ℕ → ℕ → ℕ → Result Entry Reason
machine_in lps pages hkids =
    if not (in_limits lps pages hkids) then Err reason.Range
    else Ok (entry.Machine (record { lps = lps; pages = pages; hkids = hkids }))

-- `machine LPS PAGES HKIDS`
unfoldable pub machine_of : List (Option ℕ) → Result Entry Reason
machine_of numbers = do
  _ ← counted_of 3 numbers
  lps ← number_at numbers 0
  pages ← number_at numbers 1
  hkids ← number_at numbers 2
  machine_in lps pages hkids

abbrev pub block_in : Machine → List Bool → ℕ → Result Entry Reason
block_in m had lp =
    if not (nat_lt lp m.lps) then Err reason.Range
    else if slice_index_or had lp false then Err reason.Repeated
    else Ok (entry.Open lp)

-- `lp L`, where `had` says which processors had a block
unfoldable pub block_of : Machine → List Bool → List (Option ℕ) → Result Entry Reason
block_of m had numbers = do
  _ ← counted_of 1 numbers
  lp ← number_at numbers 0
  block_in m had lp

unfoldable pub end_of : List (Option ℕ) → Result Entry Reason
end_of numbers = do
  _ ← counted_of 0 numbers
  Ok entry.End

-- EXPORT.ABORT has a form with a slot and one without
abbrev pub abort_of : ℕ → (with_slot : Bool) → (tdr slot : ℕ) → Entry
abort_of lp true tdr slot = entry.Call lp (calls.ExportAbortByToken tdr slot)
abort_of lp false tdr slot = entry.Call lp (calls.ExportAbort tdr)

-- the call of a mnemonic; the field of MNG.RD isn't looked at here
abbrev pub named_entry : ℕ → CallName → List (Option ℕ) → Entry
named_entry lp name.HostRead ns = entry.Call lp (calls.HostRead (argument ns 0) (argument ns 1))
named_entry lp name.HostWrite ns = entry.Call lp (calls.HostWrite (argument ns 0) (argument ns 1) (argument ns 2))
named_entry lp name.PhymemPageRdmd ns = entry.Call lp (calls.PhymemPageRdmd (argument ns 0))
named_entry lp name.PhymemCacheWb ns = entry.Call lp calls.PhymemCacheWb
named_entry lp name.PhymemPageReclaim ns = entry.Call lp (calls.PhymemPageReclaim (argument ns 0) (argument ns 1))
named_entry lp name.MngCreate ns = entry.Call lp (calls.MngCreate (argument ns 0) (argument ns 1))
named_entry lp name.MngKeyConfig ns = entry.Call lp (calls.MngKeyConfig (argument ns 0))
named_entry lp name.MngAddcx ns = entry.Call lp (calls.MngAddcx (argument ns 0) (argument ns 1))
named_entry lp name.MngInit ns = entry.Call lp (calls.MngInit (argument ns 0))
named_entry lp name.MngRd ns = entry.Read lp (argument ns 0)
named_entry lp name.MngVpflushdone ns = entry.Call lp (calls.MngVpflushdone (argument ns 0))
named_entry lp name.MngKeyFreeid ns = entry.Call lp (calls.MngKeyFreeid (argument ns 0))
named_entry lp name.MrExtend ns = entry.Call lp (calls.MrExtend (argument ns 0) (argument ns 1))
named_entry lp name.MrFinalize ns = entry.Call lp (calls.MrFinalize (argument ns 0))
named_entry lp name.VpCreate ns = entry.Call lp (calls.VpCreate (argument ns 0) (argument ns 1))
named_entry lp name.VpInit ns = entry.Call lp (calls.VpInit (argument ns 0) (argument ns 1) (argument ns 2))
named_entry lp name.VpEnter ns = entry.Call lp (calls.VpEnter (argument ns 0) (argument ns 1) (argument ns 2))
named_entry lp name.VpFlush ns = entry.Call lp (calls.VpFlush (argument ns 0) (argument ns 1))
named_entry lp name.MemSeptAdd ns = entry.Call lp (calls.MemSeptAdd (argument ns 0) (argument ns 1) (argument ns 2) (argument ns 3))
named_entry lp name.MemSeptRd ns = entry.Call lp (calls.MemSeptRd (argument ns 0) (argument ns 1) (argument ns 2))
named_entry lp name.MemSeptRemove ns = entry.Call lp (calls.MemSeptRemove (argument ns 0) (argument ns 1) (argument ns 2))
named_entry lp name.MemPageAdd ns = entry.Call lp (calls.MemPageAdd (argument ns 0) (argument ns 1) (argument ns 2) (argument ns 3))
named_entry lp name.MemPageAug ns = entry.Call lp (calls.MemPageAug (argument ns 0) (argument ns 1) (argument ns 2))
named_entry lp name.MemPageRemove ns = entry.Call lp (calls.MemPageRemove (argument ns 0) (argument ns 1))
named_entry lp name.MemPageRelocate ns = entry.Call lp (calls.MemPageRelocate (argument ns 0) (argument ns 1) (argument ns 2))
named_entry lp name.MemRangeBlock ns = entry.Call lp (calls.MemRangeBlock (argument ns 0) (argument ns 1) (argument ns 2))
named_entry lp name.MemRangeUnblock ns = entry.Call lp (calls.MemRangeUnblock (argument ns 0) (argument ns 1) (argument ns 2))
named_entry lp name.MemTrack ns = entry.Call lp (calls.MemTrack (argument ns 0))
named_entry lp name.MigStreamCreate ns = entry.Call lp (calls.MigStreamCreate (argument ns 0) (argument ns 1))
named_entry lp name.ExportBlockw ns = entry.Call lp (calls.ExportBlockw (argument ns 0) (argument ns 1))
named_entry lp name.ExportUnblockw ns = entry.Call lp (calls.ExportUnblockw (argument ns 0) (argument ns 1))
named_entry lp name.ExportPause ns = entry.Call lp (calls.ExportPause (argument ns 0))
named_entry lp name.ExportAbort ns = abort_of lp (length ns == 2) (argument ns 0) (argument ns 1)
named_entry lp name.ExportRestore ns = entry.Call lp (calls.ExportRestore (argument ns 0) (argument ns 1))
named_entry lp name.ExportStateImmutable ns = entry.Call lp (calls.ExportStateImmutable (argument ns 0) (slot_at ns 1))
named_entry lp name.ExportMem ns = entry.Call lp (calls.ExportMem (argument ns 0) (argument ns 1) (argument ns 2) (slot_at ns 3))
named_entry lp name.ExportTrack ns = entry.Call lp (calls.ExportTrack (argument ns 0) (slot_at ns 1) (argument ns 2))
named_entry lp name.ExportStateTd ns = entry.Call lp (calls.ExportStateTd (argument ns 0) (slot_at ns 1))
named_entry lp name.ExportStateVp ns = entry.Call lp (calls.ExportStateVp (argument ns 0) (argument ns 1) (slot_at ns 2))
named_entry lp name.ImportStateImmutable ns = entry.Call lp (calls.ImportStateImmutable (argument ns 0) (argument ns 1))
named_entry lp name.ImportMem ns = entry.Call lp (calls.ImportMem (argument ns 0) (argument ns 1) (argument ns 2))
named_entry lp name.ImportTrack ns = entry.Call lp (calls.ImportTrack (argument ns 0) (argument ns 1))
named_entry lp name.ImportStateTd ns = entry.Call lp (calls.ImportStateTd (argument ns 0) (argument ns 1))
named_entry lp name.ImportStateVp ns = entry.Call lp (calls.ImportStateVp (argument ns 0) (argument ns 1) (argument ns 2))
named_entry lp name.ImportCommit ns = entry.Call lp (calls.ImportCommit (argument ns 0))
named_entry lp name.ImportEnd ns = entry.Call lp (calls.ImportEnd (argument ns 0))
named_entry lp name.ImportAbort ns = entry.Call lp (calls.ImportAbort (argument ns 0) (slot_at ns 1))

-- whether those arguments are numbers that must be: all but the field of MNG.RD
abbrev pub are_given : CallName → List (Option ℕ) → Bool
are_given name.MngRd ns = is_some (slice_index_or ns 0 None)
are_given _ ns = list_all is_some ns

-- an output slot is in range
abbrev pub ranged_of : Entry → CallName → List (Option ℕ) → Result Entry Reason
ranged_of e call ns = if not (fits_slot (slot_place_of call) ns) then Err reason.Range else Ok e

-- as many arguments as the mnemonic has, numbers where it has numbers, and an output slot in range
abbrev pub judged_of : Entry → Mnemonic → List (Option ℕ) → Result Entry Reason
judged_of e m ns =
    if not (nat_le m.least (length ns) && nat_le (length ns) m.most) then Err reason.Count
    else if not (are_given m.call ns) then Err reason.Number
    else ranged_of e m.call ns

unfoldable pub call_of : ℕ → Option Mnemonic → List (Option ℕ) → Result Entry Reason
call_of lp None ns = Err reason.Word
call_of lp (Some m) ns = judged_of (named_entry lp m.call ns) m ns

-- what words say in a processor's block of which the first is a call's mnemonic
abbrev pub call_in : ℕ → List (List ℕ) → Result Entry Reason
call_in lp [] = Err reason.Word
call_in lp (w ∷ ws) = call_of lp (mnemonic_in mnemonics w) (map number ws)

-- the first line that isn't skipped
abbrev pub first_of : Option Keyword → List (Option ℕ) → Result Entry Reason
first_of (Some keyword.Machine) ns = machine_of ns
first_of _ ns = Err reason.Machine

-- `code TDR INDEX`
abbrev pub list_of : Machine → List Bool → List (Option ℕ) → Result Entry Reason
list_of m listed ns = code_of m listed ns >>= (λ place. Ok (entry.List place))

unfoldable pub operation_line_of : Option OpName → List (Option ℕ) → Result Entry Reason
operation_line_of None ns = Err reason.Word
operation_line_of (Some o) ns = operands_of o ns >>= (λ t. Ok (entry.Operation (guest_op_of o (argument ns 0) (argument ns 1))))

-- what words say of which the first is the name of an operation
abbrev pub operation_in : List (List ℕ) → Result Entry Reason
operation_in [] = Err reason.Word
operation_in (w ∷ ws) = operation_line_of (operation_of w) (map number ws)

-- a later line outside blocks; the items of a schedule line aren't looked at here
abbrev pub outside_of : Machine → List Bool → List Bool → Option Keyword → List (Option ℕ) → Result Entry Reason
outside_of m had listed (Some keyword.Machine) ns = Err reason.Machine
outside_of m had listed (Some keyword.End) ns = Err reason.Place
outside_of m had listed (Some keyword.Schedule) ns = Ok (entry.Schedule m.lps)
outside_of m had listed (Some keyword.Code) ns = list_of m listed ns
outside_of m had listed (Some keyword.Lp) ns = block_of m had ns
outside_of m had listed None ns = Err reason.Word

-- a list of operations is open
abbrev pub is_list : Option Block → Bool
is_list (Some (block.Code place)) = true
is_list _ = false

-- a processor's block has calls, a list operations
abbrev pub named_of : Block → List ℕ → List (Option ℕ) → Result Entry Reason
named_of (block.Lp lp) word ns = call_of lp (mnemonic_in mnemonics word) ns
named_of (block.Code place) word ns = operation_line_of (operation_of word) ns

-- a line in a block
abbrev pub inside_of : Block → Option Keyword → List ℕ → List (Option ℕ) → Result Entry Reason
inside_of b (Some keyword.Machine) word ns = Err reason.Machine
inside_of b (Some keyword.Schedule) word ns = Err reason.Place
inside_of b (Some keyword.Code) word ns = Err reason.Place
inside_of b (Some keyword.Lp) word ns = Err reason.Place
inside_of b (Some keyword.End) word ns = end_of ns
inside_of b None word ns = named_of b word ns

abbrev pub placed_of : Option Machine → Option Block → List Bool → List Bool → List ℕ → List (Option ℕ) → Result Entry Reason
placed_of None b had listed word ns = first_of (keyword_of word) ns
placed_of (Some m) None had listed word ns = outside_of m had listed (keyword_of word) ns
placed_of (Some m) (Some b) had listed word ns = inside_of b (keyword_of word) word ns

-- what a line says that isn't skipped, by its first word and the numbers behind it; `listed` says which lists there were
unfoldable pub entry_of : Stage → List Bool → List ℕ → List (Option ℕ) → Result Entry Reason
entry_of s listed word ns = placed_of s.machine s.block s.had listed word ns
