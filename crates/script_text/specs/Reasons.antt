-- Which reasons hold of a line, each by itself, and the order in which they count.
use Rattle.std.specs.Prelude.{ℕ, ◌+◌, ◌*◌, ◌^◌, List, [], ◌∷◌, length, map, Option, Some, None, is_some, Result, Ok, Err, Bool, true, false, not, ◌&&◌, ◌==◌, nat_lt, nat_le, slice_index_or}
use Rattle.std.specs.List.{list_all}
use Rattle.td_words.specs.declared.calls.Call.{Call}
use Rattle.td_words.specs.declared.calls.GuestOp.{GuestOp}
use Rattle.td_words.specs.declared.machines.Machine.{Machine}
use Rattle.td_words.specs.Limits.{in_limits}
use Rattle.line_words.specs.declared.mnemonics.CallName.{CallName}
use Rattle.line_words.specs.declared.mnemonics.CallName.TheVariants as name
use Rattle.line_words.specs.declared.mnemonics.Mnemonic.{Mnemonic}
use Rattle.line_words.specs.Mnemonics.{mnemonics, mnemonic_in}
use Rattle.line_words.specs.Number.{number}
use Rattle.line_words.specs.Words.{words, is_printable, is_comment}
use Rattle.script_text.specs.declared.faults.Reason.{Reason}
use Rattle.script_text.specs.declared.faults.Reason.TheVariants as reason
use Rattle.script_text.specs.declared.lines.Block.{Block}
use Rattle.script_text.specs.declared.lines.Block.TheVariants as block
use Rattle.script_text.specs.declared.lines.Keyword.{Keyword}
use Rattle.script_text.specs.declared.lines.Keyword.TheVariants as keyword
use Rattle.script_text.specs.declared.operations.OpName.{OpName}
use Rattle.script_text.specs.declared.schedules.Turns.{Turns}
use Rattle.script_text.specs.Blocks.{field_of, slot_place_of, fits_slot, operation_of, operand_count, fit_operands, guest_op_of, is_full}
use Rattle.script_text.specs.Counted.{argument}
use Rattle.script_text.specs.Line.{keyword_of, are_given}
use Rattle.script_text.specs.Reading.{SoFar}
use Rattle.script_text.specs.Schedule.{item_of, turns_in}

-- why something is bad, if it is
abbrev pub fault_in : {A E : Type 0} → Result A E → Option E
fault_in (Ok x) = None
fault_in (Err r) = Some r

-- the reasons that a line may have, in the order in which they count
abbrev pub line_reasons : List Reason
line_reasons = reason.Byte ∷ reason.Machine ∷ reason.Place ∷ reason.Word ∷ reason.Count ∷ reason.Number ∷ reason.Name ∷ reason.Range ∷ reason.Repeated ∷ reason.Full ∷ reason.Slot ∷ []

-- what a first word is where it stands: a keyword anywhere, a call in a processor's block, an operation in a list
pub data FirstWord : Type 0 where
  Key : Keyword → FirstWord
  OfCall : Mnemonic → FirstWord
  OfOperation : OpName → FirstWord
  Unknown : FirstWord

abbrev pub call_word : Option Mnemonic → FirstWord
call_word None = Unknown
call_word (Some m) = OfCall m

abbrev pub operation_word : Option OpName → FirstWord
operation_word None = Unknown
operation_word (Some o) = OfOperation o

abbrev pub word_in : Option Keyword → Option Block → List ℕ → FirstWord
word_in (Some k) b w = Key k
word_in None None w = Unknown
word_in None (Some (block.Lp lp)) w = call_word (mnemonic_in mnemonics w)
word_in None (Some (block.Code p)) w = operation_word (operation_of w)

-- `machine` stands first, and nowhere else
abbrev pub machine_holds : Bool → FirstWord → Bool
machine_holds is_there (Key keyword.Machine) = is_there
machine_holds is_there _ = not is_there

-- `end` stands in a block; `schedule`, `code` and `lp` don't
abbrev pub place_holds : Bool → FirstWord → Bool
place_holds in_block (Key keyword.End) = not in_block
place_holds in_block (Key keyword.Schedule) = in_block
place_holds in_block (Key keyword.Code) = in_block
place_holds in_block (Key keyword.Lp) = in_block
place_holds in_block _ = false

abbrev pub word_holds : FirstWord → Bool
word_holds Unknown = true
word_holds _ = false

-- so many words stand behind the first
abbrev pub count_holds : FirstWord → ℕ → Bool
count_holds (Key keyword.Machine) n = not (n == 3)
count_holds (Key keyword.Code) n = not (n == 2)
count_holds (Key keyword.Lp) n = not (n == 1)
count_holds (Key keyword.End) n = not (n == 0)
count_holds (Key keyword.Schedule) n = n == 0
count_holds (OfCall m) n = not (nat_le m.least n && nat_le n m.most)
count_holds (OfOperation o) n = not (n == operand_count o)
count_holds _ n = false

-- of these words each that must be a number is one
abbrev pub number_holds : FirstWord → List (List ℕ) → Bool
number_holds (Key keyword.Machine) ws = not (list_all is_some (map number ws))
number_holds (Key keyword.Code) ws = not (list_all is_some (map number ws))
number_holds (Key keyword.Lp) ws = not (list_all is_some (map number ws))
number_holds (Key keyword.Schedule) ws = not (list_all (λ w. is_some (item_of w)) ws)
number_holds (OfCall m) ws = not (are_given m.call (map number ws))
number_holds (OfOperation o) ws = not (list_all is_some (map number ws))
number_holds _ ws = false

-- the second word of MNG.RD names a field
abbrev pub names_no_field : CallName → List (List ℕ) → Bool
names_no_field name.MngRd ws = is_some (fault_in (field_of (slice_index_or ws 1 [])))
names_no_field _ ws = false

abbrev pub name_holds : FirstWord → List (List ℕ) → Bool
name_holds (OfCall m) ws = names_no_field m.call ws
name_holds _ ws = false

-- the number that a word is, 0 where it is none
abbrev pub number_of : List (List ℕ) → ℕ → ℕ
number_of ws i = argument (map number ws) i

-- the machine is within the limits; a block's and an item's processor is the machine's, and an item has 1 to 2 ^ 20 turns;
-- a list is of VCPU 0 to 7 of a page of the machine, an operation's operands are within its limits, and so is an output slot
abbrev pub range_holds : ℕ → ℕ → FirstWord → List (List ℕ) → Bool
range_holds lps pages (Key keyword.Machine) ws = not (in_limits (number_of ws 0) (number_of ws 1) (number_of ws 2))
range_holds lps pages (Key keyword.Code) ws = not (nat_lt (number_of ws 0) pages && nat_lt (number_of ws 1) 8)
range_holds lps pages (Key keyword.Lp) ws = not (nat_lt (number_of ws 0) lps)
range_holds lps pages (Key keyword.Schedule) ws = not (list_all (λ w. is_some (turns_in lps w)) ws)
range_holds lps pages (OfOperation o) ws = not (fit_operands o (number_of ws 0) (number_of ws 1))
range_holds lps pages (OfCall m) ws = not (fits_slot (slot_place_of m.call) (map number ws))
range_holds lps pages _ ws = false

-- a processor has one block, and a VCPU one list
abbrev pub repeated_holds : List Bool → List Bool → FirstWord → List (List ℕ) → Bool
repeated_holds had listed (Key keyword.Lp) ws = slice_index_or had (number_of ws 0) false
repeated_holds had listed (Key keyword.Code) ws = slice_index_or listed (8 * number_of ws 0 + number_of ws 1) false
repeated_holds had listed _ ws = false

abbrev pub times_of : Option Turns → ℕ
times_of None = 0
times_of (Some t) = t.times

-- how many turns the items of these words are
abbrev pub turns_count : ℕ → List (List ℕ) → ℕ
turns_count lps [] = 0
turns_count lps (w ∷ ws) = times_of (turns_in lps w) + turns_count lps ws

-- the schedule has at most 2 ^ 20 items, a processor at most 4,096 calls, and a list at most 256 operations,
-- of which four are reports
abbrev pub full_holds : ℕ → List ℕ → ℕ → List GuestOp → FirstWord → List (List ℕ) → Bool
full_holds lps schedule calls ops (Key keyword.Schedule) ws = nat_lt (2 ^ 20) (length schedule + turns_count lps ws)
full_holds lps schedule calls ops (OfCall m) ws = nat_le 4096 calls
full_holds lps schedule calls ops (OfOperation o) ws = is_full ops (guest_op_of o (number_of ws 0) (number_of ws 1))
full_holds lps schedule calls ops _ ws = false

-- an earlier line named the argument at that place as its output slot
abbrev pub is_named : List Bool → Option ℕ → List (List ℕ) → Bool
is_named named None ws = false
is_named named (Some i) ws = slice_index_or named (number_of ws i) false

abbrev pub slot_holds : List Bool → FirstWord → List (List ℕ) → Bool
slot_holds named (OfCall m) ws = is_named named (slot_place_of m.call) ws
slot_holds named _ ws = false

-- the machine's processors and pages; none where no machine stands yet
abbrev pub lps_in : Option Machine → ℕ
lps_in None = 0
lps_in (Some m) = m.lps

abbrev pub pages_in : Option Machine → ℕ
pages_in None = 0
pages_in (Some m) = m.pages

-- the calls so far of the block that is open
abbrev pub calls_in : Option Block → List (List Call) → List Call
calls_in (Some (block.Lp lp)) calls = slice_index_or calls lp []
calls_in _ calls = []

-- which reasons hold of a line that isn't skipped, by what its first word is and the words behind it
abbrev pub holds_of : SoFar → FirstWord → List (List ℕ) → Reason → Bool
holds_of d w ws reason.Machine = machine_holds (is_some d.stage.machine) w
holds_of d w ws reason.Place = place_holds (is_some d.stage.block) w
holds_of d w ws reason.Word = word_holds w
holds_of d w ws reason.Count = count_holds w (length ws)
holds_of d w ws reason.Number = number_holds w ws
holds_of d w ws reason.Name = name_holds w ws
holds_of d w ws reason.Range = range_holds (lps_in d.stage.machine) (pages_in d.stage.machine) w ws
holds_of d w ws reason.Repeated = repeated_holds d.stage.had d.listed w ws
holds_of d w ws reason.Full = full_holds (lps_in d.stage.machine) d.schedule (length (calls_in d.stage.block d.calls)) d.ops w ws
holds_of d w ws reason.Slot = slot_holds d.named w ws
holds_of d w ws _ = false

-- of a line without words and of a comment none holds
abbrev pub holds_in : SoFar → List (List ℕ) → Reason → Bool
holds_in d [] r = false
holds_in d (w ∷ ws) r = not (is_comment w) && holds_of d (word_in (keyword_of w) d.stage.block w) ws r

-- which reasons hold of a line behind those that said d
abbrev pub holds_at : SoFar → List ℕ → Reason → Bool
holds_at d line reason.Byte = not (is_printable line)
holds_at d line r = holds_in d (words line) r

-- the reasons that the end of a script may have, in their order
abbrev pub end_reasons : List Reason
end_reasons = reason.Unterminated ∷ reason.Machine ∷ reason.Endless ∷ []

-- which of them hold where `rest` stands behind the last newline: it is empty, a machine stood, and no block is open
abbrev pub holds_at_end : SoFar → List ℕ → Reason → Bool
holds_at_end d rest reason.Unterminated = not (length rest == 0)
holds_at_end d rest reason.Machine = not (is_some d.stage.machine)
holds_at_end d rest reason.Endless = is_some d.stage.block
holds_at_end d rest _ = false
