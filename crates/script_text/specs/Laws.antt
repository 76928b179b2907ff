-- Laws of scripts in a reader's terms.
use Rattle.std.specs.Prelude.{◌≡◌, ◌≢◌, ℕ, ◌+◌, ◌^◌, ◌<◌, ◌≤◌, List, [], ◌∷◌, ◌++◌, length, find, option_map, Ok, Err}
use Rattle.std.specs.List.{All, AllPairs}
use Rattle.td_words.specs.declared.machines.Machine.{Machine}
use Rattle.td_words.specs.Limits.{IsMachine}
use Rattle.td_words.specs.Seen.{CodeSeen}
use Rattle.td_words.specs.Slots.{output_slots}
use Rattle.line_words.specs.Words.{pieces}
use Rattle.script_text.specs.declared.faults.Reason.{Reason}
use Rattle.script_text.specs.declared.faults.Reason.TheVariants as reason
use Rattle.script_text.specs.declared.faults.ScriptFault.TheVariants.{Bad}
use Rattle.script_text.specs.Blocks.{reports_in}
use Rattle.script_text.specs.Seen.{ScriptSeen}
use Rattle.script_text.specs.Reading.{SoFar, nothing_yet, line_of, ended_of, read_of}
use Rattle.script_text.specs.Spelling.{FitsCall, FitsOp, codes_text, script_text}
use Rattle.script_text.specs.Reasons.{fault_in, line_reasons, holds_at, end_reasons, holds_at_end}

-- a list is that of a VCPU, 0 to 7, of a page of the machine, with at most 256 operations, of which four are reports
pub record IsCode (m : Machine) (c : CodeSeen) : Type 0 where
  pub tdr : c.tdr < m.pages
  pub index : c.index < 8
  pub few : length c.ops ≤ 256
  pub few_reports : reports_in c.ops ≤ 4
  pub operands : All FitsOp c.ops

-- no VCPU has two lists
abbrev pub AreOfOthers : List CodeSeen → Type 0
AreOfOthers [] = Unit {0}
AreOfOthers (c ∷ cs) = All (λ d. d.tdr ≡ c.tdr → d.index ≢ c.index) cs × AreOfOthers cs

-- a script as the grammar has it: a machine within the limits, a schedule of its processors, lists of operations of some
-- VCPUs, and a list of calls for each processor; output slots are 0 to 4,095, and no two calls name one
pub record IsInForm (s : ScriptSeen) : Type 0 where
  pub machine : IsMachine s.machine
  pub items : All (λ lp. lp < s.machine.lps) s.schedule
  pub few_items : length s.schedule ≤ 2 ^ 20
  pub codes : All (IsCode s.machine) s.codes
  pub others : AreOfOthers s.codes
  pub lists : length s.calls ≡ s.machine.lps
  pub few_calls : All (λ calls. length calls ≤ 4096) s.calls
  pub arguments : All (λ calls. All FitsCall calls) s.calls
  pub slots : All (λ slot. slot ≤ 4095) (output_slots s.calls)
  pub apart : AllPairs (λ a b. a ≢ b) (output_slots s.calls)

-- each script that is read is in form
pub record ScriptsAreInForm : Type 0 where
  pub in_form : (bytes : List ℕ) (s : ScriptSeen) → read_of bytes ≡ Ok s → IsInForm s

-- a script in form that is written out is read again as that script, unless it is too long then, as its lists alone can make it
pub record ScriptsReadAgain : Type 0 where
  pub read_again : (s : ScriptSeen) → IsInForm s → length (script_text s) ≤ 2 ^ 24 → read_of (script_text s) ≡ Ok s
  pub short : (s : ScriptSeen) → IsInForm s → length (codes_text s.codes) ≤ 2 ^ 23 → length (script_text s) ≤ 2 ^ 24

-- good lines, one after the other, and what they say
pub data Good : List (List ℕ) → SoFar → Type 0 where
  none : Good [] nothing_yet
  more : (lines : List (List ℕ)) (d : SoFar) (line : List ℕ) (e : SoFar) → Good lines d → line_of d line ≡ Ok e → Good (lines ++ line ∷ []) e

-- a line that a newline ends is bad by itself; what stands behind the last newline, by how a script must end
abbrev pub IsBad : SoFar → ℕ → List ℕ → List (List ℕ) → Reason → Type 0
IsBad d n piece [] r = ended_of d n piece ≡ Err (Bad n r)
IsBad d n piece (next ∷ later) r = line_of d piece ≡ Err r

-- line n is bad for that reason, and all lines before it are good
pub record FirstBad (bytes : List ℕ) (n : ℕ) (r : Reason) : Type 0 where
  pub front : List (List ℕ)
  pub piece : List ℕ
  pub back : List (List ℕ)
  pub so_far : SoFar
  pub cut : pieces bytes ≡ front ++ piece ∷ back
  pub number : n ≡ length front + 1
  pub good : Good front so_far
  pub bad : IsBad so_far n piece back r

-- a fault names the first bad line, and the first bad line is the fault
pub record FaultsAreFirst : Type 0 where
  pub names : (bytes : List ℕ) (n : ℕ) (r : Reason) → length bytes ≤ 2 ^ 24 → read_of bytes ≡ Err (Bad n r) → FirstBad bytes n r
  pub found : (bytes : List ℕ) (n : ℕ) (r : Reason) → length bytes ≤ 2 ^ 24 → FirstBad bytes n r → read_of bytes ≡ Err (Bad n r)
  pub long : (bytes : List ℕ) → 2 ^ 24 < length bytes → read_of bytes ≡ Err (Bad 0 reason.Length)

-- the fault of a line, and of the end of a script, is the first of its reasons, in their order, that holds behind the lines
-- before; where none holds, it has none
pub record ReasonsInOrder : Type 0 where
  pub in_line : (d : SoFar) (line : List ℕ) → fault_in (line_of d line) ≡ find (holds_at d line) line_reasons
  pub at_end : (d : SoFar) (n : ℕ) (rest : List ℕ) → fault_in (ended_of d n rest) ≡ option_map (Bad n) (find (holds_at_end d rest) end_reasons)
