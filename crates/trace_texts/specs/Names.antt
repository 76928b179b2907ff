-- The name on an event's line is the word of its call.
use Rattle.std.specs.Prelude.{◌≡◌, ℕ, ◌-◌, ◌≤◌, List, [], length, map, slice_index_or, Ok}
use Rattle.std.specs.List.{All}
use Rattle.td_words.specs.declared.calls.Call.{Call}
use Rattle.flat_core.specs.Opening.{Opening}
use Rattle.script_text.specs.Reading.{read_of}
use Rattle.script_text.specs.Seen.{ScriptSeen}
use Rattle.script_text.specs.Spelling.{call_word}
use Rattle.trace_lines.specs.declared.traces.Traced.{Traced}
use Rattle.trace_lines.specs.Traces.{traces}
use Rattle.trace_texts.specs.CallLines.{call_lists, line_of}

-- the grammar's word of call n of processor p, from 1; it is empty where there is no such call
abbrev pub word_of : List (List Call) → (p n : ℕ) → List ℕ
word_of calls p n = slice_index_or (map call_word (slice_index_or calls p [])) (n - 1) []

-- an event is of a call that its processor has
abbrev pub IsOfCall : List (List Call) → Traced → Type 0
IsOfCall calls t = (1 ≤ t.line) × (t.line ≤ length (slice_index_or calls t.lp []))

-- In a text that is read as a script, the line of each call has that call's word as its name, which `event_line` shows; and
-- each event of a run is of a call.
pub record LinesNameCalls : Type 0 where
  pub names : (text : List ℕ) (s : ScriptSeen) → read_of text ≡ Ok s → (p n : ℕ) → (line_of (call_lists text 0 s.machine.lps) p n).name ≡ word_of s.calls p n
  pub events : (o : Opening) (schedule : List ℕ) → All (IsOfCall o.calls) (traces o schedule)
