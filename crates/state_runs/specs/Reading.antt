-- The text of a state in a form, read from a machine's words and of its processors.
use Rattle.std.specs.Prelude.{ℕ, List, ◌++◌, length}
use Rattle.td_words.specs.declared.calls.Call.{Call}
use Rattle.field_lines.specs.declared.lines.Form.{Form}
use Rattle.leaf_dispatch.specs.declared.states.LpState.{LpState}
use Rattle.run_texts.specs.Replaying.{seen_at}
use Rattle.flat_core.specs.Event.{calls_of}
use Rattle.state_lines.specs.Lines.{texts_below}
use Rattle.state_lines.specs.LpRead.{lp_read}
use Rattle.state_lines.specs.WordText.{page_read}

-- of the first n processors of a script with these calls
abbrev pub lps_read : Form → List ℕ → List (List Call) → List LpState → ℕ → List ℕ
lps_read f words calls lps n = texts_below (λ p. lp_read f words p (length (calls_of calls p)) (seen_at lps p)) n

abbrev pub state_read : Form → (pages : ℕ) → List ℕ → List (List Call) → List LpState → List ℕ
state_read f pages words calls lps = texts_below (page_read f words) pages ++ lps_read f words calls lps (length lps)
