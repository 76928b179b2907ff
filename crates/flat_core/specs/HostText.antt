-- The reply lines of a run, by processor and then by line.
use Rattle.std.specs.Prelude.{ℕ, zero, suc, ◌+◌, List, [], ◌++◌}
use Rattle.std.specs.List.{concat}
use Rattle.report_text.specs.Lines.{reply_lines}
use Rattle.flat_core.specs.Processor.{Lp}
use Rattle.flat_core.specs.Opening.{Opening}
use Rattle.flat_core.specs.Event.{State}
use Rattle.flat_core.specs.Run.{run}

-- the lines of so many processors, from p on
abbrev pub lines_from : ℕ → ℕ → (ℕ → Lp) → List (List ℕ)
lines_from zero p lps = []
lines_from (suc n) p lps = reply_lines p 1 (lps p).replies ++ lines_from n (p + 1) lps

-- the reply lines of a state
abbrev pub lines_of : State → List (List ℕ)
lines_of s = lines_from s.lp_count 0 s.lps

-- what a state prints
unfoldable pub text_of : State → List ℕ
text_of s = concat (lines_of s)

-- what a run prints
unfoldable pub host_text : Opening → List ℕ → List ℕ
host_text o schedule = text_of (run o schedule)
