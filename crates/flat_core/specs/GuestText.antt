-- What guests read and extended in a run, as the lines of the guest file: by processor, and then in the order of its events.
use Rattle.std.specs.Prelude.{ℕ, zero, suc, ◌+◌, List, [], ◌++◌, map}
use Rattle.std.specs.List.{concat}
use Rattle.report_text.specs.Lines.{load_line, rtmr_line, report_line}
use Rattle.flat_core.specs.Processor.{Note, LoadNote, RtmrNote, ReportNote, Lp}
use Rattle.flat_core.specs.Opening.{Opening}
use Rattle.flat_core.specs.Digests.{digest_bytes}
use Rattle.flat_core.specs.Event.{State}
use Rattle.flat_core.specs.Run.{run}

-- the line of a note: of an extension with the digest's bytes, and of a report with its digits under the report key
abbrev pub note_text : (key : List ℕ) → ℕ → Note → List ℕ
note_text key p (LoadNote line gpa word) = load_line p line gpa word
note_text key p (RtmrNote line index words) = rtmr_line p line index (digest_bytes words)
note_text key p (ReportNote line facts) = report_line key p line facts

-- the lines of so many processors, from p on
abbrev pub notes_from : (key : List ℕ) → ℕ → ℕ → (ℕ → Lp) → List (List ℕ)
notes_from key zero p lps = []
notes_from key (suc n) p lps = map (note_text key p) (lps p).notes ++ notes_from key n (p + 1) lps

-- what a state's guests noted
unfoldable pub notes_of : (key : List ℕ) → State → List ℕ
notes_of key s = concat (notes_from key s.lp_count 0 s.lps)

-- what a run's guests noted
unfoldable pub guest_text : (key : List ℕ) → Opening → List ℕ → List ℕ
guest_text key o schedule = notes_of key (run o schedule)
