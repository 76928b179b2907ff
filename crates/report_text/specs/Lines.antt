-- The lines of a run's two texts: the replies, and what guests noted.
use Rattle.std.specs.Prelude.{ℕ, ◌+◌, List, [], ◌∷◌, ◌++◌, Option, Some, None, slice_get, codes}
use Rattle.std.specs.Fmt.{decimal}
use Rattle.td_words.specs.declared.replies.Reply.{Reply}
use Rattle.td_words.specs.ReplyText.{gpa_text, digest_text, reply_text}
use Rattle.report_core.specs.declared.facts.Facts.{Facts}
use Rattle.report_core.specs.Report.{report_of}
use Rattle.report_text.specs.declared.guest.GuestNote.{GuestNote}
use Rattle.report_text.specs.declared.guest.GuestNote.TheVariants as note

-- the processor's number, a dot, the number of its call line from 1, a space, what is told of this line, a newline
abbrev pub line_text : ℕ → ℕ → List ℕ → List ℕ
line_text p n told = decimal p ++ (codes "." ++ (decimal n ++ (codes " " ++ (told ++ 10 ∷ []))))

abbrev pub reply_line : ℕ → ℕ → Reply → List ℕ
reply_line p n r = line_text p n (reply_text r)

-- the replies of processor p, from line n on
abbrev pub reply_lines : ℕ → ℕ → List Reply → List (List ℕ)
reply_lines p n [] = []
reply_lines p n (r ∷ rs) = reply_line p n r ∷ reply_lines p (n + 1) rs

-- a completed load with its address and the word
abbrev pub load_line : ℕ → ℕ → ℕ → ℕ → List ℕ
load_line p line gpa word = line_text p line (codes "load " ++ (gpa_text gpa ++ (codes " " ++ decimal word)))

-- a completed extension with the RTMR's index and its new digest
abbrev pub rtmr_line : ℕ → ℕ → ℕ → List ℕ → List ℕ
rtmr_line p line index digest = line_text p line (codes "rtmr " ++ (decimal index ++ (codes " " ++ digest_text digest)))

-- a completed report: the 720 digits of the report of these facts under that key
abbrev pub report_line : (key : List ℕ) → ℕ → ℕ → Facts → List ℕ
report_line key p line facts = line_text p line (codes "report " ++ digest_text (report_of key facts))

abbrev pub kept_line : (key : List ℕ) → ℕ → ℕ → Option Facts → List ℕ
kept_line key p line None = []
kept_line key p line (Some facts) = report_line key p line facts

-- the line of a note; a report's has the facts that are kept at its place
abbrev pub note_line : (key : List ℕ) → List Facts → ℕ → GuestNote → List ℕ
note_line key reports p (note.Load line gpa word) = load_line p line gpa word
note_line key reports p (note.Rtmr line index digest) = rtmr_line p line index digest
note_line key reports p (note.Report line place) = kept_line key p line (slice_get reports place)
