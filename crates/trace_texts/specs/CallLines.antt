-- The call lines in a script's text.
use Rattle.std.specs.Prelude.{ℕ, zero, suc, ◌+◌, ◌-◌, Bool, true, false, not, ◌&&◌, ◌||◌, ◌==◌, if◌then◌else◌, List, [], ◌∷◌, ◌++◌, map, Option, Some, None, slice_index_or, codes}
use Rattle.std.specs.Global.{Vec}
use Rattle.std.specs.Str.{bytes_eq}
use Rattle.line_words.specs.Number.{number}
use Rattle.line_words.specs.Words.{pieces, words, is_comment}
use Rattle.trace_texts.specs.declared.call_lines.CallLine.{CallLine}

-- a call's line: its number in the text, from 1, and its first word, the call's name
pub record CallLineSeen : Type 0 where
  pub number : ℕ
  pub name : List ℕ

abbrev pub line_seen : CallLine → CallLineSeen
line_seen c = record { number = c.number; name = c.name.now }

abbrev pub lists_seen : List (Vec CallLine) → List (List CallLineSeen)
lists_seen = map (λ list. map line_seen list.items)

-- whether these words begin with that number
abbrev pub is_number : ℕ → Option ℕ → Bool
is_number p None = false
is_number p (Some n) = n == p

abbrev pub begin_with : ℕ → List (List ℕ) → Bool
begin_with p [] = false
begin_with p (w ∷ ws) = is_number p (number w)

-- `lp P` opens the block of processor p, and `end` closes it
abbrev pub opens : ℕ → List (List ℕ) → Bool
opens p [] = false
opens p (w ∷ ws) = bytes_eq w (codes "lp") && begin_with p ws

abbrev pub closes : List (List ℕ) → Bool
closes [] = false
closes (w ∷ ws) = bytes_eq w (codes "end")

-- whether the block of processor p is open behind a line of these words
abbrev pub is_open_behind : ℕ → (open_before : Bool) → List (List ℕ) → Bool
is_open_behind p true ws = not (closes ws)
is_open_behind p false ws = opens p ws

-- within the block each line is a call's, but for blank lines, comments and the `end`
abbrev pub call_on : ℕ → (open_before : Bool) → List (List ℕ) → List CallLineSeen
call_on n false ws = []
call_on n true [] = []
call_on n true (w ∷ ws) = if is_comment w || bytes_eq w (codes "end") then [] else record { number = n; name = w } ∷ []

-- the call lines of processor p from line n on
abbrev pub call_lines : ℕ → (open_before : Bool) → (n : ℕ) → List (List ℕ) → List CallLineSeen
call_lines p b n [] = []
call_lines p b n (line ∷ lines) = call_on n b (words line) ++ call_lines p (is_open_behind p b (words line)) (n + 1) lines

-- those of a text
abbrev pub call_list : List ℕ → ℕ → List CallLineSeen
call_list text p = call_lines p false 1 (pieces text)

-- of so many processors, from processor p on
abbrev pub call_lists : List ℕ → (p count : ℕ) → List (List CallLineSeen)
call_lists text p zero = []
call_lists text p (suc count) = call_list text p ∷ call_lists text (p + 1) count

-- of call n of processor p, from 1
abbrev pub no_line : CallLineSeen
no_line = record { number = 0; name = [] }

abbrev pub line_of : List (List CallLineSeen) → (p n : ℕ) → CallLineSeen
line_of lists p n = slice_index_or (slice_index_or lists p []) (n - 1) no_line
