-- The lines of a trace: for reading, and as JSON.
use Rattle.std.specs.Prelude.{ℕ, ◌-◌, ◌/◌, ◌%◌, true, false, List, [], ◌∷◌, ◌++◌, length, map, max, replicate, Option, Some, None, codes}
use Rattle.std.specs.List.{concat}
use Rattle.std.specs.Fmt.{decimal}
use Rattle.td_words.specs.declared.replies.Reply.{Reply}
use Rattle.td_words.specs.NameText.{access_text, lock_text}
use Rattle.td_words.specs.ReplyText.{reply_text}
use Rattle.field_lines.specs.declared.lines.Form.{Form}
use Rattle.field_lines.specs.declared.lines.Form.TheVariants as form
use Rattle.field_lines.specs.Fields.{Number, Address, Word, FieldSeen, field, mode_text, fields_text}
use Rattle.trace_lines.specs.declared.traces.What.{What}
use Rattle.trace_lines.specs.declared.traces.What.TheVariants as what
use Rattle.trace_lines.specs.declared.traces.Traced.{Traced}
use Rattle.trace_texts.specs.CallLines.{CallLineSeen, line_of}

-- what an event was, in a word
abbrev pub what_word : What → List ℕ
what_word (what.Tries lock mode true) = codes "try"
what_word (what.Tries lock mode false) = codes "denied"
what_word (what.Undoes lock) = codes "undo"
what_word what.Acts = codes "act"
what_word (what.Walks gpa level) = codes "walk"
what_word (what.Accesses access gpa page) = codes "access"
what_word what.Counts = codes "count"
what_word (what.Releases lock) = codes "release"

-- the number of the word of its page that an access reaches
abbrev pub word_at : ℕ → ℕ
word_at gpa = gpa % 4096 / 8

-- the lock and the mode of a try, the address and the level of a walk's entry, and the address, the page and the word of an access
abbrev pub more_fields : What → List FieldSeen
more_fields (what.Tries lock mode granted) = field (codes " ") (codes "lock") (Word (lock_text lock)) ∷ field (codes " ") (codes "mode") (Word (mode_text mode)) ∷ []
more_fields (what.Undoes lock) = field (codes " ") (codes "lock") (Word (lock_text lock)) ∷ []
more_fields what.Acts = []
more_fields (what.Walks gpa level) = field (codes " gpa ") (codes "gpa") (Address gpa) ∷ field (codes " level ") (codes "level") (Number level) ∷ []
more_fields (what.Accesses access gpa page) =
    field (codes " ") (codes "access") (Word (access_text access))
    ∷ field (codes " gpa ") (codes "gpa") (Address gpa)
    ∷ field (codes " page ") (codes "page") (Number page)
    ∷ field (codes " word ") (codes "word") (Number (word_at gpa))
    ∷ []
more_fields what.Counts = []
more_fields (what.Releases lock) = field (codes " ") (codes "lock") (Word (lock_text lock)) ∷ []

-- the reply that came with it
abbrev pub reply_fields : Option Reply → List FieldSeen
reply_fields None = []
reply_fields (Some r) = field (codes " -> ") (codes "reply") (Word (reply_text r)) ∷ []

-- what an event was, with the reply, in either form
abbrev pub told : Form → Traced → List ℕ
told f t = fields_text f (field (codes "") (codes "what") (Word (what_word t.what)) ∷ []) ++ (fields_text f (more_fields t.what) ++ fields_text f (reply_fields t.reply))

-- a text, with spaces behind it up to a width, and one at least
abbrev pub column : ℕ → List ℕ → List ℕ
column width text = text ++ replicate (max (width - length text) 1) 32

-- The event's number; the processor, a dot, and the number of its call; the line of the call in the script, and the call's name;
-- and what the event was, with the reply.
unfoldable pub told_text : Traced → List ℕ
told_text t = told form.Plain t ++ 10 ∷ []

abbrev pub place_text : Traced → List ℕ
place_text t = decimal t.lp ++ (codes "." ++ decimal t.line)

abbrev pub plain_line : CallLineSeen → Traced → List ℕ
plain_line c t = column 7 (decimal t.number) ++ (column 7 (place_text t) ++ (column 11 (codes "line " ++ decimal c.number) ++ (column 24 c.name ++ told_text t)))

-- the same as an object
abbrev pub first_members : (script_line : ℕ) → Traced → List ℕ
first_members n t =
    codes "{\"event\": " ++ (decimal t.number ++ (codes ", \"processor\": " ++ (decimal t.lp ++ (codes ", \"line\": " ++ (decimal t.line ++ (codes ", \"script_line\": " ++ (decimal n ++ codes ", \"call\": \"")))))))

abbrev pub last_members : Traced → List ℕ
last_members t = codes "\"" ++ (told form.Json t ++ codes "}\n")

abbrev pub json_line : CallLineSeen → Traced → List ℕ
json_line c t = first_members c.number t ++ (c.name ++ last_members t)

-- a line in either form
abbrev pub line_in : Form → CallLineSeen → Traced → List ℕ
line_in form.Plain c t = plain_line c t
line_in form.Json c t = json_line c t

-- a line for each event, by the call lines of the processors
abbrev pub event_line : Form → List (List CallLineSeen) → Traced → List ℕ
event_line f lists t = line_in f (line_of lists t.lp t.line) t

abbrev pub trace_text : Form → List (List CallLineSeen) → List Traced → List ℕ
trace_text f lists traced = concat (map (event_line f lists) traced)
