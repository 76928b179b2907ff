-- Logs of replies, line by line.
use Rattle.std.specs.Prelude.{◌≡◌, ℕ, ◌+◌, ◌^◌, Bool, List, [], ◌∷◌, ◌++◌, length, map, take, drop, position, slice_index_or, Option, Some, None, Result, Ok, Err, not, ◌&&◌, ◌==◌, nat_le, nat_lt, if◌then◌else◌, codes}
use Rattle.std.specs.List.{list_any}
use Rattle.std.specs.Global.{Vec}
use Rattle.td_words.specs.declared.calls.Call.{Call}
use Rattle.line_words.specs.Lines.{words_text}
use Rattle.line_words.specs.Number.{number}
use Rattle.line_words.specs.Words.{pieces, words, is_printable, is_comment}
use Rattle.reply_logs.specs.declared.faults.LogFault.{LogFault}
use Rattle.reply_logs.specs.declared.faults.LogFault.TheVariants.{Bad, OutOfMemory}
use Rattle.reply_logs.specs.declared.faults.LogReason.{LogReason}
use Rattle.reply_logs.specs.declared.faults.LogReason.TheVariants as reason
use Rattle.reply_logs.specs.declared.logs.LogLine.{LogLine}
use Rattle.reply_logs.specs.declared.logs.Place.{Place}

-- what was answered to line n, from 1, of a processor
pub record LogLineSeen : Type 0 where
  pub lp : ℕ
  pub line : ℕ
  pub reply : List ℕ

abbrev pub line_seen : LogLine → LogLineSeen
line_seen l = record { lp = l.lp; line = l.line; reply = l.reply.items }

-- `P.N`: line N of processor P, where the script has that line
abbrev pub has_line : List (List Call) → (p n : ℕ) → Bool
has_line calls p n = nat_le 1 n && nat_le n (length (slice_index_or calls p []))

abbrev pub place_from : List (List Call) → Option ℕ → Option ℕ → Option Place
place_from calls (Some p) (Some n) = if has_line calls p n then Some (record { lp = p; line = n }) else None
place_from calls (Some p) None = None
place_from calls None n = None

abbrev pub place_cut : List (List Call) → List ℕ → Option ℕ → Option Place
place_cut calls word None = None
place_cut calls word (Some dot) = place_from calls (number (take dot word)) (number (drop (dot + 1) word))

unfoldable pub place_in : List (List Call) → List ℕ → Option Place
place_in calls word = place_cut calls word (position (λ b. b == 46) word)

-- words with a space between them
abbrev pub joined : List (List ℕ) → List ℕ
joined [] = []
joined (w ∷ ws) = w ++ words_text ws

-- whether a log has a reply of that line
abbrev pub is_told : Place → List LogLineSeen → Bool
is_told p log = list_any (λ l. l.lp == p.lp && l.line == p.line) log

-- a line of these words behind its first, which is that place
abbrev pub told_at : List LogLineSeen → Option Place → List (List ℕ) → Result (List LogLineSeen) LogReason
told_at log None ws = Err reason.Place
told_at log (Some p) ws =
    if length ws == 0 then Err reason.Reply
    else if is_told p log then Err reason.Twice
    else Ok (log ++ record { lp = p.lp; line = p.line; reply = joined ws } ∷ [])

-- a line without words and a comment are skipped, as in scripts
abbrev pub worded_of : List (List Call) → List LogLineSeen → List (List ℕ) → Result (List LogLineSeen) LogReason
worded_of calls log [] = Ok log
worded_of calls log (w ∷ ws) = if is_comment w then Ok log else told_at log (place_in calls w) ws

unfoldable pub line_of : List (List Call) → List LogLineSeen → List ℕ → Result (List LogLineSeen) LogReason
line_of calls log line = if not (is_printable line) then Err reason.Byte else worded_of calls log (words line)

-- behind the last newline nothing may stand
abbrev pub ended_of : List LogLineSeen → ℕ → List ℕ → Result (List LogLineSeen) LogFault
ended_of log n rest = if not (length rest == 0) then Err (Bad n reason.Unterminated) else Ok log

-- a line's fault, at its number
abbrev pub then_on : Result (List LogLineSeen) LogReason → ℕ → (List LogLineSeen → Result (List LogLineSeen) LogFault) → Result (List LogLineSeen) LogFault
then_on (Ok log) n f = f log
then_on (Err r) n f = Err (Bad n r)

-- the pieces round the newlines, from line n on
abbrev pub read_from : List (List Call) → List LogLineSeen → ℕ → List (List ℕ) → Result (List LogLineSeen) LogFault
read_from calls log n [] = ended_of log n []
read_from calls log n (piece ∷ more) =
    if length more == 0 then ended_of log n piece else then_on (line_of calls log piece) n (λ e. read_from calls e (n + 1) more)

-- the replies that bytes tell of a script with these calls, or the first bad line with the first reason that holds
unfoldable pub log_of : List (List Call) → List ℕ → Result (List LogLineSeen) LogFault
log_of calls bytes = if nat_lt (2 ^ 24) (length bytes) then Err (Bad 0 reason.Length) else read_from calls [] 1 (pieces bytes)

-- what a call answers, read as what it tells
abbrev pub answer_of : Result (Vec LogLine) LogFault → Result (List LogLineSeen) LogFault
answer_of (Ok v) = Ok (map line_seen v.items)
answer_of (Err e) = Err e

-- what reading gives, unless memory ran out
abbrev pub IsAnswered : Result (List LogLineSeen) LogFault → Result (List LogLineSeen) LogFault → Type 0
IsAnswered read (Ok log) = read ≡ Ok log
IsAnswered read (Err (Bad n r)) = read ≡ Err (Bad n r)
IsAnswered read (Err OutOfMemory) = Unit {0}

abbrev pub IsAnsweredAt : ℕ → Result (List LogLineSeen) LogReason → List LogLineSeen → Result (Unit {0}) LogFault → Type 0
IsAnsweredAt n read new (Ok t) = read ≡ Ok new
IsAnsweredAt n read new (Err (Bad m r)) = (m ≡ n) × (read ≡ Err r)
IsAnsweredAt n read new (Err OutOfMemory) = Unit {0}

-- how a reason is told
abbrev pub reason_text : LogReason → List ℕ
reason_text reason.Length = codes "LENGTH"
reason_text reason.Unterminated = codes "UNTERMINATED"
reason_text reason.Byte = codes "BYTE"
reason_text reason.Place = codes "PLACE"
reason_text reason.Reply = codes "REPLY"
reason_text reason.Twice = codes "TWICE"
