-- One line of a log, and those that follow.
use Rattle.std.proofs.Common.{◌≡◌, ℕ, ◌+◌, List, ◌∷◌, length, false, ◌==◌, Result, Ok, Err, refl, sym, ◌∙◌, subst, arith}
use Rattle.std.proofs.lemmas.List.Splits.{length-slice_split}
use Rattle.td_words.specs.declared.calls.Call.{Call}
use Rattle.line_words.specs.Words.{pieces}
use Rattle.reply_logs.specs.declared.faults.LogFault.{LogFault}
use Rattle.reply_logs.specs.declared.faults.LogFault.TheVariants.{Bad, OutOfMemory}
use Rattle.reply_logs.specs.declared.faults.LogReason.{LogReason}
use Rattle.reply_logs.specs.Logs.{LogLineSeen, line_of, read_from, then_on, IsAnswered, IsAnsweredAt}

some_pieces : (bytes : List ℕ) → (length (pieces bytes) == 0) ≡ false
some_pieces bytes = grind (arith, length-slice_split (λ b. b == 10) bytes)

one_line : (calls : List (List Call)) (d : List LogLineSeen) (n : ℕ) (line more : List ℕ) → read_from calls d n (line ∷ pieces more) ≡ then_on (line_of calls d line) n (λ e. read_from calls e (n + 1) (pieces more))
one_line calls d n line more = rw (some_pieces more) refl

good_cases : (read : Result (List LogLineSeen) LogReason) (e : List LogLineSeen) (n : ℕ) (f : List LogLineSeen → Result (List LogLineSeen) LogFault) → read ≡ Ok e → then_on read n f ≡ f e
good_cases read e n f h = rw h refl

pub good_line : (calls : List (List Call)) (d e : List LogLineSeen) (n : ℕ) (rest line more : List ℕ) → pieces rest ≡ line ∷ pieces more → line_of calls d line ≡ Ok e → read_from calls d n (pieces rest) ≡ read_from calls e (n + 1) (pieces more)
good_line calls d e n rest line more cut h = rw (cut, one_line calls d n line more) (good_cases (line_of calls d line) e n (λ e. read_from calls e (n + 1) (pieces more)) h)

bad_cases : (read : Result (List LogLineSeen) LogReason) (new : List LogLineSeen) (n : ℕ) (f : List LogLineSeen → Result (List LogLineSeen) LogFault) (e : LogFault) → IsAnsweredAt n read new (Err e) → IsAnswered (then_on read n f) (Err e)
bad_cases read new n f (Bad m r) h = rw (h.1, h.0) refl
bad_cases read new n f OutOfMemory h = tt

pub bad_line : (calls : List (List Call)) (d new : List LogLineSeen) (n : ℕ) (rest line more : List ℕ) (e : LogFault) (all : Result (List LogLineSeen) LogFault) → pieces rest ≡ line ∷ pieces more → read_from calls d n (pieces rest) ≡ all → IsAnsweredAt n (line_of calls d line) new (Err e) → IsAnswered all (Err e)
bad_line calls d new n rest line more e all cut same h =
    let P : Result (List LogLineSeen) LogFault → Type 0 = λ read. IsAnswered read (Err e) in
    let here : read_from calls d n (pieces rest) ≡ then_on (line_of calls d line) n (λ x. read_from calls x (n + 1) (pieces more)) = rw cut (one_line calls d n line more) in
    subst P (sym here ∙ same) (bad_cases (line_of calls d line) new n (λ x. read_from calls x (n + 1) (pieces more)) e h)
