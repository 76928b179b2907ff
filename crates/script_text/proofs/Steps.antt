-- One line of a script, and those that follow.
use Rattle.std.proofs.Common.{◌≡◌, ℕ, ◌+◌, List, ◌∷◌, length, false, ◌==◌, Result, Ok, Err, refl, sym, ◌∙◌, subst, arith}
use Rattle.std.proofs.lemmas.List.Splits.{length-slice_split}
use Rattle.line_words.specs.Words.{pieces}
use Rattle.script_text.specs.declared.faults.ScriptFault.{ScriptFault}
use Rattle.script_text.specs.declared.faults.ScriptFault.TheVariants.{Bad, OutOfMemory}
use Rattle.script_text.specs.declared.faults.Reason.{Reason}
use Rattle.script_text.specs.Seen.{ScriptSeen}
use Rattle.script_text.specs.Reading.{SoFar, line_of, read_from, then_on, IsAnswered}
use Rattle.script_text.specs.Counted.{IsAnsweredAt}

pub some_pieces : (bytes : List ℕ) → (length (pieces bytes) == 0) ≡ false
some_pieces bytes = grind (arith, length-slice_split (λ b. b == 10) bytes)

pub one_line : (d : SoFar) (n : ℕ) (line more : List ℕ) → read_from d n (line ∷ pieces more) ≡ then_on (line_of d line) n (λ e. read_from e (n + 1) (pieces more))
one_line d n line more = rw (some_pieces more) refl

good_cases : (read : Result SoFar Reason) (e : SoFar) (n : ℕ) (f : SoFar → Result ScriptSeen ScriptFault) → read ≡ Ok e → then_on read n f ≡ f e
good_cases read e n f h = rw h refl

pub good_line : (d e : SoFar) (n : ℕ) (rest line more : List ℕ) → pieces rest ≡ line ∷ pieces more → line_of d line ≡ Ok e → read_from d n (pieces rest) ≡ read_from e (n + 1) (pieces more)
good_line d e n rest line more cut h = rw (cut, one_line d n line more) (good_cases (line_of d line) e n (λ e. read_from e (n + 1) (pieces more)) h)

bad_cases : (read : Result SoFar Reason) (new : SoFar) (n : ℕ) (f : SoFar → Result ScriptSeen ScriptFault) (e : ScriptFault) → IsAnsweredAt n read new (Err e) → IsAnswered (then_on read n f) (Err e)
bad_cases read new n f (Bad m r) h = rw (h.1, h.0) refl
bad_cases read new n f OutOfMemory h = tt

pub bad_line : (d new : SoFar) (n : ℕ) (rest line more : List ℕ) (e : ScriptFault) (all : Result ScriptSeen ScriptFault) → pieces rest ≡ line ∷ pieces more → read_from d n (pieces rest) ≡ all → IsAnsweredAt n (line_of d line) new (Err e) → IsAnswered all (Err e)
bad_line d new n rest line more e all cut same h =
    let P : Result ScriptSeen ScriptFault → Type 0 = λ read. IsAnswered read (Err e) in
    let here : read_from d n (pieces rest) ≡ then_on (line_of d line) n (λ x. read_from x (n + 1) (pieces more)) = rw cut (one_line d n line more) in
    subst P (sym here ∙ same) (bad_cases (line_of d line) new n (λ x. read_from x (n + 1) (pieces more)) e h)
