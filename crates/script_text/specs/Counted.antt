-- How the words behind the first are judged.
use Rattle.std.specs.Prelude.{◌≡◌, ℕ, List, Option, None, Result, Ok, Err, ◌==◌, slice_index_or, ok_or, unwrap_or, length, if◌then◌else◌}
use Rattle.script_text.specs.declared.faults.Reason.{Reason}
use Rattle.script_text.specs.declared.faults.Reason.TheVariants as reason
use Rattle.script_text.specs.declared.faults.ScriptFault.{ScriptFault}
use Rattle.script_text.specs.declared.faults.ScriptFault.TheVariants.{Bad, OutOfMemory}

-- the next reason is looked for where none held so far
infixl 10 ◌>>=◌
abbrev pub ◌>>=◌ : {A B : Type 0} → Result A Reason → (A → Result B Reason) → Result B Reason
(Ok x) >>= f = f x
(Err e) >>= f = Err e

-- what reading line n gives, unless memory ran out
abbrev pub IsAnsweredAt : {A : Type 0} → ℕ → Result A Reason → A → Result (Unit {0}) ScriptFault → Type 0
IsAnsweredAt n read new (Ok t) = read ≡ Ok new
IsAnsweredAt n read new (Err (Bad m r)) = (m ≡ n) × (read ≡ Err r)
IsAnsweredAt n read new (Err OutOfMemory) = Unit {0}

abbrev pub counted_of : ℕ → List (Option ℕ) → Result (Unit {0}) Reason
counted_of n numbers = if length numbers == n then Ok tt else Err reason.Count

abbrev pub number_at : List (Option ℕ) → ℕ → Result ℕ Reason
number_at numbers i = ok_or (slice_index_or numbers i None) reason.Number

-- the argument at a place, 0 where none is written
abbrev pub argument : List (Option ℕ) → ℕ → ℕ
argument numbers i = unwrap_or (slice_index_or numbers i None) 0
