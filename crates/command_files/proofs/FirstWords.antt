-- What clap's reading of a line and its faults have to do with what is found in it.
use Rattle.std.proofs.Common.{◌∙◌, ◌≡◌, ℕ, ◌<◌, ap, ap₂, IsTrue, List, [], ◌∷◌, Some, None, length, drop, map, refl, sym, arith, string_bytes, String, Global}
use Rattle.std.specs.List.{slice_index_or}
use Rattle.clap.specs.Words.{IsAmong, Kinds, Row}
use Rattle.clap.specs.declared.error.kind.ErrorKind.{ErrorKind}
use Rattle.command_files.specs.Commands.{asked_behind, asked_in, is_command, begins_with_command, found_by}

pub found_without : (faults : Kinds) (rows all : List Row) → faults ≡ [] → rows ≡ all → Some rows ≡ found_by faults all
found_without [] rows all none is = ap (λ (r : List Row). Some r) is
found_without (fault ∷ faults) rows all none is = cc

pub none_with : (faults : Kinds) (all : List Row) (k : ErrorKind) → IsAmong k faults → None ≡ found_by faults all
none_with [] all k among = absurd among
none_with (fault ∷ faults) all k among = refl

pub nothing_asked : (words : List (String Global)) → length words ≡ 0 → None ≡ asked_in (map string_bytes words)
unfolding asked_in
nothing_asked [] none = refl
nothing_asked (w ∷ words) none = absurd (omega arith)

-- the first word and the rest
pub asked_of_rest : (words rest : List (String Global)) (first : String Global) (word : List ℕ) → 0 < length words → first ≡ slice_index_or words 0 first
    → word ≡ string_bytes first → rest ≡ drop 1 words
    → asked_behind word (map string_bytes rest) ≡ asked_in (map string_bytes words)
unfolding asked_in
asked_of_rest [] rest first word some is value behind = absurd (omega arith)
asked_of_rest (w ∷ words) rest first word some is value behind =
    ap₂ (λ (t : List ℕ) (r : List (String Global)). asked_behind t (map string_bytes r)) (value ∙ ap string_bytes is) behind

-- a command that is the first word
pub named_first : (words : List (String Global)) (first : String Global) (word : List ℕ) → 0 < length words → first ≡ slice_index_or words 0 first
    → word ≡ string_bytes first → IsTrue (is_command word) → IsTrue (begins_with_command (map string_bytes words))
unfolding begins_with_command
named_first [] first word some is value command = absurd (omega arith)
named_first (w ∷ words) first word some is value command = sym (ap is_command (value ∙ ap string_bytes is)) ∙ command
