-- Lines of calls in a processor's block, and those of host accesses.
use Rattle.std.proofs.Common.{◌≡◌, ℕ, List, [], ◌∷◌, ◌++◌, map, Bool, true, false, cond, not, ◌&&◌, Option, Some, None, Ok, refl, ap, ◌∙◌, arith}
use Rattle.std.specs.Prelude.{codes, is_some}
use Rattle.std.specs.List.{list_all}
use Rattle.std.specs.Str.{bytes_eq}
use Rattle.std.proofs.lemmas.Bool.{and_parts}
use Rattle.std.proofs.lemmas.Slice.Eq.{bytes_eq-Decides}
use Rattle.td_words.specs.declared.calls.Call.{Call}
use Rattle.td_words.specs.declared.calls.Call.TheVariants as calls
use Rattle.td_words.specs.declared.machines.Machine.{Machine}
use Rattle.line_words.specs.declared.mnemonics.CallName.{CallName}
use Rattle.line_words.specs.declared.mnemonics.Mnemonic.{Mnemonic}
use Rattle.line_words.specs.Mnemonics.{mnemonics, mnemonic_in}
use Rattle.line_words.specs.Number.{number}
use Rattle.line_words.specs.Words.{words, is_comment}
use Rattle.line_words.proofs.Names.{words_behind}
use Rattle.script_text.specs.declared.lines.Block.{Block}
use Rattle.script_text.specs.declared.lines.Block.TheVariants as block
use Rattle.script_text.specs.declared.lines.Keyword.{Keyword}
use Rattle.script_text.specs.declared.lines.Entry.TheVariants as entry
use Rattle.script_text.specs.Line.{keyword_of, call_of, call_in, placed_of, entry_of}
use Rattle.script_text.specs.Reading.{SoFar, called_of, entered_of, worded_of}

pub read_said : (text rest : List ℕ) (page word : ℕ) → text ≡ codes "HOST.READ" ++ 32 ∷ rest → map number (words rest) ≡ Some page ∷ Some word ∷ []
    → (lp : ℕ) → call_in lp (words text) ≡ Ok (entry.Call lp (calls.HostRead page word))
unfolding call_of
read_said text rest page word cut numbers lp =
    let is : words text ≡ codes "HOST.READ" ∷ words rest = ap (λ (xs : List ℕ). words xs) cut ∙ words_behind (codes "HOST.READ") rest refl (omega arith) in
    rw (is, numbers) refl

pub write_said : (text rest : List ℕ) (page word value : ℕ) → text ≡ codes "HOST.WRITE" ++ 32 ∷ rest → map number (words rest) ≡ Some page ∷ Some word ∷ Some value ∷ []
    → (lp : ℕ) → call_in lp (words text) ≡ Ok (entry.Call lp (calls.HostWrite page word value))
unfolding call_of
write_said text rest page word value cut numbers lp =
    let is : words text ≡ codes "HOST.WRITE" ∷ words rest = ap (λ (xs : List ℕ). words xs) cut ∙ words_behind (codes "HOST.WRITE") rest refl (omega arith) in
    rw (is, numbers) refl

-- a mnemonic is no keyword and begins no comment
abbrev is_free : List ℕ → Bool
is_free w = not (is_some (keyword_of w)) && not (is_comment w)

abbrev FreeWhere : Option Mnemonic → List ℕ → Type 0
FreeWhere None w = Unit {0}
FreeWhere (Some m) w = is_free w ≡ true

free_if : (b : Bool) (w name : List ℕ) (m : Mnemonic) (more : Option Mnemonic) → bytes_eq w name ≡ b → is_free name ≡ true → FreeWhere more w → FreeWhere (cond b (Some m) more) w
free_if true w name m more is free rest = let e = (bytes_eq-Decides w name).0 is in rw e free
free_if false w name m more is free rest = rest

row_free : (rows : List (List ℕ × CallName × ℕ × ℕ)) (w : List ℕ) → list_all (λ row. is_free row.0) rows ≡ true → FreeWhere (mnemonic_in rows w) w
row_free [] w h = tt
row_free (row ∷ rows) w h =
    let p = and_parts (is_free row.0) (list_all (λ row. is_free row.0) rows) h in
    free_if (bytes_eq w row.0) w row.0 (record { call = row.1; least = row.2; most = row.3 }) (mnemonic_in rows w) refl p.0 (row_free rows w p.1)

free_parts : (k : Option Keyword) (b : Bool) → (not (is_some k) && not b) ≡ true → (k ≡ None) × (b ≡ false)
free_parts None false h = (refl, refl)
free_parts None true h = cc
free_parts (Some k) b h = cc

-- what a line says where a processor's block is open and no keyword stands
placed : (m : Option Machine) (b : Option Block) (had marks : List Bool) (lp : ℕ) (w : List ℕ) (ns : List (Option ℕ)) → is_some m ≡ true → b ≡ Some (block.Lp lp) → keyword_of w ≡ None
    → placed_of m b had marks w ns ≡ call_of lp (mnemonic_in mnemonics w) ns
placed None b had marks lp w ns some inside other = cc
placed (Some m) b had marks lp w ns some inside other = rw (inside, other) refl

abbrev IsTaken : SoFar → ℕ → List (List ℕ) → Call → Type 0
IsTaken d lp ws c = worded_of d ws ≡ called_of d lp c

taken_if : (d : SoFar) (lp : ℕ) (w : List ℕ) (ws : List (List ℕ)) (c : Call) (row : Option Mnemonic) → is_some d.stage.machine ≡ true → d.stage.block ≡ Some (block.Lp lp)
    → mnemonic_in mnemonics w ≡ row → FreeWhere row w → call_of lp row (map number ws) ≡ Ok (entry.Call lp c) → IsTaken d lp (w ∷ ws) c
unfolding worded_of entered_of entry_of call_of
taken_if d lp w ws c None some inside e free h = cc
taken_if d lp w ws c (Some m) some inside e free h =
    let other = free_parts (keyword_of w) (is_comment w) free in
    rw (other.1, placed d.stage.machine d.stage.block d.stage.had d.listed lp w (map number ws) some inside other.0, e, h) refl

-- such words are taken in as that call
pub call_taken : (d : SoFar) (lp : ℕ) (ws : List (List ℕ)) (c : Call) → is_some d.stage.machine ≡ true → d.stage.block ≡ Some (block.Lp lp) → call_in lp ws ≡ Ok (entry.Call lp c) → IsTaken d lp ws c
call_taken d lp [] c some inside h = cc
call_taken d lp (w ∷ ws) c some inside h = taken_if d lp w ws c (mnemonic_in mnemonics w) some inside refl (row_free mnemonics w refl) h
