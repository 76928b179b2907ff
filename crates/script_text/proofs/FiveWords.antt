-- Five words behind the first tell what a line says: no line that counts its words has more than four there.
use Rattle.std.proofs.Common.{◌≡◌, ℕ, ◌≤◌, List, [], ◌∷◌, length, map, take, Bool, true, false, cond, leb, ◌==◌, ◌&&◌, Option, Some, None, Err, refl, sym, ◌∙◌, arith}
use Rattle.std.specs.List.{list_all}
use Rattle.std.specs.Str.{bytes_eq}
use Rattle.std.proofs.lemmas.Bool.{and_parts}
use Rattle.td_words.specs.declared.machines.Machine.{Machine}
use Rattle.line_words.specs.declared.mnemonics.CallName.{CallName}
use Rattle.line_words.specs.declared.mnemonics.Mnemonic.{Mnemonic}
use Rattle.line_words.specs.Mnemonics.{mnemonics, mnemonic_in}
use Rattle.line_words.specs.Number.{number}
use Rattle.script_text.specs.declared.faults.Reason.TheVariants as reason
use Rattle.script_text.specs.declared.lines.Block.{Block}
use Rattle.script_text.specs.declared.lines.Block.TheVariants as block
use Rattle.script_text.specs.declared.lines.Entry.{Entry}
use Rattle.script_text.specs.declared.lines.Keyword.{Keyword}
use Rattle.script_text.specs.declared.lines.Keyword.TheVariants as keyword
use Rattle.script_text.specs.declared.lines.Stage.{Stage}
use Rattle.script_text.specs.declared.operations.OpName.{OpName}
use Rattle.script_text.specs.declared.operations.OpName.TheVariants as op
use Rattle.script_text.specs.Blocks.{code_of, operation_of, operand_count, operands_of}
use Rattle.script_text.specs.Counted.{counted_of}
use Rattle.script_text.specs.Line.{machine_of, block_of, end_of, named_entry, judged_of, call_of, first_of, list_of, operation_line_of, outside_of, named_of, inside_of, placed_of, entry_of, keyword_of}

-- five numbers and more are too many wherever at most four are counted
miscounted : (n : ℕ) (ns : List (Option ℕ)) → n ≤ 4 → 5 ≤ length ns → counted_of n ns ≡ Err reason.Count
miscounted n ns few h = let e : (length ns == n) ≡ false = grind arith in rw e refl

machine_miscounted : (ns : List (Option ℕ)) → 5 ≤ length ns → machine_of ns ≡ Err reason.Count
unfolding machine_of
machine_miscounted ns h = rw (miscounted 3 ns (omega arith) h) refl

block_miscounted : (m : Machine) (had : List Bool) (ns : List (Option ℕ)) → 5 ≤ length ns → block_of m had ns ≡ Err reason.Count
unfolding block_of
block_miscounted m had ns h = rw (miscounted 1 ns (omega arith) h) refl

end_miscounted : (ns : List (Option ℕ)) → 5 ≤ length ns → end_of ns ≡ Err reason.Count
unfolding end_of
end_miscounted ns h = rw (miscounted 0 ns (omega arith) h) refl

-- no mnemonic has more than four arguments
abbrev HasFew : Option Mnemonic → Type 0
HasFew None = Unit {0}
HasFew (Some m) = leb m.most 4 ≡ true

few_if : (b : Bool) (m : Mnemonic) (x : Option Mnemonic) → leb m.most 4 ≡ true → HasFew x → HasFew (cond b (Some m) x)
few_if true m x h k = h
few_if false m x h k = k

row_few : (rows : List (List ℕ × CallName × ℕ × ℕ)) (word : List ℕ) → list_all (λ row. leb row.3 4) rows ≡ true → HasFew (mnemonic_in rows word)
row_few [] word h = tt
row_few (row ∷ rows) word h =
    let p = and_parts (leb row.3 4) (list_all (λ row. leb row.3 4) rows) h in
    few_if (bytes_eq word row.0) (record { call = row.1; least = row.2; most = row.3 }) (mnemonic_in rows word) p.0 (row_few rows word p.1)

code_miscounted : (m : Machine) (listed : List Bool) (ns : List (Option ℕ)) → 5 ≤ length ns → list_of m listed ns ≡ Err reason.Count
unfolding code_of
code_miscounted m listed ns h = rw (miscounted 2 ns (omega arith) h) refl

has_two : (o : OpName) → leb (operand_count o) 2 ≡ true
has_two op.Set = refl
has_two _ = refl

operands_miscounted : (o : OpName) (ns : List (Option ℕ)) → leb (operand_count o) 2 ≡ true → 5 ≤ length ns → operands_of o ns ≡ Err reason.Count
operands_miscounted o ns few h =
    let over : (length ns == operand_count o) ≡ false = grind (arith, few) in
    rw over refl

operation_alike : (o : Option OpName) (ns ms : List (Option ℕ)) → 5 ≤ length ns → 5 ≤ length ms → operation_line_of o ns ≡ operation_line_of o ms
unfolding operation_line_of
operation_alike None ns ms h k = refl
operation_alike (Some o) ns ms h k = rw (operands_miscounted o ns (has_two o) h, operands_miscounted o ms (has_two o) k) refl

-- too many arguments are COUNT, whatever the call
judged_too_many : (e : Entry) (m : Mnemonic) (ns : List (Option ℕ)) → leb m.most 4 ≡ true → 5 ≤ length ns → judged_of e m ns ≡ Err reason.Count
judged_too_many e m ns few h =
    let over : (leb m.least (length ns) && leb (length ns) m.most) ≡ false = grind (arith, few) in
    rw over refl

-- what a line says that has five words and more behind its first doesn't hang on which they are

call_alike : (lp : ℕ) (row : Option Mnemonic) (ns ms : List (Option ℕ)) → HasFew row → 5 ≤ length ns → 5 ≤ length ms → call_of lp row ns ≡ call_of lp row ms
unfolding call_of
call_alike lp None ns ms few h k = refl
call_alike lp (Some m) ns ms few h k =
    judged_too_many (named_entry lp m.call ns) m ns few h ∙ sym (judged_too_many (named_entry lp m.call ms) m ms few k)

first_alike : (word : Option Keyword) (ns ms : List (Option ℕ)) → 5 ≤ length ns → 5 ≤ length ms → first_of word ns ≡ first_of word ms
first_alike (Some keyword.Machine) ns ms h k = machine_miscounted ns h ∙ sym (machine_miscounted ms k)
first_alike _ ns ms h k = refl

outside_alike : (m : Machine) (had listed : List Bool) (word : Option Keyword) (ns ms : List (Option ℕ)) → 5 ≤ length ns → 5 ≤ length ms → outside_of m had listed word ns ≡ outside_of m had listed word ms
outside_alike m had listed (Some keyword.Lp) ns ms h k = block_miscounted m had ns h ∙ sym (block_miscounted m had ms k)
outside_alike m had listed (Some keyword.Machine) ns ms h k = refl
outside_alike m had listed (Some keyword.Schedule) ns ms h k = refl
outside_alike m had listed (Some keyword.Code) ns ms h k = code_miscounted m listed ns h ∙ sym (code_miscounted m listed ms k)
outside_alike m had listed (Some keyword.End) ns ms h k = refl
outside_alike m had listed None ns ms h k = refl

named_alike : (b : Block) (w : List ℕ) (ns ms : List (Option ℕ)) → 5 ≤ length ns → 5 ≤ length ms → named_of b w ns ≡ named_of b w ms
named_alike (block.Lp lp) w ns ms h k = call_alike lp (mnemonic_in mnemonics w) ns ms (row_few mnemonics w refl) h k
named_alike (block.Code p) w ns ms h k = operation_alike (operation_of w) ns ms h k

inside_alike : (b : Block) (word : Option Keyword) (w : List ℕ) (ns ms : List (Option ℕ)) → 5 ≤ length ns → 5 ≤ length ms → inside_of b word w ns ≡ inside_of b word w ms
inside_alike b (Some keyword.End) w ns ms h k = end_miscounted ns h ∙ sym (end_miscounted ms k)
inside_alike b (Some keyword.Machine) w ns ms h k = refl
inside_alike b (Some keyword.Schedule) w ns ms h k = refl
inside_alike b (Some keyword.Code) w ns ms h k = refl
inside_alike b (Some keyword.Lp) w ns ms h k = refl
inside_alike b None w ns ms h k = named_alike b w ns ms h k

placed_alike : (m : Option Machine) (b : Option Block) (had listed : List Bool) (w : List ℕ) (ns ms : List (Option ℕ)) → 5 ≤ length ns → 5 ≤ length ms → placed_of m b had listed w ns ≡ placed_of m b had listed w ms
placed_alike None b had listed w ns ms h k = first_alike (keyword_of w) ns ms h k
placed_alike (Some m) None had listed w ns ms h k = outside_alike m had listed (keyword_of w) ns ms h k
placed_alike (Some m) (Some b) had listed w ns ms h k = inside_alike b (keyword_of w) w ns ms h k

pub five_suffice : (s : Stage) (listed : List Bool) (w : List ℕ) (ws : List (List ℕ)) → entry_of s listed w (map number (take 5 ws)) ≡ entry_of s listed w (map number ws)
unfolding entry_of
five_suffice s listed w [] = refl
five_suffice s listed w (a ∷ []) = refl
five_suffice s listed w (a ∷ b ∷ []) = refl
five_suffice s listed w (a ∷ b ∷ c ∷ []) = refl
five_suffice s listed w (a ∷ b ∷ c ∷ d ∷ []) = refl
five_suffice s listed w (a ∷ b ∷ c ∷ d ∷ e ∷ ws) =
    placed_alike s.machine s.block s.had listed w (map number (take 5 (a ∷ b ∷ c ∷ d ∷ e ∷ ws))) (map number (a ∷ b ∷ c ∷ d ∷ e ∷ ws)) (omega arith) (omega arith)
