-- Names of operations, and the lines that begin with them.
use Rattle.std.proofs.Common.{◌≡◌, ℕ, ◌<◌, List, [], ◌∷◌, ◌++◌, length, map, Bool, true, false, cond, not, ◌==◌, ◌&&◌, Option, Some, None, Result, Ok, Err, refl, ap, ◌∙◌, arith}
use Rattle.std.specs.Prelude.{codes, is_some, if◌then◌else◌}
use Rattle.std.specs.List.{list_all}
use Rattle.std.specs.Str.{bytes_eq}
use Rattle.std.proofs.lemmas.Slice.Eq.{bytes_eq-Decides}
use Rattle.td_words.specs.declared.calls.GuestOp.{GuestOp}
use Rattle.td_words.specs.declared.machines.Machine.{Machine}
use Rattle.line_words.specs.Number.{number}
use Rattle.line_words.specs.Words.{words, is_comment}
use Rattle.line_words.proofs.Names.{words_behind}
use Rattle.script_text.specs.declared.faults.Reason.{Reason}
use Rattle.script_text.specs.declared.faults.Reason.TheVariants as reason
use Rattle.script_text.specs.declared.faults.ScriptFault.{ScriptFault}
use Rattle.script_text.specs.declared.faults.ScriptFault.TheVariants.{Bad, OutOfMemory}
use Rattle.script_text.specs.declared.operations.OpName.{OpName}
use Rattle.script_text.specs.declared.operations.OpName.TheVariants as op
use Rattle.script_text.specs.declared.lines.Block.{Block}
use Rattle.script_text.specs.declared.lines.Block.TheVariants as block
use Rattle.script_text.specs.declared.lines.Stage.{Stage}
use Rattle.script_text.specs.declared.lines.Entry.{Entry}
use Rattle.script_text.specs.declared.lines.Entry.TheVariants as entry
use Rattle.script_text.specs.Blocks.{operation_of, name_of, numbers_of, fit_operands, operands_of, guest_op_of, operation_with}
use Rattle.script_text.specs.Counted.{◌>>=◌, argument, IsAnsweredAt}
use Rattle.script_text.specs.Line.{keyword_of, operation_line_of, operation_in, is_list, placed_of, entry_of}
use Rattle.script_text.specs.Reading.{SoFar, with_op, entered_of, worded_of}

operation_named : (o : OpName) → operation_of (name_of o) ≡ Some o
operation_named op.Set = refl
operation_named op.Secret = refl
operation_named op.Add = refl
operation_named op.Load = refl
operation_named op.Store = refl
operation_named op.Accept = refl
operation_named op.Rtmr = refl
operation_named op.Report = refl
operation_named op.Vmcall = refl

-- a name is no keyword and begins no comment
abbrev IsOther : List ℕ → Type 0
IsOther w = (keyword_of w ≡ None) × (is_comment w ≡ false)

-- the operation of the first row whose name a word is
abbrev row_in : List (List ℕ × OpName) → List ℕ → Option OpName
row_in [] w = None
row_in (row ∷ rows) w = cond (bytes_eq w row.0) (Some row.1) (row_in rows w)

abbrev AreOthers : List (List ℕ × OpName) → Type 0
AreOthers [] = Unit {0}
AreOthers (row ∷ rows) = IsOther row.0 × AreOthers rows

other_if : (b : Bool) (w name : List ℕ) (o p : OpName) (more : Option OpName) → bytes_eq w name ≡ b → IsOther name → (more ≡ Some o → IsOther w) → cond b (Some p) more ≡ Some o → IsOther w
other_if true w name o p more is named rest h = let e = (bytes_eq-Decides w name).0 is in (rw e named.0, rw e named.1)
other_if false w name o p more is named rest h = rest h

other_in : (rows : List (List ℕ × OpName)) (w : List ℕ) (o : OpName) → AreOthers rows → row_in rows w ≡ Some o → IsOther w
other_in [] w o named h = cc
other_in (row ∷ rows) w o named h = other_if (bytes_eq w row.0) w row.0 o row.1 (row_in rows w) refl named.0 (other_in rows w o named.1) h

abbrev operations : List (List ℕ × OpName)
operations = (codes "set", op.Set) ∷ (codes "secret", op.Secret) ∷ (codes "add", op.Add) ∷ (codes "load", op.Load) ∷ (codes "store", op.Store) ∷ (codes "accept", op.Accept) ∷ (codes "rtmr", op.Rtmr) ∷ (codes "report", op.Report) ∷ (codes "vmcall", op.Vmcall) ∷ []

is_other : (w : List ℕ) (o : OpName) → operation_of w ≡ Some o → IsOther w
is_other w o h =
    let r : IsOther (codes "set") = (refl, refl) in
    other_in operations w o (r, ((refl, refl), ((refl, refl), ((refl, refl), ((refl, refl), ((refl, refl), ((refl, refl), ((refl, refl), ((refl, refl), tt))))))))) h

-- an operation with its operands in range
ranged : (b : Bool) (x g : GuestOp) → cond b (Some x) None ≡ Some g → ((if not b then Err reason.Range else Ok tt) >>= (λ (t : Unit {0}). Ok (entry.Operation x))) ≡ Ok (entry.Operation g)
ranged true x g h = let e : x ≡ g = cc in ap (λ (y : GuestOp). Ok (entry.Operation y)) e
ranged false x g h = cc

ranged_line : (o : OpName) (first second : ℕ) (g : GuestOp) → (if fit_operands o first second then Some (guest_op_of o first second) else None) ≡ Some g → operation_line_of (Some o) (numbers_of o first second) ≡ Ok (entry.Operation g)
unfolding operation_line_of
ranged_line op.Set first second g h = ranged (fit_operands op.Set first second) (guest_op_of op.Set first second) g h
ranged_line op.Secret first second g h = ranged (fit_operands op.Secret first second) (guest_op_of op.Secret first second) g h
ranged_line op.Add first second g h = ranged (fit_operands op.Add first second) (guest_op_of op.Add first second) g h
ranged_line op.Load first second g h = ranged (fit_operands op.Load first second) (guest_op_of op.Load first second) g h
ranged_line op.Store first second g h = ranged (fit_operands op.Store first second) (guest_op_of op.Store first second) g h
ranged_line op.Accept first second g h = ranged (fit_operands op.Accept first second) (guest_op_of op.Accept first second) g h
ranged_line op.Rtmr first second g h = ranged (fit_operands op.Rtmr first second) (guest_op_of op.Rtmr first second) g h
ranged_line op.Report first second g h = ranged (fit_operands op.Report first second) (guest_op_of op.Report first second) g h
ranged_line op.Vmcall first second g h = ranged (fit_operands op.Vmcall first second) (guest_op_of op.Vmcall first second) g h

unspaced_name : (o : OpName) → (list_all (λ b. not (b == 32)) (name_of o) ≡ true) × (0 < length (name_of o))
unspaced_name op.Set = (refl, omega arith)
unspaced_name op.Secret = (refl, omega arith)
unspaced_name op.Add = (refl, omega arith)
unspaced_name op.Load = (refl, omega arith)
unspaced_name op.Store = (refl, omega arith)
unspaced_name op.Accept = (refl, omega arith)
unspaced_name op.Rtmr = (refl, omega arith)
unspaced_name op.Report = (refl, omega arith)
unspaced_name op.Vmcall = (refl, omega arith)

-- a text that begins with a name says that operation
pub said : (o : OpName) (text rest : List ℕ) (first second : ℕ) (g : GuestOp) → text ≡ name_of o ++ 32 ∷ rest → map number (words rest) ≡ numbers_of o first second
    → (if fit_operands o first second then Some (guest_op_of o first second) else None) ≡ Some g → operation_in (words text) ≡ Ok (entry.Operation g)
said o text rest first second g cut numbers h =
    let is : words text ≡ name_of o ∷ words rest = ap (λ (xs : List ℕ). words xs) cut ∙ words_behind (name_of o) rest (unspaced_name o).0 (unspaced_name o).1 in
    rw (is, operation_named o, numbers) (ranged_line o first second g h)

-- what a line says where a list is open and no keyword stands
placed : (m : Option Machine) (b : Option Block) (had marks : List Bool) (w : List ℕ) (ns : List (Option ℕ)) (e : Result Entry Reason) → (is_some m && is_list b) ≡ true → keyword_of w ≡ None
    → operation_line_of (operation_of w) ns ≡ e → placed_of m b had marks w ns ≡ e
placed None b had marks w ns e inside other h = cc
placed (Some m) None had marks w ns e inside other h = cc
placed (Some m) (Some (block.Lp lp)) had marks w ns e inside other h = cc
placed (Some m) (Some (block.Code p)) had marks w ns e inside other h = rw other h

entry_is : (s : Stage) (marks : List Bool) (w : List ℕ) (ns : List (Option ℕ)) (e : Result Entry Reason) → (is_some s.machine && is_list s.block) ≡ true → keyword_of w ≡ None
    → operation_line_of (operation_of w) ns ≡ e → entry_of s marks w ns ≡ e
unfolding entry_of
entry_is s marks w ns e inside other h = placed s.machine s.block s.had marks w ns e inside other h

no_name : (ns : List (Option ℕ)) (g : GuestOp) → operation_line_of None ns ≡ Ok (entry.Operation g) → ⊥
unfolding operation_line_of
no_name ns g h = cc

abbrev IsAdded : SoFar → List (List ℕ) → GuestOp → Type 0
IsAdded d ws g = worded_of d ws ≡ (with_op d.ops g >>= (λ ops. Ok (record d { ops = ops })))

added_if : (d : SoFar) (w : List ℕ) (ws : List (List ℕ)) (g : GuestOp) (o : Option OpName) → (is_some d.stage.machine && is_list d.stage.block) ≡ true → operation_of w ≡ o
    → operation_line_of (operation_of w) (map number ws) ≡ Ok (entry.Operation g) → IsAdded d (w ∷ ws) g
unfolding worded_of entered_of
added_if d w ws g None inside e h = absurd (no_name (map number ws) g (rw e at h))
added_if d w ws g (Some o) inside e h =
    let other : IsOther w = is_other w o e in
    rw (other.1, entry_is d.stage d.listed w (map number ws) (Ok (entry.Operation g)) inside other.0 h) refl

-- such words are taken in as that operation
pub operation_added : (d : SoFar) (ws : List (List ℕ)) (g : GuestOp) → (is_some d.stage.machine && is_list d.stage.block) ≡ true → operation_in ws ≡ Ok (entry.Operation g) → IsAdded d ws g
operation_added d [] g inside h = cc
operation_added d (w ∷ ws) g inside h = added_if d w ws g (operation_of w) inside refl h

pub added_answer : (n : ℕ) (d : SoFar) (r : Result (List GuestOp) Reason) (new : List GuestOp) (answer : Result (Unit {0}) ScriptFault) → IsAnsweredAt n r new answer
    → IsAnsweredAt n (r >>= (λ ops. Ok (record d { ops = ops }))) (record d { ops = new }) answer
added_answer n d r new (Ok t) h = rw h refl
added_answer n d r new (Err (Bad m q)) h = (h.0, rw h.1 refl)
added_answer n d r new (Err OutOfMemory) h = tt

-- a line by the operation with its numbers
good_cases : (x : Result (Unit {0}) Reason) (f g : GuestOp) → (x >>= (λ (t : Unit {0}). Ok f)) ≡ Ok g → (x >>= (λ (t : Unit {0}). Ok (entry.Operation f))) ≡ Ok (entry.Operation g)
good_cases (Ok t) f g h = let e : f ≡ g = cc in ap (λ (y : GuestOp). Ok (entry.Operation y)) e
good_cases (Err r) f g h = cc

bad_cases : (x : Result (Unit {0}) Reason) (f : GuestOp) (r : Reason) → (x >>= (λ (t : Unit {0}). Ok f)) ≡ Err r → (x >>= (λ (t : Unit {0}). Ok (entry.Operation f))) ≡ Err r
bad_cases (Ok t) f r h = cc
bad_cases (Err q) f r h = let e : q ≡ r = cc in ap (λ (y : Reason). Err y) e

pub good_line : (o : OpName) (ns : List (Option ℕ)) (g : GuestOp) → operation_with o ns ≡ Ok g → operation_line_of (Some o) ns ≡ Ok (entry.Operation g)
unfolding operation_line_of
good_line o ns g h = good_cases (operands_of o ns) (guest_op_of o (argument ns 0) (argument ns 1)) g h

pub bad_line : (o : OpName) (ns : List (Option ℕ)) (r : Reason) → operation_with o ns ≡ Err r → operation_line_of (Some o) ns ≡ Err r
unfolding operation_line_of
bad_line o ns r h = bad_cases (operands_of o ns) (guest_op_of o (argument ns 0) (argument ns 1)) r h
