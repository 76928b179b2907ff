-- The lists of operations of a script that is read are within the limits of the grammar.
use Rattle.std.proofs.Common.{◌≡◌, sym, subst, map, ℕ, suc, ◌<◌, ◌≤◌, ◌^◌, List, [], ◌∷◌, length, get_or, None, Bool, true, false, ◌==◌, ◌&&◌, if◌then◌else◌, arith}
use Rattle.std.specs.List.{All}
use Rattle.std.specs.Global.{Vec}
use Rattle.std.proofs.lemmas.List.Elements.{All-nil, All-cons, All-head, All-tail}
use Rattle.td_words.specs.Seen.{CodeSeen}
use Rattle.td_words.specs.declared.calls.Call.{Call}
use Rattle.td_words.specs.declared.calls.GuestOp.{GuestOp}
use Rattle.td_words.specs.declared.calls.GuestOp.TheVariants as op
use Rattle.script_text.specs.Spelling.{FitsOp}
use Rattle.script_text.specs.Seen.{ScriptSeen}
use Rattle.script_text.specs.Laws.{IsInForm}
use Rattle.leaf_engine.specs.Merges.{IsOperation, AreCodes}
use Rattle.leaf_dispatch.specs.Inside.{AreOperations}
use Rattle.leaf_table.specs.Given.{Given}
use Rattle.leaf_table.specs.Table.{code_in}
use Rattle.run_texts.specs.Openings.{opening_of}

fits : (g : GuestOp) → FitsOp g → IsOperation g
fits (op.Set r x) h = h.0
fits (op.Secret r k) h = h
fits (op.Add r s) h = h
fits (op.Load r gpa) h = h.0
fits (op.Store r gpa) h = h.0
fits (op.Accept gpa) h = h.0
fits (op.Rtmr i) h = h
fits op.Report h = tt
fits (op.Vmcall r) h = h

-- what holds of each list, and of an empty one, holds of the first list of a virtual processor
first-list : (P : List GuestOp → Type 0) → P [] → (cs : List CodeSeen) → ((i : ℕ) (d : CodeSeen) → i < length cs → P (get_or cs i d).ops) → (t i : ℕ) → P (code_in cs t i)
first-list P none [] each t i = none
first-list P none (c ∷ cs) each t i = by (c.tdr == t && c.index == i) (first-list P none cs (λ k d inside. each (suc k) d (omega (arith, inside))) t i)
  where
    by : (b : Bool) → P (code_in cs t i) → P (if b then c.ops else code_in cs t i)
    by true h = each 0 c (omega arith)
    by false h = h

pub codes-of : (given : Given) (script : ScriptSeen) → IsInForm script → AreCodes (opening_of given script)
codes-of given script form = record {
  few = first-list (λ ops. length ops ≤ 256) (omega arith) script.codes (λ i d inside. (form.codes i d inside).few);
  each = first-list (All IsOperation) (All-nil IsOperation) script.codes (λ i d inside. λ k g within. fits _ ((form.codes i d inside).operands k g within));
}

-- and so are those of the same lists as they lie in memory
pub operations-of : (script : ScriptSeen) (codes : List CodeSeen) → IsInForm script → codes ≡ script.codes → AreOperations codes
operations-of script codes form is = subst AreOperations (sym is) (codes-of (record { secrets = λ k. 0; bundles = λ slot. None }) script form).each

-- lists of calls, as they lie in memory, are short

abbrev pub IsShort : Vec Call → Type 0
IsShort list = length list.items < 2 ^ 32

abbrev IsBlock : List Call → Type 0
IsBlock calls = length calls ≤ 4096

listed : (ls : List (Vec Call)) → All IsBlock (map (λ list. list.items) ls) → All IsShort ls
listed [] h = All-nil IsShort
listed (l ∷ ls) h =
    let rest : List (List Call) = map (λ list. list.items) ls in
    let few = All-head IsBlock l.items rest h in
    All-cons IsShort l ls (omega (arith, few)) (listed ls (All-tail IsBlock l.items rest h))

pub short-lists : (ls : List (Vec Call)) (css : List (List Call)) → map (λ list. list.items) ls ≡ css → All IsBlock css → All IsShort ls
short-lists ls css e h = listed ls (subst (λ (x : List (List Call)). All IsBlock x) (sym e) h)
