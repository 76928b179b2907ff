-- What a script in form gives.
use Rattle.std.proofs.Common.{sym, subst, ℕ, ◌≤◌, List, [], ◌∷◌, length, ◌==◌, ◌&&◌, arith}
use Rattle.std.specs.List.{All}
use Rattle.std.proofs.lemmas.List.Elements.{All-nil, All-head, All-tail, All-weaker}
use Rattle.td_words.specs.declared.machines.Machine.{Machine}
use Rattle.td_words.specs.declared.calls.Call.{Call}
use Rattle.td_words.specs.declared.calls.Call.TheVariants as call
use Rattle.td_words.specs.declared.calls.GuestOp.{GuestOp}
use Rattle.td_words.specs.declared.calls.GuestOp.TheVariants as op
use Rattle.td_words.specs.Seen.{CodeSeen}
use Rattle.flat_core.proofs.Tests.{by_test}
use Rattle.flat_words.specs.Words.{GivesWord, SetsWord}
use Rattle.script_text.specs.Laws.{IsCode}
use Rattle.script_text.specs.Spelling.{FitsCall, FitsOp}
use Rattle.leaf_table.specs.Table.{code_in}
use Rattle.script_words.specs.Given.{ScriptsGiveWords}

call_gives : (c : Call) → FitsCall c → GivesWord c
call_gives (call.HostWrite page word value) h = h 2 0 (omega arith)
call_gives (call.VpInit tdr vp value) h = h 2 0 (omega arith)
call_gives (call.HostRead page word) h = tt
call_gives _ h = tt

op_sets : (x : GuestOp) → FitsOp x → SetsWord x
op_sets (op.Set r value) h = h.1
op_sets (op.Secret r k) h = h.1
op_sets (op.Add r s) h = tt
op_sets _ h = tt

module _ (m : Machine) (t index : ℕ) where
  list_sets : (codes : List CodeSeen) → All (IsCode m) codes → All SetsWord (code_in codes t index)
  list_sets [] h = All-nil SetsWord
  list_sets (c ∷ codes) h = by_test (c.tdr == t && c.index == index)
      (λ y. rw y (All-weaker FitsOp SetsWord op_sets c.ops (All-head (IsCode m) c codes h).operands))
      (λ y. rw y (list_sets codes (All-tail (IsCode m) c codes h)))

  list_short : (codes : List CodeSeen) → All (IsCode m) codes → length (code_in codes t index) ≤ 256
  list_short [] h = omega arith
  list_short (c ∷ codes) h = by_test (c.tdr == t && c.index == index)
      (λ y. rw y (All-head (IsCode m) c codes h).few)
      (λ y. rw y (list_short codes (All-tail (IsCode m) c codes h)))

pub scripts_give : ScriptsGiveWords
scripts_give o s form of_script inputs = (
  record {
    calls = subst (All (All GivesWord)) (sym of_script.calls) (All-weaker (All FitsCall) (All GivesWord) (λ cs. All-weaker FitsCall GivesWord call_gives cs) s.calls form.arguments);
    codes = λ t index. subst (λ (x : ℕ → ℕ → List GuestOp). All SetsWord (x t index)) (sym of_script.codes) (list_sets s.machine t index s.codes form.codes);
    bundles = inputs.come_in;
    secrets = inputs.words;
  },
  λ t index. subst (λ (x : ℕ → ℕ → List GuestOp). length (x t index) ≤ 256) (sym of_script.codes) (list_short s.machine t index s.codes form.codes),
)
