-- The numbers of a script in form are small.
use Rattle.std.proofs.Common.{◌≡◌, ◌*◌, ◌^◌, ◌<◌, ◌≤◌, List, [], ◌∷◌, length, subst, sym, arith}
use Rattle.std.specs.List.{All}
use Rattle.std.proofs.lemmas.List.Elements.{All-head, All-tail}
use Rattle.td_words.specs.Seen.{CodeSeen}
use Rattle.td_words.specs.declared.calls.Call.{Call}
use Rattle.td_words.specs.declared.machines.Machine.{Machine}
use Rattle.script_text.specs.Seen.{ScriptSeen}
use Rattle.script_text.specs.Laws.{IsCode, IsInForm}
use Rattle.script_runner.specs.Ending.{calls_in, ops_in}

abbrev IsShort : List Call → Type 0
IsShort calls = length calls ≤ 4096

calls-few : (css : List (List Call)) → All IsShort css → calls_in css ≤ 4096 * length css
calls-few [] h = omega arith
calls-few (cs ∷ css) h = (let a : length cs ≤ 4096 = All-head IsShort cs css h in let b = calls-few css (All-tail IsShort cs css h) in omega (arith, a, b))

pub calls-fit : (s : ScriptSeen) (lists : List (List Call)) → IsInForm s → lists ≡ s.calls → calls_in lists < 2 ^ 64
calls-fit s lists form is =
    let h = calls-few s.calls form.few_calls in
    subst (λ (x : List (List Call)). calls_in x < 2 ^ 64) (sym is) (omega (arith, h, form.lists, form.machine.lps.1))

ops-few : (m : Machine) (cs : List CodeSeen) → All (IsCode m) cs → ops_in cs ≤ 256 * length cs
ops-few m [] h = omega arith
ops-few m (c ∷ cs) h = (let a = (All-head (IsCode m) c cs h).few in let b = ops-few m cs (All-tail (IsCode m) c cs h) in omega (arith, a, b))

pub ops-fit : (s : ScriptSeen) (codes : List CodeSeen) → IsInForm s → codes ≡ s.codes → length codes < 2 ^ 64 → ops_in codes < 2 ^ 128
ops-fit s codes form is few =
    let h : ops_in codes ≤ 256 * length codes = subst (λ (x : List CodeSeen). ops_in x ≤ 256 * length x) (sym is) (ops-few s.machine s.codes form.codes) in
    omega (arith, h, few)
