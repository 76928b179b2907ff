use Rattle.std.proofs.Common.{◌≡◌, ◌∙◌, ◌++◌, ap, map, subst, sym, List, length, take, drop, arith}
use Rattle.td_words.specs.Seen.{CodeSeen}
use Rattle.td_words.specs.declared.machines.Machine.{Machine}
use Rattle.script_text.specs.Seen.{ScriptSeen}
use Rattle.step_core.specs.declared.items.Taken.{Taken}
use Rattle.trace_table.specs.Merges.{MergesTo}
use Rattle.trace_table.specs.Benches.{PassSeen, bench_of, table_of}
use Rattle.leaf_table.specs.Given.{given_in}
use Rattle.leaf_dispatch.specs.FirstLists.{AreFirstLists}
use Rattle.leaf_dispatch.specs.declared.states.LpState.{LpState}
use Rattle.run_texts.specs.Openings.{opening_of}
use Rattle.run_texts.specs.Replaying.{StandsAt}
use Rattle.run_texts.specs.Looking.{IsLeft, Goes}
use Rattle.run_texts.proofs.Codes.{operations-of, short-lists}
use Rattle.run_texts.proofs.Replayed.{starts, first-bench, closed-at, brought}
use Rattle.run_texts.proofs.ThreadTexts.{written}
use Rattle.run_texts.proofs.turns.script_run.Goals as goal

pub run_all-ended-requires-clause-left : goal.run_all-ended-requires-clause-left
run_all-ended-requires-clause-left g c =
    let o = opening_of (given_in c.args.given) c.args.script.now in
    starts (given_in c.args.given) c.args.script.now (g.W.Onlooker.seeks c.args.onlooker.now c.args.seen.now o c.args.script.now.schedule) c.script.inside.machine _ _ _ _ (table_of c.in_ok-table.table) (bench_of c.new-bench.result) (ap (λ (s : ScriptSeen). s.machine) c.script.view_is)
    (c.deref-codes.ensures.value ∙ ap (λ (s : ScriptSeen). s.codes) c.script.view_is) (ap (map (λ list. list.items)) c.deref.ensures.value ∙ ap (λ (s : ScriptSeen). s.calls) c.script.view_is) c.as_mut_slice-lps.ensures.value
    (first-bench (bench_of c.new-bench.result) c.script.inside.machine (table_of c.in_ok-table.table) (c.new-bench.ensures.machine ∙ c.in_ok-table.ensures.machine) (c.new-bench.ensures.pass ∙ c.in_ok-table.ensures.pass)) c.requires.sought c.in_ok-states.ensures

pub processors-requires-clause-limits : goal.processors-requires-clause-limits
processors-requires-clause-limits g c = operations-of c.args.script.now c.deref-codes.result.now c.requires.form (c.deref-codes.ensures.value ∙ ap (λ (s : ScriptSeen). s.codes) c.script.view_is)

pub processors-requires-clause-short : goal.processors-requires-clause-short
processors-requires-clause-short g c =
    short-lists c.deref.result.now c.args.script.now.calls (ap (map (λ list. list.items)) c.deref.ensures.value ∙ ap (λ (s : ScriptSeen). s.calls) c.script.view_is) c.requires.form.few_calls

pub processors-requires-clause-first_lists : goal.processors-requires-clause-first_lists
processors-requires-clause-first_lists g c =
    subst (λ (x : List CodeSeen). AreFirstLists x c.args.first_lists.now) (sym (c.deref-codes.ensures.value ∙ ap (λ (s : ScriptSeen). s.codes) c.script.view_is)) c.requires.first_lists

pub returns : goal.returns
returns g c =
    let seeks = g.W.Onlooker.seeks c.args.onlooker.now in
    let stops = g.W.Onlooker.stops in
    let o = opening_of (given_in c.args.given) c.args.script.now in
    let schedule = c.args.script.now.schedule in
    let states = c.in_ok-states.states.items in
    let lps = c.run_all-ended.new.lps in
    let seen = c.run_all-ended.new.seen in
    let words = c.close-words.result.words in
    let machine : c.in_ok-table.table.machine ≡ o.machine = c.in_ok-table.ensures.machine ∙ ap (λ (s : ScriptSeen). s.machine) c.script.view_is in
    let closed : MergesTo o.machine (bench_of c.run_all-ended.new.bench).pass.lists words =
    subst (λ (m : Machine). MergesTo m (bench_of c.run_all-ended.new.bench).pass.lists words) machine
    (subst (λ (z : List (List Taken)). MergesTo c.in_ok-table.table.machine z words) (ap (λ (p : PassSeen). p.lists) c.into_pass-pass.ensures) c.close-words.ensures) in
    let kept : length lps ≡ length states = c.run_all-ended.auto.lps ∙ ap length c.as_mut_slice-lps.ensures.value in
    let back : take c.in_ok-states.states.len (lps ++ drop (length lps) states) ≡ lps = written lps states c.in_ok-states.states.len (omega (arith, c.in_ok-states.states.ok.0, kept)) in
    subst (λ (x : List LpState). Goes (stops seen) (length x) x (λ left. StandsAt o left (seeks seen o schedule) x words) c.run_all-ended.result) (sym back)
    (brought (stops seen) (length lps) lps (λ left. IsLeft seeks (given_in c.args.given) c.args.script.now left seen lps (bench_of c.new-bench.result).pass.table c.run_all-ended.new.bench) (λ left. StandsAt o left (seeks seen o schedule) lps words) c.run_all-ended.result
    (λ left l. closed-at o left (seeks seen o schedule) lps _ (bench_of c.run_all-ended.new.bench) words l closed) c.run_all-ended.ensures.gone)
