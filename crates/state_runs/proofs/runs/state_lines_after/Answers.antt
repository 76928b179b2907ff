use Rattle.std.proofs.Common.{◌≡◌, ◌∙◌, ap, map, refl, sym, length, ℕ, List, arith}
use Rattle.std.proofs.lemmas.List.{length-map}
use Rattle.td_words.specs.declared.machines.Machine.{Machine}
use Rattle.td_words.specs.declared.calls.Call.{Call}
use Rattle.script_text.specs.Seen.{ScriptSeen}
use Rattle.leaf_table.specs.Given.{given_in}
use Rattle.leaf_dispatch.specs.declared.states.LpState.{LpState}
use Rattle.run_texts.specs.Openings.{opening_of}
use Rattle.run_texts.proofs.Replayed.{open-of}
use Rattle.state_lines.specs.After.{state_after}
use Rattle.state_runs.specs.Reading.{state_read}
use Rattle.state_runs.proofs.Counting.{counts-on}
use Rattle.state_runs.proofs.Telling.{reads, count-of}
use Rattle.state_runs.proofs.runs.state_lines_after.Goals as goal

pub script_run-requires-clause-on : goal.script_run-requires-clause-on
script_run-requires-clause-on c = counts-on c.states_go_on.ensures c.args.events (opening_of (given_in c.args.given) c.args.script.now) c.args.script.now.schedule

pub script_run-requires-clause-sought : goal.script_run-requires-clause-sought
unfolding state_after
script_run-requires-clause-sought c = refl

pub state_read-requires-clause-count : goal.state_read-requires-clause-count
state_read-requires-clause-count c =
    let ran = c.in_ok-ran.ran in
    let many = count-of (opening_of (given_in c.args.given) c.args.script.now) c.args.events c.args.script.now.schedule c.script_run.new.seen ran c.in_ok-ran.ensures in
    ap length c.deref-4.ensures.value ∙ (many ∙ (ap (λ (s : ScriptSeen). length s.calls) (sym c.script.view_is) ∙ (length-map c.script.inside.calls.items (λ list. list.items) ∙ ap length (sym c.deref-3.ensures.value))))

pub state_read-requires-clause-few : goal.state_read-requires-clause-few
state_read-requires-clause-few c =
    let o = opening_of (given_in c.args.given) c.args.script.now in
    let ran = c.in_ok-ran.ran in
    let many = count-of o c.args.events c.args.script.now.schedule c.script_run.new.seen ran c.in_ok-ran.ensures in
    omega (arith, many, ap length c.deref-4.ensures.value, (open-of (given_in c.args.given) c.args.script.now c.requires).few)

pub returns-in-Ok : goal.returns-in-Ok
returns-in-Ok c =
    let o = opening_of (given_in c.args.given) c.args.script.now in
    let op = open-of (given_in c.args.given) c.args.script.now c.requires in
    let ran = c.in_ok-ran.ran in
    let lps = ran.lps.items in
    let words = ran.words.words in
    let said = reads c.laws_of_turns.ensures c.states_go_on.ensures c.words_tell_pages.ensures c.lps_tell.ensures c.lawful_law.ensures.run c.args.form o c.args.events c.args.script.now.schedule c.script_run.new.seen lps words op ran.ended c.in_ok-ran.ensures in
    let machine : c.script.inside.machine ≡ o.machine = ap (λ (s : ScriptSeen). s.machine) c.script.view_is in
    let seen : c.deref-4.result.now ≡ lps = c.deref-4.ensures.value in
    let told : c.deref-2.result.now ≡ words = c.deref-2.ensures.value ∙ c.in_ok-words.ensures in
    let calls : map (λ list. list.items) c.deref-3.result.now ≡ o.calls = ap (map (λ list. list.items)) c.deref-3.ensures.value ∙ ap (λ (s : ScriptSeen). s.calls) c.script.view_is in
    c.in-Ok.ensures
    ∙ (ap (λ (m : Machine). state_read c.args.form m.pages c.deref-2.result.now (map (λ list. list.items) c.deref-3.result.now) c.deref-4.result.now) machine
    ∙ (ap (λ (zs : List ℕ). state_read c.args.form o.machine.pages zs (map (λ list. list.items) c.deref-3.result.now) c.deref-4.result.now) told
    ∙ (ap (λ (css : List (List Call)). state_read c.args.form o.machine.pages words css c.deref-4.result.now) calls ∙ (ap (λ (z : List LpState). state_read c.args.form o.machine.pages words o.calls z) seen ∙ said))))
