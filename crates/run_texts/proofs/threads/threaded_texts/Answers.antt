use Rattle.std.proofs.Common.{◌≡◌, ◌∙◌, ◌==◌, ◌++◌, ◌≤◌, sym, ap, map, subst, length, take, drop, List, ℕ, Option, option_map, Bor, arith}
use Rattle.std.specs.List.{All, concat}
use Rattle.std.proofs.lemmas.List.{length-map}
use Rattle.script_text.specs.Seen.{ScriptSeen}
use Rattle.trace_table.specs.Benches.{PassSeen, pass_of, bench_of, table_of}
use Rattle.leaf_dispatch.specs.States.{Moves}
use Rattle.leaf_table.specs.Given.{given_in}
use Rattle.leaf_dispatch.specs.declared.states.LpState.{LpState}
use Rattle.lp_threads.specs.declared.lanes.Lane.{Lane}
use Rattle.lp_threads.specs.Running.{FitsBench, HaveRun}
use Rattle.bundle_texts.specs.Ordered.{FitContainer, container_text}
use Rattle.run_texts.specs.Openings.{opening_of}
use Rattle.run_texts.specs.Sealing.{bundles_seen}
use Rattle.run_texts.specs.Replaying.{AreFirst, lines_seen, notes_seen, TellAll}
use Rattle.run_texts.specs.Lanes.{processors_of, benches_of, IsOther}
use Rattle.run_texts.specs.Threaded.{AreOfThreads}
use Rattle.run_texts.proofs.Codes.{operations-of, short-lists}
use Rattle.run_texts.proofs.Replayed.{open-of}
use Rattle.run_texts.proofs.ThreadTexts.{fits, few-first, some-calls, written, others, closes, all-have-run, fits-lanes, of-threads, told-of}
use Rattle.run_texts.proofs.threads.threaded_texts.Goals as goal

pub processors-requires-clause-limits : goal.processors-requires-clause-limits
processors-requires-clause-limits g c = operations-of c.args.script.now c.deref-codes.result.now c.requires.form (c.deref-codes.ensures.value ∙ ap (λ (s : ScriptSeen). s.codes) c.script.view_is)

pub processors-requires-clause-short : goal.processors-requires-clause-short
processors-requires-clause-short g c =
    short-lists c.deref.result.now c.args.script.now.calls (ap (map (λ list. list.items)) c.deref.ensures.value ∙ ap (λ (s : ScriptSeen). s.calls) c.script.view_is) c.requires.form.few_calls

pub lanes_at-requires-clause-few : goal.lanes_at-requires-clause-few
lanes_at-requires-clause-few g c =
    few-first c.args.script.now _ _ _ _ c.in_ok-states.states.items c.requires.form (ap (map (λ list. list.items)) c.deref.ensures.value ∙ ap (λ (s : ScriptSeen). s.calls) c.script.view_is) c.in_ok-states.ensures

pub run_all-requires-after_bounds : goal.run_all-requires-after_bounds
run_all-requires-after_bounds g c κs within =
    let begin : AreFirst c.script.inside.machine (given_in c.args.given) c.deref-codes.result.now 0 (processors_of c.in_ok-lanes.lanes.items) (map (λ list. list.items) c.deref.result.now) =
    subst (λ (x : List LpState). AreFirst c.script.inside.machine (given_in c.args.given) c.deref-codes.result.now 0 x (map (λ list. list.items) c.deref.result.now)) (sym c.in_ok-lanes.ensures.processors) c.in_ok-states.ensures in
    subst (λ (x : List (Lane LpState)). All (FitsBench (λ s. s.place.machine)) x) (sym c.as_mut_slice.ensures.value)
    (fits c.script.inside.machine (given_in c.args.given) c.deref-codes.result.now 0 (bench_of c.new-first.result) c.in_ok-lanes.lanes.items (map (λ list. list.items) c.deref.result.now) (c.new-first.ensures.machine ∙ c.in_ok-table.ensures.machine) begin c.in_ok-lanes.ensures.benches)

pub taken_in-requires-clause-others : goal.taken_in-requires-clause-others
taken_in-requires-clause-others g c =
    let lanes = c.in_ok-lanes.lanes.items in
    let ran = c.run_all.new.lanes in
    let same : length c.as_mut_slice.result.now ≡ length lanes = ap length c.as_mut_slice.ensures.value in
    let kept : length ran ≡ length lanes = c.run_all.auto.lanes ∙ same in
    let now : List (Lane LpState) = take c.in_ok-lanes.lanes.len (ran ++ drop (length ran) lanes) in
    let now-is : now ≡ ran = written ran lanes c.in_ok-lanes.lanes.len (omega (arith, c.in_ok-lanes.lanes.ok.0, kept)) in
    subst (λ (x : List (Lane LpState)). All (IsOther (bench_of c.lanes_at.new.first)) (benches_of x)) (sym now-is)
    (others (bench_of c.new-first.result) (bench_of c.lanes_at.new.first) (length c.in_ok-states.states.items) lanes ran c.in_ok-lanes.ensures.first c.in_ok-lanes.ensures.benches
    (subst (λ (x : List (Lane LpState)). HaveRun (λ s. length s.lines.now == 0) Moves x ran) c.as_mut_slice.ensures.value c.run_all.ensures) kept)

pub close-requires-clause-table : goal.close-requires-clause-table
close-requires-clause-table g c =
    let lanes = c.in_ok-lanes.lanes.items in
    let ran = c.run_all.new.lanes in
    let same : length c.as_mut_slice.result.now ≡ length lanes = ap length c.as_mut_slice.ensures.value in
    let kept : length ran ≡ length lanes = c.run_all.auto.lanes ∙ same in
    let now : List (Lane LpState) = take c.in_ok-lanes.lanes.len (ran ++ drop (length ran) lanes) in
    let now-is : now ≡ ran = written ran lanes c.in_ok-lanes.lanes.len (omega (arith, c.in_ok-lanes.lanes.ok.0, kept)) in
    let count : length now ≡ length c.in_ok-states.states.items = ap length now-is ∙ (kept ∙ (sym (length-map lanes (λ a. a.processor)) ∙ ap length c.in_ok-lanes.ensures.processors)) in
    let pass =
    closes (pass_of c.into_pass-pass.result) (bench_of c.new-first.result) (bench_of c.lanes_at.new.first) (bench_of c.taken_in.new.first) (table_of c.in_ok-table.table) (benches_of now) (length c.in_ok-states.states.items) (c.new-first.ensures.pass ∙ c.in_ok-table.ensures.pass)
    c.in_ok-lanes.ensures.first c.in_ok-ended.ensures.first (length-map now (λ a. bench_of a.bench) ∙ count) c.into_pass-pass.ensures in
    ap (λ (q : PassSeen). q.table) pass

pub close-requires-clause-first : goal.close-requires-clause-first
close-requires-clause-first g c =
    let lanes = c.in_ok-lanes.lanes.items in
    let ran = c.run_all.new.lanes in
    let same : length c.as_mut_slice.result.now ≡ length lanes = ap length c.as_mut_slice.ensures.value in
    let kept : length ran ≡ length lanes = c.run_all.auto.lanes ∙ same in
    let now : List (Lane LpState) = take c.in_ok-lanes.lanes.len (ran ++ drop (length ran) lanes) in
    let now-is : now ≡ ran = written ran lanes c.in_ok-lanes.lanes.len (omega (arith, c.in_ok-lanes.lanes.ok.0, kept)) in
    let count : length now ≡ length c.in_ok-states.states.items = ap length now-is ∙ (kept ∙ (sym (length-map lanes (λ a. a.processor)) ∙ ap length c.in_ok-lanes.ensures.processors)) in
    let pass =
    closes (pass_of c.into_pass-pass.result) (bench_of c.new-first.result) (bench_of c.lanes_at.new.first) (bench_of c.taken_in.new.first) (table_of c.in_ok-table.table) (benches_of now) (length c.in_ok-states.states.items) (c.new-first.ensures.pass ∙ c.in_ok-table.ensures.pass)
    c.in_ok-lanes.ensures.first c.in_ok-ended.ensures.first (length-map now (λ a. bench_of a.bench) ∙ count) c.into_pass-pass.ensures in
    ap (λ (q : PassSeen). q.first) pass

pub close-requires-clause-none_out : goal.close-requires-clause-none_out
close-requires-clause-none_out g c =
    let lanes = c.in_ok-lanes.lanes.items in
    let ran = c.run_all.new.lanes in
    let same : length c.as_mut_slice.result.now ≡ length lanes = ap length c.as_mut_slice.ensures.value in
    let kept : length ran ≡ length lanes = c.run_all.auto.lanes ∙ same in
    let now : List (Lane LpState) = take c.in_ok-lanes.lanes.len (ran ++ drop (length ran) lanes) in
    let now-is : now ≡ ran = written ran lanes c.in_ok-lanes.lanes.len (omega (arith, c.in_ok-lanes.lanes.ok.0, kept)) in
    let count : length now ≡ length c.in_ok-states.states.items = ap length now-is ∙ (kept ∙ (sym (length-map lanes (λ a. a.processor)) ∙ ap length c.in_ok-lanes.ensures.processors)) in
    let pass =
    closes (pass_of c.into_pass-pass.result) (bench_of c.new-first.result) (bench_of c.lanes_at.new.first) (bench_of c.taken_in.new.first) (table_of c.in_ok-table.table) (benches_of now) (length c.in_ok-states.states.items) (c.new-first.ensures.pass ∙ c.in_ok-table.ensures.pass)
    c.in_ok-lanes.ensures.first c.in_ok-ended.ensures.first (length-map now (λ a. bench_of a.bench) ∙ count) c.into_pass-pass.ensures in
    ap (λ (q : PassSeen). q.out) pass

pub all_texts-requires-clause-few : goal.all_texts-requires-clause-few
all_texts-requires-clause-few g c =
    let lanes = c.in_ok-lanes.lanes.items in
    let ran = c.run_all.new.lanes in
    let same : length c.as_mut_slice.result.now ≡ length lanes = ap length c.as_mut_slice.ensures.value in
    let kept : length ran ≡ length lanes = c.run_all.auto.lanes ∙ same in
    let now : List (Lane LpState) = take c.in_ok-lanes.lanes.len (ran ++ drop (length ran) lanes) in
    let now-is : now ≡ ran = written ran lanes c.in_ok-lanes.lanes.len (omega (arith, c.in_ok-lanes.lanes.ok.0, kept)) in
    let count : length now ≡ length c.in_ok-states.states.items = ap length now-is ∙ (kept ∙ (sym (length-map lanes (λ a. a.processor)) ∙ ap length c.in_ok-lanes.ensures.processors)) in
    let few : length c.in_ok-states.states.items ≤ 8 =
    few-first c.args.script.now _ _ _ _ c.in_ok-states.states.items c.requires.form (ap (map (λ list. list.items)) c.deref.ensures.value ∙ ap (λ (s : ScriptSeen). s.calls) c.script.view_is) c.in_ok-states.ensures in
    let all : length c.as_slice.result.now ≡ length c.in_ok-states.states.items = ap length (c.as_slice.ensures.value ∙ c.in_ok-ended.ensures.processors) ∙ (length-map now (λ a. a.processor) ∙ count) in
    omega (arith, few, all)

pub all_texts-requires-clause-fit : goal.all_texts-requires-clause-fit
all_texts-requires-clause-fit g c =
    let lanes = c.in_ok-lanes.lanes.items in
    let ran = c.run_all.new.lanes in
    let same : length c.as_mut_slice.result.now ≡ length lanes = ap length c.as_mut_slice.ensures.value in
    let kept : length ran ≡ length lanes = c.run_all.auto.lanes ∙ same in
    let now : List (Lane LpState) = take c.in_ok-lanes.lanes.len (ran ++ drop (length ran) lanes) in
    let now-is : now ≡ ran = written ran lanes c.in_ok-lanes.lanes.len (omega (arith, c.in_ok-lanes.lanes.ok.0, kept)) in
    let count : length now ≡ length c.in_ok-states.states.items = ap length now-is ∙ (kept ∙ (sym (length-map lanes (λ a. a.processor)) ∙ ap length c.in_ok-lanes.ensures.processors)) in
    let pass =
    closes (pass_of c.into_pass-pass.result) (bench_of c.new-first.result) (bench_of c.lanes_at.new.first) (bench_of c.taken_in.new.first) (table_of c.in_ok-table.table) (benches_of now) (length c.in_ok-states.states.items) (c.new-first.ensures.pass ∙ c.in_ok-table.ensures.pass)
    c.in_ok-lanes.ensures.first c.in_ok-ended.ensures.first (length-map now (λ a. bench_of a.bench) ∙ count) c.into_pass-pass.ensures in
    let script = c.args.script.now in
    let first = bench_of c.new-first.result in
    let h =
    all-have-run script c.script.inside.machine c.in_ok-table.table.machine (given_in c.args.given) c.deref-codes.result.now (map (λ list. list.items) c.deref.result.now) c.in_ok-states.states.items first lanes c.as_mut_slice.result.now ran now (pass_of c.into_pass-pass.result).lists c.close.result.words
    (ap (λ (s : ScriptSeen). s.machine) c.script.view_is) (c.deref-codes.ensures.value ∙ ap (λ (s : ScriptSeen). s.codes) c.script.view_is) (ap (map (λ list. list.items)) c.deref.ensures.value ∙ ap (λ (s : ScriptSeen). s.calls) c.script.view_is) c.in_ok-states.ensures
    c.in_ok-lanes.ensures.processors c.in_ok-lanes.ensures.benches c.as_mut_slice.ensures.value c.run_all.ensures c.run_all.auto.lanes now-is c.in_ok-table.ensures.machine (ap (λ (q : PassSeen). q.lists) pass) c.close.ensures in
    subst (λ (x : List LpState). FitContainer (bundles_seen x)) (sym (c.as_slice.ensures.value ∙ c.in_ok-ended.ensures.processors))
    (fits-lanes c.laws_of_turns.ensures c.threads_are_runs.ensures (opening_of (given_in c.args.given) script) (open-of (given_in c.args.given) script c.requires.form) (given_in c.args.given) script.codes first lanes now c.close.result.words h (some-calls script c.requires.form))

pub returns : goal.returns
returns g c =
    let lanes = c.in_ok-lanes.lanes.items in
    let ran = c.run_all.new.lanes in
    let same : length c.as_mut_slice.result.now ≡ length lanes = ap length c.as_mut_slice.ensures.value in
    let kept : length ran ≡ length lanes = c.run_all.auto.lanes ∙ same in
    let now : List (Lane LpState) = take c.in_ok-lanes.lanes.len (ran ++ drop (length ran) lanes) in
    let now-is : now ≡ ran = written ran lanes c.in_ok-lanes.lanes.len (omega (arith, c.in_ok-lanes.lanes.ok.0, kept)) in
    let count : length now ≡ length c.in_ok-states.states.items = ap length now-is ∙ (kept ∙ (sym (length-map lanes (λ a. a.processor)) ∙ ap length c.in_ok-lanes.ensures.processors)) in
    let pass =
    closes (pass_of c.into_pass-pass.result) (bench_of c.new-first.result) (bench_of c.lanes_at.new.first) (bench_of c.taken_in.new.first) (table_of c.in_ok-table.table) (benches_of now) (length c.in_ok-states.states.items) (c.new-first.ensures.pass ∙ c.in_ok-table.ensures.pass)
    c.in_ok-lanes.ensures.first c.in_ok-ended.ensures.first (length-map now (λ a. bench_of a.bench) ∙ count) c.into_pass-pass.ensures in
    let script = c.args.script.now in
    let first = bench_of c.new-first.result in
    let out : Option (List ℕ) = option_map {T = Bor (List ℕ)} {U = List ℕ} (λ name. name.now) c.args.out_bundles in
    let name : Option (List ℕ) = option_map {T = Bor (List ℕ)} {U = List ℕ} (λ name. name.now) c.args.guest_out in
    let h =
    all-have-run script c.script.inside.machine c.in_ok-table.table.machine (given_in c.args.given) c.deref-codes.result.now (map (λ list. list.items) c.deref.result.now) c.in_ok-states.states.items first lanes c.as_mut_slice.result.now ran now (pass_of c.into_pass-pass.result).lists c.close.result.words
    (ap (λ (s : ScriptSeen). s.machine) c.script.view_is) (c.deref-codes.ensures.value ∙ ap (λ (s : ScriptSeen). s.codes) c.script.view_is) (ap (map (λ list. list.items)) c.deref.ensures.value ∙ ap (λ (s : ScriptSeen). s.calls) c.script.view_is) c.in_ok-states.ensures
    c.in_ok-lanes.ensures.processors c.in_ok-lanes.ensures.benches c.as_mut_slice.ensures.value c.run_all.ensures c.run_all.auto.lanes now-is c.in_ok-table.ensures.machine (ap (λ (q : PassSeen). q.lists) pass) c.close.ensures in
    let forward = c.args.keys.now.forward in
    let backward = c.args.keys.now.backward in
    let key = c.args.report_key.now in
    record {
      each =
          told-of (λ t. TellAll out name (concat (lines_seen 0 c.as_slice.result.now)) (container_text forward backward (bundles_seen c.as_slice.result.now)) (concat (notes_seen key 0 c.as_slice.result.now)) t)
          (AreOfThreads (opening_of (given_in c.args.given) script) forward backward key out name) c.all_texts.result
          (λ t told.
          of-threads c.laws_of_turns.ensures c.threads_are_runs.ensures (opening_of (given_in c.args.given) script) (open-of (given_in c.args.given) script c.requires.form) (given_in c.args.given) script.codes first lanes now c.close.result.words h (some-calls script c.requires.form) forward backward key out name t
          (subst (λ (x : List LpState). TellAll out name (concat (lines_seen 0 x)) (container_text forward backward (bundles_seen x)) (concat (notes_seen key 0 x)) t) (c.as_slice.ensures.value ∙ c.in_ok-ended.ensures.processors) told))
          c.all_texts.ensures;
    }
