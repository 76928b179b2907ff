use Rattle.std.proofs.Common.{◌∙◌, ap, subst, sym, List, []}
use Rattle.td_words.specs.Seen.{CodeSeen}
use Rattle.incoming.specs.Arrivals.{at_slot}
use Rattle.leaf_table.specs.Given.{Given, secrets_in}
use Rattle.leaf_dispatch.specs.FirstLists.{AreFirstLists}
use Rattle.script_text.specs.Seen.{ScriptSeen}
use Rattle.run_texts.specs.Openings.{opening_of}
use Rattle.run_texts.specs.Replaying.{AreAtEnd}
use Rattle.soak_runs.proofs.Soaking.{given-is, fit, run-fits, run-container, in-any}
use Rattle.soak_runs.proofs.soaked.container_of_run.Goals as goal

pub ended_processors-requires-clause-form : goal.ended_processors-requires-clause-form
ended_processors-requires-clause-form c = c.requires

pub ended_processors-requires-clause-first_lists : goal.ended_processors-requires-clause-first_lists
ended_processors-requires-clause-first_lists c =
    subst (λ (x : List CodeSeen). AreFirstLists x c.in_ok-first_lists.first_lists) (c.deref.ensures.value ∙ ap (λ (s : ScriptSeen). s.codes) c.script.view_is) c.in_ok-first_lists.ensures

pub sealed_container-requires : goal.sealed_container-requires
sealed_container-requires c =
    let g : Given = record { secrets = secrets_in c.deref-2.result.now; bundles = at_slot c.new-bundles.result } in
    let end = subst (AreAtEnd (opening_of g c.args.script.now) c.args.script.now.schedule) (sym c.deref-3.ensures.value) c.in_ok-lps.ensures in
    fit [] g c.args.script.now c.deref-3.result.now (given-is [] g (ap secrets_in c.deref-2.ensures.value ∙ c.in_ok-secrets.ensures.zeros) (ap at_slot c.new-bundles.ensures)) end

pub returns-clause-bundles : goal.returns-clause-bundles
returns-clause-bundles c =
    let g : Given = record { secrets = secrets_in c.deref-2.result.now; bundles = at_slot c.new-bundles.result } in
    let end = subst (AreAtEnd (opening_of g c.args.script.now) c.args.script.now.schedule) (sym c.deref-3.ensures.value) c.in_ok-lps.ensures in
    run-container [] g c.args.script.now c.deref-3.result.now (given-is [] g (ap secrets_in c.deref-2.ensures.value ∙ c.in_ok-secrets.ensures.zeros) (ap at_slot c.new-bundles.ensures)) end c.sealed_container.result c.bundles_read_again.ensures c.keys.result.forward c.keys.result.backward c.keys.ensures.forward c.keys.ensures.backward c.sealed_container.ensures

pub returns-clause-fit : goal.returns-clause-fit
returns-clause-fit c =
    let g : Given = record { secrets = secrets_in c.deref-2.result.now; bundles = at_slot c.new-bundles.result } in
    let end = subst (AreAtEnd (opening_of g c.args.script.now) c.args.script.now.schedule) (sym c.deref-3.ensures.value) c.in_ok-lps.ensures in
    in-any _ c.sealed_container.result (run-fits [] g c.args.script.now c.deref-3.result.now (given-is [] g (ap secrets_in c.deref-2.ensures.value ∙ c.in_ok-secrets.ensures.zeros) (ap at_slot c.new-bundles.ensures)) end)
