use Rattle.std.proofs.Common.{◌∙◌, ap, subst, sym, length}
use Rattle.flat_core.specs.Run.{bundles_in, told_in}
use Rattle.bundle_store.specs.Containers.{container_in, AreInOrder}
use Rattle.script_text.specs.Seen.{ScriptSeen}
use Rattle.script_text.specs.Laws.{IsInForm}
use Rattle.soak_runs.specs.Soaked.{source_run, run_with, first_word}
use Rattle.soak_runs.proofs.Soaking.{as-many, read-are, carried-are, line-says}
use Rattle.soak_runs.proofs.soaked.soak_line.Goals as goal

pub container_of_run-requires : goal.container_of_run-requires
container_of_run-requires c = subst IsInForm (sym c.in_ok-script.ensures) (c.soaks_are_in_form.ensures.source c.args.pages c.requires)

pub bundles_of-requires : goal.bundles_of-requires
bundles_of-requires c = (_, ap container_in c.deref.ensures.value ∙ c.in_ok-container.ensures.bundles)

pub opened_bundles-requires : goal.opened_bundles-requires
opened_bundles-requires c = subst (AreInOrder 0) (sym c.deref-2.ensures.value) c.in_ok-sealed.ensures.order

pub word_of_run-requires-clause-form : goal.word_of_run-requires-clause-form
word_of_run-requires-clause-form c = subst IsInForm (sym c.in_ok-script-2.ensures) (c.soaks_are_in_form.ensures.destination c.args.pages c.requires)

pub word_of_run-requires-clause-one : goal.word_of_run-requires-clause-one
word_of_run-requires-clause-one c = ap (λ (s : ScriptSeen). length s.calls) c.in_ok-script-2.ensures

pub returns : goal.returns
returns c =
    let n = c.args.pages in
    let script = c.in_ok-script.script in
    let read = c.deref-2.result.now in
    let reads = c.deref-2.ensures.value
    ∙ read-are n script c.deref.result.now c.in_ok-container.container.items c.in_ok-sealed.sealed.items c.in_ok-script.ensures c.deref.ensures.value c.in_ok-container.ensures.bundles c.in_ok-sealed.ensures.are in
    let slots =
    carried-are n script read c.keys.result.forward c.keys.result.backward c.in_ok-bundles.bundles c.in_ok-script.ensures c.in_ok-container.ensures.fit reads c.keys.ensures.forward c.keys.ensures.backward c.in_ok-bundles.ensures in
    line-says c.written.result n c.len-count.result c.in_ok-sum.sum (c.len-count.ensures ∙ (sym c.deref-2.ensures.len ∙ as-many n read reads))
    (c.in_ok-sum.ensures (bundles_in (source_run n)) slots ∙ ap (λ (s : ScriptSeen). first_word (told_in (run_with (bundles_in (source_run n)) s))) c.in_ok-script-2.ensures)
    c.written.ensures
