use Rattle.std.proofs.Common.{◌<◌, Some, List, [], ◌∙◌, sym, subst, arith}
use Rattle.step_core.specs.declared.steps.WordStep.TheVariants as step
use Rattle.leaf_engine.specs.declared.needs.Write.TheVariants as write
use Rattle.leaf_engine.specs.Changes.{Change}
use Rattle.leaf_engine.specs.Decides.{HandsAt}
use Rattle.flat_core.specs.Inputs.{input_in}
use Rattle.import_pages.specs.PageImportTrees.{word_puts}
use Rattle.import_pages.specs.PageImportEnds.{append-again}
use Rattle.import_pages.specs.PageImportStages.{one_behind}
use Rattle.import_pages.proofs.Puts.{hands-word, hands-behind}
use Rattle.import_pages.proofs.page_imports.Importing.write.Goals as goal

pub returns-then-number-lt-WORDS-clause-hands : goal.returns-then-number-lt-WORDS-clause-hands
returns-then-number-lt-WORDS-clause-hands c h =
    let a = c.args in let p = a.self.filling.page in let ws = (input_in a.input.now).words in let behind = one_behind a.machine.pages a.tdr a.gpa a.self in
    let few : a.number < 512 = omega (arith, c.if-number-lt-WORDS.true) in
    subst (λ (cs : List Change). HandsAt a.machine cs a.number h h (Some c.store.result)) (sym (append-again (word_puts p ws 0 512) [] behind))
    (hands-word a.machine p ws behind h a.number few (omega (arith, few, c.requires.2)) c.store.result (c.store.ensures ∙ (λ i. write.Word (step.Store (c.word_address.ensures i) (c.word_of-word.ensures i)))))

pub returns-else-number-lt-WORDS-clause-hands : goal.returns-else-number-lt-WORDS-clause-hands
returns-else-number-lt-WORDS-clause-hands c h =
    let a = c.args in let p = a.self.filling.page in let ws = (input_in a.input.now).words in let behind = one_behind a.machine.pages a.tdr a.gpa a.self in
    subst (λ (cs : List Change). HandsAt a.machine cs a.number h h c.write_behind.result) (sym (append-again (word_puts p ws 0 512) [] behind))
    (hands-behind a.machine p ws behind h a.number _ c.write_behind.result (omega (arith, c.if-number-lt-WORDS.false)) (c.write_behind.ensures.hands h))
