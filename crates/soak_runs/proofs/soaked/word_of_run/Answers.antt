use Rattle.std.proofs.Common.{◌∙◌, ap, subst, sym, List}
use Rattle.td_words.specs.Seen.{CodeSeen}
use Rattle.incoming.specs.Arrivals.{at_slot}
use Rattle.leaf_table.specs.Given.{Given, secrets_in}
use Rattle.leaf_dispatch.specs.FirstLists.{AreFirstLists}
use Rattle.script_text.specs.Seen.{ScriptSeen}
use Rattle.run_texts.specs.Openings.{opening_of}
use Rattle.run_texts.specs.Replaying.{AreAtEnd}
use Rattle.soak_runs.proofs.Soaking.{given-is, run-told}
use Rattle.soak_runs.proofs.soaked.word_of_run.Goals as goal

pub ended_processors-requires-clause-form : goal.ended_processors-requires-clause-form
ended_processors-requires-clause-form c = c.requires.form

pub ended_processors-requires-clause-first_lists : goal.ended_processors-requires-clause-first_lists
ended_processors-requires-clause-first_lists c =
    subst (λ (x : List CodeSeen). AreFirstLists x c.in_ok-first_lists.first_lists) (c.deref.ensures.value ∙ ap (λ (s : ScriptSeen). s.codes) c.script.view_is) c.in_ok-first_lists.ensures

pub returns : goal.returns
returns c = λ ms same.
    let g : Given = record { secrets = secrets_in c.deref-2.result.now; bundles = at_slot c.args.bundles.now } in
    let end = subst (AreAtEnd (opening_of g c.args.script.now) c.args.script.now.schedule) (sym c.deref-3.ensures.value) c.in_ok-lps.ensures in
    c.first_told.ensures ∙ run-told ms g c.args.script.now c.deref-3.result.now (given-is ms g (ap secrets_in c.deref-2.ensures.value ∙ c.in_ok-secrets.ensures.zeros) same) end c.requires.one
