use Rattle.td_words.specs.declared.replies.Value.TheVariants as value
use Rattle.td_words.specs.declared.replies.Reply.TheVariants.{Done}
use Rattle.flat_core.specs.Inputs.{input_in}
use Rattle.leaf_engine.proofs.Decided.{decided-changes, decided-none}
use Rattle.import_states.specs.TdImportTrees.{td_import_changes, td_import_tree}
use Rattle.import_states.proofs.tds.ImportTd.given.Goals as goal

pub returns-in-Ok-clause-changes : goal.returns-in-Ok-clause-changes
returns-in-Ok-clause-changes c =
    let l = c.args.self.now in
    decided-changes l.place.machine.pages (td_import_tree l.place.machine (input_in l.input) l.tdr l.slot) l.told.items (record { reply = Done value.Nothing; changes = td_import_changes (input_in l.input) c.in-Ok.begun }) c.in-Ok.ensures.decides

pub returns-in-Err-clause-changes : goal.returns-in-Err-clause-changes
returns-in-Err-clause-changes c =
    let l = c.args.self.now in
    decided-none l.place.machine.pages (td_import_tree l.place.machine (input_in l.input) l.tdr l.slot) l.told.items c.in-Err.field-0 c.in-Err.ensures.decides
