use Rattle.std.proofs.Common.{Ok, Err}
use Rattle.td_words.specs.declared.replies.Value.TheVariants as value
use Rattle.td_words.specs.declared.replies.Reply.TheVariants.{Done}
use Rattle.flat_core.specs.Inputs.{input_in}
use Rattle.leaf_engine.specs.Decides.{Ending}
use Rattle.leaf_engine.proofs.Decided.{decided, decided-kept, decided-then}
use Rattle.import_states.specs.TdImportTrees.{td_import_changes, td_import_tree}
use Rattle.import_states.proofs.tds.ImportTdLeaf.need.Goals as goal

pub returns-in-Ok-clause-gives : goal.returns-in-Ok-clause-gives
returns-in-Ok-clause-gives c =
    let l = c.args.self.now in
    let tree = td_import_tree l.place.machine (input_in l.input) l.tdr l.slot in
    let end : Ending = record { reply = Done value.Nothing; changes = td_import_changes (input_in l.input) c.in-Ok.field-0 } in
    decided l.place.machine.pages tree l.told.items (Ok end) c.in-Ok.ensures.decides

pub returns-in-Ok-clause-rest : goal.returns-in-Ok-clause-rest
returns-in-Ok-clause-rest c =
    let l = c.args.self.now in
    let tree = td_import_tree l.place.machine (input_in l.input) l.tdr l.slot in
    let end : Ending = record { reply = Done value.Nothing; changes = td_import_changes (input_in l.input) c.in-Ok.field-0 } in
    decided-kept l.place.machine.pages tree l.told.items end c.in-Ok.ensures.decides

pub returns-in-Err-clause-gives : goal.returns-in-Err-clause-gives
returns-in-Err-clause-gives c =
    let l = c.args.self.now in
    rw c.need_at.ensures.need (decided l.place.machine.pages (td_import_tree l.place.machine (input_in l.input) l.tdr l.slot) l.told.items (Err c.in-Err.stop) c.in-Err.ensures.decides)

pub returns-in-Err-clause-rest : goal.returns-in-Err-clause-rest
returns-in-Err-clause-rest c =
    let l = c.args.self.now in
    rw c.need_at.ensures.told (decided-then l.place.machine.pages (td_import_tree l.place.machine (input_in l.input) l.tdr l.slot) l.told.items c.in-Err.stop c.in-Err.ensures.decides)
