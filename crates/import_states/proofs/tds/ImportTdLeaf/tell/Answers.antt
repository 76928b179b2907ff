use Rattle.std.proofs.Common.{sym, ◌∷◌, []}
use Rattle.flat_core.specs.Inputs.{input_in}
use Rattle.leaf_engine.proofs.Decided.{feed-append}
use Rattle.import_states.specs.TdImportTrees.{td_import_tree}
use Rattle.import_states.proofs.tds.ImportTdLeaf.tell.Goals as goal

pub returns-clause-rest : goal.returns-clause-rest
returns-clause-rest c = (let l = c.args.self.now in rw c.push.ensures.items (sym (feed-append (td_import_tree l.place.machine (input_in l.input) l.tdr l.slot) l.told.items (c.args.word ∷ []))))
