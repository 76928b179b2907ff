use Rattle.std.proofs.Common.{sym, ◌∷◌, []}
use Rattle.leaf_engine.proofs.Decided.{feed-append}
use Rattle.export_states.specs.TdStateTrees.{td_tree}
use Rattle.export_states.proofs.td_states.StateTdLeaf.tell.Goals as goal

pub returns-clause-rest : goal.returns-clause-rest
returns-clause-rest c = (let l = c.args.self.now in rw c.push.ensures.items (sym (feed-append (td_tree l.place.machine l.tdr l.slot) l.told.items (c.args.word ∷ []))))
