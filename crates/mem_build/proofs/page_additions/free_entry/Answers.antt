use Rattle.std.proofs.Common.{ℕ, [], ◌∷◌}
use Rattle.td_words.specs.declared.names.EntryState.TheVariants as entry
use Rattle.leaf_engine.specs.Trees.{Tree}
use Rattle.leaf_parts.proofs.Parts.{goes-stop, goes-on, exit}
use Rattle.sept_parts.specs.declared.finds.Found.{Found}
use Rattle.sept_parts.specs.SeptTrees.{td_find_tree, state_tree}
use Rattle.td_words.specs.declared.names.OpState.TheVariants as op
use Rattle.mem_build.specs.PageAddTrees.{alone, free_tree}
use Rattle.mem_build.proofs.PageAdds.{table-goes}
use Rattle.mem_build.proofs.page_additions.free_entry.Goals as goal

abbrev rest : Found → (ℕ → Tree) → Tree
rest x f = state_tree x.entry (entry.Free ∷ []) (f x.page)

pub returns-in_err-found-clause-goes : goal.returns-in_err-found-clause-goes
returns-in_err-found-clause-goes c =
    goes-stop c.args.place.machine.pages (λ (f : ℕ → Tree). free_tree c.args.place.machine.pages c.args.tdr c.args.gpa f) c.args.told.now.left.now c.td_find.new.told.left.now c.from_residual.result c.in_err-found.field-0.0
    (exit c.from_residual.result c.in_err-found.field-0.0 _ c.from_residual.ensures.1 (λ y h. h))
    (λ f. c.in_err-found.ensures.goes (λ x. rest x f))

pub returns-clause-goes : goal.returns-clause-goes
returns-clause-goes c =
    goes-on c.args.place.machine.pages (λ (f : Found → Tree). td_find_tree c.args.place.machine.pages c.args.tdr alone (op.Initialized ∷ []) c.args.gpa 0 f) rest
    c.args.told.now.left.now c.td_find.new.told.left.now c.td_find.new.told.left.now c.in_ok-found.found c.table_of.result
    c.in_ok-found.ensures.goes (table-goes c.args.place.machine.pages c.in_ok-found.found c.td_find.new.told.left.now c.table_of.result c.table_of.ensures)
