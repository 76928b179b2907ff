use Rattle.std.proofs.Common.{ℕ, [], ◌∷◌, refl}
use Rattle.std.specs.List.{list_any}
use Rattle.td_words.specs.declared.names.EntryState.TheVariants as entry
use Rattle.td_words.specs.declared.refusals.Status.TheVariants.{EptEntryStateIncorrect}
use Rattle.flat_core.specs.Tree.{same_state}
use Rattle.leaf_engine.specs.Trees.{Tree, done}
use Rattle.leaf_parts.specs.HostPages.{taken_page_tree}
use Rattle.leaf_parts.proofs.Parts.{passes, behind-stop, behind-go, exit}
use Rattle.sept_parts.specs.SeptTrees.{state_tree}
use Rattle.sept_parts.specs.MapTrees.{map_changes}
use Rattle.sept_parts.proofs.mappings.map.Goals as goal

pub returns-in_err-children-clause-decides : goal.returns-in_err-children-clause-decides
returns-in_err-children-clause-decides c = λ fills.
    let n = c.args.place.machine.pages in
    let e = c.args.found.entry in
    rw (exit c.from_residual-in_err-children.result c.in_err-children.field-0.0 _ c.from_residual-in_err-children.ensures.1 (λ y h. h))
    (behind-stop n (state_tree e (entry.Free ∷ [])) (λ t xs r d. passes n (list_any (λ s. same_state s e.state) (entry.Free ∷ [])) (EptEntryStateIncorrect e.state) t xs r c.in_ok-found_in.ensures d)
    (λ (f : ℕ → Tree). taken_page_tree c.args.mapping.tdr c.args.mapping.page f) (λ (children : ℕ). done fills (map_changes n c.args.mapping c.args.found.page children))
    c.args.told.now.left.now c.taken_page.new.told.left.now c.in_err-children.field-0.0 c.in_err-children.ensures.goes)

pub returns-clause-decides : goal.returns-clause-decides
returns-clause-decides c = λ fills.
    let n = c.args.place.machine.pages in
    let e = c.args.found.entry in
    behind-go n (state_tree e (entry.Free ∷ [])) (λ t xs r d. passes n (list_any (λ s. same_state s e.state) (entry.Free ∷ [])) (EptEntryStateIncorrect e.state) t xs r c.in_ok-found_in.ensures d)
    (λ (f : ℕ → Tree). taken_page_tree c.args.mapping.tdr c.args.mapping.page f) (λ (children : ℕ). done fills (map_changes n c.args.mapping c.args.found.page children))
    c.args.told.now.left.now c.taken_page.new.told.left.now c.in_ok-children.children _ c.in_ok-children.ensures.goes (rw c.done.ensures (refl, refl))
