use Rattle.std.proofs.Common.{◌≡◌, ◌==◌, true, ap}
use Rattle.std.specs.List.{list_any}
use Rattle.td_words.specs.declared.names.HeaderField.TheVariants as field
use Rattle.td_words.specs.declared.refusals.Status.TheVariants.{NoBundle, BundleHeader}
use Rattle.flat_core.specs.World.{ClearHeader}
use Rattle.flat_core.specs.Inputs.{Input, input_in, has_no_fault, fault_shown}
use Rattle.leaf_engine.specs.Trees.{Tree, needs}
use Rattle.leaf_parts.proofs.Parts.{passes, goes-check}
use Rattle.import_parts.specs.InputTrees.{input_tree}
use Rattle.import_parts.proofs.inputs.input_of.Goals as goal

pub returns-clause-goes : goal.returns-clause-goes
returns-clause-goes c = λ n.
    let a = c.args in
    let x : Input = input_in a.input.now in
    let there : x.there ≡ true = rw c.is_there.ensures at c.in_ok-check.ensures in
    let right : has_no_fault x.fault ≡ true = rw (c.has_no_fault.ensures, c.fault_of-fault.ensures) at c.in_ok-check-2.ensures in
    goes-check n (λ (f : Unit {0} → Tree). input_tree x a.slot a.kinds.now (f tt)) a.told.now.left.now a.told.now.left.now (list_any (λ k. k == x.header.kind) a.kinds.now) (BundleHeader field.Kind) c.check-3.result tt
    (λ f v d. passes n x.there (NoBundle a.slot) (needs (has_no_fault x.fault) (BundleHeader (fault_shown x.fault)) (needs (list_any (λ k. k == x.header.kind) a.kinds.now) (BundleHeader field.Kind) (f tt))) a.told.now.left.now v there
    (passes n (has_no_fault x.fault) (BundleHeader (fault_shown x.fault)) (needs (list_any (λ k. k == x.header.kind) a.kinds.now) (BundleHeader field.Kind) (f tt)) a.told.now.left.now v right d))
    (rw (c.is_among.ensures, ap (λ (h : ClearHeader). h.kind) c.header_of-header.ensures) at c.check-3.ensures)
