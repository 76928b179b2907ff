use Rattle.std.proofs.Common.{ℕ, nat_lt, Err}
use Rattle.td_words.specs.declared.refusals.Status.TheVariants.{OperandInvalid}
use Rattle.flat_core.specs.Inputs.{Input, input_in}
use Rattle.leaf_engine.specs.Trees.{Tree}
use Rattle.leaf_parts.proofs.Parts.{goes-stop, passes, goes-on, exit, goes-behind}
use Rattle.stream_parts.specs.AloneTrees.{td_alone_tree}
use Rattle.import_parts.specs.InputTrees.{input_tree, input_alone_tree}
use Rattle.import_parts.proofs.heads.input_alone.Goals as goal

pub returns-in_err-input_of-clause-goes : goal.returns-in_err-input_of-clause-goes
returns-in_err-input_of-clause-goes c =
    let a = c.args in
    let n : ℕ = a.place.machine.pages in
    let x : Input = input_in a.input.now in
    let e = c.in_err-input_of.field-0.0 in
    goes-stop n (λ (f : ℕ → Tree). input_alone_tree n x a.tdr a.slot a.kinds.now a.allowed.now f) a.told.now.left.now a.told.now.left.now c.from_residual-in_err-input_of.result e
    (exit c.from_residual-in_err-input_of.result e _ c.from_residual-in_err-input_of.ensures.1 (λ y h. h))
    (λ f. passes n (nat_lt a.tdr n) (OperandInvalid 1) (input_tree x a.slot a.kinds.now (td_alone_tree n a.tdr a.allowed.now f)) a.told.now.left.now (Err e) (rw c.from.ensures at c.in_ok-check.ensures)
    (c.in_err-input_of.ensures.goes n (λ u. td_alone_tree n a.tdr a.allowed.now f)))

pub returns-clause-goes : goal.returns-clause-goes
returns-clause-goes c =
    let a = c.args in
    let n : ℕ = a.place.machine.pages in
    let x : Input = input_in a.input.now in
    goes-behind n (nat_lt a.tdr n) (OperandInvalid 1) (λ (f : ℕ → Tree). input_tree x a.slot a.kinds.now (td_alone_tree n a.tdr a.allowed.now f)) a.told.now.left.now c.td_alone.new.told.left.now c.td_alone.result (rw c.from.ensures at c.in_ok-check.ensures)
    (goes-on n (λ (f : Unit {0} → Tree). input_tree x a.slot a.kinds.now (f tt)) (λ (u : Unit {0}) (f : ℕ → Tree). td_alone_tree n a.tdr a.allowed.now f) a.told.now.left.now a.told.now.left.now c.td_alone.new.told.left.now tt c.td_alone.result
    (c.in_ok-input_of.ensures.goes n) c.td_alone.ensures.goes)
