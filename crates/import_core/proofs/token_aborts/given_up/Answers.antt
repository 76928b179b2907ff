use Rattle.std.proofs.Common.{◌≡◌, true}
use Rattle.td_words.specs.declared.refusals.Status.TheVariants.{BundleCounter}
use Rattle.flat_core.specs.World.{ClearHeader}
use Rattle.flat_core.specs.Opening.{clear_header}
use Rattle.flat_core.specs.Inputs.{Input, input_in}
use Rattle.leaf_engine.specs.Trees.{Tree}
use Rattle.leaf_parts.proofs.Parts.{goes-stop, goes-refused, goes-on, exit, goes-behind}
use Rattle.import_parts.specs.InputTrees.{session_same_tree, is_due, due_tree, tag_tree}
use Rattle.import_core.specs.TokenAbortTrees.{given_up_tree}
use Rattle.import_core.proofs.token_aborts.given_up.Goals as goal

abbrev due_next : ClearHeader → Input → Unit {0} → (Unit {0} → Tree) → Tree
due_next h x u f = due_tree h 0 (tag_tree x (f tt))

pub returns-in_err-session_same-clause-goes : goal.returns-in_err-session_same-clause-goes
returns-in_err-session_same-clause-goes c =
    let a = c.args in
    let h : ClearHeader = clear_header a.header.now in
    let x : Input = input_in a.input.now in
    let e = c.in_err-session_same.field-0.0 in
    goes-stop a.machine.pages (λ (f : Unit {0} → Tree). given_up_tree a.tdcs h x (f tt)) a.told.now.left.now c.session_same.new.told.left.now c.from_residual.result e
    (exit c.from_residual.result e _ c.from_residual.ensures.1 (λ y z. z)) (λ f. c.in_err-session_same.ensures.goes (λ u. due_next h x tt f))

pub returns-in_err-check-clause-goes : goal.returns-in_err-check-clause-goes
returns-in_err-check-clause-goes c =
    let a = c.args in
    let h : ClearHeader = clear_header a.header.now in
    let x : Input = input_in a.input.now in
    let e = c.in_err-check.field-0.0 in
    goes-refused a.machine.pages (λ (f : Unit {0} → Tree). given_up_tree a.tdcs h x (f tt)) a.told.now.left.now c.session_same.new.told.left.now c.session_same.new.told.left.now (is_due h 0) (BundleCounter 0 h.counter) e c.from_residual-in_err-check.result
    (λ (f : Unit {0} → Tree). tag_tree x (f tt)) (exit c.from_residual-in_err-check.result e _ c.from_residual-in_err-check.ensures.1 (λ y z. z)) (rw (c.is_due.ensures, c.from.ensures) at c.in_err-check.ensures)
    (λ f v d. c.in_ok-session_same.ensures.goes (λ u. due_next h x tt f) v d)

pub returns-clause-goes : goal.returns-clause-goes
returns-clause-goes c =
    let a = c.args in
    let h : ClearHeader = clear_header a.header.now in
    let x : Input = input_in a.input.now in
    let due : is_due h 0 ≡ true = rw c.is_due.ensures at c.in_ok-check.ensures in
    goes-on a.machine.pages (λ (f : Unit {0} → Tree). session_same_tree a.tdcs h (f tt)) (due_next h x) a.told.now.left.now c.session_same.new.told.left.now c.session_same.new.told.left.now tt c.tag_holds.result c.in_ok-session_same.ensures.goes
    (goes-behind a.machine.pages (is_due h 0) (BundleCounter 0 h.counter) (λ (f : Unit {0} → Tree). tag_tree x (f tt)) c.session_same.new.told.left.now c.session_same.new.told.left.now c.tag_holds.result due (c.tag_holds.ensures.goes a.machine.pages))
