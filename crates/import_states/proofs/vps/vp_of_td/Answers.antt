use Rattle.std.proofs.Common.{ℕ, subst}
use Rattle.flat_core.specs.World.{ClearHeader}
use Rattle.flat_core.specs.Inputs.{Input, input_in}
use Rattle.leaf_engine.specs.Trees.{Tree}
use Rattle.leaf_parts.specs.Parts.{Goes}
use Rattle.leaf_parts.proofs.Parts.{goes-on, goes-off, exit}
use Rattle.stream_parts.specs.declared.rooms.Room.{Room}
use Rattle.import_states.specs.VpImportTrees.{vp_there_tree, vp_due_tree}
use Rattle.import_states.proofs.vps.vp_of_td.Goals as goal

abbrev there : (t v : ℕ) → (Unit {0} → Tree) → Tree
there t v f = vp_there_tree t v (f tt)

abbrev due : (n d v : ℕ) → Input → Unit {0} → (Room → Tree) → Tree
due n d v x u f = vp_due_tree n d v x.header x f

pub returns-in_err-vp_there-clause-goes : goal.returns-in_err-vp_there-clause-goes
returns-in_err-vp_there-clause-goes c =
    let a = c.args in
    goes-off a.machine.pages (there a.tdr a.vp) (due a.machine.pages a.tdcs a.vp (input_in a.input.now)) a.told.now.left.now c.vp_there.new.told.left.now c.vp_there.new.told.left.now c.in_err-vp_there.field-0.0 c.from_residual.result
    (exit c.from_residual.result c.in_err-vp_there.field-0.0 _ c.from_residual.ensures.1 (λ y h. h)) c.in_err-vp_there.ensures.goes

pub returns-clause-goes : goal.returns-clause-goes
returns-clause-goes c =
    let a = c.args in
    let n : ℕ = a.machine.pages in
    let x : Input = input_in a.input.now in
    goes-on n (there a.tdr a.vp) (due n a.tdcs a.vp x) a.told.now.left.now c.vp_there.new.told.left.now c.vp_due.new.told.left.now tt c.vp_due.result c.in_ok-vp_there.ensures.goes
    (subst (λ (h : ClearHeader). Goes n (λ f. vp_due_tree n a.tdcs a.vp h x f) c.vp_there.new.told.left.now c.vp_due.new.told.left.now c.vp_due.result) c.header_of-header.ensures c.vp_due.ensures.goes)
