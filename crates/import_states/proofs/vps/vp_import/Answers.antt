use Rattle.std.proofs.Common.{ℕ, Err, [], ◌∷◌}
use Rattle.td_words.specs.declared.names.Mode.TheVariants.{Exclusive}
use Rattle.flat_core.specs.Inputs.{Input, input_in}
use Rattle.flat_core.specs.ImportRows.{vp_state_ops}
use Rattle.leaf_engine.specs.Trees.{Tree}
use Rattle.leaf_parts.specs.declared.heads.Td.{Td}
use Rattle.leaf_parts.specs.Arguments.{checked, two_pages}
use Rattle.leaf_parts.specs.Heads.{td_head_tree}
use Rattle.leaf_parts.proofs.Arguments.{arguments-hold}
use Rattle.leaf_parts.proofs.Parts.{goes-stop, exit}
use Rattle.stream_parts.specs.declared.rooms.Room.{Room}
use Rattle.import_parts.specs.InputTrees.{input_tree}
use Rattle.import_states.specs.VpImportTrees.{vp_import_tree, vp_import_asked}
use Rattle.import_states.proofs.Asked.{goes-past}
use Rattle.import_states.proofs.vps.vp_import.Goals as goal

-- what comes behind the bundle, and behind the beginning of the row
module _ (n t v : ℕ) (x : Input) (f : Room → Tree) where
  abbrev rest : Td → Tree
  rest td = vp_import_tree n t td.tdcs v x f

  abbrev headed : Tree
  headed = td_head_tree n t Exclusive vp_state_ops (λ td. vp_import_tree n t td.tdcs v x f)

pub returns-in_err-input_of-clause-goes : goal.returns-in_err-input_of-clause-goes
returns-in_err-input_of-clause-goes c =
    let a = c.args in
    let n : ℕ = a.place.machine.pages in
    let x : Input = input_in a.input.now in
    let e = c.in_err-input_of.field-0.0 in
    goes-stop n (λ (f : Room → Tree). vp_import_asked a.place.machine x a.tdr a.vp a.slot f) a.told.now.left.now a.told.now.left.now c.from_residual-in_err-input_of.result e
    (exit c.from_residual-in_err-input_of.result e _ c.from_residual-in_err-input_of.ensures.1 (λ y h. h))
    (λ f. arguments-hold n (two_pages a.place.machine a.tdr a.vp) (rw c.from.ensures at c.in_ok-check.ensures, (rw c.from-2.ensures at c.in_ok-check-2.ensures, (c.in_ok-check-3.ensures, tt)))
    (input_tree x a.slot (2 ∷ []) (headed n a.tdr a.vp x f)) a.told.now.left.now (Err e) (c.in_err-input_of.ensures.goes n (λ u. headed n a.tdr a.vp x f)))

pub returns-in_err-td-clause-goes : goal.returns-in_err-td-clause-goes
returns-in_err-td-clause-goes c =
    let a = c.args in
    let n : ℕ = a.place.machine.pages in
    let x : Input = input_in a.input.now in
    let e = c.in_err-td.field-0.0 in
    goes-stop n (λ (f : Room → Tree). vp_import_asked a.place.machine x a.tdr a.vp a.slot f) a.told.now.left.now c.td_head.new.told.left.now c.from_residual-in_err-td.result e
    (exit c.from_residual-in_err-td.result e _ c.from_residual-in_err-td.ensures.1 (λ y h. h))
    (λ f. arguments-hold n (two_pages a.place.machine a.tdr a.vp) (rw c.from.ensures at c.in_ok-check.ensures, (rw c.from-2.ensures at c.in_ok-check-2.ensures, (c.in_ok-check-3.ensures, tt)))
    (input_tree x a.slot (2 ∷ []) (headed n a.tdr a.vp x f)) a.told.now.left.now (Err e)
    (c.in_ok-input_of.ensures.goes n (λ u. headed n a.tdr a.vp x f) (Err e) (c.in_err-td.ensures.goes (rest n a.tdr a.vp x f))))

pub returns-clause-goes : goal.returns-clause-goes
returns-clause-goes c =
    let a = c.args in
    let n : ℕ = a.place.machine.pages in
    let x : Input = input_in a.input.now in
    goes-past n (λ (t : Tree). checked (two_pages a.place.machine a.tdr a.vp) (input_tree x a.slot (2 ∷ []) t)) a.told.now.left.now
    (λ t r d. arguments-hold n (two_pages a.place.machine a.tdr a.vp) (rw c.from.ensures at c.in_ok-check.ensures, (rw c.from-2.ensures at c.in_ok-check-2.ensures, (c.in_ok-check-3.ensures, tt)))
    (input_tree x a.slot (2 ∷ []) t) a.told.now.left.now r (c.in_ok-input_of.ensures.goes n (λ u. t) r d))
    (λ (f : Td → Tree). td_head_tree n a.tdr Exclusive vp_state_ops f) (λ (td : Td) (f : Room → Tree). vp_import_tree n a.tdr td.tdcs a.vp x f) c.td_head.new.told.left.now c.vp_of_td.new.told.left.now
    c.in_ok-td.td c.vp_of_td.result c.in_ok-td.ensures.goes c.vp_of_td.ensures.goes
