use Rattle.std.proofs.Common.{ℕ, Err}
use Rattle.flat_core.specs.World.{ClearHeader}
use Rattle.flat_core.specs.Opening.{clear_header}
use Rattle.flat_core.specs.Inputs.{Input, input_in}
use Rattle.leaf_engine.specs.Trees.{Tree}
use Rattle.leaf_parts.proofs.Parts.{goes-stop, exit}
use Rattle.stream_parts.specs.declared.rooms.Room.{Room}
use Rattle.import_parts.specs.InputTrees.{tag_tree, epoch_same_tree, counter_due_tree}
use Rattle.import_states.specs.VpImportTrees.{index_same_tree, vp_due_tree}
use Rattle.import_states.proofs.vps.vp_due.Goals as goal

-- what comes behind each part
module _ (n d v : ℕ) (h : ClearHeader) (x : Input) (f : Room → Tree) where
  abbrev tagged : Room → Tree
  tagged room = tag_tree x (f room)

  abbrev counted : Tree
  counted = counter_due_tree n d 0 h (λ room. tag_tree x (f room))

  abbrev indexed : Tree
  indexed = index_same_tree v h (counter_due_tree n d 0 h (λ room. tag_tree x (f room)))

  abbrev begun : Tree
  begun = epoch_same_tree d h (index_same_tree v h (counter_due_tree n d 0 h (λ room. tag_tree x (f room))))

pub returns-in_err-session_same-clause-goes : goal.returns-in_err-session_same-clause-goes
returns-in_err-session_same-clause-goes c =
    let a = c.args in
    let n : ℕ = a.machine.pages in
    let h : ClearHeader = clear_header a.header.now in
    let x : Input = input_in a.input.now in
    let e = c.in_err-session_same.field-0.0 in
    goes-stop n (λ (f : Room → Tree). vp_due_tree n a.tdcs a.vp h x f) a.told.now.left.now c.session_same.new.told.left.now c.from_residual.result e
    (exit c.from_residual.result e _ c.from_residual.ensures.1 (λ y i. i)) (λ f. c.in_err-session_same.ensures.goes (λ u. begun n a.tdcs a.vp h x f))

pub returns-in_err-epoch_same-clause-goes : goal.returns-in_err-epoch_same-clause-goes
returns-in_err-epoch_same-clause-goes c =
    let a = c.args in
    let n : ℕ = a.machine.pages in
    let h : ClearHeader = clear_header a.header.now in
    let x : Input = input_in a.input.now in
    let e = c.in_err-epoch_same.field-0.0 in
    goes-stop n (λ (f : Room → Tree). vp_due_tree n a.tdcs a.vp h x f) a.told.now.left.now c.epoch_same.new.told.left.now c.from_residual-in_err-epoch_same.result e
    (exit c.from_residual-in_err-epoch_same.result e _ c.from_residual-in_err-epoch_same.ensures.1 (λ y i. i))
    (λ f. c.in_ok-session_same.ensures.goes (λ u. begun n a.tdcs a.vp h x f) (Err e) (c.in_err-epoch_same.ensures.goes (λ u. indexed n a.tdcs a.vp h x f)))

pub returns-in_err-index_same-clause-goes : goal.returns-in_err-index_same-clause-goes
returns-in_err-index_same-clause-goes c =
    let a = c.args in
    let n : ℕ = a.machine.pages in
    let h : ClearHeader = clear_header a.header.now in
    let x : Input = input_in a.input.now in
    let e = c.in_err-index_same.field-0.0 in
    goes-stop n (λ (f : Room → Tree). vp_due_tree n a.tdcs a.vp h x f) a.told.now.left.now c.index_same.new.told.left.now c.from_residual-in_err-index_same.result e
    (exit c.from_residual-in_err-index_same.result e _ c.from_residual-in_err-index_same.ensures.1 (λ y i. i))
    (λ f. c.in_ok-session_same.ensures.goes (λ u. begun n a.tdcs a.vp h x f) (Err e) (c.in_ok-epoch_same.ensures.goes (λ u. indexed n a.tdcs a.vp h x f) (Err e) (c.in_err-index_same.ensures.goes (λ u. counted n a.tdcs a.vp h x f))))

pub returns-in_err-room-clause-goes : goal.returns-in_err-room-clause-goes
returns-in_err-room-clause-goes c =
    let a = c.args in
    let n : ℕ = a.machine.pages in
    let h : ClearHeader = clear_header a.header.now in
    let x : Input = input_in a.input.now in
    let e = c.in_err-room.field-0.0 in
    goes-stop n (λ (f : Room → Tree). vp_due_tree n a.tdcs a.vp h x f) a.told.now.left.now c.counter_due.new.told.left.now c.from_residual-in_err-room.result e
    (exit c.from_residual-in_err-room.result e _ c.from_residual-in_err-room.ensures.1 (λ y i. i))
    (λ f. c.in_ok-session_same.ensures.goes (λ u. begun n a.tdcs a.vp h x f) (Err e) (c.in_ok-epoch_same.ensures.goes (λ u. indexed n a.tdcs a.vp h x f) (Err e)
    (c.in_ok-index_same.ensures.goes (λ u. counted n a.tdcs a.vp h x f) (Err e) (c.in_err-room.ensures.goes (tagged n a.tdcs a.vp h x f)))))

pub returns-in_err-tag_holds-clause-goes : goal.returns-in_err-tag_holds-clause-goes
returns-in_err-tag_holds-clause-goes c =
    let a = c.args in
    let n : ℕ = a.machine.pages in
    let h : ClearHeader = clear_header a.header.now in
    let x : Input = input_in a.input.now in
    let e = c.in_err-tag_holds.field-0.0 in
    goes-stop n (λ (f : Room → Tree). vp_due_tree n a.tdcs a.vp h x f) a.told.now.left.now c.counter_due.new.told.left.now c.from_residual-in_err-tag_holds.result e
    (exit c.from_residual-in_err-tag_holds.result e _ c.from_residual-in_err-tag_holds.ensures.1 (λ y i. i))
    (λ f. c.in_ok-session_same.ensures.goes (λ u. begun n a.tdcs a.vp h x f) (Err e) (c.in_ok-epoch_same.ensures.goes (λ u. indexed n a.tdcs a.vp h x f) (Err e)
    (c.in_ok-index_same.ensures.goes (λ u. counted n a.tdcs a.vp h x f) (Err e) (c.in_ok-room.ensures.goes (tagged n a.tdcs a.vp h x f) (Err e) (c.in_err-tag_holds.ensures.goes n (λ u. f c.in_ok-room.room))))))

pub returns-clause-goes : goal.returns-clause-goes
returns-clause-goes c = λ f r end.
    let a = c.args in
    let n : ℕ = a.machine.pages in
    let h : ClearHeader = clear_header a.header.now in
    let x : Input = input_in a.input.now in
    c.in_ok-session_same.ensures.goes (λ u. begun n a.tdcs a.vp h x f) r (c.in_ok-epoch_same.ensures.goes (λ u. indexed n a.tdcs a.vp h x f) r
    (c.in_ok-index_same.ensures.goes (λ u. counted n a.tdcs a.vp h x f) r (c.in_ok-room.ensures.goes (tagged n a.tdcs a.vp h x f) r (c.in_ok-tag_holds.ensures.goes n (λ u. f c.in_ok-room.room) r end))))
