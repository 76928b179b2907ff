use Rattle.std.proofs.Common.{ℕ, Err}
use Rattle.flat_core.specs.World.{ClearHeader}
use Rattle.flat_core.specs.Opening.{clear_header}
use Rattle.flat_core.specs.Inputs.{Input, input_in}
use Rattle.leaf_engine.specs.Trees.{Tree}
use Rattle.leaf_parts.proofs.Parts.{goes-stop, exit}
use Rattle.stream_parts.specs.declared.rooms.Room.{Room}
use Rattle.import_parts.specs.InputTrees.{tag_tree, counter_due_tree}
use Rattle.import_core.specs.TokenTrees.{token_epoch_tree, total_same_tree, token_due_tree}
use Rattle.import_core.proofs.tokens.token_due.Goals as goal

-- what comes behind the tag, the counter, the epoch and the session
abbrev totalled : (n d : ℕ) → ClearHeader → (Room → Tree) → Room → Tree
totalled n d h f room = total_same_tree n d h (f room)

abbrev tagged : (n d : ℕ) → ClearHeader → Input → (Room → Tree) → Room → Tree
tagged n d h x f room = tag_tree x (totalled n d h f room)

abbrev counted : (n d : ℕ) → ClearHeader → Input → (Room → Tree) → Tree
counted n d h x f = counter_due_tree n d 0 h (tagged n d h x f)

abbrev begun : (n d : ℕ) → ClearHeader → Input → (Room → Tree) → Tree
begun n d h x f = token_epoch_tree d h (counted n d h x f)

pub returns-in_err-session_same-clause-goes : goal.returns-in_err-session_same-clause-goes
returns-in_err-session_same-clause-goes c =
    let a = c.args in
    let n : ℕ = a.machine.pages in
    let d : ℕ = a.tdcs in
    let h : ClearHeader = clear_header a.header.now in
    let x : Input = input_in a.input.now in
    let e = c.in_err-session_same.field-0.0 in
    goes-stop n (λ (f : Room → Tree). token_due_tree n d h x f) a.told.now.left.now c.session_same.new.told.left.now c.from_residual.result e (exit c.from_residual.result e _ c.from_residual.ensures.1 (λ y z. z))
    (λ f. c.in_err-session_same.ensures.goes (λ u. begun n d h x f))

pub returns-in_err-token_epoch-clause-goes : goal.returns-in_err-token_epoch-clause-goes
returns-in_err-token_epoch-clause-goes c =
    let a = c.args in
    let n : ℕ = a.machine.pages in
    let d : ℕ = a.tdcs in
    let h : ClearHeader = clear_header a.header.now in
    let x : Input = input_in a.input.now in
    let e = c.in_err-token_epoch.field-0.0 in
    goes-stop n (λ (f : Room → Tree). token_due_tree n d h x f) a.told.now.left.now c.token_epoch.new.told.left.now c.from_residual-in_err-token_epoch.result e
    (exit c.from_residual-in_err-token_epoch.result e _ c.from_residual-in_err-token_epoch.ensures.1 (λ y z. z))
    (λ f. c.in_ok-session_same.ensures.goes (λ u. begun n d h x f) (Err e) (c.in_err-token_epoch.ensures.goes (λ u. counted n d h x f)))

pub returns-in_err-room-clause-goes : goal.returns-in_err-room-clause-goes
returns-in_err-room-clause-goes c =
    let a = c.args in
    let n : ℕ = a.machine.pages in
    let d : ℕ = a.tdcs in
    let h : ClearHeader = clear_header a.header.now in
    let x : Input = input_in a.input.now in
    let e = c.in_err-room.field-0.0 in
    goes-stop n (λ (f : Room → Tree). token_due_tree n d h x f) a.told.now.left.now c.counter_due.new.told.left.now c.from_residual-in_err-room.result e (exit c.from_residual-in_err-room.result e _ c.from_residual-in_err-room.ensures.1 (λ y z. z))
    (λ f. c.in_ok-session_same.ensures.goes (λ u. begun n d h x f) (Err e) (c.in_ok-token_epoch.ensures.goes (λ u. counted n d h x f) (Err e) (c.in_err-room.ensures.goes (tagged n d h x f))))

pub returns-in_err-tag_holds-clause-goes : goal.returns-in_err-tag_holds-clause-goes
returns-in_err-tag_holds-clause-goes c =
    let a = c.args in
    let n : ℕ = a.machine.pages in
    let d : ℕ = a.tdcs in
    let h : ClearHeader = clear_header a.header.now in
    let x : Input = input_in a.input.now in
    let e = c.in_err-tag_holds.field-0.0 in
    goes-stop n (λ (f : Room → Tree). token_due_tree n d h x f) a.told.now.left.now c.counter_due.new.told.left.now c.from_residual-in_err-tag_holds.result e
    (exit c.from_residual-in_err-tag_holds.result e _ c.from_residual-in_err-tag_holds.ensures.1 (λ y z. z))
    (λ f. c.in_ok-session_same.ensures.goes (λ u. begun n d h x f) (Err e) (c.in_ok-token_epoch.ensures.goes (λ u. counted n d h x f) (Err e)
    (c.in_ok-room.ensures.goes (tagged n d h x f) (Err e) (c.in_err-tag_holds.ensures.goes n (λ u. totalled n d h f c.in_ok-room.room)))))

pub returns-in_err-total_same-clause-goes : goal.returns-in_err-total_same-clause-goes
returns-in_err-total_same-clause-goes c =
    let a = c.args in
    let n : ℕ = a.machine.pages in
    let d : ℕ = a.tdcs in
    let h : ClearHeader = clear_header a.header.now in
    let x : Input = input_in a.input.now in
    let e = c.in_err-total_same.field-0.0 in
    goes-stop n (λ (f : Room → Tree). token_due_tree n d h x f) a.told.now.left.now c.total_same.new.told.left.now c.from_residual-in_err-total_same.result e
    (exit c.from_residual-in_err-total_same.result e _ c.from_residual-in_err-total_same.ensures.1 (λ y z. z))
    (λ f. c.in_ok-session_same.ensures.goes (λ u. begun n d h x f) (Err e) (c.in_ok-token_epoch.ensures.goes (λ u. counted n d h x f) (Err e)
    (c.in_ok-room.ensures.goes (tagged n d h x f) (Err e) (c.in_ok-tag_holds.ensures.goes n (λ u. totalled n d h f c.in_ok-room.room) (Err e) (c.in_err-total_same.ensures.goes (λ u. f c.in_ok-room.room))))))

pub returns-clause-goes : goal.returns-clause-goes
returns-clause-goes c = λ f r end.
    let a = c.args in
    let n : ℕ = a.machine.pages in
    let d : ℕ = a.tdcs in
    let h : ClearHeader = clear_header a.header.now in
    let x : Input = input_in a.input.now in
    c.in_ok-session_same.ensures.goes (λ u. begun n d h x f) r (c.in_ok-token_epoch.ensures.goes (λ u. counted n d h x f) r
    (c.in_ok-room.ensures.goes (tagged n d h x f) r (c.in_ok-tag_holds.ensures.goes n (λ u. totalled n d h f c.in_ok-room.room) r (c.in_ok-total_same.ensures.goes (λ u. f c.in_ok-room.room) r end))))
