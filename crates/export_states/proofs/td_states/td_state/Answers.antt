use Rattle.std.proofs.Common.{◌≡◌, ℕ, ◌==◌, true, List, ◌∷◌, Result, Err, ◌∙◌}
use Rattle.td_words.specs.declared.refusals.Status.TheVariants.{AlreadyExported}
use Rattle.leaf_engine.specs.declared.plans.Stop.{Stop}
use Rattle.leaf_engine.specs.Decides.{Ending, Decides}
use Rattle.leaf_engine.specs.Trees.{Tree, feed}
use Rattle.leaf_parts.proofs.Parts.{goes-stop, passes, feed-passes, exit}
use Rattle.stream_parts.specs.declared.rooms.Room.{Room}
use Rattle.stream_parts.specs.Rooms.{room_tree, session_tree, mig_epoch_tree}
use Rattle.export_states.specs.declared.states.Stated.{Stated}
use Rattle.export_states.specs.TdStateTrees.{td_state_tree}
use Rattle.export_states.proofs.td_states.td_state.Goals as goal

module _ (tdcs : ℕ) (f : Stated → Tree) where
  abbrev by_epoch : Room → (session epoch : ℕ) → Tree
  by_epoch room session epoch = f (record { tdcs = tdcs; count = 0; room = room; session = session; epoch = epoch; index = 0; info = 0 })

  abbrev by_session : Room → (session : ℕ) → Tree
  by_session room session = mig_epoch_tree tdcs (by_epoch room session)

  abbrev by_room : Room → Tree
  by_room room = session_tree tdcs (by_session room)

-- behind the first condition
module _ (pages tdcs exported : ℕ) (is : (exported == 0) ≡ true) (before after : List ℕ) (told : before ≡ exported ∷ after) where
  behind : (f : Stated → Tree) (r : Result Ending Stop) → Decides pages (room_tree pages tdcs 0 (by_room tdcs f)) after r → Decides pages (td_state_tree pages tdcs f) before r
  behind f r d = rw told (passes pages (exported == 0) AlreadyExported (room_tree pages tdcs 0 (by_room tdcs f)) after r is d)

  behind-fed : (f : Stated → Tree) → feed (td_state_tree pages tdcs f) before ≡ feed (room_tree pages tdcs 0 (by_room tdcs f)) after
  behind-fed f = rw told (feed-passes (exported == 0) AlreadyExported (room_tree pages tdcs 0 (by_room tdcs f)) after is)

pub returns-in_err-room-clause-goes : goal.returns-in_err-room-clause-goes
returns-in_err-room-clause-goes c =
    let n = c.args.machine.pages in
    let d = c.args.tdcs in
    let e = c.in_err-room.field-0.0 in
    goes-stop n (λ (f : Stated → Tree). td_state_tree n d f) c.args.told.now.left.now c.room_on.new.told.left.now c.from_residual-in_err-room.result e
    (exit c.from_residual-in_err-room.result e _ c.from_residual-in_err-room.ensures.1 (λ y h. h))
    (λ f. behind n d c.in_ok-exported.exported c.in_ok-check.ensures c.args.told.now.left.now c.load.new.self.left.now c.in_ok-exported.ensures f (Err e) (c.in_err-room.ensures.goes (by_room d f)))

pub returns-in_err-session-clause-goes : goal.returns-in_err-session-clause-goes
returns-in_err-session-clause-goes c =
    let n = c.args.machine.pages in
    let d = c.args.tdcs in
    let e = c.in_err-session.field-0.0 in
    goes-stop n (λ (f : Stated → Tree). td_state_tree n d f) c.args.told.now.left.now c.session.new.told.left.now c.from_residual-in_err-session.result e
    (exit c.from_residual-in_err-session.result e _ c.from_residual-in_err-session.ensures.1 (λ y h. h))
    (λ f. behind n d c.in_ok-exported.exported c.in_ok-check.ensures c.args.told.now.left.now c.load.new.self.left.now c.in_ok-exported.ensures f (Err e)
    (c.in_ok-room.ensures.goes (by_room d f) (Err e) (c.in_err-session.ensures.goes (by_session d f c.in_ok-room.room))))

pub returns-in_err-epoch-clause-goes : goal.returns-in_err-epoch-clause-goes
returns-in_err-epoch-clause-goes c =
    let n = c.args.machine.pages in
    let d = c.args.tdcs in
    let e = c.in_err-epoch.field-0.0 in
    goes-stop n (λ (f : Stated → Tree). td_state_tree n d f) c.args.told.now.left.now c.mig_epoch.new.told.left.now c.from_residual-in_err-epoch.result e
    (exit c.from_residual-in_err-epoch.result e _ c.from_residual-in_err-epoch.ensures.1 (λ y h. h))
    (λ f. behind n d c.in_ok-exported.exported c.in_ok-check.ensures c.args.told.now.left.now c.load.new.self.left.now c.in_ok-exported.ensures f (Err e)
    (c.in_ok-room.ensures.goes (by_room d f) (Err e) (c.in_ok-session.ensures.goes (by_session d f c.in_ok-room.room) (Err e) (c.in_err-epoch.ensures.goes (by_epoch d f c.in_ok-room.room c.in_ok-session.session)))))

pub returns-clause-goes : goal.returns-clause-goes
returns-clause-goes c = λ f r k.
    let d = c.args.tdcs in
    behind c.args.machine.pages d c.in_ok-exported.exported c.in_ok-check.ensures c.args.told.now.left.now c.load.new.self.left.now c.in_ok-exported.ensures f r
    (c.in_ok-room.ensures.goes (by_room d f) r (c.in_ok-session.ensures.goes (by_session d f c.in_ok-room.room) r (c.in_ok-epoch.ensures.goes (by_epoch d f c.in_ok-room.room c.in_ok-session.session) r k)))

pub returns-clause-feeds : goal.returns-clause-feeds
returns-clause-feeds c = λ f.
    let d = c.args.tdcs in
    behind-fed c.args.machine.pages d c.in_ok-exported.exported c.in_ok-check.ensures c.args.told.now.left.now c.load.new.self.left.now c.in_ok-exported.ensures f
    ∙ (c.in_ok-room.ensures.feeds (by_room d f) ∙ (c.in_ok-session.ensures.feeds (by_session d f c.in_ok-room.room) ∙ c.in_ok-epoch.ensures.feeds (by_epoch d f c.in_ok-room.room c.in_ok-session.session)))
