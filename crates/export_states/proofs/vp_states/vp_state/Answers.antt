use Rattle.std.proofs.Common.{ℕ}
use Rattle.leaf_engine.specs.Trees.{Tree}
use Rattle.stream_parts.specs.declared.rooms.Room.{Room}
use Rattle.stream_parts.specs.Rooms.{room_tree}
use Rattle.leaf_parts.proofs.Parts.{goes-on, goes-off, feeds-on, exit}
use Rattle.export_states.specs.declared.states.Stated.{Stated}
use Rattle.export_states.specs.VpStateTrees.{vp_left_tree, vp_said_tree}
use Rattle.export_states.proofs.vp_states.vp_state.Goals as goal

module _ (pages tdr tdcs vp : ℕ) where
  abbrev lefts : (ℕ → Tree) → Tree
  lefts f = vp_left_tree tdr tdcs vp f

  abbrev rooms : (ℕ) → (Stated → Tree) → Tree
  rooms session f = room_tree pages tdcs 0 (λ room. vp_said_tree tdcs vp room session f)

  abbrev room : (Room → Tree) → Tree
  room f = room_tree pages tdcs 0 f

  abbrev saids : (session : ℕ) → Room → (Stated → Tree) → Tree
  saids session r f = vp_said_tree tdcs vp r session f

pub returns-in_err-session-clause-goes : goal.returns-in_err-session-clause-goes
returns-in_err-session-clause-goes c =
    let a = c.args in
    goes-off a.machine.pages (lefts a.machine.pages a.tdr a.tdcs a.vp) (rooms a.machine.pages a.tdr a.tdcs a.vp) a.told.now.left.now c.vp_left.new.told.left.now c.vp_left.new.told.left.now c.in_err-session.field-0.0 c.from_residual.result
    (exit c.from_residual.result c.in_err-session.field-0.0 _ c.from_residual.ensures.1 (λ y h. h)) c.in_err-session.ensures.goes

pub returns-in_err-room-clause-goes : goal.returns-in_err-room-clause-goes
returns-in_err-room-clause-goes c =
    let a = c.args in
    goes-on a.machine.pages (lefts a.machine.pages a.tdr a.tdcs a.vp) (rooms a.machine.pages a.tdr a.tdcs a.vp) a.told.now.left.now c.vp_left.new.told.left.now c.room_on.new.told.left.now c.in_ok-session.session c.from_residual-in_err-room.result c.in_ok-session.ensures.goes
    (goes-off a.machine.pages (room a.machine.pages a.tdr a.tdcs a.vp) (saids a.machine.pages a.tdr a.tdcs a.vp c.in_ok-session.session) c.vp_left.new.told.left.now c.room_on.new.told.left.now c.room_on.new.told.left.now c.in_err-room.field-0.0 c.from_residual-in_err-room.result
    (exit c.from_residual-in_err-room.result c.in_err-room.field-0.0 _ c.from_residual-in_err-room.ensures.1 (λ y h. h)) c.in_err-room.ensures.goes)

pub returns-clause-goes : goal.returns-clause-goes
returns-clause-goes c =
    let a = c.args in
    goes-on a.machine.pages (lefts a.machine.pages a.tdr a.tdcs a.vp) (rooms a.machine.pages a.tdr a.tdcs a.vp) a.told.now.left.now c.vp_left.new.told.left.now c.vp_said.new.told.left.now c.in_ok-session.session c.vp_said.result c.in_ok-session.ensures.goes
    (goes-on a.machine.pages (room a.machine.pages a.tdr a.tdcs a.vp) (saids a.machine.pages a.tdr a.tdcs a.vp c.in_ok-session.session) c.vp_left.new.told.left.now c.room_on.new.told.left.now c.vp_said.new.told.left.now c.in_ok-room.room c.vp_said.result c.in_ok-room.ensures.goes c.vp_said.ensures.goes)

pub returns-clause-feeds : goal.returns-clause-feeds
returns-clause-feeds c =
    let a = c.args in
    feeds-on (lefts a.machine.pages a.tdr a.tdcs a.vp) (rooms a.machine.pages a.tdr a.tdcs a.vp) a.told.now.left.now c.vp_left.new.told.left.now c.vp_said.new.told.left.now c.in_ok-session.session c.vp_said.result c.in_ok-session.ensures.feeds
    (feeds-on (room a.machine.pages a.tdr a.tdcs a.vp) (saids a.machine.pages a.tdr a.tdcs a.vp c.in_ok-session.session) c.vp_left.new.told.left.now c.room_on.new.told.left.now c.vp_said.new.told.left.now c.in_ok-room.room c.vp_said.result c.in_ok-room.ensures.feeds c.vp_said.ensures.feeds)
