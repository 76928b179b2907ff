use Rattle.leaf_parts.proofs.Parts.{goes-on, goes-off, feeds-on, exit}
use Rattle.export_pages.specs.PageExportStages.{named_of}
use Rattle.export_pages.proofs.Asked.{dating, rooming, tracking, behind_tracked, behind_room, behind_epoch}
use Rattle.export_pages.proofs.page_conditions.entry_export.Goals as goal

pub returns-in_err-epoch-clause-goes : goal.returns-in_err-epoch-clause-goes
returns-in_err-epoch-clause-goes c =
    let a = c.args in let n = a.place.machine.pages in let e = c.in_err-epoch.field-0.0 in
    goes-off n (dating n a.stream a.op (named_of a.entry)) (behind_epoch n a.stream a.op (named_of a.entry)) a.told.now.left.now c.other_epoch.new.told.left.now c.other_epoch.new.told.left.now e c.from_residual.result
    (exit c.from_residual.result e _ c.from_residual.ensures.1 (λ y h. h)) c.in_err-epoch.ensures.goes

pub returns-in_err-room-clause-goes : goal.returns-in_err-room-clause-goes
returns-in_err-room-clause-goes c =
    let a = c.args in let n = a.place.machine.pages in let e = c.in_err-room.field-0.0 in let m = c.in_ok-epoch.epoch in
    goes-on n (dating n a.stream a.op (named_of a.entry)) (behind_epoch n a.stream a.op (named_of a.entry)) a.told.now.left.now c.other_epoch.new.told.left.now c.held_room.new.told.left.now m c.from_residual-in_err-room.result
    c.in_ok-epoch.ensures.goes
    (goes-off n (rooming n a.stream a.op (named_of a.entry)) (behind_room n a.stream a.op (named_of a.entry) m) c.other_epoch.new.told.left.now c.held_room.new.told.left.now c.held_room.new.told.left.now e c.from_residual-in_err-room.result
    (exit c.from_residual-in_err-room.result e _ c.from_residual-in_err-room.ensures.1 (λ y h. h)) c.in_err-room.ensures.goes)

pub returns-in_err-tracked_in-clause-goes : goal.returns-in_err-tracked_in-clause-goes
returns-in_err-tracked_in-clause-goes c =
    let a = c.args in let n = a.place.machine.pages in let e = c.in_err-tracked_in.field-0.0 in let m = c.in_ok-epoch.epoch in let r = c.in_ok-room.room in
    goes-on n (dating n a.stream a.op (named_of a.entry)) (behind_epoch n a.stream a.op (named_of a.entry)) a.told.now.left.now c.other_epoch.new.told.left.now c.tracked_in.new.told.left.now m c.from_residual-in_err-tracked_in.result
    c.in_ok-epoch.ensures.goes
    (goes-on n (rooming n a.stream a.op (named_of a.entry)) (behind_room n a.stream a.op (named_of a.entry) m) c.other_epoch.new.told.left.now c.held_room.new.told.left.now c.tracked_in.new.told.left.now r c.from_residual-in_err-tracked_in.result
    c.in_ok-room.ensures.goes
    (goes-off n (tracking n a.stream a.op (named_of a.entry)) (behind_tracked n a.stream a.op (named_of a.entry) m r) c.held_room.new.told.left.now c.tracked_in.new.told.left.now c.tracked_in.new.told.left.now e c.from_residual-in_err-tracked_in.result
    (exit c.from_residual-in_err-tracked_in.result e _ c.from_residual-in_err-tracked_in.ensures.1 (λ y h. h)) c.in_err-tracked_in.ensures.goes))

pub returns-clause-goes : goal.returns-clause-goes
returns-clause-goes c =
    let a = c.args in let n = a.place.machine.pages in let m = c.in_ok-epoch.epoch in let r = c.in_ok-room.room in
    goes-on n (dating n a.stream a.op (named_of a.entry)) (behind_epoch n a.stream a.op (named_of a.entry)) a.told.now.left.now c.other_epoch.new.told.left.now c.said.new.told.left.now m c.said.result
    c.in_ok-epoch.ensures.goes
    (goes-on n (rooming n a.stream a.op (named_of a.entry)) (behind_room n a.stream a.op (named_of a.entry) m) c.other_epoch.new.told.left.now c.held_room.new.told.left.now c.said.new.told.left.now r c.said.result
    c.in_ok-room.ensures.goes
    (goes-on n (tracking n a.stream a.op (named_of a.entry)) (behind_tracked n a.stream a.op (named_of a.entry) m r) c.held_room.new.told.left.now c.tracked_in.new.told.left.now c.said.new.told.left.now tt c.said.result
    c.in_ok-tracked_in.ensures.goes c.said.ensures.goes))

pub returns-clause-feeds : goal.returns-clause-feeds
returns-clause-feeds c =
    let a = c.args in let n = a.place.machine.pages in let m = c.in_ok-epoch.epoch in let r = c.in_ok-room.room in
    feeds-on (dating n a.stream a.op (named_of a.entry)) (behind_epoch n a.stream a.op (named_of a.entry)) a.told.now.left.now c.other_epoch.new.told.left.now c.said.new.told.left.now m c.said.result
    c.in_ok-epoch.ensures.feeds
    (feeds-on (rooming n a.stream a.op (named_of a.entry)) (behind_room n a.stream a.op (named_of a.entry) m) c.other_epoch.new.told.left.now c.held_room.new.told.left.now c.said.new.told.left.now r c.said.result
    c.in_ok-room.ensures.feeds
    (feeds-on (tracking n a.stream a.op (named_of a.entry)) (behind_tracked n a.stream a.op (named_of a.entry) m r) c.held_room.new.told.left.now c.tracked_in.new.told.left.now c.said.new.told.left.now tt c.said.result
    c.in_ok-tracked_in.ensures.feeds c.said.ensures.feeds))
