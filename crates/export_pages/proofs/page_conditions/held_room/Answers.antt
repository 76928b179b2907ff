use Rattle.td_words.specs.declared.names.Mode.TheVariants.{Exclusive}
use Rattle.td_words.specs.Place as place
use Rattle.flat_core.specs.Processor.{OfPage}
use Rattle.leaf_engine.specs.Trees.{Tree}
use Rattle.leaf_parts.proofs.Parts.{goes-on, goes-off, feeds-on, exit}
use Rattle.stream_parts.specs.declared.rooms.Room.{Room}
use Rattle.stream_parts.specs.Rooms.{counter_tree}
use Rattle.export_pages.proofs.Asked.{paging, behind_stream_page, goes-held, feeds-held}
use Rattle.export_pages.proofs.page_conditions.held_room.Goals as goal

pub returns-in_err-page-clause-goes : goal.returns-in_err-page-clause-goes
returns-in_err-page-clause-goes c =
    let a = c.args in let n = a.machine.pages in let e = c.in_err-page.field-0.0 in
    goes-off n (paging n a.tdcs a.stream) (behind_stream_page n a.tdcs a.stream) a.told.now.left.now c.stream_page.new.told.left.now c.stream_page.new.told.left.now e c.from_residual.result
    (exit c.from_residual.result e _ c.from_residual.ensures.1 (λ y h. h)) c.in_err-page.ensures.goes

pub returns-clause-goes : goal.returns-clause-goes
returns-clause-goes c =
    let a = c.args in let n = a.machine.pages in let p = c.in_ok-page.page in
    goes-on n (paging n a.tdcs a.stream) (behind_stream_page n a.tdcs a.stream) a.told.now.left.now c.stream_page.new.told.left.now c.room_of.new.told.left.now p c.room_of.result
    c.in_ok-page.ensures.goes
    (rw c.in_ok-lock.ensures.1 (goes-held n (OfPage p) (place.Lock p) Exclusive (λ (f : Room → Tree). counter_tree p f) c.in_ok-lock.ensures.0 c.lock.new.self.left.now c.room_of.new.told.left.now c.room_of.result c.room_of.ensures.goes))

pub returns-clause-feeds : goal.returns-clause-feeds
returns-clause-feeds c =
    let a = c.args in let n = a.machine.pages in let p = c.in_ok-page.page in
    feeds-on (paging n a.tdcs a.stream) (behind_stream_page n a.tdcs a.stream) a.told.now.left.now c.stream_page.new.told.left.now c.room_of.new.told.left.now p c.room_of.result
    c.in_ok-page.ensures.feeds
    (rw c.in_ok-lock.ensures.1 (feeds-held (OfPage p) (place.Lock p) Exclusive (λ (f : Room → Tree). counter_tree p f) c.in_ok-lock.ensures.0 c.lock.new.self.left.now c.room_of.new.told.left.now c.room_of.result c.room_of.ensures.feeds))
