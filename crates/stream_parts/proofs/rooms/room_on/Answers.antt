use Rattle.std.proofs.Common.{ℕ}
use Rattle.leaf_engine.specs.Trees.{Tree}
use Rattle.leaf_parts.proofs.Parts.{goes-on, goes-off, feeds-on, exit}
use Rattle.stream_parts.specs.declared.rooms.Room.{Room}
use Rattle.stream_parts.specs.Streams.{page_tree}
use Rattle.stream_parts.specs.Rooms.{counter_tree}
use Rattle.stream_parts.proofs.rooms.room_on.Goals as goal

abbrev paged : (pages tdcs stream : ℕ) → (ℕ → Tree) → Tree
paged pages tdcs stream f = page_tree pages tdcs stream f

abbrev counted : ℕ → (Room → Tree) → Tree
counted page f = counter_tree page f

pub returns-in_err-page-clause-goes : goal.returns-in_err-page-clause-goes
returns-in_err-page-clause-goes c =
    let a = c.args in
    goes-off a.machine.pages (paged a.machine.pages a.tdcs a.stream) counted a.told.now.left.now c.stream_page.new.told.left.now c.stream_page.new.told.left.now c.in_err-page.field-0.0 c.from_residual.result
    (exit c.from_residual.result c.in_err-page.field-0.0 _ c.from_residual.ensures.1 (λ y h. h)) c.in_err-page.ensures.goes

pub returns-clause-goes : goal.returns-clause-goes
returns-clause-goes c =
    let a = c.args in
    goes-on a.machine.pages (paged a.machine.pages a.tdcs a.stream) counted a.told.now.left.now c.stream_page.new.told.left.now c.room_of.new.told.left.now c.in_ok-page.page c.room_of.result
    c.in_ok-page.ensures.goes c.room_of.ensures.goes

pub returns-clause-feeds : goal.returns-clause-feeds
returns-clause-feeds c =
    let a = c.args in
    feeds-on (paged a.machine.pages a.tdcs a.stream) counted a.told.now.left.now c.stream_page.new.told.left.now c.room_of.new.told.left.now c.in_ok-page.page c.room_of.result
    c.in_ok-page.ensures.feeds c.room_of.ensures.feeds
