use Rattle.std.proofs.Common.{ℕ, Err, ◌∙◌}
use Rattle.leaf_engine.specs.Trees.{Tree}
use Rattle.leaf_parts.proofs.Parts.{goes-stop, exit}
use Rattle.export_tokens.specs.declared.tokens.Streams.{Streams}
use Rattle.export_tokens.specs.TokenTrees.{streams_tree}
use Rattle.export_tokens.proofs.Rests.{paged, roomed, headed}
use Rattle.export_tokens.proofs.tokens.streams_of.Goals as goal

pub returns-in_err-tdcs-clause-goes : goal.returns-in_err-tdcs-clause-goes
returns-in_err-tdcs-clause-goes c =
    let a = c.args in
    let n : ℕ = a.place.machine.pages in
    goes-stop n (λ (f : Streams → Tree). streams_tree a.place.machine a.tdr a.allowed.now f) a.told.now.left.now c.td_alone.new.told.left.now c.from_residual.result c.in_err-tdcs.field-0.0
    (exit c.from_residual.result c.in_err-tdcs.field-0.0 _ c.from_residual.ensures.1 (λ y h. h)) (λ f. c.in_err-tdcs.ensures.goes (headed n f))

pub returns-in_err-room-clause-goes : goal.returns-in_err-room-clause-goes
returns-in_err-room-clause-goes c =
    let a = c.args in
    let n : ℕ = a.place.machine.pages in
    let e = c.in_err-room.field-0.0 in
    goes-stop n (λ (f : Streams → Tree). streams_tree a.place.machine a.tdr a.allowed.now f) a.told.now.left.now c.room_on.new.told.left.now c.from_residual-in_err-room.result e
    (exit c.from_residual-in_err-room.result e _ c.from_residual-in_err-room.ensures.1 (λ y h. h))
    (λ f. c.in_ok-tdcs.ensures.goes (headed n f) (Err e) (c.in_err-room.ensures.goes (roomed n c.in_ok-tdcs.tdcs f)))

pub returns-in_err-pages-clause-goes : goal.returns-in_err-pages-clause-goes
returns-in_err-pages-clause-goes c =
    let a = c.args in
    let n : ℕ = a.place.machine.pages in
    let d : ℕ = c.in_ok-tdcs.tdcs in
    let e = c.in_err-pages.field-0.0 in
    goes-stop n (λ (f : Streams → Tree). streams_tree a.place.machine a.tdr a.allowed.now f) a.told.now.left.now c.stream_pages.new.told.left.now c.from_residual-in_err-pages.result e
    (exit c.from_residual-in_err-pages.result e _ c.from_residual-in_err-pages.ensures.1 (λ y h. h))
    (λ f. c.in_ok-tdcs.ensures.goes (headed n f) (Err e) (c.in_ok-room.ensures.goes (roomed n d f) (Err e) (c.in_err-pages.ensures.goes (paged d c.in_ok-room.room f))))

pub returns-clause-goes : goal.returns-clause-goes
returns-clause-goes c = λ f r end.
    let n : ℕ = c.args.place.machine.pages in
    let d : ℕ = c.in_ok-tdcs.tdcs in
    c.in_ok-tdcs.ensures.goes (headed n f) r (c.in_ok-room.ensures.goes (roomed n d f) r (c.in_ok-pages.ensures.goes (paged d c.in_ok-room.room f) r end))

pub returns-clause-feeds : goal.returns-clause-feeds
returns-clause-feeds c = λ f.
    let n : ℕ = c.args.place.machine.pages in
    let d : ℕ = c.in_ok-tdcs.tdcs in
    c.in_ok-tdcs.ensures.feeds (headed n f) ∙ (c.in_ok-room.ensures.feeds (roomed n d f) ∙ c.in_ok-pages.ensures.feeds (paged d c.in_ok-room.room f))
