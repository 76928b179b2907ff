use Rattle.std.proofs.Common.{ap, ◌∙◌}
use Rattle.leaf_parts.proofs.Parts.{goes-off, exit}
use Rattle.leaf_engine.specs.Trees.{feed}
use Rattle.stream_parts.specs.Rooms.{session_tree}
use Rattle.export_pages.specs.PageExportStages.{named_of}
use Rattle.export_pages.proofs.Asked.{counting}
use Rattle.export_pages.proofs.page_conditions.said.Goals as goal

pub returns-in_err-session-clause-goes : goal.returns-in_err-session-clause-goes
returns-in_err-session-clause-goes c =
    let a = c.args in let e = c.in_err-session.field-0.0 in
    goes-off a.machine.pages (λ f. session_tree a.entry.tdcs f) (counting (named_of a.entry) a.room a.epoch) a.told.now.left.now c.session.new.told.left.now c.session.new.told.left.now e c.from_residual.result
    (exit c.from_residual.result e _ c.from_residual.ensures.1 (λ y h. h)) c.in_err-session.ensures.goes

pub returns-clause-feeds : goal.returns-clause-feeds
returns-clause-feeds c = λ f.
    let a = c.args in
    c.in_ok-session.ensures.feeds (λ s. counting (named_of a.entry) a.room a.epoch s f) ∙ ap (feed (counting (named_of a.entry) a.room a.epoch c.in_ok-session.session f)) c.in_ok-count.ensures
