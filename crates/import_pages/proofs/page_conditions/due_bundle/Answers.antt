use Rattle.std.proofs.Common.{Err}
use Rattle.flat_core.specs.Opening.{clear_header}
use Rattle.leaf_parts.proofs.Parts.{goes-on, goes-stop, feeds-on, exit}
use Rattle.import_pages.specs.PageImportTrees.{due_bundle_tree}
use Rattle.import_pages.proofs.Asked.{there, in_session, in_epoch, behind_epoch, behind_session, behind_there}
use Rattle.import_pages.proofs.page_conditions.due_bundle.Goals as goal

pub returns-in_err-stream_there-clause-goes : goal.returns-in_err-stream_there-clause-goes
returns-in_err-stream_there-clause-goes c =
    let a = c.args in let n = a.machine.pages in let h = clear_header a.header.now in let e = c.in_err-stream_there.field-0.0 in
    goes-stop n (λ f. due_bundle_tree n a.tdcs h f) a.told.now.left.now c.stream_there.new.told.left.now c.from_residual.result e
    (exit c.from_residual.result e _ c.from_residual.ensures.1 (λ y z. z))
    (λ f. c.in_err-stream_there.ensures.goes (λ u. behind_there n a.tdcs h u f))

pub returns-in_err-session_same-clause-goes : goal.returns-in_err-session_same-clause-goes
returns-in_err-session_same-clause-goes c =
    let a = c.args in let n = a.machine.pages in let h = clear_header a.header.now in let e = c.in_err-session_same.field-0.0 in
    goes-stop n (λ f. due_bundle_tree n a.tdcs h f) a.told.now.left.now c.session_same.new.told.left.now c.from_residual-in_err-session_same.result e
    (exit c.from_residual-in_err-session_same.result e _ c.from_residual-in_err-session_same.ensures.1 (λ y z. z))
    (λ f. c.in_ok-stream_there.ensures.goes (λ u. behind_there n a.tdcs h u f) (Err e) (c.in_err-session_same.ensures.goes (λ u. behind_session n a.tdcs h u f)))

pub returns-in_err-epoch_same-clause-goes : goal.returns-in_err-epoch_same-clause-goes
returns-in_err-epoch_same-clause-goes c =
    let a = c.args in let n = a.machine.pages in let h = clear_header a.header.now in let e = c.in_err-epoch_same.field-0.0 in
    goes-stop n (λ f. due_bundle_tree n a.tdcs h f) a.told.now.left.now c.epoch_same.new.told.left.now c.from_residual-in_err-epoch_same.result e
    (exit c.from_residual-in_err-epoch_same.result e _ c.from_residual-in_err-epoch_same.ensures.1 (λ y z. z))
    (λ f. c.in_ok-stream_there.ensures.goes (λ u. behind_there n a.tdcs h u f) (Err e)
    (c.in_ok-session_same.ensures.goes (λ u. behind_session n a.tdcs h u f) (Err e) (c.in_err-epoch_same.ensures.goes (λ u. behind_epoch n a.tdcs h u f))))

pub returns-clause-goes : goal.returns-clause-goes
returns-clause-goes c =
    let a = c.args in let n = a.machine.pages in let h = clear_header a.header.now in let after = c.counter_due.new.told.left.now in
    goes-on n (there n a.tdcs h) (behind_there n a.tdcs h) a.told.now.left.now c.stream_there.new.told.left.now after tt c.counter_due.result c.in_ok-stream_there.ensures.goes
    (goes-on n (in_session n a.tdcs h) (behind_session n a.tdcs h) c.stream_there.new.told.left.now c.session_same.new.told.left.now after tt c.counter_due.result c.in_ok-session_same.ensures.goes
    (goes-on n (in_epoch n a.tdcs h) (behind_epoch n a.tdcs h) c.session_same.new.told.left.now c.epoch_same.new.told.left.now after tt c.counter_due.result c.in_ok-epoch_same.ensures.goes
    c.counter_due.ensures.goes))

pub returns-clause-feeds : goal.returns-clause-feeds
returns-clause-feeds c =
    let a = c.args in let n = a.machine.pages in let h = clear_header a.header.now in let after = c.counter_due.new.told.left.now in
    feeds-on (there n a.tdcs h) (behind_there n a.tdcs h) a.told.now.left.now c.stream_there.new.told.left.now after tt c.counter_due.result c.in_ok-stream_there.ensures.feeds
    (feeds-on (in_session n a.tdcs h) (behind_session n a.tdcs h) c.stream_there.new.told.left.now c.session_same.new.told.left.now after tt c.counter_due.result c.in_ok-session_same.ensures.feeds
    (feeds-on (in_epoch n a.tdcs h) (behind_epoch n a.tdcs h) c.session_same.new.told.left.now c.epoch_same.new.told.left.now after tt c.counter_due.result c.in_ok-epoch_same.ensures.feeds
    c.counter_due.ensures.feeds))
