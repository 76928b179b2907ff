use Rattle.std.proofs.Common.{subst}
use Rattle.leaf_engine.specs.Trees.{Tree}
use Rattle.leaf_parts.specs.Parts.{Goes, Feeds}
use Rattle.leaf_parts.proofs.Parts.{goes-on, goes-off, feeds-on, exit}
use Rattle.mem_remove.specs.declared.named_entries.Named.{Named}
use Rattle.export_pages.specs.declared.page_exports.Exporting.{Exporting}
use Rattle.export_pages.specs.PageExportTrees.{named_rest}
use Rattle.export_pages.proofs.Asked.{having, finding, behind_found, behind_stream}
use Rattle.export_pages.proofs.page_conditions.td_export.Goals as goal

pub returns-in_err-has_stream-clause-goes : goal.returns-in_err-has_stream-clause-goes
returns-in_err-has_stream-clause-goes c =
    let a = c.args in let n = a.place.machine.pages in let e = c.in_err-has_stream.field-0.0 in
    goes-off n (having n a.tdr a.gpa a.stream a.td) (behind_stream n a.tdr a.gpa a.stream a.td) a.told.now.left.now c.has_stream.new.told.left.now c.has_stream.new.told.left.now e c.from_residual.result
    (exit c.from_residual.result e _ c.from_residual.ensures.1 (λ y h. h)) c.in_err-has_stream.ensures.goes

pub returns-in_err-named-clause-goes : goal.returns-in_err-named-clause-goes
returns-in_err-named-clause-goes c =
    let a = c.args in let n = a.place.machine.pages in let e = c.in_err-named.field-0.0 in
    goes-on n (having n a.tdr a.gpa a.stream a.td) (behind_stream n a.tdr a.gpa a.stream a.td) a.told.now.left.now c.has_stream.new.told.left.now c.find_exportable.new.told.left.now tt c.from_residual-in_err-named.result
    c.in_ok-has_stream.ensures.goes
    (goes-off n (finding n a.tdr a.gpa a.stream a.td) (behind_found n a.tdr a.gpa a.stream a.td) c.has_stream.new.told.left.now c.find_exportable.new.told.left.now c.find_exportable.new.told.left.now e c.from_residual-in_err-named.result
    (exit c.from_residual-in_err-named.result e _ c.from_residual-in_err-named.ensures.1 (λ y h. h)) c.in_err-named.ensures.goes)

pub returns-clause-goes : goal.returns-clause-goes
returns-clause-goes c =
    let a = c.args in let n = a.place.machine.pages in
    goes-on n (having n a.tdr a.gpa a.stream a.td) (behind_stream n a.tdr a.gpa a.stream a.td) a.told.now.left.now c.has_stream.new.told.left.now c.entry_export.new.told.left.now tt c.entry_export.result
    c.in_ok-has_stream.ensures.goes
    (goes-on n (finding n a.tdr a.gpa a.stream a.td) (behind_found n a.tdr a.gpa a.stream a.td) c.has_stream.new.told.left.now c.find_exportable.new.told.left.now c.entry_export.new.told.left.now c.in_ok-named.named c.entry_export.result
    c.in_ok-named.ensures.goes (subst (λ (x : Named). Goes n (λ f. named_rest n a.stream a.td.op x f) c.find_exportable.new.told.left.now c.entry_export.new.told.left.now c.entry_export.result) c.laid_out.ensures.same c.entry_export.ensures.goes))

pub returns-clause-feeds : goal.returns-clause-feeds
returns-clause-feeds c =
    let a = c.args in let n = a.place.machine.pages in
    feeds-on (having n a.tdr a.gpa a.stream a.td) (behind_stream n a.tdr a.gpa a.stream a.td) a.told.now.left.now c.has_stream.new.told.left.now c.entry_export.new.told.left.now tt c.entry_export.result
    c.in_ok-has_stream.ensures.feeds
    (feeds-on (finding n a.tdr a.gpa a.stream a.td) (behind_found n a.tdr a.gpa a.stream a.td) c.has_stream.new.told.left.now c.find_exportable.new.told.left.now c.entry_export.new.told.left.now c.in_ok-named.named c.entry_export.result
    c.in_ok-named.ensures.feeds (subst (λ (x : Named). Feeds (λ (f : Exporting → Tree). named_rest n a.stream a.td.op x f) c.find_exportable.new.told.left.now c.entry_export.new.told.left.now c.entry_export.result) c.laid_out.ensures.same c.entry_export.ensures.feeds))
