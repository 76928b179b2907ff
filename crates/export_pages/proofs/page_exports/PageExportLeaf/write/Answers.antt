use Rattle.std.proofs.Common.{ℕ, List, None, Some, ap, sym, subst}
use Rattle.leaf_engine.specs.Changes.{Change}
use Rattle.leaf_engine.specs.Decides.{HandsAt}
use Rattle.leaf_engine.specs.Trees.{changes_of}
use Rattle.leaf_engine.proofs.Decided.{none-next, some-next}
use Rattle.export_pages.specs.PageExportTrees.{page_export_changes}
use Rattle.export_pages.specs.PageExportStages.{rest_of}
use Rattle.export_pages.proofs.page_exports.PageExportLeaf.write.Goals as goal

pub returns-in_err-write-clause-next : goal.returns-in_err-write-clause-next
returns-in_err-write-clause-next c =
    let l = c.args.self.now in
    let h = c.args._hasher.now in
    let x = c.in_ok-exporting.exporting in
    let hands = subst (λ (i : ℕ). HandsAt l.place.machine (page_export_changes i x) l.written h h None) c.index-at.ensures.index (c.in_err-write.ensures.hands h) in
    rw c.from_residual-in_err-write.ensures (none-next l.place.machine (changes_of (rest_of l.place l.tdr l.gpa l.stream l.slot l.exporting l.told.items l.words)) l.written h h
    (subst (λ (cs : List Change). HandsAt l.place.machine cs l.written h h None) (sym (ap changes_of c.in_ok-exporting.ensures.0)) hands))

pub returns-clause-next : goal.returns-clause-next
returns-clause-next c =
    let l = c.args.self.now in
    let h = c.args._hasher.now in
    let x = c.in_ok-exporting.exporting in
    let w = c.in_ok-write.write in
    let hands = subst (λ (i : ℕ). HandsAt l.place.machine (page_export_changes i x) l.written h h (Some w)) c.index-at.ensures.index (c.in_ok-write.ensures.hands h) in
    some-next l.place.machine (changes_of (rest_of l.place l.tdr l.gpa l.stream l.slot l.exporting l.told.items l.words)) l.written h h w
    (subst (λ (cs : List Change). HandsAt l.place.machine cs l.written h h (Some w)) (sym (ap changes_of c.in_ok-exporting.ensures.0)) hands)
