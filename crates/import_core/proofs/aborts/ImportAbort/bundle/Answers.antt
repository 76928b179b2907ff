use Rattle.std.proofs.Common.{[], ◌∷◌, sym, ap}
use Rattle.flat_core.specs.World.{ClearHeader}
use Rattle.stream_parts.proofs.Unmade.{none-made}
use Rattle.import_core.specs.AbortTrees.{abort_end, import_abort_tree}
use Rattle.import_core.proofs.aborts.ImportAbort.bundle.Goals as goal

pub returns-in-Ok : goal.returns-in-Ok
returns-in-Ok c =
    let l = c.args.self.now in
    rw (c.in-Ok.ensures.feeds (abort_end l.slot)) (ap (λ (h : ClearHeader). record { slot = l.slot; header = h; payload = [] } ∷ []) c.abort_header.ensures)

pub returns-in-Err : goal.returns-in-Err
returns-in-Err c =
    let l = c.args.self.now in
    sym (none-made l.place.machine.pages (import_abort_tree l.place.machine l.tdr l.slot) c.args.told.now c.in-Err.field-0 (c.in-Err.ensures.goes (abort_end l.slot)))
