use Rattle.std.proofs.Common.{ap, sym}
use Rattle.leaf_engine.specs.Trees.{Tree, answer_of}
use Rattle.export_sessions.specs.SessionTrees.{export_tree, session_end}
use Rattle.stream_parts.proofs.Unmade.{none-made}
use Rattle.export_sessions.proofs.sessions.Immutable.bundle.Goals as goal

pub returns-in-Ok : goal.returns-in-Ok
returns-in-Ok c =
    let l = c.args.self.now in
    rw c.header.ensures (sym (ap (λ (t : Tree). (answer_of t).bundles) (c.in-Ok.ensures.feeds (session_end l.slot))))

pub returns-in-Err : goal.returns-in-Err
returns-in-Err c =
    let l = c.args.self.now in
    sym (none-made l.place.machine.pages (export_tree l.place.machine l.tdr (session_end l.slot)) c.args.told.now _ (c.in-Err.ensures.goes (session_end l.slot)))
