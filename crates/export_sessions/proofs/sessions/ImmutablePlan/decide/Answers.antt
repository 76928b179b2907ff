use Rattle.std.proofs.Common.{ap, refl}
use Rattle.leaf_engine.specs.Trees.{changes_of}
use Rattle.leaf_parts.proofs.Parts.{exit}
use Rattle.export_sessions.specs.SessionTrees.{session_end}
use Rattle.export_sessions.proofs.sessions.ImmutablePlan.decide.Goals as goal

pub returns-in_err-to_export-clause-decides : goal.returns-in_err-to_export-clause-decides
returns-in_err-to_export-clause-decides c =
    rw (exit c.from_residual.result c.in_err-to_export.field-0.0 _ c.from_residual.ensures.1 (λ y h. h)) (c.in_err-to_export.ensures.goes (session_end c.args.self.now.slot))

pub returns-clause-decides : goal.returns-clause-decides
returns-clause-decides c =
    c.in_ok-to_export.ensures.goes (session_end c.args.self.now.slot) _ (rw c.done.ensures refl, ap changes_of (c.in_ok-to_export.ensures.feeds (session_end c.args.self.now.slot)))
