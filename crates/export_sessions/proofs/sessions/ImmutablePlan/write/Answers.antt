use Rattle.std.proofs.Common.{ap, sym, subst, refl, List}
use Rattle.leaf_engine.specs.Changes.{Change}
use Rattle.leaf_engine.specs.Trees.{changes_of}
use Rattle.leaf_engine.specs.Decides.{HandsAt}
use Rattle.export_sessions.specs.SessionTrees.{export_tree, session_end}
use Rattle.export_sessions.proofs.Decided.{none-changed}
use Rattle.export_sessions.proofs.sessions.ImmutablePlan.write.Goals as goal

pub returns-in-Ok-clause-hands : goal.returns-in-Ok-clause-hands
returns-in-Ok-clause-hands c =
    let l = c.args.self.now in
    subst (λ (cs : List Change). HandsAt l.place.machine cs c.args.number c.args._hand.now c.args._hand.now c.write.result) (sym (ap changes_of (c.in-Ok.ensures.feeds (session_end l.slot)))) (c.write.ensures.hands c.args._hand.now)

pub returns-in-Err-clause-hands : goal.returns-in-Err-clause-hands
returns-in-Err-clause-hands c =
    let l = c.args.self.now in
    rw (none-changed l.place.machine.pages (export_tree l.place.machine l.tdr (session_end l.slot)) c.args.told.now _ (c.in-Err.ensures.goes (session_end l.slot))) (refl, refl)
