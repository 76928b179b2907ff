use Rattle.std.proofs.Common.{ℕ, not, Option, subst}
use Rattle.td_words.specs.declared.refusals.Status.TheVariants.{VcpuAssociated}
use Rattle.flat_core.specs.Conditions.{is_elsewhere, lp_shown}
use Rattle.leaf_engine.specs.Trees.{needs}
use Rattle.leaf_engine.specs.Decides.{Decides, ending}
use Rattle.leaf_parts.proofs.Parts.{passes}
use Rattle.vcpu_control.specs.EnterTrees.{enter_changes, enter_epoch}
use Rattle.vcpu_control.proofs.vp_entries.associate.Goals as goal

pub returns-clause-decides : goal.returns-clause-decides
returns-clause-decides c = λ most.
    let n = c.args.place.machine.pages in
    let r = ending (λ a. enter_changes a.page c.args.place.lp c.args.vp a.count) c.begin_guest.result in
    let further = λ (o : Option ℕ). enter_epoch n c.args.place.lp c.args.tdr c.args.tdcs c.args.vp most o in
    let o = c.lp_told-associated.result in
    let here = passes n (not (is_elsewhere c.args.place.lp o)) (VcpuAssociated (lp_shown o)) (further o) c.load.new.self.left.now r (rw c.is_elsewhere.ensures at c.in_ok-check.ensures) (c.begin_guest.ensures.decides most) in
    rw (c.in_ok-load.ensures) (subst (λ (p : Option ℕ). Decides n (needs (not (is_elsewhere c.args.place.lp p)) (VcpuAssociated (lp_shown p)) (further p)) c.load.new.self.left.now r) c.lp_told-associated.ensures here)
