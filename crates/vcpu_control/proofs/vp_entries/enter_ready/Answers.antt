use Rattle.std.proofs.Common.{subst}
use Rattle.td_words.specs.declared.names.VcpuState.{VcpuState}
use Rattle.td_words.specs.declared.names.PageKind.TheVariants as kind
use Rattle.td_words.specs.declared.names.VcpuState.TheVariants as vcpu
use Rattle.td_words.specs.declared.refusals.Status.TheVariants.{PageMetadataIncorrect, VcpuStateIncorrect}
use Rattle.td_words.specs.Place as place
use Rattle.flat_core.specs.Conditions.{same_vp_state}
use Rattle.word_rules.specs.Rules.{Whole}
use Rattle.leaf_engine.specs.Trees.{Load, needs}
use Rattle.leaf_engine.specs.Decides.{Decides, ending}
use Rattle.leaf_parts.proofs.Parts.{passes}
use Rattle.vcpu_control.specs.Words.{says_page_of, vcpu_told}
use Rattle.vcpu_control.specs.EnterTrees.{enter_changes, enter_associated}
use Rattle.vcpu_control.proofs.vp_entries.enter_ready.Goals as goal

pub returns-clause-decides : goal.returns-clause-decides
returns-clause-decides c = λ most.
    let n = c.args.place.machine.pages in
    let r = ending (λ a. enter_changes a.page c.args.place.lp c.args.vp a.count) c.associate.result in
    let further = enter_associated n c.args.place.lp c.args.tdr c.args.tdcs c.args.vp most in
    let s = c.vcpu_told-state.result in
    let ready = passes n (same_vp_state s vcpu.Ready) (VcpuStateIncorrect s) further c.load-2.new.self.left.now r (rw c.is_ready.ensures at c.in_ok-check-2.ensures) (c.associate.ensures.decides most) in
    let told = subst (λ (x : VcpuState). Decides n (needs (same_vp_state x vcpu.Ready) (VcpuStateIncorrect x) further) c.load-2.new.self.left.now r) c.vcpu_told-state.ensures ready in
    let page = passes n (says_page_of c.args.tdr kind.Tdvpr c.in_ok-pamt.pamt) (PageMetadataIncorrect c.args.vp)
    (Load Whole (place.Word c.args.vp 1) (λ state. needs (same_vp_state (vcpu_told state) vcpu.Ready) (VcpuStateIncorrect (vcpu_told state)) further)) c.load.new.self.left.now r
    (rw c.says_page_of.ensures at c.in_ok-check.ensures) (rw c.in_ok-load.ensures told) in
    rw (c.in_ok-lock.ensures.1, c.in_ok-pamt.ensures) page
