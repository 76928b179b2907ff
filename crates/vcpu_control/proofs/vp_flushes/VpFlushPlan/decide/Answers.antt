use Rattle.std.proofs.Common.{[], ◌∷◌, Err}
use Rattle.td_words.specs.declared.names.LifeState.TheVariants.{KeysConfigured}
use Rattle.td_words.specs.declared.names.Mode.TheVariants.{Shared}
use Rattle.leaf_parts.specs.Arguments.{two_pages}
use Rattle.leaf_parts.specs.Heads.{root_tree, life_tree}
use Rattle.leaf_parts.proofs.Arguments.{arguments-hold}
use Rattle.leaf_parts.proofs.Parts.{exit}
use Rattle.vcpu_control.specs.FlushTrees.{flush_rest}
use Rattle.vcpu_control.proofs.vp_flushes.VpFlushPlan.decide.Goals as goal

pub returns-in_err-root-clause-decides : goal.returns-in_err-root-clause-decides
returns-in_err-root-clause-decides c =
    let l = c.args.self.now in
    let rest = life_tree l.tdr (KeysConfigured ∷ []) (flush_rest l.place.lp l.tdr l.vp) in
    let e = c.in_err-root.field-0.0 in
    rw (exit c.from_residual-in_err-root.result e _ c.from_residual-in_err-root.ensures.1 (λ y h. h))
    (arguments-hold l.place.machine.pages (two_pages l.place.machine l.tdr l.vp) (rw c.from.ensures at c.in_ok-check.ensures, (rw c.from-2.ensures at c.in_ok-check-2.ensures, (c.in_ok-check-3.ensures, tt)))
    (root_tree l.tdr Shared rest) c.args.told.left.now (Err e) (c.in_err-root.ensures.goes (λ u. rest)))

pub returns-in_err-life_in-clause-decides : goal.returns-in_err-life_in-clause-decides
returns-in_err-life_in-clause-decides c =
    let l = c.args.self.now in
    let rest = life_tree l.tdr (KeysConfigured ∷ []) (flush_rest l.place.lp l.tdr l.vp) in
    let e = c.in_err-life_in.field-0.0 in
    rw (exit c.from_residual-in_err-life_in.result e _ c.from_residual-in_err-life_in.ensures.1 (λ y h. h))
    (arguments-hold l.place.machine.pages (two_pages l.place.machine l.tdr l.vp) (rw c.from.ensures at c.in_ok-check.ensures, (rw c.from-2.ensures at c.in_ok-check-2.ensures, (c.in_ok-check-3.ensures, tt)))
    (root_tree l.tdr Shared rest) c.args.told.left.now (Err e)
    (c.in_ok-root.ensures.goes (λ u. rest) (Err e) (c.in_err-life_in.ensures.goes (λ u. flush_rest l.place.lp l.tdr l.vp))))

pub returns-clause-decides : goal.returns-clause-decides
returns-clause-decides c =
    let l = c.args.self.now in
    let rest = life_tree l.tdr (KeysConfigured ∷ []) (flush_rest l.place.lp l.tdr l.vp) in
    arguments-hold l.place.machine.pages (two_pages l.place.machine l.tdr l.vp) (rw c.from.ensures at c.in_ok-check.ensures, (rw c.from-2.ensures at c.in_ok-check-2.ensures, (c.in_ok-check-3.ensures, tt)))
    (root_tree l.tdr Shared rest) c.args.told.left.now _
    (c.in_ok-root.ensures.goes (λ u. rest) _ (c.in_ok-life_in.ensures.goes (λ u. flush_rest l.place.lp l.tdr l.vp) _ c.flush.ensures.decides))
