use Rattle.std.proofs.Common.{◌≡◌, ℕ, ◌/◌, ◌∙◌, ap, ap₂, sym, refl, arith, add-one, length, bit_xor}
use Rattle.gcm_seal.specs.Gcm.{absorbed, mul}
use Rattle.gcm_seal.proofs.hashes.absorb.Goals as goal

pub each-init : goal.each-init
unfolding absorbed
each-init c h holds = refl

pub each-preserved : goal.each-preserved
unfolding absorbed
each-preserved c h holds =
    c.product-y.ensures h holds ∙ ap (λ (x : ℕ). mul x h) (ap₂ bit_xor (c.each.invariant h holds) c.load.ensures)
    ∙ ap (absorbed h c.args.start c.args.text.now) (sym (add-one c.each.i))

pub returns : goal.returns
returns c h holds =
    let all : c.each.i ≡ length c.args.text.now / 16 = omega arith in
    c.each.invariant h holds ∙ ap (absorbed h c.args.start c.args.text.now) all
