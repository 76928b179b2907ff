use Rattle.std.proofs.Common.{◌≡◌, ℕ, suc, ◌/◌, ◌%◌, ◌≢◌, ◌∙◌, length, ap, ap₂, arith, bit_xor}
use Rattle.gcm_seal.specs.Gcm.{absorbed, blocks, mul}
use Rattle.gcm_seal.proofs.hashes.absorb_all.Goals as goal

pub returns : goal.returns
unfolding absorbed
returns c h holds =
    let n : ℕ = length c.args.text.now / 16 in
    let some : length c.args.text.now % 16 ≢ 0 = c.if-text-eq0.false in
    let all : suc n ≡ blocks c.args.text.now = omega arith in
    c.product.ensures h holds ∙ ap (λ (x : ℕ). mul x h) (ap₂ bit_xor (c.absorb-y.ensures h holds) c.load_last-last.ensures)
    ∙ ap (absorbed h c.args.start c.args.text.now) all
