use Rattle.std.proofs.Common.{◌≡◌, ℕ, ◌<◌, ◌≢◌, ◌∙◌, List, ap, refl, arith, get_or-set_same, get_or-set_other, below_more, slice_index_or, slice_set}
use Rattle.std.proofs.Math.ListN.{length-set}
use Rattle.aes_block.specs.declared.planes.Planes.{Planes}
use Rattle.aes_block.specs.Aes.{schedule, round_key}
use Rattle.aes_block.specs.Planes.{HasKey, block_at, lanes16}
use Rattle.aes_block.proofs.ciphers.Aes256.new.Goals as goal

pub loop-r-init : goal.loop-r-init
loop-r-init c = (refl, λ r i none h k. absurd (omega arith))

pub loop-r-preserved : goal.loop-r-preserved
loop-r-preserved c =
    let long = c.loop-r.invariant.0 in
    let x : Planes = c.key_planes.result in
    let here : (i : ℕ) → i < 8 → block_at x i ≡ round_key (schedule c.args.key.now 52) c.loop-r.r =
    λ i k. c.key_planes.ensures i k ∙ ap lanes16 c.round_key-bytes.ensures ∙ ap (λ (ws : List (List ℕ)). round_key ws c.loop-r.r) c.expand-w.ensures in (
      length-set c.loop-r.keys c.loop-r.r x ∙ long,
      λ r i none h k. below_more (λ r. block_at (slice_index_or (slice_set c.loop-r.keys c.loop-r.r x) r none) i ≡ round_key (schedule c.args.key.now 52) r) c.loop-r.r
          (λ r h. let ne : r ≢ c.loop-r.r = omega arith in ap (λ (q : Planes). block_at q i) (get_or-set_other c.loop-r.keys c.loop-r.r r x none ne) ∙ c.loop-r.invariant.1 r i none h k)
          (ap (λ (q : Planes). block_at q i) (get_or-set_same c.loop-r.keys c.loop-r.r x none (omega arith)) ∙ here i k) r h,
    )

pub returns : goal.returns
unfolding HasKey
returns c = λ r i none h k. c.loop-r.invariant.1 r i none (omega arith) k
