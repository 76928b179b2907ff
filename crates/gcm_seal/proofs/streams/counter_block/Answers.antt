use Rattle.std.proofs.Common.{◌≡◌, ℕ, ◌%◌, ◌^◌, ◌<◌, ◌∙◌, List, [], ◌∷◌, ◌++◌, ap, arith, slice_index}
use Rattle.std.specs.Int.{to_be_bytes, w32}
use Rattle.gcm_seal.proofs.Mixing.{twelve}
use Rattle.gcm_seal.proofs.streams.counter_block.Goals as goal

pub returns : goal.returns
returns c =
    let small : c.args.count < 2 ^ 32 = c.ranges.count.fits in
    let same : c.args.count ≡ c.args.count % 2 ^ 32 = omega arith in
    let digits = λ (l : List ℕ). c.args.iv.now ++ (slice_index l 0 ∷ slice_index l 1 ∷ slice_index l 2 ∷ slice_index l 3 ∷ []) in
    twelve c.args.iv.now _ c.told-iv ∙ ap digits c.to_be_bytes.ensures ∙ ap (λ n. c.args.iv.now ++ to_be_bytes w32 n) same
