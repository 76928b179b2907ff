use Rattle.std.proofs.Common.{◌≡◌, ℕ, ◌+◌, ◌∙◌, List, [], ◌∷◌, sym, ap, add-zero, slice_index_or}
use Rattle.aes_block.specs.Aes.{cipher}
use Rattle.aes_block.specs.Planes.{lanes16}
use Rattle.aes_block.proofs.Sixteen.{below_eight}
use Rattle.gcm_seal.specs.Gcm.{counter_block}
use Rattle.gcm_seal.proofs.streams.stream.Goals as goal

pub returns : goal.returns
returns c k holds i below =
    let q : List (List ℕ) = c.counter_block-b0.result ∷ c.counter_block-b1.result ∷ c.counter_block-b2.result ∷ c.counter_block-b3.result ∷ c.counter_block-b4.result ∷ c.counter_block-b5.result ∷ c.counter_block-b6.result ∷ c.counter_block-b7.result ∷ [] in
    c.encrypt_eight.ensures k holds i below
    ∙ ap (cipher k) (below_eight (λ i. lanes16 (slice_index_or q i []) ≡ counter_block c.args.iv.now (c.args.count + i))
    (c.counter_block-b0.ensures ∙ ap (counter_block c.args.iv.now) (sym (add-zero c.args.count)))
    c.counter_block-b1.ensures c.counter_block-b2.ensures c.counter_block-b3.ensures c.counter_block-b4.ensures c.counter_block-b5.ensures c.counter_block-b6.ensures c.counter_block-b7.ensures i below)
