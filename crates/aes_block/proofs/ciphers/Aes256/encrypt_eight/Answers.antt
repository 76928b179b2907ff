use Rattle.std.proofs.Common.{◌≡◌, ℕ, ◌+◌, ◌∙◌, List, [], ap, ap₂, sym, arith, add-one, slice_index_or}
use Rattle.aes_block.specs.Aes.{cipher, rounds, schedule, add_round_key, mix_columns, shift_rows, sub_bytes}
use Rattle.aes_block.specs.Planes.{HasKey, lanes16}
use Rattle.aes_block.proofs.Steps.{added}
use Rattle.aes_block.proofs.ciphers.Aes256.encrypt_eight.Goals as goal

pub loop-r-init : goal.loop-r-init
unfolding rounds HasKey
loop-r-init c key holds i k =
    added c.to_planes-turned.result _ c.add-q.result i (λ p h. c.add-q.ensures p i h)
    ∙ ap₂ add_round_key (c.to_planes-turned.ensures i k) (holds 0 i _ (omega arith) k)

pub loop-r-preserved : goal.loop-r-preserved
unfolding rounds HasKey
loop-r-preserved c key holds i k =
    c.round-q.ensures i k
    ∙ ap₂ (λ (s t : List ℕ). add_round_key (mix_columns (shift_rows (sub_bytes s))) t) (c.loop-r.invariant key holds i k) (holds (c.loop-r.r + 1) i _ (omega arith) k)
    ∙ ap (rounds (schedule key 52) (lanes16 (slice_index_or c.args.blocks i []))) (sym (add-one c.loop-r.r))

pub returns : goal.returns
unfolding cipher HasKey
returns c key holds i k =
    let all : c.loop-r.r ≡ 13 = omega arith in
    c.to_blocks.ensures i k ∙ c.last_round-last.ensures i k
    ∙ ap₂ (λ (s t : List ℕ). add_round_key (shift_rows (sub_bytes s)) t)
    (c.loop-r.invariant key holds i k ∙ ap (rounds (schedule key 52) (lanes16 (slice_index_or c.args.blocks i []))) all) (holds 14 i _ (omega arith) k)
