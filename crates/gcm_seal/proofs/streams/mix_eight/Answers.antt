use Rattle.std.proofs.Common.{ℕ, ◌+◌, ◌*◌, [], sym, subst, arith, add-zero, lit<, slice_index_or}
use Rattle.gcm_seal.specs.Tables.{IsMixedTo}
use Rattle.gcm_seal.proofs.Mixing.{block_more}
use Rattle.gcm_seal.proofs.streams.mix_eight.Goals as goal

pub returns : goal.returns
returns c k iv from pads done =
    let start : IsMixedTo k iv from c.args.text.now (8 * c.args.turn + 0) = subst (λ (n : ℕ). IsMixedTo k iv from c.args.text.now n) (sym (add-zero (8 * c.args.turn))) done in
    let s0 = block_more k iv from c.args.text.now c.mix_block.new.text (slice_index_or c.args.pad 0 []) (8 * c.args.turn + 0) (8 * c.args.turn + 1) (128 * c.args.turn) (omega arith) (omega arith) (pads 0 (lit< tt)) (omega arith) c.mix_block.ensures.before c.mix_block.ensures.mixed c.mix_block.ensures.after start in
    let s1 = block_more k iv from c.mix_block.new.text c.mix_block-2.new.text (slice_index_or c.args.pad 1 []) (8 * c.args.turn + 1) (8 * c.args.turn + 2) (128 * c.args.turn + 16) (omega arith) (omega arith) (pads 1 (lit< tt)) (omega arith) c.mix_block-2.ensures.before c.mix_block-2.ensures.mixed c.mix_block-2.ensures.after s0 in
    let s2 = block_more k iv from c.mix_block-2.new.text c.mix_block-3.new.text (slice_index_or c.args.pad 2 []) (8 * c.args.turn + 2) (8 * c.args.turn + 3) (128 * c.args.turn + 32) (omega arith) (omega arith) (pads 2 (lit< tt)) (omega arith) c.mix_block-3.ensures.before c.mix_block-3.ensures.mixed c.mix_block-3.ensures.after s1 in
    let s3 = block_more k iv from c.mix_block-3.new.text c.mix_block-4.new.text (slice_index_or c.args.pad 3 []) (8 * c.args.turn + 3) (8 * c.args.turn + 4) (128 * c.args.turn + 48) (omega arith) (omega arith) (pads 3 (lit< tt)) (omega arith) c.mix_block-4.ensures.before c.mix_block-4.ensures.mixed c.mix_block-4.ensures.after s2 in
    let s4 = block_more k iv from c.mix_block-4.new.text c.mix_block-5.new.text (slice_index_or c.args.pad 4 []) (8 * c.args.turn + 4) (8 * c.args.turn + 5) (128 * c.args.turn + 64) (omega arith) (omega arith) (pads 4 (lit< tt)) (omega arith) c.mix_block-5.ensures.before c.mix_block-5.ensures.mixed c.mix_block-5.ensures.after s3 in
    let s5 = block_more k iv from c.mix_block-5.new.text c.mix_block-6.new.text (slice_index_or c.args.pad 5 []) (8 * c.args.turn + 5) (8 * c.args.turn + 6) (128 * c.args.turn + 80) (omega arith) (omega arith) (pads 5 (lit< tt)) (omega arith) c.mix_block-6.ensures.before c.mix_block-6.ensures.mixed c.mix_block-6.ensures.after s4 in
    let s6 = block_more k iv from c.mix_block-6.new.text c.mix_block-7.new.text (slice_index_or c.args.pad 6 []) (8 * c.args.turn + 6) (8 * c.args.turn + 7) (128 * c.args.turn + 96) (omega arith) (omega arith) (pads 6 (lit< tt)) (omega arith) c.mix_block-7.ensures.before c.mix_block-7.ensures.mixed c.mix_block-7.ensures.after s5 in
    let s7 = block_more k iv from c.mix_block-7.new.text c.mix_block-8.new.text (slice_index_or c.args.pad 7 []) (8 * c.args.turn + 7) (8 * (c.args.turn + 1)) (128 * c.args.turn + 112) (omega arith) (omega arith) (pads 7 (lit< tt)) (omega arith) c.mix_block-8.ensures.before c.mix_block-8.ensures.mixed c.mix_block-8.ensures.after s6 in
    s7
