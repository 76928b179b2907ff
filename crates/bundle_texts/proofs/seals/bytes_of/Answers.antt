use Rattle.bundle_texts.proofs.Words.{words_more}
use Rattle.bundle_texts.proofs.seals.bytes_of.Goals as goal

pub loop-word-preserved : goal.loop-word-preserved
loop-word-preserved c =
    words_more c.loop-word.bytes.items _ c.to_le_bytes.result c.args.words.now c.loop-word.word-index c.loop-word-test.true
    c.in_ok-extend_from_slice.ensures.items c.to_le_bytes.ensures c.loop-word.invariant
