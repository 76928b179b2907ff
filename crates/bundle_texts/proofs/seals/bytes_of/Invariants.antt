use Rattle.std.proofs.Common.{◌≡◌, take}
use Rattle.flat_core.specs.Digests.{digest_bytes as word_bytes}
use Rattle.bundle_texts.proofs.seals.bytes_of.Given as goal

abbrev pub invariant-loop-word : goal.invariant-loop-word
invariant-loop-word l = l.bytes.items ≡ word_bytes (take l.word-index l.words)
