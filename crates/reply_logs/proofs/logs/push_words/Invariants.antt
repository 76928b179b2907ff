use Rattle.std.proofs.Common.{◌≡◌, ◌++◌, length}
use Rattle.line_words.specs.Lines.{words_text}
use Rattle.line_words.specs.Words.{words}
use Rattle.reply_logs.proofs.logs.push_words.Given as goal

-- the words that are left go on behind the reply so far
abbrev pub invariant-loop-word : goal.invariant-loop-word
invariant-loop-word l = l.reply.items ++ words_text (words l.rest) ≡ l.fn.reply.items ++ words_text (words l.text)

abbrev pub decreases-loop-word : goal.decreases-loop-word
decreases-loop-word l = length l.rest
