use Rattle.std.proofs.Common.{take}
use Rattle.std.specs.Fmt.{HasWritten, IsPlainFormatter}
use Rattle.td_words.specs.ReplyText.{digest_text}
use Rattle.td_words.proofs.reply_texts.HexadecimalDisplay.fmt.Given as goal

-- the bytes so far were written
abbrev pub invariant-loop-byte : goal.invariant-loop-byte
invariant-loop-byte g l =
    IsPlainFormatter l.initial.f → HasWritten g.W.Write.write_str_gives l.initial.f (digest_text (take l.byte-index l.self.0.now)) l.f
