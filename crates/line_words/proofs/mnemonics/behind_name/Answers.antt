use Rattle.std.proofs.Common.{arith}
use Rattle.line_words.proofs.Names.{begins}
use Rattle.line_words.proofs.mnemonics.behind_name.Goals.{else-end-text-via-then-end-text+then-begins_with+else-text-end-eq32, else-end-text-via-then-end-text+else-begins_with, else-end-text-via-else-end-text}
use Rattle.line_words.proofs.mnemonics.behind_name.Goals as goal

pub returns-else-end-text-clause-none : goal.returns-else-end-text-clause-none
returns-else-end-text-clause-none c h rest is =
    let b = begins c.args.text.now c.args.name.now rest is in
    elim c.else-end-text.branch [
      | else-end-text-via-then-end-text+then-begins_with+else-text-end-eq32 w ↦ grind (arith, b.space, w.if-text-end-eq32.false)
      | else-end-text-via-then-end-text+else-begins_with w ↦ grind (arith, b.front, w.begins_with.ensures, w.if-begins_with.false)
      | else-end-text-via-else-end-text w ↦ absurd (omega (arith, b.below, w.if-end-text.false))
    ]
