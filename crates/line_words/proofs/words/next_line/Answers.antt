use Rattle.std.proofs.Common.{◌+◌, arith, sym}
use Rattle.std.proofs.lemmas.List.{take_rest}
use Rattle.line_words.proofs.Pieces.{cut_some}
use Rattle.line_words.proofs.Printable.{bad_front}
use Rattle.line_words.proofs.words.next_line.Goals.{else-place-bytes-via-then-place-bytes+else-bytes-place-eq10, else-place-bytes-via-else-place-bytes}
use Rattle.line_words.proofs.words.next_line.Goals as goal

pub returns-clause-cut : goal.returns-clause-cut
returns-clause-cut c = rw (take_rest c.args.bytes.now (c.in_ok-end.end + 1)) (cut_some c.args.bytes.now c.in_ok-end.end (sym c.in_ok-end.ensures))

pub returns-clause-printable : goal.returns-clause-printable
returns-clause-printable c =
    let p = c.unprintable_place-place in
    sym
    (bad_front c.args.bytes.now p.result c.in_ok-end.end p.ensures.before p.ensures.here
    (λ inside.
    elim c.else-place-bytes.branch [
      | else-place-bytes-via-then-place-bytes+else-bytes-place-eq10 w ↦ grind (arith, w.if-bytes-place-eq10.false)
      | else-place-bytes-via-else-place-bytes w ↦ absurd (omega (arith, inside, w.if-place-bytes.false))
    ])
    (sym c.in_ok-end.ensures))
