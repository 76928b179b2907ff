use Rattle.std.proofs.Common.{[], map, arith, sym, ◌∙◌}
use Rattle.std.proofs.lemmas.Result.{err_from_is_err_and}
use Rattle.line_words.specs.Words.{pieces}
use Rattle.reply_logs.proofs.Steps.{good_line, bad_line}
use Rattle.reply_logs.specs.Logs.{line_seen, read_from}
use Rattle.reply_logs.proofs.logs.read_lines.Goals as goal

pub returns-in_err-take_line : goal.returns-in_err-take_line
returns-in_err-take_line c =
    let calls = map (λ list. list.items) c.args.calls.now in
    let p = err_from_is_err_and c.from_residual.result c.from_residual.ensures.1 in
    rw (p.1, p.2)
    (bad_line calls (map line_seen c.loop-line.log.items) (map line_seen c.take_line.new.log.items) c.loop-line.number c.loop-line.rest.now c.in-Some.line.bytes.now c.in-Some.line.rest.now c.in_err-take_line.field-0.0
    (read_from calls [] 1 (pieces c.args.bytes.now)) c.in-Some.ensures.cut c.loop-line.invariant.so_far c.in_err-take_line.ensures)

pub loop-line-preserved : goal.loop-line-preserved
loop-line-preserved c = record {
  so_far =
      sym (good_line (map (λ list. list.items) c.args.calls.now) (map line_seen c.loop-line.log.items) (map line_seen c.take_line.new.log.items) c.loop-line.number c.loop-line.rest.now c.in-Some.line.bytes.now c.in-Some.line.rest.now c.in-Some.ensures.cut c.in_ok-take_line.ensures)
      ∙ c.loop-line.invariant.so_far;
  few = omega (arith, c.in-Some.ensures.shorter);
}
