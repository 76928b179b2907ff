use Rattle.std.proofs.Common.{arith}
use Rattle.line_words.specs.Words.{pieces}
use Rattle.pair_runner.specs.Plans.{items_from}
use Rattle.pair_runner.proofs.Steps.{whole_more, whole_bad}
use Rattle.pair_runner.proofs.plans.read_lines.Goals as goal

pub returns-in_default-line_in : goal.returns-in_default-line_in
returns-in_default-line_in c =
    whole_bad c.args.modules c.loop-line.number c.loop-line.plan.items c.loop-line.rest.now c.in-Some.line.now c.in-Some.more.now (items_from c.args.modules 1 (pieces c.args.bytes.now)) c.in-Some.ensures.cut
    c.in_default-line_in.ensures c.loop-line.invariant.so_far

pub loop-line-preserved : goal.loop-line-preserved
loop-line-preserved c = record {
  so_far =
      whole_more c.args.modules c.loop-line.number c.loop-line.plan.items c.push.new.self.items c.loop-line.rest.now c.in-Some.line.now c.in-Some.more.now c.in-Some-line_in.item (items_from c.args.modules 1 (pieces c.args.bytes.now)) c.in-Some.ensures.cut
      c.in-Some-line_in.ensures c.in-Ok.ensures.items c.loop-line.invariant.so_far;
  few = omega (arith, c.in-Some.ensures.shorter, c.loop-line.invariant.few);
}
