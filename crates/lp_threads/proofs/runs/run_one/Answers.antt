use Rattle.std.proofs.Common.{refl, sym, ◌∙◌}
use Rattle.lp_threads.proofs.Turning.{turned-more}
use Rattle.lp_threads.proofs.runs.run_one.Goals as goal

pub loop-events-preserved : goal.loop-events-preserved
loop-events-preserved g c =
    let t = c.in-Moved.ensures.turned.0 in
    record {
      machine = c.turn.ensures.same.1 ∙ (c.loop-events.invariant.machine ∙ sym c.turn.ensures.same.0);
      turned = turned-more g.P.Processor.moves c.args.lane.now c.loop-events.lane _ t.0 _ c.loop-events.invariant.turned refl t.1 t.2;
    }
