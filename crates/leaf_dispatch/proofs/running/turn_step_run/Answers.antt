use Rattle.std.proofs.Common.{[], Option, refl, sym, subst, arith}
use Rattle.report_core.specs.declared.facts.Facts.{Facts}
use Rattle.td_words.specs.declared.machines.Machine.{Machine}
use Rattle.leaf_engine.specs.Turns.{Standing}
use Rattle.leaf_engine.specs.OwnLists.{running}
use Rattle.leaf_table.specs.Ends.{Ends, step_ends}
use Rattle.leaf_table.specs.Steps.{step_seen}
use Rattle.leaf_dispatch.specs.Running.{run_seen, facts_in_run, IsKept, RunTurned}
use Rattle.leaf_table.specs.Given.{given_in}
use Rattle.leaf_table.specs.Table.{step_task}
use Rattle.leaf_dispatch.proofs.Keeping.{can-turn-at, run-turned}
use Rattle.leaf_table.proofs.NoBundles.{step-answers}
use Rattle.leaf_dispatch.proofs.Making.{step-made, step-facts}
use Rattle.leaf_dispatch.proofs.running.turn_step_run.Goals as goal

pub turn_kept-step_made-requires : goal.turn_kept-step_made-requires
turn_kept-step_made-requires g c =
    can-turn-at _ _ (step_ends c.args.tdr c.args.line (step_seen c.args.step)) (running (step_task (given_in c.args.given) c.args.place c.args.tdr c.args.vp c.args.line (step_seen c.args.step)) (run_seen c.args.kept.now)) c.begin_step_where_none.new.kept c.requires.at c.begin_step_where_none.ensures

pub add_reported-requires : goal.add_reported-requires
add_reported-requires g c = record {
  room =
      let e : Ends = step_ends c.args.tdr c.args.line (step_seen c.args.step) in
      let task = step_task (given_in c.args.given) c.args.place c.args.tdr c.args.vp c.args.line (step_seen c.args.step) in
      let k = subst (λ (z : Machine). IsKept z e (running task (run_seen c.args.kept.now)) c.begin_step_where_none.new.kept) c.requires.at c.begin_step_where_none.ensures in
      let few = step-facts (g.B.Bench.did c.args.bench.now) c.turn_kept-step_made.new.bench _ e task (run_seen c.args.kept.now) c.begin_step_where_none.new.kept c.turn_kept-step_made.new.kept c.turn_kept-step_made.result
      (step-answers c.args.tdr c.args.line (step_seen c.args.step)) k c.turn_kept-step_made.ensures.turned in
      let had = c.requires.fact_room in
      omega (arith, few, had);
}

pub returns-clause-turned : goal.returns-clause-turned
returns-clause-turned g c =
    let e : Ends = step_ends c.args.tdr c.args.line (step_seen c.args.step) in
    let s : Standing = running (step_task (given_in c.args.given) c.args.place c.args.tdr c.args.vp c.args.line (step_seen c.args.step)) (run_seen c.args.kept.now) in
    let f : Option Facts = facts_in_run c.turn_kept-step_made.new.kept c.turn_kept-step_made.result.event in
    let k = subst (λ (z : Machine). IsKept z e s c.begin_step_where_none.new.kept) c.requires.at c.begin_step_where_none.ensures in
    let none = step-made (g.B.Bench.did c.args.bench.now) c.turn_kept-step_made.new.bench _ e s c.begin_step_where_none.new.kept c.turn_kept-step_made.new.kept c.turn_kept-step_made.result refl k c.turn_kept-step_made.ensures.turned in (
      f,
      c.add_reported.ensures,
      subst (λ (z : Machine). RunTurned (g.B.Bench.did c.args.bench.now) z e s c.turn_kept-step_made.new.bench c.leave_step.new.kept c.leave_step.new.turn [] f) (sym c.requires.at)
          (run-turned (g.B.Bench.did c.args.bench.now) c.turn_kept-step_made.new.bench _ e s c.begin_step_where_none.new.kept c.turn_kept-step_made.new.kept c.leave_step.new.kept c.leave_step.new.turn c.turn_kept-step_made.result [] f k c.turn_kept-step_made.ensures.turned c.leave_step.ensures.turn
          c.leave_step.ensures.act none refl c.leave_step.ensures.kept),
    )
