use Rattle.std.proofs.Common.{Option, None, sym, subst}
use Rattle.leaf_engine.specs.OwnLists.{running}
use Rattle.leaf_engine.specs.Turns.{Standing}
use Rattle.guest_turns.specs.SharedTurns.{standing_of, IsIn}
use Rattle.leaf_table.specs.Ends.{step_ends}
use Rattle.leaf_table.specs.Given.{given_in}
use Rattle.leaf_table.specs.Steps.{step_seen}
use Rattle.leaf_table.specs.Table.{step_task}
use Rattle.leaf_dispatch.specs.Exits.{StepCounted}
use Rattle.leaf_dispatch.proofs.Counting.{uncounted}
use Rattle.leaf_dispatch.proofs.Making.{none-reported}
use Rattle.leaf_dispatch.proofs.ShortRuns.{is-in, short-on, short-is, other-is, nothing-kept}
use Rattle.leaf_dispatch.proofs.step_turns.turn_step.Goals as goal

pub turn_shared-requires : goal.turn_shared-requires
turn_shared-requires g c =
    let k = c.args.kept.now in is-in standing_of IsIn c.args.place.machine _ (step_ends c.args.tdr c.args.line (step_seen c.args.step)) k.shared k.other _ c.requires.at c.in-Some.is c.requires.under_way

pub returns-in-Some-clause-turned : goal.returns-in-Some-clause-turned
returns-in-Some-clause-turned g c =
    let s = step_seen c.args.step in
    let k = c.args.kept.now in
    let turned =
    short-on standing_of IsIn (g.B.Bench.did c.args.bench.now) c.args.place.machine _ (step_ends c.args.tdr c.args.line s) (step_task (given_in c.args.given) c.args.place c.args.tdr c.args.vp c.args.line s) k.shared k.other c.turn_shared.new.bench c.turn_shared.new.kept c.turn_shared.new.turn
    c.requires.at c.requires.under_way c.turn_shared.ensures.turned in
    (None, none-reported c.args.reports.now, (turned, uncounted s k turned.turned.0 c.requires.alone (λ none. short-is standing_of IsIn k.shared k.other _ c.in-Some.is none)))

pub returns-in-None-other-clause-turned : goal.returns-in-None-other-clause-turned
returns-in-None-other-clause-turned g c =
    let s = step_seen c.args.step in
    let none = nothing-kept standing_of IsIn c.args.kept.now.shared c.args.kept.now.other c.in-None.is c.in-None-other.is in (
      c.turn_new_step.ensures.turned.0,
      c.turn_new_step.ensures.turned.1,
      subst
          (λ (k : Option Standing). StepCounted (g.B.Bench.did c.args.bench.now) c.args.place.machine (step_ends c.args.tdr c.args.line s) (running (step_task (given_in c.args.given) c.args.place c.args.tdr c.args.vp c.args.line s) k) c.turn_new_step.new.bench c.turn_new_step.new.kept c.turn_new_step.new.turn s
          c.turn_new_step.result c.turn_new_step.ensures.turned.0)
          (sym none) c.turn_new_step.ensures.turned.2,
    )

pub returns-in-Some-other-clause-turned : goal.returns-in-Some-other-clause-turned
returns-in-Some-other-clause-turned g c =
    let k = c.args.kept.now in
    let turned = c.turn_other_step.ensures.turned.2 in
    (c.turn_other_step.ensures.turned.0, c.turn_other_step.ensures.turned.1, (turned, uncounted (step_seen c.args.step) k turned.turned.0 c.requires.alone (λ none. other-is standing_of IsIn k.shared k.other _ c.in-None.is c.in-Some-other.is none)))
