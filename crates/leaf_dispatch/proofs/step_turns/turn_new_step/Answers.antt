use Rattle.std.proofs.Common.{◌+◌, ◌≤◌, None, length, ap, refl, sym, subst}
use Rattle.std.specs.Prelude.{vec_capacity}
use Rattle.leaf_dispatch.specs.BundleRooms.{count_of}
use Rattle.td_words.specs.declared.replies.Reply.TheVariants.{Done}
use Rattle.td_words.specs.declared.replies.Value.TheVariants.{Number}
use Rattle.leaf_engine.specs.Guests.{Step, Accesses, Loads}
use Rattle.leaf_engine.specs.OwnLists.{running}
use Rattle.leaf_table.specs.Ends.{step_reports, step_ends}
use Rattle.leaf_table.specs.Given.{given_in}
use Rattle.leaf_table.specs.Steps.{step_seen}
use Rattle.leaf_table.specs.Table.{step_task}
use Rattle.leaf_dispatch.specs.StepRuns.{StepTurned}
use Rattle.leaf_dispatch.specs.Exits.{IsCounted}
use Rattle.leaf_dispatch.proofs.AtOnce.{step-once}
use Rattle.leaf_dispatch.proofs.Counting.{exit-counted}
use Rattle.leaf_dispatch.proofs.Making.{none-reported}
use Rattle.leaf_dispatch.proofs.step_turns.turn_new_step.Goals as goal

pub returns-in-Accesses-clause-turned : goal.returns-in-Accesses-clause-turned
returns-in-Accesses-clause-turned g c =
    let turned =
    step-once (g.B.Bench.did c.args.bench.now) (given_in c.args.given) c.args.place _ c.args.tdr c.args.vp c.args.line (step_seen c.args.step) (Accesses c.in-Accesses.access c.in-Accesses.register c.in-Accesses.gpa c.in-Accesses.page) c.access_private-word.new.bench (Done (Number c.access_private-word.result)) c.args.kept.now c.moved_at_once.new.turn
    refl (ap step_seen c.in-Accesses.is) refl (c.access_private-word.ensures.made c.args.line) c.requires.none c.moved_at_once.ensures in
    (None, none-reported c.args.reports.now, (turned, subst (λ (z : Step). IsCounted z 0 turned.turned.0) (sym (ap step_seen c.in-Accesses.is)) tt))

pub returns-in-Operates-clause-turned : goal.returns-in-Operates-clause-turned
returns-in-Operates-clause-turned g c =
    let turned =
    subst
    (λ (z : Step). StepTurned (g.B.Bench.did c.args.bench.now) c.args.place.machine (step_ends c.args.tdr c.args.line z) (running (step_task (given_in c.args.given) c.args.place c.args.tdr c.args.vp c.args.line z) None) c.turn_new_operation.new.bench c.turn_new_operation.new.kept
    c.turn_new_operation.new.turn c.turn_new_operation.ensures.turned.0)
    (sym (ap step_seen c.in-Operates.is)) c.turn_new_operation.ensures.turned.2 in
    (c.turn_new_operation.ensures.turned.0, c.turn_new_operation.ensures.turned.1, (turned, subst (λ (z : Step). IsCounted z 0 turned.turned.0) (sym (ap step_seen c.in-Operates.is)) tt))

pub returns-in-Loads-clause-turned : goal.returns-in-Loads-clause-turned
returns-in-Loads-clause-turned g c =
    let turned =
    step-once (g.B.Bench.did c.args.bench.now) (given_in c.args.given) c.args.place _ c.args.tdr c.args.vp c.args.line (step_seen c.args.step) (Loads c.in-Loads.access c.in-Loads.gpa c.in-Loads.level c.in-Loads.page) c.load_walked-rights.new.bench (Done (Number c.load_walked-rights.result)) c.args.kept.now c.moved_at_once-in-Loads.new.turn
    refl (ap step_seen c.in-Loads.is) refl (c.load_walked-rights.ensures.made c.args.tdr c.in-Loads.access) c.requires.none c.moved_at_once-in-Loads.ensures in
    (None, none-reported c.args.reports.now, (turned, subst (λ (z : Step). IsCounted z 0 turned.turned.0) (sym (ap step_seen c.in-Loads.is)) tt))

pub returns-in-Leaves-clause-turned : goal.returns-in-Leaves-clause-turned
returns-in-Leaves-clause-turned g c =
    let counted =
    exit-counted (g.B.Bench.did c.args.bench.now) (given_in c.args.given) c.args.place c.args.tdr c.args.vp c.args.line (step_seen c.args.step) c.in-Leaves.outcome c.leave_guest-parity.new.bench c.args.kept.now c.left_at_once.new.turn c.leave_guest-parity.result
    (ap step_seen c.in-Leaves.is) c.leave_guest-parity.ensures.left c.requires.none c.left_at_once.ensures in
    (None, none-reported c.args.reports.now, counted)

pub turn_new_operation-requires-clause-fact_room : goal.turn_new_operation-requires-clause-fact_room
turn_new_operation-requires-clause-fact_room g c =
    subst (λ (s : Step). length c.args.reports.now.items + count_of (step_reports c.args.line s) ≤ vec_capacity c.args.reports.now) (ap step_seen c.in-Operates.is) c.requires.fact_room
