use Rattle.std.proofs.Common.{◌∙◌, ◌+◌, ◌≤◌, [], None, length, refl, sym, ap, subst}
use Rattle.std.specs.Prelude.{vec_capacity}
use Rattle.leaf_dispatch.specs.BundleRooms.{count_of}
use Rattle.leaf_dispatch.specs.NoteRooms.{run_room}
use Rattle.leaf_engine.specs.Guests.{Step}
use Rattle.leaf_engine.specs.OwnLists.{running}
use Rattle.leaf_table.specs.Ends.{step_reports, step_tries, step_ends}
use Rattle.leaf_table.specs.Steps.{step_seen}
use Rattle.leaf_dispatch.specs.StepRuns.{step_run_seen, IsStepRunOf}
use Rattle.leaf_table.specs.Given.{given_in}
use Rattle.leaf_table.specs.Table.{step_task}
use Rattle.leaf_dispatch.proofs.ShortRuns.{none-is}
use Rattle.leaf_dispatch.proofs.Replying.{act-fits, reply-fits, first-trying}
use Rattle.leaf_dispatch.proofs.turns.turn_guest.Goals as goal

pub turn_step-parity-requires-clause-under_way : goal.turn_step-parity-requires-clause-under_way
turn_step-parity-requires-clause-under_way g c = subst (λ (s : Step). IsStepRunOf c.args.place.machine (step_ends c.args.guest.now.tdr c.args.line s) c.args.kept.now) (sym (c.next_step-step.ensures.step None)) c.requires.under_way

pub turn_step-parity-requires-clause-alone : goal.turn_step-parity-requires-clause-alone
turn_step-parity-requires-clause-alone g c none = c.requires.alone (sym (ap step_tries (c.next_step-step.ensures.step None)) ∙ none)

pub cache_by-requires : goal.cache_by-requires
cache_by-requires g c =
    let s = step_seen c.next_step-step.result in
    act-fits (g.B.Bench.did c.args.bench.now) c.turn_step-parity.new.bench c.args.place.machine c.turn_step-parity.new.turn [] (step_ends c.args.guest.now.tdr c.args.line s)
    (running (step_task (given_in c.args.given) c.args.place c.args.guest.now.tdr c.args.guest.now.vp c.args.line s) (step_run_seen c.args.kept.now)) c.turn_step-parity.ensures.turned.2.0 c.turn_step-parity.new.turn.act refl

pub guest_then-left-requires-clause-fits : goal.guest_then-left-requires-clause-fits
guest_then-left-requires-clause-fits g c =
    let s = step_seen c.next_step-step.result in
    reply-fits (g.B.Bench.did c.args.bench.now) c.turn_step-parity.new.bench c.args.place.machine c.turn_step-parity.new.turn [] c.args.guest.now.tdr c.args.line s
    (running (step_task (given_in c.args.given) c.args.place c.args.guest.now.tdr c.args.guest.now.vp c.args.line s) (step_run_seen c.args.kept.now)) c.turn_step-parity.ensures.turned.2.0
    (first-trying (given_in c.args.given) c.args.place c.args.guest.now.tdr c.args.guest.now.vp c.args.line s (step_run_seen c.args.kept.now) (λ z. none-is (step_run_seen c.args.kept.now) (c.requires.alone (sym (ap step_tries (c.next_step-step.ensures.step None)) ∙ z)))) c.turn_step-parity.new.turn.reply refl

pub returns-clause-fits : goal.returns-clause-fits
returns-clause-fits g c =
    let s = step_seen c.next_step-step.result in
    reply-fits (g.B.Bench.did c.args.bench.now) c.turn_step-parity.new.bench c.args.place.machine c.turn_step-parity.new.turn [] c.args.guest.now.tdr c.args.line s
    (running (step_task (given_in c.args.given) c.args.place c.args.guest.now.tdr c.args.guest.now.vp c.args.line s) (step_run_seen c.args.kept.now)) c.turn_step-parity.ensures.turned.2.0
    (first-trying (given_in c.args.given) c.args.place c.args.guest.now.tdr c.args.guest.now.vp c.args.line s (step_run_seen c.args.kept.now) (λ z. none-is (step_run_seen c.args.kept.now) (c.requires.alone (sym (ap step_tries (c.next_step-step.ensures.step None)) ∙ z)))) c.turn_step-parity.new.turn.reply refl

pub returns-clause-cached : goal.returns-clause-cached
returns-clause-cached g c = c.cache_by.ensures c.args.line

pub turn_step-parity-requires-clause-fact_room : goal.turn_step-parity-requires-clause-fact_room
turn_step-parity-requires-clause-fact_room g c =
    subst (λ (s : Step). length c.args.reports.now.items + run_room (count_of (step_reports c.args.line s)) (step_run_seen c.args.kept.now) ≤ vec_capacity c.args.reports.now) (sym (c.next_step-step.ensures.step None)) c.requires.fact_room
