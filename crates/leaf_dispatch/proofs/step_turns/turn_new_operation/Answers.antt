use Rattle.std.proofs.Common.{None, ap, refl}
use Rattle.td_words.specs.declared.names.Access.TheVariants.{Read, Write}
use Rattle.td_words.specs.declared.replies.Reply.TheVariants.{Done}
use Rattle.td_words.specs.declared.replies.Value.TheVariants.{Nothing}
use Rattle.td_words.specs.declared.calls.GuestOp.TheVariants as op
use Rattle.leaf_engine.specs.Guests.{Operates}
use Rattle.leaf_table.specs.Given.{given_in}
use Rattle.leaf_dispatch.proofs.AtOnce.{step-once, shared-begins}
use Rattle.leaf_dispatch.proofs.Making.{none-reported}
use Rattle.leaf_dispatch.proofs.step_turns.turn_new_operation.Goals as goal

pub returns-in-Set-clause-turned : goal.returns-in-Set-clause-turned
returns-in-Set-clause-turned g c =
    let x =
    step-once (g.B.Bench.did c.args.bench.now) (given_in c.args.given) c.args.place _ c.args.tdr c.args.vp c.args.line (Operates c.args.operation) (Operates (op.Set c.in-Set.register c.in-Set.value)) c.set_register.new.bench (Done Nothing) c.args.kept.now c.done_at_once.new.turn
    c.requires.at (ap Operates c.in-Set.is) refl c.set_register.ensures.made c.requires.none c.done_at_once.ensures in
    (None, none-reported c.args.reports.now, x)

pub returns-in-Secret-clause-turned : goal.returns-in-Secret-clause-turned
returns-in-Secret-clause-turned g c =
    let x =
    step-once (g.B.Bench.did c.args.bench.now) (given_in c.args.given) c.args.place _ c.args.tdr c.args.vp c.args.line (Operates c.args.operation) (Operates (op.Secret c.in-Secret.register c.in-Secret.number)) c.set_register-in-Secret.new.bench (Done Nothing) c.args.kept.now c.done_at_once-in-Secret.new.turn
    c.requires.at (ap Operates c.in-Secret.is) refl (rw c.from.ensures at c.set_register-in-Secret.ensures.made) c.requires.none c.done_at_once-in-Secret.ensures in
    (None, none-reported c.args.reports.now, x)

pub returns-in-Add-clause-turned : goal.returns-in-Add-clause-turned
returns-in-Add-clause-turned g c =
    let x =
    step-once (g.B.Bench.did c.args.bench.now) (given_in c.args.given) c.args.place _ c.args.tdr c.args.vp c.args.line (Operates c.args.operation) (Operates (op.Add c.in-Add.register c.in-Add.other)) c.add_registers.new.bench (Done Nothing) c.args.kept.now c.done_at_once-in-Add.new.turn
    c.requires.at (ap Operates c.in-Add.is) refl c.add_registers.ensures.made c.requires.none c.done_at_once-in-Add.ensures in
    (None, none-reported c.args.reports.now, x)

pub returns-in-Load-clause-turned : goal.returns-in-Load-clause-turned
returns-in-Load-clause-turned g c =
    let x =
    shared-begins (g.B.Bench.did c.args.bench.now) (given_in c.args.given) c.args.place _ c.args.tdr c.args.vp c.args.line c.args.operation (op.Load c.in-Load.register c.in-Load.gpa) Read c.in-Load.register c.in-Load.gpa c.begin_shared.new.bench c.begin_shared.new.kept
    c.args.kept.now.other c.begin_shared.new.turn c.requires.at c.in-Load.is refl refl c.requires.none.1 c.begin_shared.ensures.turned in
    (None, none-reported c.args.reports.now, x)

pub returns-in-Store-clause-turned : goal.returns-in-Store-clause-turned
returns-in-Store-clause-turned g c =
    let x =
    shared-begins (g.B.Bench.did c.args.bench.now) (given_in c.args.given) c.args.place _ c.args.tdr c.args.vp c.args.line c.args.operation (op.Store c.in-Store.register c.in-Store.gpa) Write c.in-Store.register c.in-Store.gpa c.begin_shared-in-Store.new.bench c.begin_shared-in-Store.new.kept
    c.args.kept.now.other c.begin_shared-in-Store.new.turn c.requires.at c.in-Store.is refl refl c.requires.none.1 c.begin_shared-in-Store.ensures.turned in
    (None, none-reported c.args.reports.now, x)
