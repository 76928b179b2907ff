use Rattle.std.proofs.Common.{ap, Ok, take}
use Rattle.std.specs.Prelude.{ℕ, List}
use Rattle.leaf_parts.proofs.Parts.{exit}
use Rattle.export_sessions.specs.SessionTrees.{exported_in}
use Rattle.export_sessions.proofs.Decided.{unbegun, unmeasured, exported-goes, exported-feeds}
use Rattle.export_sessions.proofs.sessions.to_export.Goals as goal

pub returns-in_err-session-clause-goes : goal.returns-in_err-session-clause-goes
returns-in_err-session-clause-goes c =
    unbegun c.args.place.machine c.args.tdr c.args.told.now.left.now c.begin.new.told.left.now c.begin.new.told.left.now (exported_in c.from_residual.result) c.in_err-session.field-0.0
    (ap exported_in (exit c.from_residual.result c.in_err-session.field-0.0 _ c.from_residual.ensures.1 (λ y h. h))) c.in_err-session.ensures.goes

pub returns-in_err-mrtd-clause-goes : goal.returns-in_err-mrtd-clause-goes
returns-in_err-mrtd-clause-goes c =
    unmeasured c.args.place.machine c.args.tdr c.args.told.now.left.now c.begin.new.told.left.now c.words.new.told.left.now (exported_in c.from_residual-in_err-mrtd.result) c.in_ok-session.session c.in_ok-session.ensures.goes c.in_err-mrtd.field-0.0
    (ap exported_in (exit c.from_residual-in_err-mrtd.result c.in_err-mrtd.field-0.0 _ c.from_residual-in_err-mrtd.ensures.1 (λ y h. h))) (c.in_err-mrtd.ensures.goes c.args.place.machine.pages)

pub returns-clause-goes : goal.returns-clause-goes
returns-clause-goes c =
    exported-goes c.args.place.machine c.args.tdr c.args.told.now.left.now c.begin.new.told.left.now c.words.new.told.left.now (Ok (record { session = c.in_ok-session.session; mrtd = c.in_ok-mrtd.mrtd.now })) c.in_ok-session.session c.in_ok-session.ensures.goes
    (take 6 c.begin.new.told.left.now) (c.in_ok-mrtd.ensures.goes c.args.place.machine.pages) (ap (λ (ws : List ℕ). Ok (record { session = c.in_ok-session.session; mrtd = ws })) c.in_ok-mrtd.ensures.value)

pub returns-clause-feeds : goal.returns-clause-feeds
returns-clause-feeds c =
    exported-feeds c.args.place.machine c.args.tdr c.args.told.now.left.now c.begin.new.told.left.now c.words.new.told.left.now (Ok (record { session = c.in_ok-session.session; mrtd = c.in_ok-mrtd.mrtd.now })) c.in_ok-session.session c.in_ok-session.ensures.feeds
    (take 6 c.begin.new.told.left.now) c.in_ok-mrtd.ensures.feeds (ap (λ (ws : List ℕ). Ok (record { session = c.in_ok-session.session; mrtd = ws })) c.in_ok-mrtd.ensures.value)
