use Rattle.std.proofs.Common.{subst, sym}
use Rattle.leaf_table.specs.Given.{given_in}
use Rattle.bundle_texts.proofs.Fits.{fit_too}
use Rattle.run_texts.specs.Openings.{opening_of}
use Rattle.run_texts.specs.Replaying.{AreAtEnd}
use Rattle.run_texts.proofs.Replayed.{tells}
use Rattle.run_texts.proofs.Ended.{seals-end}
use Rattle.run_texts.proofs.replay.replay_texts.Goals as goal

pub all_texts-requires-clause-fit : goal.all_texts-requires-clause-fit
all_texts-requires-clause-fit c =
    let end = subst (AreAtEnd (opening_of (given_in c.args.given) c.args.script.now) c.args.script.now.schedule) (sym c.deref-2.ensures.value) c.in_ok-lps.ensures in
    fit_too _ _ end.bundles end.fit

pub returns : goal.returns
returns c =
    let o = opening_of (given_in c.args.given) c.args.script.now in
    let end = subst (AreAtEnd o c.args.script.now.schedule) (sym c.deref-2.ensures.value) c.in_ok-lps.ensures in
    tells c.all_texts.result _ _ _ _ _ _ _ _ c.all_texts.ensures end.replies (seals-end o c.args.script.now.schedule _ end c.args.keys.now.forward c.args.keys.now.backward) (end.notes c.args.report_key.now)
