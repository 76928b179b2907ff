use Rattle.std.proofs.Common.{◌≡◌, ◌∙◌, ◌<◌, ap, map, length, string_bytes, ◌++◌, arith}
use Rattle.flat_core.specs.Event.{calls_of}
use Rattle.run_texts.specs.Replaying.{seen_at}
use Rattle.state_lines.specs.LpRead.{lp_read}
use Rattle.state_lines.proofs.Texts.{one-more}
use Rattle.state_runs.proofs.Telling.{lp-said}
use Rattle.state_runs.proofs.reading.push_lps.Goals as goal

pub loop-lp-preserved : goal.loop-lp-preserved
loop-lp-preserved c =
    let inside : c.loop-lp.lp < length c.args.lps.now = c.loop-lp-test.true in
    let listed : c.loop-lp.lp < length c.args.calls.now = omega (arith, c.requires.count, inside) in
    let counted : c.len.result ≡ length c.index-calls-lp.result.items = omega (arith, c.len.ensures, c.index-calls-lp.result.ok.0) in
    one-more (λ p. lp_read c.args.form c.args.words.now p (length (calls_of (map (λ list. list.items) c.args.calls.now) p)) (seen_at c.args.lps.now p)) c.loop-lp.lp (string_bytes c.args.text.now) _ _ c.loop-lp.invariant
    (c.in_ok-push_lp.ensures ∙ ap (λ z. string_bytes c.loop-lp.text ++ z) (lp-said c.args.form c.args.words.now c.args.calls.now c.args.lps.now c.loop-lp.lp _ c.index-calls-lp.result c.index-lps-lp.result inside listed counted c.index-calls-lp.is c.index-lps-lp.is))
