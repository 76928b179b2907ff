use Rattle.guest_turns.proofs.AtOnce.{set-made}
use Rattle.guest_turns.proofs.operations.set_register.Goals as goal

pub returns-clause-made : goal.returns-clause-made
returns-clause-made g c =
    let position = rw c.word_address.ensures at c.load-position.ensures.did in
    let both = rw c.register_address.ensures at c.store_both.ensures.did in
    set-made (g.B.Bench.did c.args.bench.now) _ c.args.vp c.args.register c.args.value c.load-position.result c.store_both.new.bench (g.met.B.Bench.did_more _ _ _ _ _ position both)
