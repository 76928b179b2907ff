use Rattle.guest_turns.proofs.AtOnce.{add-made}
use Rattle.guest_turns.proofs.operations.add_registers.Goals as goal

pub returns-clause-made : goal.returns-clause-made
returns-clause-made g c =
    let sum_at = c.register_address-sum_at.ensures in
    let position = rw c.word_address.ensures at c.load-position.ensures.did in
    let first = rw sum_at at c.load-first.ensures.did in
    let second = rw c.register_address.ensures at c.load-second.ensures.did in
    let both = rw sum_at at c.store_both.ensures.did in
    add-made (g.B.Bench.did c.args.bench.now) _ c.args.vp c.args.register c.args.other c.load-position.result c.load-first.result c.load-second.result c.store_both.new.bench
    (g.met.B.Bench.did_more _ _ _ _ _ position (g.met.B.Bench.did_more _ _ _ _ _ first (g.met.B.Bench.did_more _ _ _ _ _ second both)))
