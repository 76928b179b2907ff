use Rattle.guest_turns.proofs.AtOnce.{load-made}
use Rattle.guest_turns.proofs.private_accesses.load_private.Goals as goal

pub returns-clause-made : goal.returns-clause-made
returns-clause-made g c =
    let moved = rw (c.word_address-from.ensures, c.word_of_gpa.ensures.word, c.register_address.ensures) at c.move_word-moved.ensures.moved in
    λ line. load-made (g.B.Bench.did c.args.bench.now) _ c.args.vp line c.args.register c.args.gpa c.args.page c.move_word-moved.result.position c.move_word-moved.result.word c.move_word-moved.new.bench moved
