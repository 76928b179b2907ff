use Rattle.guest_turns.proofs.AtOnce.{walk-made}
use Rattle.guest_turns.proofs.walks.load_entry.Goals as goal

pub returns-clause-made : goal.returns-clause-made
returns-clause-made g c =
    let loaded = rw c.entry_address.ensures at c.load-word.ensures.did in
    λ t access. rw c.rights_told.ensures (walk-made (g.B.Bench.did c.args.bench.now) _ t access c.args.gpa c.args.level c.args.page c.load-word.result c.load-word.new.bench loaded)
