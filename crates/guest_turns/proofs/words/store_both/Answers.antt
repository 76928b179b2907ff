use Rattle.guest_turns.proofs.words.store_both.Goals as goal

pub returns-clause-did : goal.returns-clause-did
returns-clause-did g c =
    g.met.B.Bench.did_more _ _ _ _ _ (rw c.perform.ensures.store at c.perform.ensures.did) (rw (c.perform-2.ensures.store, c.word_address.ensures) at c.perform-2.ensures.did)
