use Rattle.guest_turns.proofs.words.move_word.Goals as goal

pub returns-clause-moved : goal.returns-clause-moved
returns-clause-moved g c =
    g.met.B.Bench.did_more _ _ _ _ _ (rw c.word_address.ensures at c.load-position.ensures.did) (g.met.B.Bench.did_more _ _ _ _ _ c.load-word.ensures.did c.store_both.ensures.did)
