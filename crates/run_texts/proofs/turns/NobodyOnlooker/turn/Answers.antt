use Rattle.run_texts.proofs.turns.NobodyOnlooker.turn.Goals as goal

pub returns-in-Moved : goal.returns-in-Moved
returns-in-Moved c = (_, (c.in-Moved.ensures.turned, c.in-Moved.ensures.ended), λ o schedule s items next leads. leads)

pub returns-in-Ended : goal.returns-in-Ended
returns-in-Ended c = ((c.in-Ended.ensures.turned, c.in-Ended.ensures.ended), λ o schedule s items leads. leads)
