use Rattle.run_texts.proofs.noted.noted_lines.Goals as goal

pub returns : goal.returns
returns c = rw c.are_told.ensures at c.guest_lines.ensures
