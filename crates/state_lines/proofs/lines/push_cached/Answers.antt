use Rattle.state_lines.proofs.lines.push_cached.Goals as goal

pub returns : goal.returns
returns c = rw c.access_text.ensures at c.push_line.ensures
