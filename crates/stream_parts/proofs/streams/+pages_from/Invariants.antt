use Rattle.stream_parts.proofs.streams.+pages_from.Given as goal

abbrev pub decreases-pages_from : goal.decreases-pages_from
decreases-pages_from l = l.left
