use Rattle.leaf_parts.proofs.vp_words.+apart_from.Given as goal

abbrev pub decreases-apart_from : goal.decreases-apart_from
decreases-apart_from l = l.left
