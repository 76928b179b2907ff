use Rattle.leaf_dispatch.proofs.turns.tell_by.Goals as goal

pub add_word-requires : goal.add_word-requires
add_word-requires c = record { room = rw (c.told-word.ensures 0 0) (rw c.in-Some.is at (c.requires.room 0 0)) }
