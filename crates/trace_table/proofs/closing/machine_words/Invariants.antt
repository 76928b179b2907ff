use Rattle.std.proofs.Common.{◌≡◌, ◌+◌, take, drop}
use Rattle.std.specs.Slots.{slots_items, slots_len}
use Rattle.trace_table.specs.Views.{guards}
use Rattle.trace_table.proofs.closing.machine_words.Given as goal

-- the words up to here are copied
abbrev pub invariant-loop-at : goal.invariant-loop-at
invariant-loop-at l = (l.words.items ≡ take l.at (drop guards (slots_items l.ended.words))) × (guards + l.count ≡ slots_len l.ended.words)
