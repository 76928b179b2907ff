use Rattle.std.proofs.Common.{◌≡◌, take}
use Rattle.line_words.proofs.mnemonics.begins_with.Given as goal

-- so far the text has the name's bytes
abbrev pub invariant-loop-at : goal.invariant-loop-at
invariant-loop-at l = record { front : take l.at l.text ≡ take l.at l.name }
