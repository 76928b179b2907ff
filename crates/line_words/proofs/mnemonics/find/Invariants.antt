use Rattle.std.proofs.Common.{◌≡◌, map, drop}
use Rattle.line_words.specs.Mnemonics.{mnemonic_in}
use Rattle.line_words.proofs.mnemonics.find.Given as goal

-- the rows that are left decide
abbrev pub invariant-loop-row : goal.invariant-loop-row
invariant-loop-row l = mnemonic_in (map (λ e. (e.0.now, e.1, e.2, e.3)) (drop l.row-index l.table)) l.word ≡ mnemonic_in (map (λ e. (e.0.now, e.1, e.2, e.3)) l.table) l.word
