use Rattle.std.proofs.Common.{◌≡◌, ◌++◌, drop, map, string_bytes}
use Rattle.std.specs.List.{concat}
use Rattle.state_lines.specs.StateText.{translation_line}
use Rattle.state_lines.proofs.lps.push_translations.Given as goal

-- the translations that are left go on behind the text so far
abbrev pub invariant-loop-i : goal.invariant-loop-i
invariant-loop-i l = string_bytes l.text ++ concat (map (translation_line l.form l.lp) (drop l.i l.translations)) ≡ string_bytes l.initial.text ++ concat (map (translation_line l.form l.lp) l.translations)
