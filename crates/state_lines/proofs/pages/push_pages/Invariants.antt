use Rattle.std.proofs.Common.{◌≡◌, ◌++◌, string_bytes}
use Rattle.state_lines.specs.Lines.{texts_below}
use Rattle.state_lines.specs.WordText.{page_read}
use Rattle.state_lines.proofs.pages.push_pages.Given as goal

abbrev pub invariant-loop-page : goal.invariant-loop-page
invariant-loop-page l = string_bytes l.text ≡ string_bytes l.initial.text ++ texts_below (page_read l.form l.words) l.page
