use Rattle.std.proofs.Common.{◌≡◌, ◌++◌}
use Rattle.soak_scripts.specs.Soak.{page_word, add_lines}
use Rattle.soak_scripts.proofs.soaks.add_pages.Given as goal

abbrev pub invariant-loop-page : goal.invariant-loop-page
invariant-loop-page l = (l.calls.items ≡ l.initial.calls.items ++ add_lines l.pages l.page) × (l.word ≡ page_word l.pages l.page)
