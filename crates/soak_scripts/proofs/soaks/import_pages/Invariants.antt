use Rattle.std.proofs.Common.{◌≡◌, ◌++◌}
use Rattle.soak_scripts.specs.Soak.{import_lines}
use Rattle.soak_scripts.proofs.soaks.import_pages.Given as goal

abbrev pub invariant-loop-page : goal.invariant-loop-page
invariant-loop-page l = l.calls.items ≡ l.initial.calls.items ++ import_lines l.page
