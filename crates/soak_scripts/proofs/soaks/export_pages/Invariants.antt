use Rattle.std.proofs.Common.{◌≡◌, ◌++◌}
use Rattle.soak_scripts.specs.Soak.{export_lines}
use Rattle.soak_scripts.proofs.soaks.export_pages.Given as goal

abbrev pub invariant-loop-page : goal.invariant-loop-page
invariant-loop-page l = l.calls.items ≡ l.initial.calls.items ++ export_lines l.page
