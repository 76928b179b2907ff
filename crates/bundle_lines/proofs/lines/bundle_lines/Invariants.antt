use Rattle.std.proofs.Common.{◌≡◌, ◌++◌, drop, map, string_bytes}
use Rattle.std.specs.List.{concat}
use Rattle.bundle_lines.specs.BundleLines.{bundle_line}
use Rattle.bundle_lines.proofs.lines.bundle_lines.Given as goal

-- the bundles that are left go on behind the text so far
abbrev pub invariant-loop-i : goal.invariant-loop-i
invariant-loop-i l = string_bytes l.text ++ concat (map bundle_line (drop l.i l.bundles)) ≡ concat (map bundle_line l.bundles)
