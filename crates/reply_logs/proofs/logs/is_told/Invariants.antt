use Rattle.std.proofs.Common.{◌≡◌, drop, map}
use Rattle.reply_logs.specs.Logs.{line_seen, is_told}
use Rattle.reply_logs.proofs.logs.is_told.Given as goal

-- what the lines that are left tell decides
abbrev pub invariant-loop-i : goal.invariant-loop-i
invariant-loop-i l = is_told l.place (map line_seen (drop l.i l.log)) ≡ is_told l.place (map line_seen l.log)
