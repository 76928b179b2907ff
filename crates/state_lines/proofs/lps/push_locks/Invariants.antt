use Rattle.std.proofs.Common.{◌≡◌, ◌++◌, drop, map, string_bytes}
use Rattle.std.specs.List.{concat}
use Rattle.state_lines.specs.LpRead.{lock_read}
use Rattle.state_lines.proofs.lps.push_locks.Given as goal

-- the locks that are left go on behind the text so far
abbrev pub invariant-loop-i : goal.invariant-loop-i
invariant-loop-i l = string_bytes l.text ++ concat (map (lock_read l.form l.words l.lp l.holder) (drop l.i l.locks)) ≡ string_bytes l.initial.text ++ concat (map (lock_read l.form l.words l.lp l.holder) l.locks)
