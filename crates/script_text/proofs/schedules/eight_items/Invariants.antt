use Rattle.std.proofs.Common.{◌≡◌, ℕ, ◌<◌, true, length}
use Rattle.script_text.proofs.Eights.{IsItemAt}
use Rattle.script_text.proofs.schedules.eight_items.Given as goal

-- so far they are items, if all is good
abbrev pub invariant-loop-place : goal.invariant-loop-place
invariant-loop-place l = record {
  size : length l.items ≡ 8;
  are : l.is_good ≡ true → (k : ℕ) → k < l.place → IsItemAt l.lps l.text l.items k;
}
