use Rattle.std.proofs.Common.{◌≡◌, ℕ, ◌<◌, ◌-◌, length}
use Rattle.aes_block.specs.Aes.{schedule, word}
use Rattle.aes_block.proofs.key_schedules.expand.Given as goal

abbrev pub invariant-copy : goal.invariant-copy
invariant-copy l = (length l.w ≡ 60) × ((k : ℕ) → k < l.i → word l.w k ≡ word (schedule l.key 0) k)

abbrev pub invariant-grow : goal.invariant-grow
invariant-grow l = (length l.w ≡ 60) × ((k : ℕ) → k < l.i → word l.w k ≡ word (schedule l.key (l.i - 8)) k)
