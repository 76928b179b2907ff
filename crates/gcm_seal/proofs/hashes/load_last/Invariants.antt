use Rattle.std.proofs.Common.{◌≡◌, ℕ, ◌<◌, ◌≤◌, ◌+◌, ◌*◌, slice_index, length}
use Rattle.gcm_seal.proofs.hashes.load_last.Given as goal

abbrev pub invariant-loop-k : goal.invariant-loop-k
invariant-loop-k l = (length l.last ≡ 16) × ((j : ℕ) → j < l.k → slice_index l.last j ≡ slice_index l.s (16 * l.i + j))
    × ((j : ℕ) → l.k ≤ j → j < 16 → slice_index l.last j ≡ 0)
