use Rattle.std.proofs.Common.{◌≡◌, ℕ, ◌<◌, ◌≤◌, ◌-◌, slice_index, bit_xor}
use Rattle.gcm_seal.proofs.streams.mix_block.Given as goal

abbrev pub invariant-loop-k : goal.invariant-loop-k
invariant-loop-k l = record {
  before : (j : ℕ) → j < l.at → slice_index l.text j ≡ slice_index l.fn.text j;
  mixed : (j : ℕ) → l.at ≤ j → j < l.k → slice_index l.text j ≡ bit_xor (slice_index l.fn.text j) (slice_index l.lanes (j - l.at));
  after : (j : ℕ) → l.k ≤ j → slice_index l.text j ≡ slice_index l.fn.text j;
}
