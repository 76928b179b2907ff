use Rattle.std.proofs.Common.{◌≡◌, ℕ, ◌<◌, List, [], slice_index_or}
use Rattle.aes_block.specs.Planes.{block_at, lanes16, HasKey}
use Rattle.aes_block.specs.Aes.{schedule, rounds}
use Rattle.aes_block.proofs.ciphers.Aes256.encrypt_eight.Given as goal

abbrev pub invariant-loop-r : goal.invariant-loop-r
invariant-loop-r l = (key : List ℕ) → HasKey l.self key
    → (i : ℕ) → i < 8 → block_at l.q i ≡ rounds (schedule key 52) (lanes16 (slice_index_or l.fn.blocks i [])) l.r
