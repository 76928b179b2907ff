use Rattle.std.proofs.Common.{◌≡◌, ℕ, ◌<◌, ◌+◌, ◌-◌, ◌*◌, ◌/◌, ◌^◌, [], bit_xor, slice_index_or}
use Rattle.gcm_seal.specs.Gcm.{times}
use Rattle.gcm_seal.specs.Tables.{raised, table_of}
use Rattle.gcm_seal.proofs.fields.part.Given as goal

abbrev pub invariant-loop-i : goal.invariant-loop-i
invariant-loop-i l = (v : ℕ) → ((j : ℕ) → j < 16 → slice_index_or l.tables (l.from + j) [] ≡ table_of (raised (4 * j) v))
    → l.z ≡ bit_xor l.start (times (4 * l.i) (l.word / 2 ^ (64 - 4 * l.i)) v)
