use Rattle.std.proofs.Common.{◌≡◌, ◌*◌, length}
use Rattle.gcm_seal.specs.Tables.{raised, AreTables}
use Rattle.gcm_seal.proofs.fields.hash_tables.Given as goal

abbrev pub invariant-loop-i : goal.invariant-loop-i
invariant-loop-i l = (length l.tables ≡ 32) × (l.v ≡ raised (4 * l.i) l.h) × AreTables l.tables l.h l.i
