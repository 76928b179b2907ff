use Rattle.std.proofs.Common.{◌≡◌, ℕ}
use Rattle.gcm_seal.specs.Gcm.{absorbed}
use Rattle.gcm_seal.specs.Tables.{AreTables}
use Rattle.gcm_seal.proofs.hashes.absorb.Given as goal

abbrev pub invariant-each : goal.invariant-each
invariant-each l = (h : ℕ) → AreTables l.tables h 32 → l.y ≡ absorbed h l.start l.text l.i
