-- No second use of an IV: no two bundles of a run that are sealed with one key have the same IV (TD Migration Architecture,
-- "Migration Bundles"; SP 800-38D, section 8).
use Rattle.std.specs.Prelude.{◌≡◌, ◌≢◌, ℕ, ◌+◌, ◌*◌, ◌^◌, ◌<◌, ◌≤◌, List, length, Bool, true, false, not, ◌==◌, All, AllPairs}
use Rattle.td_words.specs.declared.names.OpState.{OpState}
use Rattle.td_words.specs.declared.names.OpState.TheVariants as op
use Rattle.flat_core.specs.World.{World, Made}
use Rattle.flat_core.specs.Sessions.{stream_counter}
use Rattle.flat_core.specs.Lawful.{IsAlive, is_exporting}
use Rattle.flat_core.specs.Run.{bundles_in}
use Rattle.flat_core.specs.Laws.{HoldsInRuns}

-- types 0 to 5 are sealed with the key from source to destination, and type 6 with the key back
abbrev pub is_forward : Made → Bool
is_forward b = not (b.header.kind == 6)

-- what a bundle is sealed with: one of two keys, and the three numbers that its IV is made of
pub record SealedWith : Type 0 where
  pub forward : Bool
  pub stream : ℕ
  pub session : ℕ
  pub iv : ℕ

abbrev pub sealed_with : Made → SealedWith
sealed_with b = record { forward = is_forward b; stream = b.header.stream; session = b.header.session; iv = b.header.iv }

-- each of the three fits its bytes of the IV
pub record FitsIv (b : Made) : Type 0 where
  pub stream : b.header.stream < 2 ^ 8
  pub session : b.header.session < 2 ^ 16
  pub iv : b.header.iv < 2 ^ 64

-- no two are sealed alike
pub record AreSealedOnce (bundles : List Made) : Type 0 where
  pub apart : AllPairs (λ a b. sealed_with a ≢ sealed_with b) bundles
  pub fit : All FitsIv bundles

-- The IV's 12 bytes as a number, the lowest byte first: the stream, 0, two of the session, eight of the iv (docs/profile.md,
-- "Sealing"). No two bundles have one key and one IV.
abbrev pub iv_of : Made → ℕ
iv_of b = b.header.stream + (2 ^ 16 * b.header.session + 2 ^ 32 * b.header.iv)

abbrev pub HaveOwnIvs : List Made → Type 0
HaveOwnIvs bundles = AllPairs (λ a b. is_forward a ≡ is_forward b → iv_of a ≢ iv_of b) bundles

abbrev pub NoIvComesTwice : Type 0
NoIvComesTwice = HoldsInRuns (λ o s. AreSealedOnce (bundles_in s) × HaveOwnIvs (bundles_in s))

-- Why it is so, world by world

-- a TD whose export stands: it is exported running, paused, or was exported whole
pub record IsExporting (w : World) (t : ℕ) : Type 0 where
  pub alive : IsAlive w.pages w.tds t
  pub standing : is_exporting (w.tds.ops t) ≡ true

-- a bundle was made before a TD's stream had the counter that it has
pub record IsCounted (w : World) (t : ℕ) (b : Made) : Type 0 where
  pub stream : b.header.stream < length (w.tds.streams t)
  pub iv : b.header.iv < stream_counter w t b.header.stream

-- no bundle's session is above the last one that was given, and no two exports that stand have one session; of the session of
-- one that stands each bundle's iv is below its stream's counter, which is the next bundle's iv
pub record IvsHold (w : World) : Type 0 where
  pub sealed : AreSealedOnce w.outgoing.bundles
  pub given : All (λ b. is_forward b ≡ true → b.header.session ≤ w.key_table.last_exported) w.outgoing.bundles
  pub session : (t : ℕ) → IsExporting w t → w.tds.sessions t ≤ w.key_table.last_exported
  pub one : (t u : ℕ) → IsExporting w t → IsExporting w u → w.tds.sessions t ≡ w.tds.sessions u → t ≡ u
  pub counted : (t : ℕ) → IsExporting w t → All (λ b. is_forward b ≡ true → b.header.session ≡ w.tds.sessions t → IsCounted w t b) w.outgoing.bundles

-- an import that has begun, and is neither committed nor given up
abbrev pub is_filling : OpState → Bool
is_filling op.MemoryImport = true
is_filling op.StateImport = true
is_filling op.PostImport = true
is_filling _ = false

pub record IsImporting (w : World) (t : ℕ) : Type 0 where
  pub alive : IsAlive w.pages w.tds t
  pub standing : is_filling (w.tds.ops t) ≡ true

-- The token back to a source, of type 6, has counter 0: no session is given up twice. None is above the last one that was
-- imported, no two imports that stand have one session, and of the session of one that stands there is no such token yet.
pub record AbortsHold (w : World) : Type 0 where
  pub given : All (λ b. is_forward b ≡ false → b.header.session ≤ w.key_table.last_imported) w.outgoing.bundles
  pub session : (t : ℕ) → IsImporting w t → w.tds.sessions t ≤ w.key_table.last_imported
  pub one : (t u : ℕ) → IsImporting w t → IsImporting w u → w.tds.sessions t ≡ w.tds.sessions u → t ≡ u
  pub left : (t : ℕ) → IsImporting w t → All (λ b. is_forward b ≡ false → b.header.session ≢ w.tds.sessions t) w.outgoing.bundles
