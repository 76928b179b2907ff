-- No IV is used twice under one key, as bundles are sealed (SP 800-38D, section 8).
use Rattle.std.specs.Prelude.{◌≡◌, ◌≢◌, ℕ, List, if◌then◌else◌, All, AllPairs}
use Rattle.byteorder.specs.Endian.{little_bytes}
use Rattle.flat_core.specs.World.{Made}
use Rattle.flat_core.specs.Run.{bundles_in}
use Rattle.flat_core.specs.Laws.{IsKept, HoldsInRuns, ArePagesKnown}
use Rattle.flat_core.specs.AccessLaw.{IsGuarded}
use Rattle.mig_laws.specs.Ivs.{is_forward, iv_of}
use Rattle.mig_laws.specs.Source.{SourceHolds}
use Rattle.bundle_texts.specs.Sealed.{key_of, iv_bytes}

-- a bundle is sealed with the key that its type names
abbrev pub KeysGoByType : Type 0
KeysGoByType = (forward backward : List ℕ) (m : Made) → key_of forward backward m.header ≡ (if is_forward m then forward else backward)

-- no two bundles that are sealed with one key are sealed with one IV
abbrev pub UseIvsOnce : (forward backward : List ℕ) → List Made → Type 0
UseIvsOnce forward backward bundles = AllPairs (λ a b. key_of forward backward a.header ≡ key_of forward backward b.header → iv_bytes a.header ≢ iv_bytes b.header) bundles

-- The IV that each of these bundles is sealed with is its IV's number in 12 bytes, the lowest first; and none is used twice, where
-- the key to the destination isn't the key back.
pub record HaveOwnIvBytes (bundles : List Made) : Type 0 where
  pub numbers : All (λ m. iv_bytes m.header ≡ little_bytes 12 (iv_of m)) bundles
  pub once : (forward backward : List ℕ) → forward ≢ backward → UseIvsOnce forward backward bundles

-- Every run starts so, beside what is kept of a source, and one event keeps it so, whatever bundles have come in.
abbrev pub IvBytesAreKept : Type 0
IvBytesAreKept = IsKept (λ o s. ((IsGuarded o s × ArePagesKnown s.world) × SourceHolds s.world) × HaveOwnIvBytes (bundles_in s))

-- So it is in every run.
abbrev pub NoIvIsUsedTwice : Type 0
NoIvIsUsedTwice = HoldsInRuns (λ o s. HaveOwnIvBytes (bundles_in s))
