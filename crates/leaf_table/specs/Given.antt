-- What a run is given besides its script: secret words, and the bundles that come in.
use Rattle.std.specs.Prelude.{◌≡◌, ℕ, List, Option, slice_index}
use Rattle.flat_core.specs.Opening.{Incoming, Opening}
use Rattle.incoming.specs.Arrivals.{at_slot}
use Rattle.leaf_table.specs.declared.given.Given.{Given as GivenWords}

-- the secret words by their numbers, the bundles by their slots
pub record Given : Type 0 where
  pub secrets : ℕ → ℕ
  pub bundles : ℕ → Option Incoming

-- secret word k of a list of them
abbrev pub secrets_in : List ℕ → ℕ → ℕ
secrets_in words k = slice_index words k

abbrev pub given_in : GivenWords → Given
given_in g = record { secrets = secrets_in g.secrets.now; bundles = at_slot g.bundles.now }

-- what an opening has, and that it is so
abbrev pub given_of : Opening → Given
given_of o = record { secrets = o.secrets; bundles = o.bundles }

pub record IsGiven (o : Opening) (g : Given) : Type 0 where
  pub secrets : (k : ℕ) → g.secrets k ≡ o.secrets k
  pub bundles : (slot : ℕ) → g.bundles slot ≡ o.bundles slot
