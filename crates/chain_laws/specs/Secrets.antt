-- Secret words of a chain reach no output and no public byte: what a guest has doesn't show in another module either (TD Migration
-- Architecture, "Migration Bundles").
use Rattle.std.specs.Prelude.{◌≡◌, ℕ, List, map}
use Rattle.flat_core.specs.Opening.{public_bundle}
use Rattle.flat_core.specs.Run.{bundles_in}
use Rattle.flat_core.specs.HostText.{text_of}
use Rattle.chain_laws.specs.Chains.{Chain, state_of, at_moment}

-- the chain with other secret words
abbrev pub with_secrets : (ℕ → ℕ → ℕ) → Chain → Chain
with_secrets secrets c = record c { openings = λ i. record (c.openings i) { secrets = secrets i } }

-- Where two runs of a chain differ in secret words alone and tell the same words, each module prints the same, and makes the same
-- bundles but for private payloads.
abbrev pub SecretsStayPrivate : Type 0
SecretsStayPrivate = (c : Chain) (secrets : ℕ → ℕ → ℕ) (turns : List ℕ)
    → let r = at_moment c turns in let q = at_moment (with_secrets secrets c) turns in
    r.told ≡ q.told → (i : ℕ) → let s = state_of r i in let t = state_of q i in
    (text_of s ≡ text_of t) × (map public_bundle (bundles_in s) ≡ map public_bundle (bundles_in t))
