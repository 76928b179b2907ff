-- What comes in over a link is what the bundle's bytes, sealed under the link's keys, open to (TD Migration Architecture, "Migration
-- Bundles"; SP 800-38D).
use Rattle.std.specs.Prelude.{◌≡◌, ℕ, suc, ◌*◌, ◌<◌, List, take, drop, None, All}
use Rattle.flat_core.specs.World.{Made}
use Rattle.flat_core.specs.Opening.{Incoming}
use Rattle.flat_core.specs.Laws.{with_bundles}
use Rattle.flat_words.specs.Words.{GivesWords}
use Rattle.flat_bundles.specs.Formed.{AreCodesShort}
use Rattle.bundle_texts.specs.Sealed.{key_of, sealed_bytes}
use Rattle.incoming.specs.Opened.{opened}
use Rattle.image_laws.specs.Containers.{as_made}
use Rattle.chain_laws.specs.Chains.{Chain, Running, comes_forward, comes_back, at_moment}
use Rattle.chain_laws.specs.Keys.{link_after, link_before, forward_place, backward_place, key_place}

-- the key at a place: 32 bytes of all
abbrev pub key_at : (keys : List ℕ) → (place : ℕ) → List ℕ
key_at keys place = take 32 (drop (32 * place) keys)

-- A module seals forward for the link behind it and back for the link before it, and it opens the other way round.
abbrev pub forward_seal : Chain → (keys : List ℕ) → ℕ → List ℕ
forward_seal c keys i = key_at keys (forward_place (link_after c i))

abbrev pub backward_seal : (keys : List ℕ) → ℕ → List ℕ
backward_seal keys i = key_at keys (backward_place (link_before i))

abbrev pub forward_open : (keys : List ℕ) → ℕ → List ℕ
forward_open keys i = key_at keys (forward_place (link_before i))

abbrev pub backward_open : Chain → (keys : List ℕ) → ℕ → List ℕ
backward_open c keys i = key_at keys (backward_place (link_after c i))

abbrev pub sealed_at : Chain → (keys : List ℕ) → ℕ → Made → List ℕ
sealed_at c keys i b = sealed_bytes (forward_seal c keys i) (backward_seal keys i) b

abbrev pub opened_at : Chain → (keys : List ℕ) → ℕ → (bytes : List ℕ) → Incoming
opened_at c keys i bytes = opened (forward_open keys i) (backward_open c keys i) bytes

-- Each bundle is sealed with the key at its place.
abbrev pub KeysGoByPlace : Type 0
KeysGoByPlace = (c : Chain) (keys : List ℕ) (i : ℕ) (b : Made)
    → key_of (forward_seal c keys i) (backward_seal keys i) b.header ≡ key_at keys (key_place c i b)

-- Each script gives words of 64 bits, and codes of at most 256 operations. No bundle has come in yet.
pub record GivesChainWords (c : Chain) : Type 0 where
  pub words : (i : ℕ) → GivesWords (with_bundles (c.openings i) (λ slot. None))
  pub short : (i : ℕ) → AreCodesShort (c.openings i)

-- Over link i each bundle comes in as what its bytes open to.
pub record ComesSealed (c : Chain) (keys : List ℕ) (r : Running) (i : ℕ) : Type 0 where
  pub forward : All (λ b. opened_at c keys (suc i) (sealed_at c keys i b) ≡ as_made b) (comes_forward c r.modules (suc i))
  pub back : All (λ b. opened_at c keys i (sealed_at c keys (suc i) b) ≡ as_made b) (comes_back c r.modules i)

abbrev pub LinksAreSealed : Type 0
LinksAreSealed = (c : Chain) (keys turns : List ℕ) (i : ℕ) → GivesChainWords c → suc i < c.count → ComesSealed c keys (at_moment c turns) i
