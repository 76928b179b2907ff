-- When two containers come in alike, each under its own keys: what anyone reads of them is the same, and so are the verdicts (TD
-- Migration Architecture, "Migration Bundles").
use Rattle.std.specs.Prelude.{◌≡◌, ℕ, List, [], ◌∷◌, map, length, take, slice_index, option_map, false}
use Rattle.td_words.specs.Seen.{BundleSeen}
use Rattle.flat_core.specs.World.{Made}
use Rattle.flat_core.specs.Opening.{is_private_kind, blind_bundle, public_bundle}
use Rattle.bundle_texts.specs.Sealed.{sealed}
use Rattle.bundle_texts.specs.Ordered.{in_slot_order}
use Rattle.incoming.specs.Opened.{opened}
use Rattle.incoming.specs.Arrivals.{incoming_in, at_slot}
use Rattle.image_laws.specs.Containers.{AreWhole}

-- Two bundles are in one slot, and have as many bytes, and the same bytes 0 to 47. The one opens under these keys exactly where
-- the other does under those; and if its type, byte 6, isn't private, to the same words.
pub record ComesAlike (forward backward forward' backward' : List ℕ) (b c : BundleSeen) : Type 0 where
  pub slot : b.slot ≡ c.slot
  pub long : length b.bytes ≡ length c.bytes
  pub head : take 48 b.bytes ≡ take 48 c.bytes
  pub verdict : (opened forward backward b.bytes).«opens» ≡ (opened forward' backward' c.bytes).«opens»
  pub words : is_private_kind (slice_index b.bytes 6) ≡ false → (opened forward backward b.bytes).payload ≡ (opened forward' backward' c.bytes).payload

-- the bundles of two containers, one by one
abbrev pub ComeAlike : (forward backward forward' backward' : List ℕ) → (these those : List BundleSeen) → Type 0
ComeAlike forward backward forward' backward' [] [] = Unit {0}
ComeAlike forward backward forward' backward' (b ∷ bs) (c ∷ cs) = ComesAlike forward backward forward' backward' b c × ComeAlike forward backward forward' backward' bs cs
ComeAlike forward backward forward' backward' [] (c ∷ cs) = ⊥
ComeAlike forward backward forward' backward' (b ∷ bs) [] = ⊥

-- Then what comes in of the two agrees in all that is public, in each slot.
abbrev pub AlikeComeInAgreeing : Type 0
AlikeComeInAgreeing = (forward backward forward' backward' : List ℕ) (these those : List BundleSeen) → ComeAlike forward backward forward' backward' these those
    → (slot : ℕ) → option_map blind_bundle (at_slot (map (incoming_in forward backward) these) slot) ≡ option_map blind_bundle (at_slot (map (incoming_in forward' backward') those) slot)

-- So do the containers that two worlds seal, each under its own keys: bundles with the same public part come in alike.
abbrev pub SealedComeAlike : Type 0
SealedComeAlike = (forward backward forward' backward' : List ℕ) (these those : List Made) → AreWhole these → AreWhole those → map public_bundle these ≡ map public_bundle those
    → ComeAlike forward backward forward' backward' (map (sealed forward backward) (in_slot_order these)) (map (sealed forward' backward') (in_slot_order those))
