-- Laws of sealed bundles and their container.
use Rattle.std.specs.Prelude.{◌≡◌, ◌<◌, ℕ, List, map, length, Ok, true, AllPairs}
use Rattle.std.specs.List.Sorted.{IsPermutation}
use Rattle.flat_core.specs.World.{Made}
use Rattle.flat_core.specs.Digests.{digest_bytes as word_bytes}
use Rattle.gcm_seal.specs.Gcm.{mixed}
use Rattle.bundle_format.specs.Headers.{is_lawful, payload_length, bundle_in}
use Rattle.bundle_store.specs.Containers.{container_in}
use Rattle.bundle_texts.specs.Sealed.{with_tag, iv_bytes, key_of, sealed_payload, tag_of, sealed_bytes, sealed}
use Rattle.bundle_texts.specs.Ordered.{in_slot_order, FitContainer, container_text}

-- A sealed bundle opens to its payload, and is read as its header with its tag. A container is read as its bundles, sealed,
-- and in the order of their slots. The order has the same bundles, slots rise in it, and it is the same in whatever order
-- the bundles were made.
pub record BundlesReadAgain : Type 0 where
  pub opened : (forward backward : List ℕ) (m : Made)
      → mixed (key_of forward backward m.header) (iv_bytes m.header) (sealed_payload forward backward m) ≡ word_bytes m.payload
  pub header : (forward backward : List ℕ) (m : Made) → is_lawful (with_tag (tag_of forward backward m) m.header) ≡ true
      → length (word_bytes m.payload) ≡ payload_length (with_tag (tag_of forward backward m) m.header)
      → bundle_in (sealed_bytes forward backward m) ≡ Ok (with_tag (tag_of forward backward m) m.header)
  pub container : (forward backward : List ℕ) (ms : List Made) → FitContainer ms
      → container_in (container_text forward backward ms) ≡ Ok (map (sealed forward backward) (in_slot_order ms))
  pub same_bundles : (ms : List Made) → IsPermutation ms (in_slot_order ms)
  pub slots_rise : (ms : List Made) → FitContainer ms → AllPairs (λ m n. m.slot < n.slot) (in_slot_order ms)
  pub any_order : (ms ns : List Made) → FitContainer ms → IsPermutation ms ns → in_slot_order ns ≡ in_slot_order ms
