-- What the bytes of a container show, whatever the private words are: slots, lengths and headers, and each bundle whose
-- payload isn't private (TD Migration Architecture, "Migration Bundles").
use Rattle.std.specs.Prelude.{◌≡◌, ℕ, ◌-◌, List, ◌++◌, length, take, slice_index, replicate, map, Result, Ok, Err, Bool, false, if◌then◌else◌}
use Rattle.td_words.specs.Seen.{BundleSeen}
use Rattle.flat_core.specs.World.{ClearHeader, Made}
use Rattle.flat_core.specs.Opening.{Opening, Agree, is_private_kind, public_bundle}
use Rattle.flat_core.specs.Event.{State}
use Rattle.flat_core.specs.Run.{run, told_in, bundles_in}
use Rattle.flat_core.specs.TwoWorlds.{AreAlikeStates}
use Rattle.bundle_store.specs.Containers.{container_bytes, container_in}
use Rattle.bundle_texts.specs.Sealed.{key_of, sealed}
use Rattle.bundle_texts.specs.Ordered.{FitContainer, in_slot_order, container_text}
use Rattle.isol_laws.specs.Worlds.{blind_run}

-- a bundle's bytes, where tag and sealed text, from byte 48 on, are zeros if its type, byte 6, is one that hides them
abbrev pub covered : (hides : ℕ → Bool) → List ℕ → List ℕ
covered hides bytes = if hides (slice_index bytes 6) then take 48 bytes ++ replicate (length bytes - 48) 0 else bytes

abbrev pub covered_bundle : (hides : ℕ → Bool) → BundleSeen → BundleSeen
covered_bundle hides b = record b { bytes = covered hides b.bytes }

-- a container's bytes with these zeros; bytes that are no container stay as they are
abbrev pub covered_as : (hides : ℕ → Bool) → List ℕ → Result (List BundleSeen) ℕ → List ℕ
covered_as hides bytes (Ok bundles) = container_bytes (map (covered_bundle hides) bundles)
covered_as hides bytes (Err place) = bytes

abbrev pub covered_container : (hides : ℕ → Bool) → List ℕ → List ℕ
covered_container hides bytes = covered_as hides bytes (container_in bytes)

-- of the bundles that a run has made, sealed under these keys
abbrev pub covered_text : (hides : ℕ → Bool) (forward backward : List ℕ) → List Made → List ℕ
covered_text hides forward backward ms = container_bytes (map (covered_bundle hides) (map (sealed forward backward) (in_slot_order ms)))

-- what has to be hidden between containers under these keys and under those: each private payload, and each bundle whose key
-- isn't the same; all, where no key is, and private payloads alone, where both are
abbrev pub Hides : (forward backward forward' backward' : List ℕ) → (ℕ → Bool) → Type 0
Hides forward backward forward' backward' hides = (h : ClearHeader) → hides h.kind ≡ false → (is_private_kind h.kind ≡ false) × (key_of forward backward h ≡ key_of forward' backward' h)

-- the containers of these bundles and of those are the same byte for byte, but for what has to be hidden
abbrev pub ShowTheSame : (these those : List Made) → Type 0
ShowTheSame these those = (hides : ℕ → Bool) (forward backward forward' backward' : List ℕ) → Hides forward backward forward' backward' hides
    → covered_text hides forward backward these ≡ covered_text hides forward' backward' those

-- That is what the bytes of a container have: it is read as its bundles.
abbrev pub ContainersAreCovered : Type 0
ContainersAreCovered = (hides : ℕ → Bool) (forward backward : List ℕ) (ms : List Made) → FitContainer ms
    → covered_container hides (container_text forward backward ms) ≡ covered_text hides forward backward ms

-- So it is of any bundles with the same public part, and so of what two worlds have made that are alike, as one event of each
-- keeps them (`kept` of isol_laws' `two_world_law`).
abbrev pub ContainersAgree : Type 0
ContainersAgree = (these those : List Made) → map public_bundle these ≡ map public_bundle those → ShowTheSame these those

abbrev pub AlikeStatesShowTheSame : Type 0
AlikeStatesShowTheSame = (s t : State) (words : List ℕ) → AreAlikeStates s t words → ShowTheSame (bundles_in s) (bundles_in t)

-- So of a run and the one with every private word 0, and of two openings that agree, where guests tell the same.
pub record RunsShowTheSame : Type 0 where
  pub blind : (o : Opening) (schedule : List ℕ) → ShowTheSame (bundles_in (run o schedule)) (bundles_in (blind_run o schedule))
  pub agreeing : (o q : Opening) (schedule : List ℕ) → Agree o q → told_in (run o schedule) ≡ told_in (run q schedule)
      → ShowTheSame (bundles_in (run o schedule)) (bundles_in (run q schedule))
