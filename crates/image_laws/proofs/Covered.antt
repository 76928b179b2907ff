-- Containers differ by private words and by keys in tags and sealed texts alone.
use Rattle.std.proofs.Common.{◌≡◌, refl, sym, ◌∙◌, ap, ℕ, ◌+◌, ◌*◌, ◌-◌, List, [], ◌∷◌, ◌++◌, length, take, slice_index, replicate, map, Bool, true, false, ◌==◌, nat_le, if◌then◌else◌, arith}
use Rattle.std.proofs.lemmas.List.{length-map}
use Rattle.td_words.specs.Seen.{BundleSeen}
use Rattle.flat_core.specs.World.{Made}
use Rattle.flat_core.specs.Opening.{is_private_kind, public_bundle}
use Rattle.flat_core.specs.Run.{run, bundles_in}
use Rattle.flat_core.proofs.Tests.{by_test}
use Rattle.bundle_store.specs.Containers.{container_bytes}
use Rattle.bundle_texts.specs.Laws.{BundlesReadAgain}
use Rattle.bundle_texts.specs.Sealed.{key_of, additional_bytes, sealed_bytes, sealed}
use Rattle.bundle_texts.specs.Ordered.{put_in, in_slot_order, container_text}
use Rattle.bundle_texts.proofs.Sizes.{length-sealed_bytes}
use Rattle.isol_laws.specs.Worlds.{blind_run, BlindRunsMakeTheSameBundles, AgreeingRunsShowTheSame}
use Rattle.image_laws.specs.Covered.{covered, covered_bundle, covered_as, Hides, ContainersAreCovered, ContainersAgree, AlikeStatesShowTheSame, RunsShowTheSame}

-- the order of slots is that of the public parts
public_put : (m : Made) (ns : List Made) → map public_bundle (put_in m ns) ≡ put_in (public_bundle m) (map public_bundle ns)
public_put m [] = refl
public_put m (n ∷ ns) = by_test (nat_le m.slot n.slot) (λ y. rw y refl) (λ y. rw y (ap (λ (l : List Made). public_bundle n ∷ l) (public_put m ns)))

pub public_order : (ms : List Made) → map public_bundle (in_slot_order ms) ≡ in_slot_order (map public_bundle ms)
public_order [] = refl
public_order (m ∷ ms) = public_put m (in_slot_order ms) ∙ ap (put_in (public_bundle m)) (public_order ms)

-- a sealed bundle goes by its key alone
same_sealed : (forward backward forward' backward' : List ℕ) (m : Made) → key_of forward backward m.header ≡ key_of forward' backward' m.header → sealed_bytes forward backward m ≡ sealed_bytes forward' backward' m
same_sealed forward backward forward' backward' m same =
    by_test (m.header.kind == 6)
    (λ y. ap (λ (key : List ℕ). sealed_bytes forward key m) (rw y at same) ∙ rw y refl)
    (λ y. ap (λ (key : List ℕ). sealed_bytes key backward m) (rw y at same) ∙ rw y refl)

module _ (hides : ℕ → Bool) where
  -- what is left of a sealed bundle
  abbrev shown : (forward backward : List ℕ) → Made → BundleSeen
  shown forward backward m = record {
    slot = m.slot;
    bytes = if hides m.header.kind then additional_bytes m.header ++ replicate (16 + 8 * length m.payload) 0 else sealed_bytes forward backward m;
  }

  by_parts : (bytes head : List ℕ) (kind n : ℕ) → slice_index bytes 6 ≡ kind → take 48 bytes ≡ head → length bytes ≡ n
      → covered hides bytes ≡ (if hides kind then head ++ replicate (n - 48) 0 else bytes)
  by_parts bytes head kind n k h l = λ j. if hides (k j) then h j ++ replicate (l j - 48) 0 else bytes

  covered_shows : (forward backward : List ℕ) (m : Made) → covered_bundle hides (sealed forward backward m) ≡ shown forward backward m
  covered_shows forward backward m =
      let sum : 64 + 8 * length m.payload - 48 ≡ 16 + 8 * length m.payload = omega arith in
      let bytes =
      by_parts (sealed_bytes forward backward m) (additional_bytes m.header) m.header.kind (64 + 8 * length m.payload) refl refl (length-sealed_bytes forward backward m)
      ∙ ap (λ (n : ℕ). if hides m.header.kind then additional_bytes m.header ++ replicate n 0 else sealed_bytes forward backward m) sum in
      λ j. record { slot = m.slot; bytes = bytes j }

  module _ (forward backward forward' backward' : List ℕ) (hiding : Hides forward backward forward' backward' hides) where
    -- it is told of the bundle's public part, under either pair of keys
    public_shows : (m : Made) → shown forward backward m ≡ shown forward' backward' (public_bundle m)
    public_shows m = by_test (hides m.header.kind) hidden told
      where
        as_long : (private : Bool) → length m.payload ≡ length (if private then map (λ x. 0) m.payload else m.payload)
        as_long true = sym (length-map {A = ℕ} {B = ℕ} m.payload (λ x. 0))
        as_long false = refl

        hidden : hides m.header.kind ≡ true → shown forward backward m ≡ shown forward' backward' (public_bundle m)
        hidden y = rw y (ap (λ (n : ℕ). record { slot = m.slot; bytes = additional_bytes m.header ++ replicate (16 + 8 * n) 0 }) (as_long (is_private_kind m.header.kind)))

        told : hides m.header.kind ≡ false → shown forward backward m ≡ shown forward' backward' (public_bundle m)
        told y =
            let h = hiding m.header y in
            let bytes = same_sealed forward backward forward' backward' m h.1 in
            rw (y, h.0) (λ j. record { slot = m.slot; bytes = bytes j })

    -- so are all, in the order of their slots
    each_shows : (ms : List Made) → map (covered_bundle hides) (map (sealed forward backward) ms) ≡ map (shown forward' backward') (map public_bundle ms)
    each_shows [] = refl
    each_shows (m ∷ ms) = let one = covered_shows forward backward m ∙ public_shows m in λ j. one j ∷ each_shows ms j

    pub all_show : (ms : List Made) → map (covered_bundle hides) (map (sealed forward backward) (in_slot_order ms)) ≡ map (shown forward' backward') (in_slot_order (map public_bundle ms))
    all_show ms = each_shows (in_slot_order ms) ∙ ap (map (shown forward' backward')) (public_order ms)

pub containers_agree : ContainersAgree
containers_agree these those same hides forward backward forward' backward' hiding =
    let own : Hides forward' backward' forward' backward' hides = λ h y. ((hiding h y).0, refl) in
    ap container_bytes
    (all_show hides forward backward forward' backward' hiding these
    ∙ (ap (λ (l : List Made). map (shown hides forward' backward') (in_slot_order l)) same
    ∙ sym (all_show hides forward' backward' forward' backward' own those)))

pub alike_show : AlikeStatesShowTheSame
alike_show s t words alike = containers_agree (bundles_in s) (bundles_in t) alike.worlds.alike.bundles

-- what is read of a container is what was sealed
pub containers_are_covered : BundlesReadAgain → ContainersAreCovered
containers_are_covered again hides forward backward ms fit = ap (covered_as hides (container_text forward backward ms)) (again.container forward backward ms fit)

pub runs_show_the_same : BlindRunsMakeTheSameBundles → AgreeingRunsShowTheSame → RunsShowTheSame
runs_show_the_same bundles agreeing = record {
  blind = λ o schedule. containers_agree (bundles_in (run o schedule)) (bundles_in (blind_run o schedule)) (bundles o schedule);
  agreeing = λ o q schedule a told. containers_agree (bundles_in (run o schedule)) (bundles_in (run q schedule)) (agreeing o q schedule a told).1;
}
