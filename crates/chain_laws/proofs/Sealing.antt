-- What a module has made has the form of its type and words of 64 bits, so it opens as it was sealed, and by one key alone.
use Rattle.std.proofs.Common.{◌≡◌, refl, sym, ◌∙◌, ap, ℕ, zero, suc, ◌<◌, List, [], ◌∷◌, ◌++◌, None, Bool, true, false, not, ◌==◌, if◌then◌else◌, get_or, arith}
use Rattle.std.specs.Prelude.{IfSome}
use Rattle.std.specs.List.{All, filter}
use Rattle.std.proofs.lemmas.Bool.{ne_eqb}
use Rattle.std.proofs.lemmas.List.Elements.{All-nil, All-head, All-tail, All-append, All-filter, filter_passes}
use Rattle.flat_core.specs.World.{Made}
use Rattle.flat_core.specs.Run.{bundles_in}
use Rattle.flat_core.proofs.Tests.{by_test}
use Rattle.flat_words.specs.Words.{BringsWords, GivesWords, HasWords}
use Rattle.flat_bundles.specs.Ended.{ended_bundles}
use Rattle.mig_laws.specs.Ivs.{is_forward}
use Rattle.gcm_seal.specs.Gcm.{mixed, tag_bytes}
use Rattle.bundle_format.specs.Headers.{header_bytes}
use Rattle.flat_core.specs.Digests.{digest_bytes as word_bytes}
use Rattle.bundle_texts.specs.Sealed.{key_of, iv_bytes, additional_bytes, with_tag, sealed_bytes}
use Rattle.incoming.specs.Opened.{opened}
use Rattle.incoming.specs.Laws.{IsWhole}
use Rattle.incoming.proofs.Sealed.{sealed-comes-in}
use Rattle.image_laws.specs.Containers.{MakesWhole, as_made}
use Rattle.image_laws.proofs.IvBytes.{keys_go_by_type}
use Rattle.image_laws.proofs.Containers.{all_whole, whole_is_kept}
use Rattle.chain_laws.specs.Chains.{Chain, Running, state_of, comes_forward, comes_back, in_slot, inputs, opening_now, chain_event, first_modules, at_moment}
use Rattle.chain_laws.specs.Keys.{link_after, link_before, forward_place, backward_place}
use Rattle.chain_laws.specs.Sealing.{key_at, forward_seal, backward_seal, forward_open, backward_open, sealed_at, opened_at, KeysGoByPlace, GivesChainWords, LinksAreSealed}
use Rattle.chain_laws.proofs.Turns.{module_keeps, chain_keeps}
use Rattle.chain_laws.proofs.Grown.{ended_made}

slot_words : (slot : ℕ) (bs : List Made) → All HasWords bs → IfSome (in_slot bs slot) BringsWords
slot_words slot [] h = tt
slot_words slot (b ∷ bs) h = by_test (b.slot == slot)
    (λ y. rw y (All-head HasWords b bs h))
    (λ y. rw y (slot_words slot bs (All-tail HasWords b bs h)))

module _ (c : Chain) (gives : GivesChainWords c) where
  abbrev AllWhole : Running → Type 0
  AllWhole r = (i : ℕ) → MakesWhole (c.openings i) (state_of r i)

  forward_words : (r : Running) → AllWhole r → (i : ℕ) → All HasWords (comes_forward c r.modules i)
  forward_words r h zero = All-nil HasWords
  forward_words r h (suc i) = All-filter is_forward HasWords (ended_bundles (c.openings i) (state_of r i)) (ended_made (c.openings i) (state_of r i) HasWords (h i).words.made)

  back_words : (r : Running) → AllWhole r → (i : ℕ) → All HasWords (comes_back c r.modules i)
  back_words r h i = All-filter (λ m. not (is_forward m)) HasWords (ended_bundles (c.openings (suc i)) (state_of r (suc i))) (ended_made (c.openings (suc i)) (state_of r (suc i)) HasWords (h (suc i)).words.made)

  gives_now : (r : Running) → AllWhole r → (i : ℕ) → GivesWords (opening_now c r.modules i)
  gives_now r h i = record {
    calls = (gives.words i).calls;
    codes = (gives.words i).codes;
    bundles = λ slot. slot_words slot _ (All-append HasWords (comes_forward c r.modules i) (comes_back c r.modules i) (forward_words r h i) (back_words r h i));
    secrets = (gives.words i).secrets;
  }

  event_whole : (r : Running) (x : ℕ) → AllWhole r → AllWhole (chain_event c r x)
  event_whole r x h i = module_keeps (λ s. MakesWhole (c.openings i) s) c r x i (h i)
      (λ p. whole_is_kept.event (c.openings i) (inputs c r.modules i) (state_of r i) p (gives.short i) (gives_now r h i) (h i))

  each_whole : (turns : List ℕ) → AllWhole (at_moment c turns)
  each_whole turns = chain_keeps c AllWhole event_whole turns (first_modules c) (λ i. whole_is_kept.start (c.openings i) None (gives.short i) tt)

  -- so is each bundle whose call has ended
  ended_whole : (turns : List ℕ) (i : ℕ) (f b : List ℕ) → All (IsWhole f b) (ended_bundles (c.openings i) (state_of (at_moment c turns) i))
  ended_whole turns i f b =
      let s = state_of (at_moment c turns) i in
      ended_made (c.openings i) s (IsWhole f b) (all_whole f b (bundles_in s) (whole_is_kept.bundles (c.openings i) s (each_whole turns i)))

-- a bundle that goes one way is sealed with the key of that way alone
same_sealed : (f b f' b' : List ℕ) (m : Made) → key_of f b m.header ≡ key_of f' b' m.header → sealed_bytes f b m ≡ sealed_bytes f' b' m
same_sealed f b f' b' m e = ap (λ (k : List ℕ).
    let text = mixed k (iv_bytes m.header) (word_bytes m.payload) in
    header_bytes (with_tag (tag_bytes k (iv_bytes m.header) (additional_bytes m.header) text) m.header) ++ text) e

by_way : (f b : List ℕ) (m : Made) (way : Bool) → is_forward m ≡ way → key_of f b m.header ≡ (if way then f else b)
by_way f b m way e = keys_go_by_type f b m ∙ ap (λ (x : Bool). if x then f else b) e

module _ (c : Chain) (keys : List ℕ) (i : ℕ) (within : suc i < c.count) where
  one_link : link_after c i ≡ link_before (suc i)
  one_link = let off : (suc i == c.count) ≡ false = ne_eqb (suc i) c.count (λ e. omega (arith, e, within)) in rw off (omega arith)

  forward_same : (m : Made) → is_forward m ≡ true → IsWhole (forward_open keys (suc i)) (backward_open c keys (suc i)) m
      → opened_at c keys (suc i) (sealed_at c keys i m) ≡ as_made m
  forward_same m way whole =
      let f : List ℕ = forward_open keys (suc i) in
      let b : List ℕ = backward_open c keys (suc i) in
      let same : sealed_at c keys i m ≡ sealed_bytes f b m = same_sealed (forward_seal c keys i) (backward_seal keys i) f b m
      (by_way (forward_seal c keys i) (backward_seal keys i) m true way ∙ (ap (λ (n : ℕ). key_at keys (forward_place n)) one_link ∙ sym (by_way f b m true way))) in
      ap (λ (bytes : List ℕ). opened f b bytes) same ∙ sealed-comes-in f b m whole

  back_same : (m : Made) → is_forward m ≡ false → IsWhole (forward_open keys i) (backward_open c keys i) m
      → opened_at c keys i (sealed_at c keys (suc i) m) ≡ as_made m
  back_same m way whole =
      let f : List ℕ = forward_open keys i in
      let b : List ℕ = backward_open c keys i in
      let same : sealed_at c keys (suc i) m ≡ sealed_bytes f b m = same_sealed (forward_seal c keys (suc i)) (backward_seal keys (suc i)) f b m
      (by_way (forward_seal c keys (suc i)) (backward_seal keys (suc i)) m false way ∙ (ap (λ (n : ℕ). key_at keys (backward_place n)) (sym one_link) ∙ sym (by_way f b m false way))) in
      ap (λ (bytes : List ℕ). opened f b bytes) same ∙ sealed-comes-in f b m whole

not_true : (x : Bool) → not x ≡ true → x ≡ false
not_true true e = cc
not_true false e = refl

pub links_are_sealed : LinksAreSealed
links_are_sealed c keys turns i gives within =
    let r : Running = at_moment c turns in
    let front : List Made = ended_bundles (c.openings i) (state_of r i) in
    let behind : List Made = ended_bundles (c.openings (suc i)) (state_of r (suc i)) in
    let backward : Made → Bool = λ m. not (is_forward m) in
    record {
      forward = λ k d low. forward_same c keys i within (get_or (filter is_forward front) k d) (filter_passes is_forward front k d low)
          (All-filter is_forward (IsWhole (forward_open keys (suc i)) (backward_open c keys (suc i))) front
          (ended_whole c gives turns i (forward_open keys (suc i)) (backward_open c keys (suc i))) k d low);
      back = λ k d low. back_same c keys i within (get_or (filter backward behind) k d) (not_true _ (filter_passes backward behind k d low))
          (All-filter backward (IsWhole (forward_open keys i) (backward_open c keys i)) behind
          (ended_whole c gives turns (suc i) (forward_open keys i) (backward_open c keys i)) k d low);
    }

pub keys_go_by_place : KeysGoByPlace
keys_go_by_place c keys i b = keys_go_by_type (forward_seal c keys i) (backward_seal keys i) b ∙ by (is_forward b)
  where
    by : (way : Bool) → (if way then forward_seal c keys i else backward_seal keys i) ≡ key_at keys (if way then forward_place (link_after c i) else backward_place (link_before i))
    by true = refl
    by false = refl
