-- What a run has sealed comes in as it was made, so nothing of it is forged.
use Rattle.std.proofs.Common.{◌≡◌, ◌≢◌, ◌<◌, refl, sym, ◌∙◌, ap, subst, ℕ, List, [], ◌∷◌, ◌++◌, map, get_or, Some, Ok, Result, ◌==◌, nat_le, lit<, arith}
use Rattle.std.specs.Prelude.{IfSome, AllPairs}
use Rattle.std.specs.List.{All}
use Rattle.std.proofs.lemmas.Bool.{eq-eqb, ne_eqb}
use Rattle.std.proofs.lemmas.List.Elements.{All-nil, All-cons, All-head, All-tail}
use Rattle.std.proofs.lemmas.List.Sorted.{All-permutation, IsPermutation-sym}
use Rattle.td_words.specs.declared.names.HeaderField.{HeaderField}
use Rattle.flat_core.specs.World.{ClearHeader, Made}
use Rattle.flat_core.specs.Opening.{Opening, Incoming}
use Rattle.flat_core.specs.Event.{State, start, event}
use Rattle.flat_core.specs.Run.{play, bundles_in}
use Rattle.flat_core.specs.Laws.{with_bundles, reached}
use Rattle.flat_core.proofs.Tests.{by_test}
use Rattle.flat_words.specs.Words.{IsWord, AreWords, BringsWords, HasWords}
use Rattle.flat_words.proofs.Words.{events_keep_words}
use Rattle.flat_bundles.specs.Formed.{IsFormed}
use Rattle.flat_bundles.proofs.Formed.{forms_kept}
use Rattle.mig_laws.specs.Image.{IsMade, Unforged}
use Rattle.mig_laws.proofs.Places.{by_places, at_place}
use Rattle.mig_laws.proofs.Destination.{destination_kept, starts_from_its_pause}
use Rattle.bundle_texts.specs.Sealed.{key_of, iv_bytes, additional_bytes, sealed_payload, tag_of, sealed_bytes, sealed}
use Rattle.bundle_texts.specs.Ordered.{put_in, in_slot_order}
use Rattle.bundle_texts.proofs.Order.{Rise, order_moves, order_rises}
use Rattle.bundle_texts.proofs.Pairs.{pairs_head, pairs_tail}
use Rattle.bundle_texts.proofs.Sizes.{length-tag_bytes, length-word_bytes}
use Rattle.incoming.specs.Opened.{opened}
use Rattle.incoming.specs.Arrivals.{incoming_in, at_slot}
use Rattle.incoming.specs.Laws.{IsWhole}
use Rattle.incoming.proofs.Sealed.{sealed-comes-in}
use Rattle.image_laws.specs.Containers.{brought, as_made, AreWhole, MakesWhole, WholeIsKept, RunsMakeWhole, ContainersBringBundles, ComeOf, NothingIsForged, ContainersBringWords, ImagesAreKept, ContainersBringImages}

-- what holds of bundles holds of them in the order of their slots
put_holds : (P : Made → Type 0) (m : Made) (ns : List Made) → P m → All P ns → All P (put_in m ns)
put_holds P m [] p h = All-cons P m [] p h
put_holds P m (n ∷ ns) p h = by_test (nat_le m.slot n.slot)
    (λ y. rw y (All-cons P m (n ∷ ns) p h))
    (λ y. rw y (All-cons P n (put_in m ns) (All-head P n ns h) (put_holds P m ns p (All-tail P n ns h))))

pub order_holds : (P : Made → Type 0) (ms : List Made) → All P ms → All P (in_slot_order ms)
order_holds P [] h = All-nil P
order_holds P (m ∷ ms) h = put_holds P m (in_slot_order ms) (All-head P m ms h) (order_holds P ms (All-tail P m ms h))

same_ok : (a b : ClearHeader) (r : Result ClearHeader HeaderField) → r ≡ Ok a → r ≡ Ok b → a ≡ b
same_ok a b r e f = let same = sym e ∙ f in cc

same_some : (a b : Incoming) → Some a ≡ Some b → a ≡ b
same_some a b e = cc

module _ (forward backward : List ℕ) (made : List Made) where
  abbrev Whole : Made → Type 0
  Whole = IsWhole forward backward

  whole_at : (m : Made) → IsFormed m → HasWords m → Whole m
  whole_at m form words = record {
    lawful = form.lawful (tag_of forward backward m) (length-tag_bytes (key_of forward backward m.header) (iv_bytes m.header) (additional_bytes m.header) (sealed_payload forward backward m));
    whole = length-word_bytes m.payload ∙ form.whole (tag_of forward backward m);
    words = words;
  }

  each_whole : All IsFormed made → All HasWords made → All Whole made
  each_whole forms words k d inside = whole_at (get_or made k d) (forms k d inside) (words k d inside)

  -- each comes in as it was made, in its slot
  abbrev StandsIn : List Made → Made → Type 0
  StandsIn ms m = at_slot (map (incoming_in forward backward) (map (sealed forward backward) ms)) m.slot ≡ Some (as_made m)

  stand_in : (ms : List Made) → All Whole ms → Rise ms → All (StandsIn ms) ms
  stand_in [] whole rise = All-nil (StandsIn [])
  stand_in (m ∷ ms) whole rise =
      let rest : All (StandsIn ms) ms = stand_in ms (All-tail Whole m ms whole) (pairs_tail (λ (x y : Made). x.slot < y.slot) m ms rise) in
      let above : All (λ n. m.slot < n.slot) ms = pairs_head (λ (x y : Made). x.slot < y.slot) m ms rise in
      All-cons (StandsIn (m ∷ ms)) m ms first (λ k d inside. later (get_or ms k d) (above k d inside) (rest k d inside))
    where
      first : StandsIn (m ∷ ms) m
      first = rw (eq-eqb m.slot m.slot refl) (ap (λ (z : Incoming). Some z) (sealed-comes-in forward backward m (All-head Whole m ms whole)))

      later : (n : Made) → m.slot < n.slot → StandsIn ms n → StandsIn (m ∷ ms) n
      later n above there = rw (ne_eqb m.slot n.slot (λ e. omega (arith, above, e))) there

  -- what one of them opens to is among them
  abbrev Opens : Made → Type 0
  Opens m = (b : Incoming) (h : ClearHeader) → opened forward backward (sealed_bytes forward backward m) ≡ b → b.header ≡ Ok h → IsMade h b.payload made

  opens_at : (front back : List Made) (m : Made) → made ≡ front ++ m ∷ back → Whole m → Opens m
  opens_at front back m place whole b h is has =
      let same = sym (sealed-comes-in forward backward m whole) ∙ is in
      record { before = front; after = back; bundle = m; place = place; same_header = same_ok m.header h b.header (ap (λ (z : Incoming). z.header) (sym same)) has; same_words = ap (λ (z : Incoming). z.payload) same }

  each_opens : All Whole made → All Opens made
  each_opens whole = by_places Opens made (λ front back m is. opens_at front back m is (at_place Whole front back m (subst (All Whole) is whole)))

  -- so is what comes in
  come_in : (ms : List Made) → All Opens ms → (slot : ℕ) (b : Incoming) (h : ClearHeader) → at_slot (map (incoming_in forward backward) (map (sealed forward backward) ms)) slot ≡ Some b → b.header ≡ Ok h → IsMade h b.payload made
  come_in [] opens slot b h is has = cc
  come_in (m ∷ ms) opens slot b h is has = by_test (m.slot == slot)
      (λ y. All-head Opens m ms opens b h (same_some (opened forward backward (sealed_bytes forward backward m)) b (rw y at is)) has)
      (λ y. come_in ms (All-tail Opens m ms opens) slot b h (rw y at is) has)

  -- and it brings words
  brings : (ms : List Made) → All Whole ms → (slot : ℕ) → IfSome (at_slot (map (incoming_in forward backward) (map (sealed forward backward) ms)) slot) BringsWords
  brings [] whole slot = tt
  brings (m ∷ ms) whole slot = by_test (m.slot == slot)
      (λ y. let own = All-head Whole m ms whole in rw y (subst BringsWords (sym (sealed-comes-in forward backward m own)) own.words))
      (λ y. rw y (brings ms (All-tail Whole m ms whole) slot))

  pub all_whole : AreWhole made → All Whole made
  all_whole are = each_whole are.forms are.words

  pub arrive : AreWhole made → AllPairs (λ m n. m.slot ≢ n.slot) made → All (λ m. brought forward backward made m.slot ≡ Some (as_made m)) made
  arrive are apart =
      All-permutation (λ m. brought forward backward made m.slot ≡ Some (as_made m)) (in_slot_order made) made (IsPermutation-sym made (in_slot_order made) (order_moves made))
      (stand_in (in_slot_order made) (order_holds Whole made (all_whole are)) (order_rises made apart))

  pub unforged : AreWhole made → (o : Opening) → ComeOf forward backward made o.bundles → Unforged o made
  unforged are o of slot b h is has opens kind =
      come_in (in_slot_order made) (order_holds Opens made (each_opens (all_whole are))) slot b h (of slot b is) has

  pub bring_words : AreWhole made → (slot : ℕ) → IfSome (brought forward backward made slot) BringsWords
  bring_words are = brings (in_slot_order made) (order_holds Whole made (all_whole are))

-- ---- what a run makes

none_told : AreWords (λ i. 0)
none_told i = lit< tt

pub whole_is_kept : WholeIsKept
whole_is_kept = record {
  bundles = λ o s h. record { forms = h.forms.formed; words = h.words.made };
  start = λ o ws short telling. record {
    timely = (forms_kept.start o ws).0;
    forms = (forms_kept.start o ws).1 short;
    words = record { memory = λ p. none_told; registers = λ v. none_told; rtmrs = λ t. none_told; mrtds = λ t. none_told; known = λ t g. tt; told = All-nil IsWord; to_tell = telling; made = All-nil HasWords };
  };
  event = λ o bundles s p short gives h. (let next = forms_kept.event o bundles s p (h.timely, λ given. h.forms) in
      record { timely = next.0; forms = next.1 short; words = events_keep_words (with_bundles o bundles) s p gives h.words });
}

pub runs_make_whole : RunsMakeWhole
runs_make_whole o ws schedule short gives telling = whole_is_kept.bundles o (reached o ws schedule) (by schedule (start o ws) (whole_is_kept.start o ws short telling))
  where
    by : (ps : List ℕ) (s : State) → MakesWhole o s → MakesWhole o (play o ps s)
    by [] s h = h
    by (p ∷ ps) s h = by ps (event o s p) (whole_is_kept.event o o.bundles s p short gives h)

-- ---- what their container brings over

pub containers_bring_bundles : ContainersBringBundles
containers_bring_bundles = arrive

pub nothing_is_forged : NothingIsForged
nothing_is_forged = unforged

pub containers_bring_words : ContainersBringWords
containers_bring_words = bring_words

pub images_are_kept : ImagesAreKept
images_are_kept forward backward source src whole =
    let kept = destination_kept source src in
    record { start = kept.start; event = λ o bundles s p of h. kept.event o bundles s p (unforged forward backward source.outgoing.bundles whole (with_bundles o bundles) of) h }

pub containers_bring_images : ContainersBringImages
containers_bring_images forward backward q to_tell schedule short whole o ws events of session start e =
    (starts_from_its_pause q to_tell schedule o ws events (unforged forward backward (bundles_in (reached q to_tell schedule)) whole o of) session start e).exact short
