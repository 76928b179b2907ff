-- What a TD has that was imported up to its start token is what its source was at the pause.
use Rattle.std.proofs.Common.{◌≡◌, refl, sym, ◌∙◌, ap, subst, ℕ, ◌<◌, ◌≤◌, List, [], ◌∷◌, ◌++◌, length, map, Some, Bool, true, ◌==◌, ◌&&◌, nat_lt, arith}
use Rattle.std.specs.Prelude.{slice_get}
use Rattle.std.specs.List.{All, list_any}
use Rattle.std.proofs.lemmas.Bool.{eqb-true, and_parts, ltb-true, ltb-false}
use Rattle.std.proofs.lemmas.List.{length-map}
use Rattle.std.proofs.lemmas.List.Elements.{All-weaker}
use Rattle.std.proofs.lemmas.List.FromFn.{get_or-map-range_with_len}
use Rattle.std.proofs.lemmas.Option.{slice_get_within}
use Rattle.flat_core.specs.World.{World, VpImage, Image, Made}
use Rattle.flat_core.specs.Digests.{six_words}
use Rattle.flat_core.specs.Sessions.{payload_words}
use Rattle.flat_core.specs.Inputs.{word_given}
use Rattle.flat_core.specs.ExportRows.{vp_image, image_of}
use Rattle.flat_core.specs.BundleRows.{start_epoch}
use Rattle.flat_core.proofs.Tests.{by_test}
use Rattle.mig_laws.specs.Source.{last_payload}
use Rattle.mig_laws.specs.Paused.{image_words}
use Rattle.mig_laws.specs.WellMade.{is_of}
use Rattle.mig_laws.specs.Imported.{is_imported, last_imported, AreImported}
use Rattle.mig_laws.specs.States.{IsStateOf, IsVpState, vp_in_32_bits, in_32_bits}
use Rattle.mig_laws.specs.Image.{IsComplete, IsVpFrom, StartsAs, IsStarted, IsSource}
use Rattle.mig_laws.specs.Imports.{counts_of, IsVpGiven, HasState, ImportHolds}
use Rattle.mig_laws.proofs.Lists.{same_words}
use Rattle.mig_laws.proofs.Places.{at_place, in_front}
use Rattle.mig_laws.proofs.States.{place_of_map}

-- words that are made a payload, and given by it
pub given_again : (f : ℕ → ℕ) (n : ℕ) → payload_words (word_given (payload_words f n)) n ≡ payload_words f n
given_again f n = same_words (word_given (payload_words f n)) f 0 n (λ i low high. get_or-map-range_with_len f 0 n i i 0 (omega (arith, high)) (omega arith))

-- one that passes, where it stands
pub record IsFound (p : Made → Bool) (xs : List Made) : Type 0 where
  pub front : List Made
  pub back : List Made
  pub bundle : Made
  pub place : xs ≡ front ++ bundle ∷ back
  pub passes : p bundle ≡ true

pub found : (p : Made → Bool) (xs : List Made) → list_any p xs ≡ true → IsFound p xs
found p [] e = cc
found p (x ∷ xs) e = by_test (p x)
    (λ y. record { front = []; back = xs; bundle = x; place = refl; passes = y })
    (λ y. let f = found p xs (rw y at e) in record { front = x ∷ f.front; back = f.back; bundle = f.bundle; place = ap (λ (z : List Made). x ∷ z) f.place; passes = f.passes })

pub found_has : (P : Made → Type 0) (p : Made → Bool) (xs : List Made) (f : IsFound p xs) → All P xs → P f.bundle
found_has P p xs f h = at_place P f.front f.back f.bundle (subst (All P) f.place h)

-- none that was imported is of a later migration epoch than the last one
within_last : (s : ℕ) (counts : List ℕ) (epoch : ℕ) (bundles : List Made) → epoch ≤ start_epoch → AreImported s counts epoch bundles → AreImported s counts start_epoch bundles
within_last s counts epoch bundles low h = record {
  within = h.within;
  epochs = All-weaker (λ b. is_imported s counts b ≡ true → b.header.epoch ≤ epoch) (λ b. is_imported s counts b ≡ true → b.header.epoch ≤ start_epoch) (λ b f e. let own = f e in omega (arith, own, low)) bundles h.epochs;
}

module _ (source w : World) (t : ℕ) (src : IsSource source) (epoch : w.tds.mig_epochs t ≤ start_epoch) (h : ImportHolds source.outgoing.bundles w t) (c : IsComplete (w.tds.sessions t) (counts_of w t) source.outgoing.bundles) where
  abbrev s : ℕ
  s = w.tds.sessions t

  abbrev bundles : List Made
  bundles = source.outgoing.bundles

  sent : IsStarted source s c.before
  sent = src.started s c.before c.after c.token c.place c.start

  abbrev image : Image
  image = in_32_bits sent.image

  abbrev HasImported : Made → Type 0
  HasImported b = is_imported s (counts_of w t) b ≡ true → HasState w t b

  abbrev IsOfImage : Made → Type 0
  IsOfImage b = is_of s b ≡ true → IsStateOf image b

  -- a bundle that was made before the token is imported
  had : (p : Made → Bool) (f : IsFound p c.before) → is_of s f.bundle ≡ true → HasState w t f.bundle
  had p f own = found_has HasImported p c.before f (in_front HasImported c.before (c.token ∷ c.after) (subst (All HasImported) c.place h.states))
      (found_has (λ b. is_of s b ≡ true → is_imported s (counts_of w t) b ≡ true) p c.before f c.imported own)

  said : (p : Made → Bool) (f : IsFound p c.before) → is_of s f.bundle ≡ true → IsStateOf image f.bundle
  said p f own = found_has IsOfImage p c.before f (in_front IsOfImage c.before (c.token ∷ c.after) (subst (All IsOfImage) c.place sent.states)) own

  first_said : IsStateOf image h.begun.first
  first_said = at_place IsOfImage h.begun.before h.begun.after h.begun.first (subst (All IsOfImage) h.begun.place sent.states) h.begun.of_session

  mrtd_from : six_words (w.tds.mrtds t) ≡ six_words image.mrtd
  mrtd_from = ap six_words h.begun.mrtd ∙ ap (λ (z : List ℕ). six_words (word_given z)) (first_said.first h.begun.kind).0

  rtmrs_from : payload_words (w.hidden.rtmrs t) 24 ≡ payload_words image.rtmrs 24
  rtmrs_from =
      let f = found (λ b. is_of s b && b.header.kind == 1) c.before sent.td in
      let parts = and_parts (is_of s f.bundle) (f.bundle.header.kind == 1) f.passes in
      let kind = eqb-true f.bundle.header.kind 1 parts.1 in
      ap (λ (z : ℕ → ℕ). payload_words z 24) ((had _ f parts.0).td kind).1
      ∙ (ap (λ (z : List ℕ). payload_words (word_given z) 24) ((said _ f parts.0).td kind) ∙ given_again image.rtmrs 24)

  -- the virtual processor at an index of the image
  record IsVpAt (i : ℕ) : Type 0 where
    old : VpImage
    vp : ℕ
    there : slice_get image.vps i ≡ Some old
    here : slice_get (w.tds.vps t) i ≡ Some vp
    registers : payload_words (w.hidden.registers vp) 8 ≡ payload_words old.registers 8
    position : w.vps.positions vp ≡ old.position

  vp_found : (i : ℕ) → IsFound (λ b. is_of s b && (b.header.kind == 2 && b.header.index == i)) c.before → IsVpAt i
  vp_found i f =
      let parts = and_parts (is_of s f.bundle) _ f.passes in
      let more = and_parts (f.bundle.header.kind == 2) (f.bundle.header.index == i) parts.1 in
      let kind = eqb-true f.bundle.header.kind 2 more.0 in
      let index : f.bundle.header.index ≡ i = eqb-true f.bundle.header.index i more.1 in
      let g : IsVpGiven w t f.bundle = (had _ f parts.0).vp kind in
      let v : IsVpState image f.bundle = (said _ f parts.0).vp kind in
      record {
        old = v.vp;
        vp = g.vp;
        there = subst (λ (k : ℕ). slice_get image.vps k ≡ Some v.vp) index v.place;
        here = subst (λ (k : ℕ). slice_get (w.tds.vps t) k ≡ Some g.vp) index g.place;
        registers = ap (λ (z : ℕ → ℕ). payload_words z 8) g.registers ∙ (ap (λ (z : List ℕ). payload_words (word_given z) 8) v.words ∙ given_again v.vp.registers 8);
        position = g.position ∙ v.position;
      }

  vp_at : (i : ℕ) → i < length image.vps → IsVpAt i
  vp_at i few = vp_found i (found (λ b. is_of s b && (b.header.kind == 2 && b.header.index == i)) c.before (sent.vps i (let same = length-map sent.image.vps vp_in_32_bits in omega (arith, few, same))))

  abbrev known_vps : List VpImage
  known_vps = map (vp_image w) (w.tds.vps t)

  as_many : length known_vps ≡ length image.vps
  as_many =
      let said_many : h.begun.first.header.info ≡ length image.vps = (first_said.first h.begun.kind).1 in
      let most : length (w.tds.vps t) ≤ w.tds.vps_expected t = h.few in
      let expected = h.begun.expected in
      let least : length image.vps ≤ length (w.tds.vps t) = by_test (nat_lt (length (w.tds.vps t)) (length image.vps))
      (λ y. let at = vp_at (length (w.tds.vps t)) (ltb-true _ _ y) in let within = slice_get_within (w.tds.vps t) (length (w.tds.vps t)) at.vp at.here in absurd (omega (arith, within)))
      (λ y. ltb-false _ _ y) in
      omega (arith, length-map (w.tds.vps t) (vp_image w), said_many, most, expected, least)

  same_vp : (a b : VpImage) → Some a ≡ Some b → a ≡ b
  same_vp a b e = cc

  vps_from : (i : ℕ) (old new : VpImage) → slice_get image.vps i ≡ Some old → slice_get known_vps i ≡ Some new → IsVpFrom old new
  vps_from i old new e f =
      let at = vp_at i (slice_get_within image.vps i old e) in
      let was : at.old ≡ old = same_vp at.old old (sym at.there ∙ e) in
      let is : vp_image w at.vp ≡ new = same_vp (vp_image w at.vp) new (sym (place_of_map (vp_image w) (w.tds.vps t) i at.vp at.here) ∙ f) in
      subst (λ (z : VpImage). IsVpFrom z new) was (subst (λ (z : VpImage). IsVpFrom at.old z) is (record { registers = at.registers; position = at.position }))

  -- the TD has just the pages that have come, which are those that were sent before the token
  pages_come : (n : ℕ) → image_words (image_of w t) n ≡ last_imported s (counts_of w t) n bundles
  pages_come n = h.pages n

  pages_sent : (n : ℕ) → image_words (image_of w t) n ≡ last_payload s n c.before
  pages_sent n = pages_come n ∙ c.pages n

  pub starts_from_pause : StartsAs in_32_bits source s (image_of w t)
  starts_from_pause = record {
    image = sent.image;
    noted = sent.noted;
    from = record {
      pages = λ n words e. sent.pages n words (sym (pages_sent n) ∙ e);
      mrtd = mrtd_from;
      rtmrs = rtmrs_from;
      as_many = as_many;
      vps = vps_from;
    };
    sent = λ n. pages_sent n ∙ sym (sent.last n);
    come = record { counts = counts_of w t; within = within_last s (counts_of w t) (w.tds.mig_epochs t) bundles epoch h.have; complete = c; pages = pages_come };
  }
