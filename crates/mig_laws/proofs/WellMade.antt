-- One more bundle of a session leaves the list well made.
use Rattle.std.proofs.Common.{◌≡◌, ◌≢◌, refl, sym, ◌∙◌, ap, subst, ℕ, ◌+◌, ◌<◌, List, [], ◌∷◌, ◌++◌, length, true, false, ◌==◌, ◌&&◌, nat_lt, arith}
use Rattle.std.specs.List.{All, count_by}
use Rattle.std.proofs.lemmas.Bool.{eqb-true, ne_eqb, and_left, and_right, lt-ltb, eqb-false}
use Rattle.std.proofs.lemmas.List.Elements.{All-push, All-weaker}
use Rattle.flat_core.specs.World.{World, Made}
use Rattle.flat_core.specs.Effects.{add_bundle}
use Rattle.flat_core.specs.Sessions.{About, header_of, make_bundle, stream_page, stream_counter, bundles_so_far}
use Rattle.flat_core.proofs.Tests.{by_test, same_self}
use Rattle.mig_laws.specs.Ivs.{is_forward, IsExporting, IsCounted, IvsHold}
use Rattle.mig_laws.specs.WellMade.{is_of, is_on, is_token, IsBehind, ComesAfter, AreWellMade, AgreesWith, SessionAgrees, WellHolds}
use Rattle.mig_laws.proofs.Places.{IsPlaceOf, within, last, place_of_more, count-append, count_yes, count_no, count_same, sum_places, same_below}
use Rattle.mig_laws.proofs.Joined.{forward_of, session_of, on_of, on_streams}

-- what a TD's words say of the bundles of its session
abbrev pub AgreesWithOwn : World → (t session : ℕ) → Made → Type 0
AgreesWithOwn w t s b = is_of s b ≡ true → AgreesWith w t b

-- a list with one more
pub more_made : (bs : List Made) (new : Made) → AreWellMade bs → (is_forward new ≡ true → ComesAfter bs new) → AreWellMade (bs ++ new ∷ [])
more_made bs new h comes before after b is f = by (place_of_more bs before after new b is)
  where
    by : IsPlaceOf bs before new b → ComesAfter before b
    by (within back e) = h before back b e f
    by (last e same) =
        subst (λ (z : Made). ComesAfter before z) (sym same) (subst (λ (zs : List Made). ComesAfter zs new) (sym e) (comes (ap is_forward (sym same) ∙ f)))

-- All bundles of a session are on its TD's streams, so the sum of the streams' counters is their number.
pub session_total : (w : World) (t : ℕ) → IvsHold w → IsExporting w t → SessionAgrees w t → bundles_so_far w t ≡ count_by (is_of (w.tds.sessions t)) w.outgoing.bundles
session_total w t i exporting h =
    let s = w.tds.sessions t in
    let bs = w.outgoing.bundles in
    let n = length (w.tds.streams t) in
    sum_places w.streams.counters (w.tds.streams t)
    ∙ (same_below (λ k. stream_counter w t k) (λ k. count_by (is_on s k) bs) n h.counter
    ∙ (on_streams s n bs
    ∙ count_same (λ b. is_of s b && nat_lt b.header.stream n) (is_of s) bs
    (All-weaker (λ b. is_forward b ≡ true → b.header.session ≡ s → IsCounted w t b) (λ b. (is_of s b && nat_lt b.header.stream n) ≡ is_of s b) on bs (i.counted t exporting))))
  where
    on : (b : Made) → (is_forward b ≡ true → b.header.session ≡ w.tds.sessions t → IsCounted w t b) → (is_of (w.tds.sessions t) b && nat_lt b.header.stream (length (w.tds.streams t))) ≡ is_of (w.tds.sessions t) b
    on b h = by_test (is_of (w.tds.sessions t) b)
        (λ e. let m = (h (forward_of (w.tds.sessions t) b e) (session_of (w.tds.sessions t) b e)).stream in rw (e, lt-ltb b.header.stream (length (w.tds.streams t)) m) refl)
        (λ e. and_left (is_of (w.tds.sessions t) b) _ e ∙ sym e)

-- the token back to a source is of no session of one
pub well_back : (w : World) (token : Made) → token.header.kind ≡ 6 → WellHolds w → WellHolds (add_bundle token w)
well_back w token six h = record {
  made = more_made w.outgoing.bundles token h.made (λ f. absurd (let no : false ≡ true = rw six at f in cc));
  sessions = λ x b. (let says = h.sessions x (record { alive = b.alive; standing = b.standing }) in record {
    counter = λ k m. says.counter k m ∙ sym (count-append (is_on (w.tds.sessions x) k) w.outgoing.bundles (token ∷ []) ∙ none (w.tds.sessions x) k);
    each = All-push (AgreesWithOwn after x (w.tds.sessions x)) w.outgoing.bundles token
        (All-weaker (AgreesWithOwn w x (w.tds.sessions x)) (AgreesWithOwn after x (w.tds.sessions x))
        (λ c f e. (let k = f e in record { epoch = k.epoch; page = λ z n e. (let p = k.page z n e in record { exported = p.exported; first = p.first; last = p.last }); started = k.started })) w.outgoing.bundles says.each)
        (λ e. absurd (let no : false ≡ true = rw six at e in cc));
    room = says.room;
  });
}
  where
    after : World
    after = add_bundle token w

    none : (s k : ℕ) → count_by (is_on s k) w.outgoing.bundles + count_by (is_on s k) (token ∷ []) ≡ count_by (is_on s k) w.outgoing.bundles
    none s k = (let no = count_no (is_on s k) token [] (rw six refl) in omega (arith, no))

abbrev pub new_bundle : (t slot : ℕ) → About → List ℕ → World → Made
new_bundle t slot a payload w = record { slot = slot; header = header_of w t a; payload = payload }

-- a bundle of a TD whose export stands
module _ (t slot : ℕ) (a : About) (payload : List ℕ) (w : World) (i : IvsHold w) (h : WellHolds w) (exporting : IsExporting w t)
    (apart : (x k j : ℕ) → IsExporting w x → k < length (w.tds.streams x) → j < length (w.tds.streams t) → stream_page w x k ≡ stream_page w t j → (x ≡ t) × (k ≡ j))
    (there : a.stream < length (w.tds.streams t)) (zeroth : a.kind ≢ 3 → a.stream ≡ 0) (forward : (a.kind == 6) ≡ false)
    (total : is_token (new_bundle t slot a payload w) ≡ true → a.total ≡ bundles_so_far w t)
    (behind : All (λ c. is_of (w.tds.sessions t) c ≡ true → IsBehind (new_bundle t slot a payload w) c) w.outgoing.bundles)
    (agrees : AgreesWith w t (new_bundle t slot a payload w)) where
  abbrev v : World
  v = make_bundle t slot a payload w

  abbrev new : Made
  new = new_bundle t slot a payload w

  abbrev s : ℕ
  s = w.tds.sessions t

  abbrev bs : List Made
  bs = w.outgoing.bundles

  says : SessionAgrees w t
  says = h.sessions t exporting

  is_new : is_of s new ≡ true
  is_new = rw (same_self s, forward) refl

  comes : ComesAfter bs new
  comes = record { stream = zeroth; counter = says.counter a.stream there; total = λ k. total k ∙ session_total w t i exporting says; behind = behind }

  -- it is of no other session that stands
  off_of : (x : ℕ) → IsExporting w x → (x == t) ≡ false → is_of (w.tds.sessions x) new ≡ false
  off_of x e y = and_right (is_forward new) (s == w.tds.sessions x) (ne_eqb s (w.tds.sessions x) (λ same. eqb-false x t y (i.one x t e exporting (sym same))))

  before : (x : ℕ) → IsExporting v x → IsExporting w x
  before x e = record { alive = record { kind = e.alive.kind; life = e.alive.life }; standing = e.standing }

  agrees_still : (x : ℕ) (c : Made) → AgreesWith w x c → AgreesWith v x c
  agrees_still x c k = record { epoch = k.epoch; page = λ e n i. (let m = k.page e n i in record { exported = m.exported; first = m.first; last = m.last }); started = k.started }

  counter_other : (x k : ℕ) → IsExporting w x → k < length (w.tds.streams x) → (x ≡ t → k ≡ a.stream → ⊥) → stream_counter v x k ≡ stream_counter w x k
  counter_other x k e m off = by_test (stream_page w x k == stream_page w t a.stream)
      (λ y. absurd (let p = apart x k a.stream e m there (eqb-true (stream_page w x k) (stream_page w t a.stream) y) in off p.0 p.1))
      (λ y. rw y refl)

  each_agrees : (x : ℕ) → SessionAgrees w x → (is_of (w.tds.sessions x) new ≡ true → AgreesWith v x new) → All (AgreesWithOwn v x (w.tds.sessions x)) (bs ++ new ∷ [])
  each_agrees x old k = All-push (AgreesWithOwn v x (w.tds.sessions x)) bs new
      (All-weaker (AgreesWithOwn w x (w.tds.sessions x)) (AgreesWithOwn v x (w.tds.sessions x)) (λ c f e. agrees_still x c (f e)) bs old.each) k

  own : SessionAgrees v t
  own = record {
    counter = λ k m. by_test (k == a.stream)
        (λ y. subst (λ (z : ℕ). stream_counter v t z ≡ count_by (is_on s z) (bs ++ new ∷ [])) (sym (eqb-true k a.stream y))
        (let up : stream_counter v t a.stream ≡ stream_counter w t a.stream + 1 = rw (same_self (stream_page w t a.stream)) refl in
        omega (arith, up, says.counter a.stream there, count-append (is_on s a.stream) bs (new ∷ []), count_yes (is_on s a.stream) new [] (on_of s new is_new))))
        (λ y. let same = counter_other t k exporting m (λ b c. eqb-false k a.stream y c) in
        let off : is_on s k new ≡ false = and_right (is_of s new) (a.stream == k) (ne_eqb a.stream k (λ c. eqb-false k a.stream y (sym c))) in
        omega (arith, same, says.counter k m, count-append (is_on s k) bs (new ∷ []), count_no (is_on s k) new [] off));
    each = each_agrees t says (λ e. agrees_still t new agrees);
    room = says.room;
  }

  others : (x : ℕ) → IsExporting w x → (x == t) ≡ false → SessionAgrees v x
  others x e y =
      let old = h.sessions x e in
      let off = off_of x e y in
      record {
        counter = λ k m.
            let same = counter_other x k e m (λ b c. eqb-false x t y b) in
            let none : is_on (w.tds.sessions x) k new ≡ false = and_left (is_of (w.tds.sessions x) new) (a.stream == k) off in
            omega (arith, same, old.counter k m, count-append (is_on (w.tds.sessions x) k) bs (new ∷ []), count_no (is_on (w.tds.sessions x) k) new [] none);
        each = each_agrees x old (λ k. absurd (let no : true ≡ false = sym k ∙ off in cc));
        room = old.room;
      }

  pub made_well : WellHolds v
  made_well = record {
    made = more_made bs new h.made (λ f. comes);
    sessions = λ x b. by_test (x == t) (λ y. subst (λ (z : ℕ). SessionAgrees v z) (sym (eqb-true x t y)) own) (λ y. others x (before x b) y);
  }
