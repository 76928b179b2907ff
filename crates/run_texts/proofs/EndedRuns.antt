-- While a run goes on, a processor's bundles are those of the flat machine in slots of its lines, and it shows those that have
-- ended there.
use Rattle.std.proofs.Common.{◌≡◌, ◌≢◌, ◌⊎◌, inl, inr, refl, sym, ◌∙◌, ap, subst, ℕ, zero, suc, ◌+◌, ◌<◌, ◌≤◌, List, [], ◌∷◌, ◌++◌, length, set, take, Option, Some, None, Bool, true, false, ◌==◌, arith, append-nil}
use Rattle.std.specs.Prelude.{AllPairs, filter}
use Rattle.std.proofs.Math.ListN.{length-set}
use Rattle.std.specs.List.Sorted.{IsPermutation}
use Rattle.std.proofs.lemmas.Bool.Decides.{eqb_tells}
use Rattle.std.proofs.lemmas.List.Sorted.{IsPermutation-refl, IsPermutation-sym, IsPermutation-trans, IsPermutation-cons, IsPermutation-middle, IsPermutation-append_right}
use Rattle.td_words.specs.declared.calls.Call.{Call}
use Rattle.td_words.specs.Slots.{output_slots}
use Rattle.flat_core.specs.World.{Made}
use Rattle.flat_core.specs.Opening.{Opening}
use Rattle.flat_core.specs.Event.{State, start, calls_of, lines_left, event}
use Rattle.flat_core.specs.Run.{play, bundles_in}
use Rattle.flat_core.proofs.Tests.{by_test, same_self}
use Rattle.flat_core.proofs.Induction.{counts_stay, in_runs}
use Rattle.flat_bundles.specs.Bundles.{AreFitting, times, slots_of}
use Rattle.flat_bundles.specs.Ended.{is_named, ended_of, own_of, all_left, has_ended, ended_bundles}
use Rattle.flat_bundles.proofs.Times.{by-one}
use Rattle.flat_bundles.proofs.Bundles.{lines_kept}
use Rattle.flat_bundles.proofs.Steps.{IsAnswered}
use Rattle.flat_bundles.proofs.OwnEnded.{one-names, times-named, own_have_ended, MakesOwn, event-makes, own-more, own-same, all-ended, event-exits, guest-unanswered}
use Rattle.step_core.specs.Items.{Table, PlaysTo}
use Rattle.leaf_engine.specs.declared.events.Event.{Event}
use Rattle.leaf_engine.specs.Trees.{added}
use Rattle.leaf_engine.specs.OwnLists.{Piece, taken_in, LeafTable, WordLp, first_lp, LpTurns}
use Rattle.leaf_engine.specs.Merges.{Item, order, AreLeaves, AreCodes}
use Rattle.leaf_engine.specs.Following.{StandsOn, IsRunning, IsFollowed, ProcessorsFollow}
use Rattle.merge_laws.specs.Merge.{Merge}
use Rattle.merge_laws.specs.Laws.{IsWhere, MergesAreRuns}
use Rattle.merge_laws.proofs.Gathered.{bundles_from, same-from}
use Rattle.leaf_dispatch.specs.Ended.{ended_in}
use Rattle.leaf_dispatch.specs.States.{seen_of}
use Rattle.leaf_dispatch.specs.declared.states.LpState.{LpState}
use Rattle.run_texts.specs.Replaying.{seen_at, EndedAreShown}
use Rattle.run_texts.proofs.Making.{same-bundles}
use Rattle.run_texts.proofs.Places.{seen-own, seen-other}
use Rattle.run_texts.proofs.EndedTurns.{ShowsEnded, Around, turn-shows}

-- what is put at a list's end is known by the whole
same-behind : (xs ys zs : List Made) → xs ++ ys ≡ xs ++ zs → ys ≡ zs
same-behind [] ys zs e = e
same-behind (x ∷ xs) ys zs e = same-behind xs ys zs (ap rest e)
  where
    rest : List Made → List Made
    rest [] = []
    rest (w ∷ ws) = ws

was-added : (xs ys zs : List Made) → added xs ys ≡ xs ++ zs → ys ≡ zs
was-added xs [] zs e = same-behind xs [] zs (append-nil xs ∙ e)
was-added xs (y ∷ ys) zs e = same-behind xs (y ∷ ys) zs e

-- A turn keeps both, of the processor that makes it and of each other.
module _ (merges : MergesAreRuns) (follow : ProcessorsFollow) (o : Opening) (leaf : ℕ → LeafTable) (few : length o.calls ≤ 8) (leaves : AreLeaves o leaf) (codes : AreCodes o) (apart : AllPairs (λ a b. a ≢ b) (output_slots o.calls)) (made : List Item) (now : ℕ → WordLp) (t t' : Table) (merge : Merge o leaf made now t) (p : ℕ) (inside : p < length o.calls) (e : Event) (ps : List Piece) (after : WordLp) (turn : LpTurns (leaf p) o.machine (now p) e ps after) (did : PlaysTo t (taken_in ps) t') where
  abbrev s : State
  s = play o (order made) (start o None)

  abbrev s' : State
  s' = event o s p

  abbrev own : ℕ → State → List Made
  own q x = own_of (calls_of o.calls q) (bundles_in x)

  other-own : (q : ℕ) → p ≢ q → own q s' ≡ own q s
  other-own q ne = by (event-makes o s p)
    where
      by : (bundles_in s' ≡ bundles_in s) ⊎ MakesOwn o s p s' → own q s' ≡ own q s
      by (inl same) = ap (own_of (calls_of o.calls q)) same
      by (inr one) = own-same o s p s' one apart q ne

  stood : StandsOn o (leaf p) p s t (now p)
  stood = merges.stand o leaf made now t few leaves codes merge p inside

  goes-on : IsRunning o s
  goes-on = follow.runs o (order made) few

  followed : IsFollowed o (leaf p) p s t' (now p) after
  followed = follow.follow o leaf p s t t' (now p) after e ps leaves codes goes-on (let count = counts_stay o (order made) (start o None) in omega (arith, count, inside)) stood turn did

  fits : AreFitting o s
  fits = (in_runs _ lines_kept o None (order made)).0

  fits' : AreFitting o s'
  fits' = (lines_kept.event o o.bundles s p (in_runs _ lines_kept o None (order made))).0

  module _ (was : (now p).beside.bundles ≡ own p s) where
    more-is : (zs : List Made) → bundles_in s' ≡ bundles_in s ++ zs → after.beside.bundles ≡ added (now p).beside.bundles zs
    more-is zs is = followed.own_bundles ∙ ap (added (now p).beside.bundles) (was-added (bundles_in s) followed.more zs (sym followed.bundles ∙ is))

    own-after : after.beside.bundles ≡ own p s'
    own-after = by (event-makes o s p)
      where
        by : (bundles_in s' ≡ bundles_in s) ⊎ MakesOwn o s p s' → after.beside.bundles ≡ own p s'
        by (inl same) = more-is [] (same ∙ sym (append-nil (bundles_in s))) ∙ (was ∙ sym (ap (own_of (calls_of o.calls p)) same))
        by (inr one) = more-is (one.bundle ∷ []) one.added ∙ (ap (λ (xs : List Made). xs ++ one.bundle ∷ []) was ∙ sym (own-more o s p s' one))

    around : Around s s' p (now p) after
    around = record {
      was_idle = λ none.
          subst (λ (ls : List Call). ended_of ls (now p).beside.bundles ≡ (now p).beside.bundles) stood.stands.lines
          (subst (λ (bs : List Made). ended_of (lines_left o p (s.lps p)) bs ≡ bs) (sym was) (all-ended o s fits apart p none));
      idle = λ none.
          subst (λ (ls : List Call). ended_of ls after.beside.bundles ≡ after.beside.bundles) followed.stands.stands.lines
          (subst (λ (bs : List Made). ended_of (lines_left o p (s'.lps p)) bs ≡ bs) (sym own-after) (all-ended o s' fits' apart p none));
      makes = by (event-makes o s p);
      exits = event-exits o s p;
      unanswered = λ g. guest-unanswered o s p g goes-on.timely;
    }
      where
        by : (bundles_in s' ≡ bundles_in s) ⊎ MakesOwn o s p s'
            → (after.beside.bundles ≡ (now p).beside.bundles) ⊎ ((b : Made) × (after.beside.bundles ≡ (now p).beside.bundles ++ b ∷ []) × (is_named (now p).lines b ≡ true) × IsAnswered (s.lps p) (s'.lps p))
        by (inl same) = inl (more-is [] (same ∙ sym (append-nil (bundles_in s))))
        by (inr one) = inr (one.bundle, more-is (one.bundle ∷ []) one.added, subst (λ (ls : List Call). is_named ls one.bundle ≡ true) stood.stands.lines one.named, one.is_answered)

    shows-own : ShowsEnded (now p) → ShowsEnded after
    shows-own shows = turn-shows o (leaf p) o.machine p s s' stood.memory.words followed.stands.memory.words (now p) after e ps shows stood.stands turn around followed.stands.stands

-- Each bundle of a run is one processor's own, so that all processors' together are all.
pub record IsOwn (calls : List (List Call)) (b : Made) (p : ℕ) : Type 0 where
  pub inside : p < length calls
  pub named : is_named (calls_of calls p) b ≡ true
  pub others : (q : ℕ) → p ≢ q → is_named (calls_of calls q) b ≡ false

abbrev pub AreOwned : List (List Call) → List Made → Type 0
AreOwned calls [] = Unit {0}
AreOwned calls (b ∷ bs) = ((p : ℕ) × IsOwn calls b p) × AreOwned calls bs

module _ (calls : List (List Call)) where
  abbrev owns : List Made → ℕ → List Made
  owns bs q = own_of (calls_of calls q) bs

  others-own : (b : Made) (p : ℕ) (bs : List Made) → IsOwn calls b p → (q : ℕ) → p ≢ q → owns (b ∷ bs) q ≡ owns bs q
  others-own b p bs h q ne = let no = h.others q ne in rw no refl

  one-from : (b : Made) (p : ℕ) (bs : List Made) → IsOwn calls b p → (n k : ℕ) → k ≤ p → p < k + n → IsPermutation (b ∷ bundles_from n k (owns bs)) (bundles_from n k (owns (b ∷ bs)))
  one-from b p bs h zero k low high = absurd (omega (arith, low, high))
  one-from b p bs h (suc n) k low high = by (λ after. one-from b p bs h n (k + 1) after (omega (arith, high))) (eqb_tells p k)
    where
      rest : List Made
      rest = bundles_from n (k + 1) (owns bs)

      by : (k + 1 ≤ p → IsPermutation (b ∷ rest) (bundles_from n (k + 1) (owns (b ∷ bs)))) → (((p == k) ≡ true) × (p ≡ k)) ⊎ (((p == k) ≡ false) × (p ≢ k))
          → IsPermutation (b ∷ (owns bs k ++ rest)) (owns (b ∷ bs) k ++ bundles_from n (k + 1) (owns (b ∷ bs)))
      by further (inl t) =
          let named : is_named (calls_of calls k) b ≡ true = subst (λ (q : ℕ). is_named (calls_of calls q) b ≡ true) t.1 h.named in
          let here : owns (b ∷ bs) k ≡ b ∷ owns bs k = rw named refl in
          let there : bundles_from n (k + 1) (owns (b ∷ bs)) ≡ rest = same-from n (k + 1) (owns (b ∷ bs)) (owns bs) (λ q low high. others-own b p bs h q (λ e. absurd (omega (arith, e, low, t.1)))) in
          subst (IsPermutation (b ∷ (owns bs k ++ rest))) (sym (λ i. here i ++ there i)) (IsPermutation-refl (b ∷ (owns bs k ++ rest)))
      by further (inr f) =
          let here : owns (b ∷ bs) k ≡ owns bs k = others-own b p bs h k f.1 in
          let other : List Made = bundles_from n (k + 1) (owns (b ∷ bs)) in
          subst (IsPermutation (b ∷ (owns bs k ++ rest))) (sym (ap (λ (xs : List Made). xs ++ other) here))
          (IsPermutation-trans (b ∷ (owns bs k ++ rest)) (owns bs k ++ b ∷ rest) (owns bs k ++ other)
          (IsPermutation-sym (owns bs k ++ b ∷ rest) (b ∷ (owns bs k ++ rest)) (IsPermutation-middle (owns bs k) b rest))
          (IsPermutation-append_right (owns bs k) (b ∷ rest) other (further (omega (arith, low, f.1)))))

  no-bundles : (n k : ℕ) → bundles_from n k (owns []) ≡ []
  no-bundles zero k = refl
  no-bundles (suc n) k = no-bundles n (k + 1)

  gathered : (bs : List Made) → AreOwned calls bs → IsPermutation bs (bundles_from (length calls) 0 (owns bs))
  gathered [] h = subst (IsPermutation []) (sym (no-bundles (length calls) 0)) (IsPermutation-refl [])
  gathered (b ∷ bs) h =
      IsPermutation-trans (b ∷ bs) (b ∷ bundles_from (length calls) 0 (owns bs)) (bundles_from (length calls) 0 (owns (b ∷ bs)))
      (IsPermutation-cons b bs (bundles_from (length calls) 0 (owns bs)) (gathered bs h.1))
      (one-from b h.0.0 bs h.0.1 (length calls) 0 (omega arith) (let inside = h.0.1.inside in omega (arith, inside)))

  still-owned : (f : Made → Bool) (bs : List Made) → AreOwned calls bs → AreOwned calls (filter f bs)
  still-owned f [] h = tt
  still-owned f (b ∷ bs) h = by_test (f b) (λ y. rw y (h.0, still-owned f bs h.1)) (λ n. rw n (still-owned f bs h.1))

all-owned : (o : Opening) (s : State) → AreFitting o s → AllPairs (λ a b. a ≢ b) (output_slots o.calls) → (bs : List Made) → ((k : ℕ) → 1 ≤ times k (slots_of bs) → 1 ≤ times k (slots_of (bundles_in s))) → AreOwned o.calls bs
all-owned o s fits apart [] within = tt
all-owned o s fits apart (b ∷ bs) within =
    let made : 1 ≤ times b.slot (slots_of (bundles_in s)) = within b.slot (let same = same_self b.slot in rw same (omega arith)) in
    let at = by-one b.slot o.calls (omega (arith, made, fits.slots b.slot)) in
    let named = times-named (calls_of o.calls at.0) b at.2 in (
      (at.0, record { inside = at.1; named = named; others = λ q ne. one-names o apart b at.0 q ne named }),
      all-owned o s fits apart bs (λ k h. within k (omega (arith, h))),
    )

ended-owned : (o : Opening) (made : List ℕ) → AllPairs (λ a b. a ≢ b) (output_slots o.calls) → AreOwned o.calls (ended_bundles o (play o made (start o None)))
ended-owned o made apart =
    let s : State = play o made (start o None) in
    still-owned o.calls (has_ended (all_left o s)) (bundles_in s) (all-owned o s (in_runs _ lines_kept o None made).0 apart (bundles_in s) (λ k h. h))

-- what processors show, where the flat machine is

module _ (o : Opening) (apart : AllPairs (λ a b. a ≢ b) (output_slots o.calls)) (items : List ℕ) (lps : List LpState) (there : IsWhere o (seen_at lps) (play o items (start o None))) where
  abbrev now : State
  now = play o items (start o None)

  shows-at : EndedAreShown o now lps → (q : ℕ) → q < length o.calls → ShowsEnded (seen_at lps q)
  shows-at h q i = h.ended q i ∙ (own_have_ended o now q apart ∙ (λ j. ended_of (there.lines q i j) (sym (h.made q i) j)))

  shown-at : length lps ≡ length o.calls → ((q : ℕ) → q < length o.calls → (seen_at lps q).beside.bundles ≡ own_of (calls_of o.calls q) (bundles_in now)) → ((q : ℕ) → q < length o.calls → ShowsEnded (seen_at lps q)) → EndedAreShown o now lps
  shown-at count made shows =
      let each : (q : ℕ) → q < length o.calls → ended_in (seen_at lps q) ≡ own_of (calls_of o.calls q) (ended_bundles o now) =
      λ q i. shows q i ∙ ((λ j. ended_of (sym (there.lines q i) j) (made q i j)) ∙ sym (own_have_ended o now q apart)) in
      record {
        made = made;
        ended = each;
        all =
            subst (IsPermutation (ended_bundles o now))
            (same-bundles (length o.calls) 0 (owns o.calls (ended_bundles o now)) lps count (λ q i. ap (owns o.calls (ended_bundles o now)) (omega arith) ∙ sym (each q i)))
            (gathered o.calls (ended_bundles o now) (ended-owned o items apart));
      }

-- at the start nothing
pub shown-first : (o : Opening) (lps : List LpState) → length lps ≡ length o.calls → ((q : ℕ) → first_lp (calls_of o.calls q) ≡ seen_at lps q) → EndedAreShown o (start o None) lps
shown-first o lps count first = record {
  made = λ q i. sym (ap (λ (x : WordLp). x.beside.bundles) (first q));
  ended = none;
  all =
      subst (IsPermutation []) (same-bundles (length o.calls) 0 (owns o.calls []) lps count (λ q i. sym (none q i)))
      (gathered o.calls [] tt);
}
  where
    nothing : (n : ℕ) → take {A = Made} n [] ≡ []
    nothing zero = refl
    nothing (suc n) = refl

    none : (q : ℕ) → q < length o.calls → ended_in (seen_at lps q) ≡ []
    none q i = sym (ap ended_in (first q)) ∙ nothing _

-- and after a turn of processor p
module _ (merges : MergesAreRuns) (follow : ProcessorsFollow) (o : Opening) (leaf : ℕ → LeafTable) (few : length o.calls ≤ 8) (leaves : AreLeaves o leaf) (codes : AreCodes o) (apart : AllPairs (λ a b. a ≢ b) (output_slots o.calls)) (made : List Item) (lps : List LpState) (t t' : Table) (merge : Merge o leaf made (seen_at lps) t) (p : ℕ) (inside : p < length lps) (count : length lps ≡ length o.calls) (e : Event) (ps : List Piece) (x : LpState) (turn : LpTurns (leaf p) o.machine (seen_at lps p) e ps (seen_of x)) (did : PlaysTo t (taken_in ps) t') (items : List ℕ) (next : event o (play o (order made) (start o None)) p ≡ play o items (start o None)) where
  pub shown-next : IsWhere o (seen_at lps) (play o (order made) (start o None)) → IsWhere o (seen_at (set lps p x)) (play o items (start o None)) → EndedAreShown o (play o (order made) (start o None)) lps → EndedAreShown o (play o items (start o None)) (set lps p x)
  shown-next there there' h = shown-at o apart items (set lps p x) there' (length-set lps p x ∙ count) own-now shows-now
    where
      here : p < length o.calls
      here = omega (arith, inside, count)

      own-now : (q : ℕ) → q < length o.calls → (seen_at (set lps p x) q).beside.bundles ≡ own_of (calls_of o.calls q) (bundles_in (play o items (start o None)))
      own-now q i = by (eqb_tells q p)
        where
          by : (((q == p) ≡ true) × (q ≡ p)) ⊎ (((q == p) ≡ false) × (q ≢ p)) → (seen_at (set lps p x) q).beside.bundles ≡ own_of (calls_of o.calls q) (bundles_in (play o items (start o None)))
          by (inl same) =
              subst (λ (k : ℕ). (seen_at (set lps p x) k).beside.bundles ≡ own_of (calls_of o.calls k) (bundles_in (play o items (start o None)))) (sym same.1)
              (ap (λ (y : WordLp). y.beside.bundles) (seen-own lps p x inside)
              ∙ (own-after merges follow o leaf few leaves codes apart made (seen_at lps) t t' merge p here e ps (seen_of x) turn did (h.made p here)
              ∙ ap (λ (z : State). own_of (calls_of o.calls p) (bundles_in z)) next))
          by (inr other) =
              ap (λ (y : WordLp). y.beside.bundles) (seen-other lps p x q other.1)
              ∙ (h.made q i
              ∙ (sym (other-own merges follow o leaf few leaves codes apart made (seen_at lps) t t' merge p here e ps (seen_of x) turn did q (λ k. other.1 (sym k)))
              ∙ ap (λ (z : State). own_of (calls_of o.calls q) (bundles_in z)) next))

      shows-now : (q : ℕ) → q < length o.calls → ShowsEnded (seen_at (set lps p x) q)
      shows-now q i = by (eqb_tells q p)
        where
          shows : ShowsEnded (seen_of x)
          shows = shows-own merges follow o leaf few leaves codes apart made (seen_at lps) t t' merge p here e ps (seen_of x) turn did (h.made p here) (shows-at o apart (order made) lps there h p here)

          by : (((q == p) ≡ true) × (q ≡ p)) ⊎ (((q == p) ≡ false) × (q ≢ p)) → ShowsEnded (seen_at (set lps p x) q)
          by (inl same) = subst (λ (k : ℕ). ShowsEnded (seen_at (set lps p x) k)) (sym same.1) (subst ShowsEnded (sym (seen-own lps p x inside)) shows)
          by (inr other) = subst ShowsEnded (sym (seen-other lps p x q other.1)) (shows-at o apart (order made) lps there h q i)
