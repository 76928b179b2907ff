-- A processor's own bundles: which of them have ended, and what an event makes of them.
use Rattle.std.proofs.Common.{◌≡◌, ◌≢◌, ◌⊎◌, inl, inr, refl, sym, ◌∙◌, ap, subst, ℕ, ◌+◌, ◌≤◌, List, [], ◌∷◌, ◌++◌, length, drop, Option, Some, None, Bool, true, false, ◌==◌, arith, append-nil}
use Rattle.std.specs.Prelude.{AllPairs, filter, filter_map, option_map}
use Rattle.std.specs.List.{list_any, cons_option}
use Rattle.std.proofs.lemmas.Bool.{eqb-true, eqb-false}
use Rattle.std.proofs.lemmas.List.Elements.{filter-append}
use Rattle.td_words.specs.declared.calls.Call.{Call}
use Rattle.td_words.specs.declared.replies.Reply.{Reply}
use Rattle.td_words.specs.declared.replies.Reply.TheVariants.{Exited}
use Rattle.td_words.specs.Slots.{output_slot, output_slots}
use Rattle.flat_core.specs.World.{Made}
use Rattle.flat_core.specs.Processor.{Held, Phase, Trying, Undoing, Answered, Guest, Lp}
use Rattle.flat_core.specs.Opening.{Opening}
use Rattle.flat_core.specs.Row.{Releases}
use Rattle.flat_core.specs.Table.{row_of}
use Rattle.flat_core.specs.Event.{State, Event, next_event, calls_of, lines_left, settle, settled, call_lp, lp_after, is_granted, after_event, event}
use Rattle.flat_core.specs.Run.{bundles_in}
use Rattle.flat_core.specs.Inside.{AreTimely, StandsAt, LineAt}
use Rattle.flat_core.proofs.Tests.{by_test, same_self, put_here}
use Rattle.flat_core.proofs.Due.{Due, calls, frees, leaves, stops, fills, operates, walks, reaches, undoes, gives_back, due_event_is}
use Rattle.flat_bundles.specs.Bundles.{AreFitting, times, slots_of, slots_in, answered}
use Rattle.flat_bundles.specs.Ended.{is_named, has_ended, ended_of, own_of, all_left, OwnHaveEnded}
use Rattle.flat_bundles.proofs.Times.{once, of-two}
use Rattle.flat_bundles.proofs.Steps.{Goes, stays, makes, event-goes, IsAnswered}
use Rattle.flat_bundles.proofs.Ended.{not_not, any_all, named-once, once-in-all, ended-all, ended-each}

-- a bundle that lines name is named there
pub named-times : (lines : List Call) (b : Made) → is_named lines b ≡ true → 1 ≤ times b.slot (slots_in lines)
named-times lines b e = named-once (λ slot. slot == b.slot) b.slot (λ x y. eqb-true x b.slot y) (slots_in lines) e

times-any : (k : ℕ) (slots : List ℕ) → 1 ≤ times k slots → list_any (λ x. x == k) slots ≡ true
times-any k [] h = absurd (omega (arith, h))
times-any k (x ∷ xs) h = by_test (x == k) (λ y. rw y refl) (λ n. let some = rw n at h in rw n (times-any k xs (omega (arith, some))))

pub times-named : (lines : List Call) (b : Made) → 1 ≤ times b.slot (slots_in lines) → is_named lines b ≡ true
times-named lines b h = times-any b.slot (slots_in lines) h

first-names : (c : Call) (cs : List Call) (b : Made) → output_slot c ≡ Some b.slot → is_named (c ∷ cs) b ≡ true
first-names c cs b is = subst (λ (x : Option ℕ). list_any (λ slot. slot == b.slot) (cons_option x (filter_map output_slot cs)) ≡ true) (sym is) (let same = same_self b.slot in rw same refl)

-- a line that is left is one of the processor's
pub left-names : (o : Opening) (p : ℕ) (lp : Lp) (b : Made) → is_named (lines_left o p lp) b ≡ true → is_named (calls_of o.calls p) b ≡ true
left-names o p lp b e = any_all (λ slot. slot == b.slot) (length lp.replies) (calls_of o.calls p) e

-- two ways to pick out of a list one after the other
picked : (f g h : Made → Bool) → ((b : Made) → f b ≡ true → h b ≡ g b) → (bs : List Made) → filter f (filter g bs) ≡ filter h (filter f bs)
picked f g h same [] = refl
picked f g h same (b ∷ bs) = by_test (f b)
    (λ y. by_test (g b)
    (λ z. let w : h b ≡ true = same b y ∙ z in rw (z, y, w) (ap (λ (xs : List Made). b ∷ xs) (picked f g h same bs)))
    (λ z. let w : h b ≡ false = same b y ∙ z in rw (z, y, w) (picked f g h same bs)))
    (λ n. by_test (g b) (λ z. rw (z, n) (picked f g h same bs)) (λ z. rw (z, n) (picked f g h same bs)))

module _ (o : Opening) (apart : AllPairs (λ a b. a ≢ b) (output_slots o.calls)) where
  -- one processor names a bundle
  pub one-names : (b : Made) (p q : ℕ) → p ≢ q → is_named (calls_of o.calls p) b ≡ true → is_named (calls_of o.calls q) b ≡ false
  one-names b p q ne here = by_test (is_named (calls_of o.calls q) b)
      (λ there. absurd (omega (arith, once (output_slots o.calls) apart b.slot, of-two b.slot o.calls p q ne, named-times (calls_of o.calls p) b here, named-times (calls_of o.calls q) b there)))
      (λ n. n)

  module _ (s : State) (p : ℕ) where
    abbrev left : ℕ → List Call
    left q = lines_left o q (s.lps q)

    -- and where that one has no such line left, none has
    own-left : (b : Made) → is_named (calls_of o.calls p) b ≡ true → has_ended (left p) b ≡ has_ended (all_left o s) b
    own-left b named = by_test (has_ended (left p) b)
        (λ y. y ∙ sym (ended-all o s b (λ q. by_test (q == p)
        (λ t. subst (λ (z : ℕ). has_ended (left z) b ≡ true) (sym (eqb-true q p t)) y)
        (λ f. not_not (is_named (left q) b) (λ e. (let no : true ≡ false = sym (left-names o q (s.lps q) b e) ∙ one-names b p q (λ k. eqb-false q p f (sym k)) named in cc))))))
        (λ n. n ∙ sym (by_test (has_ended (all_left o s) b) (λ z. absurd (let no : true ≡ false = sym (ended-each o s b z p) ∙ n in cc)) (λ z. z)))

pub own_have_ended : OwnHaveEnded
own_have_ended o s p apart = picked (is_named (calls_of o.calls p)) (has_ended (all_left o s)) (has_ended (lines_left o p (s.lps p))) (own-left o apart s p) (bundles_in s)

-- What an event makes: one bundle, of the first of its processor's lines left, which it answers outside guests.
pub record MakesOwn (o : Opening) (s : State) (p : ℕ) (after : State) : Type 0 where
  pub bundle : Made
  pub added : bundles_in after ≡ bundles_in s ++ bundle ∷ []
  pub named : is_named (lines_left o p (s.lps p)) bundle ≡ true
  pub not_yet : answered (s.lps p).call.phase ≡ 0
  pub is_answered : IsAnswered (s.lps p) (after.lps p)

-- or none
pub event-makes : (o : Opening) (s : State) (p : ℕ) → (bundles_in (event o s p) ≡ bundles_in s) ⊎ MakesOwn o s p (event o s p)
event-makes o s p = by (next_event o s p) refl
  where
    at : (e : Event) → Goes o s.world p (s.lps p) (is_granted s e) e → (bundles_in (after_event p s (Some e)) ≡ bundles_in s) ⊎ MakesOwn o s p (after_event p s (Some e))
    at e (stays same le) = inl same
    at e (makes c cs slot line names adds now gone) = inr (record {
      bundle = adds.bundle;
      added = adds.added;
      named = subst (λ (x : List Call). is_named x adds.bundle ≡ true) (sym line) (first-names c cs adds.bundle (names ∙ ap (λ (x : ℕ). Some x) (sym adds.slot_is)));
      not_yet = omega (arith, now);
      is_answered = subst (IsAnswered (s.lps p)) (sym (put_here s.lps p (lp_after s.world (is_granted s e) e (s.lps p)))) gone;
    })

    by : (x : Option Event) → next_event o s p ≡ x → (bundles_in (after_event p s x) ≡ bundles_in s) ⊎ MakesOwn o s p (after_event p s x)
    by None is = inl refl
    by (Some e) is = at e (event-goes o s.world p (s.lps p) (is_granted s e) e (due_event_is o s p e is))

module _ (o : Opening) (s : State) (p : ℕ) (after : State) (made : MakesOwn o s p after) where
  -- it is the processor's own
  pub own-more : own_of (calls_of o.calls p) (bundles_in after) ≡ own_of (calls_of o.calls p) (bundles_in s) ++ made.bundle ∷ []
  own-more =
      let named = left-names o p (s.lps p) made.bundle made.named in
      let last : own_of (calls_of o.calls p) (made.bundle ∷ []) ≡ made.bundle ∷ [] = rw named refl in
      ap (own_of (calls_of o.calls p)) made.added ∙ (filter-append (is_named (calls_of o.calls p)) (bundles_in s) (made.bundle ∷ []) ∙ ap (λ (xs : List Made). own_of (calls_of o.calls p) (bundles_in s) ++ xs) last)

  -- and no other's
  pub own-same : AllPairs (λ a b. a ≢ b) (output_slots o.calls) → (q : ℕ) → p ≢ q → own_of (calls_of o.calls q) (bundles_in after) ≡ own_of (calls_of o.calls q) (bundles_in s)
  own-same apart q ne =
      let not_named = one-names o apart made.bundle p q ne (left-names o p (s.lps p) made.bundle made.named) in
      let last : own_of (calls_of o.calls q) (made.bundle ∷ []) ≡ [] = rw not_named refl in
      ap (own_of (calls_of o.calls q)) made.added
      ∙ (filter-append (is_named (calls_of o.calls q)) (bundles_in s) (made.bundle ∷ [])
      ∙ (ap (λ (xs : List Made). own_of (calls_of o.calls q) (bundles_in s) ++ xs) last ∙ append-nil (own_of (calls_of o.calls q) (bundles_in s))))

-- no line that is still to act names a bundle that was made
fewer : (f : Made → Bool) (bs : List Made) (k : ℕ) → times k (slots_of (filter f bs)) ≤ times k (slots_of bs)
fewer f [] k = omega arith
fewer f (b ∷ bs) k = by_test (f b) (λ y. rw y (omega (arith, fewer f bs k))) (λ n. rw n (omega (arith, fewer f bs k)))

module _ (o : Opening) (s : State) (fits : AreFitting o s) (apart : AllPairs (λ a b. a ≢ b) (output_slots o.calls)) (p : ℕ) where
  abbrev to_act : ℕ → List Call
  to_act n = drop (n + length (s.lps p).replies) (calls_of o.calls p)

  all-acted : (bs : List Made) → ((k : ℕ) → 1 ≤ times k (slots_of bs) → 1 ≤ times k (slots_of (bundles_in s))) → ended_of (to_act (answered (s.lps p).call.phase)) bs ≡ bs
  all-acted [] within = refl
  all-acted (b ∷ bs) within =
      let left : List Call = to_act (answered (s.lps p).call.phase) in
      let made : 1 ≤ times b.slot (slots_of (bundles_in s)) = within b.slot (let same = same_self b.slot in rw same (omega arith)) in
      let none = once-in-all o s fits apart b.slot made p in
      let ended : has_ended left b ≡ true = not_not (is_named left b) (λ e. (let some = named-times left b e in omega (arith, some, none))) in
      rw ended (ap (λ (xs : List Made). b ∷ xs) (all-acted bs (λ k h. within k (omega (arith, h)))))

  -- so of a processor whose call hasn't been answered all have ended
  pub all-ended : answered (s.lps p).call.phase ≡ 0 → let own = own_of (calls_of o.calls p) (bundles_in s) in ended_of (lines_left o p (s.lps p)) own ≡ own
  all-ended none =
      let own : List Made = own_of (calls_of o.calls p) (bundles_in s) in
      let same : 0 + length (s.lps p).replies ≡ length (s.lps p).replies = omega arith in
      subst (λ (n : ℕ). ended_of (drop n (calls_of o.calls p)) own ≡ own) same
      (subst (λ (n : ℕ). ended_of (to_act n) own ≡ own) none (all-acted own (λ k h. omega (arith, h, fewer (is_named (calls_of o.calls p)) (bundles_in s) k))))

-- A guest is left with an exit.
abbrev pub IsExit : Phase Reply → Type 0
IsExit (Answered (Exited out)) = Unit {0}
IsExit _ = ⊥

guest-stays : (lp : Lp) → (settled lp).guest ≡ lp.guest
guest-stays lp = by lp.call.phase lp.call.held
  where
    by : (phase : Phase Reply) (hs : List Held) → (settle phase hs lp).guest ≡ lp.guest
    by (Answered r) [] = refl
    by (Answered r) (h ∷ hs) = refl
    by Trying hs = refl
    by (Undoing l) hs = refl

pub event-exits : (o : Opening) (s : State) (p : ℕ) (g : Guest) → (s.lps p).guest ≡ Some g → ((event o s p).lps p).guest ≡ None → IsExit ((event o s p).lps p).call.phase
event-exits o s p g inside = by (next_event o s p) refl
  where
    lp : Lp
    lp = s.lps p

    still-in : (f : Guest → Guest) → option_map f lp.guest ≡ None → ⊥
    still-in f out = (let no : Some (f g) ≡ None = ap (option_map f) (sym inside) ∙ out in cc)

    at : (e : Event) (granted : Bool) → Due o s.world p lp e → (lp_after s.world granted e lp).guest ≡ None → IsExit (lp_after s.world granted e lp).call.phase
    at e granted (calls c cs line none) out = absurd (let no : None ≡ Some g = sym none ∙ inside in cc)
    at e granted (frees c cs x h hs line guest held epoch) out = absurd (let no : Some g ≡ None = sym inside ∙ (sym (guest-stays (call_lp s.world granted (row_of o p c) (Releases h) lp)) ∙ out) in cc)
    at e granted (leaves c cs x out' i l) out = tt
    at e granted (stops c cs x i l t d) out = tt
    at e granted (fills c cs x op i l t d m) out = tt
    at e granted (operates c cs x op row i way is) out = absurd (still-in _ out)
    at e granted (walks c cs x op access r gpa i way is lost) out = absurd (still-in _ out)
    at e granted (reaches c cs x op access r gpa page i way is found) out = absurd (still-in _ out)
    at e granted (undoes c cs x l i st phase) out = absurd (still-in _ out)
    at e granted (gives_back c cs x ans i st phase) out = absurd (still-in _ out)

    by : (x : Option Event) → next_event o s p ≡ x → ((after_event p s x).lps p).guest ≡ None → IsExit ((after_event p s x).lps p).call.phase
    by None is out = absurd (let no : None ≡ Some g = sym out ∙ inside in cc)
    by (Some e) is out =
        let here = put_here s.lps p (lp_after s.world (is_granted s e) e lp) in
        subst (λ (x : Lp). IsExit x.call.phase) (sym here) (at e (is_granted s e) (due_event_is o s p e is) (ap (λ (x : Lp). x.guest) (sym here) ∙ out))

-- In a guest its VP.ENTER isn't answered.
pub guest-unanswered : (o : Opening) (s : State) (p : ℕ) (g : Guest) → AreTimely o s → (s.lps p).guest ≡ Some g → answered (s.lps p).call.phase ≡ 0
guest-unanswered o s p g timely inside = ap answered (by (lines_left o p (s.lps p)) (timely.each p))
  where
    by : (cs : List Call) → StandsAt o s.world p cs (s.lps p) → (s.lps p).call.phase ≡ Trying
    by [] h = absurd (let no : None ≡ Some g = sym h.0 ∙ inside in cc)
    by (c ∷ cs) h = (subst (λ (x : Option Guest). LineAt o s.world p c (s.lps p) x) inside h).trying
