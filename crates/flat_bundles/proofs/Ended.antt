-- Bundles whose calls have ended: an event takes none back, at a run's end all have, and before it none is kept back but those
-- whose calls are under way.
use Rattle.std.proofs.Common.{◌≡◌, ◌≢◌, refl, sym, ◌∙◌, ap, subst, ℕ, zero, suc, ◌+◌, ◌<◌, ◌≤◌, List, [], ◌∷◌, ◌++◌, length, drop, Option, Some, None, Bool, true, false, not, ◌==◌, ◌||◌, inl, inr, arith, length-append}
use Rattle.std.specs.Prelude.{AllPairs, filter_map, flat_map}
use Rattle.std.specs.List.{All, list_any, range_with_len, cons_option}
use Rattle.std.proofs.lemmas.Bool.{eqb-true, eqb-false}
use Rattle.std.proofs.lemmas.List.Elements.{All-nil, All-cons, filter_map-append, filter-append}
use Rattle.std.proofs.lemmas.List.Folds.{list_any-append}
use Rattle.td_words.specs.declared.calls.Call.{Call}
use Rattle.td_words.specs.declared.replies.Reply.{Reply}
use Rattle.td_words.specs.Slots.{output_slot, output_slots}
use Rattle.flat_core.specs.World.{Made}
use Rattle.flat_core.specs.Processor.{Phase, Trying, Undoing, Answered, Lp}
use Rattle.flat_core.specs.Opening.{Opening, Incoming}
use Rattle.flat_core.specs.Event.{State, Event, next_event, calls_of, lines_left, is_granted, after_event, event}
use Rattle.flat_core.specs.Run.{run_telling}
use Rattle.flat_core.specs.Replies.{IsOneMore}
use Rattle.flat_core.specs.Laws.{with_bundles, reached}
use Rattle.flat_core.proofs.Tests.{by_test, same_self}
use Rattle.flat_core.proofs.Due.{due_event_is}
use Rattle.flat_core.proofs.Kept.{others_stay}
use Rattle.flat_core.proofs.Replies.{replies_one_by_one, every_line_answered}
use Rattle.flat_core.proofs.Induction.{in_runs}
use Rattle.flat_bundles.specs.Bundles.{AddsBundle, AreFitting, times, slots_of, slots_in, answered, acted}
use Rattle.flat_bundles.specs.Ended.{has_ended, ended_of, all_left, ended_bundles, AllHaveEnded, EndedStay, IsUnderWay, OthersHaveEnded}
use Rattle.flat_bundles.proofs.Times.{left-of-one, once}
use Rattle.flat_bundles.proofs.Steps.{Goes, stays, makes, event-goes}
use Rattle.flat_bundles.proofs.Bundles.{lines_kept}

or_left : (a b : Bool) → a ≡ true → (a || b) ≡ true
or_left true b e = refl
or_left false b e = cc

or_right : (a b : Bool) → b ≡ true → (a || b) ≡ true
or_right true b e = refl
or_right false b e = e

or_cases : {A : Type 0} (a b : Bool) → (a || b) ≡ true → (a ≡ true → A) → (b ≡ true → A) → A
or_cases true b e f g = f refl
or_cases false b e f g = g e

pub not_not : (x : Bool) → (x ≡ true → ⊥) → not x ≡ true
not_not true h = absurd (h refl)
not_not false h = refl

is_not : (x : Bool) → not x ≡ true → x ≡ true → ⊥
is_not true e f = cc
is_not false e f = cc

was : (x : Bool) → not x ≡ false → x ≡ true
was true e = refl
was false e = cc

-- whether one of these lines names a slot that passes
module _ (f : ℕ → Bool) where
  abbrev pub any_in : List Call → Bool
  any_in cs = list_any f (filter_map output_slot cs)

  any_append : (xs ys : List Call) → any_in (xs ++ ys) ≡ (any_in xs || any_in ys)
  any_append xs ys = ap (list_any f) (filter_map-append output_slot xs ys) ∙ list_any-append f (filter_map output_slot xs) (filter_map output_slot ys)

  pub any_all : (m : ℕ) (xs : List Call) → any_in (drop m xs) ≡ true → any_in xs ≡ true
  any_all zero xs e = e
  any_all (suc m) [] e = e
  any_all (suc m) (x ∷ xs) e = any_append (x ∷ []) xs ∙ or_right (any_in (x ∷ [])) (any_in xs) (any_all m xs e)

  any_drop : (n m : ℕ) (xs : List Call) → n ≤ m → any_in (drop m xs) ≡ true → any_in (drop n xs) ≡ true
  any_drop zero m xs le e = any_all m xs e
  any_drop (suc n) zero xs le e = absurd (omega (arith, le))
  any_drop (suc n) (suc m) [] le e = e
  any_drop (suc n) (suc m) (x ∷ xs) le e = any_drop n m xs (omega (arith, le)) e

  -- of the lists of so many processors
  module _ (l : ℕ → List Call) where
    any_split : (p : ℕ) (ps : List ℕ) → any_in (flat_map l (p ∷ ps)) ≡ (any_in (l p) || any_in (flat_map l ps))
    any_split p ps = any_append (l p) (flat_map l ps)

    any_found : (ps : List ℕ) → any_in (flat_map l ps) ≡ true → (p : ℕ) × (any_in (l p) ≡ true)
    any_found [] e = cc
    any_found (p ∷ ps) e = or_cases (any_in (l p)) (any_in (flat_map l ps)) (sym (any_split p ps) ∙ e) (λ h. (p, h)) (any_found ps)

    any_at : (p a n : ℕ) → p < n → any_in (l (a + p)) ≡ true → any_in (flat_map l (range_with_len a n)) ≡ true
    any_at p a zero lt e = absurd (omega (arith, lt))
    any_at zero a (suc n) lt e =
        any_split a (range_with_len (a + 1) n) ∙ or_left (any_in (l a)) (any_in (flat_map l (range_with_len (a + 1) n))) (subst (λ (q : ℕ). any_in (l q) ≡ true) (omega arith) e)
    any_at (suc p) a (suc n) lt e =
        any_split a (range_with_len (a + 1) n)
        ∙ or_right (any_in (l a)) (any_in (flat_map l (range_with_len (a + 1) n)))
        (any_at p (a + 1) n (omega (arith, lt)) (subst (λ (q : ℕ). any_in (l q) ≡ true) (omega arith) e))

  any_later : (later earlier : ℕ → List Call) → ((p : ℕ) → any_in (later p) ≡ true → any_in (earlier p) ≡ true) → (ps : List ℕ)
      → any_in (flat_map later ps) ≡ true → any_in (flat_map earlier ps) ≡ true
  any_later later earlier each [] e = e
  any_later later earlier each (p ∷ ps) e = or_cases (any_in (later p)) (any_in (flat_map later ps)) (sym (any_split later p ps) ∙ e)
      (λ h. any_split earlier p ps ∙ or_left (any_in (earlier p)) (any_in (flat_map earlier ps)) (each p h))
      (λ h. any_split earlier p ps ∙ or_right (any_in (earlier p)) (any_in (flat_map earlier ps)) (any_later later earlier each ps h))

-- a bundle has ended where it has of each processor; and only there
pub ended-all : (o : Opening) (s : State) (b : Made) → ((p : ℕ) → has_ended (lines_left o p (s.lps p)) b ≡ true) → has_ended (all_left o s) b ≡ true
ended-all o s b h =
    let f : ℕ → Bool = λ slot. slot == b.slot in
    not_not (any_in f (all_left o s)) (λ e. (let at = any_found f (λ p. lines_left o p (s.lps p)) (range_with_len 0 (length o.calls)) e in is_not (any_in f (lines_left o at.0 (s.lps at.0))) (h at.0) at.1))

-- a line that is left is of a processor with lines
lines-of : (f : ℕ → Bool) (css : List (List Call)) (p n : ℕ) → any_in f (drop n (calls_of css p)) ≡ true → p < length css
lines-of f [] p zero e = cc
lines-of f [] p (suc n) e = cc
lines-of f (cs ∷ css) zero n e = omega arith
lines-of f (cs ∷ css) (suc p) n e = omega (arith, lines-of f css p n e)

still-named : (o : Opening) (s : State) (f : ℕ → Bool) (p : ℕ) → any_in f (lines_left o p (s.lps p)) ≡ true → any_in f (all_left o s) ≡ true
still-named o s f p e = any_at f (λ q. lines_left o q (s.lps q)) p 0 (length o.calls) (lines-of f o.calls p (length (s.lps p).replies) e)
    (subst (λ (q : ℕ). any_in f (lines_left o q (s.lps q)) ≡ true) (omega arith) e)

pub ended-each : (o : Opening) (s : State) (b : Made) → has_ended (all_left o s) b ≡ true → (p : ℕ) → has_ended (lines_left o p (s.lps p)) b ≡ true
ended-each o s b h p =
    let f : ℕ → Bool = λ slot. slot == b.slot in
    not_not (any_in f (lines_left o p (s.lps p))) (λ e. is_not (any_in f (all_left o s)) h (still-named o s f p e))

-- events take no reply back, so a call that has ended stays so
one-more : (before after : List Reply) → IsOneMore before after → length before ≤ length after
one-more before after (inl e) = let same = ap (λ (rs : List Reply). length rs) e in omega (arith, same)
one-more before after (inr m) = let more = ap (λ (rs : List Reply). length rs) m.1 in omega (arith, more, length-append before (m.0 ∷ []))

module _ (o : Opening) (bundles : ℕ → Option Incoming) (s : State) (p : ℕ) where
  abbrev q : Opening
  q = with_bundles o bundles

  abbrev after : State
  after = event q s p

  never-fewer : (r : ℕ) → length (s.lps r).replies ≤ length (after.lps r).replies
  never-fewer r = by_test (r == p)
      (λ y. subst (λ (z : ℕ). length (s.lps z).replies ≤ length (after.lps z).replies) (sym (eqb-true r p y)) (one-more (s.lps p).replies (after.lps p).replies (replies_one_by_one q s p)))
      (λ n. let same = ap (λ (x : Lp). length x.replies) (others_stay q s p r (eqb-false r p n)) in omega (arith, same))

  pub ended-stays : (b : Made) → has_ended (all_left o s) b ≡ true → has_ended (all_left o after) b ≡ true
  ended-stays b h =
      let f : ℕ → Bool = λ slot. slot == b.slot in
      not_not (any_in f (all_left o after))
      (λ e. is_not (any_in f (all_left o s)) h
      (any_later f (λ r. lines_left o r (after.lps r)) (λ r. lines_left o r (s.lps r))
      (λ r. any_drop f (length (s.lps r).replies) (length (after.lps r).replies) (calls_of o.calls r) (never-fewer r)) (range_with_len 0 (length o.calls)) e))

  -- what had ended before, of those that have after
  twice : (bs : List Made) → ended_of (all_left o s) (ended_of (all_left o after) bs) ≡ ended_of (all_left o s) bs
  twice [] = refl
  twice (b ∷ bs) = by_test (has_ended (all_left o after) b)
      (λ y. rw y (by_test (has_ended (all_left o s) b) (λ z. rw z (ap (λ (xs : List Made). b ∷ xs) (twice bs))) (λ z. rw z (twice bs))))
      (λ n. let not_yet : has_ended (all_left o s) b ≡ false = by_test (has_ended (all_left o s) b) (λ z. absurd (let no : false ≡ true = sym n ∙ ended-stays b z in cc)) (λ z. z) in rw (n, not_yet) (twice bs))

  -- the bundle that an act makes is of a line that is left
  made-later : (c : Call) (cs : List Call) (slot : ℕ) (before now : List Made) → lines_left o p (s.lps p) ≡ c ∷ cs → output_slot c ≡ Some slot → AddsBundle slot before now
      → ended_of (all_left o s) now ≡ ended_of (all_left o s) before
  made-later c cs slot before now line is a =
      let b : Made = a.bundle in
      let f : ℕ → Bool = λ x. x == b.slot in
      let own : (slot == b.slot) ≡ true = subst (λ (x : ℕ). (x == b.slot) ≡ true) a.slot_is (same_self b.slot) in
      let first : any_in f (c ∷ cs) ≡ true = subst (λ (x : Option ℕ). list_any f (cons_option x (filter_map output_slot cs)) ≡ true) (sym is) (or_left (slot == b.slot) (any_in f cs) own) in
      let named : any_in f (all_left o s) ≡ true = still-named o s f p (subst (λ (x : List Call). any_in f x ≡ true) (sym line) first) in
      let left : ended_of (all_left o s) (b ∷ []) ≡ [] = rw named refl in
      ap (ended_of (all_left o s)) a.added ∙ (filter-append (has_ended (all_left o s)) before (b ∷ []) ∙ (ap (λ (xs : List Made). ended_of (all_left o s) before ++ xs) left ∙ nothing-more (ended_of (all_left o s) before)))
    where
      nothing-more : (xs : List Made) → xs ++ [] ≡ xs
      nothing-more [] = refl
      nothing-more (x ∷ xs) = ap (λ (ys : List Made). x ∷ ys) (nothing-more xs)

  same-then : ended_of (all_left o s) after.world.outgoing.bundles ≡ ended_bundles o s
  same-then = by (next_event q s p) refl
    where
      at : (e : Event) → next_event q s p ≡ Some e → Goes q s.world p (s.lps p) (is_granted s e) e → ended_of (all_left o s) (after_event p s (Some e)).world.outgoing.bundles ≡ ended_bundles o s
      at e is (stays same le) = ap (ended_of (all_left o s)) same
      at e is (makes c cs slot line names adds now gone) = made-later c cs slot s.world.outgoing.bundles _ line names adds

      by : (x : Option Event) → next_event q s p ≡ x → ended_of (all_left o s) (after_event p s x).world.outgoing.bundles ≡ ended_bundles o s
      by None is = refl
      by (Some e) is = at e is (event-goes q s.world p (s.lps p) (is_granted s e) e (due_event_is q s p e is))

  stay : ended_bundles o s ≡ ended_of (all_left o s) (ended_bundles o after)
  stay = sym (twice after.world.outgoing.bundles ∙ same-then)

pub ended_stay : EndedStay
ended_stay = stay

-- at the end no line is left
drop-all : (n : ℕ) (cs : List Call) → n ≡ length cs → drop n cs ≡ []
drop-all zero [] e = refl
drop-all zero (c ∷ cs) e = absurd (omega (arith, e))
drop-all (suc n) [] e = refl
drop-all (suc n) (c ∷ cs) e = drop-all n cs (omega (arith, e))

all-kept : (left : List Call) → ((b : Made) → has_ended left b ≡ true) → (bs : List Made) → ended_of left bs ≡ bs
all-kept left h [] = refl
all-kept left h (b ∷ bs) = rw (h b) (ap (λ (xs : List Made). b ∷ xs) (all-kept left h bs))

pub all_have_ended : AllHaveEnded
all_have_ended o ws schedule =
    let s = run_telling ws o schedule in
    all-kept (all_left o s) (λ b. ended-all o s b (λ p. (let none : lines_left o p (s.lps p) ≡ [] = drop-all (length (s.lps p).replies) (calls_of o.calls p) (every_line_answered o ws schedule p) in rw none refl))) s.world.outgoing.bundles

-- a slot that lines name is among theirs
pub named-once : (f : ℕ → Bool) (k : ℕ) → ((x : ℕ) → f x ≡ true → x ≡ k) → (slots : List ℕ) → list_any f slots ≡ true → 1 ≤ times k slots
named-once f k own [] e = cc
named-once f k own (x ∷ xs) e = or_cases (f x) (list_any f xs) e
    (λ h. let same : (x == k) ≡ true = subst (λ (z : ℕ). (x == z) ≡ true) (own x h) (same_self x) in rw same (omega arith))
    (λ h. let rest = named-once f k own xs h in omega (arith, rest))

module _ (o : Opening) (s : State) (fits : AreFitting o s) (apart : AllPairs (λ a b. a ≢ b) (output_slots o.calls)) where
  pub once-in-all : (k : ℕ) → 1 ≤ times k (slots_of s.world.outgoing.bundles) → (p : ℕ) → times k (slots_in (drop (acted (s.lps p)) (calls_of o.calls p))) ≡ 0
  once-in-all k made p = omega (arith, made, fits.slots k, once (output_slots o.calls) apart k, left-of-one k o.calls (λ q. acted (s.lps q)) p)

  -- the line that is left is the first, and has acted
  module _ (b : Made) (made : 1 ≤ times b.slot (slots_of s.world.outgoing.bundles)) (p : ℕ) where
    abbrev lp : Lp
    lp = s.lps p

    abbrev f : ℕ → Bool
    f slot = slot == b.slot

    at-first : (r : Reply) (n : ℕ) (cs : List Call) → lp.call.phase ≡ Answered r → lines_left o p lp ≡ drop n cs → any_in f (drop n cs) ≡ true → times b.slot (slots_in (drop (suc n) cs)) ≡ 0 → IsUnderWay o s b
    at-first r zero [] phase is e none = cc
    at-first r zero (c ∷ cs) phase is e none = by (output_slot c) refl
      where
        later : any_in f cs ≡ true → IsUnderWay o s b
        later h = absurd (let some = named-once f b.slot (λ x y. eqb-true x b.slot y) (filter_map output_slot cs) h in omega (arith, some, none))

        by : (x : Option ℕ) → output_slot c ≡ x → IsUnderWay o s b
        by None names = later (subst (λ (x : Option ℕ). list_any f (cons_option x (filter_map output_slot cs)) ≡ true) names e)
        by (Some slot) names = or_cases (slot == b.slot) (any_in f cs) (subst (λ (x : Option ℕ). list_any f (cons_option x (filter_map output_slot cs)) ≡ true) names e)
            (λ h. record {
              lp = p;
              call = c;
              later = cs;
              line = is;
              slot = names ∙ ap (λ (x : ℕ). Some x) (eqb-true slot b.slot h);
              reply = r;
              answered = phase;
            })
            later
    at-first r (suc n) [] phase is e none = cc
    at-first r (suc n) (c ∷ cs) phase is e none = at-first r n cs phase is e none

    abbrev calls : List Call
    calls = calls_of o.calls p

    abbrev none_to_act : ℕ → Type 0
    none_to_act n = times b.slot (slots_in (drop n calls)) ≡ 0

    still : any_in f (lines_left o p lp) ≡ true → none_to_act (length lp.replies) → IsUnderWay o s b
    still e none = absurd (let some = named-once f b.slot (λ x y. eqb-true x b.slot y) (slots_in (drop (length lp.replies) calls)) e in omega (arith, some, none))

    under-way : (phase : Phase Reply) → lp.call.phase ≡ phase → none_to_act (answered phase + length lp.replies) → any_in f (lines_left o p lp) ≡ true → IsUnderWay o s b
    under-way Trying is none e = let same : 0 + length lp.replies ≡ length lp.replies = omega arith in still e (subst none_to_act same none)
    under-way (Undoing l) is none e = let same : 0 + length lp.replies ≡ length lp.replies = omega arith in still e (subst none_to_act same none)
    under-way (Answered r) is none e =
        let same : 1 + length lp.replies ≡ suc (length lp.replies) = omega arith in
        let gone : none_to_act (suc (length lp.replies)) = subst none_to_act same none in
        at-first r (length lp.replies) calls is refl e gone

  made-there : (bs : List Made) → ((k : ℕ) → 1 ≤ times k (slots_of bs) → 1 ≤ times k (slots_of s.world.outgoing.bundles)) → All (λ b. has_ended (all_left o s) b ≡ false → IsUnderWay o s b) bs
  made-there [] within = All-nil (λ b. has_ended (all_left o s) b ≡ false → IsUnderWay o s b)
  made-there (b ∷ bs) within =
      All-cons (λ x. has_ended (all_left o s) x ≡ false → IsUnderWay o s x) b bs here
      (made-there bs (λ k h. within k (omega (arith, h))))
    where
      here : has_ended (all_left o s) b ≡ false → IsUnderWay o s b
      here e =
          let g : ℕ → Bool = λ slot. slot == b.slot in
          let at = any_found g (λ p. lines_left o p (s.lps p)) (range_with_len 0 (length o.calls)) (was (any_in g (all_left o s)) e) in
          let made : 1 ≤ times b.slot (slots_of s.world.outgoing.bundles) = within b.slot (let same = same_self b.slot in rw same (omega arith)) in
          under-way b made at.0 (s.lps at.0).call.phase refl (once-in-all b.slot made at.0) at.1

pub others_have_ended : OthersHaveEnded
others_have_ended o ws schedule apart =
    let s : State = reached o ws schedule in
    made-there o s (in_runs _ lines_kept o ws schedule).0 apart s.world.outgoing.bundles (λ k h. h)
