-- What a processor has cached is at most 16 translations, no two of one GPA page of a TD.
use Rattle.std.proofs.Common.{◌≡◌, refl, sym, ◌∙◌, ap, subst, ℕ, zero, suc, ◌-◌, ◌≤◌, List, [], ◌∷◌, ◌++◌, length, drop, filter, Option, Some, None, Bool, true, false, not, ◌==◌, length-drop, arith}
use Rattle.std.specs.Prelude.{Contains}
use Rattle.std.specs.List.{list_all}
use Rattle.std.proofs.lemmas.Bool.{and_parts}
use Rattle.std.proofs.lemmas.List.{length_push}
use Rattle.std.proofs.lemmas.List.Elements.{Contains-append_left}
use Rattle.std.proofs.lemmas.List.Sums.{length-filter, count_by-le-length}
use Rattle.td_words.specs.declared.names.Access.{Access}
use Rattle.td_words.specs.declared.calls.Call.{Call}
use Rattle.td_words.specs.declared.calls.Call.TheVariants as call
use Rattle.td_words.specs.declared.replies.Reply.{Reply}
use Rattle.flat_core.specs.World.{World}
use Rattle.flat_core.specs.Processor.{Translation, Guest, Entering, Lp}
use Rattle.flat_core.specs.Opening.{Opening}
use Rattle.flat_core.specs.Row.{Move, Attempts, Undoes, Refuses, Succeeds, Releases, Rests, next_in}
use Rattle.flat_core.specs.Translations.{is_of_page, cache, is_stale, cache_at_entry}
use Rattle.flat_core.specs.Guest.{walk_level, walked_entry, goes_on, cached_after, translation_of}
use Rattle.flat_core.specs.Table.{row_of}
use Rattle.flat_core.specs.Event.{State, Event, OfCall, next_event, after_event, is_granted, lp_after, call_lp, succeeded, walk_translations}
use Rattle.flat_core.specs.Laws.{with_bundles}
use Rattle.flat_core.specs.AccessLaw.{are_apart, IsCache, CachesAreKept, CachesAreSmall, RoomIsUsed}
use Rattle.flat_core.proofs.Tests.{by_test}
use Rattle.flat_core.proofs.Induction.{in_runs}
use Rattle.flat_core.proofs.Due.{Due, calls, frees, leaves, stops, fills, operates, walks, reaches, undoes, gives_back, due_event_is}
use Rattle.flat_core.proofs.Always.{settled-lp}

-- lists

module _ (f : Translation → Bool) where
  all_filtered : (p : Translation → Bool) (cs : List Translation) → list_all f cs ≡ true → list_all f (filter p cs) ≡ true
  all_filtered p [] h = refl
  all_filtered p (c ∷ cs) h =
      let a = and_parts (f c) (list_all f cs) h in
      by_test (p c) (λ y. let first = a.0 in rw (y, first) (all_filtered p cs a.1)) (λ y. rw y (all_filtered p cs a.1))

  all_dropped : (n : ℕ) (cs : List Translation) → list_all f cs ≡ true → list_all f (drop n cs) ≡ true
  all_dropped zero cs h = h
  all_dropped (suc n) [] h = refl
  all_dropped (suc n) (c ∷ cs) h = all_dropped n cs (and_parts (f c) (list_all f cs) h).1

  all_pass : (cs : List Translation) → list_all f (filter f cs) ≡ true
  all_pass [] = refl
  all_pass (c ∷ cs) = by_test (f c) (λ y. rw (y, y) (all_pass cs)) (λ y. rw y (all_pass cs))

  all_pushed : (cs : List Translation) (c : Translation) → list_all f cs ≡ true → f c ≡ true → list_all f (cs ++ c ∷ []) ≡ true
  all_pushed [] c h e = rw e refl
  all_pushed (x ∷ cs) c h e = let a = and_parts (f x) (list_all f cs) h in let first = a.0 in rw first (all_pushed cs c a.1 e)

abbrev is_other : Translation → Translation → Bool
is_other c x = not (is_of_page x.tdr x.gpa_page c)

apart_filtered : (p : Translation → Bool) (cs : List Translation) → are_apart cs ≡ true → are_apart (filter p cs) ≡ true
apart_filtered p [] h = refl
apart_filtered p (c ∷ cs) h =
    let a = and_parts (list_all (is_other c) cs) (are_apart cs) h in
    by_test (p c) (λ y. let first = all_filtered (is_other c) p cs a.0 in rw (y, first) (apart_filtered p cs a.1)) (λ y. rw y (apart_filtered p cs a.1))

apart_dropped : (n : ℕ) (cs : List Translation) → are_apart cs ≡ true → are_apart (drop n cs) ≡ true
apart_dropped zero cs h = h
apart_dropped (suc n) [] h = refl
apart_dropped (suc n) (c ∷ cs) h = apart_dropped n cs (and_parts (list_all (is_other c) cs) (are_apart cs) h).1

apart_pushed : (cs : List Translation) (c : Translation) → are_apart cs ≡ true → list_all (λ x. not (is_of_page c.tdr c.gpa_page x)) cs ≡ true → are_apart (cs ++ c ∷ []) ≡ true
apart_pushed [] c h e = refl
apart_pushed (x ∷ cs) c h e =
    let a = and_parts (list_all (is_other x) cs) (are_apart cs) h in
    let b = and_parts (not (is_of_page c.tdr c.gpa_page x)) (list_all (λ y. not (is_of_page c.tdr c.gpa_page y)) cs) e in
    let first = all_pushed (is_other x) cs c a.0 b.0 in
    rw first (apart_pushed cs c a.1 b.1)

kept_filtered : (p : Translation → Bool) (cs : List Translation) (x : Translation) → Contains cs x → p x ≡ true → Contains (filter p cs) x
kept_filtered p [] x i e = absurd (let no = i.1 in omega (arith, no))
kept_filtered p (c ∷ cs) x (zero, low, is) e = let same : c ≡ x = is in let first : p c ≡ true = ap p same ∙ e in rw first (0, omega arith, same)
kept_filtered p (c ∷ cs) x (suc k, low, is) e =
    let r = kept_filtered p cs x (k, omega (arith, low), is) e in
    by_test (p c) (λ y. rw y (let least = r.1 in (suc r.0, omega (arith, least), r.2))) (λ y. rw y r)

-- each change of the list

filtered : (p : Translation → Bool) (cs : List Translation) → IsCache cs → IsCache (filter p cs)
filtered p cs h = record {
  few = (let a = h.few in let b = length-filter p cs in let c = count_by-le-length p cs in omega (arith, a, b, c));
  apart = apart_filtered p cs h.apart;
}

pushed : (n : ℕ) (c : Translation) (cs : List Translation) → IsCache cs → (let others = filter (λ x. not (is_of_page c.tdr c.gpa_page x)) cs in length others - n ≤ 15 → IsCache (drop n others ++ c ∷ []))
pushed n c cs h low =
    let f : Translation → Bool = λ x. not (is_of_page c.tdr c.gpa_page x) in
    let others = filter f cs in
    record {
      few = (let a = length_push (drop n others) c in let b = length-drop n others in omega (arith, a, b, low));
      apart = apart_pushed (drop n others) c (apart_dropped n others (apart_filtered f cs h.apart)) (all_dropped f n others (all_pass f cs));
    }

cached : (c : Translation) (cs : List Translation) → IsCache cs → IsCache (cache c cs)
cached c cs h = pushed _ c cs h (omega arith)

pub room_is_used : RoomIsUsed
room_is_used c x cs few i e =
    let f : Translation → Bool = λ y. not (is_of_page c.tdr c.gpa_page y) in
    let others = filter f cs in
    let none : length others - 15 ≡ 0 = (let b = length-filter f cs in let d = count_by-le-length f cs in omega (arith, few, b, d)) in
    let kept : Contains others x = kept_filtered f cs x i (rw e refl) in
    Contains-append_left (drop (length others - 15) others) (c ∷ []) x (subst (λ (n : ℕ). Contains (drop n others) x) (sym none) kept)

-- each event

at_entry : (associated : Option ℕ) (last epoch t : ℕ) (cs : List Translation) → IsCache cs → IsCache (cache_at_entry associated last epoch t cs)
at_entry associated last epoch t cs h = by_test (is_stale associated last epoch) (λ y. rw y (filtered (λ c. not (c.tdr == t)) cs h)) (λ y. rw y h)

row_cached : (o : Opening) (me : ℕ) (c : Call) (w : World) (cs : List Translation) → IsCache cs → IsCache ((row_of o me c).cached w cs)
row_cached o me (call.VpEnter t v most) w cs h = at_entry (w.vps.associated v) (w.vps.lasts v) (w.tds.epochs t) t cs h
row_cached o me (call.VpFlush t v) w cs h = filtered (λ c. not (c.tdr == t)) cs h
row_cached o me (call.HostRead page i) w cs h = h
row_cached o me _ w cs h = h

module _ (o : Opening) (w : World) (p : ℕ) (b : Bool) (lp : Lp) (h : IsCache lp.cached) where
  abbrev Kept : Event → Type 0
  Kept e = IsCache (lp_after w b e lp).cached

  of_call : (c : Call) (move : Move Reply) → Kept (OfCall (row_of o p c) move)
  of_call c move = subst IsCache (sym (settled-lp (call_lp w b (row_of o p c) move lp)).0) (moved move)
    where
      entered : (x : Option Entering) → IsCache (succeeded w (row_of o p c) x lp).cached
      entered None = row_cached o p c w lp.cached h
      entered (Some x) = row_cached o p c w lp.cached h

      moved : (move : Move Reply) → IsCache (call_lp w b (row_of o p c) move lp).cached
      moved Succeeds = entered (row_of o p c).enters
      moved (Attempts l m) = h
      moved (Undoes l) = h
      moved (Refuses r) = h
      moved (Releases x) = h
      moved Rests = h

  after_load : (ok : Bool) (level : ℕ) (c : Translation) → IsCache (cached_after ok level c lp.cached)
  after_load true zero c = cached c lp.cached h
  after_load true (suc level) c = h
  after_load false level c = h

  of_walk : (access : Access) (gpa : ℕ) (g : Option Guest) → IsCache (walk_translations w access gpa g lp.cached)
  of_walk access gpa None = h
  of_walk access gpa (Some g) = let e = walked_entry w g gpa in after_load (goes_on access (walk_level g.walk) e) (walk_level g.walk) (translation_of g gpa e)

  by_due : (e : Event) → Due o w p lp e → Kept e
  by_due e (calls c cs line none) = of_call c (next_in ((row_of o p c).items w) lp.call.phase lp.call.held)
  by_due e (frees c cs g x hs line guest held epoch) = of_call c (Releases x)
  by_due e (leaves c cs g out i l) = h
  by_due e (stops c cs g i l t d) = h
  by_due e (fills c cs g op i l t d m) = h
  by_due e (operates c cs g op row i way is) = h
  by_due e (walks c cs g op access r gpa i way is lost) = of_walk access gpa lp.guest
  by_due e (reaches c cs g op access r gpa page i way is found) = h
  by_due e (undoes c cs g l i st x) = h
  by_due e (gives_back c cs g out i st x) = h

pub caches_kept : CachesAreKept
caches_kept = record {
  start = λ o ws p. record { few = omega arith; apart = refl };
  event = λ o bundles s p h. after (with_bundles o bundles) s p h (next_event (with_bundles o bundles) s p) refl;
}
  where
    after : (o : Opening) (s : State) (p : ℕ) → ((q : ℕ) → IsCache (s.lps q).cached) → (x : Option Event) → next_event o s p ≡ x → (q : ℕ) → IsCache ((after_event p s x).lps q).cached
    after o s p h None is q = h q
    after o s p h (Some e) is q = by_test (q == p) (λ y. rw y (by_due o s.world p (is_granted s e) (s.lps p) (h p) e (due_event_is o s p e is))) (λ y. rw y (h q))

pub caches_small : CachesAreSmall
caches_small = in_runs (λ o s. (p : ℕ) → IsCache (s.lps p).cached) caches_kept
