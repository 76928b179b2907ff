-- Bundles that were made stay; and what comes in at a module is what a neighbour has made.
use Rattle.std.proofs.Common.{◌≡◌, refl, sym, ◌∙◌, ap, subst, ℕ, zero, suc, ◌+◌, List, [], ◌∷◌, ◌++◌, length, Option, Some, None, Ok, Bool, true, false, not, ◌==◌}
use Rattle.std.specs.List.{All}
use Rattle.std.proofs.lemmas.Bool.{eqb-true}
use Rattle.std.proofs.lemmas.List.{append_assoc, append-nil}
use Rattle.std.proofs.lemmas.List.Elements.{All-nil, All-head, All-tail, All-append, All-weaker, All-filter, filter_passes}
use Rattle.td_words.specs.Slots.{output_slot}
use Rattle.flat_core.specs.World.{World, ClearHeader, Made}
use Rattle.flat_core.specs.Opening.{Opening, Incoming}
use Rattle.flat_core.specs.Event.{State, event}
use Rattle.flat_core.specs.Run.{bundles_in}
use Rattle.flat_core.proofs.Tests.{by_test}
use Rattle.flat_core.proofs.Acts.{event_world}
use Rattle.flat_bundles.specs.Bundles.{AddsOwn}
use Rattle.flat_bundles.specs.Ended.{has_ended, all_left, ended_bundles}
use Rattle.flat_bundles.proofs.Rows.{calls-add, operation-adds, reach-adds}
use Rattle.mig_laws.specs.Ivs.{is_forward}
use Rattle.mig_laws.specs.Image.{IsMade, Unforged}
use Rattle.mig_laws.proofs.Places.{by_places}
use Rattle.image_laws.specs.Containers.{as_made}
use Rattle.chain_laws.specs.Chains.{Chain, Running, Module, state_of, comes_forward, comes_back, comes_in, in_slot, inputs, opening_now, play_chain}
use Rattle.chain_laws.proofs.Turns.{module_keeps, chain_keeps}

-- the later list begins with the earlier one
pub record Begins (before after : List Made) : Type 0 where
  pub more : List Made
  pub parts : after ≡ before ++ more

pub begins_itself : (xs : List Made) → Begins xs xs
begins_itself xs = record { more = []; parts = sym (append-nil xs) }

begins_then : (xs ys zs : List Made) → Begins xs ys → Begins ys zs → Begins xs zs
begins_then xs ys zs a b = record { more = a.more ++ b.more; parts = b.parts ∙ (ap (λ (l : List Made). l ++ b.more) a.parts ∙ append_assoc xs a.more b.more) }

same_begins : (xs ys : List Made) → ys ≡ xs → Begins xs ys
same_begins xs ys same = subst (λ (l : List Made). Begins xs l) (sym same) (begins_itself xs)

own_begins : (slot : Option ℕ) (xs ys : List Made) → AddsOwn slot xs ys → Begins xs ys
own_begins None xs ys a = same_begins xs ys a
own_begins (Some slot) xs ys a = record { more = a.bundle ∷ []; parts = a.added }

pub event_grows : (o : Opening) (s : State) (p : ℕ) → Begins (bundles_in s) (bundles_in (event o s p))
event_grows o s p =
    let w : World = s.world in
    let own : List Made = w.outgoing.bundles in
    event_world o s p (λ v. Begins own v.outgoing.bundles) (begins_itself own)
    (λ c cs line none ps. own_begins (output_slot c) own _ (calls-add o p c w))
    (λ c cs g op row i is ps. same_begins own _ (operation-adds o g.tdr g.vp (length (s.lps p).replies + 1) op row w is))
    (λ c cs g op access k gpa page i is found. same_begins own _ (reach-adds g.tdr g.vp access k gpa page w))
    (λ c cs g i. begins_itself own)

abbrev pub made_by : Running → ℕ → List Made
made_by r i = bundles_in (state_of r i)

pub turns_grow : (c : Chain) (xs : List ℕ) (r : Running) (i : ℕ) → Begins (made_by r i) (made_by (play_chain c xs r) i)
turns_grow c xs r i = chain_keeps c (λ q. Begins (made_by r i) (made_by q i))
    (λ q x h. module_keeps (λ s. Begins (made_by r i) (bundles_in s)) c q x i h (λ p. begins_then (made_by r i) (made_by q i) _ h (event_grows (opening_now c q.modules i) (state_of q i) p)))
    xs r (begins_itself (made_by r i))

-- what is found in a slot is a bundle of the list, as it was made
pub record IsFound (has : Made → Type 0) (slot : ℕ) (b : Incoming) : Type 0 where
  pub made : Made
  pub holds : has made
  pub own : made.slot ≡ slot
  pub is : b ≡ as_made made

some_incoming : (a b : Incoming) → Some a ≡ Some b → b ≡ a
some_incoming a b e = cc

pub found : (has : Made → Type 0) (slot : ℕ) (bundles : List Made) (b : Incoming) → All has bundles → in_slot bundles slot ≡ Some b → IsFound has slot b
found has slot [] b h e = cc
found has slot (x ∷ xs) b h e = by_test (x.slot == slot)
    (λ y. record { made = x; holds = All-head has x xs h; own = eqb-true x.slot slot y; is = some_incoming (as_made x) b (rw y at e) })
    (λ y. found has slot xs b (All-tail has x xs h) (rw y at e))

-- what comes in, of each type
abbrev MadeIn : List Made → Made → Type 0
MadeIn made m = IsMade m.header m.payload made

all_made : (bundles made : List Made) → Begins bundles made → All (MadeIn made) bundles
all_made bundles made g = by_places (MadeIn made) bundles (λ front back m is. record {
  before = front;
  after = back ++ g.more;
  bundle = m;
  place = g.parts ∙ (ap (λ (l : List Made). l ++ g.more) is ∙ append_assoc front (m ∷ back) g.more);
  same_header = refl;
  same_words = refl;
})

pub ended_made : (o : Opening) (s : State) (P : Made → Type 0) → All P (bundles_in s) → All P (ended_bundles o s)
ended_made o s P h = All-filter (has_ended (all_left o s)) P (bundles_in s) h

same_ok : (m : Made) (h : ClearHeader) (b : Incoming) → b ≡ as_made m → b.header ≡ Ok h → m.header ≡ h
same_ok m h b is e = let same = ap (λ (z : Incoming). z.header) (sym is) ∙ e in cc

-- a bundle that was found, with its header, was made
found_made : (made : List Made) (b : Incoming) (h : ClearHeader) (m : Made) → b ≡ as_made m → b.header ≡ Ok h → MadeIn made m → IsMade h b.payload made
found_made made b h m is e k = record {
  before = k.before;
  after = k.after;
  bundle = k.bundle;
  place = k.place;
  same_header = k.same_header ∙ same_ok m h b is e;
  same_words = k.same_words ∙ ap (λ (z : Incoming). z.payload) (sym is);
}

-- a token back is of type 6
was_six : (x : Bool) → not (not x) ≡ true → x ≡ true
was_six true e = refl
was_six false e = cc

abbrev Forward : List Made → Made → Type 0
Forward made m = (m.header.kind == 6) ≡ false → MadeIn made m

abbrev Back : List Made → Made → Type 0
Back made m = m.header.kind ≡ 6 → MadeIn made m

module _ (c : Chain) (ms : ℕ → Module) where
  all_forward : (i : ℕ) → All (λ m. is_forward m ≡ true) (comes_forward c ms i)
  all_forward zero = All-nil (λ m. is_forward m ≡ true)
  all_forward (suc i) = filter_passes is_forward (ended_bundles (c.openings i) (ms i).state)

  all_back : (i : ℕ) → All (λ m. not (is_forward m) ≡ true) (comes_back c ms i)
  all_back i = filter_passes (λ m. not (is_forward m)) (ended_bundles (c.openings (suc i)) (ms (suc i)).state)

  -- of types 0 to 5, at a module, all was made by the one before it
  pub forward_made : (i : ℕ) (made : List Made) → Begins (bundles_in (ms i).state) made → Unforged (opening_now c ms (suc i)) made
  forward_made i made g slot b h e header right kind =
      found_made made b h f.made f.is header (f.holds (ap (λ (z : ClearHeader). z.kind == 6) (same_ok f.made h b f.is header) ∙ kind))
    where
      front : All (Forward made) (comes_forward c ms (suc i))
      front = All-weaker (MadeIn made) (Forward made) (λ m k z. k) (comes_forward c ms (suc i))
          (All-filter is_forward (MadeIn made) (ended_bundles (c.openings i) (ms i).state) (ended_made (c.openings i) (ms i).state (MadeIn made) (all_made (bundles_in (ms i).state) made g)))

      back : All (Forward made) (comes_back c ms (suc i))
      back = All-weaker (λ m. not (is_forward m) ≡ true) (Forward made) (λ m k z. (let six = was_six (m.header.kind == 6) k in let no : true ≡ false = sym six ∙ z in cc)) (comes_back c ms (suc i)) (all_back (suc i))

      f : IsFound (Forward made) slot b
      f = found (Forward made) slot (comes_in c ms (suc i)) b (All-append (Forward made) (comes_forward c ms (suc i)) (comes_back c ms (suc i)) front back) e

  -- of type 6, at a module, all was made by the one behind it
  pub back_made : (i : ℕ) (made : List Made) → Begins (bundles_in (ms (suc i)).state) made → (slot : ℕ) (b : Incoming) (h : ClearHeader) → inputs c ms i slot ≡ Some b → b.header ≡ Ok h → h.kind ≡ 6 → IsMade h b.payload made
  back_made i made g slot b h e header six =
      found_made made b h f.made f.is header (f.holds (ap (λ (z : ClearHeader). z.kind) (same_ok f.made h b f.is header) ∙ six))
    where
      front : All (Back made) (comes_forward c ms i)
      front = All-weaker (λ m. is_forward m ≡ true) (Back made) (λ m k z. (let off : is_forward m ≡ false = ap (λ (n : ℕ). not (n == 6)) z in let no : true ≡ false = sym k ∙ off in cc)) (comes_forward c ms i) (all_forward i)

      back : All (Back made) (comes_back c ms i)
      back = All-weaker (MadeIn made) (Back made) (λ m k z. k) (comes_back c ms i)
          (All-filter (λ m. not (is_forward m)) (MadeIn made) (ended_bundles (c.openings (suc i)) (ms (suc i)).state)
          (ended_made (c.openings (suc i)) (ms (suc i)).state (MadeIn made) (all_made (bundles_in (ms (suc i)).state) made g)))

      f : IsFound (Back made) slot b
      f = found (Back made) slot (comes_in c ms i) b (All-append (Back made) (comes_forward c ms i) (comes_back c ms i) front back) e

  -- the first module takes tokens back alone
  pub first_takes_back : (made : List Made) → Unforged (opening_now c ms 0) made
  first_takes_back made slot b h e header right kind =
      absurd (let six = was_six (f.made.header.kind == 6) f.holds in let no : true ≡ false = sym six ∙ (ap (λ (z : ClearHeader). z.kind == 6) (same_ok f.made h b f.is header) ∙ kind) in cc)
    where
      f : IsFound (λ m. not (is_forward m) ≡ true) slot b
      f = found (λ m. not (is_forward m) ≡ true) slot (comes_back c ms 0) b (all_back 0) e
