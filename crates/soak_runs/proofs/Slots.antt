-- What stands in a slot doesn't depend on the order of bundles that have different slots.
use Rattle.std.proofs.Common.{◌≡◌, ◌≢◌, ◌⊎◌, inl, inr, refl, sym, ◌∙◌, ap, ℕ, List, [], ◌∷◌, map, true, false, ◌==◌, nat_le, Option, Some, if◌then◌else◌, All, AllPairs}
use Rattle.std.proofs.lemmas.Bool.{cases_Bool, cond-true, cond-false}
use Rattle.std.proofs.lemmas.Bool.Decides.{eqb_tells}
use Rattle.std.proofs.lemmas.List.Elements.{All-head, All-tail}
use Rattle.std.proofs.lemmas.List.Sorted.{All-permutation}
use Rattle.flat_core.specs.World.{Made}
use Rattle.flat_core.specs.Opening.{Incoming}
use Rattle.bundle_texts.specs.Sealed.{sealed}
use Rattle.bundle_texts.specs.Ordered.{put_in, in_slot_order}
use Rattle.bundle_texts.proofs.Order.{order_moves}
use Rattle.bundle_texts.proofs.Pairs.{pairs_head, pairs_tail}
use Rattle.incoming.specs.Arrivals.{SlotIncoming, incoming_in, at_slot}
use Rattle.soak_runs.specs.Soaked.{forward_key, backward_key, carried}

abbrev in-slot : List Made → ℕ → Option Incoming
in-slot ms slot = at_slot (map carried ms) slot

-- of two bundles at most one is in a slot
swapped : (a b slot : ℕ) (x y rest : Option Incoming) → a ≢ b → (if b == slot then y else if a == slot then x else rest) ≡ (if a == slot then x else if b == slot then y else rest)
swapped a b slot x y rest apart = by (eqb_tells a slot) (eqb_tells b slot)
  where
    by : (((a == slot) ≡ true) × (a ≡ slot)) ⊎ (((a == slot) ≡ false) × (a ≢ slot)) → (((b == slot) ≡ true) × (b ≡ slot)) ⊎ (((b == slot) ≡ false) × (b ≢ slot))
        → (if b == slot then y else if a == slot then x else rest) ≡ (if a == slot then x else if b == slot then y else rest)
    by (inl s) (inl t) = absurd (apart (s.1 ∙ sym t.1))
    by (inl s) (inr t) = rw (s.0, t.0) refl
    by (inr s) (inl t) = rw (s.0, t.0) refl
    by (inr s) (inr t) = rw (s.0, t.0) refl

put-in-slot : (m : Made) (ns : List Made) (slot : ℕ) → All (λ n. m.slot ≢ n.slot) ns → in-slot (put_in m ns) slot ≡ in-slot (m ∷ ns) slot
put-in-slot m [] slot apart = refl
put-in-slot m (n ∷ ns) slot apart =
    by (put-in-slot m ns slot (All-tail (λ z. m.slot ≢ z.slot) n ns apart)) (cases_Bool (nat_le m.slot n.slot))
  where
    by : in-slot (put_in m ns) slot ≡ in-slot (m ∷ ns) slot → (nat_le m.slot n.slot ≡ true) ⊎ (nat_le m.slot n.slot ≡ false) → in-slot (put_in m (n ∷ ns)) slot ≡ in-slot (m ∷ n ∷ ns) slot
    by rest (inl low) = ap (λ (z : List Made). in-slot z slot) (cond-true (nat_le m.slot n.slot) (m ∷ n ∷ ns) (n ∷ put_in m ns) low)
    by rest (inr high) =
        ap (λ (z : List Made). in-slot z slot) (cond-false (nat_le m.slot n.slot) (m ∷ n ∷ ns) (n ∷ put_in m ns) high)
        ∙ (ap (λ (z : Option Incoming). if n.slot == slot then Some (carried n).bundle else z) rest
        ∙ swapped m.slot n.slot slot (Some (carried m).bundle) (Some (carried n).bundle) (in-slot ns slot) (All-head (λ z. m.slot ≢ z.slot) n ns apart))

order-in-slot : (ms : List Made) (slot : ℕ) → AllPairs (λ m n. m.slot ≢ n.slot) ms → in-slot (in_slot_order ms) slot ≡ in-slot ms slot
order-in-slot [] slot apart = refl
order-in-slot (m ∷ ms) slot apart =
    let here : All (λ n. m.slot ≢ n.slot) ms = pairs_head (λ (m n : Made). m.slot ≢ n.slot) m ms apart in
    put-in-slot m (in_slot_order ms) slot (All-permutation (λ n. m.slot ≢ n.slot) ms (in_slot_order ms) (order_moves ms) here)
    ∙ ap (λ (z : Option Incoming). if m.slot == slot then Some (carried m).bundle else z) (order-in-slot ms slot (pairs_tail (λ (m n : Made). m.slot ≢ n.slot) m ms apart))

opened-each : (ms : List Made) → map (incoming_in forward_key backward_key) (map (sealed forward_key backward_key) ms) ≡ map carried ms
opened-each [] = refl
opened-each (m ∷ ms) = ap (λ (z : List SlotIncoming). carried m ∷ z) (opened-each ms)

-- the bundles of a container, opened
pub carried-in-order : (ms : List Made) → AllPairs (λ m n. m.slot ≢ n.slot) ms → at_slot (map (incoming_in forward_key backward_key) (map (sealed forward_key backward_key) (in_slot_order ms))) ≡ at_slot (map carried ms)
carried-in-order ms apart = ap at_slot (opened-each (in_slot_order ms)) ∙ (λ i slot. order-in-slot ms slot apart i)
