use Rattle.std.proofs.Common.{rules, ◌≡◌, ◌∙◌, ◌+◌, ◌<◌, ◌≤◌, ◌++◌, length-append, get_or, ℕ, List, [], ◌∷◌, Some, Ok, Err, map, length, ap, sym, subst, arith}
use Rattle.std.specs.List.{slice_range}
use Rattle.std.specs.List.Sorted.{IsBinarySearchResult}
use Rattle.std.specs.Ordering.{nat_cmp}
use Rattle.std.proofs.lemmas.List.Sorted.{answers_always}
use Rattle.flat_core.specs.Opening.{Incoming}
use Rattle.incoming.specs.declared.arrivals.Kept.{Kept}
use Rattle.incoming.specs.Opened.{clear_of}
use Rattle.incoming.specs.Arrivals.{SlotIncoming, at_slot, arrived, StandsWithin, StandWithin, SlotsRise}
use Rattle.bundles.proofs.Pushing.{part-added}
use Rattle.incoming.proofs.Found.{no_bundle, found, searched, parted}
use Rattle.incoming.proofs.Pushing.{still-stand, still-arrived}
use Rattle.incoming.proofs.Inserting.{ArePartedAt, rise-with, stand-with, found-stays, slot-with}
use Rattle.incoming.proofs.arrivals.IncomingBundles.insert.Goals as goal
use Rattle.incoming.proofs.arrivals.IncomingBundles.insert.Goals.{in-Ok-insert, in-Err-insert}

abbrev new_of : goal.Joined-insert → SlotIncoming
new_of c = record { slot = c.args.slot; bundle = c.args.bundle }

-- the slot has one
pub returns-in_default-clause-added : goal.returns-in_default-clause-added
returns-in_default-clause-added c n =
    let ks : List Kept = c.self.inside.kept.items in
    let words : List ℕ = c.self.inside.words.items in
    let i : ℕ = c.in_default.field-0 in
    let b : SlotIncoming = record { slot = c.args.slot; bundle = c.args.bundle } in
    let by-key = c.in_default.ensures.position (λ k. k.slot) (answers_always _ _ _ (λ f a r g called. search rules)) in
    let bound = subst (λ (l : List Kept). i < length l) c.deref.ensures.value c.in_default.ensures.bound in
    let position = subst (λ (l : List Kept). IsBinarySearchResult (λ k. nat_cmp k.slot c.args.slot) l (Ok i)) c.deref.ensures.value by-key in
    let hit = (searched ks c.self.invariant.1 c.args.slot (Ok i) bound position).at in
    let there : (d : Kept) → at_slot c.args.self.now c.args.slot ≡ Some (arrived words (get_or ks i d)).bundle =
    λ d. ap (λ (bs : List SlotIncoming). at_slot bs c.args.slot) (sym c.self.view_is) ∙ found words ks c.args.slot i d c.self.invariant.1 bound (hit.1 d) in
    found-stays c.args.self.now b n (λ none. let bad = sym none ∙ there no_bundle in cc)

abbrev kept_of : goal.Joined-insert → Kept
kept_of c = record { slot = c.args.slot; header = c.bundle.inside.header.now; opens = c.bundle.inside.opens; from = c.len-from.result; to = c.len-to.result }

at-most : (c : goal.Joined-insert) → c.in-Err.at ≤ length c.self.inside.kept.items
at-most c = subst (λ (l : List Kept). c.in-Err.at ≤ length l) c.deref.ensures.value c.in-Err.ensures.bound

parted-there : (c : goal.Joined-insert) → ArePartedAt c.self.inside.kept.items c.in-Err.at c.args.slot
parted-there c =
    let ks : List Kept = c.self.inside.kept.items in
    let by-key = c.in-Err.ensures.position (λ k. k.slot) (answers_always _ _ _ (λ f a r g called. search rules)) in
    let position = subst (λ (l : List Kept). IsBinarySearchResult (λ k. nat_cmp k.slot c.args.slot) l (Err c.in-Err.at)) c.deref.ensures.value by-key in
    let p = parted ks c.self.invariant.1 c.args.slot c.in-Err.at (at-most c) position in
    record { below = p.below; above = p.above }

from-is : (c : goal.Joined-insert) → c.len-from.result ≡ length c.self.inside.words.items
from-is c = search rules

to-is : (c : goal.Joined-insert) → c.len-to.result ≡ length c.extend_from_slice.new.self.items
to-is c = search rules

-- where its payload is kept behind all others
end-is : (c : goal.Joined-insert) → c.len-to.result ≡ length c.self.inside.words.items + length c.bundle.inside.payload.now
end-is c = to-is c ∙ ap length c.in-Ok.ensures.items ∙ length-append c.self.inside.words.items c.bundle.inside.payload.now

stands-behind : (c : goal.Joined-insert) → StandsWithin (length c.extend_from_slice.new.self.items) (kept_of c)
stands-behind c = let a = from-is c in let b = to-is c in let e = end-is c in record { order = omega (arith, a, e); inside = omega (arith, b) }

-- told of the words that were there
arrived-is : (c : goal.Joined-insert) → arrived c.extend_from_slice.new.self.items (kept_of c) ≡ new_of c
arrived-is c =
    let words : List ℕ = c.self.inside.words.items in
    let more : List ℕ = c.bundle.inside.payload.now in
    let told : List ℕ → Incoming = λ ws. record { header = clear_of c.bundle.inside.header.now; opens = c.bundle.inside.opens; payload = ws } in
    ap (λ (ws : List ℕ). record { slot = c.args.slot; bundle = told ws })
    ((λ i. slice_range (c.in-Ok.ensures.items i) (from-is c i) (end-is c i)) ∙ part-added words more)
    ∙ ap (λ (x : Incoming). record { slot = c.args.slot; bundle = x }) c.bundle.view_is

pub invariant_of-self-2 : goal.invariant_of-self-2
invariant_of-self-2 c =
    let words : List ℕ = c.self.inside.words.items in
    let words' : List ℕ = c.extend_from_slice.new.self.items in
    let more : List ℕ = c.bundle.inside.payload.now in
    let ks : List Kept = c.self.inside.kept.items in
    let still = still-stand words words' more ks c.self.invariant.0 c.in-Ok.ensures.items in
    elim c.match-insert.branch [
      | in-Ok-insert w ↦ (
        subst (λ (l : List Kept). StandWithin (length words') l) (sym w.in-Ok-insert.ensures.items) (stand-with (length words') ks c.in-Err.at (kept_of c) still (stands-behind c)),
        subst SlotsRise (sym w.in-Ok-insert.ensures.items) (rise-with ks c.in-Err.at (kept_of c) c.self.invariant.1 (at-most c) (parted-there c)),
      )
      | in-Err-insert w ↦ (
        subst (λ (l : List Kept). StandWithin (length words') l) (sym w.in-Err-insert.ensures.items) still,
        subst SlotsRise (sym w.in-Err-insert.ensures.items) c.self.invariant.1,
      )
    ]

pub returns-clause-added : goal.returns-clause-added
returns-clause-added c =
    let words : List ℕ = c.self.inside.words.items in
    let words' : List ℕ = c.extend_from_slice.new.self.items in
    let more : List ℕ = c.bundle.inside.payload.now in
    let ks : List Kept = c.self.inside.kept.items in
    elim c.match-insert.branch [
      | in-Ok-insert w ↦ rw w.result-is (λ n.
          ap (λ (l : List Kept). at_slot (map (arrived words') l) n) w.in-Ok-insert.ensures.items
          ∙ slot-with words' ks c.in-Err.at (kept_of c) n (at-most c) (parted-there c)
          ∙ (λ i. at_slot ((still-arrived words words' more ks c.self.invariant.0 c.in-Ok.ensures.items ∙ c.self.view_is) i ++ arrived-is c i ∷ []) n))
      | in-Err-insert w ↦ rw w.result-is tt
    ]

pub returns-clause-same : goal.returns-clause-same
returns-clause-same c =
    let words : List ℕ = c.self.inside.words.items in
    let words' : List ℕ = c.extend_from_slice.new.self.items in
    let ks : List Kept = c.self.inside.kept.items in
    elim c.match-insert.branch [
      | in-Ok-insert w ↦ rw w.result-is tt
      | in-Err-insert w ↦ rw w.result-is (
          ap (map (arrived words')) w.in-Err-insert.ensures.items
          ∙ still-arrived words words' c.bundle.inside.payload.now ks c.self.invariant.0 c.in-Ok.ensures.items
          ∙ c.self.view_is)
    ]
