use Rattle.std.proofs.Common.{rules, ◌≡◌, ◌∙◌, ◌++◌, [], ◌∷◌, ◌<◌, ℕ, List, All, map, length, refl, ap, sym, subst}
use Rattle.flat_core.specs.Opening.{Incoming}
use Rattle.incoming.specs.declared.arrivals.Kept.{Kept}
use Rattle.incoming.specs.Arrivals.{SlotIncoming, arrived, StandWithin, SlotsRise}
use Rattle.incoming.proofs.Pushing.{one-more, stand-more, still-stand, still-arrived, rise-more, slot_seen}
use Rattle.incoming.proofs.arrivals.IncomingBundles.push.Goals as goal
use Rattle.incoming.proofs.arrivals.IncomingBundles.push.Goals.{in-Ok-push, in-Err}

abbrev kept_of : goal.Joined-push → Kept
kept_of c = record { slot = c.args.slot; header = c.bundle.inside.header.now; opens = c.bundle.inside.opens; from = c.len-from.result; to = c.len-to.result }

from-is : (c : goal.Joined-push) → c.len-from.result ≡ length c.self.inside.words.items
from-is c = search rules

to-is : (c : goal.Joined-push) → c.len-to.result ≡ length c.extend_from_slice.new.self.items
to-is c = search rules

below : (c : goal.Joined-push) → All (λ n. n < c.args.slot) (map slot_seen (map (arrived c.self.inside.words.items) c.self.inside.kept.items))
below c = subst (λ (bs : List SlotIncoming). All (λ n. n < c.args.slot) (map slot_seen bs)) (sym c.self.view_is) c.requires

pub invariant_of-self-2 : goal.invariant_of-self-2
invariant_of-self-2 c =
    let words : List ℕ = c.self.inside.words.items in
    let words' : List ℕ = c.extend_from_slice.new.self.items in
    let more : List ℕ = c.bundle.inside.payload.now in
    let ks : List Kept = c.self.inside.kept.items in
    elim c.match-push.branch [
      | in-Ok-push w ↦ (
        subst (λ (l : List Kept). StandWithin (length words') l) (sym w.in-Ok-push.ensures.items) (stand-more words words' more ks c.self.invariant.0 c.in-Ok.ensures.items (kept_of c) (from-is c) (to-is c)),
        subst SlotsRise (sym w.in-Ok-push.ensures.items) (rise-more words c.args.slot ks (kept_of c) c.self.invariant.1 refl (below c)),
      )
      | in-Err w ↦ (
        subst (λ (l : List Kept). StandWithin (length words') l) (sym w.in-Err.ensures.items) (still-stand words words' more ks c.self.invariant.0 c.in-Ok.ensures.items),
        subst SlotsRise (sym w.in-Err.ensures.items) c.self.invariant.1,
      )
    ]

pub returns-clause-added : goal.returns-clause-added
returns-clause-added c =
    let words : List ℕ = c.self.inside.words.items in
    let words' : List ℕ = c.extend_from_slice.new.self.items in
    let more : List ℕ = c.bundle.inside.payload.now in
    let ks : List Kept = c.self.inside.kept.items in
    let b : SlotIncoming = record { slot = c.args.slot; bundle = c.args.bundle } in
    elim c.match-push.branch [
      | in-Ok-push w ↦ rw w.result-is (
          ap (map (arrived words')) w.in-Ok-push.ensures.items
          ∙ one-more words words' more ks c.self.invariant.0 c.in-Ok.ensures.items (kept_of c) (from-is c) (to-is c) b
          (ap (λ (x : Incoming). record { slot = c.args.slot; bundle = x }) (sym c.bundle.view_is))
          ∙ ap (λ (bs : List SlotIncoming). bs ++ b ∷ []) c.self.view_is)
      | in-Err w ↦ rw w.result-is tt
    ]

pub returns-clause-same : goal.returns-clause-same
returns-clause-same c =
    let words : List ℕ = c.self.inside.words.items in
    let words' : List ℕ = c.extend_from_slice.new.self.items in
    let ks : List Kept = c.self.inside.kept.items in
    elim c.match-push.branch [
      | in-Ok-push w ↦ rw w.result-is tt
      | in-Err w ↦ rw w.result-is (
          ap (map (arrived words')) w.in-Err.ensures.items
          ∙ still-arrived words words' c.bundle.inside.payload.now ks c.self.invariant.0 c.in-Ok.ensures.items
          ∙ c.self.view_is)
    ]
