use Rattle.std.proofs.Common.{◌≡◌, ◌∙◌, ◌++◌, ℕ, List, [], ◌∷◌, Some, OnOk, map, ap, sym, subst}
use Rattle.td_words.specs.Seen.{BundleSeen}
use Rattle.flat_core.specs.Opening.{Incoming}
use Rattle.incoming.specs.Opened.{opened}
use Rattle.incoming.specs.Arrivals.{SlotIncoming, at_slot, incoming_in}
use Rattle.incoming.proofs.Pushing.{slot_seen}
use Rattle.incoming.proofs.Inserting.{one-there, one-of}
use Rattle.incoming.proofs.openings.open_one_more.Goals as goal

pub unreachable-requires : goal.unreachable-requires
unreachable-requires c =
    let slots = c.in_ok-add_opened.ensures.slots ∙ ap (λ (bs : List SlotIncoming). map slot_seen bs ++ c.bundle.inside.slot ∷ []) c.new-one.ensures in
    one-there c.add_opened.new.incoming c.bundle.inside.slot slots (ap (at_slot c.add_opened.new.incoming) (sym c.from.ensures) ∙ sym c.get.ensures ∙ c.in_default.is)

same-of : (x y : Incoming) → Some x ≡ Some y → x ≡ y
same-of x y e = cc

pub returns : goal.returns
returns c forward backward are =
    let bytes : List ℕ = c.deref.result.now in
    let slot : ℕ = c.bundle.inside.slot in
    let made : Incoming = opened forward backward bytes in
    let one = c.in_ok-add_opened.ensures.added forward backward are ∙ ap (λ (bs : List SlotIncoming). bs ++ record { slot = slot; bundle = made } ∷ []) c.new-one.ensures in
    let there : Some c.in-Some.opened ≡ Some made =
    sym c.in-Some.is ∙ c.get.ensures ∙ (λ i. at_slot (one i) (c.from.ensures i)) ∙ one-of (record { slot = slot; bundle = made }) in
    let same : c.in-Some.opened ≡ made = same-of c.in-Some.opened made there in
    let is : incoming_in forward backward c.args.bundle.now ≡ record { slot = slot; bundle = made } =
    ap (λ (b : BundleSeen). incoming_in forward backward b) (sym c.bundle.view_is) ∙ ap (λ (bs : List ℕ). record { slot = slot; bundle = opened forward backward bs }) (sym c.deref.ensures.value) in
    subst (λ (b : SlotIncoming). OnOk c.insert.result ((n : ℕ) → at_slot c.insert.new.self n ≡ at_slot (c.args.incoming.now ++ b ∷ []) n)) (sym is)
    (subst (λ (x : Incoming). OnOk c.insert.result ((n : ℕ) → at_slot c.insert.new.self n ≡ at_slot (c.args.incoming.now ++ record { slot = slot; bundle = x } ∷ []) n)) same c.insert.ensures.added)
