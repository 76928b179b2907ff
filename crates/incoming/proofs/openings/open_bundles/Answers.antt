use Rattle.std.proofs.Common.{◌≡◌, ◌∙◌, ◌<◌, ℕ, List, All, length, map, take, get_or, ap, sym, subst, arith}
use Rattle.td_words.specs.Seen.{BundleSeen}
use Rattle.incoming.specs.Opened.{opened}
use Rattle.incoming.specs.Arrivals.{incoming_in}
use Rattle.incoming.proofs.Pushing.{slot_seen}
use Rattle.incoming.proofs.Opening.{in-order-size, in-order-below, one-through}
use Rattle.incoming.proofs.openings.open_bundles.Goals as goal

pub add_opened-requires-clause-size : goal.add_opened-requires-clause-size
add_opened-requires-clause-size c =
    let here : length c.bundle.inside.bytes.items ≡ length (get_or c.args.bundles.now c.loop-bundle.bundle-index c.bundle-item.result).bytes = ap (λ (b : BundleSeen). length b.bytes) (c.bundle.view_is ∙ c.bundle-item.is) in
    omega (arith, ap length c.deref.ensures.value, here, in-order-size c.args.bundles.now 0 c.loop-bundle.bundle-index c.bundle-item.result c.requires c.loop-bundle-test.true)

pub add_opened-requires-clause-slots : goal.add_opened-requires-clause-slots
add_opened-requires-clause-slots c =
    let here : c.bundle.inside.slot ≡ (get_or c.args.bundles.now c.loop-bundle.bundle-index c.bundle-item.result).slot = ap (λ (b : BundleSeen). b.slot) (c.bundle.view_is ∙ c.bundle-item.is) in
    subst (λ (ns : List ℕ). All (λ n. n < c.bundle.inside.slot) ns) (sym c.loop-bundle.invariant.slots)
    (subst (λ (slot : ℕ). All (λ n. n < slot) (map (λ b. b.slot) (take c.loop-bundle.bundle-index c.args.bundles.now))) (sym here)
    (in-order-below c.args.bundles.now 0 c.loop-bundle.bundle-index c.bundle-item.result c.requires c.loop-bundle-test.true))

pub loop-bundle-preserved : goal.loop-bundle-preserved
loop-bundle-preserved c =
    let b : BundleSeen = c.bundle-item.result in
    let seen : record { slot = c.bundle.inside.slot; bytes = c.bundle.inside.bytes.items } ≡ b = c.bundle.view_is in
    record {
      opened = λ forward backward are.
          c.in_ok-add_opened.ensures.added forward backward are
          ∙ one-through (incoming_in forward backward) c.args.bundles.now c.loop-bundle.bundle-index b c.loop-bundle.incoming _ c.loop-bundle-test.true c.bundle-item.is
          (λ i. record { slot = (seen i).slot; bundle = opened forward backward ((c.deref.ensures.value ∙ ap (λ (x : BundleSeen). x.bytes) seen) i) })
          (c.loop-bundle.invariant.opened forward backward are);
      slots = c.in_ok-add_opened.ensures.slots
          ∙ one-through (λ b. b.slot) c.args.bundles.now c.loop-bundle.bundle-index b (map slot_seen c.loop-bundle.incoming) c.bundle.inside.slot c.loop-bundle-test.true c.bundle-item.is
          (ap (λ (x : BundleSeen). x.slot) seen) c.loop-bundle.invariant.slots;
    }
