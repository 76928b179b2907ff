use Rattle.std.proofs.Common.{◌∙◌, ◌≤◌, length, map, All, ap, subst, sym}
use Rattle.td_words.specs.Seen.{BundleSeen}
use Rattle.bundle_texts.proofs.Order.{order_fits, order_written}
use Rattle.bundle_texts.proofs.containers.container_of.Goals as goal

pub seal_each-requires : goal.seal_each-requires
seal_each-requires c =
    (order_fits c.args.bundles.items c.deref.result.now (c.deref.ensures.value ∙ c.in_slot_order-bundles.ensures) c.requires).pages

pub write_container-requires : goal.write_container-requires
write_container-requires c =
    let back = c.deref-2.ensures.value in
    order_written c.args.bundles.items c.deref.result.now c.deref-2.result.now (c.deref.ensures.value ∙ c.in_slot_order-bundles.ensures) c.requires
    (ap (map (λ (b : BundleSeen). b.slot)) back ∙ c.in_ok-sealed.ensures.slots)
    (subst (All (λ (b : BundleSeen). length b.bytes ≤ 131072)) (sym back) c.in_ok-sealed.ensures.sizes)
