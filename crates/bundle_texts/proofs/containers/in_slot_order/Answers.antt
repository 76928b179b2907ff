use Rattle.std.proofs.Common.{rules, ℕ}
use Rattle.std.proofs.lemmas.List.Sorted.{IsNonDecreasingBy-from_sort_by_key}
use Rattle.flat_core.specs.World.{Made}
use Rattle.bundle_texts.proofs.Pairs.{apart_moved}
use Rattle.bundle_texts.proofs.Order.{is_slot_order, rise_of}
use Rattle.bundle_texts.proofs.containers.in_slot_order.Goals as goal

pub returns : goal.returns
returns c =
    let slot : Made → ℕ = λ m. m.slot in
    let moved = c.sort_unstable_by_key.ensures.permutation in
    let up = IsNonDecreasingBy-from_sort_by_key slot _ c.sort_unstable_by_key.ensures.sorted (λ a r q k. search rules) in
    is_slot_order _ _ c.requires.apart moved (rise_of _ up (apart_moved slot _ _ moved c.requires.apart))
