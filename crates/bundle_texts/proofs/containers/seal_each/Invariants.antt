use Rattle.std.proofs.Common.{◌≡◌, ◌≤◌, ℕ, List, All, map, length, take}
use Rattle.bundle_texts.specs.Sealed.{sealed, HoldKeys}
use Rattle.bundle_texts.proofs.containers.seal_each.Given as goal

abbrev pub invariant-loop-bundle : goal.invariant-loop-bundle
invariant-loop-bundle l = record {
  sealed : (forward backward : List ℕ) → HoldKeys l.keys forward backward → l.out.items ≡ map (sealed forward backward) (take l.bundle-index l.bundles);
  slots : map (λ b. b.slot) l.out.items ≡ map (λ m. m.slot) (take l.bundle-index l.bundles);
  sizes : All (λ b. length b.bytes ≤ 131072) l.out.items;
}
