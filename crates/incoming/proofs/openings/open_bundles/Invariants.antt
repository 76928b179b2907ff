use Rattle.std.proofs.Common.{◌≡◌, ℕ, List, map, take}
use Rattle.bundle_texts.specs.Sealed.{HoldKeys}
use Rattle.incoming.specs.Arrivals.{incoming_in}
use Rattle.incoming.proofs.openings.open_bundles.Given as goal

abbrev pub invariant-loop-bundle : goal.invariant-loop-bundle
invariant-loop-bundle l = record {
  opened : (forward backward : List ℕ) → HoldKeys l.keys forward backward → l.incoming ≡ map (incoming_in forward backward) (take l.bundle-index l.bundles);
  slots : map (λ b. b.slot) l.incoming ≡ map (λ b. b.slot) (take l.bundle-index l.bundles);
}
