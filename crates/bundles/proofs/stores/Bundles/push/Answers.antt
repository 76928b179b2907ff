use Rattle.std.proofs.Common.{rules, ◌≡◌, ◌∙◌, ◌++◌, [], ◌∷◌, length, ap, sym}
use Rattle.bundles.specs.Stores.{Stored}
use Rattle.bundles.specs.declared.stores.Kept.{Kept}
use Rattle.bundles.proofs.Pushing.{one-more}
use Rattle.bundles.proofs.stores.Bundles.push.Goals as goal

pub returns-clause-made : goal.returns-clause-made
returns-clause-made c =
    let kept : Kept = record { slot = c.bundle.inside.slot; header = c.bundle.inside.header; from = c.len-from.result; to = c.len-to.result } in
    let from : kept.from ≡ length c.self.inside.words.items = search rules in
    let to : kept.to ≡ length c.extend_from_slice.new.self.items = search rules in
    one-more c.self.inside.words.items c.extend_from_slice.new.self.items c.bundle.inside.payload.now c.self.inside.kept.items c.push.new.self.items kept c.args.bundle c.self.invariant c.in-Ok.ensures.items
    c.in-Ok-push.ensures.items from to (sym c.bundle.view_is)
    ∙ ap (λ (s : Stored). s.made ++ c.args.bundle ∷ []) c.self.view_is
