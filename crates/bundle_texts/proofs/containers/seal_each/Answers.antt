use Rattle.std.proofs.Common.{◌≡◌, ◌∙◌, ◌<◌, ◌≤◌, ◌+◌, ℕ, List, [], ◌∷◌, ◌++◌, length, map, take, get_or, All, ap, subst, sym}
use Rattle.std.proofs.lemmas.List.{map_push, map_more}
use Rattle.std.proofs.lemmas.List.Elements.{All-push}
use Rattle.td_words.specs.Seen.{BundleSeen}
use Rattle.flat_core.specs.World.{Made}
use Rattle.bundle_texts.specs.Sealed.{sealed}
use Rattle.bundle_texts.proofs.containers.seal_each.Goals as goal

-- one more of a list that is gone through
more : {Y : Type 0} (f : Made → Y) (ms : List Made) (i : ℕ) (m : Made) (out : List Y) (y : Y) → i < length ms → m ≡ get_or ms i m
    → y ≡ f m → out ≡ map f (take i ms) → out ++ y ∷ [] ≡ map f (take (i + 1) ms)
more f ms i m out y h here is before = (λ j. before j ++ (is ∙ ap f here) j ∷ []) ∙ sym (map_more f ms i m h)

pub loop-bundle-preserved : goal.loop-bundle-preserved
loop-bundle-preserved c =
    let old = c.loop-bundle.out.items in
    let made = c.bundle-item.result in
    let here = c.bundle-item.is in
    let made_too = c.in_ok-sealed.sealed in
    let new = c.in-Ok.ensures.items in
    let slot : BundleSeen → ℕ = λ b. b.slot in
    record {
      sealed = λ forward backward are.
          new ∙ more (sealed forward backward) c.args.bundles.now c.loop-bundle.bundle-index made old made_too c.loop-bundle-test.true here
          (c.in_ok-sealed.ensures.sealed forward backward are) (c.loop-bundle.invariant.sealed forward backward are);
      slots = ap (map slot) new ∙ map_push slot old made_too
          ∙ more (λ m. m.slot) c.args.bundles.now c.loop-bundle.bundle-index made (map slot old) made_too.slot c.loop-bundle-test.true here
          c.in_ok-sealed.ensures.slot c.loop-bundle.invariant.slots;
      sizes = subst (All (λ (b : BundleSeen). length b.bytes ≤ 131072)) (sym new)
          (All-push (λ b. length b.bytes ≤ 131072) old made_too c.loop-bundle.invariant.sizes c.in_ok-sealed.ensures.size);
    }
