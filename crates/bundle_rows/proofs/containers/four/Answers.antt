use Rattle.std.proofs.Common.{◌≡◌, ◌∙◌, List, [], ◌∷◌, ◌++◌, ap, sym, subst}
use Rattle.flat_core.specs.World.{Made}
use Rattle.bundle_texts.specs.Ordered.{FitContainer}
use Rattle.bundle_rows.proofs.Four.{fit_four}
use Rattle.bundle_rows.proofs.containers.four.Goals as goal

-- a list after four pushes
pushed : (l0 l1 l2 l3 l4 : List Made) (a b c d : Made) → l0 ≡ [] → l1 ≡ l0 ++ a ∷ [] → l2 ≡ l1 ++ b ∷ [] → l3 ≡ l2 ++ c ∷ [] → l4 ≡ l3 ++ d ∷ []
    → l4 ≡ a ∷ b ∷ c ∷ d ∷ []
pushed l0 l1 l2 l3 l4 a b c d e0 e1 e2 e3 e4 =
    e4 ∙ ap (λ (l : List Made). l ++ d ∷ []) (e3 ∙ ap (λ (l : List Made). l ++ c ∷ []) (e2 ∙ ap (λ (l : List Made). l ++ b ∷ []) (e1 ∙ ap (λ (l : List Made). l ++ a ∷ []) e0)))

pub returns : goal.returns
returns c =
    let a = c.bundle.result in
    let b = c.bundle-2.result in
    let s = c.bundle-3.result in
    let t = c.bundle-4.result in
    let a_is = c.bundle.ensures in
    let b_is = c.bundle-2.ensures in
    let s_is = c.bundle-3.ensures in
    let t_is = c.bundle-4.ensures in
    subst FitContainer
    (sym (pushed c.new-bundles.result.items c.push.new.self.items c.push-2.new.self.items c.push-3.new.self.items c.push-4.new.self.items a b s t
    c.new-bundles.ensures.items c.in_ok-push.ensures.items c.in_ok-push-2.ensures.items c.in_ok-push-3.ensures.items c.in_ok-push-4.ensures.items))
    (fit_four a b s t (record { here = a_is.0; small = a_is.1 }) (record { here = b_is.0; small = b_is.1 })
    (record { here = s_is.0; small = s_is.1 }) (record { here = t_is.0; small = t_is.1 }))
