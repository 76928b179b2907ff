-- Each row of the leaf table, by computation; and a rule that is met by wants that a grip meets.
use Rattle.std.proofs.Common.{◌≡◌, refl, inl, inr, true, List, [], ◌∷◌}
use Rattle.std.proofs.lemmas.Bool.{or_cases, and_parts}
use Rattle.word_rules.specs.Guards.{Guard, Role, Want, Has, Sole, Clear, Rule, Grip, HasWhatIsSole, MeetsWant, MeetsAll, Meets}
use Rattle.word_rules.specs.Uses.{Use, HeadPage, fits, gives, given_by, all_given, met, LeafTableFits}
use Rattle.word_rules.proofs.Sound.{same-true}

each : (u : Use) → fits u ≡ true
each HeadPage = refl
each _ = refl

module _ (g : Grip) (at : Role → Guard) (whole : HasWhatIsSole g) where
  one-given : (h w : Want) → gives h w ≡ true → MeetsWant g at h → MeetsWant g at w
  one-given (Has a) (Has b) e x = rw (← same-true a b e) x
  one-given (Sole a) (Has b) e x = rw (← same-true a b e) (whole (at a) x)
  one-given (Sole a) (Sole b) e x = rw (← same-true a b e) x
  one-given (Clear a) (Clear b) e x = rw (← same-true a b e) x
  one-given (Has a) (Sole b) e x = cc
  one-given (Has a) (Clear b) e x = cc
  one-given (Sole a) (Clear b) e x = cc
  one-given (Clear a) (Has b) e x = cc
  one-given (Clear a) (Sole b) e x = cc

  by-list : (hs : List Want) (w : Want) → given_by hs w ≡ true → MeetsAll g at hs → MeetsWant g at w
  by-list [] w e x = cc
  by-list (h ∷ hs) w e x = elim (or_cases (gives h w) _ e) [ inl c ↦ one-given h w c x.0 | inr c ↦ by-list hs w c x.1 ]

  all-of : (hs ws : List Want) → all_given hs ws ≡ true → MeetsAll g at hs → MeetsAll g at ws
  all-of hs [] e x = tt
  all-of hs (w ∷ ws) e x = let both = and_parts (given_by hs w) (all_given hs ws) e in (by-list hs w both.0 x, all-of hs ws both.1 x)

  rule-of : (hs : List Want) (r : Rule) → MeetsAll g at hs → met hs r ≡ true → Meets g at r
  rule-of hs [] x e = cc
  rule-of hs (ws ∷ r) x e = elim (or_cases (all_given hs ws) _ e) [ inl c ↦ inl (all-of hs ws c x) | inr c ↦ inr (rule-of hs r x c) ]

pub leaf_table_fits : LeafTableFits
leaf_table_fits = record { each = each; given = λ g at hs r whole x e. rule-of g at whole hs r x e }
