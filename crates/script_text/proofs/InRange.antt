-- Items in range are items.
use Rattle.std.proofs.Common.{◌≡◌, ℕ, true, List, [], ◌∷◌, Option, Some, None, refl}
use Rattle.std.proofs.lemmas.Bool.{and_parts}
use Rattle.std.specs.Prelude.{is_some}
use Rattle.std.specs.List.{list_all}
use Rattle.script_text.specs.declared.schedules.Item.{Item}
use Rattle.script_text.specs.Schedule.{item_of, in_range_of, turns_in}

item-in : (lps : ℕ) (item : Option Item) → is_some (in_range_of lps item) ≡ true → is_some item ≡ true
item-in lps None h = h
item-in lps (Some i) h = refl

pub in_range_are_items : (lps : ℕ) (ws : List (List ℕ)) → list_all (λ w. is_some (turns_in lps w)) ws ≡ true → list_all (λ w. is_some (item_of w)) ws ≡ true
in_range_are_items lps [] h = refl
in_range_are_items lps (w ∷ ws) h =
    let p = and_parts (is_some (turns_in lps w)) (list_all (λ x. is_some (turns_in lps x)) ws) h in
    rw (item-in lps (item_of w) p.0, in_range_are_items lps ws p.1) refl
