-- Lists of calls, seen as their items.
use Rattle.std.proofs.Common.{◌≡◌, ℕ, ◌+◌, ◌<◌, List, [], ◌∷◌, ◌++◌, length, map, get_or, set, replicate, leb, false, ◌||◌, Ok, refl, ap, sym, ◌∙◌, arith}
use Rattle.std.specs.Global.{Vec}
use Rattle.std.proofs.lemmas.List.{get_or-map, map-set, map-append, replicate_more}
use Rattle.td_words.specs.declared.calls.Call.{Call}
use Rattle.std.specs.List.{list_any}
use Rattle.script_text.specs.Needs.{names_a_slot, needs_keys}
use Rattle.script_text.specs.Reading.{with_call}

abbrev items : Vec Call → List Call
items list = list.items

pub pushed : (xs : List (Vec Call)) (i : ℕ) (c : Call) (old new : Vec Call) → i < length xs → old ≡ get_or xs i old → length old.items < 4096 → new.items ≡ old.items ++ c ∷ [] → with_call (map (λ list. list.items) xs) i c ≡ Ok (map (λ list. list.items) (set xs i new))
pushed xs i c old new lt is few h =
    let at : get_or (map items xs) i [] ≡ old.items = get_or-map items xs i old [] lt ∙ ap items (sym is) in
    let room : leb 4096 (length (get_or (map items xs) i [])) ≡ false = rw at (grind arith) in
    rw (room, at, map-set items xs i new, h) refl

pub one_more : (xs ys : List (Vec Call)) (list : Vec Call) (n : ℕ) → ys ≡ xs ++ list ∷ [] → list.items ≡ [] → map (λ v. v.items) xs ≡ replicate n [] → map (λ v. v.items) ys ≡ replicate (n + 1) []
one_more xs ys list n e empty so_far = rw (e, map-append, so_far, empty) (replicate_more n [])

pub some_of_items : (xs : List (Vec Call)) → list_any (λ list. names_a_slot list.items) xs ≡ needs_keys (map (λ list. list.items) xs)
some_of_items [] = refl
some_of_items (x ∷ xs) = ap (λ b. names_a_slot x.items || b) (some_of_items xs)
