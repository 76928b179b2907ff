-- A walk over a secure EPT that holds a TD's map ends as the map says.
use Rattle.std.proofs.Common.{◌≡◌, refl, sym, ◌∙◌, ap, ℕ, zero, suc, ◌+◌, ◌*◌, ◌%◌, ◌^◌, ◌<◌, ◌≤◌, Bool, true, false, if◌then◌else◌, List, [], ◌∷◌, ◌++◌, map, lit<, arith}
use Rattle.td_words.specs.declared.refusals.Status.TheVariants.{EptWalkFailed}
use Rattle.td_words.specs.declared.replies.Reply.{Reply}
use Rattle.td_words.specs.Packing.{Entry}
use Rattle.flat_core.specs.World.{World}
use Rattle.flat_core.specs.Row.{Item, next, needs}
use Rattle.flat_core.specs.Tree.{number_at, entry_at, levels_above}
use Rattle.sept_walk.specs.declared.walks.Walked.{Walked}
use Rattle.sept_walk.specs.declared.walks.Walked.TheVariants.{Found, Failed}
use Rattle.sept_walk.specs.SecureEpt.{index_at, is_mapped_on, entry_below, passes, walk_end}
use Rattle.sept_walk.specs.Maps.{HoldsMap, map_end, row_behind}
use Rattle.sept_walk.specs.Laws.{NumbersSplit, WalksMeetMaps}

-- alike above, and alike below where the entry is passed over
alike_if : (b : Bool) (l : ℕ) (p q : Walked) → (b ≡ true → p ≡ q) → (if b then p else Failed l) ≡ (if b then q else Failed l)
alike_if true l p q h = h refl
alike_if false l p q h = refl

alike : (x y : Entry) (l : ℕ) (p q : Walked) → x ≡ y → (is_mapped_on y ≡ true → p ≡ q)
    → (if is_mapped_on x then p else Failed l) ≡ (if is_mapped_on y then q else Failed l)
alike x y l p q e h = ap (λ z. if is_mapped_on z then p else Failed l) e ∙ alike_if (is_mapped_on y) l p q h

-- the page that a passed entry of the map names holds the entries below it
down : (entries : ℕ → ℕ → Entry) (root : ℕ) (w : World) (t : ℕ) → HoldsMap entries root w t → (l n i m : ℕ) (x : Entry)
    → l < 3 → x ≡ w.tds.entries t (suc l) n → is_mapped_on (w.tds.entries t (suc l) n) ≡ true → i < 512 → 512 * n + i ≡ m
    → entries x.page i ≡ w.tds.entries t l m
down entries root w t h l n i m x upper e on small is =
    ap (λ z. entries z.page i) e ∙ h.below l n i upper on small ∙ ap (λ z. w.tds.entries t l z) is

small : (n : ℕ) → n % 512 < 512
small n = omega arith

below_again : (level gpa : ℕ) → level < 3 → number_at level gpa ≡ 512 * number_at (suc level) gpa + index_at level gpa
below_again zero gpa h = omega arith
below_again (suc zero) gpa h = omega arith
below_again (suc (suc zero)) gpa h = omega arith
below_again (suc (suc (suc n))) gpa h = absurd (omega (arith, h))

pub split : NumbersSplit
split = record { index = λ level gpa. small (number_at level gpa); root = λ gpa h. omega (arith, h); below = below_again }

meet : (entries : ℕ → ℕ → Entry) (root : ℕ) (w : World) (t gpa level : ℕ) → HoldsMap entries root w t → gpa < 2 ^ 47 → level ≤ 3
    → walk_end entries root gpa level ≡ map_end w t gpa level
meet entries root w t gpa level h g small = by_level level small
  where
    at_3 : entry_below entries root gpa 3 ≡ entry_at w t 3 gpa
    at_3 = h.at_root (index_at 3 gpa) (split.index 3 gpa) ∙ ap (λ n. w.tds.entries t 3 n) (sym (split.root gpa g))

    at_2 : is_mapped_on (entry_at w t 3 gpa) ≡ true → entry_below entries root gpa 2 ≡ entry_at w t 2 gpa
    at_2 on = down entries root w t h 2 (number_at 3 gpa) (index_at 2 gpa) (number_at 2 gpa) (entry_below entries root gpa 3) (lit< tt) at_3 on (split.index 2 gpa) (sym (split.below 2 gpa (lit< tt)))

    at_1 : is_mapped_on (entry_at w t 3 gpa) ≡ true → is_mapped_on (entry_at w t 2 gpa) ≡ true → entry_below entries root gpa 1 ≡ entry_at w t 1 gpa
    at_1 a on = down entries root w t h 1 (number_at 2 gpa) (index_at 1 gpa) (number_at 1 gpa) (entry_below entries root gpa 2) (lit< tt) (at_2 a) on (split.index 1 gpa) (sym (split.below 1 gpa (lit< tt)))

    at_0 : is_mapped_on (entry_at w t 3 gpa) ≡ true → is_mapped_on (entry_at w t 2 gpa) ≡ true → is_mapped_on (entry_at w t 1 gpa) ≡ true
        → entry_below entries root gpa 0 ≡ entry_at w t 0 gpa
    at_0 a b on = down entries root w t h 0 (number_at 1 gpa) (index_at 0 gpa) (number_at 0 gpa) (entry_below entries root gpa 1) (lit< tt) (at_1 a b) on (split.index 0 gpa) (sym (split.below 0 gpa (lit< tt)))

    by_level : (level : ℕ) → level ≤ 3 → walk_end entries root gpa level ≡ map_end w t gpa level
    by_level (suc (suc (suc zero))) s = ap Found at_3
    by_level (suc (suc zero)) s =
        alike (entry_below entries root gpa 3) (entry_at w t 3 gpa) 3 _ _ at_3 (λ a. ap Found (at_2 a))
    by_level (suc zero) s =
        alike (entry_below entries root gpa 3) (entry_at w t 3 gpa) 3 _ _ at_3 (λ a.
        alike (entry_below entries root gpa 2) (entry_at w t 2 gpa) 2 _ _ (at_2 a) (λ b. ap Found (at_1 a b)))
    by_level zero s =
        alike (entry_below entries root gpa 3) (entry_at w t 3 gpa) 3 _ _ at_3 (λ a.
        alike (entry_below entries root gpa 2) (entry_at w t 2 gpa) 2 _ _ (at_2 a) (λ b.
        alike (entry_below entries root gpa 1) (entry_at w t 1 gpa) 1 _ _ (at_1 a b) (λ c. ap Found (at_0 a b c))))
    by_level (suc (suc (suc (suc n)))) s = absurd (omega (arith, s))

-- a row passes over its walk's levels as the walk does
row_step : (b : Bool) (l granted : ℕ) (items rest : List (Item Reply)) (p : Walked)
    → next items granted ≡ row_behind p (next rest granted)
    → next (needs b (EptWalkFailed l) ∷ items) granted ≡ row_behind (if b then p else Failed l) (next rest granted)
row_step true l granted items rest p e = e
row_step false l granted items rest p e = refl

goes_as : (at : ℕ → Entry) (level granted : ℕ) (rest : List (Item Reply)) (ls : List ℕ)
    → next (map (λ l. needs (is_mapped_on (at l)) (EptWalkFailed l)) ls ++ rest) granted ≡ row_behind (passes at level ls) (next rest granted)
goes_as at level granted rest [] = refl
goes_as at level granted rest (l ∷ ls) =
    row_step (is_mapped_on (at l)) l granted (map (λ l. needs (is_mapped_on (at l)) (EptWalkFailed l)) ls ++ rest) rest (passes at level ls) (goes_as at level granted rest ls)

pub meets : WalksMeetMaps
meets = record { maps = meet; rows = λ w t gpa level granted rest. goes_as (λ l. entry_at w t l gpa) level granted rest (levels_above level) }
