-- A walk ends with what the secure EPT in memory says.
use Rattle.std.proofs.Common.{◌≡◌, ◌≢◌, refl, ◌∙◌, ap, ℕ, zero, suc, ◌-◌, ◌≤◌, Bool, true, false, if◌then◌else◌, List, [], ◌∷◌, arith}
use Rattle.td_words.specs.Packing.{Entry}
use Rattle.flat_core.specs.Tree.{levels_above}
use Rattle.sept_walk.specs.declared.walks.Walked.{Walked}
use Rattle.sept_walk.specs.declared.walks.Walked.TheVariants.{More, Failed}
use Rattle.sept_walk.specs.Seen.{Walk}
use Rattle.sept_walk.specs.SecureEpt.{is_mapped_on, passes, walk_end, entry_below, page_below}
use Rattle.sept_walk.specs.Steps.{walk_from}
use Rattle.sept_walk.specs.Laws.{WalksFind, or_on, told_at_most, entries_in}

-- a walk that is told an upper entry goes on where it is NL_MAPPED, and ends where it isn't
told_upper : (b : Bool) (l : ℕ) (later : Walk → Walked) (on here : Walk)
    → or_on (if b then More else Failed l) (later (if b then on else here)) ≡ (if b then later on else Failed l)
told_upper true l later on here = refl
told_upper false l later on here = refl

-- walks that end alike below an upper entry end alike above it
alike_above : (b : Bool) (l : ℕ) (x y : Walked) → x ≡ y → (if b then x else Failed l) ≡ (if b then y else Failed l)
alike_above b l x y e = ap (λ r. if b then r else Failed l) e

-- a walk that came so many levels down over what memory has
abbrev standing : (ℕ → Entry) → (root gpa wanted n : ℕ) → Walk
standing memory root gpa wanted n =
    record { page = page_below (entries_in memory) root gpa n; level = 3 - n; gpa = gpa; wanted = wanted }

abbrev goes_on_at : (ℕ → Entry) → (root gpa level : ℕ) → Bool
goes_on_at memory root gpa level = is_mapped_on (entry_below (entries_in memory) root gpa level)

finds : (memory : ℕ → Entry) (root gpa level : ℕ) → level ≤ 3
    → told_at_most (4 - level) memory (walk_from root gpa level) ≡ walk_end (entries_in memory) root gpa level
finds memory root gpa (suc (suc (suc zero))) h = refl
finds memory root gpa (suc (suc zero)) h =
    told_upper (goes_on_at memory root gpa 3) 3 (told_at_most 1 memory) (standing memory root gpa 2 1) (standing memory root gpa 2 0)
finds memory root gpa (suc zero) h =
    told_upper (goes_on_at memory root gpa 3) 3 (told_at_most 2 memory) (standing memory root gpa 1 1) (standing memory root gpa 1 0)
    ∙ alike_above (goes_on_at memory root gpa 3) 3 _ _
    (told_upper (goes_on_at memory root gpa 2) 2 (told_at_most 1 memory) (standing memory root gpa 1 2) (standing memory root gpa 1 1))
finds memory root gpa zero h =
    told_upper (goes_on_at memory root gpa 3) 3 (told_at_most 3 memory) (standing memory root gpa 0 1) (standing memory root gpa 0 0)
    ∙ alike_above (goes_on_at memory root gpa 3) 3 _ _
    (told_upper (goes_on_at memory root gpa 2) 2 (told_at_most 2 memory) (standing memory root gpa 0 2) (standing memory root gpa 0 1)
    ∙ alike_above (goes_on_at memory root gpa 2) 2 _ _
    (told_upper (goes_on_at memory root gpa 1) 1 (told_at_most 1 memory) (standing memory root gpa 0 3) (standing memory root gpa 0 2)))
finds memory root gpa (suc (suc (suc (suc n)))) h = absurd (omega (arith, h))

one_of : (b : Bool) (l : ℕ) (later : Walked) → later ≢ More → (if b then later else Failed l) ≢ More
one_of true l later h e = h e
one_of false l later h e = cc

goes_no_further : (at : ℕ → Entry) (level : ℕ) (ls : List ℕ) → passes at level ls ≢ More
goes_no_further at level [] h = cc
goes_no_further at level (l ∷ ls) h = one_of (is_mapped_on (at l)) l (passes at level ls) (goes_no_further at level ls) h

pub walks : WalksFind
walks = record { find = finds; ends = λ entries root gpa level. goes_no_further (entry_below entries root gpa) level (levels_above level) }
