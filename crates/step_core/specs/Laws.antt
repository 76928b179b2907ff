-- What steps, clearing, copying and tries that are taken back make of the words.
use Rattle.std.specs.Prelude.{◌≡◌, ◌≢◌, ℕ, ◌-◌, ◌^◌, ◌<◌, Bool, ◌&&◌, nat_lt, nat_le, if◌then◌else◌, List, [], ◌∷◌, length}
use Rattle.td_words.specs.Address.{word_at}
use Rattle.step_core.specs.Words.{Words, plays}
use Rattle.step_core.specs.Items.{Table, PlaysTo, steps_of}
use Rattle.step_core.specs.declared.items.Taken.{Taken}
use Rattle.step_core.specs.Pages.{clearing, copying}
use Rattle.step_core.specs.declared.steps.WordStep.TheVariants.{Add, Sub, Exchange}

-- whether a content word of a page stands at an address
abbrev pub is_word_of : ℕ → ℕ → Bool
is_word_of page n = nat_le (word_at page 0) n && nat_lt n (word_at page 512)

-- a page's 512 content words become these, by their index, and every other word and each slot stays
pub record ChangesPage (t u : Table) (page : ℕ) (becomes : ℕ → ℕ) : Type 0 where
  pub words : (n : ℕ) → u.words n ≡ (if is_word_of page n then becomes (n - word_at page 0) else t.words n)
  pub slots : u.slots ≡ t.slots

-- clearing a page and copying one change that page alone
pub record PagesChangeAlone : Type 0 where
  pub cleared : (t u : Table) (page : ℕ) → PlaysTo t (clearing page 512) u → ChangesPage t u page (λ i. 0)
  pub copied : (t u : Table) (from to : ℕ) (seen : List ℕ) → from ≢ to → length seen ≡ 512 → PlaysTo t (copying from to 0 seen) u → ChangesPage t u to (λ i. t.words (word_at from i))

-- items that were played leave the words that their steps make
pub record StepsMakeWords : Type 0 where
  pub words : (t u : Table) (xs : List Taken) → PlaysTo t xs u → u.words ≡ plays t.words (steps_of xs)

-- a lock word is as it was where a shared try was undone or released, and where an exclusive one was released
pub record TriesTakenBack : Type 0 where
  pub shared : (w : Words) (at n : ℕ) → w at < 2 ^ 64 → plays w (Add at 1 ∷ Sub at 1 ∷ []) n ≡ w n
  pub exclusive : (w : Words) (at n : ℕ) → w at ≡ 0 → plays w (Exchange at 0 (2 ^ 63) ∷ Sub at (2 ^ 63) ∷ []) n ≡ w n
