-- What stores of others leave of the words that a processor was told.
use Rattle.std.specs.Prelude.{◌≡◌, ℕ}
use Rattle.td_words.specs.Place.{WordPlace}
use Rattle.flat_core.specs.World.{World}
use Rattle.word_rules.specs.Guards.{Grip, Apart}
use Rattle.word_rules.specs.Rules.{View, Grade}
use Rattle.word_rules.specs.Views.{look, IsKept}
use Rattle.word_rules.specs.Permissions.{Reads, Sees, Writes, Owes, Fills, Respects}
use Rattle.lock_words.specs.LockWords.{put_word}

-- a load of a word looks the same after x was stored at q
abbrev pub LooksSame : (WordPlace → ℕ) → WordPlace → ℕ → WordPlace → View → Type 0
LooksSame words q x r v = look v (put_word words q x r) ≡ look v (words r)

-- What one processor reads as stable looks the same after another's act, after a store that it still owes, also one that
-- its act left to be made, and after its fills. What one may see looks the same under all stores that others owe.
pub record StoresKeepReads (g h : Grip) (w : World) (words : WordPlace → ℕ) : Type 0 where
  pub act : (q r : WordPlace) (x : ℕ) (v : View) (k : Grade) → Reads g w r v → Writes h w q k → IsKept k (words q) x → LooksSame words q x r v
  pub owed : (q r : WordPlace) (x : ℕ) (v : View) (k : Grade) → Reads g w r v → Owes h w q k → IsKept k (words q) x → LooksSame words q x r v
  pub left : (after : World) (q r : WordPlace) (x : ℕ) (v : View) (k : Grade) → Respects h w after → Reads g w r v → Owes h after q k → IsKept k (words q) x → LooksSame words q x r v
  pub filled : (q r : WordPlace) (x : ℕ) (v : View) → Reads g w r v → Fills h w q → LooksSame words q x r v
  pub seen : (q r : WordPlace) (x : ℕ) (v : View) (k : Grade) → Sees g w r v → Owes h w q k → IsKept k (words q) x → LooksSame words q x r v

-- for every two processors whose grips are apart
abbrev pub OthersStoresKeepReads : Type 0
OthersStoresKeepReads = (g h : Grip) (w : World) (words : WordPlace → ℕ) → Apart g h → StoresKeepReads g h w words
