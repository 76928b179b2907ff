-- What is tried for a page that comes in, and what it leaves as it was, by its entry's state.
use Rattle.std.proofs.Common.{◌≡◌, refl, ℕ, List, [], ◌∷◌}
use Rattle.td_words.specs.declared.names.EntryState.{EntryState}
use Rattle.td_words.specs.declared.names.EntryState.TheVariants as entry
use Rattle.flat_core.specs.World.{World}
use Rattle.flat_core.specs.Processor.{OfPage}
use Rattle.flat_core.specs.Tree.{entry_at}
use Rattle.flat_core.specs.Tries.{tries, alone}
use Rattle.flat_core.specs.ImportRows.{page_to_fill, filled_page, fill_page}

-- the page that comes in, by its entry's state
pub fill_tries : (w : World) (t : ℕ) (locked : List ℕ) (gpa page : ℕ) (s : EntryState)
    → tries (page_to_fill w t locked gpa page s) ≡ alone (OfPage (filled_page page s (entry_at w t 0 gpa).page)) ∷ []
fill_tries w t [] gpa page entry.Free = refl
fill_tries w t (p ∷ locked) gpa page entry.Free = refl
fill_tries w t locked gpa page _ = refl

pub fill_memories : (t gpa page : ℕ) (ws : ℕ → ℕ) (s : EntryState) (w : World) → (fill_page t gpa page ws s w).hidden.memories ≡ w.hidden.memories
fill_memories t gpa page ws entry.Free w = refl
fill_memories t gpa page ws _ w = refl
