-- A private page that has moved to another page (ABI Reference, "TDH.MEM.PAGE.RELOCATE").
use Rattle.std.specs.Prelude.{◌≡◌, ℕ, List, Option, Some, false}
use Rattle.td_words.specs.declared.calls.Call.TheVariants as call
use Rattle.flat_core.specs.Opening.{Opening}
use Rattle.flat_core.specs.Row.{Succeeds}
use Rattle.flat_core.specs.Tree.{number_at, entry_at}
use Rattle.flat_core.specs.Table.{row_of}
use Rattle.flat_core.specs.Lawful.{IsAlive, is_free}
use Rattle.flat_core.specs.Event.{State, OfCall, next_event, event}
use Rattle.flat_core.specs.Laws.{reached, ArePagesKnown}
use Rattle.flat_core.specs.Access.{Names}
use Rattle.flat_laws.specs.Usable.{IsUnnamed, IsEmptied}

-- What every guest knows of its memory is as before, and is what its pages hold. The map names the other page there, which has
-- the words of the old one. And that one is a host page of zeros, which the map of no TD that is alive names, nor any translation
-- that may be used.
pub record HasMoved (s after : State) (tdr gpa page : ℕ) : Type 0 where
  pub memory : (t n : ℕ) → after.world.hidden.memories t n ≡ s.world.hidden.memories t n
  pub known : ArePagesKnown after.world
  pub named : Names (after.world.tds.entries tdr 0 (number_at 0 gpa)) page
  pub words : (i : ℕ) → after.world.words page i ≡ s.world.words (entry_at s.world tdr 0 gpa).page i
  pub emptied : IsEmptied after.world (entry_at s.world tdr 0 gpa).page
  pub unmapped : (t l n : ℕ) → IsAlive after.world.pages after.world.tds t → is_free (after.world.tds.entries t l n).state ≡ false
      → (after.world.tds.entries t l n).page ≡ (entry_at s.world tdr 0 gpa).page → ⊥
  pub unnamed : IsUnnamed after (entry_at s.world tdr 0 gpa).page

-- so each act of the call moves its page
abbrev pub RelocationsMovePages : Type 0
RelocationsMovePages = (o : Opening) (words_to_tell : Option (List ℕ)) (schedule : List ℕ) (p tdr gpa page : ℕ)
    → let s = reached o words_to_tell schedule in
    next_event o s p ≡ Some (OfCall (row_of o p (call.MemPageRelocate tdr gpa page)) Succeeds) → HasMoved s (event o s p) tdr gpa page
