-- A secure EPT in words that show the flat machine: the entries that they say, and a TD whose map they hold.
use Rattle.std.specs.Prelude.{◌≡◌, ℕ, ◌≤◌, [], ◌∷◌}
use Rattle.td_words.specs.declared.machines.Machine.{Machine}
use Rattle.td_words.specs.Packing.{Entry}
use Rattle.td_words.specs.Place.{WordPlace}
use Rattle.td_words.specs.Place as place
use Rattle.flat_core.specs.Event.{State}
use Rattle.flat_core.specs.Lawful.{Lawful, IsAlive}
use Rattle.word_rules.specs.Cells.{Shows}
use Rattle.step_core.specs.Items.{Table}
use Rattle.leaf_engine.specs.Changes.{Memory}
use Rattle.sept_parts.specs.SeptWords.{entry_told}

-- the entries that words say in a machine of so many pages, by page and index
abbrev pub entries_of : (pages : ℕ) → (WordPlace → ℕ) → (page index : ℕ) → Entry
entries_of pages words page index = entry_told pages (words (place.Word page index))

-- and those of a bench's table, by address
abbrev pub entries_on : (pages : ℕ) → Table → (at : ℕ) → Entry
entries_on pages table at = entry_told pages (table.words at)

-- Words that show a lawful state of a machine within the limits, and a TD that is alive there and has its two TDCX pages:
-- TDCS, and the root of its secure EPT (Base Architecture, "TD Control Structures"). Of a TD in TD_TEARDOWN no words show
-- the map; and one without its second TDCX page has no root yet, and only entries that are FREE.
-- What is between two states isn't what words show: each store that an act left to be made is laid over them, and each that
-- came before its act is taken off. So memory may still have an upper entry from before while P of the TDR page is held
-- alone, and one of level 0 also while T is, or P of the page that it names; calls that map a page store its entry as the
-- act itself. And a page that is cleared, or copied onto, before it is taken stands in no map until the act.
pub record ShowsTd (m : Machine) (mem : Memory) (s : State) (t root : ℕ) : Type 0 where
  pub limit : m.pages ≤ 1024
  pub lawful : Lawful m s.world
  pub shown : Shows m mem.words mem.slots s
  pub alive : IsAlive s.world.pages s.world.tds t
  pub tdcs : ℕ
  pub controls : s.world.tds.controls t ≡ tdcs ∷ root ∷ []
