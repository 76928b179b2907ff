-- How far the leaf is that imports a page: while the conditions are asked all words told are kept; once they have passed, what
-- they have shown is.
use Rattle.std.specs.Prelude.{◌≡◌, ℕ, ◌==◌, true, ◌∷◌, ◌-◌, ◌^◌, ◌<◌, ◌≤◌, Option, Some, None, List, [], length}
use Rattle.std.specs.List.{list_any}
use Rattle.std.proofs.Props.{props}
use Rattle.td_words.specs.declared.machines.Machine.{Machine}
use Rattle.flat_core.specs.Inputs.{Input, has_no_fault}
use Rattle.flat_core.specs.PageLists.{Arrival}
use Rattle.leaf_engine.specs.Changes.{Change}
use Rattle.leaf_engine.specs.Trees.{Tree, feed, changes_of, done}
use Rattle.sept_parts.specs.declared.finds.Found.{Found}
use Rattle.stream_parts.specs.declared.rooms.Room.{Room}
use Rattle.import_pages.specs.declared.page_conditions.PageEntry.{PageEntry}
use Rattle.import_pages.specs.declared.page_imports.Filling.{Filling}
use Rattle.import_pages.specs.declared.page_imports.Importing.{Importing}
use Rattle.import_pages.specs.PageImportTrees.{arriving, changes_behind, page_import_changes, page_import_end, page_import_tree}

-- an entry that was found, of all that it says
abbrev pub found_of : PageEntry → Found
found_of x = record { page = x.at; entry = record { state = x.state; page = x.page; mark = x.mark } }

-- what comes behind a single page, which is the list of one
abbrev pub for_one : (Importing → Tree) → Room → List Filling → Tree
for_one further room (f ∷ fs) = further (record { filling = f; room = room })
for_one further room [] = done [] []

abbrev pub one_page : (gpa page : ℕ) → List Arrival
one_page gpa page = record { gpa = gpa; page = page; words = λ i. 0 } ∷ []

abbrev pub one_end : Machine → Input → (tdr page : ℕ) → Importing → Tree
one_end m x tdr page y = page_import_end m tdr (arriving x page None) y.room (y.filling ∷ [])

-- its changes, of its GPA and its words; and those behind the words
abbrev pub one_changes : (pages tdr gpa : ℕ) → (ℕ → ℕ) → Importing → List Change
one_changes pages tdr gpa ws y = page_import_changes pages tdr (record { gpa = gpa; page = 0; words = ws } ∷ []) y.room (y.filling ∷ [])

abbrev pub one_behind : (pages tdr gpa : ℕ) → Importing → List Change
one_behind pages tdr gpa y = changes_behind pages tdr (one_page gpa 0) y.room (y.filling ∷ [])

-- what is left of its tree
abbrev pub rest_of : Machine → Input → (tdr slot page : ℕ) → Option Importing → List ℕ → Tree
rest_of m x t slot page None told = feed (page_import_tree m x t slot page None) told
rest_of m x t slot page (Some y) told = one_end m x t page y

-- where a word is waited for, there is room for it
abbrev pub HasRoom : Option Importing → List ℕ → Type 0
HasRoom None told = length told < 21
HasRoom (Some y) told = ⊥

-- what the conditions have shown: pages of the machine, and a counter that isn't the last one
abbrev pub IsShown : Machine → (tdr : ℕ) → Importing → Type 0
IsShown m t y = (t < m.pages) × (y.filling.at < m.pages) × (y.filling.page < m.pages) × (y.room.page < m.pages) × (y.room.counter < 2 ^ 32 - 1)

abbrev pub IsKnown : Machine → (tdr : ℕ) → Option Importing → List ℕ → Type 0
IsKnown m t None told = length told ≤ 21
IsKnown m t (Some y) told = IsShown m t y × (length told ≤ 21)

pub HasRoom-prop : (o : Option Importing) (told : List ℕ) → IsProp (HasRoom o told)
HasRoom-prop None told = hlevel props
HasRoom-prop (Some y) told = hlevel props

pub IsKnown-prop : (m : Machine) (t : ℕ) (o : Option Importing) (told : List ℕ) → IsProp (IsKnown m t o told)
IsKnown-prop m t None told = hlevel props
IsKnown-prop m t (Some y) told = hlevel props

-- it has passed with this shown, or changes nothing
abbrev pub EndsAs : Machine → Input → (tdr page : ℕ) → Tree → Option Importing → Type 0
EndsAs m x t page rest None = changes_of rest ≡ []
EndsAs m x t page rest (Some y) = (rest ≡ one_end m x t page y) × IsShown m t y

-- a bundle with the words of a page, which has the form of one
abbrev pub IsMemory : Input → Type 0
IsMemory x = (has_no_fault x.fault ≡ true) × (list_any (λ k. k == x.header.kind) (3 ∷ []) ≡ true)
