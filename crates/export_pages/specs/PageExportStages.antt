-- How far the leaf is that exports a page: while the conditions are asked all words told are kept; once they have shown the
-- page, its words are told one by one.
use Rattle.std.specs.Prelude.{◌≡◌, ℕ, ◌<◌, ◌≤◌, Option, Some, None, List, [], length}
use Rattle.std.proofs.Props.{props}
use Rattle.td_words.specs.declared.machines.Machine.{Machine}
use Rattle.leaf_engine.specs.declared.needs.Place.{Place}
use Rattle.leaf_engine.specs.Trees.{Tree, feed, answer_of, changes_of}
use Rattle.mem_remove.specs.declared.named_entries.Named.{Named}
use Rattle.export_pages.specs.declared.page_conditions.PageEntry.{PageEntry}
use Rattle.export_pages.specs.declared.page_exports.Exporting.{Exporting}
use Rattle.export_pages.specs.PageExportTrees.{page_export_end, page_words_tree, page_export_tree}

-- an entry that was found, of all that it says
abbrev pub named_of : PageEntry → Named
named_of x = record { tdcs = x.tdcs; page = x.at; entry = record { state = x.state; page = x.page; mark = x.mark } }

-- what is left of its tree
abbrev pub rest_of : Place → (tdr gpa stream slot : ℕ) → Option Exporting → (told words : List ℕ) → Tree
rest_of p t gpa k slot None told words = feed (page_export_tree p.machine t gpa k slot) told
rest_of p t gpa k slot (Some x) told words = feed (page_words_tree gpa k slot x) words

-- where a word is waited for, there is room for it
abbrev pub HasRoom : Option Exporting → (told words : List ℕ) → Type 0
HasRoom None told words = length told < 26
HasRoom (Some x) told words = length words < 512

-- what the conditions have shown: the stream's number, and pages of the machine
abbrev pub IsKnown : Machine → (stream : ℕ) → Option Exporting → (told words : List ℕ) → Type 0
IsKnown m k None told words = (length told ≤ 26) × (length words ≡ 0)
IsKnown m k (Some x) told words = (k < 4) × (x.at < m.pages) × (x.page < m.pages) × (x.room.page < m.pages) × (length words ≤ 512) × (length told ≤ 26)

pub HasRoom-prop : (o : Option Exporting) (told words : List ℕ) → IsProp (HasRoom o told words)
HasRoom-prop None told words = hlevel props
HasRoom-prop (Some x) told words = hlevel props

pub IsKnown-prop : (m : Machine) (k : ℕ) (o : Option Exporting) (told words : List ℕ) → IsProp (IsKnown m k o told words)
IsKnown-prop m k None told words = hlevel props
IsKnown-prop m k (Some x) told words = hlevel props

-- it has ended with a bundle of these words, or has made none and changes nothing
abbrev pub EndsAs : Place → (gpa stream slot : ℕ) → (words : List ℕ) → Tree → Option Exporting → Type 0
EndsAs p gpa k slot words rest None = (changes_of rest ≡ []) × ((answer_of rest).bundles ≡ [])
EndsAs p gpa k slot words rest (Some x) = (rest ≡ page_export_end gpa k slot x words) × (k < 4) × (x.at < p.machine.pages) × (x.page < p.machine.pages) × (x.room.page < p.machine.pages)
