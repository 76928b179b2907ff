-- The tries of the rows of lists of pages: each page's lock, in GPA order.
use Rattle.std.specs.Prelude.{ℕ, List, [], ◌∷◌, ◌++◌, map}
use Rattle.td_words.specs.declared.names.Mode.TheVariants.{Shared}
use Rattle.flat_core.specs.World.{World}
use Rattle.flat_core.specs.Processor.{OfPage, OfTree, OfEpoch, Held}
use Rattle.flat_core.specs.Tree.{entry_at}
use Rattle.flat_core.specs.Sessions.{stream_page}
use Rattle.flat_core.specs.PageLists.{Arrival}
use Rattle.flat_core.specs.ImportRows.{page_filled}
use Rattle.flat_core.specs.Tries.{shared, alone, td_tries}

-- of pages that are exported on a stream
abbrev pub list_export_tries : World → (tdr stream : ℕ) → List ℕ → List Held
list_export_tries w t k gpas =
    td_tries t Shared ++ shared (OfTree t) ∷ shared (OfEpoch t)
    ∷ (map (λ gpa. alone (OfPage (entry_at w t 0 gpa).page)) gpas ++ alone (OfPage (stream_page w t k)) ∷ [])

-- of pages that come in: those that are taken, or that the entries name
abbrev pub list_page_tries : (tdr : ℕ) → List Arrival → World → List Held
list_page_tries t pages w = td_tries t Shared ++ alone (OfTree t) ∷ map (λ a. alone (OfPage (page_filled w t a))) pages
