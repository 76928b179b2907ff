-- A page of the host's that becomes the next of those that its TD lists, as a decision over the words that it is told.
use Rattle.std.specs.Prelude.{ℕ, ◌+◌, ◌<◌, Option, Some, None, MatchOption, List, [], ◌∷◌}
use Rattle.td_words.specs.declared.machines.Machine.{Machine}
use Rattle.td_words.specs.declared.places.TheConstants.{TDR_CHILDREN}
use Rattle.td_words.specs.Packing.{pamt_word}
use Rattle.td_words.specs.Place as place
use Rattle.leaf_engine.specs.Changes.{Change, Put, Clear}
use Rattle.leaf_engine.specs.Trees.{Tree, done}
use Rattle.leaf_parts.specs.declared.listed_pages.PageList.{PageList}
use Rattle.leaf_parts.specs.Words.{raised}
use Rattle.leaf_parts.specs.HostPages.{taken_page_tree}

-- a page of some lists is told its index there
abbrev pub index_changes : Option ℕ → (page index : ℕ) → List Change
index_changes None page index = []
index_changes (Some at) page index = Put (place.Word page at) index ∷ []

-- the page's place in the list is the act; then the page is cleared, becomes the TD's, and is counted, in the list and
-- among the children
abbrev pub list_changes : PageList → (pages tdr page count children : ℕ) → List Change
list_changes l pages tdr page count children =
    Put (place.Word l.page (l.first + count)) page
    ∷ Clear page
    ∷ Put (place.Pamt page) (pamt_word (record { kind = l.kind; owner = tdr; epoch = 0 }))
    ∷ Put (place.Word l.page l.counted) (count + 1)
    ∷ Put (place.Word tdr TDR_CHILDREN) (raised pages children)
    ∷ index_changes l.index page count

-- the page is the host's, and the list has so many
abbrev pub listed_tree : PageList → (pages tdr page count : ℕ) → Tree
listed_tree l pages tdr page count = taken_page_tree tdr page (λ children. done [] (list_changes l pages tdr page count children))

-- the words that are stored to are the machine's
pub record IsListIn (m : Machine) (l : PageList) (count : ℕ) : Type 0 where
  pub control : l.page < m.pages
  pub listed : l.first + count < 512
  pub total : l.counted < 512
  pub told : MatchOption l.index (Unit {0}) (λ at. at < 512)
