-- Lists of pages: what the last argument COUNT of EXPORT.MEM and IMPORT.MEM says. With it a call has that many pages, at
-- consecutive GPAs, and their bundle is of version 2; without it one page, and a bundle of version 1.
use Rattle.std.specs.Prelude.{ℕ, zero, suc, ◌+◌, ◌*◌, ◌^◌, List, [], ◌∷◌, Option, Some, None, not, ◌&&◌, nat_lt, nat_le, if◌then◌else◌}
use Rattle.td_words.specs.declared.machines.Machine.{Machine}
use Rattle.td_words.specs.declared.replies.Reply.{Reply}
use Rattle.flat_core.specs.Row.{Item}
use Rattle.flat_core.specs.Arguments.{argument}

-- a bundle has at most so many pages
abbrev pub most_pages : ℕ
most_pages = 16

-- how many pages the call has; none where COUNT is out of its range, since the row refuses it before it comes to a page
abbrev pub page_count : Option ℕ → ℕ
page_count None = 1
page_count (Some n) = if nat_le n most_pages then n else 0

-- what the bundle's header says
abbrev pub bundle_version : Option ℕ → ℕ
bundle_version None = 1
bundle_version (Some n) = 2

abbrev pub count_said : Option ℕ → ℕ
count_said None = 0
count_said (Some n) = n

-- COUNT's own range; that the run of GPAs ends by 2^47; that the run of pages ends in the machine, and that none of them behind
-- the first is the TDR page
abbrev pub count_argument : ℕ → Option ℕ → List (Item Reply)
count_argument place None = []
count_argument place (Some n) = argument place (nat_le 1 n && nat_le n most_pages) ∷ []

abbrev pub gpas_argument : (place gpa : ℕ) → Option ℕ → List (Item Reply)
gpas_argument place gpa None = []
gpas_argument place gpa (Some n) = argument place (nat_le (gpa + 4096 * n) (2 ^ 47)) ∷ []

abbrev pub pages_argument : Machine → (place page tdr : ℕ) → Option ℕ → List (Item Reply)
pages_argument m place page tdr None = []
pages_argument m place page tdr (Some n) =
    argument place (nat_le (page + n) m.pages) ∷ argument place (not (nat_lt page tdr && nat_lt tdr (page + n))) ∷ []

-- the GPAs of so many pages, from one on
abbrev pub gpas_from : (gpa count : ℕ) → List ℕ
gpas_from gpa zero = []
gpas_from gpa (suc n) = gpa ∷ gpas_from (gpa + 4096) n

-- a page that comes in: its GPA, the page that is offered for it, and its words
pub record Arrival : Type 0 where
  pub gpa : ℕ
  pub page : ℕ
  pub words : ℕ → ℕ

-- those of a bundle: each has the next GPA, page and 512 words
abbrev pub arrivals : (gpa page : ℕ) → (ℕ → ℕ) → (count : ℕ) → List Arrival
arrivals gpa page words zero = []
arrivals gpa page words (suc n) =
    record { gpa = gpa; page = page; words = words } ∷ arrivals (gpa + 4096) (page + 1) (λ i. words (512 + i)) n
