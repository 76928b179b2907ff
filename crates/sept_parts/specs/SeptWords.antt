-- What the words of a secure EPT say that leaves load.
use Rattle.std.specs.Prelude.{ℕ, nat_lt, if◌then◌else◌, Option, Some, None}
use Rattle.td_words.specs.Packing.{Entry, entry_in}
use Rattle.flat_core.specs.World.{free_entry}

-- an entry that names a page of the machine
abbrev pub entry_or_free : ℕ → Option Entry → Entry
entry_or_free pages None = free_entry
entry_or_free pages (Some e) = if nat_lt e.page pages then e else free_entry

-- the entry that a word says, in a machine of so many pages. A word that says none never stands where it is told
unfoldable pub entry_told : (pages word : ℕ) → Entry
entry_told pages word = entry_or_free pages (entry_in word)
