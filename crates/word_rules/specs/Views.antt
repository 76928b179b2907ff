-- What a load looks at, and what a store keeps, of an entry's word. The packing of entries is td_words'.
use Rattle.std.specs.Prelude.{◌≡◌, ℕ, ◌+◌, ◌*◌, true, if◌then◌else◌, Option, Some, None}
use Rattle.td_words.specs.declared.names.EntryState.TheVariants as entry
use Rattle.td_words.specs.Packing.{Entry, entry_word, entry_in, is_lawful_entry}
use Rattle.flat_core.specs.Locks.{one_if}
use Rattle.flat_core.specs.Lawful.{is_free}
use Rattle.flat_core.specs.Tree.{same_state, may_read, may_write}
use Rattle.word_rules.specs.Rules.{View, Whole, ThePage, TheRights, Grade, KeepsNothing, KeepsPage, KeepsRights, spares}

-- the page that an entry names; a number that is no page's where it names none
abbrev pub no_page : ℕ
no_page = 65536

abbrev pub named_by : Entry → ℕ
named_by e = if is_free e.state then no_page else e.page

-- that page with what a guest's walk makes of the entry: whether it goes on there, may read, and may write
abbrev pub rights_by : Entry → ℕ
rights_by e = 8 * named_by e + (4 * one_if (same_state e.state entry.NlMapped) + (2 * one_if (may_read e.state) + one_if (may_write e.state)))

-- of a word, which may be no entry's
abbrev pub of_entry : (Entry → ℕ) → Option Entry → ℕ
of_entry seen None = no_page
of_entry seen (Some e) = seen e

abbrev pub look : View → ℕ → ℕ
look Whole word = word
look ThePage word = of_entry named_by (entry_in word)
look TheRights word = of_entry rights_by (entry_in word)

abbrev pub IsKept : Grade → (old new : ℕ) → Type 0
IsKept KeepsNothing old new = Unit {0}
IsKept KeepsPage old new = look ThePage new ≡ look ThePage old
IsKept KeepsRights old new = (look ThePage new ≡ look ThePage old) × (look TheRights new ≡ look TheRights old)

-- A store leaves what a load looked at where its grade spares the view; and of an entry's word both views are the entry's.
pub record ViewsAreKept : Type 0 where
  pub kept : (k : Grade) (v : View) (old new : ℕ) → spares k v ≡ true → IsKept k old new → look v new ≡ look v old
  pub page : (e : Entry) → is_lawful_entry e ≡ true → look ThePage (entry_word e) ≡ named_by e
  pub rights : (e : Entry) → is_lawful_entry e ≡ true → look TheRights (entry_word e) ≡ rights_by e
