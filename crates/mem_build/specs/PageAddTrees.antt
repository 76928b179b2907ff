-- The addition of a TD's private page as a decision over the words that it is told, and its changes.
use Rattle.std.specs.Prelude.{ℕ, ◌^◌, ◌%◌, ◌==◌, Bool, not, nat_lt, Some, None, List, [], ◌∷◌, ◌++◌}
use Rattle.mrtd_measure.specs.Records.{page_record}
use Rattle.td_words.specs.declared.names.OpState.TheVariants as op
use Rattle.td_words.specs.declared.names.EntryState.TheVariants as entry
use Rattle.td_words.specs.declared.names.Mode.TheVariants.{Exclusive}
use Rattle.td_words.specs.declared.machines.Machine.{Machine}
use Rattle.td_words.specs.declared.places.TheConstants.{TDR_HKID, TDR_CHILDREN}
use Rattle.td_words.specs.declared.refusals.Status.{Status}
use Rattle.td_words.specs.declared.refusals.Status.TheVariants.{OperandInvalid}
use Rattle.td_words.specs.Place as place
use Rattle.flat_core.specs.Arguments.{level_size}
use Rattle.flat_core.specs.MemRows.{add_page}
use Rattle.word_rules.specs.Rules.{Whole}
use Rattle.leaf_engine.specs.declared.needs.Place.{Place}
use Rattle.leaf_engine.specs.declared.plans.Act.{Act}
use Rattle.leaf_engine.specs.Changes.{Hand, Change, Copy, Swap, changes_where}
use Rattle.leaf_engine.specs.Trees.{Tree, Load, done}
use Rattle.leaf_engine.specs.Means.{Task, OfCall}
use Rattle.leaf_parts.specs.Arguments.{checked}
use Rattle.leaf_parts.specs.HostPages.{host_page_tree}
use Rattle.leaf_parts.specs.Words.{is_hkid}
use Rattle.sept_parts.specs.declared.finds.Modes.{Modes}
use Rattle.sept_parts.specs.MapTrees.{private_mapping, map_changes}
use Rattle.sept_parts.specs.SeptTrees.{td_find_tree, state_tree}

-- what the call adds: its arguments, the secure EPT page in which the entry of the GPA stands, and the HKID and the child
-- count that the TDR tells
pub record Addition : Type 0 where
  pub tdr : ℕ
  pub gpa : ℕ
  pub page : ℕ
  pub source : ℕ
  pub table : ℕ
  pub hkid : ℕ
  pub children : ℕ

abbrev pub addition : (tdr gpa page source : ℕ) → Act → Addition
addition tdr gpa page source a = record { tdr = tdr; gpa = gpa; page = page; source = source; table = a.page; hkid = a.hkid; children = a.children }

-- the record of a page is appended to what the hasher in hand has measured
abbrev pub with_page : ℕ → Hand → Hand
with_page gpa None = None
with_page gpa (Some bytes) = Some (bytes ++ page_record gpa)

-- before the act the source is copied into the page
abbrev pub page_fills : Addition → List Change
page_fills a = Copy a.source a.page ∷ []

-- the hasher is taken out of its slot, and put back with the page's record
abbrev pub measure_changes : (hkid gpa : ℕ) → List Change
measure_changes hkid gpa = Swap hkid (λ hand. None) ∷ Swap hkid (with_page gpa) ∷ []

-- the page is mapped, and then measured
abbrev pub page_changes : ℕ → Addition → List Change
page_changes pages a = map_changes pages (private_mapping a.tdr a.gpa a.page) a.table a.children ++ measure_changes a.hkid a.gpa

-- the end of the call
abbrev pub all_fills : Machine → Addition → List Change
all_fills m a = changes_where (is_hkid m a.hkid) (page_fills a)

abbrev pub all_changes : Machine → Addition → List Change
all_changes m a = changes_where (is_hkid m a.hkid) (page_changes m.pages a)

abbrev pub added_changes : Machine → Addition → List Change
added_changes m a = all_fills m a ++ all_changes m a

abbrev pub addition_end : Machine → Addition → Tree
addition_end m a = done (all_fills m a) (all_changes m a)

-- three pages of the machine, no two of them the same, and a GPA at which a page begins
abbrev pub page_add_arguments : Machine → (tdr gpa page source : ℕ) → List (Bool × Status)
page_add_arguments m tdr gpa page source =
    (nat_lt tdr m.pages, OperandInvalid 1)
    ∷ (nat_lt gpa (2 ^ 47), OperandInvalid 2)
    ∷ (nat_lt page m.pages, OperandInvalid 3)
    ∷ (nat_lt source m.pages, OperandInvalid 4)
    ∷ (not (page == tdr), OperandInvalid 3)
    ∷ (not (source == tdr), OperandInvalid 4)
    ∷ (not (source == page), OperandInvalid 4)
    ∷ (gpa % level_size 0 == 0, OperandInvalid 2)
    ∷ []

-- O and T are held alone
abbrev pub alone : Modes
alone = record { op = Exclusive; tree = Exclusive }

-- the beginning of the row: the entry of the GPA is FREE, and stands in this page
abbrev pub free_tree : (pages tdr gpa : ℕ) → (ℕ → Tree) → Tree
free_tree pages tdr gpa further = td_find_tree pages tdr alone (op.Initialized ∷ []) gpa 0 (λ found. state_tree found.entry (entry.Free ∷ []) (further found.page))

-- behind the entry: both pages are the host's, and the HKID and the child count are told
abbrev pub pages_tree : (tdr page source : ℕ) → (hkid_children : ℕ → ℕ → Tree) → Tree
pages_tree tdr page source further =
    host_page_tree source (host_page_tree page
    (Load Whole (place.Word tdr TDR_HKID) (λ hkid.
    Load Whole (place.Word tdr TDR_CHILDREN) (λ children. further hkid children))))

-- behind the arguments
abbrev pub td_tree : (pages tdr gpa page source : ℕ) → (Addition → Tree) → Tree
td_tree pages tdr gpa page source further =
    free_tree pages tdr gpa (λ table.
    pages_tree tdr page source (λ hkid children.
    further (record { tdr = tdr; gpa = gpa; page = page; source = source; table = table; hkid = hkid; children = children })))

-- the whole tree, which a proof unfolds only where it speaks of its nodes
unfoldable pub page_add_tree : Machine → (tdr gpa page source : ℕ) → Tree
page_add_tree m tdr gpa page source = checked (page_add_arguments m tdr gpa page source) (td_tree m.pages tdr gpa page source (λ a. addition_end m a))

abbrev pub page_add_task : Place → (tdr gpa page source : ℕ) → Task
page_add_task p tdr gpa page source = record { place = p; tree = page_add_tree p.machine tdr gpa page source; meaning = OfCall (add_page p.machine tdr gpa page source) }
