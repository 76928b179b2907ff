-- The removal of a private page, and of a secure EPT page, as decisions over the words that they are told.
use Rattle.std.specs.Prelude.{ℕ, zero, suc, ◌%◌, ◌^◌, ◌==◌, ◌&&◌, nat_lt, nat_le, not, if◌then◌else◌, Bool, true, false, List, [], ◌∷◌}
use Rattle.td_words.specs.declared.names.EntryState.TheVariants as entry
use Rattle.td_words.specs.declared.machines.Machine.{Machine}
use Rattle.td_words.specs.declared.places.TheConstants.{TDR_CHILDREN}
use Rattle.td_words.specs.declared.refusals.Status.TheVariants.{OperandInvalid, SeptNotEmpty}
use Rattle.td_words.specs.Place as place
use Rattle.flat_core.specs.Arguments.{level_size}
use Rattle.flat_core.specs.MemRows.{removed_states, remove_page, remove_sept}
use Rattle.flat_core.specs.Tree.{same_state}
use Rattle.sept_walk.specs.SecureEpt.{index_at}
use Rattle.word_rules.specs.Rules.{Whole}
use Rattle.leaf_engine.specs.declared.needs.Place.{Place}
use Rattle.leaf_engine.specs.Changes.{Change, Put, Clear}
use Rattle.leaf_engine.specs.Trees.{Tree, Load, needs, done}
use Rattle.leaf_engine.specs.Means.{Task, OfCall}
use Rattle.leaf_parts.specs.Words.{lowered}
use Rattle.sept_parts.specs.SeptWords.{entry_told}
use Rattle.mem_remove.specs.declared.named_entries.Named.{Named}
use Rattle.mem_remove.specs.NamedTrees.{named_tree}
use Rattle.mem_remove.specs.TrackedTrees.{tracked_tree}

-- the entry becomes FREE, which is the act; then the page that it named is cleared and is the host's again, and the child
-- count falls
abbrev pub remove_changes : (tdr at index page children : ℕ) → List Change
remove_changes tdr at index page children =
    Put (place.Word at index) 0
    ∷ Clear page
    ∷ Put (place.Pamt page) 0
    ∷ Put (place.Word tdr TDR_CHILDREN) (lowered children)
    ∷ []

-- the block of the page that the entry names is tracked, and the page is given back
abbrev pub given_tree : (tdr at index page : ℕ) → Tree
given_tree tdr at index page = Load Whole (place.Word tdr TDR_CHILDREN) (λ children. done [] (remove_changes tdr at index page children))

abbrev pub remove_rest : (tdr index : ℕ) → Named → Tree
remove_rest tdr index n = tracked_tree n.tdcs n.entry.page (given_tree tdr n.page index n.entry.page)

-- MEM.PAGE.REMOVE
abbrev pub remove_arguments : Machine → (tdr gpa : ℕ) → Tree → Tree
remove_arguments m tdr gpa further =
    needs (nat_lt tdr m.pages) (OperandInvalid 1) (needs (nat_lt gpa (2 ^ 47)) (OperandInvalid 2) (needs (gpa % level_size 0 == 0) (OperandInvalid 2) further))

abbrev pub page_remove_tree : Machine → (tdr gpa : ℕ) → Tree
page_remove_tree m tdr gpa = remove_arguments m tdr gpa (named_tree m.pages tdr gpa 0 removed_states (remove_rest tdr (index_at 0 gpa)))

abbrev pub page_remove_task : Place → (tdr gpa : ℕ) → Task
page_remove_task p tdr gpa = record { place = p; tree = page_remove_tree p.machine tdr gpa; meaning = OfCall (remove_page p.machine tdr gpa) }

-- the entries of a secure EPT page from one on, so many: the first that isn't FREE is told of
abbrev pub is_used : (pages word : ℕ) → Bool
is_used pages word = not (same_state (entry_told pages word).state entry.Free)

unfoldable pub scan_tree : (pages page at left : ℕ) → Tree → Tree
scan_tree pages page at zero further = needs true (SeptNotEmpty 0) further
scan_tree pages page at (suc left) further = Load Whole (place.Word page at) (λ word. if is_used pages word then needs false (SeptNotEmpty at) further else scan_tree pages page (suc at) left further)

-- MEM.SEPT.REMOVE
abbrev pub sept_remove_arguments : Machine → (tdr gpa level : ℕ) → Tree → Tree
sept_remove_arguments m tdr gpa level further =
    needs (nat_lt tdr m.pages) (OperandInvalid 1)
    (needs (nat_lt gpa (2 ^ 47)) (OperandInvalid 2)
    (needs (nat_le 1 level && nat_le level 3) (OperandInvalid 3)
    (needs (gpa % level_size level == 0) (OperandInvalid 2) further)))

abbrev pub sept_remove_rest : (pages tdr index : ℕ) → Named → Tree
sept_remove_rest pages tdr index n = scan_tree pages n.entry.page 0 512 (remove_rest tdr index n)

abbrev pub sept_remove_tree : Machine → (tdr gpa level : ℕ) → Tree
sept_remove_tree m tdr gpa level = sept_remove_arguments m tdr gpa level (named_tree m.pages tdr gpa level (entry.NlBlocked ∷ []) (sept_remove_rest m.pages tdr (index_at level gpa)))

abbrev pub sept_remove_task : Place → (tdr gpa level : ℕ) → Task
sept_remove_task p tdr gpa level = record { place = p; tree = sept_remove_tree p.machine tdr gpa level; meaning = OfCall (remove_sept p.machine tdr gpa level) }
