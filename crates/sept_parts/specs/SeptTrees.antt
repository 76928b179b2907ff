-- The walk of a TD's secure EPT, as a decision over the words that it is told (Base Architecture, "Secure EPT Walk").
use Rattle.std.specs.Prelude.{ℕ, zero, suc, ◌-◌, List}
use Rattle.std.specs.List.{list_any}
use Rattle.td_words.specs.declared.names.EntryState.{EntryState}
use Rattle.td_words.specs.declared.names.Mode.{Mode}
use Rattle.td_words.specs.declared.names.OpState.{OpState}
use Rattle.td_words.specs.declared.places.TheConstants.{TDR_ROOT, TDCS_TREE_LOCK}
use Rattle.td_words.specs.declared.refusals.Status.TheVariants.{EptWalkFailed, EptEntryStateIncorrect}
use Rattle.td_words.specs.Packing.{Entry}
use Rattle.td_words.specs.Place as place
use Rattle.flat_core.specs.Processor.{OfTree}
use Rattle.flat_core.specs.Tree.{same_state}
use Rattle.sept_walk.specs.SecureEpt.{index_at, is_mapped_on}
use Rattle.word_rules.specs.Rules.{Whole}
use Rattle.leaf_engine.specs.Trees.{Tree, Lock, Load, needs}
use Rattle.leaf_parts.specs.Words.{page_told}
use Rattle.leaf_parts.specs.Heads.{td_head_tree}
use Rattle.sept_parts.specs.declared.finds.Found.{Found}
use Rattle.sept_parts.specs.declared.finds.Modes.{Modes}
use Rattle.sept_parts.specs.SeptWords.{entry_told}

-- the secure EPT is held in that mode
abbrev pub tree_lock_tree : (t tdcs : ℕ) → Mode → Tree → Tree
tree_lock_tree t tdcs mode further = Lock (OfTree t) (place.Word tdcs TDCS_TREE_LOCK) mode further

-- its root is the second TDCX page
abbrev pub root_page_tree : (pages t : ℕ) → (ℕ → Tree) → Tree
root_page_tree pages t further = Load Whole (place.Word t TDR_ROOT) (λ root. further (page_told pages root))

-- the entry of a level that maps a GPA, in the page in which it stands
abbrev pub entry_tree : (pages page gpa level : ℕ) → (Entry → Tree) → Tree
entry_tree pages page gpa level further = Load Whole (place.Word page (index_at level gpa)) (λ word. further (entry_told pages word))

-- its state is one of these
abbrev pub state_tree : Entry → List EntryState → Tree → Tree
state_tree e allowed further = needs (list_any (λ s. same_state s e.state) allowed) (EptEntryStateIncorrect e.state) further

-- an upper entry is NL_MAPPED, and leads to the page that it names
abbrev pub below_tree : (pages page gpa level : ℕ) → (ℕ → Tree) → Tree
below_tree pages page gpa level further = entry_tree pages page gpa level (λ e. needs (is_mapped_on e) (EptWalkFailed level) (further e.page))

-- so many levels further down
abbrev pub walk_on_tree : (pages gpa count level page : ℕ) → (ℕ → Tree) → Tree
walk_on_tree pages gpa zero level page further = further page
walk_on_tree pages gpa (suc n) level page further = below_tree pages page gpa level (λ next. walk_on_tree pages gpa n (level - 1) next further)

-- the walk from the root, whose entries are of level 3, to the page in which the entry of a level stands
abbrev pub walk_tree : (pages root gpa level : ℕ) → (ℕ → Tree) → Tree
walk_tree pages root gpa level further = walk_on_tree pages gpa (3 - level) 3 root further

-- the entry of a level that maps a GPA of a TD, and the page in which it stands
abbrev pub find_tree : (pages t gpa level : ℕ) → (Found → Tree) → Tree
find_tree pages t gpa level further =
    root_page_tree pages t (λ root.
    walk_tree pages root gpa level (λ page.
    entry_tree pages page gpa level (λ e. further (record { page = page; entry = e }))))

-- the beginning of the rows of calls that walk: that of a TD's rows, then the secure EPT, and the entry of a level that
-- maps a GPA
abbrev pub td_find_tree : (pages t : ℕ) → Modes → List OpState → (gpa level : ℕ) → (Found → Tree) → Tree
td_find_tree pages t modes allowed gpa level further = td_head_tree pages t modes.op allowed (λ td. tree_lock_tree t td.tdcs modes.tree (find_tree pages t gpa level further))
