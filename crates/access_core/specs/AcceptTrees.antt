-- The acceptance of a private page by a guest as a decision over the words that it is told.
use Rattle.std.specs.Prelude.{ℕ, ◌^◌, ◌<◌, Bool, true, false, not, ◌==◌, ◌||◌, nat_lt, Option, Some, None, List, [], ◌∷◌}
use Rattle.td_words.specs.Limits.{IsMachine}
use Rattle.td_words.specs.declared.names.Mode.TheVariants.{Shared, Exclusive}
use Rattle.td_words.specs.declared.names.Access.TheVariants.{Write}
use Rattle.td_words.specs.declared.names.EntryState.TheVariants as entry
use Rattle.td_words.specs.declared.machines.Machine.{Machine}
use Rattle.td_words.specs.declared.places.TheConstants.{TDR_TDCS}
use Rattle.td_words.specs.declared.replies.Value.TheVariants as value
use Rattle.td_words.specs.declared.replies.Reply.TheVariants.{Done}
use Rattle.td_words.specs.Packing.{entry_word}
use Rattle.td_words.specs.Place as place
use Rattle.flat_core.specs.Processor.{OfPage}
use Rattle.flat_core.specs.Tree.{same_state, may_read}
use Rattle.flat_core.specs.Guest.{accept}
use Rattle.sept_walk.specs.SecureEpt.{index_at, is_mapped_on}
use Rattle.word_rules.specs.Rules.{Whole, ThePage}
use Rattle.word_rules.specs.Views.{no_page}
use Rattle.leaf_engine.specs.declared.needs.Place.{Place}
use Rattle.leaf_engine.specs.Changes.{Change, Put, Clear}
use Rattle.leaf_engine.specs.Trees.{Tree, Lock, Load, done, answers}
use Rattle.leaf_engine.specs.Means.{Task, OfOperation, MeansRow}
use Rattle.leaf_parts.specs.Words.{page_told}
use Rattle.sept_parts.specs.SeptTrees.{tree_lock_tree, root_page_tree, entry_tree}
use Rattle.access_core.specs.OperationTrees.{with_position, put_next, unless_violation}

-- an upper entry leads to the page that it names, or it is an EPT violation
abbrev pub or_violation : (gpa : ℕ) → Bool → Tree → Tree
or_violation gpa true further = further
or_violation gpa false further = unless_violation Write gpa false (answers (Done value.Nothing))

abbrev pub passed_tree : (pages gpa page level : ℕ) → (ℕ → Tree) → Tree
passed_tree pages gpa page level further = entry_tree pages page gpa level (λ e. or_violation gpa (is_mapped_on e) (further e.page))

abbrev pub passed_walk : (pages gpa root : ℕ) → (ℕ → Tree) → Tree
passed_walk pages gpa root further = passed_tree pages gpa root 3 (λ p. passed_tree pages gpa p 2 (λ q. passed_tree pages gpa q 1 further))

-- the entry becomes MAPPED, which is the act, once the page holds zeros
abbrev pub map_entry : (at index page : ℕ) → Change
map_entry at i p = Put (place.Word at i) (entry_word (record { state = entry.Mapped; page = p; mark = 0 }))

-- a page that may be read already stays, and the store of the position is the act
abbrev pub accepted : Bool → (vp at index page position : ℕ) → Tree
accepted true v at i p n = done (Clear p ∷ []) (map_entry at i p ∷ put_next v n ∷ [])
accepted false v at i p n = done [] (put_next v n ∷ [])

-- its changes, where that page is filled with zeros, or none is
abbrev pub accept_changes : (vp gpa at position : ℕ) → Option ℕ → List Change
accept_changes v gpa at n None = put_next v n ∷ []
accept_changes v gpa at n (Some p) = Clear p ∷ map_entry at (index_at 0 gpa) p ∷ put_next v n ∷ []

abbrev pub is_cleared_in : (pages : ℕ) → Option ℕ → Bool
is_cleared_in pages None = true
is_cleared_in pages (Some p) = nat_lt p pages

-- under P of the page alone the whole entry is loaded
abbrev pub accept_held : Machine → (vp gpa at page : ℕ) → Tree
accept_held m v gpa at p =
    entry_tree m.pages at gpa 0 (λ e. unless_violation Write gpa (same_state e.state entry.Pending || may_read e.state)
    (with_position v (λ n. accepted (same_state e.state entry.Pending) v at (index_at 0 gpa) p n)))

abbrev pub accept_named : Machine → (vp gpa at page : ℕ) → Tree
accept_named m v gpa at p = Lock (OfPage p) (place.Lock p) Exclusive (accept_held m v gpa at p)

-- the page that the entry names is held
abbrev pub accept_found : Machine → (vp gpa at : ℕ) → Tree
accept_found m v gpa at =
    Load ThePage (place.Word at (index_at 0 gpa)) (λ p. unless_violation Write gpa (not (p == no_page)) (accept_named m v gpa at (page_told m.pages p)))

-- accept GPA, under T shared
abbrev pub accept_at : Machine → (tdr vp gpa tdcs : ℕ) → Tree
accept_at m t v gpa d = tree_lock_tree t d Shared (root_page_tree m.pages t (λ root. passed_walk m.pages gpa root (accept_found m v gpa)))

abbrev pub accept_tree : Machine → (tdr vp gpa : ℕ) → Tree
accept_tree m t v gpa = Load Whole (place.Word t TDR_TDCS) (λ word. accept_at m t v gpa (page_told m.pages word))

abbrev pub accept_task : Place → (tdr vp gpa : ℕ) → Task
accept_task p t v gpa = record { place = p; tree = accept_tree p.machine t v gpa; meaning = OfOperation t v (accept t v gpa) }

-- it means its row of a private GPA. The zeros of a PENDING page are stored before the act, since nobody reaches the page
-- (`AcceptReach`)
abbrev pub AcceptMeans : Type 0
AcceptMeans = (p : Place) (t v gpa : ℕ) → IsMachine p.machine → gpa < 2 ^ 47 → MeansRow (accept_task p t v gpa)
