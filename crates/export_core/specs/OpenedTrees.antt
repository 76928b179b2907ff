-- The beginning of the calls that give a guest its page back, as a decision over the words that it is told, and the entry that
-- they store.
use Rattle.std.specs.Prelude.{ℕ, ◌<◌, List, Result, Ok, Err}
use Rattle.td_words.specs.declared.names.EntryState.{EntryState}
use Rattle.td_words.specs.declared.names.OpState.{OpState}
use Rattle.td_words.specs.declared.names.Mode.TheVariants.{Shared, Exclusive}
use Rattle.td_words.specs.declared.machines.Machine.{Machine}
use Rattle.td_words.specs.declared.replies.Value.TheVariants as value
use Rattle.td_words.specs.declared.replies.Reply.TheVariants.{Done}
use Rattle.td_words.specs.Packing.{entry_word}
use Rattle.td_words.specs.Place as place
use Rattle.leaf_engine.specs.declared.plans.Stop.{Stop}
use Rattle.leaf_engine.specs.Decides.{Ending}
use Rattle.leaf_engine.specs.Changes.{Change, Put}
use Rattle.leaf_engine.specs.Trees.{Tree}
use Rattle.leaf_parts.specs.Heads.{td_head_tree}
use Rattle.sept_parts.specs.SeptTrees.{tree_lock_tree, find_tree}
use Rattle.mem_remove.specs.declared.named_entries.Named.{Named}
use Rattle.mem_remove.specs.NamedTrees.{taken_tree}

-- the map is held alone, the entry is in one of these states, and the page that it names is held alone
abbrev pub opened_tree : (pages t gpa : ℕ) → List OpState → List EntryState → (Named → Tree) → Tree
opened_tree pages t gpa ops allowed further =
    td_head_tree pages t Shared ops (λ td.
    tree_lock_tree t td.tdcs Exclusive
    (find_tree pages t gpa 0 (λ f.
    taken_tree f.entry allowed (further (record { tdcs = td.tdcs; page = f.page; entry = f.entry })))))

-- the entry gets another state and mark for the page that it names
abbrev pub restated : (at index page : ℕ) → EntryState → (mark : ℕ) → Change
restated at index page s mark = Put (place.Word at index) (entry_word (record { state = s; page = page; mark = mark }))

-- both pages that are stored to are the machine's, and so is the page that the entry names
pub record IsInside (m : Machine) (n : Named) : Type 0 where
  pub tdcs : n.tdcs < m.pages
  pub page : n.page < m.pages
  pub named : n.entry.page < m.pages

-- a decision as the end that it comes to, which answers nothing and has these changes
abbrev pub ended : {A : Type 0} → (A → List Change) → Result A Stop → Result Ending Stop
ended changes (Ok x) = Ok (record { reply = Done value.Nothing; changes = changes x })
ended changes (Err e) = Err e
