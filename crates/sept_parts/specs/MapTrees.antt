-- A page of the host's becomes a TD's, and an entry that was FREE names it: what the rows share that map a page, as a
-- decision over the words that it is told.
use Rattle.std.specs.Prelude.{ℕ, List, [], ◌∷◌}
use Rattle.td_words.specs.declared.names.EntryState.TheVariants as entry
use Rattle.td_words.specs.declared.names.PageKind.TheVariants as kind
use Rattle.td_words.specs.declared.names.OpState.{OpState}
use Rattle.td_words.specs.declared.names.Mode.TheVariants.{Shared, Exclusive}
use Rattle.td_words.specs.declared.places.TheConstants.{TDR_CHILDREN}
use Rattle.td_words.specs.Packing.{entry_word, pamt_word}
use Rattle.td_words.specs.Place as place
use Rattle.sept_walk.specs.SecureEpt.{index_at}
use Rattle.leaf_engine.specs.Changes.{Change, Put}
use Rattle.leaf_engine.specs.Trees.{Tree, done}
use Rattle.leaf_parts.specs.Words.{raised}
use Rattle.leaf_parts.specs.HostPages.{taken_page_tree}
use Rattle.sept_parts.specs.declared.finds.Found.{Found}
use Rattle.sept_parts.specs.declared.mappings.Mapping.{Mapping}
use Rattle.sept_parts.specs.SeptTrees.{state_tree, td_find_tree}

-- The store of the entry that names the page is the act, since guests may run; then the page is the TD's, and is counted.
-- Told are the secure EPT page in which the entry stands, and the child count.
abbrev pub map_changes : (pages : ℕ) → Mapping → (table children : ℕ) → List Change
map_changes pages x table children =
    Put (place.Word table (index_at x.level x.gpa)) (entry_word (record { state = x.state; page = x.page; mark = 0 }))
    ∷ Put (place.Pamt x.page) (pamt_word (record { kind = x.kind; owner = x.tdr; epoch = 0 }))
    ∷ Put (place.Word x.tdr TDR_CHILDREN) (raised pages children)
    ∷ []

-- a private page, which guests may use at once
abbrev pub private_mapping : (tdr gpa page : ℕ) → Mapping
private_mapping tdr gpa page = record { tdr = tdr; gpa = gpa; level = 0; page = page; kind = kind.Reg; state = entry.Mapped }

-- behind the walk: the entry is FREE, and the page is the host's, and is filled before the act
abbrev pub map_tree : (pages : ℕ) → (fills : List Change) → Mapping → Found → Tree
map_tree pages fills x found =
    state_tree found.entry (entry.Free ∷ []) (taken_page_tree x.tdr x.page (λ children. done fills (map_changes pages x found.page children)))

-- behind the arguments: while guests may run, which T alone keeps from the entry
abbrev pub td_map_tree : (pages : ℕ) → List OpState → (fills : List Change) → Mapping → Tree
td_map_tree pages allowed fills x = td_find_tree pages x.tdr (record { op = Shared; tree = Exclusive }) allowed x.gpa x.level (map_tree pages fills x)
