-- How far the leaf is that removes a secure EPT page: while the conditions are asked all words told are kept; once they have
-- shown the page, its entries are told one by one, of which none is kept; and then what shows whether its block is tracked.
use Rattle.std.specs.Prelude.{◌≡◌, ℕ, ◌-◌, ◌*◌, ◌/◌, ◌<◌, ◌≤◌, Option, Some, None, List, length, Result, Ok, Err}
use Rattle.std.proofs.Props.{props}
use Rattle.td_words.specs.declared.machines.Machine.{Machine}
use Rattle.td_words.specs.declared.refusals.Status.TheVariants.{SeptNotEmpty}
use Rattle.td_words.specs.declared.replies.Reply.TheVariants.{Refused}
use Rattle.sept_walk.specs.SecureEpt.{index_at}
use Rattle.leaf_engine.specs.declared.needs.Place.{Place}
use Rattle.leaf_engine.specs.declared.plans.Stop.{Stop}
use Rattle.leaf_engine.specs.Decides.{Decides}
use Rattle.leaf_engine.specs.Trees.{Tree, answers, feed}
use Rattle.mem_remove.specs.declared.sept_removals.Table.{Table}
use Rattle.mem_remove.specs.TrackedTrees.{tracked_tree}
use Rattle.mem_remove.specs.RemoveTrees.{scan_tree, given_tree, sept_remove_tree}

-- behind the entries of a page that all are FREE
abbrev pub table_rest : (tdr index : ℕ) → Table → Tree
table_rest t index n = tracked_tree n.tdcs n.page (given_tree t n.at index n.page)

abbrev pub table_tree : (pages tdr index : ℕ) → Table → Tree
table_tree pages t index n = scan_tree pages n.page 0 512 (table_rest t index n)

-- what is left of its tree behind the conditions: so many entries were told, and the last of them may be used
abbrev pub scanned : (pages tdr index : ℕ) → Table → (seen : ℕ) → Option ℕ → (later : List ℕ) → Tree
scanned pages t index n seen (Some i) later = answers (Refused (SeptNotEmpty i))
scanned pages t index n seen None later = feed (scan_tree pages n.page seen (512 - seen) (table_rest t index n)) later

abbrev pub rest_of : Place → (tdr gpa level : ℕ) → Option Table → (seen : ℕ) → Option ℕ → (told later : List ℕ) → Tree
rest_of p t gpa level None seen used told later = feed (sept_remove_tree p.machine t gpa level) told
rest_of p t gpa level (Some n) seen used told later = scanned p.machine.pages t (index_at level gpa) n seen used later

-- where a word is waited for, there is room for it
abbrev pub HasRoom : (level : ℕ) → Option Table → Option ℕ → (told later : List ℕ) → Type 0
HasRoom level None used told later = length told < 15 - level
HasRoom level (Some n) None told later = length later < 4
HasRoom level (Some n) (Some i) told later = ⊥

-- the entry is known behind the conditions, with pages of the machine; and what comes behind the 512 entries is told once they are
abbrev pub IsKnown : Machine → (tdr level : ℕ) → Option Table → (seen : ℕ) → Option ℕ → (told later : List ℕ) → Type 0
IsKnown m t level None seen used told later = (seen ≡ 0) × (used ≡ None) × (length later ≡ 0) × (length told ≤ 15 - level)
IsKnown m t level (Some n) seen used told later =
    (t < m.pages) × (level ≤ 3) × (n.tdcs < m.pages) × (n.at < m.pages) × (n.page < m.pages) × (seen ≤ 512) × (length later ≤ 4 * (seen / 512)) × (length told ≤ 15)

pub HasRoom-prop : (level : ℕ) (o : Option Table) (used : Option ℕ) (told later : List ℕ) → IsProp (HasRoom level o used told later)
HasRoom-prop level None used told later = hlevel props
HasRoom-prop level (Some n) None told later = hlevel props
HasRoom-prop level (Some n) (Some i) told later = hlevel props

pub IsKnown-prop : (m : Machine) (t level : ℕ) (o : Option Table) (seen : ℕ) (used : Option ℕ) (told later : List ℕ) → IsProp (IsKnown m t level o seen used told later)
IsKnown-prop m t level None seen used told later = hlevel props
IsKnown-prop m t level (Some n) seen used told later = hlevel props

-- what it comes to after these answers, of which those are left: the entries of a page, or what stops it
abbrev pub ComesTo : Place → (tdr gpa level : ℕ) → (told left : List ℕ) → Result Table Stop → Type 0
ComesTo p t gpa level told left (Ok n) = feed (sept_remove_tree p.machine t gpa level) told ≡ feed (table_tree p.machine.pages t (index_at level gpa) n) left
ComesTo p t gpa level told left (Err e) = Decides p.machine.pages (sept_remove_tree p.machine t gpa level) told (Err e)
