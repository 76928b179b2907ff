-- Leaves over a memory: what each comes to where its locks are granted and memory answers its loads; and its walk beside that
-- of a `Walk` over the same words.
use Rattle.std.specs.Prelude.{◌≡◌, ℕ, zero, suc, ◌-◌, ◌≤◌, if◌then◌else◌}
use Rattle.td_words.specs.declared.machines.Machine.{Machine}
use Rattle.td_words.specs.declared.refusals.Status.TheVariants.{EptWalkFailed}
use Rattle.td_words.specs.declared.replies.Reply.TheVariants.{Refused}
use Rattle.td_words.specs.Packing.{Entry}
use Rattle.td_words.specs.Place.{WordPlace, address}
use Rattle.sept_walk.specs.declared.walks.Walked.{Walked}
use Rattle.sept_walk.specs.declared.walks.Walked.TheVariants.{More, Found, Failed}
use Rattle.sept_walk.specs.Seen.{Walk}
use Rattle.sept_walk.specs.Steps.{walk_from, address_of, walk_after}
use Rattle.step_core.specs.Items.{Table}
use Rattle.word_rules.specs.Views.{look}
use Rattle.leaf_engine.specs.Trees.{Tree, Lock, Load, Test, End, Since, answers}
use Rattle.sept_parts.specs.SeptTrees.{walk_tree}
use Rattle.map_laws.specs.SeptMaps.{entries_on}
use Rattle.map_laws.specs.Laws.{table_walk}

-- what a table has at each place of a machine of so many pages
abbrev pub words_on : (pages : ℕ) → Table → WordPlace → ℕ
words_on pages u q = u.words (address pages q)

-- the end that a leaf comes to
abbrev pub answered : (WordPlace → ℕ) → Tree → Tree
answered words (Lock l q m t) = answered words t
answered words (Load v q k) = answered words (k (look v (words q)))
answered words (Test b r t) = if b then answered words t else answers r
answered words (End a fs cs) = End a fs cs
answered words (Since a cs) = Since a cs

-- where a walk stands once it was told so many entries at most
abbrev pub walked_on : ℕ → (ℕ → Entry) → Walk → Walk
walked_on zero memory k = k
walked_on (suc n) memory k = walked_on n memory (walk_after k (memory (address_of k)))

-- a leaf goes on with the page where a walk stands that has found its entry, which is the one that stands there; or it is
-- refused with the level at which the walk failed
abbrev pub EndsAs : (WordPlace → ℕ) → (ℕ → Entry) → (comes : Tree) → (further : ℕ → Tree) → Walk → Walked → Type 0
EndsAs words memory comes further k (Found e) = (comes ≡ answered words (further k.page)) × (memory (address_of k) ≡ e)
EndsAs words memory comes further k (Failed l) = comes ≡ answers (Refused (EptWalkFailed l))
EndsAs words memory comes further k More = ⊥

-- So leaves walk as a `Walk` does, whatever a table has.
abbrev pub LeavesWalk : Type 0
LeavesWalk = (m : Machine) (u : Table) (root gpa level : ℕ) (further : ℕ → Tree) → level ≤ 3
    → let words = words_on m.pages u in let memory = entries_on m.pages u in
    EndsAs words memory (answered words (walk_tree m.pages root gpa level further)) further
    (walked_on (4 - level) memory (walk_from root gpa level)) (table_walk m u root gpa level)
