-- The leaf that reads an entry of a TD's secure EPT means its row.
use Rattle.std.proofs.Common.{ℕ, ◌^◌, ◌<◌, ◌≤◌, List, [], ◌∷◌, ◌++◌, refl, subst}
use Rattle.std.proofs.lemmas.Bool.{ltb-true, leb-true}
use Rattle.std.proofs.lemmas.List.{append-nil}
use Rattle.td_words.specs.declared.names.Mode.TheVariants.{Shared, Exclusive}
use Rattle.td_words.specs.declared.machines.Machine.{Machine}
use Rattle.td_words.specs.declared.replies.Reply.{Reply}
use Rattle.td_words.specs.declared.replies.Reply.TheVariants.{Done}
use Rattle.flat_core.specs.World.{World}
use Rattle.flat_core.specs.Processor.{Held}
use Rattle.flat_core.specs.Row.{Item}
use Rattle.flat_core.specs.Conditions.{begun_ops, td_shared, tree_exclusive}
use Rattle.flat_core.specs.Lawful.{Lawful}
use Rattle.td_words.specs.Limits.{IsMachine}
use Rattle.flat_core.specs.Tree.{entry_at, walk}
use Rattle.flat_core.specs.MemRows.{read_sept, entry_value}
use Rattle.word_rules.specs.Cells.{Shows}
use Rattle.word_rules.proofs.Conflicts.{respects-compose}
use Rattle.leaf_engine.specs.declared.needs.Place.{Place}
use Rattle.leaf_engine.specs.Trees.{answers}
use Rattle.leaf_engine.specs.Means.{Instant, Means, MeansRow, Work, work_of, OfCall, hold}
use Rattle.leaf_parts.proofs.Begun.{locks-stay}
use Rattle.leaf_parts.proofs.Checks.{checks-mean}
use Rattle.sept_parts.specs.SeptTrees.{td_find_tree}
use Rattle.sept_parts.proofs.SeptBegun.{row-find-means}
use Rattle.mem_build.specs.SeptReadTrees.{sept_read_arguments, sept_read_task}

module _ (m : Machine) (c : Instant) (t gpa level : ℕ) (in_page : t < m.pages) (limit : m.pages ≤ 1024) (la : Lawful m c.state.world) (sh : Shows m c.memory.words c.memory.slots c.state) (small : gpa < 2 ^ 47) (few : level ≤ 3) where
  abbrev w : World
  w = c.state.world

  abbrev k : Work
  k = work_of (OfCall (read_sept m t gpa level))

  answered : (hs : List Held) → Means m c k hs (answers (Done (entry_value (entry_at w t level gpa)))) []
  answered hs = (record { answers = record { reply_is = refl; cached_is = refl; enters_is = refl; notes_are = refl; tells_are = refl; bundles_are = refl }; fills_allowed = tt; respects = respects-compose.same (hold c hs) w; locks_stay = locks-stay w hs; shows = sh }, tt)

  entry-read : Means m c k [] (td_find_tree m.pages t (record { op = Shared; tree = Exclusive }) begun_ops gpa level (λ found. answers (Done (entry_value found.entry)))) (td_shared w t begun_ops ++ tree_exclusive t ∷ walk w t gpa level)
  entry-read =
      subst (λ (rest : List (Item Reply)). Means m c k [] (td_find_tree m.pages t (record { op = Shared; tree = Exclusive }) begun_ops gpa level (λ found. answers (Done (entry_value found.entry)))) (td_shared w t begun_ops ++ tree_exclusive t ∷ rest))
      (append-nil (walk w t gpa level))
      (row-find-means m c k t in_page limit la sh (record { op = Shared; tree = Exclusive }) begun_ops tt gpa level small few (λ found. answers (Done (entry_value found.entry))) [] (λ y page has. answered _))

pub sept_read-means : (p : Place) (t gpa level : ℕ) → IsMachine p.machine → MeansRow (sept_read_task p t gpa level)
sept_read-means p t gpa level limits = record {
  means = λ c at.
      (let m : Machine = p.machine in
      checks-mean m c (work_of (OfCall (read_sept m t gpa level))) [] (sept_read_arguments m t gpa level) (td_find_tree m.pages t (record { op = Shared; tree = Exclusive }) begun_ops gpa level (λ found. answers (Done (entry_value found.entry))))
      (td_shared c.state.world t begun_ops ++ tree_exclusive t ∷ walk c.state.world t gpa level)
      (λ a. entry-read m c t gpa level (ltb-true t m.pages a.0) limits.pages.1 at.lawful at.shown (ltb-true gpa (2 ^ 47) a.1.0) (leb-true level 3 a.1.1.0)));
}
