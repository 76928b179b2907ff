-- The leaf that adds a private page for a guest to accept means its row.
use Rattle.std.proofs.Common.{ℕ, ◌^◌, ◌==◌, [], ◌++◌, refl, arith}
use Rattle.std.proofs.lemmas.Bool.{eq-eqb, ltb-true, not-true}
use Rattle.td_words.specs.declared.machines.Machine.{Machine}
use Rattle.td_words.specs.Limits.{IsMachine}
use Rattle.flat_core.specs.Conditions.{augmented_ops}
use Rattle.flat_core.specs.MemRows.{augment_page}
use Rattle.act_rules.proofs.Rows.{page-augmented}
use Rattle.leaf_engine.specs.declared.needs.Place.{Place}
use Rattle.leaf_engine.specs.Means.{MeansRow, hold}
use Rattle.leaf_parts.specs.Arguments.{AllHold}
use Rattle.sept_parts.specs.SeptPages.{HoldsTree}
use Rattle.sept_parts.proofs.Maps.{CanMap, map_locks, holds-map, private-filled, map-row-means}
use Rattle.mem_build.specs.PageAugTrees.{page_aug_arguments, page_aug_mapping, page_aug_task}

can-map : (m : Machine) (t gpa page : ℕ) → AllHold (page_aug_arguments m t gpa page) → CanMap m (page_aug_mapping t gpa page)
can-map m t gpa page a = record { tdr = ltb-true t m.pages a.0; gpa = ltb-true gpa (2 ^ 47) a.1.0; level = omega arith; page = ltb-true page m.pages a.1.1.0; apart = not-true (page == t) a.1.1.1.0 }

-- the page keeps its words
pub page_aug-means : (q : Place) (t gpa page : ℕ) → IsMachine q.machine → MeansRow (page_aug_task q t gpa page)
page_aug-means q t gpa page limits = record {
  means = λ c at.
      (let m : Machine = q.machine in
      let x = page_aug_mapping t gpa page in
      let w = c.state.world in
      map-row-means m c (augment_page m t gpa page) x augmented_ops w.words [] limits.pages.1 at.lawful at.shown refl refl
      (record { reply_is = refl; cached_is = refl; enters_is = refl; notes_are = refl; tells_are = refl; bundles_are = refl })
      (page_aug_arguments m t gpa page) (can-map m t gpa page) (λ a y free host.
      let can : CanMap m x = can-map m t gpa page a in
      let locks : HoldsTree (map_locks x ++ c.kept) t = holds-map x c.kept can.apart in record {
        filled = private-filled m c x w.words [] refl can.page host at.shown;
        allowed = tt;
        respects = page-augmented (hold c (map_locks x)) w t gpa page host (rw (eq-eqb page page refl) refl) (record { tdr = locks.tdr; op = locks.op }) (rw (eq-eqb t t refl) refl);
      }));
}
