-- A leaf with another bundle in place of its own is as far as it was.
use Rattle.std.specs.Prelude.{if◌then◌else◌}
use Rattle.std.proofs.Common.{◌≡◌, ◌∙◌, ℕ, ◌+◌, ◌-◌, ◌*◌, Bool, true, false, is_some, List, length, Option, Some, None, refl, ap}
use Rattle.flat_core.specs.Opening.{Incoming}
use Rattle.flat_core.specs.Inputs.{input_in}
use Rattle.leaf_engine.specs.Means.{Task}
use Rattle.leaf_engine.specs.Trees.{feed}
use Rattle.import_states.specs.TdImportTrees.{td_import_tree, import_td_task}
use Rattle.import_pages.specs.PageImportTrees.{page_import_task}
use Rattle.import_pages.specs.PageImportStages.{rest_of}
use Rattle.import_states.specs.declared.tds.ImportTd.{ImportTd}
use Rattle.import_pages.specs.declared.page_imports.PageImport.{PageImport}
use Rattle.leaf_table.specs.BundlePlans.{plan_input, bundle_plan_task, task_with}
use Rattle.leaf_table.specs.Leaves.{planned, td_seen, page_seen, leaf_seen, seen_with}
use Rattle.leaf_table.specs.Given.{Given}
use Rattle.leaf_table.specs.Origins.{bundle_in, bundle_at}
use Rattle.leaf_table.specs.declared.bundle_plans.BundlePlan.{BundlePlan}
use Rattle.leaf_table.specs.declared.bundle_plans.BundlePlan.TheVariants as plan
use Rattle.leaf_table.specs.declared.leaves.AnyLeaf.{AnyLeaf}
use Rattle.leaf_table.specs.declared.leaves.AnyLeaf.TheVariants as leaf

-- its own is in its own place
pub own-task : (l : BundlePlan) → task_with (plan_input l) l ≡ bundle_plan_task l
own-task (plan.ImportToken l) = refl
own-task (plan.AbortByToken l) = refl
own-task (plan.ImportImmutable l) = refl
own-task (plan.ImportVp l) = refl

pub own-seen : (l : AnyLeaf) → seen_with (bundle_in l) l ≡ leaf_seen l
own-seen (leaf.ByBundle l) = ap (λ (t : Task). planned t l.told.items l.written l.waits) (own-task l.plan)
own-seen (leaf.ByPlan l) = refl
own-seen (leaf.Extend l) = refl
own-seen (leaf.SeptRemove l) = refl
own-seen (leaf.StateTd l) = refl
own-seen (leaf.PageExport l) = refl
own-seen (leaf.Report l) = refl
own-seen (leaf.ImportTd l) = refl
own-seen (leaf.PageImport l) = refl

-- one that takes a bundle has that of its slot then
pub bundle-is : (g : Given) (slot : Option ℕ) (b c : Option Incoming) → (is_some slot ≡ true → c ≡ b) → (is_some slot ≡ false → c ≡ None) → b ≡ bundle_at g slot → c ≡ bundle_at g slot
bundle-is g None b c some none is = none refl
bundle-is g (Some slot) b c some none is = some refl ∙ is

pub planned-same : (t u : Task) (xs ys : List ℕ) (n k : ℕ) (w v : Bool) → t ≡ u → xs ≡ ys → n ≡ k → w ≡ v → planned t xs n w ≡ planned u ys k v
planned-same t u xs ys n k w v task told written waits = λ i. planned (task i) (told i) (written i) (waits i)

pub td-same : (b : Option Incoming) (k l : ImportTd) → (k.place ≡ l.place) × (k.tdr ≡ l.tdr) → k.slot ≡ l.slot → (k.told ≡ l.told) × (k.written ≡ l.written) × (k.waits ≡ l.waits) → td_seen b k ≡ td_seen b l
td-same b k l call slot far = λ i. record {
  task = import_td_task (call.0 i) b (call.1 i) (slot i);
  rest = feed (td_import_tree (call.0 i).machine (input_in b) (call.1 i) (slot i)) (far.0 i).items;
  written = far.1 i;
  waits = far.2 i;
  bound = 2 * (32 - length (far.0 i).items) + (26 - far.1 i) - (if far.2 i then 1 else 0);
  tries = 32 - length (far.0 i).items;
}

pub page-same : (b : Option Incoming) (k l : PageImport) → (k.place ≡ l.place) × (k.tdr ≡ l.tdr) × (k.page ≡ l.page) → k.slot ≡ l.slot → (k.told ≡ l.told) × (k.importing ≡ l.importing) × (k.written ≡ l.written) × (k.waits ≡ l.waits) → page_seen b k ≡ page_seen b l
page-same b k l call slot far = λ i. record {
  task = page_import_task (call.0 i) b (call.1 i) (slot i) (call.2 i) None;
  rest = rest_of (call.0 i).machine (input_in b) (call.1 i) (slot i) (call.2 i) (far.1 i) (far.0 i).items;
  written = far.2 i;
  waits = far.3 i;
  bound = 2 * (21 - length (far.0 i).items) + (516 - far.2 i) - (if far.3 i then 1 else 0);
  tries = 21 - length (far.0 i).items;
}
