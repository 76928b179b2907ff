-- What contracts see of a plan of a call that takes a bundle.
use Rattle.std.specs.Prelude.{ℕ, ◌-◌, ◌^◌, ◌&&◌, nat_lt, Bool, Option, List}
use Rattle.td_words.specs.declared.names.OpState.TheVariants as op
use Rattle.flat_core.specs.Opening.{Incoming}
use Rattle.flat_core.specs.Inputs.{input_in}
use Rattle.flat_core.specs.ImportRows.{is_start}
use Rattle.leaf_engine.specs.declared.plans.Act.{Act}
use Rattle.leaf_engine.specs.Changes.{Change}
use Rattle.leaf_engine.specs.Means.{Task, MeansRow}
use Rattle.stream_parts.specs.AloneTrees.{op_changes}
use Rattle.import_core.specs.TokenTrees.{import_token_task, import_token_changes}
use Rattle.import_core.specs.TokenMeanings.{import_token-means}
use Rattle.import_core.specs.TokenAbortTrees.{abort_by_token_task}
use Rattle.import_core.specs.TokenAbortMeanings.{abort_by_token-means}
use Rattle.import_states.specs.BeginImportTrees.{import_immutable_task, begin_import_changes}
use Rattle.import_states.specs.BeginImportMeanings.{import_immutable-means}
use Rattle.import_states.specs.VpImportTrees.{import_vp_task, vp_import_changes}
use Rattle.import_states.specs.VpImportMeanings.{import_vp-means}
use Rattle.leaf_table.specs.Plans.{is_page}
use Rattle.leaf_table.specs.declared.bundle_plans.BundlePlan.{BundlePlan}
use Rattle.leaf_table.specs.declared.bundle_plans.BundlePlan.TheVariants as plan

-- its slot, and the bundle that it was given
abbrev pub plan_slot : BundlePlan → ℕ
plan_slot (plan.ImportToken l) = l.slot
plan_slot (plan.AbortByToken l) = l.slot
plan_slot (plan.ImportImmutable l) = l.slot
plan_slot (plan.ImportVp l) = l.slot

abbrev pub plan_input : BundlePlan → Option Incoming
plan_input (plan.ImportToken l) = l.input
plan_input (plan.AbortByToken l) = l.input
plan_input (plan.ImportImmutable l) = l.input
plan_input (plan.ImportVp l) = l.input

-- what it has to do, and what it has with this bundle in place of its own
abbrev pub bundle_plan_task : BundlePlan → Task
bundle_plan_task (plan.ImportToken l) = import_token_task l.place l.input l.tdr l.slot
bundle_plan_task (plan.AbortByToken l) = abort_by_token_task l.place l.input l.tdr l.slot
bundle_plan_task (plan.ImportImmutable l) = import_immutable_task l.place l.input l.tdr l.slot
bundle_plan_task (plan.ImportVp l) = import_vp_task l.place l.input l.tdr l.vp l.slot

abbrev pub task_with : Option Incoming → BundlePlan → Task
task_with b (plan.ImportToken l) = import_token_task l.place b l.tdr l.slot
task_with b (plan.AbortByToken l) = abort_by_token_task l.place b l.tdr l.slot
task_with b (plan.ImportImmutable l) = import_immutable_task l.place b l.tdr l.slot
task_with b (plan.ImportVp l) = import_vp_task l.place b l.tdr l.vp l.slot

-- all its changes, in order
abbrev pub bundle_plan_changes : BundlePlan → (told : List ℕ) → Act → List Change
bundle_plan_changes (plan.ImportToken l) told a = import_token_changes (is_start (input_in l.input).header) a.page a.named a.epoch a.count
bundle_plan_changes (plan.AbortByToken l) told a = op_changes op.Runnable a.page
bundle_plan_changes (plan.ImportImmutable l) told a = begin_import_changes (input_in l.input) (record { tdcs = a.page; page = a.named })
bundle_plan_changes (plan.ImportVp l) told a = vp_import_changes l.vp (input_in l.input) a.page

-- what its conditions have shown of its act
abbrev pub bundle_plan_shown : BundlePlan → (told : List ℕ) → Act → Bool
bundle_plan_shown (plan.ImportToken l) told a = is_page l.place a.page && is_page l.place a.named && nat_lt a.count (2 ^ 32 - 1)
bundle_plan_shown (plan.AbortByToken l) told a = is_page l.place a.page
bundle_plan_shown (plan.ImportImmutable l) told a = is_page l.place a.page && is_page l.place a.named
bundle_plan_shown (plan.ImportVp l) told a = is_page l.place l.vp && is_page l.place a.page

-- each means its row
pub bundle_plans-mean : (l : BundlePlan) → MeansRow (bundle_plan_task l)
bundle_plans-mean (plan.ImportToken l) = import_token-means l.place l.input l.tdr l.slot
bundle_plans-mean (plan.AbortByToken l) = abort_by_token-means l.place l.input l.tdr l.slot
bundle_plans-mean (plan.ImportImmutable l) = import_immutable-means l.place l.input l.tdr l.slot
bundle_plans-mean (plan.ImportVp l) = import_vp-means l.place l.input l.tdr l.vp l.slot l.few_pages
