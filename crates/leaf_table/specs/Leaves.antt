-- What contracts see of a leaf of any call.
use Rattle.std.specs.Prelude.{ℕ, ◌+◌, ◌-◌, ◌*◌, Bool, if◌then◌else◌, List, Option, None, length}
use Rattle.flat_core.specs.Opening.{Incoming}
use Rattle.flat_core.specs.Inputs.{input_in}
use Rattle.leaf_engine.specs.declared.plans.TheConstants.{ANSWERS}
use Rattle.leaf_engine.specs.Trees.{Tree, feed}
use Rattle.leaf_engine.specs.Means.{Task, MeansRow}
use Rattle.mem_build.specs.ExtendTrees.{extend_task}
use Rattle.mem_build.specs.ExtendStages.{rest_of}
use Rattle.mem_build.specs.ExtendMeanings.{extend-means}
use Rattle.mem_remove.specs.RemoveTrees.{sept_remove_task}
use Rattle.mem_remove.specs.RemoveStages.{rest_of as sept_rest_of}
use Rattle.mem_remove.specs.SeptRemoveMeanings.{sept_remove-means}
use Rattle.export_states.specs.TdStateTrees.{td_tree, td_state_task}
use Rattle.export_states.specs.TdStateMeanings.{td_state-means}
use Rattle.export_pages.specs.PageExportTrees.{page_export_task}
use Rattle.export_pages.specs.PageExportStages.{rest_of as page_rest_of}
use Rattle.export_pages.specs.PageExportMeanings.{page_export-means}
use Rattle.import_pages.specs.PageImportTrees.{page_import_task}
use Rattle.import_pages.specs.PageImportStages.{rest_of as import_rest_of}
use Rattle.import_pages.specs.PageImportMeanings.{page_import-means}
use Rattle.import_pages.specs.declared.page_imports.PageImport.{PageImport}
use Rattle.import_states.specs.TdImportTrees.{td_import_tree, import_td_task}
use Rattle.import_states.specs.TdImportMeanings.{import_td-means}
use Rattle.import_states.specs.declared.tds.ImportTd.{ImportTd}
use Rattle.access_core.specs.ReportTrees.{report_task, report_tree}
use Rattle.access_core.specs.ReportMeanings.{report-means}
use Rattle.leaf_table.specs.Plans.{plan_task, plans-mean}
use Rattle.leaf_table.specs.BundlePlans.{bundle_plan_task, task_with, bundle_plans-mean}
use Rattle.leaf_table.specs.declared.leaves.AnyLeaf.{AnyLeaf}
use Rattle.leaf_table.specs.declared.leaves.AnyLeaf.TheVariants as leaf

-- its task, what is left of its tree, how many changes it has handed out, whether it waits for a word, and how much it can
-- still give and try
pub record LeafSeen : Type 0 where
  pub task : Task
  pub rest : Tree
  pub written : ℕ
  pub waits : Bool
  pub bound : ℕ
  pub tries : ℕ

-- of a leaf that goes by a plan, and was told these words
abbrev pub planned : Task → List ℕ → ℕ → Bool → LeafSeen
planned t told written waits = record {
  task = t;
  rest = feed t.tree told;
  written = written;
  waits = waits;
  bound = 2 * (ANSWERS - length told) + (24 - written) - (if waits then 1 else 0);
  tries = ANSWERS - length told;
}

-- of those two of their own that were given this bundle
abbrev pub td_seen : Option Incoming → ImportTd → LeafSeen
td_seen b l = record {
  task = import_td_task l.place b l.tdr l.slot;
  rest = feed (td_import_tree l.place.machine (input_in b) l.tdr l.slot) l.told.items;
  written = l.written;
  waits = l.waits;
  bound = 2 * (32 - length l.told.items) + (26 - l.written) - (if l.waits then 1 else 0);
  tries = 32 - length l.told.items;
}

abbrev pub page_seen : Option Incoming → PageImport → LeafSeen
page_seen b l = record {
  task = page_import_task l.place b l.tdr l.slot l.page None;
  rest = import_rest_of l.place.machine (input_in b) l.tdr l.slot l.page l.importing l.told.items;
  written = l.written;
  waits = l.waits;
  bound = 2 * (21 - length l.told.items) + (516 - l.written) - (if l.waits then 1 else 0);
  tries = 21 - length l.told.items;
}

-- kind by kind
abbrev pub leaf_seen : AnyLeaf → LeafSeen
leaf_seen (leaf.ByPlan l) = planned (plan_task l.plan) l.told.items l.written l.waits
leaf_seen (leaf.ByBundle l) = planned (bundle_plan_task l.plan) l.told.items l.written l.waits
leaf_seen (leaf.Extend l) = record {
  task = extend_task l.place l.tdr l.gpa;
  rest = rest_of l.place l.tdr l.gpa l.chunk l.told.items l.words.items;
  written = l.written;
  waits = l.waits;
  bound = 2 * (ANSWERS - length l.told.items) + 2 * (32 - length l.words.items) + (16 - l.written) - (if l.waits then 1 else 0);
  tries = ANSWERS - length l.told.items;
}
leaf_seen (leaf.SeptRemove l) = record {
  task = sept_remove_task l.place l.tdr l.gpa l.level;
  rest = sept_rest_of l.place l.tdr l.gpa l.level l.table l.seen l.used l.told.items l.later.items;
  written = l.written;
  waits = l.waits;
  bound = 2 * (15 - length l.told.items) + 2 * (512 - l.seen) + 2 * (4 - length l.later.items) + (16 - l.written) - (if l.waits then 1 else 0);
  tries = 15 - length l.told.items + (4 - length l.later.items);
}
leaf_seen (leaf.StateTd l) = record {
  task = td_state_task l.place l.tdr l.slot;
  rest = feed (td_tree l.place.machine l.tdr l.slot) l.told.items;
  written = l.written;
  waits = l.waits;
  bound = 2 * (36 - length l.told.items) + (2 - l.written) - (if l.waits then 1 else 0);
  tries = 12 - length l.told.items;
}
leaf_seen (leaf.PageExport l) = record {
  task = page_export_task l.place l.tdr l.gpa l.stream l.slot;
  rest = page_rest_of l.place l.tdr l.gpa l.stream l.slot l.exporting l.told.items l.words;
  written = l.written;
  waits = l.waits;
  bound = 2 * (26 - length l.told.items) + 2 * (512 - length l.words) + (3 - l.written) - (if l.waits then 1 else 0);
  tries = 26 - length l.told.items;
}
leaf_seen (leaf.Report l) = record {
  task = report_task l.place l.tdr l.vp l.line;
  rest = feed (report_tree l.place.machine l.tdr l.vp l.line) l.told.items;
  written = l.written;
  waits = l.waits;
  bound = 2 * (41 - length l.told.items) + (1 - l.written) - (if l.waits then 1 else 0);
  tries = 2 - length l.told.items;
}
leaf_seen (leaf.ImportTd l) = td_seen l.input l
leaf_seen (leaf.PageImport l) = page_seen l.input l

-- with this bundle in place of its own
abbrev pub seen_with : Option Incoming → AnyLeaf → LeafSeen
seen_with b (leaf.ByBundle l) = planned (task_with b l.plan) l.told.items l.written l.waits
seen_with b (leaf.ImportTd l) = td_seen b l
seen_with b (leaf.PageImport l) = page_seen b l
seen_with b l = leaf_seen l

-- each means its row
pub leaves-mean : (l : AnyLeaf) → MeansRow (leaf_seen l).task
leaves-mean (leaf.ByPlan l) = plans-mean l.plan
leaves-mean (leaf.ByBundle l) = bundle_plans-mean l.plan
leaves-mean (leaf.Extend l) = extend-means l.place l.tdr l.gpa l.machine
leaves-mean (leaf.SeptRemove l) = sept_remove-means l.place l.tdr l.gpa l.level l.machine
leaves-mean (leaf.StateTd l) = td_state-means l.place l.tdr l.slot
leaves-mean (leaf.PageExport l) = page_export-means l.place l.tdr l.gpa l.stream l.slot l.machine
leaves-mean (leaf.Report l) = report-means l.place l.tdr l.vp l.line
leaves-mean (leaf.ImportTd l) = import_td-means l.place l.input l.tdr l.slot
leaves-mean (leaf.PageImport l) = page_import-means l.place l.input l.tdr l.slot l.page None l.machine
