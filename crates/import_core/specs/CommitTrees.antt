-- The commit of an import and its end as decisions over the words that they are told.
use Rattle.std.specs.Prelude.{ℕ, nat_lt, []}
use Rattle.td_words.specs.declared.names.OpState.TheVariants as op
use Rattle.td_words.specs.declared.names.Mode.TheVariants.{Exclusive}
use Rattle.td_words.specs.declared.machines.Machine.{Machine}
use Rattle.td_words.specs.declared.refusals.Status.TheVariants.{OperandInvalid}
use Rattle.flat_core.specs.ImportRows.{commit_ops, late_ops, commit_import, end_import}
use Rattle.leaf_engine.specs.declared.needs.Place.{Place}
use Rattle.leaf_engine.specs.Trees.{Tree, needs, done}
use Rattle.leaf_engine.specs.Means.{Task, OfCall}
use Rattle.leaf_parts.specs.Heads.{td_head_tree}
use Rattle.stream_parts.specs.AloneTrees.{op_changes, op_task}

abbrev pub commit_task : Place → (tdr : ℕ) → Task
commit_task p tdr = op_task p commit_ops op.LiveImport tdr (commit_import p.machine tdr)

-- where no page comes any more, the map needn't be held
abbrev pub import_end_tree : Machine → (tdr : ℕ) → Tree
import_end_tree m tdr = needs (nat_lt tdr m.pages) (OperandInvalid 1) (td_head_tree m.pages tdr Exclusive late_ops (λ td. done [] (op_changes op.Runnable td.tdcs)))

abbrev pub import_end_task : Place → (tdr : ℕ) → Task
import_end_task p tdr = record { place = p; tree = import_end_tree p.machine tdr; meaning = OfCall (end_import p.machine tdr) }
