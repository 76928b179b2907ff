-- The pause of a TD's export and its abort as decisions over the words that they are told.
use Rattle.std.specs.Prelude.{ℕ}
use Rattle.td_words.specs.declared.names.OpState.TheVariants as op
use Rattle.flat_core.specs.ExportRows.{live_ops, abortable_ops, pause, abort_export}
use Rattle.leaf_engine.specs.declared.needs.Place.{Place}
use Rattle.leaf_engine.specs.Means.{Task}
use Rattle.stream_parts.specs.AloneTrees.{op_task}

abbrev pub pause_task : Place → (tdr : ℕ) → Task
pause_task p tdr = op_task p live_ops op.PausedExport tdr (pause p.machine tdr)

abbrev pub abort_task : Place → (tdr : ℕ) → Task
abort_task p tdr = op_task p abortable_ops op.Runnable tdr (abort_export p.machine tdr)
