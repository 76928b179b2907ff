-- The leaves that pause a TD's export and abort it mean their rows.
use Rattle.std.proofs.Common.{ℕ, refl}
use Rattle.td_words.specs.declared.names.OpState.TheVariants as op
use Rattle.flat_core.specs.ExportRows.{live_ops, abortable_ops, note_pause}
use Rattle.leaf_engine.specs.declared.needs.Place.{Place}
use Rattle.leaf_engine.specs.Means.{MeansRow}
use Rattle.stream_parts.proofs.OpMeans.{op-row-means}
use Rattle.export_core.specs.PauseTrees.{pause_task, abort_task}

pub pause-means : (p : Place) (t : ℕ) → MeansRow (pause_task p t)
pause-means p t = op-row-means p live_ops op.PausedExport refl (note_pause t) (λ w. refl) t

pub abort-means : (p : Place) (t : ℕ) → MeansRow (abort_task p t)
abort-means p t = op-row-means p abortable_ops op.Runnable refl (λ w. w) (λ w. refl) t
