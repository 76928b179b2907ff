-- The leaves that commit an import and end it mean their rows.
use Rattle.std.proofs.Common.{ℕ, nat_lt, [], ◌∷◌, refl}
use Rattle.std.proofs.lemmas.Bool.{ltb-true}
use Rattle.td_words.specs.declared.names.OpState.TheVariants as op
use Rattle.td_words.specs.declared.names.Mode.TheVariants.{Exclusive}
use Rattle.td_words.specs.declared.machines.Machine.{Machine}
use Rattle.td_words.specs.declared.refusals.Status.TheVariants.{OperandInvalid}
use Rattle.flat_core.specs.ImportRows.{commit_ops, late_ops, note_commit, end_import}
use Rattle.leaf_engine.specs.declared.needs.Place.{Place}
use Rattle.leaf_engine.specs.Trees.{done}
use Rattle.leaf_engine.specs.Means.{MeansRow, work_of, OfCall}
use Rattle.leaf_parts.proofs.Checks.{td-row-means}
use Rattle.stream_parts.specs.AloneTrees.{op_changes}
use Rattle.stream_parts.proofs.AloneMeans.{td_locks, td-own}
use Rattle.stream_parts.proofs.OpMeans.{op-ended, op-row-means}
use Rattle.import_core.specs.CommitTrees.{commit_task, import_end_task}

pub commit-means : (p : Place) (t : ℕ) → MeansRow (commit_task p t)
commit-means p t = op-row-means p commit_ops op.LiveImport refl (note_commit t) (λ w. refl) t

pub import_end-means : (p : Place) (t : ℕ) → MeansRow (import_end_task p t)
import_end-means p t = record {
  means = λ c at. (let m : Machine = p.machine in
      td-row-means m c (work_of (OfCall (end_import m t))) t at.lawful at.shown ((nat_lt t m.pages, OperandInvalid 1) ∷ []) (λ a. ltb-true t m.pages a.0) Exclusive late_ops (λ td. done [] (op_changes op.Runnable td.tdcs)) []
      (λ a x. op-ended m c t late_ops at.lawful at.shown x op.Runnable refl (λ w. w) (td_locks t) (td-own t c.kept) (end_import m t).items [] refl));
}
