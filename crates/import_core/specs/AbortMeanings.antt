-- The leaf that gives an import up means its row.
use Rattle.std.proofs.Common.{ℕ, nat_lt, [], ◌∷◌, refl}
use Rattle.std.proofs.lemmas.Bool.{ltb-true}
use Rattle.td_words.specs.declared.names.OpState.TheVariants as op
use Rattle.td_words.specs.declared.machines.Machine.{Machine}
use Rattle.td_words.specs.declared.refusals.Status.TheVariants.{OperandInvalid}
use Rattle.flat_core.specs.World.{World}
use Rattle.flat_core.specs.Effects.{add_bundle}
use Rattle.flat_core.specs.ImportRows.{given_up_ops, abort_import}
use Rattle.leaf_engine.specs.declared.needs.Place.{Place}
use Rattle.leaf_engine.specs.Means.{MeansRow, Work, work_of, OfCall}
use Rattle.stream_parts.specs.Rooms.{session_tree}
use Rattle.stream_parts.proofs.StreamMeans.{session-means}
use Rattle.stream_parts.proofs.AloneMeans.{alone_locks, alone-head, alone-own, alone-row-means}
use Rattle.stream_parts.proofs.OpMeans.{op-ended}
use Rattle.import_core.specs.AbortTrees.{abort_made, abort_end, import_abort_task}

abbrev with_token : (t slot : ℕ) → World → World
with_token t slot w = add_bundle (abort_made slot (w.tds.sessions t)) w

pub import_abort-means : (p : Place) (t slot : ℕ) → MeansRow (import_abort_task p t slot)
import_abort-means p t slot = record {
  means = λ c at. (let m : Machine = p.machine in let w : World = c.state.world in let k : Work = work_of (OfCall (abort_import m t slot)) in
      alone-row-means m c k t at.lawful at.shown ((nat_lt t m.pages, OperandInvalid 1) ∷ []) (λ a. ltb-true t m.pages a.0) given_up_ops (λ d. session_tree d (λ session. abort_end slot (record { tdcs = d; session = session }))) []
      (λ a x. session-means m c k (alone_locks t) t at.lawful at.shown x.alive x.controls (alone-head t c.kept) (λ session. abort_end slot (record { tdcs = x.controls.tdcs; session = session })) []
      (op-ended m c t given_up_ops at.lawful at.shown x op.FailedImport refl (with_token t slot) (alone_locks t) (alone-own t c.kept) (abort_import m t slot).items (abort_made slot (w.tds.sessions t) ∷ []) refl)));
}
