-- The leaf that ends an export by the destination's token means its row.
use Rattle.std.proofs.Common.{ℕ, nat_lt, Option, [], ◌∷◌, refl}
use Rattle.std.proofs.lemmas.Bool.{ltb-true}
use Rattle.td_words.specs.declared.names.OpState.TheVariants as op
use Rattle.td_words.specs.declared.machines.Machine.{Machine}
use Rattle.td_words.specs.declared.refusals.Status.TheVariants.{OperandInvalid}
use Rattle.flat_core.specs.Opening.{Incoming}
use Rattle.flat_core.specs.Inputs.{Input, input_in, session_same, counter_due, tag_holds}
use Rattle.flat_core.specs.ImportRows.{sent_ops, abort_by_token}
use Rattle.leaf_engine.specs.declared.needs.Place.{Place}
use Rattle.leaf_engine.specs.Trees.{done}
use Rattle.leaf_engine.specs.Means.{MeansRow, Work, work_of, OfCall}
use Rattle.stream_parts.specs.AloneTrees.{op_changes}
use Rattle.stream_parts.proofs.AloneMeans.{alone_locks, alone-own, alone-row-means}
use Rattle.stream_parts.proofs.OpMeans.{op-ended}
use Rattle.import_parts.specs.InputTrees.{input_checks, due_tree, tag_tree}
use Rattle.import_parts.proofs.InputMeans.{session_same-means}
use Rattle.import_core.specs.TokenAbortTrees.{given_up_tree, abort_by_token_task}

pub abort_by_token-means : (p : Place) (b : Option Incoming) (t slot : ℕ) → MeansRow (abort_by_token_task p b t slot)
abort_by_token-means p b t slot = record {
  means = λ c at. (let m : Machine = p.machine in let x : Input = input_in b in let k : Work = work_of (OfCall (abort_by_token m b t slot)) in
      alone-row-means m c k t at.lawful at.shown ((nat_lt t m.pages, OperandInvalid 1) ∷ input_checks x slot (6 ∷ [])) (λ a. ltb-true t m.pages a.0) sent_ops
      (λ d. given_up_tree d x.header x (done [] (op_changes op.Runnable d))) (session_same c.state.world t x.header ∷ counter_due 0 x.header ∷ tag_holds x ∷ [])
      (λ a y. session_same-means m c k (alone_locks t) t at.lawful at.shown y.alive y.controls (alone-own t c.kept) x.header (due_tree x.header 0 (tag_tree x (done [] (op_changes op.Runnable y.controls.tdcs)))) (counter_due 0 x.header ∷ tag_holds x ∷ [])
      (λ e. (
        refl,
        λ e. refl,
        λ e. (
          refl,
          λ e. refl,
          λ e.
              op-ended m c t sent_ops at.lawful at.shown y op.Runnable refl (λ w. w) (alone_locks t) (alone-own t c.kept) (abort_by_token m b t slot).items [] refl,
        ),
      ))));
}
