use Rattle.std.proofs.Common.{ℕ, ◌≡◌, true, nat_lt, List, Result}
use Rattle.td_words.specs.declared.machines.Machine.{Machine}
use Rattle.td_words.specs.declared.names.Mode.TheVariants.{Exclusive}
use Rattle.td_words.specs.declared.refusals.Status.TheVariants.{OperandInvalid}
use Rattle.flat_core.specs.BundleRows.{paused_ops}
use Rattle.leaf_engine.specs.declared.plans.Stop.{Stop}
use Rattle.leaf_engine.specs.Decides.{Ending, Decides}
use Rattle.leaf_engine.specs.Trees.{Tree, needs, feed}
use Rattle.leaf_parts.specs.declared.heads.Td.{Td}
use Rattle.leaf_parts.specs.Heads.{td_head_tree}
use Rattle.leaf_parts.proofs.Parts.{behind-stop, goes-stop, passes, feed-passes, exit}
use Rattle.export_states.specs.declared.states.Stated.{Stated}
use Rattle.export_states.specs.TdStateTrees.{td_state_tree, td_asked}
use Rattle.export_states.proofs.Asked.{goes-behind, feeds-behind}
use Rattle.export_states.proofs.td_states.to_export.Goals as goal

-- behind the argument
module _ (m : Machine) (tdr : ℕ) (in_page : nat_lt tdr m.pages ≡ true) where
  abbrev argued : Tree → Tree
  argued t = needs (nat_lt tdr m.pages) (OperandInvalid 1) t

  holds : (t : Tree) (xs : List ℕ) (r : Result Ending Stop) → Decides m.pages t xs r → Decides m.pages (argued t) xs r
  holds t xs r d = passes m.pages (nat_lt tdr m.pages) (OperandInvalid 1) t xs r in_page d

  fed : (t : Tree) (xs : List ℕ) → feed (argued t) xs ≡ feed t xs
  fed t xs = feed-passes (nat_lt tdr m.pages) (OperandInvalid 1) t xs in_page

  abbrev head : (Td → Tree) → Tree
  head h = td_head_tree m.pages tdr Exclusive paused_ops h

  abbrev rest : Td → (Stated → Tree) → Tree
  rest td f = td_state_tree m.pages td.tdcs f

pub returns-in_err-td-clause-goes : goal.returns-in_err-td-clause-goes
returns-in_err-td-clause-goes c =
    let m = c.args.place.machine in
    let t = c.args.tdr in
    let in_page = rw c.from.ensures at c.in_ok-check.ensures in
    goes-stop m.pages (λ (f : Stated → Tree). td_asked m t f) c.args.told.now.left.now c.td_head.new.told.left.now c.from_residual-in_err-td.result c.in_err-td.field-0.0
    (exit c.from_residual-in_err-td.result c.in_err-td.field-0.0 _ c.from_residual-in_err-td.ensures.1 (λ y h. h))
    (λ f. behind-stop m.pages (argued m t in_page) (holds m t in_page) (head m t in_page) (λ (td : Td). rest m t in_page td f) c.args.told.now.left.now c.td_head.new.told.left.now c.in_err-td.field-0.0 c.in_err-td.ensures.goes)

pub returns-clause-goes : goal.returns-clause-goes
returns-clause-goes c =
    let m = c.args.place.machine in
    let t = c.args.tdr in
    let in_page = rw c.from.ensures at c.in_ok-check.ensures in
    goes-behind m.pages (argued m t in_page) (holds m t in_page) (head m t in_page) (rest m t in_page) c.args.told.now.left.now c.td_head.new.told.left.now c.td_state.new.told.left.now
    c.in_ok-td.td c.td_state.result c.in_ok-td.ensures.goes c.td_state.ensures.goes

pub returns-clause-feeds : goal.returns-clause-feeds
returns-clause-feeds c =
    let m = c.args.place.machine in
    let t = c.args.tdr in
    let in_page = rw c.from.ensures at c.in_ok-check.ensures in
    feeds-behind (argued m t in_page) (fed m t in_page) (head m t in_page) (rest m t in_page) c.args.told.now.left.now c.td_head.new.told.left.now c.td_state.new.told.left.now
    c.in_ok-td.td c.td_state.result c.in_ok-td.ensures.feeds c.td_state.ensures.feeds
