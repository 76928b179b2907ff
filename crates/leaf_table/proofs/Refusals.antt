-- A leaf whose call takes a bundle, and that was given none, is refused before it tries a lock.
use Rattle.std.proofs.Common.{◌≡◌, ◌⊎◌, ℕ, Bool, true, false, List, [], ◌∷◌, Option, Some, None, is_some, refl, inl, inr}
use Rattle.std.specs.Prelude.{nat_lt}
use Rattle.td_words.specs.declared.refusals.Status.{Status}
use Rattle.td_words.specs.declared.refusals.Status.TheVariants.{OperandInvalid}
use Rattle.td_words.specs.declared.replies.Reply.{Reply}
use Rattle.td_words.specs.declared.replies.Reply.TheVariants.{Refused}
use Rattle.flat_core.specs.Opening.{Incoming}
use Rattle.flat_core.specs.Inputs.{input_in}
use Rattle.leaf_engine.specs.Trees.{Tree, Test, End, only, done, settle}
use Rattle.leaf_parts.specs.Arguments.{checked, two_pages}
use Rattle.import_parts.specs.InputTrees.{input_tree}
use Rattle.import_core.specs.TokenTrees.{import_token_task}
use Rattle.import_core.specs.TokenAbortTrees.{abort_by_token_task}
use Rattle.import_pages.specs.PageImportTrees.{page_import_arguments, page_import_tree, page_import_task}
use Rattle.import_states.specs.BeginImportTrees.{import_immutable_task}
use Rattle.import_states.specs.TdImportTrees.{import_td_task}
use Rattle.import_states.specs.VpImportTrees.{import_vp_task}
use Rattle.leaf_table.specs.BundlePlans.{plan_input, bundle_plan_task}
use Rattle.leaf_table.specs.Leaves.{leaf_seen}
use Rattle.leaf_table.specs.Origins.{HasBundle}
use Rattle.leaf_table.specs.declared.bundle_plans.BundlePlan.{BundlePlan}
use Rattle.leaf_table.specs.declared.bundle_plans.BundlePlan.TheVariants as plan
use Rattle.leaf_table.specs.declared.leaves.AnyLeaf.{AnyLeaf}
use Rattle.leaf_table.specs.declared.leaves.AnyLeaf.TheVariants as leaf

abbrev pub Refuses : Tree → Type 0
Refuses t = (r : Reply) × (t ≡ End (only r) [] [])

test-refuses : (b : Bool) (r : Reply) (t : Tree) → Refuses (settle t) → Refuses (settle (Test b r t))
test-refuses true r t h = h
test-refuses false r t h = (r, refl)

-- behind the arguments, whatever would come behind the bundle
none-refuses : (cs : List (Bool × Status)) (slot : ℕ) (kinds : List ℕ) (further : Tree) → Refuses (settle (checked cs (input_tree (input_in None) slot kinds further)))
none-refuses [] slot kinds further = (_, refl)
none-refuses (c ∷ cs) slot kinds further = test-refuses c.0 (Refused c.1) (checked cs (input_tree (input_in None) slot kinds further)) (none-refuses cs slot kinds further)

has-or-refuses : (b : Option Incoming) (tree : Option Incoming → Tree) → Refuses (settle (tree None)) → (is_some b ≡ true) ⊎ Refuses (settle (tree b))
has-or-refuses (Some x) tree h = inl refl
has-or-refuses None tree h = inr h

plan-refuses : (l : BundlePlan) → (is_some (plan_input l) ≡ true) ⊎ Refuses (settle (bundle_plan_task l).tree)
plan-refuses (plan.ImportToken l) = has-or-refuses l.input (λ b. (import_token_task l.place b l.tdr l.slot).tree) (none-refuses ((nat_lt l.tdr l.place.machine.pages, OperandInvalid 1) ∷ []) l.slot [] (done [] []))
plan-refuses (plan.AbortByToken l) = has-or-refuses l.input (λ b. (abort_by_token_task l.place b l.tdr l.slot).tree) (none-refuses ((nat_lt l.tdr l.place.machine.pages, OperandInvalid 1) ∷ []) l.slot [] (done [] []))
plan-refuses (plan.ImportImmutable l) = has-or-refuses l.input (λ b. (import_immutable_task l.place b l.tdr l.slot).tree) (none-refuses ((nat_lt l.tdr l.place.machine.pages, OperandInvalid 1) ∷ []) l.slot [] (done [] []))
plan-refuses (plan.ImportVp l) = has-or-refuses l.input (λ b. (import_vp_task l.place b l.tdr l.vp l.slot).tree) (none-refuses (two_pages l.place.machine l.tdr l.vp) l.slot [] (done [] []))

pub leaf-refuses : (l : AnyLeaf) → HasBundle l ⊎ Refuses (settle (leaf_seen l).task.tree)
unfolding page_import_tree
leaf-refuses (leaf.ByBundle l) = plan-refuses l.plan
leaf-refuses (leaf.ImportTd l) = has-or-refuses l.input (λ b. (import_td_task l.place b l.tdr l.slot).tree) (none-refuses ((nat_lt l.tdr l.place.machine.pages, OperandInvalid 1) ∷ []) l.slot [] (done [] []))
leaf-refuses (leaf.PageImport l) = has-or-refuses l.input (λ b. (page_import_task l.place b l.tdr l.slot l.page None).tree) (none-refuses (page_import_arguments l.place.machine l.tdr l.page None) l.slot [] (done [] []))
leaf-refuses (leaf.ByPlan l) = inl refl
leaf-refuses (leaf.Extend l) = inl refl
leaf-refuses (leaf.SeptRemove l) = inl refl
leaf-refuses (leaf.StateTd l) = inl refl
leaf-refuses (leaf.PageExport l) = inl refl
leaf-refuses (leaf.Report l) = inl refl
