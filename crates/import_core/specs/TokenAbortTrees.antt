-- An export that ends by the destination's token, as a decision over the words that it is told.
use Rattle.std.specs.Prelude.{ℕ, Option, [], ◌∷◌}
use Rattle.td_words.specs.declared.names.OpState.TheVariants as op
use Rattle.td_words.specs.declared.machines.Machine.{Machine}
use Rattle.flat_core.specs.World.{ClearHeader}
use Rattle.flat_core.specs.Opening.{Incoming}
use Rattle.flat_core.specs.Inputs.{Input, input_in}
use Rattle.flat_core.specs.ImportRows.{sent_ops, abort_by_token}
use Rattle.leaf_engine.specs.declared.needs.Place.{Place}
use Rattle.leaf_engine.specs.Trees.{Tree, done}
use Rattle.leaf_engine.specs.Means.{Task, OfCall}
use Rattle.stream_parts.specs.AloneTrees.{op_changes}
use Rattle.import_parts.specs.InputTrees.{input_alone_tree, session_same_tree, due_tree, tag_tree}

-- its header is of the TD's session and under counter 0, and its tag is right
abbrev pub given_up_tree : (tdcs : ℕ) → ClearHeader → Input → Tree → Tree
given_up_tree tdcs h x further = session_same_tree tdcs h (due_tree h 0 (tag_tree x further))

abbrev pub abort_by_token_tree : Machine → Option Incoming → (tdr slot : ℕ) → Tree
abort_by_token_tree m b tdr slot =
    let x = input_in b in
    input_alone_tree m.pages x tdr slot (6 ∷ []) sent_ops (λ d. given_up_tree d x.header x (done [] (op_changes op.Runnable d)))

abbrev pub abort_by_token_task : Place → Option Incoming → (tdr slot : ℕ) → Task
abort_by_token_task p b tdr slot = record { place = p; tree = abort_by_token_tree p.machine b tdr slot; meaning = OfCall (abort_by_token p.machine b tdr slot) }
