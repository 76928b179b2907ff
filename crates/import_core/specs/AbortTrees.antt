-- An import that is given up, as a decision over the words that it is told, and its token.
use Rattle.std.specs.Prelude.{ℕ, nat_lt, [], ◌∷◌}
use Rattle.td_words.specs.declared.names.OpState.TheVariants as op
use Rattle.td_words.specs.declared.machines.Machine.{Machine}
use Rattle.td_words.specs.declared.refusals.Status.TheVariants.{OperandInvalid}
use Rattle.td_words.specs.declared.replies.Reply.TheVariants.{Done}
use Rattle.td_words.specs.declared.replies.Value.TheVariants as value
use Rattle.flat_core.specs.World.{ClearHeader, Made}
use Rattle.flat_core.specs.Inputs.{no_header}
use Rattle.flat_core.specs.ImportRows.{given_up_ops, abort_import}
use Rattle.leaf_engine.specs.declared.needs.Place.{Place}
use Rattle.leaf_engine.specs.Trees.{Tree, End, only, needs}
use Rattle.leaf_engine.specs.Means.{Task, OfCall}
use Rattle.stream_parts.specs.Rooms.{session_tree}
use Rattle.stream_parts.specs.AloneTrees.{td_alone_tree, op_changes}
use Rattle.import_core.specs.declared.aborts.AbortWords.{AbortWords}

abbrev pub abort_words_tree : Machine → (tdr : ℕ) → (AbortWords → Tree) → Tree
abort_words_tree m tdr further =
    needs (nat_lt tdr m.pages) (OperandInvalid 1)
    (td_alone_tree m.pages tdr given_up_ops (λ d. session_tree d (λ session. further (record { tdcs = d; session = session }))))

-- its token: on no stream, with nothing but a header
abbrev pub abort_token : (session : ℕ) → ClearHeader
abort_token session = record no_header { size = 64; version = 1; kind = 6; session = session }

abbrev pub abort_made : (slot session : ℕ) → Made
abort_made slot session = record { slot = slot; header = abort_token session; payload = [] }

abbrev pub abort_end : (slot : ℕ) → AbortWords → Tree
abort_end slot x = End (record (only (Done value.Nothing)) { bundles = abort_made slot x.session ∷ [] }) [] (op_changes op.FailedImport x.tdcs)

abbrev pub import_abort_tree : Machine → (tdr slot : ℕ) → Tree
import_abort_tree m tdr slot = abort_words_tree m tdr (abort_end slot)

abbrev pub import_abort_task : Place → (tdr slot : ℕ) → Task
import_abort_task p tdr slot = record { place = p; tree = import_abort_tree p.machine tdr slot; meaning = OfCall (abort_import p.machine tdr slot) }
