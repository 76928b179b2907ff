-- The reading of a TD's fields as a decision over the words that it is told.
use Rattle.std.specs.Prelude.{ℕ, ◌+◌, nat_lt, List, [], ◌∷◌}
use Rattle.td_words.specs.declared.names.Mode.TheVariants.{Shared}
use Rattle.td_words.specs.declared.names.ReadField.{ReadField}
use Rattle.td_words.specs.declared.names.ReadField.TheVariants as field
use Rattle.td_words.specs.declared.machines.Machine.{Machine}
use Rattle.td_words.specs.declared.places.TheConstants.{TDR_LIFE, TDCS_EPOCH_LOCK, TDCS_EPOCH, TDCS_MRTD}
use Rattle.td_words.specs.declared.refusals.Status.TheVariants.{OperandInvalid}
use Rattle.td_words.specs.declared.replies.Value.{Value}
use Rattle.td_words.specs.declared.replies.Value.TheVariants as value
use Rattle.td_words.specs.declared.replies.Reply.TheVariants.{Done}
use Rattle.td_words.specs.Place as place
use Rattle.flat_core.specs.Processor.{OfEpoch}
use Rattle.flat_core.specs.Digests.{digest_bytes}
use Rattle.flat_core.specs.Conditions.{later_ops, begun_ops, all_ops}
use Rattle.flat_core.specs.TdRows.{read_td}
use Rattle.word_rules.specs.Rules.{Whole}
use Rattle.leaf_engine.specs.declared.needs.Place.{Place}
use Rattle.leaf_engine.specs.Trees.{Tree, Lock, Load, needs, answers}
use Rattle.leaf_engine.specs.Means.{Task, OfCall}
use Rattle.leaf_parts.specs.Words.{life_told}
use Rattle.leaf_parts.specs.Heads.{root_tree, td_head_tree}

-- each field behind the conditions of its reading
abbrev pub life_tree : ℕ → (Value → Tree) → Tree
life_tree t further = root_tree t Shared (Load Whole (place.Word t TDR_LIFE) (λ life. further (value.Life (life_told life))))

abbrev pub op_tree : (pages t : ℕ) → (Value → Tree) → Tree
op_tree pages t further = td_head_tree pages t Shared all_ops (λ td. further (value.Op td.op))

abbrev pub epoch_word_tree : (t tdcs : ℕ) → (Value → Tree) → Tree
epoch_word_tree t tdcs further =
    Lock (OfEpoch t) (place.Word tdcs TDCS_EPOCH_LOCK) Shared (Load Whole (place.Word tdcs TDCS_EPOCH) (λ epoch. further (value.Number epoch)))

abbrev pub epoch_tree : (pages t : ℕ) → (Value → Tree) → Tree
epoch_tree pages t further = td_head_tree pages t Shared begun_ops (λ td. epoch_word_tree t td.tdcs further)

-- the six words of MRTD
abbrev pub words_tree : ℕ → (List ℕ → Tree) → Tree
words_tree tdcs further =
    Load Whole (place.Word tdcs TDCS_MRTD) (λ a.
    Load Whole (place.Word tdcs (TDCS_MRTD + 1)) (λ b.
    Load Whole (place.Word tdcs (TDCS_MRTD + 2)) (λ c.
    Load Whole (place.Word tdcs (TDCS_MRTD + 3)) (λ d.
    Load Whole (place.Word tdcs (TDCS_MRTD + 4)) (λ e.
    Load Whole (place.Word tdcs (TDCS_MRTD + 5)) (λ f. further (a ∷ b ∷ c ∷ d ∷ e ∷ f ∷ [])))))))

abbrev pub mrtd_tree : (pages t : ℕ) → (Value → Tree) → Tree
mrtd_tree pages t further = td_head_tree pages t Shared later_ops (λ td. words_tree td.tdcs (λ words. further (value.Digest (digest_bytes words))))

abbrev pub value_tree : (pages t : ℕ) → ReadField → (Value → Tree) → Tree
value_tree pages t field.Life further = life_tree t further
value_tree pages t field.Op further = op_tree pages t further
value_tree pages t field.Epoch further = epoch_tree pages t further
value_tree pages t field.Mrtd further = mrtd_tree pages t further

-- the last load is the act, or what the locks keep until then
abbrev pub read_tree : Machine → ℕ → ReadField → Tree
read_tree m t field = needs (nat_lt t m.pages) (OperandInvalid 1) (value_tree m.pages t field (λ value. answers (Done value)))

abbrev pub read_task : Place → ℕ → ReadField → Task
read_task p t field = record { place = p; tree = read_tree p.machine t field; meaning = OfCall (read_td p.machine t field) }
