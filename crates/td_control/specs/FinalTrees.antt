-- The end of a TD's building as a decision over the words that it is told, and its changes.
use Rattle.std.specs.Prelude.{ℕ, ◌+◌, ◌==◌, nat_lt, Some, None, List, [], ◌∷◌}
use Rattle.sha2.specs.Sha512.{sha384}
use Rattle.td_words.specs.declared.names.OpState.TheVariants as op
use Rattle.td_words.specs.declared.names.VcpuState.TheVariants as vcpu
use Rattle.td_words.specs.declared.names.Mode.TheVariants.{Exclusive}
use Rattle.td_words.specs.declared.machines.Machine.{Machine}
use Rattle.td_words.specs.declared.places.TheConstants.{TDR_HKID, TDCS_OP, TDCS_MRTD, VP_STATE}
use Rattle.td_words.specs.declared.refusals.Status.TheVariants.{OperandInvalid, VcpuStateIncorrect}
use Rattle.td_words.specs.declared.replies.Value.TheVariants as value
use Rattle.td_words.specs.declared.replies.Reply.TheVariants.{Done}
use Rattle.td_words.specs.NameNumber.{op_number, vcpu_number}
use Rattle.td_words.specs.Place as place
use Rattle.flat_core.specs.Digests.{digest_word}
use Rattle.flat_core.specs.TdRows.{finalize}
use Rattle.word_rules.specs.Rules.{Whole}
use Rattle.leaf_engine.specs.declared.needs.Place.{Place}
use Rattle.leaf_engine.specs.Changes.{Hand, Change, Put, PutHash, Swap, changes_where}
use Rattle.leaf_engine.specs.Trees.{Tree, Load, needs, acts}
use Rattle.leaf_engine.specs.Means.{Task, OfCall}
use Rattle.leaf_parts.specs.Words.{is_hkid}
use Rattle.leaf_parts.specs.declared.vp_words.VpWord.{VpWord}
use Rattle.leaf_parts.specs.Vps.{vps_tree}
use Rattle.leaf_parts.specs.Heads.{td_head_tree}

-- the digest's word of that number, of what the hasher in hand has measured
abbrev pub word_in_hand : ℕ → Hand → ℕ
word_in_hand k None = 0
word_in_hand k (Some bytes) = digest_word (sha384 bytes) k

abbrev pub put_mrtd : (tdcs k : ℕ) → Change
put_mrtd tdcs k = PutHash (place.Word tdcs (TDCS_MRTD + k)) (word_in_hand k)

-- the hasher is taken out of its slot, which is the act; then its digest becomes MRTD, and the operation state is RUNNABLE
abbrev pub end_changes : (tdcs hkid : ℕ) → List Change
end_changes tdcs hkid =
    Swap hkid (λ hand. hand)
    ∷ put_mrtd tdcs 0
    ∷ put_mrtd tdcs 1
    ∷ put_mrtd tdcs 2
    ∷ put_mrtd tdcs 3
    ∷ put_mrtd tdcs 4
    ∷ put_mrtd tdcs 5
    ∷ Put (place.Word tdcs TDCS_OP) (op_number op.Runnable)
    ∷ []

abbrev pub final_changes : Machine → (tdcs hkid : ℕ) → List Change
final_changes m tdcs hkid = changes_where (is_hkid m hkid) (end_changes tdcs hkid)

-- behind the head: the HKID is told, and every virtual processor is READY
abbrev pub ready_vp : ℕ → VpWord
ready_vp tdcs = record { tdcs = tdcs; at = VP_STATE; word = vcpu_number vcpu.Ready }

abbrev pub ready_tree : (pages tdr tdcs : ℕ) → (ℕ → Tree) → Tree
ready_tree pages tdr tdcs further =
    Load Whole (place.Word tdr TDR_HKID) (λ hkid.
    vps_tree pages (ready_vp tdcs) (λ created. needs (created == 0) (VcpuStateIncorrect vcpu.Created) (further hkid)))

abbrev pub final_tree : Machine → ℕ → Tree
final_tree m tdr =
    needs (nat_lt tdr m.pages) (OperandInvalid 1)
    (td_head_tree m.pages tdr Exclusive (op.Initialized ∷ []) (λ td. ready_tree m.pages tdr td.tdcs (λ hkid. acts (Done value.Nothing) (final_changes m td.tdcs hkid))))

abbrev pub finalize_task : Place → ℕ → Task
finalize_task p tdr = record { place = p; tree = final_tree p.machine tdr; meaning = OfCall (finalize p.machine tdr) }
