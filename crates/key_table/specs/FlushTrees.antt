-- The end of a flush as a decision over the words that it is told.
use Rattle.std.specs.Prelude.{ℕ, Bool, false, ◌==◌, nat_lt, if◌then◌else◌, List, [], ◌∷◌}
use Rattle.td_words.specs.declared.names.LifeState.{LifeState}
use Rattle.td_words.specs.declared.names.LifeState.TheVariants as life
use Rattle.td_words.specs.declared.names.Mode.TheVariants.{Exclusive}
use Rattle.td_words.specs.declared.machines.Machine.{Machine}
use Rattle.td_words.specs.declared.places.TheConstants.{KEY_LOCK, TDR_HKID, TDR_TDCX_COUNT, TDR_TDCS, VP_ASSOCIATED}
use Rattle.td_words.specs.declared.refusals.Status.TheVariants.{OperandInvalid, FlushvpNotDone}
use Rattle.td_words.specs.declared.replies.Value.TheVariants as value
use Rattle.td_words.specs.declared.replies.Reply.TheVariants.{Done}
use Rattle.td_words.specs.Packing.{FlushedOf}
use Rattle.td_words.specs.Place as place
use Rattle.flat_core.specs.Processor.{OfKeys}
use Rattle.flat_core.specs.KeyRows.{end_flush}
use Rattle.word_rules.specs.Rules.{Whole}
use Rattle.leaf_engine.specs.declared.needs.Place.{Place}
use Rattle.leaf_engine.specs.Trees.{Tree, Lock, Load, needs, acts}
use Rattle.leaf_engine.specs.Means.{Task, OfCall}
use Rattle.leaf_parts.specs.Words.{page_told}
use Rattle.leaf_parts.specs.declared.vp_words.VpWord.{VpWord}
use Rattle.leaf_parts.specs.Vps.{vps_tree}
use Rattle.leaf_parts.specs.Heads.{tdr_head_tree}
use Rattle.key_table.specs.EndTrees.{end_changes}

-- so many virtual processors are associated
abbrev pub flush_counted : Machine → (t associated : ℕ) → Tree
flush_counted m t associated =
    needs (associated == 0) (FlushvpNotDone associated)
    (Lock OfKeys (place.Key KEY_LOCK) Exclusive
    (Load Whole (place.Word t TDR_HKID) (λ hkid. acts (Done value.Nothing) (end_changes m t hkid (FlushedOf t false) life.Blocked))))

-- a virtual processor that isn't associated
abbrev pub free_vp : ℕ → VpWord
free_vp tdcs = record { tdcs = tdcs; at = VP_ASSOCIATED; word = 0 }

-- before a TD has its two TDCX pages it has no virtual processor
abbrev pub flush_vps : Machine → (t : ℕ) → Bool → Tree
flush_vps m t has_tdcs =
    if has_tdcs
    then Load Whole (place.Word t TDR_TDCS) (λ tdcs. vps_tree m.pages (free_vp (page_told m.pages tdcs)) (flush_counted m t))
    else flush_counted m t 0

abbrev pub flush_rest : Machine → (t : ℕ) → Tree
flush_rest m t = Load Whole (place.Word t TDR_TDCX_COUNT) (λ count. flush_vps m t (count == 2))

-- MNG.VPFLUSHDONE
abbrev pub flushable : List LifeState
flushable = life.HkidAssigned ∷ life.KeysConfigured ∷ []

abbrev pub flush_tree : Machine → (t : ℕ) → Tree
flush_tree m t = needs (nat_lt t m.pages) (OperandInvalid 1) (tdr_head_tree t flushable (flush_rest m t))

abbrev pub flush_task : Place → ℕ → Task
flush_task p t = record { place = p; tree = flush_tree p.machine t; meaning = OfCall (end_flush p.machine t) }
