-- The end of a TD's life as decisions over the words that they are told.
use Rattle.std.specs.Prelude.{ℕ, nat_lt, List, [], ◌∷◌}
use Rattle.td_words.specs.declared.names.LifeState.{LifeState}
use Rattle.td_words.specs.declared.names.LifeState.TheVariants as life
use Rattle.td_words.specs.declared.names.Mode.TheVariants.{Exclusive}
use Rattle.td_words.specs.declared.machines.Machine.{Machine}
use Rattle.td_words.specs.declared.places.TheConstants.{KEY_LOCK, TDR_LIFE, TDR_HKID}
use Rattle.td_words.specs.declared.refusals.Status.TheVariants.{OperandInvalid, CacheWbNotDone}
use Rattle.td_words.specs.declared.replies.Value.TheVariants as value
use Rattle.td_words.specs.declared.replies.Reply.TheVariants.{Done}
use Rattle.td_words.specs.NameNumber.{life_number}
use Rattle.td_words.specs.Packing.{Key, Unassigned, key_word}
use Rattle.td_words.specs.Place as place
use Rattle.flat_core.specs.Processor.{OfKeys}
use Rattle.flat_core.specs.KeyRows.{free_hkid}
use Rattle.word_rules.specs.Rules.{Whole}
use Rattle.leaf_engine.specs.declared.needs.Place.{Place}
use Rattle.leaf_engine.specs.Changes.{Change, Put}
use Rattle.leaf_engine.specs.Trees.{Tree, Lock, Load, needs, acts}
use Rattle.leaf_engine.specs.Means.{Task, OfCall}
use Rattle.leaf_parts.specs.Heads.{tdr_head_tree}
use Rattle.key_table.specs.Words.{key_number, is_marked}

-- the word of the TD's HKID is the act; then its life state follows
abbrev pub end_changes : Machine → (t hkid : ℕ) → Key → LifeState → List Change
end_changes m t hkid key life = Put (place.Key (key_number m hkid)) (key_word key) ∷ Put (place.Word t TDR_LIFE) (life_number life) ∷ []

-- MNG.KEY.FREEID
abbrev pub free_key : Machine → (t hkid : ℕ) → Tree
free_key m t hkid =
    Load Whole (place.Key (key_number m hkid)) (λ key.
    needs (is_marked key) CacheWbNotDone
    (acts (Done value.Nothing) (end_changes m t hkid Unassigned life.Teardown)))

abbrev pub free_rest : Machine → ℕ → Tree
free_rest m t = Lock OfKeys (place.Key KEY_LOCK) Exclusive (Load Whole (place.Word t TDR_HKID) (free_key m t))

abbrev pub free_tree : Machine → ℕ → Tree
free_tree m t = needs (nat_lt t m.pages) (OperandInvalid 1) (tdr_head_tree t (life.Blocked ∷ []) (free_rest m t))

abbrev pub free_task : Place → ℕ → Task
free_task p t = record { place = p; tree = free_tree p.machine t; meaning = OfCall (free_hkid p.machine t) }
