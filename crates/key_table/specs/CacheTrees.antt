-- The write-back of the caches as a decision over the words that it is told.
use Rattle.std.specs.Prelude.{ℕ, zero, suc, List, [], ◌∷◌, ◌++◌}
use Rattle.td_words.specs.declared.names.Mode.TheVariants.{Exclusive}
use Rattle.td_words.specs.declared.machines.Machine.{Machine}
use Rattle.td_words.specs.declared.places.TheConstants.{KEY_LOCK, KEY_FIRST}
use Rattle.td_words.specs.declared.replies.Value.TheVariants as value
use Rattle.td_words.specs.declared.replies.Reply.TheVariants.{Done}
use Rattle.td_words.specs.Place as place
use Rattle.flat_core.specs.Processor.{OfKeys}
use Rattle.flat_core.specs.KeyRows.{write_caches_back}
use Rattle.word_rules.specs.Rules.{Whole}
use Rattle.leaf_engine.specs.declared.needs.Place.{Place}
use Rattle.leaf_engine.specs.Changes.{Change, Put}
use Rattle.leaf_engine.specs.Trees.{Tree, Lock, Load, acts}
use Rattle.leaf_engine.specs.Means.{Task, OfCall}
use Rattle.key_table.specs.Words.{marked}

-- the words of HKIDs are loaded, so many from that number on, and then all are stored
abbrev pub mark_keys : (number left : ℕ) → List Change → Tree
mark_keys number zero changes = acts (Done value.Nothing) changes
mark_keys number (suc left) changes = Load Whole (place.Key number) (λ key. mark_keys (suc number) left (changes ++ Put (place.Key number) (marked key) ∷ []))

-- the words of HKIDs, so many from that number on, each stored with a flushed one marked
abbrev pub marks : (number left : ℕ) → List ℕ → List Change
marks number (suc left) (key ∷ keys) = Put (place.Key number) (marked key) ∷ marks (suc number) left keys
marks number _ _ = []

-- behind the answer of K
abbrev pub cache_changes : Machine → List ℕ → List Change
cache_changes m (lock ∷ keys) = marks KEY_FIRST m.hkids keys
cache_changes m [] = []

-- PHYMEM.CACHE.WB
abbrev pub cache_tree : Machine → Tree
cache_tree m = Lock OfKeys (place.Key KEY_LOCK) Exclusive (mark_keys KEY_FIRST m.hkids [])

abbrev pub cache_task : Place → Task
cache_task p = record { place = p; tree = cache_tree p.machine; meaning = OfCall write_caches_back }
