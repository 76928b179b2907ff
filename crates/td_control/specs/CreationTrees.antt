-- The creation of a TD as a decision over the words that it is told.
use Rattle.std.specs.Prelude.{ℕ, ◌+◌, ◌-◌, nat_lt, List, [], ◌∷◌}
use Rattle.td_words.specs.declared.names.PageKind.TheVariants as kind
use Rattle.td_words.specs.declared.names.Mode.TheVariants.{Exclusive}
use Rattle.td_words.specs.declared.machines.Machine.{Machine}
use Rattle.td_words.specs.declared.places.TheConstants.{KEY_LOCK, KEY_FIRST, TDR_HKID}
use Rattle.td_words.specs.declared.refusals.Status.TheVariants.{OperandInvalid, PageMetadataIncorrect, HkidNotFree}
use Rattle.td_words.specs.declared.replies.Value.TheVariants as value
use Rattle.td_words.specs.declared.replies.Reply.TheVariants.{Done}
use Rattle.td_words.specs.Packing.{pamt_word, key_word, AssignedTo}
use Rattle.td_words.specs.Place.{WordPlace}
use Rattle.td_words.specs.Place as place
use Rattle.flat_core.specs.Processor.{OfPage, OfKeys}
use Rattle.flat_core.specs.TdRows.{create}
use Rattle.word_rules.specs.Rules.{Whole}
use Rattle.leaf_engine.specs.declared.needs.Place.{Place}
use Rattle.leaf_engine.specs.Changes.{Change, Put, Clear}
use Rattle.leaf_engine.specs.Trees.{Tree, Lock, Load, needs, acts}
use Rattle.leaf_engine.specs.Means.{Task, OfCall}
use Rattle.leaf_parts.specs.Words.{says_host, says_free, is_hkid}

-- the word of an HKID
abbrev pub key_place : ℕ → WordPlace
key_place h = place.Key (KEY_FIRST + (h - 1))

-- the HKID's word is the act; then the page is cleared, becomes the TDR, and gets the HKID
abbrev pub create_changes : ℕ → ℕ → List Change
create_changes tdr h =
    Put (key_place h) (key_word (AssignedTo tdr))
    ∷ Clear tdr
    ∷ Put (place.Pamt tdr) (pamt_word (record { kind = kind.Tdr; owner = tdr; epoch = 0 }))
    ∷ Put (place.Word tdr TDR_HKID) h
    ∷ []

-- behind the page: the HKID is free, under K
abbrev pub key_tree : ℕ → ℕ → Tree
key_tree tdr h =
    Lock OfKeys (place.Key KEY_LOCK) Exclusive
    (Load Whole (key_place h) (λ key.
    needs (says_free key) HkidNotFree
    (acts (Done value.Nothing) (create_changes tdr h))))

abbrev pub create_tree : Machine → ℕ → ℕ → Tree
create_tree m tdr h =
    needs (nat_lt tdr m.pages) (OperandInvalid 1)
    (needs (is_hkid m h) (OperandInvalid 2)
    (Lock (OfPage tdr) (place.Lock tdr) Exclusive
    (Load Whole (place.Pamt tdr) (λ pamt.
    needs (says_host pamt) (PageMetadataIncorrect tdr)
    (key_tree tdr h)))))

abbrev pub create_task : Place → ℕ → ℕ → Task
create_task p tdr h = record { place = p; tree = create_tree p.machine tdr h; meaning = OfCall (create p.machine tdr h) }
