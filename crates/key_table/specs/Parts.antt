-- Parts that the meanings of these leaves share.
use Rattle.std.proofs.Common.{◌≡◌, ℕ, ◌+◌, ◌-◌, ◌*◌, ◌%◌, ◌<◌, true, false, ◌==◌, List, refl, arith}
use Rattle.std.specs.List.{list_any}
use Rattle.td_words.specs.declared.names.LifeState.{LifeState}
use Rattle.td_words.specs.declared.names.LifeState.TheVariants as life
use Rattle.td_words.specs.declared.machines.Machine.{Machine}
use Rattle.td_words.specs.NameNumber.{life_number}
use Rattle.td_words.specs.Packing.{Key, Unassigned, AssignedTo, FlushedOf, key_word}
use Rattle.td_words.specs.Place as place
use Rattle.flat_core.specs.Conditions.{is_written_back}
use Rattle.flat_core.proofs.Tests.{range_of, by_test}
use Rattle.word_rules.specs.Cells.{Shows}
use Rattle.leaf_engine.specs.Means.{Instant, IsHkid}
use Rattle.leaf_parts.specs.Words.{is_hkid}
use Rattle.leaf_parts.proofs.Keys.{hkid-in, key-apart, key-shown}
use Rattle.key_table.specs.Words.{key_number, is_marked}

-- numbers of key table words

pub key_inside : (m : Machine) (h : ℕ) → key_number m h < 3 + m.hkids
key_inside m h = by_test (is_hkid m h)
    (λ e. (let range = range_of h m.hkids e in rw e (omega arith)))
    (λ e. rw e (omega arith))

pub key_at : (m : Machine) (h : ℕ) → IsHkid m h → key_number m h ≡ 3 + (h - 1)
key_at m h i = rw (hkid-in m h i) refl

pub key_lock_apart : (m : Machine) (h : ℕ) → IsHkid m h → (key_number m h == 0) ≡ false
key_lock_apart m h i = rw (key_at m h i) (key-apart h 0 (omega arith))

-- the word of an HKID
pub key_shown : (m : Machine) (c : Instant) (h : ℕ) → Shows m c.memory.words c.memory.slots c.state → IsHkid m h → c.memory.words (place.Key (key_number m h)) ≡ key_word (c.state.world.key_table.keys h)
key_shown m c h sh i = rw (key_at m h i) (key-shown m c.memory.words c.memory.slots c.state h sh i)

pub marked_word : (k : Key) → is_marked (key_word k) ≡ is_written_back k
marked_word Unassigned = refl
marked_word (AssignedTo t) = (let low : (1 + 16 * t) % 16 ≡ 1 = omega arith in rw low refl)
marked_word (FlushedOf t true) = (let low : (2 + 4 + 16 * t) % 16 ≡ 6 = omega arith in rw low refl)
marked_word (FlushedOf t false) = (let low : (2 + 16 * t) % 16 ≡ 2 = omega arith in rw low refl)

-- a TD whose life state is one of these is alive
pub alive_among : (allowed : List LifeState) (s : LifeState) → list_any (λ a. life_number a == life_number life.Teardown) allowed ≡ false → list_any (λ a. life_number a == life_number s) allowed ≡ true → (life_number s == life_number life.Teardown) ≡ false
alive_among allowed life.HkidAssigned no_end among = refl
alive_among allowed life.KeysConfigured no_end among = refl
alive_among allowed life.Blocked no_end among = refl
alive_among allowed life.Teardown no_end among = cc
