-- Places: which word a word is, before it has an address, and where the word of each lock stands.
use Rattle.std.specs.Prelude.{ℕ, ◌+◌, ◌^◌, ◌<◌, Bool, false, ◌==◌, ◌&&◌}
use Rattle.td_words.specs.declared.names.LockName.{LockName}
use Rattle.td_words.specs.declared.names.LockName.TheVariants as name
use Rattle.td_words.specs.declared.names.Mode.{Mode}
use Rattle.td_words.specs.declared.names.Mode.TheVariants.{Shared, Exclusive}
use Rattle.td_words.specs.declared.machines.Machine.{Machine}
use Rattle.td_words.specs.declared.places.TheConstants.{TDCS_OP_LOCK, TDCS_TREE_LOCK, TDCS_EPOCH_LOCK, TDCS_RTMR_LOCK, KEY_LOCK, KEY_FIRST}
use Rattle.td_words.specs.Address.{lock_at, pamt_at, word_at, key_at}

-- a page's lock word, its PAMT word, one of its 512 content words; or a word of the key table
pub data WordPlace : Type 0 where
  Lock : (page : ℕ) → WordPlace
  Pamt : (page : ℕ) → WordPlace
  Word : (page index : ℕ) → WordPlace
  Key : (number : ℕ) → WordPlace

-- a place of that machine
abbrev pub IsIn : Machine → WordPlace → Type 0
IsIn m (Lock p) = p < m.pages
IsIn m (Pamt p) = p < m.pages
IsIn m (Word p i) = (p < m.pages) × (i < 512)
IsIn m (Key k) = k < KEY_FIRST + m.hkids

-- its address in a machine of so many pages
abbrev pub address : ℕ → WordPlace → ℕ
address pages (Lock p) = lock_at p
address pages (Pamt p) = pamt_at p
address pages (Word p i) = word_at p i
address pages (Key k) = key_at pages k

abbrev pub same_place : WordPlace → WordPlace → Bool
same_place (Lock p) (Lock q) = p == q
same_place (Pamt p) (Pamt q) = p == q
same_place (Word p i) (Word q j) = p == q && i == j
same_place (Key k) (Key j) = k == j
same_place _ _ = false

-- where the lock word of that name stands. O, T, E and R stand in the TDCS page of their TD
abbrev pub lock_place : (tdcs : ℕ) → LockName → WordPlace
lock_place tdcs (name.Page p) = Lock p
lock_place tdcs name.Op = Word tdcs TDCS_OP_LOCK
lock_place tdcs name.Tree = Word tdcs TDCS_TREE_LOCK
lock_place tdcs name.Epoch = Word tdcs TDCS_EPOCH_LOCK
lock_place tdcs name.Rtmr = Word tdcs TDCS_RTMR_LOCK
lock_place tdcs name.Keys = Key KEY_LOCK

-- what a holder adds to a lock's word
abbrev pub weight_of : Mode → ℕ
weight_of Shared = 1
weight_of Exclusive = 2 ^ 63
