-- What a leaf changes: words by their places, and the hashers in the slots of HKIDs.
use Rattle.std.specs.Prelude.{ℕ, ◌+◌, ◌%◌, ◌^◌, Bool, true, false, ◌==◌, if◌then◌else◌, Option, List, [], ◌∷◌}
use Rattle.td_words.specs.Place.{WordPlace, Lock, Pamt, Word, Key}
use Rattle.lock_words.specs.LockWords.{put_word}

-- the hasher in a leaf's hand, or in a slot, as the bytes that it has measured
abbrev pub Hand : Type 0
Hand = Option (List ℕ)

pub record Memory : Type 0 where
  pub words : WordPlace → ℕ
  pub slots : ℕ → Hand  -- by HKID
  pub hand : Hand

-- a store; one whose word depends on the hasher in hand; an addition; a page of zeros; a copy of a page; and an
-- exchange of the hasher in a slot with what is made of the one in hand
pub data Change : Type 0 where
  Put : (at : WordPlace) (word : ℕ) → Change
  PutHash : (at : WordPlace) (word : Hand → ℕ) → Change
  Raise : (at : WordPlace) (by : ℕ) → Change
  Clear : (page : ℕ) → Change
  Copy : (from to : ℕ) → Change
  Swap : (hkid : ℕ) (made : Hand → Hand) → Change

abbrev pub put_slot : (ℕ → Hand) → ℕ → Hand → ℕ → Hand
put_slot slots h x k = if k == h then x else slots k

-- a page's content words replaced by these
abbrev pub put_page : (WordPlace → ℕ) → ℕ → (ℕ → ℕ) → WordPlace → ℕ
put_page words p xs (Lock q) = words (Lock q)
put_page words p xs (Pamt q) = words (Pamt q)
put_page words p xs (Word q i) = if q == p then xs i else words (Word q i)
put_page words p xs (Key k) = words (Key k)

-- changes that are made where a test holds, and none where it doesn't
abbrev pub changes_where : Bool → List Change → List Change
changes_where b cs = if b then cs else []

-- what a change makes of memory
abbrev pub changed : Change → Memory → Memory
changed (Put q x) m = record m { words = put_word m.words q x }
changed (PutHash q x) m = record m { words = put_word m.words q (x m.hand) }
changed (Raise q more) m = record m { words = put_word m.words q ((m.words q + more) % 2 ^ 64) }
changed (Clear p) m = record m { words = put_page m.words p (λ i. 0) }
changed (Copy p q) m = record m { words = put_page m.words q (λ i. m.words (Word p i)) }
changed (Swap h made) m = record { words = m.words; slots = put_slot m.slots h (made m.hand); hand = m.slots h }

abbrev pub changed_all : List Change → Memory → Memory
changed_all [] m = m
changed_all (c ∷ cs) m = changed_all cs (changed c m)

-- no hasher is used
abbrev pub is_plain : Change → Bool
is_plain (PutHash q x) = false
is_plain (Swap h made) = false
is_plain _ = true
