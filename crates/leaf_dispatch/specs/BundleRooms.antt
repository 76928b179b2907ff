-- How many bundles a processor's calls can still make at most, and of how many payload words in all.
use Rattle.std.specs.Prelude.{◌≡◌, ℕ, ◌+◌, ◌≤◌, List, [], ◌∷◌, length, Option, Some, None}
use Rattle.td_words.specs.declared.calls.Call.{Call}
use Rattle.flat_core.specs.World.{Made}
use Rattle.bundles.specs.Stores.{Stored}
use Rattle.leaf_engine.specs.Trees.{added}
use Rattle.leaf_engine.specs.Turns.{Standing}
use Rattle.leaf_table.specs.Ends.{call_makes}
use Rattle.leaf_dispatch.specs.NoteRooms.{run_room}

-- of one that makes a bundle of at most so many words, or none
abbrev pub count_of : Option ℕ → ℕ
count_of None = 0
count_of (Some n) = 1

abbrev pub words_of : Option ℕ → ℕ
words_of None = 0
words_of (Some n) = n

-- of these calls, counted by either
abbrev pub lines_make : (Option ℕ → ℕ) → List Call → ℕ
lines_make size [] = 0
lines_make size (c ∷ cs) = size (call_makes c) + lines_make size cs

-- the first of them makes none once it is answered
abbrev pub still_make : (Option ℕ → ℕ) → List Call → Option Standing → ℕ
still_make size [] run = 0
still_make size (c ∷ cs) run = run_room (size (call_makes c)) run + lines_make size cs

-- the payload words of bundles
abbrev pub payload_words : List Made → ℕ
payload_words [] = 0
payload_words (m ∷ ms) = length m.payload + payload_words ms

-- a store of bundles before and after these were added
pub record HasAdded (before : Stored) (ms : List Made) (after : Stored) : Type 0 where
  pub made : after.made ≡ added before.made ms
  pub room : before.room ≤ after.room + length ms
  pub word_room : before.word_room ≤ after.word_room + payload_words ms
