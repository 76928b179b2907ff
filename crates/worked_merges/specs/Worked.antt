-- Worked merges, which compute: two processors share a page, and word steps of one stand inside a turn of the other's.
use Rattle.std.specs.Prelude.{◌≡◌, ℕ, zero, suc, ◌<◌, List, [], ◌∷◌, ◌++◌, length, None}
use Rattle.td_words.specs.Address.{lock_at, pamt_at, word_at}
use Rattle.td_words.specs.declared.calls.Call.TheVariants.{HostRead, HostWrite}
use Rattle.td_words.specs.declared.replies.Value.TheVariants.{Number}
use Rattle.td_words.specs.declared.replies.Reply.{Reply}
use Rattle.td_words.specs.declared.replies.Reply.TheVariants.{Done}
use Rattle.flat_core.specs.Opening.{Opening}
use Rattle.flat_core.specs.Run.{run}
use Rattle.flat_core.specs.Worked.{plain_opening, replies_of, success}
use Rattle.step_core.specs.declared.steps.WordStep.{WordStep}
use Rattle.step_core.specs.declared.steps.WordStep.TheVariants.{Load, Store, Add, Sub}
use Rattle.step_core.specs.declared.items.Taken.TheVariants.{Stepped}
use Rattle.step_core.specs.Items.{Table}
use Rattle.leaf_engine.specs.Besides.{nothing_beside}
use Rattle.leaf_engine.specs.OwnLists.{Unmarked, Marked, WordLp, first_lp}
use Rattle.leaf_engine.specs.Merges.{Item, order, no_table}
use Rattle.merge_laws.specs.Merge.{table_after, Merge}
use Rattle.merge_laws.specs.Laws.{IsShownBy, IsWhere}
use Rattle.leaf_table.specs.Given.{given_of}
use Rattle.leaf_table.specs.Table.{leaf_table}

-- a machine of eight pages, where processor 0 writes a word of page 1, and processor 1 reads it
abbrev pub writer_and_reader : Opening
writer_and_reader = plain_opening 2 8 1 ((HostWrite 1 0 7 ∷ []) ∷ (HostRead 1 0 ∷ []) ∷ [])

-- the addresses of the page's lock word, of its PAMT word, and of that word
abbrev pub lock_word : ℕ
lock_word = lock_at 1

abbrev pub pamt_word : ℕ
pamt_word = pamt_at 1

abbrev pub content_word : ℕ
content_word = word_at 1 0

-- a word step of processor p with its answer, and one that is an event
abbrev pub step_by : ℕ → WordStep → ℕ → Item
step_by p s answer = record { lp = p; piece = Unmarked (Stepped s answer) }

abbrev pub event_by : ℕ → WordStep → ℕ → Item
event_by p s answer = record { lp = p; piece = Marked (Stepped s answer) }

-- both processors try the page's lock, and begin their next turns with a load of its PAMT word
abbrev pub both_begin : List Item
both_begin = event_by 0 (Add lock_word 1) 0 ∷ event_by 1 (Add lock_word 1) 1 ∷ step_by 0 (Load pamt_word) 0 ∷ step_by 1 (Load pamt_word) 0 ∷ []

-- and give the lock back
abbrev pub both_end : List Item
both_end = event_by 0 (Sub lock_word 1) 2 ∷ event_by 1 (Sub lock_word 1) 1 ∷ []

-- In between one stores the word and the other loads it. Where it is loaded behind the store, each processor has made a step
-- inside the other's turn; where before it, a whole turn of the reader stands inside the writer's.
abbrev pub load_behind_store : List Item
load_behind_store = both_begin ++ event_by 0 (Store content_word 7) 0 ∷ event_by 1 (Load content_word) 7 ∷ both_end

abbrev pub load_before_store : List Item
load_before_store = both_begin ++ event_by 1 (Load content_word) 0 ∷ event_by 0 (Store content_word 7) 0 ∷ both_end

-- their events, by processor
abbrev pub order_behind : List ℕ
order_behind = 0 ∷ 1 ∷ 0 ∷ 1 ∷ 0 ∷ 1 ∷ []

abbrev pub order_before : List ℕ
order_before = 0 ∷ 1 ∷ 1 ∷ 0 ∷ 0 ∷ 1 ∷ []

-- what items leave of a table
abbrev pub table_left : Table → List Item → Table
table_left t [] = t
table_left t (i ∷ is) = table_left (table_after t i.piece) is

-- a processor whose one line was answered so
abbrev pub done_with : Reply → WordLp
done_with r = record { lines = []; run = None; guest = None; replies = r ∷ []; beside = nothing_beside }

-- where the processors end once that word was read
abbrev pub ends_reading : (word : ℕ) → ℕ → WordLp
ends_reading word zero = done_with success
ends_reading word (suc zero) = done_with (Done (Number word))
ends_reading word (suc (suc p)) = first_lp []

-- These items are a merge of the processors' own lists up to the end of each, their events have this order, and the flat
-- machine's run under it is what the words show, and where the processors are.
pub record RunsAs (o : Opening) (is : List Item) (now : ℕ → WordLp) (schedule : List ℕ) : Type 0 where
  pub merge : Merge o (leaf_table o.machine (given_of o) o.codes) is now (table_left no_table is)
  pub ended : (p : ℕ) → p < length o.calls → (now p).lines ≡ []
  pub order_is : order is ≡ schedule
  pub shown : IsShownBy o.machine (table_left no_table is) (run o schedule)
  pub stands : IsWhere o now (run o schedule)

pub record Examples : Type 0 where
  pub behind : RunsAs writer_and_reader load_behind_store (ends_reading 7) order_behind
  pub behind_0 : replies_of (run writer_and_reader order_behind) 0 ≡ success ∷ []
  pub behind_1 : replies_of (run writer_and_reader order_behind) 1 ≡ Done (Number 7) ∷ []
  pub before : RunsAs writer_and_reader load_before_store (ends_reading 0) order_before
  pub before_0 : replies_of (run writer_and_reader order_before) 0 ≡ success ∷ []
  pub before_1 : replies_of (run writer_and_reader order_before) 1 ≡ Done (Number 0) ∷ []
  -- both leave the word stored, and the lock word as it was
  pub word_behind : (table_left no_table load_behind_store).words content_word ≡ 7
  pub word_before : (table_left no_table load_before_store).words content_word ≡ 7
  pub lock_behind : (table_left no_table load_behind_store).words lock_word ≡ 0
  pub lock_before : (table_left no_table load_before_store).words lock_word ≡ 0
