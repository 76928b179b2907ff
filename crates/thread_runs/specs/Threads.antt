-- Logical processors of a script that ran in threads, and the run that this was.
use Rattle.std.specs.Prelude.{◌≡◌, ◌≢◌, ℕ, ◌<◌, ◌≤◌, ◌==◌, List, [], ◌∷◌, length, slice_index, slice_index_or}
use Rattle.td_words.specs.Limits.{IsMachine}
use Rattle.flat_core.specs.Opening.{Opening}
use Rattle.flat_core.specs.Event.{calls_of}
use Rattle.flat_core.specs.Run.{run}
use Rattle.step_core.specs.Words.{word_count}
use Rattle.step_core.specs.Items.{Table}
use Rattle.step_core.specs.declared.items.Taken.{Taken}
use Rattle.trace_table.specs.Benches.{bench_of}
use Rattle.trace_table.specs.Merges.{MergesTo}
use Rattle.leaf_engine.specs.OwnLists.{WordLp, first_lp, taken_in}
use Rattle.leaf_engine.specs.Merges.{Item, part, order, AreCodes}
use Rattle.merge_laws.specs.Merge.{Merge}
use Rattle.merge_laws.specs.Laws.{IsShownBy, IsWhere}
use Rattle.leaf_table.specs.Given.{given_in, given_of}
use Rattle.leaf_table.specs.Table.{code_in, leaf_table}
use Rattle.leaf_dispatch.specs.States.{seen_of, Moves}
use Rattle.leaf_dispatch.specs.declared.states.LpState.{LpState}
use Rattle.lp_threads.specs.declared.lanes.Lane.{Lane}
use Rattle.lp_threads.specs.Running.{HasRun}

-- Processor p of a script ran in a thread, from the first of its calls to their end, at a bench that had no item. The bench's
-- own list is then this one.
pub record RanInThread (o : Opening) (p : ℕ) (own : List Taken) (before after : Lane LpState) : Type 0 where
  pub place : before.processor.place ≡ record { machine = o.machine; lp = p }
  pub given : given_in before.processor.given ≡ given_of o
  pub codes : code_in before.processor.codes.now ≡ o.codes
  pub first : seen_of before.processor ≡ first_lp (calls_of o.calls p)
  pub no_item : (bench_of before.bench).pass.lists ≡ [] ∷ []
  pub run : HasRun (λ s. length s.lines.now == 0) Moves before after
  pub list : (bench_of after.bench).pass.lists ≡ own ∷ []

-- So did each processor. Its own list has this number among the lists that a table was closed with, and the others are
-- empty, as that of a bench which only made the processors' benches.
pub record RanInThreads (o : Opening) (lists : List (List Taken)) (number : ℕ → ℕ) (before after : ℕ → Lane LpState) : Type 0 where
  pub each : (p : ℕ) → p < length o.calls → RanInThread o p (slice_index_or lists (number p) []) (before p) (after p)
  pub apart : (p q : ℕ) → p < length o.calls → q < length o.calls → number p ≡ number q → p ≡ q
  pub nothing_else : (k : ℕ) → ((p : ℕ) → p < length o.calls → number p ≢ k) → slice_index_or lists k [] ≡ []

-- What processors did is a merge of their own lists, up to where they are now, and so a run of the flat machine under the
-- order of its events: that ends where each processor is, in a state that these words show. Each one's pieces in it have just
-- the items of its own list.
pub record IsOneRun (o : Opening) (lists : List (List Taken)) (number : ℕ → ℕ) (now : ℕ → WordLp) (words : List ℕ) : Type 0 where
  pub made : List Item
  pub table : Table
  pub theirs : (p : ℕ) → p < length o.calls → taken_in (part p made) ≡ slice_index_or lists (number p) []
  pub merge : Merge o (leaf_table o.machine (given_of o) o.codes) made now table
  pub words_are : (n : ℕ) → n < word_count o.machine → slice_index words n ≡ table.words n
  pub shown : IsShownBy o.machine table (run o (order made))
  pub lps : IsWhere o now (run o (order made))

-- So it is with each script of at most eight processors, on a machine and with lists of operations within the limits, where
-- the lists merge to the words that the table was closed with.
abbrev pub ThreadsAreRuns : Type 0
ThreadsAreRuns = (o : Opening) (lists : List (List Taken)) (words : List ℕ) (number : ℕ → ℕ) (before after : ℕ → Lane LpState) → IsMachine o.machine → length o.calls ≤ 8 → AreCodes o
    → RanInThreads o lists number before after → MergesTo o.machine lists words → IsOneRun o lists number (λ p. seen_of (after p).processor) words
