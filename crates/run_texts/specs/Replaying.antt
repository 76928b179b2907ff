-- Where the logical processors of a script are, over words, while its run is replayed.
use Rattle.std.specs.Prelude.{◌≡◌, ℕ, zero, suc, ◌+◌, ◌<◌, ◌≤◌, true, List, [], ◌∷◌, ◌++◌, length, map, Option, Some, None, slice_index}
use Rattle.std.specs.List.{concat}
use Rattle.std.specs.List.Sorted.{IsPermutation}
use Rattle.td_words.specs.Seen.{CodeSeen}
use Rattle.td_words.specs.declared.machines.Machine.{Machine}
use Rattle.td_words.specs.declared.calls.Call.{Call}
use Rattle.flat_core.specs.Opening.{Opening}
use Rattle.flat_core.specs.Event.{State, start, calls_of}
use Rattle.flat_core.specs.Run.{play, run, to_the_end, bundles_in, told_in}
use Rattle.flat_core.specs.Bounds.{RunsEnd}
use Rattle.flat_core.specs.Laws.{OthersStay, AreMerged}
use Rattle.flat_core.specs.HostText.{host_text}
use Rattle.flat_core.specs.GuestText.{note_text, guest_text}
use Rattle.flat_bundles.specs.Bundles.{BundlesAreOfLines}
use Rattle.flat_bundles.specs.Ended.{own_of, ended_bundles}
use Rattle.bundle_texts.specs.Ordered.{FitContainer}
use Rattle.report_text.specs.Lines.{reply_lines}
use Rattle.step_core.specs.Words.{word_count}
use Rattle.step_core.specs.Items.{Table, PlaysTo}
use Rattle.step_core.specs.declared.items.Taken.{Taken}
use Rattle.atomic_table.specs.Seated.{TableId}
use Rattle.trace_table.specs.Merges.{no_table}
use Rattle.trace_table.specs.Benches.{BenchSeen}
use Rattle.leaf_engine.specs.OwnLists.{TurnsInPieces, WordLp, first_lp}
use Rattle.leaf_engine.specs.Merges.{Item, order}
use Rattle.leaf_engine.specs.Following.{ProcessorsFollow}
use Rattle.merge_laws.specs.Merge.{Merge}
use Rattle.merge_laws.specs.Laws.{MergesAreRuns}
use Rattle.leaf_table.specs.Given.{Given, given_in, given_of}
use Rattle.leaf_table.specs.Table.{code_in, leaf_table}
use Rattle.leaf_table.specs.Laws.{CallsHaveLeaves}
use Rattle.leaf_dispatch.specs.Ended.{ended_in}
use Rattle.leaf_dispatch.specs.States.{seen_of}
use Rattle.leaf_dispatch.specs.declared.states.LpState.{LpState}
use Rattle.run_texts.specs.declared.replay.Texts.{Texts}
use Rattle.run_texts.specs.Sealing.{bundles_seen}

-- these are a machine's processors from number n on, with the opening's secret words, bundles and lists of operations
abbrev pub AreNumbered : Opening → ℕ → List LpState → Type 0
AreNumbered o n [] = Unit {0}
AreNumbered o n (s ∷ ss) = (s.place ≡ record { machine = o.machine; lp = n }) × (given_in s.given ≡ given_of o) × (code_in s.codes.now ≡ o.codes) × AreNumbered o (suc n) ss

-- and each is at the first of its calls
abbrev pub AreFirst : Machine → Given → List CodeSeen → ℕ → List LpState → List (List Call) → Type 0
AreFirst m given codes n [] [] = Unit {0}
AreFirst m given codes n [] (cs ∷ css) = ⊥
AreFirst m given codes n (s ∷ ss) [] = ⊥
AreFirst m given codes n (s ∷ ss) (cs ∷ css) =
    (s.place ≡ record { machine = m; lp = n }) × (given_in s.given ≡ given) × (s.codes.now ≡ codes) × (seen_of s ≡ first_lp cs) × AreFirst m given codes (suc n) ss css

-- what is seen of them, by number
abbrev pub seen_at : List LpState → ℕ → WordLp
seen_at [] p = first_lp []
seen_at (s ∷ ss) zero = seen_of s
seen_at (s ∷ ss) (suc p) = seen_at ss p

-- the first n of them have no call left
abbrev pub HaveEnded : ℕ → List LpState → Type 0
HaveEnded n lps = (p : ℕ) → p < n → (seen_at lps p).lines ≡ []

-- the reply lines of processor p and those behind it
abbrev pub lines_seen : ℕ → List LpState → List (List ℕ)
lines_seen p [] = []
lines_seen p (s ∷ ss) = reply_lines p 1 (seen_of s).replies ++ lines_seen (p + 1) ss

-- the lines of what the guests of processor p and of those behind it noted, under the report key
abbrev pub notes_seen : (key : List ℕ) → ℕ → List LpState → List (List ℕ)
notes_seen key p [] = []
notes_seen key p (s ∷ ss) = map (note_text key p) (seen_of s).beside.notes ++ notes_seen key (p + 1) ss

-- The processors are where a script's run ends. Their replies are what it prints, and their notes the text of its guest file, under each
-- report key. The
-- bundles that they made are its bundles, in an order of their own, and fit a container; and the words that its guests told are
-- a merge of what each of them has told.
pub record AreAtEnd (o : Opening) (schedule : List ℕ) (lps : List LpState) : Type 0 where
  pub count : length lps ≡ length o.calls
  pub few : length lps ≤ 8
  pub replies : concat (lines_seen 0 lps) ≡ host_text o schedule
  pub notes : (key : List ℕ) → concat (notes_seen key 0 lps) ≡ guest_text key o schedule
  pub bundles : IsPermutation (bundles_in (run o schedule)) (bundles_seen lps)
  pub fit : FitContainer (bundles_in (run o schedule))
  pub told : AreMerged (λ p. (seen_at lps p).beside.told) (told_in (run o schedule))

-- what a file's text comes to: itself where the file is named, and else nothing
abbrev pub where_named : Option (List ℕ) → (text : List ℕ) → List ℕ
where_named None text = []
where_named (Some name) text = text

-- texts tell these lines; these bytes of the container, where it is named; and these lines of the guest file, where that is
abbrev pub TellAll : (out_bundles guest_out : Option (List ℕ)) → (replies container notes : List ℕ) → Texts → Type 0
TellAll out_bundles guest_out replies container notes t =
    (t.replies.items ≡ replies) × (t.container.items ≡ where_named out_bundles container) × (t.guest.items ≡ where_named guest_out notes)

-- Where a run is in this state, a processor has made the bundles of that state that its lines name, and shows those of them whose
-- calls have ended there, each in the order of that state; and all processors' together are all that have, in an order of their own.
pub record EndedAreShown (o : Opening) (s : State) (lps : List LpState) : Type 0 where
  pub made : (p : ℕ) → p < length o.calls → (seen_at lps p).beside.bundles ≡ own_of (calls_of o.calls p) (bundles_in s)
  pub ended : (p : ℕ) → p < length o.calls → ended_in (seen_at lps p) ≡ own_of (calls_of o.calls p) (ended_bundles o s)
  pub all : IsPermutation (ended_bundles o s) (bundles_seen lps)

-- A merge leads the processors to where they are, and the words to this table. The processors show the bundles that have ended in
-- the state where its events lead; and what is sought holds of that state, with the items that are left and those up to the end.
pub record IsMidway (o : Opening) (left : List ℕ) (sought : State → List ℕ → Type 0) (lps : List LpState) (t : Table) : Type 0 where
  pub made : List Item
  pub merge : Merge o (leaf_table o.machine (given_of o) o.codes) made (seen_at lps) t
  pub ended : EndedAreShown o (play o (order made) (start o None)) lps
  pub holds : sought (play o (order made) (start o None)) (left ++ to_the_end 0 o.calls)

-- these items lead from a state to the end of the run under the schedule
abbrev pub LeadsToEnd : Opening → (schedule : List ℕ) → State → List ℕ → Type 0
LeadsToEnd o schedule s items = play o items s ≡ run o schedule

-- the first bench of a table, with this list of its own and none that it took in or has out
abbrev pub only_bench : Machine → TableId → List Taken → BenchSeen
only_bench m id own = record { machine = m; pass = record { table = id; first = true; lists = own ∷ []; out = 0 } }

-- The processors make their turns at one bench of a table, and its own list is what they did. That they are midway, by
-- whatever table the list leads to, is known once the table tells at its close that there is one.
pub record IsAtBench (o : Opening) (left : List ℕ) (sought : State → List ℕ → Type 0) (lps : List LpState) (id : TableId) (bench : BenchSeen) : Type 0 where
  pub own : List Taken
  pub is : bench ≡ only_bench o.machine id own
  pub count : length lps ≡ length o.calls
  pub numbered : AreNumbered o 0 lps
  pub midway : (t : Table) → PlaysTo no_table own t → IsMidway o left sought lps t

-- and once it has told so: these are the words of that table
pub record StandsAt (o : Opening) (left : List ℕ) (sought : State → List ℕ → Type 0) (lps : List LpState) (words : List ℕ) : Type 0 where
  pub count : length lps ≡ length o.calls
  pub table : Table
  pub midway : IsMidway o left sought lps table
  pub words_are : (n : ℕ) → n < word_count o.machine → slice_index words n ≡ table.words n

-- what ties turns over words to events of the flat machine, and its bundles to lines
pub record TurnsAreEvents : Type 0 where
  pub merges : MergesAreRuns
  pub leaves : CallsHaveLeaves
  pub pieces : TurnsInPieces
  pub follow : ProcessorsFollow
  pub runs_end : RunsEnd
  pub others : OthersStay
  pub bundles : BundlesAreOfLines
