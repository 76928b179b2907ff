-- Worked chains, which compute: the worked export runs in one module and the worked import in the next one (TD Migration
-- Architecture, "Migration Session Control").
use Rattle.std.specs.Prelude.{◌≡◌, ℕ, zero, suc, ◌+◌, ◌-◌, List, [], ◌∷◌, ◌++◌, map, length, replicate, take, drop, Option, Some, None, option_map}
use Rattle.td_words.specs.declared.calls.Call.{Call}
use Rattle.td_words.specs.declared.calls.Call.TheVariants.{VpEnter}
use Rattle.td_words.specs.declared.calls.GuestOp.TheVariants.{Set, Store}
use Rattle.td_words.specs.declared.refusals.Status.TheVariants.{NoBundle}
use Rattle.td_words.specs.declared.replies.Reply.{Reply}
use Rattle.td_words.specs.declared.replies.Reply.TheVariants.{Refused}
use Rattle.td_words.specs.declared.names.OpState.TheVariants as op
use Rattle.flat_core.specs.Opening.{Opening}
use Rattle.flat_core.specs.Worked.{usual_opening, success, exporting_pages, events_taken}
use Rattle.flat_core.specs.Event.{start}
use Rattle.flat_core.specs.ImportWorked.{importing, prepared}
use Rattle.flat_core.specs.Run.{bundles_in}
use Rattle.chain_laws.specs.Chains.{Chain, Running, state_of, world_of, PlanItem, turns_of, last_turns, at_moment, chain_run}
use Rattle.chain_laws.specs.Memories.{chain_memories}
use Rattle.chain_laws.specs.Keys.{key_place}

abbrev pub opening_at : List Opening → ℕ → Opening
opening_at [] i = usual_opening []
opening_at (o ∷ os) zero = o
opening_at (o ∷ os) (suc i) = opening_at os i

abbrev pub chain_of : List Opening → Chain
chain_of openings = record { openings = opening_at openings; schedules = λ i. []; count = length openings }

abbrev pub replies_at : Running → ℕ → List Reply
replies_at r i = ((state_of r i).lps 0).replies

abbrev pub migration : Chain
migration = chain_of (usual_opening (exporting_pages ∷ []) ∷ usual_opening (importing ∷ []) ∷ [])

-- from the second module the TD goes on to a third, once its guest has stored a word
abbrev pub passing_on : Opening
passing_on = record (usual_opening ((importing ++ VpEnter 1 4 9 ∷ drop 17 exporting_pages) ∷ [])) { codes = λ t v. Set 0 9 ∷ Store 0 0 ∷ [] }

abbrev pub further : Chain
further = chain_of (usual_opening (exporting_pages ∷ []) ∷ passing_on ∷ usual_opening (importing ∷ []) ∷ [])

abbrev pub gives : (number events : ℕ) → PlanItem
gives n k = record { number = n; events = k }

-- how many events the export has, up to the end of its EXPORT.STATE.IMMUTABLE and in all; and the import before its first bundle
abbrev pub events_in_all : List Call → ℕ
events_in_all calls = events_taken (usual_opening (calls ∷ [])) 256 (start (usual_opening (calls ∷ [])) None)

abbrev pub sent_first : ℕ
sent_first = events_in_all (take 18 exporting_pages)

abbrev pub before_first : ℕ
before_first = events_in_all prepared

-- the reply of the import's first bundle
abbrev pub first_reply : List PlanItem → List Reply
first_reply plan = take 1 (drop 6 (replies_at (chain_run migration plan) 1))

-- each module's own run, one after the other
abbrev pub whole : Chain → Running
whole c = at_moment c (last_turns c)

-- the first words of the TD's two pages in a module, by chain memory
abbrev pub words_brought : Chain → ℕ → List (Option ℕ)
words_brought c i = map (λ g. option_map (λ words. words 0) ((chain_memories c (last_turns c) i).pages 1 g)) (0 ∷ 1 ∷ [])

abbrev pub places : Chain → ℕ → List ℕ
places c i = map (key_place c i) (bundles_in (state_of (whole c) i))

pub record ChainExamples : Type 0 where
  -- one module after the other
  pub source : replies_at (chain_run migration []) 0 ≡ replicate (length exporting_pages) success
  pub destination : replies_at (chain_run migration []) 1 ≡ replicate 20 success
  -- events of the second module may come first, but for those that need a bundle
  pub still : first_reply (gives 1 before_first ∷ []) ≡ success ∷ []
  pub too_early : first_reply (gives 1 (before_first + 1) ∷ []) ≡ Refused (NoBundle 0) ∷ []
  -- a bundle comes in from the last event of its call on
  pub not_yet : first_reply (gives 0 (sent_first - 1) ∷ gives 1 (before_first + 1) ∷ []) ≡ Refused (NoBundle 0) ∷ []
  pub in_time : first_reply (gives 0 sent_first ∷ gives 1 (before_first + 1) ∷ []) ≡ success ∷ []
  -- events that a plan gives to a module that has ended are nobody's
  pub left_over : replies_at (at_moment migration (turns_of (gives 0 256 ∷ []))) 1 ≡ []
  -- the TD rests where it was, runs where it came to, and finds its words there, also by chain memory
  pub rests : (world_of (whole migration) 0).tds.ops 1 ≡ op.PostExport
  pub runs : (world_of (whole migration) 1).tds.ops 1 ≡ op.Runnable
  pub brought : words_brought migration 1 ≡ Some 7 ∷ Some 5 ∷ []
  -- what was stored on the way is there on the third, and what wasn't is as it was
  pub passed_on : replies_at (whole further) 2 ≡ replicate 20 success
  pub brought_on : words_brought further 2 ≡ Some 9 ∷ Some 5 ∷ []
  -- each of the eight bundles of a module is under the forward key of the link behind it
  pub places_first : places further 0 ≡ replicate 8 0
  pub places_second : places further 1 ≡ replicate 8 2
