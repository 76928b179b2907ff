-- A bundle is out once the call that made it has ended, not from its act on (TD Migration Architecture, "Migration Bundles").
use Rattle.std.specs.Prelude.{◌≡◌, ◌≢◌, ℕ, List, ◌∷◌, length, Option, Some, Bool, false, not, ◌==◌, filter, filter_map, flat_map, All, AllPairs}
use Rattle.std.specs.List.{list_any, range_with_len}
use Rattle.td_words.specs.declared.calls.Call.{Call}
use Rattle.td_words.specs.declared.replies.Reply.{Reply}
use Rattle.td_words.specs.Slots.{output_slot, output_slots}
use Rattle.flat_core.specs.World.{Made}
use Rattle.flat_core.specs.Processor.{Answered}
use Rattle.flat_core.specs.Opening.{Opening, Incoming}
use Rattle.flat_core.specs.Event.{State, calls_of, lines_left, event}
use Rattle.flat_core.specs.Run.{run_telling, bundles_in}
use Rattle.flat_core.specs.Laws.{with_bundles, HoldsInRuns}

-- one of these lines names the bundle's slot
abbrev pub is_named : List Call → Made → Bool
is_named lines b = list_any (λ slot. slot == b.slot) (filter_map output_slot lines)

-- where these lines aren't done: none of them does
abbrev pub has_ended : (left : List Call) → Made → Bool
has_ended left b = not (is_named left b)

-- so of these bundles those whose calls have ended: of one processor's own, with the lines that it has left
abbrev pub ended_of : (left : List Call) → List Made → List Made
ended_of left bundles = filter (has_ended left) bundles

-- those of them that lines name: a processor's own, by its lines
abbrev pub own_of : (lines : List Call) → List Made → List Made
own_of lines bundles = filter (is_named lines) bundles

-- the lines of all processors that aren't done
abbrev pub all_left : Opening → State → List Call
all_left o s = flat_map (λ p. lines_left o p (s.lps p)) (range_with_len 0 (length o.calls))

-- the bundles of a state whose calls have ended
abbrev pub ended_bundles : Opening → State → List Made
ended_bundles o s = ended_of (all_left o s) (bundles_in s)

-- Where no two lines name one slot, those of a processor's own are the ones that none of its lines left names.
abbrev pub OwnHaveEnded : Type 0
OwnHaveEnded = (o : Opening) (s : State) (p : ℕ) → AllPairs (λ a b. a ≢ b) (output_slots o.calls) → let calls = calls_of o.calls p in
    own_of calls (ended_bundles o s) ≡ ended_of (lines_left o p (s.lps p)) (own_of calls (bundles_in s))

-- At the end of a run all have.
abbrev pub AllHaveEnded : Type 0
AllHaveEnded = (o : Opening) (words_to_tell : Option (List ℕ)) (schedule : List ℕ) → let s = run_telling words_to_tell o schedule in
    ended_bundles o s ≡ bundles_in s

-- An event, whatever has come in, takes none back: those that had ended before are, in their order, those among the bundles that
-- have ended after it that had then. So it adds to them, or leaves them.
abbrev pub EndedStay : Type 0
EndedStay = (o : Opening) (bundles : ℕ → Option Incoming) (s : State) (p : ℕ) → let after = event (with_bundles o bundles) s p in
    ended_bundles o s ≡ ended_of (all_left o s) (ended_bundles o after)

-- The call of a bundle has acted and isn't done: it is the first line left of a processor, which is answered and still holds a lock.
pub record IsUnderWay (o : Opening) (s : State) (b : Made) : Type 0 where
  pub lp : ℕ
  pub call : Call
  pub later : List Call
  pub line : lines_left o lp (s.lps lp) ≡ call ∷ later
  pub slot : output_slot call ≡ Some b.slot
  pub reply : Reply
  pub answered : (s.lps lp).call.phase ≡ Answered reply

-- Where no two lines name one slot, a bundle isn't out only while its call is under way.
abbrev pub OthersHaveEnded : Type 0
OthersHaveEnded = HoldsInRuns (λ o s. AllPairs (λ a b. a ≢ b) (output_slots o.calls)
    → All (λ b. has_ended (all_left o s) b ≡ false → IsUnderWay o s b) (bundles_in s))
