-- BUNDLE_COUNTER shows the counter that is due and the bundle's, which differ. Its condition fails where both are 2^32 - 1 too, the
-- last value; but a stream counts one bundle a call at most (ABI Reference, "TDH.IMPORT" leaf functions).
use Rattle.std.specs.Prelude.{◌≡◌, ◌≢◌, ◌≤◌, ◌<◌, ℕ, suc, ◌+◌, ◌-◌, ◌^◌, List, [], ◌∷◌, length, drop, Some}
use Rattle.td_words.specs.declared.calls.Call.{Call}
use Rattle.td_words.specs.declared.refusals.Status.TheVariants.{BundleCounter}
use Rattle.td_words.specs.declared.replies.Reply.TheVariants.{Refused}
use Rattle.td_words.specs.Slots.{all_calls}
use Rattle.flat_core.specs.Opening.{Opening}
use Rattle.flat_core.specs.Row.{Row, Refuses}
use Rattle.flat_core.specs.Event.{State, OfCall, next_event}
use Rattle.flat_core.specs.Laws.{IsKept, HoldsInRuns}
use Rattle.flat_bundles.specs.Bundles.{acted}

-- of processors with these calls, of each of which so many have acted, how many are still to act
abbrev pub calls_left : List (List Call) → (ℕ → ℕ) → ℕ
calls_left [] acted = 0
calls_left (cs ∷ css) acted = length (drop (acted 0) cs) + calls_left css (λ p. acted (suc p))

-- no stream has counted more bundles than calls have acted
abbrev pub AreCountedByCalls : Opening → State → Type 0
AreCountedByCalls o s = (page : ℕ) → s.world.streams.counters page + calls_left o.calls (λ p. acted (s.lps p)) ≤ length (all_calls o.calls)

abbrev pub CountersAreKept : Type 0
CountersAreKept = IsKept AreCountedByCalls

-- So in a run of fewer than 2^32 - 1 lines no call is refused with BUNDLE_COUNTER and two equal numbers.
abbrev pub CountersDiffer : Type 0
CountersDiffer = HoldsInRuns (λ o s. length (all_calls o.calls) < 2 ^ 32 - 1 → (p : ℕ) (row : Row) (due got : ℕ)
    → next_event o s p ≡ Some (OfCall row (Refuses (Refused (BundleCounter due got)))) → due ≢ got)
