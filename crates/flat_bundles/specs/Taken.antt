-- The bundles that a run takes are those of its lines (TD Migration Architecture, "Migration Bundles").
use Rattle.std.specs.Prelude.{◌≡◌, ℕ, List, [], ◌∷◌, ◌++◌, length, Option, Some, None, All}
use Rattle.td_words.specs.declared.calls.Call.{Call}
use Rattle.td_words.specs.Slots.{input_slot}
use Rattle.flat_core.specs.World.{World}
use Rattle.flat_core.specs.Opening.{Opening, Incoming}
use Rattle.flat_core.specs.Row.{Passes}
use Rattle.flat_core.specs.Table.{row_of}
use Rattle.flat_core.specs.Event.{calls_of, lines_left}
use Rattle.flat_core.specs.Laws.{with_bundles, reached}

-- a call that names an input slot has the same bundle there, or none, of these as of those
abbrev pub TakesTheSame : (these those : ℕ → Option Incoming) → Call → Type 0
TakesTheSame these those c = (slot : ℕ) → input_slot c ≡ Some slot → these slot ≡ those slot

-- Then its row is the same, whatever is in the other slots; so the row of a call without an input slot always is.
abbrev pub CallsTakeTheirOwn : Type 0
CallsTakeTheirOwn = (o : Opening) (bundles : ℕ → Option Incoming) (me : ℕ) (c : Call) → TakesTheSame bundles o.bundles c → row_of (with_bundles o bundles) me c ≡ row_of o me c

-- A call with an input slot needs a bundle there: with none its conditions never all hold.
abbrev pub CallsNeedTheirOwn : Type 0
CallsNeedTheirOwn = (o : Opening) (me : ℕ) (c : Call) (slot : ℕ) (w : World) → input_slot c ≡ Some slot → o.bundles slot ≡ None → Passes ((row_of o me c).items w) → ⊥

-- So a run is the same where each of its lines has the same bundle, whatever has come in besides.
abbrev pub RunsTakeTheirOwn : Type 0
RunsTakeTheirOwn = (o : Opening) (bundles : ℕ → Option Incoming) (words_to_tell : Option (List ℕ)) (schedule : List ℕ)
    → ((p : ℕ) → All (TakesTheSame bundles o.bundles) (calls_of o.calls p)) → reached (with_bundles o bundles) words_to_tell schedule ≡ reached o words_to_tell schedule

-- A processor goes on alike by two lists of lines: both have ended, or they begin with one call, which takes the same bundle.
abbrev pub GoOnAlike : (these those : ℕ → Option Incoming) → (lines others : List Call) → Type 0
GoOnAlike these those [] [] = Unit {0}
GoOnAlike these those (c ∷ cs) (d ∷ ds) = (c ≡ d) × TakesTheSame these those c
GoOnAlike these those [] (d ∷ ds) = ⊥
GoOnAlike these those (c ∷ cs) [] = ⊥

-- the opening with other lines and other bundles
abbrev pub with_lines : Opening → List (List Call) → (ℕ → Option Incoming) → Opening
with_lines o calls bundles = record o { calls = calls; bundles = bundles }

-- Two runs under one schedule are the same as far as each processor goes on alike. So a source that runs once more, with further
-- lines and with the token that came back, makes the same bundles up to the line that takes it.
abbrev pub RunsGoOnAlike : Type 0
RunsGoOnAlike = (o : Opening) (calls : List (List Call)) (bundles : ℕ → Option Incoming) (words_to_tell : Option (List ℕ)) (schedule : List ℕ) → length calls ≡ length o.calls
    → ((front : List ℕ) (p : ℕ) (back : List ℕ) → schedule ≡ front ++ p ∷ back
    → let lp = (reached o words_to_tell front).lps p in GoOnAlike bundles o.bundles (lines_left (with_lines o calls bundles) p lp) (lines_left o p lp))
    → reached (with_lines o calls bundles) words_to_tell schedule ≡ reached o words_to_tell schedule
