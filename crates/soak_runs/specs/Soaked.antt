-- What a soak prints: how many bundles the run of its source makes, and the word that the guest tells in the run of its
-- destination, into which those bundles come.
use Rattle.std.specs.Prelude.{ℕ, List, [], ◌∷◌, ◌++◌, map, length, codes}
use Rattle.std.specs.Fmt.{decimal}
use Rattle.std.specs.List.{range_with_len}
use Rattle.flat_core.specs.World.{Made}
use Rattle.flat_core.specs.Event.{State}
use Rattle.flat_core.specs.Run.{run, bundles_in, told_in}
use Rattle.bundle_texts.specs.Sealed.{sealed}
use Rattle.incoming.specs.Arrivals.{SlotIncoming, incoming_in, at_slot}
use Rattle.leaf_table.specs.Given.{Given}
use Rattle.script_text.specs.Seen.{ScriptSeen}
use Rattle.run_texts.specs.Openings.{opening_of}
use Rattle.soak_scripts.specs.Soak.{source_script, destination_script}

-- the key from source to destination has the bytes 0 to 31, and the key back 32 to 63
unfoldable pub forward_key : List ℕ
forward_key = range_with_len 0 32

unfoldable pub backward_key : List ℕ
backward_key = range_with_len 32 32

-- a bundle as it is carried over: sealed, and then opened, under these keys
abbrev pub carried : Made → SlotIncoming
carried m = incoming_in forward_key backward_key (sealed forward_key backward_key m)

-- what a run is given: secret words that are all 0, and these bundles, each in its slot
abbrev pub given_carried : List Made → Given
given_carried ms = record { secrets = λ k. 0; bundles = at_slot (map carried ms) }

-- the run of a script under its schedule, into which these bundles come
unfoldable pub run_with : List Made → ScriptSeen → State
run_with ms s = run (opening_of (given_carried ms) s) s.schedule

-- no bundles come into the source's, and those that it makes into the destination's
abbrev pub source_run : ℕ → State
source_run n = run_with [] (source_script n)

abbrev pub destination_run : ℕ → State
destination_run n = run_with (bundles_in (source_run n)) (destination_script n)

-- the first of the words that guests told, or 0 where they told none
abbrev pub first_word : List ℕ → ℕ
first_word [] = 0
first_word (w ∷ ws) = w

-- `soak N bundles B sum S`
abbrev pub line_of : (pages bundles sum : ℕ) → List ℕ
line_of n b s = codes "soak " ++ (decimal n ++ (codes " bundles " ++ (decimal b ++ (codes " sum " ++ (decimal s ++ 10 ∷ [])))))

unfoldable pub soak_text : ℕ → List ℕ
soak_text n = line_of n (length (bundles_in (source_run n))) (first_word (told_in (destination_run n)))
