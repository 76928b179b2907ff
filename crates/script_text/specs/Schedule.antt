-- The items of schedule lines: `L`, or `L*K` for K turns of processor L.
use Rattle.std.specs.Prelude.{◌≡◌, ℕ, ◌+◌, ◌^◌, List, [], ◌∷◌, ◌++◌, length, map, take, drop, replicate, Option, Some, None, is_some, Result, Ok, Err, not, ◌&&◌, ◌==◌, nat_lt, nat_le, position, if◌then◌else◌}
use Rattle.std.specs.List.{list_all}
use Rattle.line_words.specs.Number.{number}
use Rattle.line_words.specs.Words.{words}
use Rattle.script_text.specs.declared.faults.Reason.{Reason}
use Rattle.script_text.specs.declared.faults.Reason.TheVariants as reason
use Rattle.script_text.specs.declared.schedules.Item.{Item}
use Rattle.script_text.specs.declared.schedules.Turns.{Turns}
use Rattle.script_text.specs.Counted.{◌>>=◌}

abbrev pub item_from : Option ℕ → Option ℕ → Option Item
item_from (Some lp) (Some times) = Some (record { lp = lp; times = times })
item_from (Some lp) None = None
item_from None times = None

-- cut at the first star; a second star is no digit
abbrev pub item_cut : List ℕ → Option ℕ → Option Item
item_cut word None = item_from (number word) (Some 1)
item_cut word (Some star) = item_from (number (take star word)) (number (drop (star + 1) word))

unfoldable pub item_of : List ℕ → Option Item
item_of word = item_cut word (position (λ b. b == 42) word)

-- a processor of the machine, and 1 to 2 ^ 20 turns
abbrev pub in_range_of : ℕ → Option Item → Option Turns
in_range_of lps None = None
in_range_of lps (Some i) = if nat_lt i.lp lps && (nat_le 1 i.times && nat_le i.times (2 ^ 20)) then Some (record { lp = i.lp; times = i.times }) else None

-- at most 2 ^ 20 items after repetition is written out
abbrev pub with_turns : List ℕ → Turns → Result (List ℕ) Reason
with_turns schedule t = if nat_lt (2 ^ 20) (length schedule + t.times) then Err reason.Full else Ok (schedule ++ replicate t.times t.lp)

abbrev pub written_of : List ℕ → List (Option Turns) → Result (List ℕ) Reason
written_of schedule [] = Ok schedule
written_of schedule (None ∷ turns) = Err reason.Range
written_of schedule (Some t ∷ turns) = with_turns schedule t >>= (λ s. written_of s turns)

-- the turns of a word's item, where it is in range
abbrev pub turns_in : ℕ → List ℕ → Option Turns
turns_in lps word = in_range_of lps (item_of word)

-- a text is an item with those turns, and more text behind it
abbrev pub IsCutTo : ℕ → List ℕ → Option Turns → List ℕ → Type 0
IsCutTo lps text turns more = map (turns_in lps) (words text) ≡ turns ∷ map (turns_in lps) (words more)

-- a text is items of one turn each, of those processors, and more text behind them
abbrev pub AreCutTo : ℕ → List ℕ → List ℕ → List ℕ → Type 0
AreCutTo lps text items more = map (turns_in lps) (words text) ≡ map (λ lp. Some (record { lp = lp; times = 1 })) items ++ map (turns_in lps) (words more)

-- the reason of a line that can't be written for that reason: NUMBER of any before RANGE of any, and then that
abbrev pub first_reason : ℕ → List (List ℕ) → Reason → Reason
first_reason lps items r =
    if not (list_all (λ w. is_some (item_of w)) items) then reason.Number
    else if not (list_all (λ w. is_some (turns_in lps w)) items) then reason.Range
    else r

-- the items of a schedule line behind those of the lines before: NUMBER of any before RANGE of any, and then FULL
unfoldable pub schedule_of : ℕ → List ℕ → List (List ℕ) → Result (List ℕ) Reason
schedule_of lps schedule items =
    if length items == 0 then Err reason.Count
    else if not (list_all (λ w. is_some (item_of w)) items) then Err reason.Number
    else if not (list_all (λ w. is_some (turns_in lps w)) items) then Err reason.Range
    else written_of schedule (map (turns_in lps) items)
