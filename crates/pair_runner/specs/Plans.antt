-- The plan of a run of several modules: whose events come next, and how many. A line is `M K`: a module's letter, from `A`
-- on, one space, and a number from 1 to 2 ^ 20, decimal, with no sign and no zero in front. Each line ends with a newline.
-- A plan has at most 4,096 lines and 65,536 bytes, and may be empty. The format is our own.
use Rattle.std.specs.Prelude.{◌≡◌, ℕ, ◌+◌, ◌-◌, ◌^◌, List, [], ◌∷◌, ◌++◌, length, drop, slice_index, Bool, ◌&&◌, ◌==◌, nat_lt, nat_le, Option, Some, None, Result, Ok, Err, if◌then◌else◌}
use Rattle.std.specs.Global.{Vec}
use Rattle.std.specs.Fmt.{decimal}
use Rattle.line_words.specs.Number.{number}
use Rattle.line_words.specs.Words.{pieces}
use Rattle.line_words.specs.Lines.{line_text}
use Rattle.pair_runner.specs.declared.plans.PlanItem.{PlanItem}
use Rattle.pair_runner.specs.declared.plans.PlanFault.{PlanFault}
use Rattle.pair_runner.specs.declared.plans.PlanFault.TheVariants.{At, OutOfMemory}

-- `1` to `9` is in front
abbrev pub is_plain : List ℕ → Bool
is_plain word = nat_le 1 (length word) && (nat_le 49 (slice_index word 0) && nat_le (slice_index word 0) 57)

abbrev pub in_range : Option ℕ → Option ℕ
in_range None = None
in_range (Some n) = if nat_le 1 n && nat_le n (2 ^ 20) then Some n else None

abbrev pub events_in : List ℕ → Option ℕ
events_in word = if is_plain word then in_range (number word) else None

-- `A` and so on, a letter for each module
abbrev pub is_module : ℕ → ℕ → Bool
is_module modules letter = nat_le 65 letter && nat_lt letter (65 + modules)

abbrev pub with_events : ℕ → Option ℕ → Option PlanItem
with_events m None = None
with_events m (Some n) = Some (record { «module» = m; events = n })

-- `M K`
abbrev pub item_in : ℕ → List ℕ → Option PlanItem
item_in modules line =
    if nat_le 2 (length line) && (is_module modules (slice_index line 0) && slice_index line 1 == 32)
    then with_events (slice_index line 0 - 65) (events_in (drop 2 line))
    else None

-- at most 4,096 lines
abbrev pub line_in : ℕ → ℕ → List ℕ → Option PlanItem
line_in modules n line = if nat_le n 4096 then item_in modules line else None

-- a line before others: the first bad line counts
abbrev pub before : ℕ → Option PlanItem → Result (List PlanItem) ℕ → Result (List PlanItem) ℕ
before n None others = Err n
before n (Some item) (Ok items) = Ok (item ∷ items)
before n (Some item) (Err m) = Err m

-- the pieces round the newlines, from line n on; behind the last newline nothing may stand
abbrev pub items_from : ℕ → ℕ → List (List ℕ) → Result (List PlanItem) ℕ
items_from modules n [] = Ok []
items_from modules n (line ∷ []) = if length line == 0 then Ok [] else Err n
items_from modules n (line ∷ next ∷ more) = before n (line_in modules n line) (items_from modules (n + 1) (next ∷ more))

-- the plan that bytes say, or the first bad line; 0 where they are too many
abbrev pub plan_in : ℕ → List ℕ → Result (List PlanItem) ℕ
plan_in modules bytes = if nat_lt (2 ^ 16) (length bytes) then Err 0 else items_from modules 1 (pieces bytes)

-- what reading gives, unless memory ran out
abbrev pub IsAnswered : Result (List PlanItem) ℕ → Result (Vec PlanItem) PlanFault → Type 0
IsAnswered read (Ok plan) = read ≡ Ok plan.items
IsAnswered read (Err (At n)) = read ≡ Err n
IsAnswered read (Err OutOfMemory) = Unit {0}

-- a plan written out
abbrev pub plan_text : List PlanItem → List ℕ
plan_text [] = []
plan_text (i ∷ is) = line_text ((65 + i.«module») ∷ []) (decimal i.events ∷ []) ++ plan_text is
