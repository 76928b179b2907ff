-- A state of a TD, in a reader's terms: in which values of it a call comes, to which it leads, and that no event leads any other
-- way.
use Rattle.std.specs.Prelude.{◌≡◌, ℕ, List, ◌∷◌, Option, Some, None, IfSome, Bool, true, false, ◌==◌}
use Rattle.std.specs.List.{list_any}
use Rattle.td_words.specs.declared.calls.Call.{Call}
use Rattle.flat_core.specs.World.{World, Tds, put}
use Rattle.flat_core.specs.Opening.{Opening}
use Rattle.flat_core.specs.Row.{Passes, Succeeds}
use Rattle.flat_core.specs.Conditions.{is_host_in}
use Rattle.flat_core.specs.Table.{row_of}
use Rattle.flat_core.specs.Event.{State, Event, OfCall, lines_left, next_event, event}

-- a line of a table of calls: the TD, the values in which the call comes, and the one to which it leads, if it leads to one
pub record Step (A : Type 0) : Type 0 where
  pub tdr : ℕ
  pub from : List A
  pub to : Option A

abbrev pub comes : {A : Type 0} → (tdr : ℕ) → List A → Option (Step A)
comes t from = Some (record { tdr = t; from = from; to = None })

abbrev pub leads : {A : Type 0} → (tdr : ℕ) → List A → A → Option (Step A)
leads t from to = Some (record { tdr = t; from = from; to = Some to })

-- a value is among these, by its number
abbrev pub is_among : {A : Type 0} → (number : A → ℕ) → A → List A → Bool
is_among number s allowed = list_any (λ a. number a == number s) allowed

-- what a call that succeeds makes of each TD's value
abbrev pub led_to : {A : Type 0} → (tdr : ℕ) → Option A → (ℕ → A) → ℕ → A
led_to tdr None values = values
led_to tdr (Some s) values = put values tdr s

abbrev pub values_after : {A : Type 0} → Option (Step A) → (ℕ → A) → ℕ → A
values_after None values = values
values_after (Some step) values = led_to step.tdr step.to values

-- What is so after an event of a processor with these lines left, where acts of calls alone change it.
abbrev pub by_acts : {A : Type 0} → (after : Call → World → A) → (now : World → A) → List Call → Option Event → World → A
by_acts after now (c ∷ cs) (Some (OfCall row Succeeds)) w = after c w
by_acts after now _ _ w = now w

-- Where the conditions of a call hold, its TD has a value in which the call comes.
abbrev pub ComesIn : {A : Type 0} → (number : A → ℕ) → (values : ℕ → A) → Option (Step A) → Type 0
ComesIn number values x = IfSome x (λ step. is_among number (values step.tdr) step.from ≡ true)

abbrev pub CallsCome : {A : Type 0} → (number : A → ℕ) → (values : Tds → ℕ → A) → (table : Opening → Call → Option (Step A)) → Type 0
CallsCome number values table = (o : Opening) (me : ℕ) (c : Call) (w : World) → Passes ((row_of o me c).items w) → ComesIn number (values w.tds) (table o c)

-- After each event each TD has the value to which the table leads it.
abbrev pub EventsLead : {A : Type 0} → (values : Tds → ℕ → A) → (table : Opening → Call → Option (Step A)) → Type 0
EventsLead values table = (o : Opening) (s : State) (p t : ℕ)
    → values (event o s p).world.tds t ≡ by_acts (λ c w. values_after (table o c) (values w.tds) t) (λ w. values w.tds t) (lines_left o p (s.lps p)) (next_event o s p) s.world

-- it stays, or goes on to one that is next to it
abbrev pub may_move : {A : Type 0} → (number : A → ℕ) → (next : A → List A) → (before after : A) → Bool
may_move number next before after = is_among number after (before ∷ next before)

-- So an event moves a TD along these alone. A page that is the host's has no TD.
abbrev pub EventsMove : {A : Type 0} → (number : A → ℕ) → (values : Tds → ℕ → A) → (next : A → List A) → Type 0
EventsMove number values next = (o : Opening) (s : State) (p t : ℕ) → is_host_in s.world.pages t ≡ false
    → may_move number next (values s.world.tds t) (values (event o s p).world.tds t) ≡ true
