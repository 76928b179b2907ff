-- What the rows themselves ask of a TD's state: the tables of calls name just that, no more and no less (ABI Reference, "TDH leaf
-- functions").
use Rattle.std.specs.Prelude.{◌≡◌, ℕ, List, [], ◌∷◌, Option, Some, None, Bool}
use Rattle.td_words.specs.declared.names.LifeState.{LifeState}
use Rattle.td_words.specs.declared.names.OpState.{OpState}
use Rattle.td_words.specs.declared.refusals.Status.{Status}
use Rattle.td_words.specs.declared.refusals.Status.TheVariants.{LifecycleStateIncorrect, OpStateIncorrect}
use Rattle.td_words.specs.declared.replies.Reply.{Reply}
use Rattle.td_words.specs.declared.replies.Reply.TheVariants.{Refused}
use Rattle.td_words.specs.declared.calls.Call.{Call}
use Rattle.td_words.specs.declared.calls.Call.TheVariants as call
use Rattle.td_words.specs.NameNumber.{life_number, op_number}
use Rattle.flat_core.specs.World.{World, Tds}
use Rattle.flat_core.specs.Opening.{Opening}
use Rattle.flat_core.specs.Row.{Item, Check, Try}
use Rattle.flat_core.specs.Table.{row_of}
use Rattle.td_laws.specs.Steps.{Step, is_among}
use Rattle.td_laws.specs.Lives.{lives_of, life_step}
use Rattle.td_laws.specs.Ops.{ops_of, op_step}

-- the state that a refusal names, where it is one of that state
abbrev pub op_refused : Status → Option OpState
op_refused (OpStateIncorrect s) = Some s
op_refused _ = None

abbrev pub life_refused : Status → Option LifeState
life_refused (LifecycleStateIncorrect s) = Some s
life_refused _ = None

-- these, with one before them where its refusal names a state
abbrev pub with_asked : {A : Type 0} → Option A → Bool → List (Bool × A) → List (Bool × A)
with_asked None holds rest = rest
with_asked (Some s) holds rest = (holds, s) ∷ rest

-- Each condition of a row that is refused so, in order: whether it holds, and the state that its refusal names.
abbrev pub asked_in : {A : Type 0} → (refused : Status → Option A) → List (Item Reply) → List (Bool × A)
asked_in refused [] = []
asked_in refused (Check holds (Refused status) ∷ items) = with_asked (refused status) holds (asked_in refused items)
asked_in refused (Check holds reply ∷ items) = asked_in refused items
asked_in refused (Try lock mode ∷ items) = asked_in refused items

-- What a line of a table says of that: one condition, that the TD is in one of the line's states, and its refusal names the state
-- that the TD is in. MNG.CREATE alone has a line and asks nothing: a TD that begins had no state.
abbrev pub line_asked : {A : Type 0} → (table : Opening → Call → Option (Step A)) → Opening → Call → Option (Step A)
line_asked table o (call.MngCreate tdr hkid) = None
line_asked table o c = table o c

abbrev pub said_of : {A : Type 0} → (number : A → ℕ) → (values : ℕ → A) → Option (Step A) → List (Bool × A)
said_of number values None = []
said_of number values (Some step) = (is_among number (values step.tdr) step.from, values step.tdr) ∷ []

-- The two are the same, of every call and in every world, whether a run leads there or not.
abbrev pub RowsAsk : {A : Type 0} → (refused : Status → Option A) → (number : A → ℕ) → (values : Tds → ℕ → A) → (table : Opening → Call → Option (Step A)) → Type 0
RowsAsk refused number values table = (o : Opening) (me : ℕ) (c : Call) (w : World) → asked_in refused ((row_of o me c).items w) ≡ said_of number (values w.tds) (line_asked table o c)

abbrev pub RowsAskForOps : Type 0
RowsAskForOps = RowsAsk op_refused op_number ops_of op_step

abbrev pub RowsAskForLives : Type 0
RowsAskForLives = RowsAsk life_refused life_number lives_of life_step
