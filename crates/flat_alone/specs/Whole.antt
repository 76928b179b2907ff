-- A call done at once, and the calls of the processors one after another.
use Rattle.std.specs.Prelude.{◌≡◌, ℕ, ◌+◌, List, [], ◌∷◌, ◌++◌, Option, Some, None, true, false}
use Rattle.std.specs.List.{concat}
use Rattle.td_words.specs.declared.calls.Call.{Call}
use Rattle.td_words.specs.declared.replies.Reply.{Reply}
use Rattle.td_words.specs.declared.replies.Reply.TheVariants.{Done}
use Rattle.flat_core.specs.World.{World, first_world}
use Rattle.flat_core.specs.Opening.{Opening}
use Rattle.flat_core.specs.Row.{Item, Check, Try, Row}
use Rattle.flat_core.specs.Table.{row_of}
use Rattle.flat_core.specs.Event.{calls_of}
use Rattle.flat_core.specs.Run.{run}
use Rattle.report_text.specs.Lines.{reply_lines}
use Rattle.flat_core.specs.HostText.{host_text}

-- what the first condition that fails answers, where every try is granted
abbrev pub first_fault : List (Item Reply) → Option Reply
first_fault [] = None
first_fault (Check true r ∷ items) = first_fault items
first_fault (Check false r ∷ items) = Some r
first_fault (Try l m ∷ items) = first_fault items

abbrev pub reply_unless : Option Reply → Row → World → Reply
reply_unless (Some r) row w = r
reply_unless None row w = Done (row.value w)

abbrev pub world_unless : Option Reply → Row → World → World
world_unless (Some r) row w = w
world_unless None row w = row.act w

-- the reply of a row that is gone through at once, and the world after it
abbrev pub row_reply : Row → World → Reply
row_reply row w = reply_unless (first_fault (row.items w)) row w

abbrev pub row_world : Row → World → World
row_world row w = world_unless (first_fault (row.items w)) row w

-- of calls that processor p makes one after another
abbrev pub replies_of : Opening → ℕ → World → List Call → List Reply
replies_of o p w [] = []
replies_of o p w (c ∷ cs) = row_reply (row_of o p c) w ∷ replies_of o p (row_world (row_of o p c) w) cs

abbrev pub world_of : Opening → ℕ → World → List Call → World
world_of o p w [] = w
world_of o p w (c ∷ cs) = world_of o p (row_world (row_of o p c) w) cs

-- the reply lines of processors p, p + 1 and so on, each running to its end before the next one
abbrev pub lines_at_once : Opening → ℕ → World → List (List Call) → List (List ℕ)
lines_at_once o p w [] = []
lines_at_once o p w (cs ∷ css) = reply_lines p 1 (replies_of o p w cs) ++ lines_at_once o (p + 1) (world_of o p w cs) css

-- no call of processor p enters a guest; and none of the opening does
abbrev pub EnterNone : Opening → ℕ → List Call → Type 0
EnterNone o p [] = Unit {0}
EnterNone o p (c ∷ cs) = ((row_of o p c).enters ≡ None) × EnterNone o p cs

abbrev pub CallsEnterNone : Opening → Type 0
CallsEnterNone o = (p : ℕ) → EnterNone o p (calls_of o.calls p)

-- A run without a schedule prints them, where no call enters a guest.
abbrev pub EachCallAtOnce : Type 0
EachCallAtOnce = (o : Opening) → CallsEnterNone o → host_text o [] ≡ concat (lines_at_once o 0 (first_world o.machine.pages None) o.calls)

-- the world after the calls of processors p, p + 1 and so on
abbrev pub world_at_once : Opening → ℕ → World → List (List Call) → World
world_at_once o p w [] = w
world_at_once o p w (cs ∷ css) = world_at_once o (p + 1) (world_of o p w cs) css

-- And it ends in the world after them.
abbrev pub EndsInTheirWorld : Type 0
EndsInTheirWorld = (o : Opening) → CallsEnterNone o → (run o []).world ≡ world_at_once o 0 (first_world o.machine.pages None) o.calls
