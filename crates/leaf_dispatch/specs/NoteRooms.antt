-- How many notes, and how many told words, a processor's guests can still make at most, where no list of operations is longer
-- than this: one for each operation that may still be made; and of how many reports the facts.
use Rattle.std.specs.Prelude.{ℕ, ◌+◌, ◌-◌, Bool, true, false, drop, nat_lt, if◌then◌else◌, List, [], ◌∷◌, length, Option, Some, None}
use Rattle.td_words.specs.Seen.{CodeSeen}
use Rattle.td_words.specs.declared.calls.GuestOp.{GuestOp}
use Rattle.td_words.specs.declared.calls.GuestOp.TheVariants as op
use Rattle.td_words.specs.declared.calls.Call.{Call}
use Rattle.td_words.specs.declared.calls.Call.TheVariants as call
use Rattle.leaf_engine.specs.declared.events.Stage.{Stage}
use Rattle.leaf_engine.specs.declared.events.Stage.TheVariants as stage
use Rattle.leaf_engine.specs.Turns.{Standing}
use Rattle.leaf_engine.specs.Guests.{WordGuest}
use Rattle.leaf_engine.specs.OwnLists.{WordLp}
use Rattle.leaf_dispatch.specs.Bounds.{unless_leaving}

-- how many operations the longest of a script's lists has
abbrev pub longest_in : List CodeSeen → ℕ
longest_in [] = 0
longest_in (c ∷ cs) = if nat_lt (length c.ops) (longest_in cs) then longest_in cs else length c.ops

-- the less of two numbers
abbrev pub least : ℕ → ℕ → ℕ
least a b = a - (a - b)

-- a guest that a call enters may make so many
abbrev pub call_room : ℕ → Call → ℕ
call_room longest (call.VpEnter tdr vp most) = least most longest
call_room longest _ = 0

abbrev pub lines_sum : (Call → ℕ) → List Call → ℕ
lines_sum room [] = 0
lines_sum room (c ∷ cs) = room c + lines_sum room cs

abbrev pub lines_room : ℕ → List Call → ℕ
lines_room longest cs = lines_sum (call_room longest) cs

-- none once it is answered
abbrev pub stage_room : ℕ → Stage → ℕ
stage_room n (stage.Answered reply) = 0
stage_room n _ = n

abbrev pub run_room : ℕ → Option Standing → ℕ
run_room n None = n
run_room n (Some s) = stage_room n s.stage

-- an operation whose act is done has made its own
abbrev pub stage_made : Stage → ℕ
stage_made (stage.Answered reply) = 1
stage_made _ = 0

abbrev pub run_made : Option Standing → ℕ
run_made None = 0
run_made (Some s) = stage_made s.stage

abbrev pub guest_room : ℕ → WordGuest → ℕ
guest_room longest g = unless_leaving g.leaving (least g.most longest - g.completed - run_made g.run)

abbrev pub now_room : ℕ → Call → Option Standing → Option WordGuest → ℕ
now_room longest c run None = run_room (call_room longest c) run
now_room longest c run (Some g) = guest_room longest g

abbrev pub room_of : ℕ → List Call → Option Standing → Option WordGuest → ℕ
room_of longest [] run g = 0
room_of longest (c ∷ cs) run g = now_room longest c run g + lines_room longest cs

abbrev pub room_left : ℕ → WordLp → ℕ
room_left longest p = room_of longest p.lines p.run p.guest

-- Reports, whose facts are kept apart: how many of a list's operations are reports, and of the list that has most
abbrev pub is_report : GuestOp → Bool
is_report op.Report = true
is_report _ = false

abbrev pub reports_in : List GuestOp → ℕ
reports_in [] = 0
reports_in (o ∷ os) = (if is_report o then 1 else 0) + reports_in os

abbrev pub most_reports : List CodeSeen → ℕ
most_reports [] = 0
most_reports (c ∷ cs) = if nat_lt (reports_in c.ops) (most_reports cs) then most_reports cs else reports_in c.ops

-- a guest that a call enters may make so many
abbrev pub call_reports : ℕ → Call → ℕ
call_reports most (call.VpEnter tdr vp max) = most
call_reports most _ = 0

abbrev pub lines_reports : ℕ → List Call → ℕ
lines_reports most cs = lines_sum (call_reports most) cs

-- those of its list that are still to come: that of an operation whose act is done has been made
abbrev pub guest_reports : (ℕ → ℕ → List GuestOp) → WordGuest → ℕ
guest_reports codes g = unless_leaving g.leaving (reports_in (drop (g.position + run_made g.run) (codes g.tdr g.index)))

abbrev pub now_reports : ℕ → (ℕ → ℕ → List GuestOp) → Call → Option Standing → Option WordGuest → ℕ
now_reports most codes c run None = run_room (call_reports most c) run
now_reports most codes c run (Some g) = guest_reports codes g

abbrev pub reports_of : ℕ → (ℕ → ℕ → List GuestOp) → List Call → Option Standing → Option WordGuest → ℕ
reports_of most codes [] run g = 0
reports_of most codes (c ∷ cs) run g = now_reports most codes c run g + lines_reports most cs

abbrev pub reports_left : ℕ → (ℕ → ℕ → List GuestOp) → WordLp → ℕ
reports_left most codes p = reports_of most codes p.lines p.run p.guest
