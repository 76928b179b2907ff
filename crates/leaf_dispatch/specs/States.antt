-- What contracts see of a logical processor with its calls and its guest.
use Rattle.std.specs.Prelude.{◌≡◌, ◌<◌, List, map}
use Rattle.step_core.specs.declared.items.Taken.{Taken}
use Rattle.leaf_engine.specs.declared.events.Event.{Event}
use Rattle.leaf_engine.specs.OwnLists.{Piece, taken_in, WordLp}
use Rattle.leaf_dispatch.specs.Bounds.{events_left}
use Rattle.leaf_dispatch.specs.Guests.{note_seen}
use Rattle.leaf_dispatch.specs.Inside.{guest_in}
use Rattle.leaf_dispatch.specs.Shown.{TurnsAs}
use Rattle.leaf_table.specs.Given.{given_in}
use Rattle.leaf_table.specs.Table.{code_in, place_table}
use Rattle.leaf_dispatch.specs.CallRuns.{call_run_seen}
use Rattle.leaf_dispatch.specs.declared.states.LpState.{LpState}

-- where it is in its calls and in its guest
abbrev pub seen_of : LpState → WordLp
seen_of s = record {
  lines = s.lines.now;
  run = call_run_seen s.run;
  guest = guest_in s.guest s.step_run;
  replies = s.replies.items;
  beside = record { cached = s.cached; notes = map (note_seen s.reports.items) s.notes.items; told = s.told.items; bundles = s.bundles.made };
}

-- its next turn tells this event, in these pieces, of a processor whose calls and steps have the leaves of the table
abbrev pub Moves : LpState → Event → List Piece → LpState → Type 0
Moves s e ps t = (t.place ≡ s.place) × (given_in t.given ≡ given_in s.given) × (t.codes.now ≡ s.codes.now) × TurnsAs (place_table s.place (given_in s.given) (code_in s.codes.now)) s.place.machine (seen_of s) e ps (seen_of t)

-- and it was made on a bench, and leaves fewer events
abbrev pub HasMoved : {B : Type 0} → (List Taken → B → Type 0) → LpState → B → LpState → Event → Type 0
HasMoved did s bench t e = ((ps : List Piece) × did (taken_in ps) bench × Moves s e ps t) × (events_left (code_in t.codes.now) (seen_of t) < events_left (code_in s.codes.now) (seen_of s))
