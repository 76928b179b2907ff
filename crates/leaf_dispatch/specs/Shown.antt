-- An event of the flat machine, as the turn of a logical processor tells it.
use Rattle.std.specs.Prelude.{◌≡◌, ℕ, ◌%◌, Option, Some, None, List, ◌∷◌}
use Rattle.td_words.specs.Address.{word_at}
use Rattle.td_words.specs.declared.machines.Machine.{Machine}
use Rattle.flat_core.specs.World.{World}
use Rattle.flat_core.specs.Tree.{word_of_gpa}
use Rattle.flat_core.specs.Event.{State, Leaves}
use Rattle.flat_core.specs.Event as flat
use Rattle.step_core.specs.declared.items.Taken.{Taken}
use Rattle.step_core.specs.declared.items.Taken.TheVariants.{Stepped}
use Rattle.leaf_engine.specs.declared.events.Event.{Event}
use Rattle.leaf_engine.specs.declared.events.Event.TheVariants as event
use Rattle.leaf_engine.specs.OwnLists.{Piece, taken_in, LeafTable, WordLp, LpTurns}
use Rattle.trace_lines.specs.declared.traces.What.{What}
use Rattle.trace_lines.specs.declared.traces.What.TheVariants as what
use Rattle.trace_lines.specs.Traces.{what_is}
use Rattle.trace_laws.specs.Told.{told}

-- what an event was: of a walk the level of the entry, of an access the address of its word, and of a count step the parity of
-- the epoch whose count it lowers
abbrev pub event_as : (parity : ℕ) → What → Event
event_as n (what.Tries name mode granted) = event.Try name mode granted
event_as n (what.Undoes name) = event.Undo name
event_as n what.Acts = event.Act
event_as n (what.Walks gpa level) = event.Walk level
event_as n (what.Accesses access gpa page) = event.Word (word_at page (word_of_gpa gpa))
event_as n what.Counts = event.Count n
event_as n (what.Releases name) = event.Free name

-- the parity of the epoch at which the virtual processor entered that leaves its guest
abbrev pub parity_of : Option ℕ → ℕ
parity_of None = 0
parity_of (Some epoch) = epoch % 2

abbrev pub left_parity : World → flat.Event → ℕ
left_parity w (Leaves vp outcome) = parity_of (w.vps.entered vp)
left_parity w _ = 0

-- the shown form of an event of processor p, in the state before it
abbrev pub shown : State → (p : ℕ) → flat.Event → Event
shown s p e = event_as (left_parity s.world e) (what_is s p e)

-- over words: a count step loads the word that names its TDCS page, and then the epoch of its entry
abbrev pub epoch_loaded : List Taken → ℕ
epoch_loaded (x ∷ Stepped s epoch ∷ xs) = epoch
epoch_loaded _ = 0

-- a turn from there, in these pieces, tells this event
pub record TurnsAs (t : LeafTable) (m : Machine) (at : WordLp) (e : Event) (ps : List Piece) (after : WordLp) : Type 0 where
  pub event_is : Event
  pub turns : LpTurns t m at event_is ps after
  pub tells : e ≡ event_as (epoch_loaded (taken_in ps) % 2) (told t.codes at event_is)
