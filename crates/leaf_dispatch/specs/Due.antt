-- What is told of a guest: its next step, its pages and its count of operations, and the locks that its step holds.
use Rattle.std.specs.Prelude.{ℕ, List, [], Option, Some, None, option_map}
use Rattle.td_words.specs.declared.calls.GuestOp.{GuestOp}
use Rattle.leaf_engine.specs.declared.events.HeldLock.{HeldLock}
use Rattle.leaf_engine.specs.Guests.{WordGuest, Step, step_of}
use Rattle.leaf_engine.specs.OwnLists.{WordLp}
use Rattle.leaf_dispatch.specs.declared.guests.InGuest.{InGuest}
use Rattle.leaf_dispatch.specs.Held.{held_by}

-- the step by which a processor's guest makes its next event; none outside guests
abbrev pub step_due : (ℕ → ℕ → List GuestOp) → WordLp → Option Step
step_due codes p = option_map (step_of codes p.beside.cached) p.guest

-- its pages, how many operations it may complete in this entry, and how many it has completed
abbrev pub in_guest : WordGuest → InGuest
in_guest g = record { tdr = g.tdr; vp = g.vp; most = g.most; completed = g.completed }

-- the locks that the run of a guest's step holds, the oldest first
abbrev pub step_held : Option WordGuest → List HeldLock
step_held None = []
step_held (Some g) = held_by g.run
