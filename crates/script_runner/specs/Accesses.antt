-- What guests' accesses to their private memory reach in a run.
use Rattle.std.specs.Prelude.{◌≡◌, ℕ, List, ◌∷◌, ◌++◌, Some, None}
use Rattle.td_words.specs.declared.names.Access.{Access}
use Rattle.flat_core.specs.Opening.{Opening}
use Rattle.flat_core.specs.Event.{Reaches, next_event}
use Rattle.flat_core.specs.Run.{to_the_end}
use Rattle.flat_core.specs.Laws.{reached}
use Rattle.flat_core.specs.AccessLaw.{IsOwnAccess}

-- Wherever an event of the run under a schedule, with a front of the run's events before it, is a guest's access to its private
-- memory, it reaches a private page of its own TD, which the TD's secure EPT names at that GPA page; a load gives the word that
-- the guest knows from events of its TD, and a store leaves it its register's.
abbrev pub OwnAccesses : Opening → List ℕ → Type 0
OwnAccesses o schedule = (front back : List ℕ) (p t v r gpa page : ℕ) (access : Access) → schedule ++ to_the_end 0 o.calls ≡ front ++ p ∷ back
    → let s = reached o None front in
    next_event o s p ≡ Some (Reaches t v access r gpa page) → IsOwnAccess o s p t v access r gpa page
