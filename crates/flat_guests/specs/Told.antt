-- Told words, in a reader's terms: which event tells the host which word.
use Rattle.std.specs.Prelude.{◌≡◌, ℕ, List, [], ◌∷◌, ◌++◌, Option, Some, if◌then◌else◌}
use Rattle.td_words.specs.declared.calls.GuestOp.{GuestOp}
use Rattle.td_words.specs.declared.calls.GuestOp.TheVariants as op
use Rattle.flat_core.specs.World.{World}
use Rattle.flat_core.specs.Processor.{Guest}
use Rattle.flat_core.specs.Opening.{Opening}
use Rattle.flat_core.specs.Row.{Succeeds}
use Rattle.flat_core.specs.Guest.{is_private, register_told}
use Rattle.flat_core.specs.Event.{State, Event, OfOperation, next_event, event, operation_due}

-- what a guest's operation tells once it has succeeded: `store` to a shared GPA and `vmcall` tell their register, or in its
-- place the next word to tell, where words to tell are given
abbrev pub told_by_operation : Option GuestOp → Guest → World → List ℕ
told_by_operation (Some (op.Store r gpa)) g w = if is_private gpa then [] else register_told w g.vp r ∷ []
told_by_operation (Some (op.Vmcall r)) g w = register_told w g.vp r ∷ []
told_by_operation _ g w = []

-- what an event of a processor with this guest tells: any other event tells nothing
abbrev pub told_by_event : Opening → Option Guest → Option Event → World → List ℕ
told_by_event o (Some g) (Some (OfOperation row Succeeds)) w = told_by_operation (operation_due o w g) g w
told_by_event _ _ _ w = []

abbrev pub EventsTellTheirs : Type 0
EventsTellTheirs = (o : Opening) (s : State) (p : ℕ)
    → (event o s p).world.outgoing.told ≡ s.world.outgoing.told ++ told_by_event o (s.lps p).guest (next_event o s p) s.world
