-- What contracts see of a step of a guest.
use Rattle.leaf_engine.specs.Guests.{Step, Operates, Accesses, Loads, Leaves}
use Rattle.leaf_table.specs.declared.steps.Step.{Step as GuestStep}
use Rattle.leaf_table.specs.declared.steps.Step.TheVariants as step

abbrev pub step_seen : GuestStep → Step
step_seen (step.Operates o) = Operates o
step_seen (step.Accesses access r gpa page) = Accesses access r gpa page
step_seen (step.Loads access gpa level page) = Loads access gpa level page
step_seen (step.Leaves out) = Leaves out
