-- What a guest's next step is of: an operation goes by a row, and the entry that is loaded is of the walk's level.
use Rattle.std.proofs.Common.{◌≡◌, ℕ, Bool, true, false, if◌then◌else◌, nat_le, List, Option, Some, None, refl, ap, slice_get}
use Rattle.td_words.specs.declared.names.Access.{Access}
use Rattle.td_words.specs.declared.names.Access.TheVariants.{Read, Write}
use Rattle.td_words.specs.declared.calls.GuestOp.{GuestOp}
use Rattle.td_words.specs.declared.calls.GuestOp.TheVariants as op
use Rattle.td_words.specs.declared.replies.Outcome.{Outcome}
use Rattle.td_words.specs.declared.replies.Outcome.TheVariants.{Max}
use Rattle.flat_core.specs.Processor.{Translation}
use Rattle.flat_core.specs.Opening.{Opening}
use Rattle.flat_core.specs.Row.{OperationRow}
use Rattle.flat_core.specs.Tree.{page_of_gpa}
use Rattle.flat_core.specs.Translations.{look_up}
use Rattle.flat_core.specs.Guest.{ByRow, Private, set_value, take_secret, add_registers, shared_load, shared_store, accept, extend_rtmr, report_facts, call_host, operation_of, is_private, walk_level}
use Rattle.leaf_engine.specs.Guests.{WordGuest, Step, Operates, Accesses, Loads, Leaves, private_step, operation_step, due_step, staying_step, step_of}

abbrev pub StepFits : Opening → (line : ℕ) → WordGuest → Step → Type 0
StepFits o line g (Operates op) = (row : OperationRow) × (operation_of o g.tdr g.vp line op ≡ ByRow row)
StepFits o line g (Accesses access r gpa page) = Unit {0}
StepFits o line g (Loads access gpa level page) = level ≡ walk_level g.walk
StepFits o line g (Leaves out) = Unit {0}

module _ (o : Opening) (line : ℕ) (codes : ℕ → ℕ → List GuestOp) (ts : List Translation) (g : WordGuest) where
  private-fits : (access : Access) (r gpa : ℕ) (page : Option ℕ) → StepFits o line g (private_step g access r gpa page)
  private-fits access r gpa None = refl
  private-fits access r gpa (Some page) = tt

  operation-fits : (op : GuestOp) → StepFits o line g (operation_step ts g op)
  operation-fits (op.Set r v) = (set_value g.vp r v, refl)
  operation-fits (op.Secret r k) = (take_secret o g.vp r k, refl)
  operation-fits (op.Add r k) = (add_registers g.vp r k, refl)
  operation-fits (op.Accept gpa) = (accept g.tdr g.vp gpa, refl)
  operation-fits (op.Rtmr k) = (extend_rtmr g.tdr g.vp line k, refl)
  operation-fits op.Report = (report_facts g.tdr g.vp line, refl)
  operation-fits (op.Vmcall r) = (call_host g.vp r, refl)
  operation-fits (op.Load r gpa) = by (is_private gpa) refl
    where
      by : (b : Bool) → is_private gpa ≡ b → StepFits o line g (if b then private_step g Read r gpa (look_up ts g.tdr (page_of_gpa gpa) Read) else Operates (op.Load r gpa))
      by true e = private-fits Read r gpa (look_up ts g.tdr (page_of_gpa gpa) Read)
      by false e = (shared_load o.machine g.vp line r gpa, ap (λ (b : Bool). if b then Private Read r gpa else ByRow (shared_load o.machine g.vp line r gpa)) e)
  operation-fits (op.Store r gpa) = by (is_private gpa) refl
    where
      by : (b : Bool) → is_private gpa ≡ b → StepFits o line g (if b then private_step g Write r gpa (look_up ts g.tdr (page_of_gpa gpa) Write) else Operates (op.Store r gpa))
      by true e = private-fits Write r gpa (look_up ts g.tdr (page_of_gpa gpa) Write)
      by false e = (shared_store o.machine g.vp r gpa, ap (λ (b : Bool). if b then Private Write r gpa else ByRow (shared_store o.machine g.vp r gpa)) e)

  max-fits : (op : GuestOp) (b : Bool) → StepFits o line g (if b then Leaves Max else operation_step ts g op)
  max-fits op true = tt
  max-fits op false = operation-fits op

  due-fits : (z : Option GuestOp) → StepFits o line g (due_step ts g z)
  due-fits None = tt
  due-fits (Some op) = max-fits op (nat_le g.most g.completed)

  staying-fits : (l : Option Outcome) → StepFits o line g (staying_step codes ts g l)
  staying-fits (Some out) = tt
  staying-fits None = due-fits (slice_get (codes g.tdr g.index) g.position)

  pub step-fits : StepFits o line g (step_of codes ts g)
  step-fits = staying-fits g.leaving
