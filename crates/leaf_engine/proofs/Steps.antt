-- What a guest does next, over words and in the flat machine.
use Rattle.std.proofs.Common.{◌≡◌, ℕ, ◌+◌, ◌<◌, ◌≤◌, ◌^◌, Bool, true, false, if◌then◌else◌, List, length, Option, Some, None, refl, ap}
use Rattle.std.specs.Prelude.{nat_le, slice_get}
use Rattle.std.proofs.lemmas.Bool.{ltb-true}
use Rattle.td_words.specs.declared.names.Access.{Access}
use Rattle.td_words.specs.declared.names.Access.TheVariants.{Read, Write}
use Rattle.td_words.specs.declared.calls.GuestOp.{GuestOp}
use Rattle.td_words.specs.declared.calls.GuestOp.TheVariants as op
use Rattle.td_words.specs.declared.replies.Outcome.{Outcome}
use Rattle.td_words.specs.declared.replies.Outcome.TheVariants.{Stop, Max}
use Rattle.flat_core.specs.World.{World}
use Rattle.flat_core.specs.Processor.{Translation, Guest, Lp}
use Rattle.flat_core.specs.Opening.{Opening}
use Rattle.flat_core.specs.Row.{OperationRow, next_in}
use Rattle.flat_core.specs.Tree.{page_of_gpa}
use Rattle.flat_core.specs.Translations.{look_up}
use Rattle.flat_core.specs.Guest.{Operation, ByRow, Private, operation_of, is_private, walk_level, set_value, take_secret, add_registers, shared_load, shared_store, accept, extend_rtmr, report_facts, call_host}
use Rattle.flat_core.specs.Event.{Event, OfOperation, Walks, Reaches, Leaves as LeavesGuest, due_event, max_event, operation_event, private_event}
use Rattle.leaf_engine.specs.Turns.{Standing}
use Rattle.leaf_engine.specs.Guests.{WordGuest, Step, Operates, Accesses, Loads, Leaves, walk_page, private_step, operation_step, due_step, staying_step}
use Rattle.leaf_engine.specs.Merges.{IsOperation, IsStepOf}

-- a guest of the flat machine over words, with what its record doesn't have
abbrev pub seen : Guest → (root index position : ℕ) → Option Standing → WordGuest
seen g root index position run = record {
  tdr = g.tdr;
  vp = g.vp;
  root = root;
  most = g.most;
  completed = g.completed;
  index = index;
  position = position;
  walk = g.walk;
  leaving = g.leaving;
  run = run;
}

module _ (o : Opening) (w : World) (lp : Lp) (g : Guest) (root index position : ℕ) (run : Option Standing) where
  abbrev x : WordGuest
  x = seen g root index position run

  abbrev line : ℕ
  line = length lp.replies + 1

  abbrev found : Option GuestOp
  found = slice_get (o.codes g.tdr index) position

  abbrev IsOf : GuestOp → Operation → Type 0
  IsOf op z = (found ≡ Some op) × (operation_of o g.tdr g.vp line op ≡ z)

  pub data IsDue : Step → Event → Type 0 where
    leaves : (out : Outcome) → g.leaving ≡ Some out → IsDue (Leaves out) (LeavesGuest g.vp out)
    ends : (out : Outcome) → g.leaving ≡ None → IsDue (Leaves out) (LeavesGuest g.vp out)
    operates : (op : GuestOp) (row : OperationRow) → g.leaving ≡ None → IsOperation op → IsOf op (ByRow row) → IsDue (Operates op) (OfOperation row (next_in (row.items w) g.operation.phase g.operation.held))
    walks : (op : GuestOp) (access : Access) (r gpa : ℕ) → g.leaving ≡ None → gpa < 2 ^ 47 → IsOf op (Private access r gpa) → look_up lp.cached g.tdr (page_of_gpa gpa) access ≡ None
        → IsDue (Loads access gpa (walk_level g.walk) (walk_page root g.walk)) (Walks access gpa)
    reaches : (op : GuestOp) (access : Access) (r gpa page : ℕ) → g.leaving ≡ None → (r < 8) × (gpa < 2 ^ 47) → IsOf op (Private access r gpa) → look_up lp.cached g.tdr (page_of_gpa gpa) access ≡ Some page
        → IsDue (Accesses access r gpa page) (Reaches g.tdr g.vp access r gpa page)

  module _ (stays : g.leaving ≡ None) (op : GuestOp) (is : found ≡ Some op) where
    of-private : (access : Access) (r gpa : ℕ) → r < 8 → gpa < 2 ^ 47 → operation_of o g.tdr g.vp line op ≡ Private access r gpa → (page : Option ℕ) → look_up lp.cached g.tdr (page_of_gpa gpa) access ≡ page
        → IsDue (private_step x access r gpa page) (private_event g access r gpa page)
    of-private access r gpa small below e None l = walks op access r gpa stays below (is, e) l
    of-private access r gpa small below e (Some page) l = reaches op access r gpa page stays (small, below) (is, e) l

  module _ (stays : g.leaving ≡ None) where
    of-operation : (op : GuestOp) → found ≡ Some op → IsOperation op → IsDue (operation_step lp.cached x op) (operation_event w lp g (operation_of o g.tdr g.vp line op))
    of-operation (op.Set r v) is i = operates (op.Set r v) (set_value g.vp r v) stays i (is, refl)
    of-operation (op.Secret r k) is i = operates (op.Secret r k) (take_secret o g.vp r k) stays i (is, refl)
    of-operation (op.Add r k) is i = operates (op.Add r k) (add_registers g.vp r k) stays i (is, refl)
    of-operation (op.Accept gpa) is i = operates (op.Accept gpa) (accept g.tdr g.vp gpa) stays i (is, refl)
    of-operation (op.Rtmr k) is i = operates (op.Rtmr k) (extend_rtmr g.tdr g.vp line k) stays i (is, refl)
    of-operation op.Report is i = operates op.Report (report_facts g.tdr g.vp line) stays i (is, refl)
    of-operation (op.Vmcall r) is i = operates (op.Vmcall r) (call_host g.vp r) stays i (is, refl)
    of-operation (op.Load r gpa) is i = by (is_private gpa) refl
      where
        by : (b : Bool) → is_private gpa ≡ b
            → IsDue (if b then private_step x Read r gpa (look_up lp.cached g.tdr (page_of_gpa gpa) Read) else Operates (op.Load r gpa)) (operation_event w lp g (if b then Private Read r gpa else ByRow (shared_load o.machine g.vp line r gpa)))
        by true e =
            of-private stays (op.Load r gpa) is Read r gpa i (ltb-true gpa (2 ^ 47) e) (ap (λ (b : Bool). if b then Private Read r gpa else ByRow (shared_load o.machine g.vp line r gpa)) e)
            (look_up lp.cached g.tdr (page_of_gpa gpa) Read) refl
        by false e = operates (op.Load r gpa) (shared_load o.machine g.vp line r gpa) stays i (is, ap (λ (b : Bool). if b then Private Read r gpa else ByRow (shared_load o.machine g.vp line r gpa)) e)
    of-operation (op.Store r gpa) is i = by (is_private gpa) refl
      where
        by : (b : Bool) → is_private gpa ≡ b
            → IsDue (if b then private_step x Write r gpa (look_up lp.cached g.tdr (page_of_gpa gpa) Write) else Operates (op.Store r gpa)) (operation_event w lp g (if b then Private Write r gpa else ByRow (shared_store o.machine g.vp r gpa)))
        by true e =
            of-private stays (op.Store r gpa) is Write r gpa i (ltb-true gpa (2 ^ 47) e) (ap (λ (b : Bool). if b then Private Write r gpa else ByRow (shared_store o.machine g.vp r gpa)) e)
            (look_up lp.cached g.tdr (page_of_gpa gpa) Write) refl
        by false e = operates (op.Store r gpa) (shared_store o.machine g.vp r gpa) stays i (is, ap (λ (b : Bool). if b then Private Write r gpa else ByRow (shared_store o.machine g.vp r gpa)) e)

    of-max : (op : GuestOp) → found ≡ Some op → IsOperation op → (b : Bool) → IsDue (if b then Leaves Max else operation_step lp.cached x op) (max_event o w lp g op b)
    of-max op is i true = ends Max stays
    of-max op is i false = of-operation op is i

    of-found : (z : Option GuestOp) → found ≡ z → ((op : GuestOp) → z ≡ Some op → IsOperation op) → IsDue (due_step lp.cached x z) (due_event o w lp g z)
    of-found None is all = ends Stop stays
    of-found (Some op) is all = of-max op is (all op refl) (nat_le g.most g.completed)

  -- the event of one that isn't answered or denied
  abbrev pub going_event : Option Outcome → Event
  going_event (Some out) = LeavesGuest g.vp out
  going_event None = due_event o w lp g found

  pub due-is : ((op : GuestOp) → found ≡ Some op → IsOperation op) → IsDue (staying_step o.codes lp.cached x g.leaving) (going_event g.leaving)
  due-is all = by g.leaving refl
    where
      by : (l : Option Outcome) → g.leaving ≡ l → IsDue (staying_step o.codes lp.cached x l) (going_event l)
      by (Some out) e = leaves out e
      by None e = of-found e found refl all

  -- it is within the limits of the grammar
  pub step-fits : (st : Step) (e : Event) → walk_level g.walk ≤ 3 → IsDue st e → IsStepOf st
  step-fits st e level (leaves out l) = tt
  step-fits st e level (ends out l) = tt
  step-fits st e level (operates op row l i is) = i
  step-fits st e level (walks op access r gpa l below is misses) = (level, below)
  step-fits st e level (reaches op access r gpa page l fits is hits) = fits

-- whatever its run
module _ (codes : ℕ → ℕ → List GuestOp) (ts : List Translation) (g : Guest) (root index position : ℕ) (run run' : Option Standing) where
  abbrev y : WordGuest
  y = seen g root index position run

  abbrev z : WordGuest
  z = seen g root index position run'

  same-private : (access : Access) (r gpa : ℕ) (page : Option ℕ) → private_step y access r gpa page ≡ private_step z access r gpa page
  same-private access r gpa None = refl
  same-private access r gpa (Some page) = refl

  same-choice : (b : Bool) (access : Access) (r gpa : ℕ) (op : GuestOp)
      → (if b then private_step y access r gpa (look_up ts g.tdr (page_of_gpa gpa) access) else Operates op) ≡ (if b then private_step z access r gpa (look_up ts g.tdr (page_of_gpa gpa) access) else Operates op)
  same-choice true access r gpa op = same-private access r gpa (look_up ts g.tdr (page_of_gpa gpa) access)
  same-choice false access r gpa op = refl

  same-operation : (op : GuestOp) → operation_step ts y op ≡ operation_step ts z op
  same-operation (op.Load r gpa) = same-choice (is_private gpa) Read r gpa (op.Load r gpa)
  same-operation (op.Store r gpa) = same-choice (is_private gpa) Write r gpa (op.Store r gpa)
  same-operation (op.Set r v) = refl
  same-operation (op.Secret r k) = refl
  same-operation (op.Add r k) = refl
  same-operation (op.Accept gpa) = refl
  same-operation (op.Rtmr k) = refl
  same-operation op.Report = refl
  same-operation (op.Vmcall r) = refl

  same-max : (b : Bool) (op : GuestOp) → (if b then Leaves Max else operation_step ts y op) ≡ (if b then Leaves Max else operation_step ts z op)
  same-max true op = refl
  same-max false op = same-operation op

  same-due : (found : Option GuestOp) → due_step ts y found ≡ due_step ts z found
  same-due None = refl
  same-due (Some op) = same-max (nat_le g.most g.completed) op

  pub same-step : (l : Option Outcome) → staying_step codes ts y l ≡ staying_step codes ts z l
  same-step (Some out) = refl
  same-step None = same-due (slice_get (codes g.tdr index) position)
