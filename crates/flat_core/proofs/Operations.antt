-- What is shown of the row of each guest operation that has one is shown of the row of any.
use Rattle.std.proofs.Common.{◌≡◌, refl, subst, ℕ, Bool, true, false, if◌then◌else◌}
use Rattle.td_words.specs.declared.names.Access.{Access}
use Rattle.td_words.specs.declared.names.Access.TheVariants.{Read, Write}
use Rattle.td_words.specs.declared.calls.GuestOp.{GuestOp}
use Rattle.td_words.specs.declared.calls.GuestOp.TheVariants as op
use Rattle.flat_core.specs.World.{World}
use Rattle.flat_core.specs.Opening.{Opening}
use Rattle.flat_core.specs.Row.{OperationRow}
use Rattle.flat_core.specs.Guest.{Operation, ByRow, Private, operation_of, is_private, set_value, add_registers, shared_load, shared_store, accept, accept_page, extend_rtmr, report_facts, call_host}

module _ (o : Opening) (t v line : ℕ) (C : Operation → Type 0)
    (sets : (r x : ℕ) → C (ByRow (set_value v r x)))
    (adds : (r s : ℕ) → C (ByRow (add_registers v r s)))
    (loads : (r gpa : ℕ) → C (ByRow (shared_load o.machine v line r gpa)))
    (stores : (r gpa : ℕ) → C (ByRow (shared_store o.machine v r gpa)))
    (accepts : (gpa : ℕ) → C (ByRow (accept t v gpa)))
    (extends : (i : ℕ) → C (ByRow (extend_rtmr t v line i)))
    (reports : C (ByRow (report_facts t v line)))
    (vmcalls : (r : ℕ) → C (ByRow (call_host v r)))
    (privates : (access : Access) (r gpa : ℕ) → C (Private access r gpa)) where
  either : (b : Bool) (x y : Operation) → C x → C y → C (if b then x else y)
  either true x y a b = a
  either false x y a b = b

  pub each_operation : (op : GuestOp) → C (operation_of o t v line op)
  each_operation (op.Set r x) = sets r x
  each_operation (op.Secret r k) = sets r (o.secrets k)
  each_operation (op.Add r s) = adds r s
  each_operation (op.Load r gpa) = either (is_private gpa) _ _ (privates Read r gpa) (loads r gpa)
  each_operation (op.Store r gpa) = either (is_private gpa) _ _ (privates Write r gpa) (stores r gpa)
  each_operation (op.Accept gpa) = accepts gpa
  each_operation (op.Rtmr i) = extends i
  each_operation op.Report = reports
  each_operation (op.Vmcall r) = vmcalls r

-- of rows alone
module _ (o : Opening) (t v line : ℕ) (C : OperationRow → Type 0)
    (sets : (r x : ℕ) → C (set_value v r x))
    (adds : (r s : ℕ) → C (add_registers v r s))
    (loads : (r gpa : ℕ) → C (shared_load o.machine v line r gpa))
    (stores : (r gpa : ℕ) → C (shared_store o.machine v r gpa))
    (accepts : (gpa : ℕ) → C (accept t v gpa))
    (extends : (i : ℕ) → C (extend_rtmr t v line i))
    (reports : C (report_facts t v line))
    (vmcalls : (r : ℕ) → C (call_host v r)) where
  given : (row known : OperationRow) → C known → ByRow known ≡ ByRow row → C row
  given row known c e = let same : known ≡ row = cc in subst C same c

  pub operation_row : (op : GuestOp) (row : OperationRow) → operation_of o t v line op ≡ ByRow row → C row
  operation_row op row =
      each_operation o t v line (λ x. x ≡ ByRow row → C row)
      (λ r x e. given row (set_value v r x) (sets r x) e)
      (λ r s e. given row (add_registers v r s) (adds r s) e)
      (λ r gpa e. given row (shared_load o.machine v line r gpa) (loads r gpa) e)
      (λ r gpa e. given row (shared_store o.machine v r gpa) (stores r gpa) e)
      (λ gpa e. given row (accept t v gpa) (accepts gpa) e)
      (λ i e. given row (extend_rtmr t v line i) (extends i) e)
      (λ e. given row (report_facts t v line) reports e)
      (λ r e. given row (call_host v r) (vmcalls r) e)
      (λ access r gpa e. cc) op

-- What a page's acceptance makes of the world: the entry that was PENDING is MAPPED, or nothing has changed.
pub accepted : (C : World → Type 0) (pending : Bool) (t gpa : ℕ) (w : World) → (pending ≡ true → C (accept_page true t gpa w)) → (pending ≡ false → C w) → C (accept_page pending t gpa w)
accepted C true t gpa w pends stays = pends refl
accepted C false t gpa w pends stays = stays refl
