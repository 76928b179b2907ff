-- Each act that imports nothing, and each event of a guest, leaves the TDs that are being imported as they are.
use Rattle.std.proofs.Common.{◌≡◌, refl, sym, ◌∙◌, ap, ℕ, true, false, ◌==◌}
use Rattle.std.specs.List.{list_any}
use Rattle.td_words.specs.declared.names.Access.{Access}
use Rattle.td_words.specs.declared.names.PageKind.TheVariants as kind
use Rattle.td_words.specs.declared.calls.Call.{Call}
use Rattle.td_words.specs.declared.calls.GuestOp.{GuestOp}
use Rattle.td_words.specs.NameNumber.{op_number}
use Rattle.flat_core.specs.World.{World}
use Rattle.flat_core.specs.Opening.{Opening}
use Rattle.flat_core.specs.Row.{OperationRow, Passes}
use Rattle.flat_core.specs.Conditions.{running_ops}
use Rattle.flat_core.specs.Effects.{tell_words, leave_guest}
use Rattle.flat_core.specs.Guest.{ByRow, operation_of, reach}
use Rattle.flat_core.specs.Table.{row_of}
use Rattle.flat_core.specs.Lawful.{IsPageOf, Lawful}
use Rattle.flat_core.proofs.Ranges.{begun_of}
use Rattle.mig_laws.specs.Ivs.{is_filling}
use Rattle.mig_laws.proofs.Changes.{is_import, Alone, imports_alone, empty_alone, each_rests}
use Rattle.mig_laws.proofs.GuestChanges.{Fixed, fixed, operation_fixed, reach_fixed, operation_alone, reach_alone}
use Rattle.mig_laws.proofs.CallChanges.{call-changes, call-keeps}
use Rattle.mig_laws.proofs.Rest.{IsAtRest, at_rest, never_filling}

pub row-rests : (o : Opening) (me : ℕ) (w : World) → Lawful o.machine w → (c : Call) → Passes ((row_of o me c).items w) → is_import c ≡ false → IsAtRest w ((row_of o me c).act w)
row-rests o me w l c ps none = each_rests (call-changes o me w l c ps) none ((call-keeps o me w l c).given none)

-- a guest's event, where its TD runs
module _ (o : Opening) (w : World) (l : Lawful o.machine w) (t v : ℕ) (runs : list_any (λ a. op_number a == op_number (w.tds.ops t)) running_ops ≡ true) (page : IsPageOf w.pages t v kind.Tdvpr) where
  guest_rests : (u : World) → fixed u ≡ fixed w → Alone w u t → IsAtRest w u
  guest_rests u same alone = record {
    given = ap (λ (z : Fixed). z.given) same;
    each = imports_alone w u t alone (λ a. absurd (never_filling running_ops (w.tds.ops t) (refl, refl, refl) runs (ap (λ (z : Fixed). is_filling (z.ops t)) (sym same) ∙ a.standing)));
    empty = empty_alone w u t alone (λ a e. absurd (begun_of running_ops (w.tds.ops t) refl runs (ap (λ (z : Fixed). z.ops t) (sym same) ∙ e)));
  }

  pub operation_rests : (line : ℕ) (op : GuestOp) (row : OperationRow) → operation_of o t v line op ≡ ByRow row → IsAtRest w (tell_words (row.tells w) (row.act w))
  operation_rests line op row is = guest_rests _ (operation_fixed o t v line op row w is) (operation_alone o w l t v page line op row is)

  pub reach_rests : (access : Access) (r gpa at : ℕ) → IsAtRest w (reach t v access r gpa at w)
  reach_rests access r gpa at = guest_rests _ (reach_fixed t v access r gpa at w) (reach_alone o w l t v page access r gpa at)

pub left_rests : (v : ℕ) (w : World) → IsAtRest w (leave_guest v w)
left_rests v w = at_rest w (leave_guest v w) refl (λ x a. record { kind = a.kind; life = a.life })
