-- What stays of the states of a TD that is exported: MRTD and its virtual processors, and once it is paused RTMRs, registers and
-- positions too.
use Rattle.std.proofs.Common.{◌≡◌, refl, ◌∙◌, ap, subst, ℕ, List, [], ◌∷◌, map, None, true, false, ◌==◌}
use Rattle.std.specs.List.{list_any}
use Rattle.std.proofs.lemmas.Bool.{eqb-true}
use Rattle.td_words.specs.declared.names.Access.{Access}
use Rattle.td_words.specs.declared.names.PageKind.TheVariants as kind
use Rattle.td_words.specs.declared.calls.Call.{Call}
use Rattle.td_words.specs.declared.calls.GuestOp.{GuestOp}
use Rattle.td_words.specs.NameNumber.{op_number}
use Rattle.td_words.specs.Slots.{output_slot}
use Rattle.flat_core.specs.World.{World, VpImage}
use Rattle.flat_core.specs.Opening.{Opening}
use Rattle.flat_core.specs.Row.{OperationRow, Passes}
use Rattle.flat_core.specs.Conditions.{running_ops}
use Rattle.flat_core.specs.Effects.{tell_words}
use Rattle.flat_core.specs.Guest.{ByRow, operation_of, reach}
use Rattle.flat_core.specs.ExportRows.{vp_image, image_of}
use Rattle.flat_core.specs.Table.{row_of}
use Rattle.flat_core.specs.Lawful.{IsPageOf, Lawful}
use Rattle.flat_core.proofs.Tests.{by_test, same_self}
use Rattle.mig_laws.specs.Ivs.{IsExporting}
use Rattle.mig_laws.specs.Paused.{is_paused}
use Rattle.mig_laws.proofs.Changes.{pauses_none, Td, Vp, vp, Alone, Goes, each_goes}
use Rattle.mig_laws.proofs.GuestChanges.{Fixed, fixed, operation_fixed, reach_fixed, operation_alone, reach_alone}
use Rattle.mig_laws.proofs.CallChanges.{call-changes}
use Rattle.mig_laws.proofs.Calm.{IsCalm}
use Rattle.mig_laws.proofs.Paused.{running_unpaused}

-- of a TD whose export stands afterwards
pub record IsStill (w v : World) : Type 0 where
  pub build : (x : ℕ) → IsExporting v x → (v.tds.mrtds x ≡ w.tds.mrtds x) × (v.tds.vps x ≡ w.tds.vps x)
  pub rtmrs : (x : ℕ) → IsExporting v x → is_paused (w.tds.ops x) ≡ true → v.hidden.rtmrs x ≡ w.hidden.rtmrs x
  pub vp : (x : ℕ) → IsExporting v x → is_paused (w.tds.ops x) ≡ true → (p : ℕ) → list_any (λ q. q == p) (w.tds.vps x) ≡ true → vp_image v p ≡ vp_image w p

map_same : (f g : ℕ → VpImage) (ps : List ℕ) → ((p : ℕ) → list_any (λ q. q == p) ps ≡ true → f p ≡ g p) → map f ps ≡ map g ps
map_same f g [] h = refl
map_same f g (p ∷ ps) h =
    let here : f p ≡ g p = h p (let self = same_self p in rw self refl) in
    let rest = map_same f g ps (λ q e. h q (by_test (p == q) (λ y. rw y refl) (λ y. rw y e))) in
    λ j. here j ∷ rest j

-- so a paused TD is the image that it was
pub image_stays : (w v : World) → IsCalm w v → IsStill w v → (x : ℕ) → IsExporting v x → is_paused (w.tds.ops x) ≡ true → image_of v x ≡ image_of w x
image_stays w v c s x a p =
    let vps : map (vp_image v) (v.tds.vps x) ≡ map (vp_image w) (w.tds.vps x) = ap (map (vp_image v)) (s.build x a).1 ∙ map_same (vp_image v) (vp_image w) (w.tds.vps x) (s.vp x a p) in
    λ j. record { pages = λ n. c.memory x a p n j; mrtd = (s.build x a).0 j; rtmrs = s.rtmrs x a p j; vps = vps j }

-- where nothing of it changes
pub still_same : (w v : World) → v.tds.mrtds ≡ w.tds.mrtds → v.tds.vps ≡ w.tds.vps → v.hidden.rtmrs ≡ w.hidden.rtmrs → v.hidden.registers ≡ w.hidden.registers → v.vps.positions ≡ w.vps.positions → IsStill w v
still_same w v mrtds vps rtmrs registers positions = record {
  build = λ x a. (ap (λ (f : ℕ → ℕ → ℕ). f x) mrtds, ap (λ (f : ℕ → List ℕ). f x) vps);
  rtmrs = λ x a p. ap (λ (f : ℕ → ℕ → ℕ). f x) rtmrs;
  vp = λ x a p q h j. record { registers = registers j q; position = positions j q };
}

-- the image of a virtual processor that is as it was, but for who is in guest
image_is : (w v : World) (q : ℕ) → record (vp v q) { entered = w.vps.entered q } ≡ vp w q → vp_image v q ≡ vp_image w q
image_is w v q e = ap (λ (z : Vp). let y : VpImage = record { registers = z.registers; position = z.position } in y) e

pub row-still : (o : Opening) (me : ℕ) (w : World) → Lawful o.machine w → (c : Call) → Passes ((row_of o me c).items w) → output_slot c ≡ None → IsStill w ((row_of o me c).act w)
row-still o me w l c ps none =
    let v : World = (row_of o me c).act w in
    let goes : (x : ℕ) → IsExporting v x → Goes (pauses_none c) w v x = each_goes (call-changes o me w l c ps) none in
    record {
      build = λ x a. (ap (λ (z : Td). z.mrtd) (goes x a).td_is, ap (λ (z : Td). z.vps) (goes x a).td_is);
      rtmrs = λ x a p. ap (λ (z : Td). z.rtmrs) (goes x a).td_is;
      vp = λ x a p q h. image_is w v q ((goes x a).vps q h);
    }

-- a guest's event, where its TD runs, and so isn't paused
module _ (o : Opening) (w : World) (l : Lawful o.machine w) (t v : ℕ) (runs : list_any (λ a. op_number a == op_number (w.tds.ops t)) running_ops ≡ true) (page : IsPageOf w.pages t v kind.Tdvpr) where
  guest_still : (u : World) → fixed u ≡ fixed w → Alone w u t → IsStill w u
  guest_still u same alone = record {
    build = λ x a. (ap (λ (z : Fixed). z.mrtds x) same, ap (λ (z : Fixed). z.vps x) same);
    rtmrs = λ x a p. ap (λ (z : Td). z.rtmrs) (alone.same x (other x p)).td_is;
    vp = λ x a p q h. image_is w u q (ap (λ (z : Vp). record z { entered = w.vps.entered q }) ((alone.same x (other x p)).vps (alone.back x (other x p) a.alive) q h));
  }
    where
      other : (x : ℕ) → is_paused (w.tds.ops x) ≡ true → (x == t) ≡ false
      other x p = by_test (x == t) (λ y. absurd (running_unpaused (w.tds.ops t) runs (subst (λ (z : ℕ). is_paused (w.tds.ops z) ≡ true) (eqb-true x t y) p))) (λ y. y)

  pub operation_still : (line : ℕ) (op : GuestOp) (row : OperationRow) → operation_of o t v line op ≡ ByRow row → IsStill w (tell_words (row.tells w) (row.act w))
  operation_still line op row is = guest_still _ (operation_fixed o t v line op row w is) (operation_alone o w l t v page line op row is)

  pub reach_still : (access : Access) (r gpa at : ℕ) → IsStill w (reach t v access r gpa at w)
  reach_still access r gpa at = guest_still _ (reach_fixed t v access r gpa at w) (reach_alone o w l t v page access r gpa at)
