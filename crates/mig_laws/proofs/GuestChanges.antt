-- What an operation of a guest, and its access to a page, change: its own TD alone, which runs; and of that neither op state nor MRTD
-- nor which virtual processors it has.
use Rattle.std.proofs.Common.{◌≡◌, refl, sym, ◌∙◌, ap, subst, ℕ, List, [], Option, false, ◌==◌, arith}
use Rattle.td_words.specs.declared.names.Access.{Access}
use Rattle.td_words.specs.declared.names.Access.TheVariants.{Read, Write}
use Rattle.td_words.specs.declared.names.PageKind.TheVariants as kind
use Rattle.td_words.specs.declared.names.LifeState.{LifeState}
use Rattle.td_words.specs.declared.names.OpState.{OpState}
use Rattle.td_words.specs.declared.names.VcpuState.{VcpuState}
use Rattle.td_words.specs.declared.calls.GuestOp.{GuestOp}
use Rattle.flat_core.specs.World.{World, Pages, Image}
use Rattle.flat_core.specs.Opening.{Opening}
use Rattle.flat_core.specs.Row.{OperationRow}
use Rattle.flat_core.specs.Effects.{pass_operation, tell_words}
use Rattle.flat_core.specs.Guest.{ByRow, operation_of, is_pending_at, reach}
use Rattle.flat_core.specs.Lawful.{IsPageOf, Lawful}
use Rattle.flat_core.proofs.Parts.{IsLive}
use Rattle.flat_core.proofs.Operations.{operation_row, accepted}
use Rattle.flat_core.proofs.Streams.{page_among}
use Rattle.mig_laws.proofs.Changes.{td, Alone}
use Rattle.mig_laws.proofs.CallChanges.{apart_pages}

-- what no guest changes
pub record Fixed : Type 0 where
  pub pages : Pages
  pub lives : ℕ → LifeState
  pub ops : ℕ → OpState
  pub mrtds : ℕ → ℕ → ℕ
  pub vps : ℕ → List ℕ
  pub states : ℕ → VcpuState
  pub entered : ℕ → Option ℕ
  pub exported : ℕ → ℕ
  pub indexes : ℕ → ℕ
  pub counters : ℕ → ℕ
  pub paused : ℕ → Option Image
  pub given : ℕ → Option Image

abbrev pub fixed : World → Fixed
fixed w = record {
  pages = w.pages;
  lives = w.tds.lives;
  ops = w.tds.ops;
  mrtds = w.tds.mrtds;
  vps = w.tds.vps;
  states = w.vps.states;
  entered = w.vps.entered;
  exported = w.vps.exported;
  indexes = w.vps.indexes;
  counters = w.streams.counters;
  paused = w.hidden.paused;
  given = w.hidden.given;
}

pub operation_fixed : (o : Opening) (t v line : ℕ) (op : GuestOp) (row : OperationRow) (w : World) → operation_of o t v line op ≡ ByRow row → fixed (tell_words (row.tells w) (row.act w)) ≡ fixed w
operation_fixed o t v line op row w is = operation_row o t v line (λ x. fixed (tell_words (x.tells w) (x.act w)) ≡ fixed w)
    (λ r x. refl)
    (λ r s. refl)
    (λ r gpa. refl)
    (λ r gpa. refl)
    (λ gpa. accepted (λ x. fixed (tell_words [] (pass_operation v x)) ≡ fixed w) (is_pending_at w t gpa) t gpa w (λ y. refl) (λ y. refl))
    (λ i. refl)
    refl
    (λ r. refl) op row is

pub reach_fixed : (t v : ℕ) (access : Access) (r gpa page : ℕ) (w : World) → fixed (reach t v access r gpa page w) ≡ fixed w
reach_fixed t v Read r gpa page w = refl
reach_fixed t v Write r gpa page w = refl

module _ (o : Opening) (w : World) (l : Lawful o.machine w) (t v : ℕ) (page : IsPageOf w.pages t v kind.Tdvpr) where
  guest_alone : (u : World) → fixed u ≡ fixed w → ((x : ℕ) → (x == t) ≡ false → td u x ≡ td w x) → ((x n : ℕ) → (x == t) ≡ false → u.hidden.memories x n ≡ w.hidden.memories x n)
      → ((q r : ℕ) → (q == v) ≡ false → u.hidden.registers q r ≡ w.hidden.registers q r) → ((q : ℕ) → (q == v) ≡ false → u.vps.positions q ≡ w.vps.positions q) → Alone w u t
  guest_alone u same tds memories registers positions = record {
    back = λ x y a. record { kind = ap (λ (z : Fixed). z.pages.kinds x) (sym same) ∙ a.kind; life = subst (λ (z : Fixed). IsLive (z.lives x)) same a.life };
    same = λ x y. record {
      td_is = tds x y;
      memories = λ n. memories x n y;
      counters = λ a q e. ap (λ (z : Fixed). z.counters q) same;
      vps = λ a q e. (let off = apart_pages w t x v q page.owner (page_among w.pages x kind.Tdvpr (w.tds.vps x) q (l.tds.vps x a) e).owner y in
          λ j. record { state = (same j).states q; registers = λ r. registers q r off j; position = positions q off j; entered = (same j).entered q; exported = (same j).exported q; index = (same j).indexes q });
      blocked = λ a n s. (let now = ap (λ (z : Fixed). z.pages.blocked (w.tds.entries x 0 n).page) same in omega (arith, now));
    };
  }

  pub operation_alone : (line : ℕ) (op : GuestOp) (row : OperationRow) → operation_of o t v line op ≡ ByRow row → Alone w (tell_words (row.tells w) (row.act w)) t
  operation_alone line op row is = operation_row o t v line (λ x. Alone w (tell_words (x.tells w) (x.act w)) t)
      (λ r x. guest_alone _ refl (λ y z. refl) (λ y n z. refl) (λ q i z. rw z refl) (λ q z. rw z refl))
      (λ r s. guest_alone _ refl (λ y z. refl) (λ y n z. refl) (λ q i z. rw z refl) (λ q z. rw z refl))
      (λ r gpa. guest_alone _ refl (λ y z. refl) (λ y n z. refl) (λ q i z. rw z refl) (λ q z. rw z refl))
      (λ r gpa. guest_alone _ refl (λ y z. refl) (λ y n z. refl) (λ q i z. refl) (λ q z. rw z refl))
      (λ gpa. accepted (λ x. Alone w (tell_words [] (pass_operation v x)) t) (is_pending_at w t gpa) t gpa w
      (λ y. guest_alone _ refl (λ x z. rw z refl) (λ x n z. rw z refl) (λ q i z. refl) (λ q z. rw z refl))
      (λ y. guest_alone _ refl (λ x z. refl) (λ x n z. refl) (λ q i z. refl) (λ q z. rw z refl)))
      (λ i. guest_alone _ refl (λ y z. rw z refl) (λ y n z. refl) (λ q j z. refl) (λ q z. rw z refl))
      (guest_alone _ refl (λ y z. refl) (λ y n z. refl) (λ q i z. refl) (λ q z. rw z refl))
      (λ r. guest_alone _ refl (λ y z. refl) (λ y n z. refl) (λ q i z. refl) (λ q z. rw z refl)) op row is

  pub reach_alone : (access : Access) (r gpa at : ℕ) → Alone w (reach t v access r gpa at w) t
  reach_alone Read r gpa at = guest_alone _ refl (λ y z. refl) (λ y n z. refl) (λ q i z. rw z refl) (λ q z. rw z refl)
  reach_alone Write r gpa at = guest_alone _ refl (λ y z. refl) (λ y n z. rw z refl) (λ q i z. refl) (λ q z. rw z refl)
