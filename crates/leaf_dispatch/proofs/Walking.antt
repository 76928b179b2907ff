-- Each load of a guest's walk lowers what the guest can still make.
use Rattle.std.proofs.Common.{◌≡◌, ℕ, Bool, true, false, if◌then◌else◌, List, Option, Some, None, slice_get, refl, ap, ◌∙◌, subst}
use Rattle.std.specs.Prelude.{nat_le}
use Rattle.td_words.specs.declared.names.Access.{Access}
use Rattle.td_words.specs.declared.names.Access.TheVariants.{Read, Write}
use Rattle.td_words.specs.declared.calls.GuestOp.{GuestOp}
use Rattle.td_words.specs.declared.calls.GuestOp.TheVariants as op
use Rattle.td_words.specs.declared.replies.Outcome.{Outcome}
use Rattle.td_words.specs.declared.replies.Outcome.TheVariants.{Max}
use Rattle.flat_core.specs.Processor.{Translation, Walk}
use Rattle.flat_core.specs.Tree.{page_of_gpa}
use Rattle.flat_core.specs.Translations.{look_up}
use Rattle.flat_core.specs.Guest.{is_private, walk_level}
use Rattle.leaf_engine.specs.Turns.{Standing}
use Rattle.leaf_engine.specs.Guests.{WordGuest, Step, Operates, Loads, Leaves, private_step, operation_step, due_step, staying_step, step_of}

-- a walk is due: its operation stays the same whatever is cached, and wherever the walk is
pub record WalkDue (codes : ℕ → ℕ → List GuestOp) (ts : List Translation) (g : WordGuest) (access : Access) (gpa level : ℕ) : Type 0 where
  pub stays : g.leaving ≡ None
  pub more : nat_le g.most g.completed ≡ false
  pub level_is : level ≡ walk_level g.walk
  pub none : look_up ts g.tdr (page_of_gpa gpa) access ≡ None
  pub register : ℕ
  pub again : (us : List Translation) (k : Option Walk) (run : Option Standing) → let h = record g { walk = k; run = run } in
      step_of codes us h ≡ private_step h access register gpa (look_up us g.tdr (page_of_gpa gpa) access)

module _ (codes : ℕ → ℕ → List GuestOp) (ts : List Translation) (g : WordGuest) (access : Access) (gpa level page : ℕ) where
  abbrev goal : Type 0
  goal = WalkDue codes ts g access gpa level

  abbrev due_is : Step → Type 0
  due_is s = s ≡ Loads access gpa level page

  module _ (stays : g.leaving ≡ None) (o : GuestOp) (at : slice_get (codes g.tdr g.index) g.position ≡ Some o) (more : nat_le g.most g.completed ≡ false) where
    -- the operation that is due, whatever is cached
    goes-by : (us : List Translation) (k : Option Walk) (run : Option Standing) → let h = record g { walk = k; run = run } in step_of codes us h ≡ operation_step us h o
    goes-by us k run =
        let h : WordGuest = record g { walk = k; run = run } in
        ap (staying_step codes us h) stays ∙ (ap (due_step us h) at ∙ ap (λ (b : Bool). if b then Leaves Max else operation_step us h o) more)

    by-found : (a : Access) (r n : ℕ) (found : Option ℕ) → look_up ts g.tdr (page_of_gpa n) a ≡ found → due_is (private_step g a r n found)
        → ((us : List Translation) (k : Option Walk) (run : Option Standing) → let h = record g { walk = k; run = run } in operation_step us h o ≡ private_step h a r n (look_up us g.tdr (page_of_gpa n) a)) → goal
    by-found a r n (Some p) is e h = cc
    by-found a r n None is e h =
        let same-access : a ≡ access = cc in
        let same-gpa : n ≡ gpa = cc in
        let same-level : level ≡ walk_level g.walk = cc in
        subst (λ (z : Access). WalkDue codes ts g z gpa level) same-access
        (subst (λ (z : ℕ). WalkDue codes ts g a z level) same-gpa
        (record {
          stays = stays;
          more = more;
          level_is = same-level;
          none = is;
          register = r;
          again = λ us k run. goes-by us k run ∙ h us k run;
        }))

  by-load : g.leaving ≡ None → nat_le g.most g.completed ≡ false → (r n : ℕ) → slice_get (codes g.tdr g.index) g.position ≡ Some (op.Load r n) → (b : Bool) → is_private n ≡ b → due_is (if b then private_step g Read r n (look_up ts g.tdr (page_of_gpa n) Read) else Operates (op.Load r n)) → goal
  by-load stays more r n at false is e = cc
  by-load stays more r n at true is e =
      by-found stays (op.Load r n) at more Read r n (look_up ts g.tdr (page_of_gpa n) Read) refl e
      (λ us k run. (let h : WordGuest = record g { walk = k; run = run } in ap (λ (b : Bool). if b then private_step h Read r n (look_up us g.tdr (page_of_gpa n) Read) else Operates (op.Load r n)) is))

  by-store : g.leaving ≡ None → nat_le g.most g.completed ≡ false → (r n : ℕ) → slice_get (codes g.tdr g.index) g.position ≡ Some (op.Store r n) → (b : Bool) → is_private n ≡ b → due_is (if b then private_step g Write r n (look_up ts g.tdr (page_of_gpa n) Write) else Operates (op.Store r n)) → goal
  by-store stays more r n at false is e = cc
  by-store stays more r n at true is e =
      by-found stays (op.Store r n) at more Write r n (look_up ts g.tdr (page_of_gpa n) Write) refl e
      (λ us k run. (let h : WordGuest = record g { walk = k; run = run } in ap (λ (b : Bool). if b then private_step h Write r n (look_up us g.tdr (page_of_gpa n) Write) else Operates (op.Store r n)) is))

  by-operation : g.leaving ≡ None → nat_le g.most g.completed ≡ false → (o : GuestOp) → slice_get (codes g.tdr g.index) g.position ≡ Some o → due_is (operation_step ts g o) → goal
  by-operation stays more (op.Load r n) at e = by-load stays more r n at (is_private n) refl e
  by-operation stays more (op.Store r n) at e = by-store stays more r n at (is_private n) refl e
  by-operation stays more (op.Set r x) at e = cc
  by-operation stays more (op.Secret r k) at e = cc
  by-operation stays more (op.Add r s) at e = cc
  by-operation stays more (op.Accept n) at e = cc
  by-operation stays more (op.Rtmr i) at e = cc
  by-operation stays more op.Report at e = cc
  by-operation stays more (op.Vmcall r) at e = cc

  by-count : g.leaving ≡ None → (o : GuestOp) → slice_get (codes g.tdr g.index) g.position ≡ Some o → (b : Bool) → nat_le g.most g.completed ≡ b → due_is (if b then Leaves Max else operation_step ts g o) → goal
  by-count stays o at true is e = cc
  by-count stays o at false is e = by-operation stays is o at e

  by-due : g.leaving ≡ None → (o : Option GuestOp) → slice_get (codes g.tdr g.index) g.position ≡ o → due_is (due_step ts g o) → goal
  by-due stays None at e = cc
  by-due stays (Some o) at e = by-count stays o at (nat_le g.most g.completed) refl e

  by-leaving : (l : Option Outcome) → g.leaving ≡ l → due_is (staying_step codes ts g l) → goal
  by-leaving None is e = by-due is (slice_get (codes g.tdr g.index) g.position) refl e
  by-leaving (Some out) is e = cc

  pub walk-due : due_is (step_of codes ts g) → goal
  walk-due e = by-leaving g.leaving refl e
