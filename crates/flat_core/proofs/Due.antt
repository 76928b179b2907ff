-- The next event of a processor, case by case, with what is known in each.
use Rattle.std.proofs.Common.{◌≡◌, refl, sym, subst, ℕ, ◌+◌, List, [], ◌∷◌, length, Option, Some, None, Bool, true, false}
use Rattle.std.specs.Prelude.{nat_le, not}
use Rattle.td_words.specs.declared.names.Access.{Access}
use Rattle.td_words.specs.declared.calls.Call.{Call}
use Rattle.td_words.specs.declared.calls.GuestOp.{GuestOp}
use Rattle.td_words.specs.declared.replies.Outcome.{Outcome}
use Rattle.td_words.specs.declared.replies.Outcome.TheVariants.{Stop, Max}
use Rattle.flat_core.specs.World.{World}
use Rattle.flat_core.specs.Processor.{LockId, Held, Phase, Trying, Undoing, Answered, Guest, Lp}
use Rattle.flat_core.specs.Opening.{Opening}
use Rattle.flat_core.specs.Row.{OperationRow, Undoes, Releases, next_in}
use Rattle.flat_core.specs.Table.{row_of}
use Rattle.flat_core.specs.Tree.{page_of_gpa}
use Rattle.flat_core.specs.Translations.{look_up}
use Rattle.flat_core.specs.Guest.{Operation, ByRow, Private, operation_of}
use Rattle.flat_core.specs.Event.{State, Event, OfCall, OfOperation, Walks, Reaches, Leaves, next_event, event_for, line_event, entered_event, epoch_event, guest_event, staying_event, due_event, max_event, operation_event, operation_due, private_event, nothing_more, lines_left, is_epoch_lock}

abbrev pub no_epoch : List Held → Bool
no_epoch [] = true
no_epoch (h ∷ hs) = not (is_epoch_lock h.lock)

-- in guest, with E given back
pub record IsInside (o : Opening) (p : ℕ) (lp : Lp) (c : Call) (cs : List Call) (g : Guest) : Type 0 where
  pub line : lines_left o p lp ≡ c ∷ cs
  pub guest : lp.guest ≡ Some g
  pub freed : no_epoch lp.call.held ≡ true

-- and an operation is to go on, or begins
pub record IsOnWay (o : Opening) (w : World) (g : Guest) (op : GuestOp) : Type 0 where
  pub stays : g.leaving ≡ None
  pub trying : g.operation.phase ≡ Trying
  pub due : operation_due o w g ≡ Some op
  pub more : nat_le g.most g.completed ≡ false

pub data Due (o : Opening) (w : World) (p : ℕ) (lp : Lp) : Event → Type 0 where
  calls : (c : Call) (cs : List Call) → lines_left o p lp ≡ c ∷ cs → lp.guest ≡ None → Due o w p lp (OfCall (row_of o p c) (next_in ((row_of o p c).items w) lp.call.phase lp.call.held))
  frees : (c : Call) (cs : List Call) (g : Guest) (h : Held) (hs : List Held) → lines_left o p lp ≡ c ∷ cs → lp.guest ≡ Some g → lp.call.held ≡ h ∷ hs → is_epoch_lock h.lock ≡ true
      → Due o w p lp (OfCall (row_of o p c) (Releases h))
  leaves : (c : Call) (cs : List Call) (g : Guest) (out : Outcome) → IsInside o p lp c cs g → g.leaving ≡ Some out → Due o w p lp (Leaves g.vp out)
  stops : (c : Call) (cs : List Call) (g : Guest) → IsInside o p lp c cs g → g.leaving ≡ None → g.operation.phase ≡ Trying → operation_due o w g ≡ None → Due o w p lp (Leaves g.vp Stop)
  fills : (c : Call) (cs : List Call) (g : Guest) (op : GuestOp) → IsInside o p lp c cs g → g.leaving ≡ None → g.operation.phase ≡ Trying → operation_due o w g ≡ Some op → nat_le g.most g.completed ≡ true
      → Due o w p lp (Leaves g.vp Max)
  operates : (c : Call) (cs : List Call) (g : Guest) (op : GuestOp) (row : OperationRow) → IsInside o p lp c cs g → IsOnWay o w g op → operation_of o g.tdr g.vp (length lp.replies + 1) op ≡ ByRow row
      → Due o w p lp (OfOperation row (next_in (row.items w) Trying g.operation.held))
  walks : (c : Call) (cs : List Call) (g : Guest) (op : GuestOp) (access : Access) (r gpa : ℕ) → IsInside o p lp c cs g → IsOnWay o w g op → operation_of o g.tdr g.vp (length lp.replies + 1) op ≡ Private access r gpa
      → look_up lp.cached g.tdr (page_of_gpa gpa) access ≡ None → Due o w p lp (Walks access gpa)
  reaches : (c : Call) (cs : List Call) (g : Guest) (op : GuestOp) (access : Access) (r gpa page : ℕ) → IsInside o p lp c cs g → IsOnWay o w g op → operation_of o g.tdr g.vp (length lp.replies + 1) op ≡ Private access r gpa
      → look_up lp.cached g.tdr (page_of_gpa gpa) access ≡ Some page → Due o w p lp (Reaches g.tdr g.vp access r gpa page)
  undoes : (c : Call) (cs : List Call) (g : Guest) (l : LockId) → IsInside o p lp c cs g → g.leaving ≡ None → g.operation.phase ≡ Undoing l → Due o w p lp (OfOperation nothing_more (Undoes l))
  gives_back : (c : Call) (cs : List Call) (g : Guest) (out : Option Outcome) → IsInside o p lp c cs g → g.leaving ≡ None → g.operation.phase ≡ Answered out → Due o w p lp (OfOperation nothing_more (next_in [] (Answered out) g.operation.held))

module _ (o : Opening) (w : World) (p : ℕ) (lp : Lp) (c : Call) (cs : List Call) (line : lines_left o p lp ≡ c ∷ cs) where
  module _ (g : Guest) (guest : lp.guest ≡ Some g) where
    module _ (freed : no_epoch lp.call.held ≡ true) where
      inside : IsInside o p lp c cs g
      inside = record { line = line; guest = guest; freed = freed }

      module _ (stays : g.leaving ≡ None) where
        module _ (op : GuestOp) (way : IsOnWay o w g op) where
          of_private : (access : Access) (r gpa : ℕ) → operation_of o g.tdr g.vp (length lp.replies + 1) op ≡ Private access r gpa
              → (found : Option ℕ) → look_up lp.cached g.tdr (page_of_gpa gpa) access ≡ found → Due o w p lp (private_event g access r gpa found)
          of_private access r gpa is None e = walks c cs g op access r gpa inside way is e
          of_private access r gpa is (Some page) e = reaches c cs g op access r gpa page inside way is e

          of_operation : (x : Operation) → operation_of o g.tdr g.vp (length lp.replies + 1) op ≡ x → Due o w p lp (operation_event w lp g x)
          of_operation (ByRow row) is =
              subst (λ (z : Phase (Option Outcome)). Due o w p lp (OfOperation row (next_in (row.items w) z g.operation.held))) (sym way.trying) (operates c cs g op row inside way is)
          of_operation (Private access r gpa) is = of_private access r gpa is (look_up lp.cached g.tdr (page_of_gpa gpa) access) refl

        of_max : g.operation.phase ≡ Trying → (op : GuestOp) → operation_due o w g ≡ Some op → (b : Bool) → nat_le g.most g.completed ≡ b → Due o w p lp (max_event o w lp g op b)
        of_max t op d true e = fills c cs g op inside stays t d e
        of_max t op d false e = of_operation op (record { stays = stays; trying = t; due = d; more = e }) (operation_of o g.tdr g.vp (length lp.replies + 1) op) refl

        of_due : g.operation.phase ≡ Trying → (x : Option GuestOp) → operation_due o w g ≡ x → Due o w p lp (due_event o w lp g x)
        of_due t None e = stops c cs g inside stays t e
        of_due t (Some op) e = of_max t op e (nat_le g.most g.completed) refl

        of_staying : (phase : Phase (Option Outcome)) → g.operation.phase ≡ phase → Due o w p lp (staying_event o w lp g phase)
        of_staying Trying e = of_due e (operation_due o w g) refl
        of_staying (Undoing l) e = undoes c cs g l inside stays e
        of_staying (Answered out) e = gives_back c cs g out inside stays e

      of_guest : (leaving : Option Outcome) → g.leaving ≡ leaving → Due o w p lp (guest_event o w lp g leaving)
      of_guest (Some out) e = leaves c cs g out inside e
      of_guest None e = of_staying e g.operation.phase refl

    of_entered : (hs : List Held) → lp.call.held ≡ hs → Due o w p lp (entered_event o w lp (row_of o p c) g hs)
    of_entered [] e = of_guest (rw e refl) g.leaving refl
    of_entered (h ∷ hs) e = by (is_epoch_lock h.lock) refl
      where
        by : (b : Bool) → is_epoch_lock h.lock ≡ b → Due o w p lp (epoch_event o w lp (row_of o p c) g h b)
        by true b = frees c cs g h hs line guest e b
        by false b = of_guest (rw (e, b) refl) g.leaving refl

  of_line : (x : Option Guest) → lp.guest ≡ x → Due o w p lp (line_event o w lp (row_of o p c) x)
  of_line None e = calls c cs line e
  of_line (Some g) e = of_entered g e lp.call.held refl

pub due_event_is : (o : Opening) (s : State) (p : ℕ) (e : Event) → next_event o s p ≡ Some e → Due o s.world p (s.lps p) e
due_event_is o s p e is = by (lines_left o p (s.lps p)) refl is
  where
    by : (x : List Call) → lines_left o p (s.lps p) ≡ x → event_for o s.world p (s.lps p) x ≡ Some e → Due o s.world p (s.lps p) e
    by [] line is = cc
    by (c ∷ cs) line is =
        let same : line_event o s.world (s.lps p) (row_of o p c) (s.lps p).guest ≡ e = cc in
        subst (λ (x : Event). Due o s.world p (s.lps p) x) same (of_line o s.world p (s.lps p) c cs line (s.lps p).guest refl)
