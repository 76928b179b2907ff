-- Which words each event tells.
use Rattle.std.proofs.Common.{◌≡◌, refl, sym, ◌∙◌, ap, subst, ℕ, ◌+◌, List, [], ◌∷◌, ◌++◌, length, Option, Some, None, Bool, true, false, if◌then◌else◌}
use Rattle.td_words.specs.declared.calls.GuestOp.{GuestOp}
use Rattle.td_words.specs.declared.calls.GuestOp.TheVariants as op
use Rattle.td_words.specs.declared.names.Access.TheVariants.{Read, Write}
use Rattle.td_words.specs.declared.replies.Outcome.{Outcome}
use Rattle.flat_core.specs.World.{World}
use Rattle.flat_core.specs.Processor.{Answered, Held, Guest, Lp}
use Rattle.flat_core.specs.Opening.{Opening}
use Rattle.flat_core.specs.Row.{OperationRow, Move, Attempts, Undoes, Refuses, Succeeds, Releases, Rests, next, next_in}
use Rattle.flat_core.specs.Guest.{Operation, ByRow, Private, operation_of, is_private, shared_load, shared_store, register_told}
use Rattle.flat_core.specs.Event.{Event, OfOperation, next_event, operation_due, nothing_more}
use Rattle.flat_core.specs.TwoWorlds.{words_told}
use Rattle.flat_core.proofs.Due.{Due, calls, frees, leaves, stops, fills, operates, walks, reaches, undoes, gives_back, due_event_is}
use Rattle.flat_core.proofs.Telling.{event_grows}
use Rattle.flat_guests.specs.Told.{told_by_operation, told_by_event, EventsTellTheirs}

module _ (o : Opening) (w : World) (g : Guest) (line : ℕ) where
  abbrev Says : List ℕ → Operation → Type 0
  Says words x = (row : OperationRow) → x ≡ ByRow row → row.tells w ≡ words

  by_row : (words : List ℕ) (known : OperationRow) → known.tells w ≡ words → Says words (ByRow known)
  by_row words known h row e =
      let same : known ≡ row = cc in
      subst (λ (x : OperationRow). x.tells w ≡ words) same h

  load_tells : (r gpa : ℕ) (b : Bool) → Says [] (if b then Private Read r gpa else ByRow (shared_load o.machine g.vp line r gpa))
  load_tells r gpa true = λ row e. cc
  load_tells r gpa false = by_row [] (shared_load o.machine g.vp line r gpa) refl

  store_tells : (r gpa : ℕ) (b : Bool)
      → Says (if b then [] else register_told w g.vp r ∷ []) (if b then Private Write r gpa else ByRow (shared_store o.machine g.vp r gpa))
  store_tells r gpa true = λ row e. cc
  store_tells r gpa false = by_row (register_told w g.vp r ∷ []) (shared_store o.machine g.vp r gpa) refl

  operation_says : (op : GuestOp) → Says (told_by_operation (Some op) g w) (operation_of o g.tdr g.vp line op)
  operation_says (op.Set r x) = by_row [] _ refl
  operation_says (op.Secret r k) = by_row [] _ refl
  operation_says (op.Add r s) = by_row [] _ refl
  operation_says (op.Load r gpa) = load_tells r gpa (is_private gpa)
  operation_says (op.Store r gpa) = store_tells r gpa (is_private gpa)
  operation_says (op.Accept gpa) = by_row [] _ refl
  operation_says (op.Rtmr i) = by_row [] _ refl
  operation_says op.Report = by_row [] _ refl
  operation_says (op.Vmcall r) = by_row (register_told w g.vp r ∷ []) _ refl

module _ (o : Opening) (w : World) (p : ℕ) (lp : Lp) where
  abbrev Theirs : Option Guest → Event → Type 0
  Theirs guest e = words_told w (Some e) ≡ told_by_event o guest (Some e) w

  move_tells : (g : Guest) (op : GuestOp) (row : OperationRow) (move : Move (Option Outcome)) → operation_due o w g ≡ Some op → operation_of o g.tdr g.vp (length lp.replies + 1) op ≡ ByRow row
      → Theirs (Some g) (OfOperation row move)
  move_tells g op row (Attempts l m) d e = refl
  move_tells g op row (Undoes l) d e = refl
  move_tells g op row (Refuses r) d e = refl
  move_tells g op row Succeeds d e = operation_says o w g (length lp.replies + 1) op row e ∙ ap (λ (x : Option GuestOp). told_by_operation x g w) (sym d)
  move_tells g op row (Releases x) d e = refl
  move_tells g op row Rests d e = refl

  ending_tells : (g : Guest) (out : Option Outcome) (hs : List Held) → Theirs (Some g) (OfOperation nothing_more (next_in [] (Answered out) hs))
  ending_tells g out [] = refl
  ending_tells g out (h ∷ hs) = refl

  of_processor : (guest : Option Guest) (e : Event) → lp.guest ≡ guest → Theirs guest e → Theirs lp.guest e
  of_processor guest e x h = subst (λ (y : Option Guest). Theirs y e) (sym x) h

  due_tells : (e : Event) → Due o w p lp e → Theirs lp.guest e
  due_tells e (calls c cs line none) = of_processor None e none refl
  due_tells e (frees c cs g h hs line guest held epoch) = of_processor (Some g) e guest refl
  due_tells e (leaves c cs g out x l) = of_processor (Some g) e x.guest refl
  due_tells e (stops c cs g x l t d) = of_processor (Some g) e x.guest refl
  due_tells e (fills c cs g op x l t d m) = of_processor (Some g) e x.guest refl
  due_tells e (operates c cs g op row x way is) = of_processor (Some g) e x.guest (move_tells g op row (next (row.items w) (length g.operation.held)) way.due is)
  due_tells e (walks c cs g op access r gpa x way is lost) = of_processor (Some g) e x.guest refl
  due_tells e (reaches c cs g op access r gpa page x way is found) = of_processor (Some g) e x.guest refl
  due_tells e (undoes c cs g l x s h) = of_processor (Some g) e x.guest refl
  due_tells e (gives_back c cs g out x s h) = of_processor (Some g) e x.guest (ending_tells g out g.operation.held)

pub events_tell_theirs : EventsTellTheirs
events_tell_theirs o s p = event_grows o s p ∙ ap (λ (xs : List ℕ). s.world.outgoing.told ++ xs) (by (next_event o s p) refl)
  where
    none : (guest : Option Guest) → [] ≡ told_by_event o guest None s.world
    none None = refl
    none (Some g) = refl

    by : (x : Option Event) → next_event o s p ≡ x → words_told s.world x ≡ told_by_event o (s.lps p).guest x s.world
    by None e = none (s.lps p).guest
    by (Some x) e = due_tells o s.world p (s.lps p) x (due_event_is o s p x e)
