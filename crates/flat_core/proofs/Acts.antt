-- What an event makes of the world, with what is known of its processor: the act of a call or of its guest's operation, its
-- guest's access through a cached translation, or its count step. All other events leave the world as it is.
use Rattle.std.proofs.Common.{◌≡◌, refl, ℕ, zero, suc, ◌+◌, List, [], ◌∷◌, length, Option, Some, None, true, false}
use Rattle.td_words.specs.declared.names.Access.{Access}
use Rattle.td_words.specs.declared.calls.Call.{Call}
use Rattle.td_words.specs.declared.calls.GuestOp.{GuestOp}
use Rattle.td_words.specs.declared.replies.Outcome.{Outcome}
use Rattle.td_words.specs.declared.replies.Reply.{Reply}
use Rattle.flat_core.specs.World.{World}
use Rattle.flat_core.specs.Processor.{Phase, Trying, Undoing, Answered, Held, Guest}
use Rattle.flat_core.specs.Opening.{Opening}
use Rattle.flat_core.specs.Row.{Item, Check, Try, Row, OperationRow, Passes, next, next_in}
use Rattle.flat_core.specs.Table.{row_of}
use Rattle.flat_core.specs.Tree.{page_of_gpa}
use Rattle.flat_core.specs.Translations.{look_up}
use Rattle.flat_core.specs.Effects.{leave_guest, tell_words}
use Rattle.flat_core.specs.Guest.{ByRow, Private, operation_of, reach}
use Rattle.flat_core.specs.Event.{State, Event, next_event, lines_left, nothing_more, world_after, call_world, operation_world, after_event, event}
use Rattle.flat_core.proofs.Due.{IsInside, Due, calls, frees, leaves, stops, fills, operates, walks, reaches, undoes, gives_back, due_event_is}

module _ (P : World → Type 0) (w : World) (h : P w) where
  by_items : (row : Row) (items : List (Item Reply)) (n : ℕ) → (Passes items → P (row.act w)) → P (call_world row (next items n) w)
  by_items row [] n act = act tt
  by_items row (Check true r ∷ items) n act = by_items row items n (λ ps. act (refl, ps))
  by_items row (Check false r ∷ items) n act = h
  by_items row (Try l m ∷ items) zero act = h
  by_items row (Try l m ∷ items) (suc n) act = by_items row items n act

  pub by_call : (row : Row) (phase : Phase Reply) (hs : List Held) → (Passes (row.items w) → P (row.act w)) → P (call_world row (next_in (row.items w) phase hs) w)
  by_call row Trying hs act = by_items row (row.items w) (length hs) act
  by_call row (Undoing l) hs act = h
  by_call row (Answered r) [] act = h
  by_call row (Answered r) (x ∷ hs) act = h

  pub by_operation : (row : OperationRow) (items : List (Item (Option Outcome))) (n : ℕ) → (Passes items → P (tell_words (row.tells w) (row.act w))) → P (operation_world row (next items n) w)
  by_operation row [] n act = act tt
  by_operation row (Check true r ∷ items) n act = by_operation row items n (λ ps. act (refl, ps))
  by_operation row (Check false r ∷ items) n act = h
  by_operation row (Try l m ∷ items) zero act = h
  by_operation row (Try l m ∷ items) (suc n) act = by_operation row items n act

  pub by_release : (row : OperationRow) (out : Option Outcome) (hs : List Held) → P (operation_world row (next_in [] (Answered out) hs) w)
  by_release row out [] = h
  by_release row out (x ∷ hs) = h

module _ (o : Opening) (s : State) (p : ℕ) (P : World → Type 0) (h : P s.world)
    (call_acts : (c : Call) (cs : List Call) → lines_left o p (s.lps p) ≡ c ∷ cs → (s.lps p).guest ≡ None → Passes ((row_of o p c).items s.world) → P ((row_of o p c).act s.world))
    (operation_acts : (c : Call) (cs : List Call) (g : Guest) (op : GuestOp) (row : OperationRow) → IsInside o p (s.lps p) c cs g → operation_of o g.tdr g.vp (length (s.lps p).replies + 1) op ≡ ByRow row
    → Passes (row.items s.world) → P (tell_words (row.tells s.world) (row.act s.world)))
    (accesses : (c : Call) (cs : List Call) (g : Guest) (op : GuestOp) (access : Access) (r gpa page : ℕ) → IsInside o p (s.lps p) c cs g
    → operation_of o g.tdr g.vp (length (s.lps p).replies + 1) op ≡ Private access r gpa → look_up (s.lps p).cached g.tdr (page_of_gpa gpa) access ≡ Some page → P (reach g.tdr g.vp access r gpa page s.world))
    (exits : (c : Call) (cs : List Call) (g : Guest) → IsInside o p (s.lps p) c cs g → P (leave_guest g.vp s.world)) where
  due_world : (e : Event) → Due o s.world p (s.lps p) e → P (world_after e s.world)
  due_world e (calls c cs line none) = by_call P s.world h (row_of o p c) (s.lps p).call.phase (s.lps p).call.held (call_acts c cs line none)
  due_world e (frees c cs g x hs line guest held epoch) = h
  due_world e (leaves c cs g out i l) = exits c cs g i
  due_world e (stops c cs g i l t d) = exits c cs g i
  due_world e (fills c cs g op i l t d m) = exits c cs g i
  due_world e (operates c cs g op row i way is) = by_operation P s.world h row (row.items s.world) (length g.operation.held) (operation_acts c cs g op row i is)
  due_world e (walks c cs g op access r gpa i way is lost) = h
  due_world e (reaches c cs g op access r gpa page i way is found) = accesses c cs g op access r gpa page i is found
  due_world e (undoes c cs g l i st x) = h
  due_world e (gives_back c cs g out i st x) = by_release P s.world h nothing_more out g.operation.held

  by_next : (x : Option Event) → next_event o s p ≡ x → P (after_event p s x).world
  by_next None e = h
  by_next (Some x) e = due_world x (due_event_is o s p x e)

  pub event_world : P (event o s p).world
  event_world = by_next (next_event o s p) refl
