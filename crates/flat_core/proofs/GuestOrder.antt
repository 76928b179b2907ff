-- A guest's operation holds the first of the locks that it tries, in their order.
use Rattle.std.proofs.Common.{◌≡◌, ◌≢◌, refl, sym, ◌∙◌, subst, ap, ℕ, zero, suc, ◌+◌, List, [], ◌∷◌, length, drop, Option, Some, None, option_map, IfSome, Bool, true, false, ◌==◌, if◌then◌else◌, arith}
use Rattle.std.proofs.lemmas.Bool.{eqb-true, eqb-false}
use Rattle.td_words.specs.declared.names.Mode.{Mode}
use Rattle.td_words.specs.declared.names.Mode.TheVariants.{Shared, Exclusive}
use Rattle.td_words.specs.declared.names.Access.{Access}
use Rattle.td_words.specs.declared.names.Access.TheVariants.{Read, Write}
use Rattle.td_words.specs.declared.calls.GuestOp.{GuestOp}
use Rattle.td_words.specs.declared.calls.GuestOp.TheVariants as op
use Rattle.td_words.specs.declared.replies.Outcome.{Outcome}
use Rattle.td_words.specs.declared.replies.Reply.{Reply}
use Rattle.td_words.specs.Packing.{Entry}
use Rattle.flat_core.specs.World.{World, Vps, put}
use Rattle.flat_core.specs.Processor.{LockId, Held, Phase, Trying, Undoing, Answered, Guest, Entering, new_guest, Lp}
use Rattle.flat_core.specs.Opening.{Opening}
use Rattle.flat_core.specs.Row.{Item, Check, Try, Row, OperationRow, Move, Attempts, Undoes, Refuses, Succeeds, Releases, Rests, next, next_in, after_try, after_move, but_newest}
use Rattle.flat_core.specs.Table.{row_of}
use Rattle.flat_core.specs.Tries.{tries, shared}
use Rattle.flat_core.specs.Order.{but_page, kinds, onto}
use Rattle.flat_core.specs.Guest.{Operation, ByRow, Private, operation_of, is_private, shared_load, shared_store, walk_level, walk_step, walked_on, walked_entry, goes_on, answered, reach, is_pending_at}
use Rattle.flat_core.specs.Event.{State, Event, OfCall, OfOperation, Walks, Reaches, next_event, event, after_event, world_after, operation_world, lp_after, call_lp, succeeded, settled, settle, settled_guest, settle_operation, operation_guest, operation_busy, operation_due, nothing_more, is_granted}
use Rattle.flat_core.specs.GuestOrder.{operation_tries, tried_by, OperationsTryTheirLists, AreFirstOf, DueHolds, operation_before, operation_answered, GuestHolds, GuestsHoldInOrder, GuestOrderIsKept, GuestOrderHolds}
use Rattle.flat_core.specs.Laws.{with_bundles}
use Rattle.flat_core.specs.Opening.{Incoming}
use Rattle.flat_core.specs.Guests.{SameVp}
use Rattle.std.specs.Prelude.{slice_get}
use Rattle.td_words.specs.declared.replies.Outcome.TheVariants.{EptViolation}
use Rattle.flat_core.specs.Effects.{pass_operation, tell_words}
use Rattle.flat_core.proofs.Operations.{operation_row, accepted}
use Rattle.flat_core.proofs.Tests.{by_test, put_here}
use Rattle.flat_core.proofs.Induction.{event_keeps, in_runs}
use Rattle.flat_core.proofs.Due.{Due, calls, frees, leaves, stops, fills, operates, walks, reaches, undoes, gives_back, due_event_is}
use Rattle.flat_core.proofs.Ends.{next_is, leave, same_due, timely_step, timeliness_kept, timely_rebundled}
use Rattle.flat_core.proofs.TreeLock.{drop_onto, next_tried}

-- each operation tries the locks of its line
pub operations_try_lists : OperationsTryTheirLists
operations_try_lists o t v line (op.Set r x) w = refl
operations_try_lists o t v line (op.Secret r k) w = refl
operations_try_lists o t v line (op.Add r s) w = refl
operations_try_lists o t v line (op.Load r gpa) w = by (is_private gpa)
  where
    by : (b : Bool) → tried_by (if b then Private Read r gpa else ByRow (shared_load o.machine v line r gpa)) w ≡ if b then [] else tries ((shared_load o.machine v line r gpa).items w)
    by true = refl
    by false = refl
operations_try_lists o t v line (op.Store r gpa) w = by (is_private gpa)
  where
    by : (b : Bool) → tried_by (if b then Private Write r gpa else ByRow (shared_store o.machine v r gpa)) w ≡ if b then [] else tries ((shared_store o.machine v r gpa).items w)
    by true = refl
    by false = refl
operations_try_lists o t v line (op.Accept gpa) w = refl
operations_try_lists o t v line (op.Rtmr i) w = refl
operations_try_lists o t v line op.Report w = refl
operations_try_lists o t v line (op.Vmcall r) w = refl

-- the same in every world, but for the page
tries_same : (t : ℕ) (op : GuestOp) (v w : World) → kinds (operation_tries t op v) ≡ kinds (operation_tries t op w)
tries_same t (op.Set r x) v w = refl
tries_same t (op.Secret r k) v w = refl
tries_same t (op.Add r s) v w = refl
tries_same t (op.Load r gpa) v w = refl
tries_same t (op.Store r gpa) v w = refl
tries_same t (op.Accept gpa) v w = refl
tries_same t (op.Rtmr i) v w = refl
tries_same t op.Report v w = refl
tries_same t (op.Vmcall r) v w = refl

-- one more of them
first_more : (o : Opening) (t v line : ℕ) (op : GuestOp) (row : OperationRow) (w : World) (hs : List Held) (l : LockId) (m : Mode) → operation_of o t v line op ≡ ByRow row → AreFirstOf t op hs → next (row.items w) (length hs) ≡ Attempts l m
    → (n : Mode) → AreFirstOf t op (record { lock = l; mode = n } ∷ hs)
first_more o t v line op row w hs l m is first e n u =
    let x = first w in
    let y = next_tried (row.items w) (length hs) l m e in
    let same : kinds (tries (row.items w)) ≡ kinds (operation_tries t op w) = ap (λ (z : Operation). kinds (tried_by z w)) (sym is) ∙ ap kinds (operations_try_lists o t v line op w) in
    let none : length hs ≡ length hs + 0 = omega arith in
    let left : x.0 ≡ but_page l ∷ y.0 =
    sym (drop_onto hs 0 x.0) ∙ (ap (λ (k : ℕ). drop k (onto hs x.0)) (sym none) ∙ (ap (drop (length hs)) (sym (same ∙ x.1)) ∙ y.1)) in
    (y.0, tries_same t op u w ∙ (x.1 ∙ ap (onto hs) left))

but_first : (t : ℕ) (op : GuestOp) (h : Held) (hs : List Held) → AreFirstOf t op (h ∷ hs) → AreFirstOf t op hs
but_first t op h hs first w = let x = first w in (but_page h.lock ∷ x.0, x.1)

-- so of the operation that is due, or answered
due_less : (t : ℕ) (x : Option GuestOp) (h : Held) (hs : List Held) → DueHolds t x (h ∷ hs) → DueHolds t x hs
due_less t None h hs first = cc
due_less t (Some op) h hs first = but_first t op h hs first

-- what an operation's row refuses is an EPT violation
abbrev IsViolation : Option Outcome → Type 0
IsViolation out = (gpa : ℕ) × (access : Access) × (out ≡ Some (EptViolation gpa access))

abbrev AreViolations : List (Item (Option Outcome)) → Type 0
AreViolations [] = Unit {0}
AreViolations (Check b out ∷ items) = IsViolation out × AreViolations items
AreViolations (Try l m ∷ items) = AreViolations items

refused_violates : (items : List (Item (Option Outcome))) (n : ℕ) (out : Option Outcome) → AreViolations items → next items n ≡ Refuses out → IsViolation out
refused_violates [] n out all e = cc
refused_violates (Check true r ∷ items) n out all e = refused_violates items n out all.1 e
refused_violates (Check false r ∷ items) n out all e = let same : r ≡ out = cc in subst IsViolation same all.0
refused_violates (Try l m ∷ items) zero out all e = cc
refused_violates (Try l m ∷ items) (suc n) out all e = refused_violates items n out all e

rows_violate : (o : Opening) (t v line : ℕ) (op : GuestOp) (row : OperationRow) (w : World) → operation_of o t v line op ≡ ByRow row → AreViolations (row.items w)
rows_violate o t v line op row w is =
    operation_row o t v line (λ y. AreViolations (y.items w)) (λ r n. tt) (λ r s. tt)
    (λ r gpa. ((gpa, Read, refl), ((gpa, Read, refl), tt))) (λ r gpa. ((gpa, Write, refl), ((gpa, Write, refl), tt))) (λ gpa. ((gpa, Write, refl), ((gpa, Write, refl), tt))) (λ i. tt) tt (λ r. tt) op row is

-- an operation that was completed stands before the position
module _ (code : ℕ → List GuestOp) (v : ℕ) (w : World) where
  abbrev IsBefore : Vps → Type 0
  IsBefore x = operation_before (code (x.indexes v)) (x.positions v) ≡ slice_get (code (w.vps.indexes v)) (w.vps.positions v)

  before_is : IsBefore (record (w.vps) { positions = put w.vps.positions v (w.vps.positions v + 1) })
  before_is =
      let moved : put w.vps.positions v (w.vps.positions v + 1) v ≡ w.vps.positions v + 1 = put_here w.vps.positions v (w.vps.positions v + 1) in
      let next : put w.vps.positions v (w.vps.positions v + 1) v ≡ suc (w.vps.positions v) = omega (arith, moved) in
      ap (operation_before (code (w.vps.indexes v))) next

  abbrev IsAnswered : OperationRow → Type 0
  IsAnswered row =
      let w' : World = tell_words (row.tells w) (row.act w) in
      operation_answered (code (w'.vps.indexes v)) (w'.vps.positions v) (row.answer w) ≡ slice_get (code (w.vps.indexes v)) (w.vps.positions v)

  rows_answer : (o : Opening) (t line : ℕ) (op : GuestOp) (row : OperationRow) → operation_of o t v line op ≡ ByRow row → IsAnswered row
  rows_answer o t line op row is =
      operation_row o t v line IsAnswered (λ r n. before_is) (λ r s. before_is) (λ r gpa. before_is) (λ r gpa. before_is)
      (λ gpa. accepted (λ z. IsBefore (tell_words [] (pass_operation v z)).vps) (is_pending_at w t gpa) t gpa w (λ pends. before_is) (λ stays. before_is))
      (λ i. before_is) before_is (λ r. before_is) op row is

  reach_answers : (t : ℕ) (access : Access) (r gpa page : ℕ) → IsBefore (reach t v access r gpa page w).vps
  reach_answers t Read r gpa page = before_is
  reach_answers t Write r gpa page = before_is

fresh_holds : (t : ℕ) (x : Option GuestOp) → DueHolds t x []
fresh_holds t None = refl
fresh_holds t (Some op) = λ w. (kinds (operation_tries t op w), refl)

module _ (o : Opening) (w : World) where
  abbrev InOrder : Guest → Type 0
  InOrder g = GuestHolds o w g g.operation.phase

  -- an operation that is done leaves nothing
  settled_holds : (g : Guest) → InOrder g → InOrder (settled_guest g)
  settled_holds g h = by g.operation.phase g.operation.held
    where
      by : (phase : Phase (Option Outcome)) (hs : List Held) → InOrder (settle_operation phase hs g)
      by (Answered None) [] = fresh_holds g.tdr (operation_due o w g)
      by (Answered (Some out)) [] = fresh_holds g.tdr (operation_due o w g)
      by (Answered None) (x ∷ hs) = h
      by (Answered (Some out)) (x ∷ hs) = h
      by Trying hs = h
      by (Undoing l) hs = h

  -- of a call: a guest that comes in holds nothing of its operation
  call_holds : (v : World) (b : Bool) (row : Row) (mv : Move Reply) (lp : Lp) → IfSome lp.guest InOrder → IfSome (settled (call_lp v b row mv lp)).guest InOrder
  call_holds v b row mv lp h = ended (call_lp v b row mv lp) (made mv)
    where
      ended : (x : Lp) → IfSome x.guest InOrder → IfSome (settled x).guest InOrder
      ended x k = by x.call.phase x.call.held
        where
          by : (phase : Phase Reply) (hs : List Held) → IfSome (settle phase hs x).guest InOrder
          by (Answered r) [] = k
          by (Answered r) (y ∷ hs) = k
          by Trying hs = k
          by (Undoing l) hs = k

      entered : (x : Option Entering) → IfSome (succeeded v row x lp).guest InOrder
      entered None = h
      entered (Some e) = fresh_holds e.tdr (operation_due o w (new_guest e))

      made : (mv : Move Reply) → IfSome (call_lp v b row mv lp).guest InOrder
      made Succeeds = entered row.enters
      made (Attempts l m) = h
      made (Undoes l) = h
      made (Refuses r) = h
      made (Releases x) = h
      made Rests = h

-- a processor's own event
module _ (o : Opening) (w : World) (p : ℕ) (lp : Lp) (h : IfSome lp.guest (λ g. GuestHolds o w g g.operation.phase)) (b : Event → Bool) where
  abbrev Now : Event → Type 0
  Now e = IfSome (lp_after w (b e) e lp).guest (InOrder o (world_after e w))

  module _ (g : Guest) (guest : lp.guest ≡ Some g) where
    here : InOrder o w g
    here = subst (λ (x : Option Guest). IfSome x (InOrder o w)) guest h

    in_phase : (phase : Phase (Option Outcome)) → g.operation.phase ≡ phase → GuestHolds o w g phase
    in_phase phase e = subst (λ (x : Phase (Option Outcome)). GuestHolds o w g x) e here

    due_first : (op : GuestOp) → g.operation.phase ≡ Trying → operation_due o w g ≡ Some op → AreFirstOf g.tdr op g.operation.held
    due_first op t due = subst (λ (x : Option GuestOp). DueHolds g.tdr x g.operation.held) due (in_phase Trying t)

    now_is : (w' : World) (lp' : Lp) (g' : Guest) → lp'.guest ≡ Some (settled_guest g') → InOrder o w' g' → IfSome lp'.guest (InOrder o w')
    now_is w' lp' g' gs k = subst (λ (x : Option Guest). IfSome x (InOrder o w')) (sym gs) (settled_holds o w' g' k)

    of_operation : (row : OperationRow) (mv : Move (Option Outcome)) → let e : Event = OfOperation row mv in InOrder o (world_after e w) (record g { operation = after_move operation_busy (b e) (row.answer w) mv g.operation }) → Now e
    of_operation row mv k =
        let e : Event = OfOperation row mv in
        now_is (world_after e w) (lp_after w (b e) e lp) (record g { operation = after_move operation_busy (b e) (row.answer w) mv g.operation })
        (ap (λ (x : Option Guest). option_map (operation_guest w (b e) row mv) x) guest) k

    module _ (op : GuestOp) (row : OperationRow) (t : g.operation.phase ≡ Trying) (due : operation_due o w g ≡ Some op) (is : operation_of o g.tdr g.vp (length lp.replies + 1) op ≡ ByRow row) where
      first : AreFirstOf g.tdr op g.operation.held
      first = due_first op t due

      as_due : DueHolds g.tdr (operation_due o w g) g.operation.held
      as_due = in_phase Trying t

      refused : (out : Option Outcome) → IsViolation out → InOrder o w (record g { operation = record { phase = Answered out; held = g.operation.held } })
      refused out x = subst (λ (y : Option Outcome). InOrder o w (record g { operation = record { phase = Answered y; held = g.operation.held } })) (sym x.2) as_due

      done : InOrder o (operation_world row Succeeds w) (record g { operation = record { phase = Answered (row.answer w); held = g.operation.held } })
      done = subst (λ (x : Option GuestOp). DueHolds g.tdr x g.operation.held) (sym (rows_answer (o.codes g.tdr) g.vp w o g.tdr (length lp.replies + 1) op row is)) as_due

      tried : (x : Bool) (l : LockId) (m : Mode) → next (row.items w) (length g.operation.held) ≡ Attempts l m → InOrder o w (record g { operation = after_try operation_busy l m x g.operation })
      tried true l m e = subst (λ (x : Option GuestOp). DueHolds g.tdr x (record { lock = l; mode = m } ∷ g.operation.held)) (sym due) (first_more o g.tdr g.vp (length lp.replies + 1) op row w g.operation.held l m is first e m)
      tried false l Shared e = subst (λ (x : Option GuestOp). DueHolds g.tdr x (shared l ∷ g.operation.held)) (sym due) (first_more o g.tdr g.vp (length lp.replies + 1) op row w g.operation.held l Shared is first e Shared)
      tried false l Exclusive e = as_due

      by_row : let mv = next (row.items w) (length g.operation.held) in Now (OfOperation row mv)
      by_row =
          next_is (λ mv. next (row.items w) (length g.operation.held) ≡ mv → Now (OfOperation row mv)) (row.items w) (length g.operation.held)
          (λ r e. of_operation row (Refuses r) (refused r (refused_violates (row.items w) (length g.operation.held) r (rows_violate o g.tdr g.vp (length lp.replies + 1) op row w is) e)))
          (λ e. of_operation row Succeeds done) (λ l m room e. of_operation row (Attempts l m) (tried (b (OfOperation row (Attempts l m))) l m e)) refl

    by_walk : (op : GuestOp) (access : Access) (gpa : ℕ) → g.operation.phase ≡ Trying → operation_due o w g ≡ Some op → Now (Walks access gpa)
    by_walk op access gpa t due =
        now_is w (lp_after w (b (Walks access gpa)) (Walks access gpa) lp) (walk_step w g access gpa) (ap (λ (x : Option Guest). option_map (λ y. settled_guest (walk_step w y access gpa)) x) guest)
        (walked (goes_on access (walk_level g.walk) (walked_entry w g gpa)) (walk_level g.walk) (walked_entry w g gpa))
      where
        walked : (ok : Bool) (level : ℕ) (y : Entry) → InOrder o w (walked_on access gpa ok level y g)
        walked true zero y = here
        walked true (suc level) y = here
        walked false level y = in_phase Trying t

    by_reach : (op : GuestOp) (access : Access) (r gpa page : ℕ) → g.operation.phase ≡ Trying → operation_due o w g ≡ Some op → Now (Reaches g.tdr g.vp access r gpa page)
    by_reach op access r gpa page t due =
        let e : Event = Reaches g.tdr g.vp access r gpa page in
        now_is (world_after e w) (lp_after w (b e) e lp) (answered None g) (ap (λ (x : Option Guest). option_map (λ y. settled_guest (answered None y)) x) guest)
        (subst (λ (x : Option GuestOp). DueHolds g.tdr x g.operation.held) (sym (reach_answers (o.codes g.tdr) g.vp w g.tdr access r gpa page)) (in_phase Trying t))

    by_undo : (l : LockId) → g.operation.phase ≡ Undoing l → Now (OfOperation nothing_more (Undoes l))
    by_undo l e = of_operation nothing_more (Undoes l) (due_less g.tdr (operation_due o w g) (shared l) g.operation.held (in_phase (Undoing l) e))

    by_release : (out : Option Outcome) → g.operation.phase ≡ Answered out → Now (OfOperation nothing_more (next_in [] (Answered out) g.operation.held))
    by_release out e = by g.operation.held refl
      where
        its : Option GuestOp
        its = operation_answered (o.codes g.tdr (w.vps.indexes g.vp)) (w.vps.positions g.vp) out

        k : DueHolds g.tdr its g.operation.held
        k = in_phase (Answered out) e

        by : (hs : List Held) → g.operation.held ≡ hs → Now (OfOperation nothing_more (next_in [] (Answered out) hs))
        by [] same = of_operation nothing_more Rests here
        by (x ∷ hs) same =
            let first : DueHolds g.tdr its (x ∷ hs) = subst (λ (y : List Held). DueHolds g.tdr its y) same k in
            let Q : Phase (Option Outcome) → Type 0 = λ y. GuestHolds o w (record g { operation = record { phase = y; held = but_newest g.operation.held } }) y in
            let newest : but_newest g.operation.held ≡ hs = ap but_newest same in
            of_operation nothing_more (Releases x) (subst Q (sym e) (subst (λ (y : List Held). DueHolds g.tdr its y) (sym newest) (due_less g.tdr its x hs first)))

  by_due : (e : Event) → Due o w p lp e → Now e
  by_due e (calls c cs line none) =
      let mv = next_in ((row_of o p c).items w) lp.call.phase lp.call.held in
      let ev : Event = OfCall (row_of o p c) mv in
      call_holds o (world_after ev w) w (b ev) (row_of o p c) mv lp (subst (λ (x : Option Guest). IfSome x (InOrder o (world_after ev w))) (sym none) tt)
  by_due e (frees c cs g x hs line guest held epoch) = call_holds o w w (b (OfCall (row_of o p c) (Releases x))) (row_of o p c) (Releases x) lp h
  by_due e (leaves c cs g out i l) = tt
  by_due e (stops c cs g i l t d) = tt
  by_due e (fills c cs g op i l t d m) = tt
  by_due e (operates c cs g op row i way is) = by_row g i.guest op row way.trying way.due is
  by_due e (walks c cs g op access r gpa i way is lost) = by_walk g i.guest op access gpa way.trying way.due
  by_due e (reaches c cs g op access r gpa page i way is found) = by_reach g i.guest op access r gpa page way.trying way.due
  by_due e (undoes c cs g l i st k) = by_undo g i.guest l k
  by_due e (gives_back c cs g out i st k) = by_release g i.guest out k

-- another processor's event leaves it
other_holds : (o : Opening) (w w' : World) (g : Guest) → SameVp w w' g.vp → GuestHolds o w g g.operation.phase → GuestHolds o w' g g.operation.phase
other_holds o w w' g same h = by g.operation.phase h
  where
    by : (phase : Phase (Option Outcome)) → GuestHolds o w g phase → GuestHolds o w' g phase
    by Trying k = subst (λ (x : Option GuestOp). DueHolds g.tdr x g.operation.held) (sym (same_due o w w' g same)) k
    by (Undoing l) k = subst (λ (x : Option GuestOp). DueHolds g.tdr x (shared l ∷ g.operation.held)) (sym (same_due o w w' g same)) k
    by (Answered out) k =
        let its : ℕ → ℕ → Option GuestOp = λ i n. operation_answered (o.codes g.tdr i) n out in
        let now : its (w'.vps.indexes g.vp) (w'.vps.positions g.vp) ≡ its (w.vps.indexes g.vp) (w.vps.positions g.vp) = ap (λ (n : ℕ). its n (w'.vps.positions g.vp)) same.index ∙ ap (its (w.vps.indexes g.vp)) same.position in
        subst (λ (x : Option GuestOp). DueHolds g.tdr x g.operation.held) (sym now) k

module _ (o : Opening) (s : State) (p : ℕ) (e : Event) (is : next_event o s p ≡ Some e) (h : GuestsHoldInOrder o s) where
  others : (q : ℕ) → q ≢ p → IfSome (s.lps q).guest (λ g. GuestHolds o (world_after e s.world) g g.operation.phase)
  others q apart = by (s.lps q).guest refl (h.each q)
    where
      by : (x : Option Guest) → (s.lps q).guest ≡ x → IfSome x (λ g. GuestHolds o s.world g g.operation.phase) → IfSome x (λ g. GuestHolds o (world_after e s.world) g g.operation.phase)
      by None guest k = tt
      by (Some g) guest k = other_holds o s.world (world_after e s.world) g (leave o s p e is h.timely q g apart guest).same k

  step : GuestsHoldInOrder o (after_event p s (Some e))
  step = record {
    timely = timely_step o s p e is h.timely;
    each = λ q. by_test (q == p)
        (λ y. let here : p ≡ q = sym (eqb-true q p y) in
        rw y (by_due o s.world p (s.lps p) (h.each p) (is_granted s) e (due_event_is o s p e is)))
        (λ n. rw n (others q (eqb-false q p n)));
  }

rebundled : (o : Opening) (bundles : ℕ → Option Incoming) (s : State) → GuestsHoldInOrder o s → GuestsHoldInOrder (with_bundles o bundles) s
rebundled o bundles s h = record { timely = timely_rebundled o bundles s h.timely; each = h.each }

pub guest_order_kept : GuestOrderIsKept
guest_order_kept = record {
  start = λ o ws. record { timely = timeliness_kept.start o ws; each = λ q. tt };
  event = λ o bundles s p h.
      let q = with_bundles o bundles in
      rebundled q o.bundles (event q s p) (event_keeps q (GuestsHoldInOrder q) (step q) s p (rebundled o bundles s h));
}

pub guest_order_holds : GuestOrderHolds
guest_order_holds = in_runs GuestsHoldInOrder guest_order_kept
