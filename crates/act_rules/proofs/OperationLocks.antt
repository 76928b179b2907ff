-- A guest's operation holds the first of the locks that its row tries, in every state that a run reaches: the page that
-- `accept` has tried is still the one that its entry names.
use Rattle.std.proofs.Common.{◌≡◌, ◌≢◌, inl, inr, ◌<◌, refl, sym, ◌∙◌, subst, ap, ℕ, zero, suc, ◌+◌, List, [], ◌∷◌, ◌++◌, length, drop, Option, Some, None, option_map, IfSome, Bool, true, false, not, ◌==◌, arith}
use Rattle.std.specs.List.{list_all}
use Rattle.std.proofs.lemmas.Bool.{eq-eqb, eqb-true, eqb-false, and_parts}
use Rattle.td_words.specs.declared.names.EntryState.{EntryState}
use Rattle.td_words.specs.declared.names.EntryState.TheVariants as entry
use Rattle.td_words.specs.declared.names.Mode.{Mode}
use Rattle.td_words.specs.declared.names.Mode.TheVariants.{Shared, Exclusive}
use Rattle.td_words.specs.declared.names.Access.{Access}
use Rattle.td_words.specs.declared.names.Access.TheVariants.{Read, Write}
use Rattle.td_words.specs.declared.calls.Call.{Call}
use Rattle.td_words.specs.declared.calls.GuestOp.{GuestOp}
use Rattle.td_words.specs.declared.calls.GuestOp.TheVariants as op
use Rattle.td_words.specs.declared.replies.Outcome.{Outcome}
use Rattle.td_words.specs.declared.replies.Reply.{Reply}
use Rattle.td_words.specs.Packing.{Entry}
use Rattle.flat_core.specs.World.{World}
use Rattle.flat_core.specs.Processor.{LockId, OfPage, OfOp, OfTree, OfEpoch, Held, Phase, Trying, Undoing, Answered, Guest, Entering, new_guest, Lp}
use Rattle.flat_core.specs.Locks.{same_lock}
use Rattle.flat_core.specs.Opening.{Opening}
use Rattle.flat_core.specs.Row.{Row, OperationRow, Move, Attempts, Undoes, Refuses, Succeeds, Releases, Rests, Passes, next, next_in, after_try, after_move, but_newest}
use Rattle.flat_core.specs.Tree.{same_state, entry_at, number_at, levels_above, is_passed}
use Rattle.flat_core.specs.Table.{row_of}
use Rattle.flat_core.specs.Tries.{tries, shared, alone}
use Rattle.flat_core.specs.Guest.{Operation, ByRow, operation_of, names_page, accept, accept_page, is_pending_at, walk_level, walk_step, walked_on, walked_entry, goes_on, answered, reach}
use Rattle.flat_core.specs.Lawful.{is_free}
use Rattle.flat_core.specs.Guests.{SameVp}
use Rattle.flat_core.specs.Inside.{InGuest, LineAt, StandsAt, held_then}
use Rattle.flat_core.specs.GuestOrder.{operation_tries, tried_by}
use Rattle.flat_core.specs.Event.{State, Event, OfCall, OfOperation, Walks, Reaches, next_event, lines_left, event, after_event, world_after, call_world, operation_world, lp_after, call_lp, succeeded, settled, settle, settled_guest, settle_operation, operation_guest, operation_busy, operation_due, nothing_more, is_granted}
use Rattle.flat_core.proofs.Tests.{by_test}
use Rattle.flat_core.proofs.Induction.{in_runs_of}
use Rattle.flat_core.proofs.Operations.{operation_row, accepted}
use Rattle.flat_core.proofs.Due.{Due, calls, frees, leaves, stops, fills, operates, walks, reaches, undoes, gives_back, due_event_is}
use Rattle.flat_core.proofs.Ends.{next_is, leave, same_due, timely_step, timeliness_kept}
use Rattle.flat_core.proofs.AccessActs.{entry-apart}
use Rattle.flat_core.proofs.GuestOrder.{operations_try_lists}
use Rattle.word_rules.specs.CallUses.{HoldsTries}
use Rattle.lock_words.specs.Grips.{holds, operation_locks, locks_of, grip_of}
use Rattle.act_rules.proofs.Tried.{drop-then, next-locks, held-before, held-behind, alone-behind, IsWithin, all-pass, length-then, nothing-left, all-turned, tries-held}
use Rattle.act_rules.proofs.CallHolds.{EntriesStay, in-machine, entries-stay, call-locks-kept}
use Rattle.act_rules.specs.GuestLocks.{HoldsFirst, NamesTried, IsNamed, HoldsDue, HoldsIn, HoldsTheirs, OperationsHoldTheirs, AllHoldTheirs, OperationLocksAreKept, OperationLocksHold}

-- An entry of level 0 that isn't FREE names the same page after each event, where the act of a call leaves it

abbrev Renames : World → (tdr number : ℕ) → World → Type 0
Renames w t n w' = (is_free (w'.tds.entries t 0 n).state ≡ false) × ((w'.tds.entries t 0 n).page ≡ (w.tds.entries t 0 n).page)

module _ (o : Opening) (w : World) (t n : ℕ) (used : is_free (w.tds.entries t 0 n).state ≡ false) where
  abbrev StillNames : World → Type 0
  StillNames w' = Renames w t n w'

  as-before : (w' : World) → w'.tds.entries t 0 n ≡ w.tds.entries t 0 n → StillNames w'
  as-before w' e = (ap (λ (x : Entry). is_free x.state) e ∙ used, ap (λ (x : Entry). x.page) e)

  -- a page that is accepted is named by its entry
  page-accepted : (u gpa : ℕ) → is_pending_at w u gpa ≡ true → StillNames (accept_page true u gpa w)
  page-accepted u gpa pends = by_test (t == u)
      (λ y. by_test (n == number_at 0 gpa)
      (λ z. let at : entry_at w u 0 gpa ≡ w.tds.entries t 0 n = ap (λ (q : ℕ). w.tds.entries q 0 (number_at 0 gpa)) (sym (eqb-true t u y)) ∙ ap (λ (q : ℕ). w.tds.entries t 0 q) (sym (eqb-true n (number_at 0 gpa) z)) in
      (rw (y, z) refl, rw (y, z) (ap (λ (x : Entry). x.page) at)))
      (λ z. as-before (accept_page true u gpa w) (entry-apart w u 0 (number_at 0 gpa) _ t 0 n (λ a b c. eqb-false n (number_at 0 gpa) z c))))
      (λ y. as-before (accept_page true u gpa w) (entry-apart w u 0 (number_at 0 gpa) _ t 0 n (λ a b c. eqb-false t u y a)))

  operation-names : (u v line : ℕ) (op : GuestOp) (row : OperationRow) → operation_of o u v line op ≡ ByRow row → StillNames (operation_world row Succeeds w)
  operation-names u v line op row is =
      operation_row o u v line (λ x. StillNames (operation_world x Succeeds w))
      (λ r x. (used, refl)) (λ r s. (used, refl)) (λ r gpa. (used, refl)) (λ r gpa. (used, refl))
      (λ gpa. accepted StillNames (is_pending_at w u gpa) u gpa w (page-accepted u gpa) (λ y. (used, refl)))
      (λ i. (used, refl)) (used, refl) (λ r. (used, refl)) op row is

  reach-names : (u v : ℕ) (access : Access) (r gpa page : ℕ) → StillNames (reach u v access r gpa page w)
  reach-names u v Read r gpa page = (used, refl)
  reach-names u v Write r gpa page = (used, refl)

  call-moved : (row : Row) (mv : Move Reply) → (mv ≡ Succeeds → StillNames (row.act w)) → StillNames (call_world row mv w)
  call-moved row Succeeds h = h refl
  call-moved row (Attempts l m) h = (used, refl)
  call-moved row (Undoes l) h = (used, refl)
  call-moved row (Refuses r) h = (used, refl)
  call-moved row (Releases x) h = (used, refl)
  call-moved row Rests h = (used, refl)

  operation-moved : (row : OperationRow) (mv : Move (Option Outcome)) → StillNames (operation_world row Succeeds w) → StillNames (operation_world row mv w)
  operation-moved row Succeeds h = h
  operation-moved row (Attempts l m) h = (used, refl)
  operation-moved row (Undoes l) h = (used, refl)
  operation-moved row (Refuses r) h = (used, refl)
  operation-moved row (Releases x) h = (used, refl)
  operation-moved row Rests h = (used, refl)

  -- the act of a call that leaves the pages that entries of the TD name
  abbrev ActsLeave : ℕ → Lp → Type 0
  ActsLeave p lp = (c : Call) (cs : List Call) → lines_left o p lp ≡ c ∷ cs → lp.guest ≡ None → next_in ((row_of o p c).items w) lp.call.phase lp.call.held ≡ Succeeds
      → EntriesStay w ((row_of o p c).act w) t

  event-names : (p : ℕ) (lp : Lp) → ActsLeave p lp → (e : Event) → Due o w p lp e → StillNames (world_after e w)
  event-names p lp leave e (calls c cs line none) =
      call-moved (row_of o p c) (next_in ((row_of o p c).items w) lp.call.phase lp.call.held)
      (λ y. let x = leave c cs line none y 0 n in (x.free ∙ used, x.page))
  event-names p lp leave e (frees c cs g h hs line guest held epoch) = (used, refl)
  event-names p lp leave e (leaves c cs g out i l) = (used, refl)
  event-names p lp leave e (stops c cs g i l x d) = (used, refl)
  event-names p lp leave e (fills c cs g op i l x d m) = (used, refl)
  event-names p lp leave e (operates c cs g op row i way is) = operation-moved row (next (row.items w) (length g.operation.held)) (operation-names g.tdr g.vp (length lp.replies + 1) op row is)
  event-names p lp leave e (walks c cs g op access r gpa i way is lost) = (used, refl)
  event-names p lp leave e (reaches c cs g op access r gpa page i way is found) = reach-names g.tdr g.vp access r gpa page
  event-names p lp leave e (undoes c cs g l i st h) = (used, refl)
  event-names p lp leave e (gives_back c cs g out i st h) = operation-moved nothing_more (next_in [] (Answered out) g.operation.held) (used, refl)

-- The locks that an operation holds

fresh : (w : World) (t : ℕ) (x : Option GuestOp) → HoldsDue w t x []
fresh w t None = tt
fresh w t (Some op) = ((operation_tries t op w, refl), tt)

not-free : (s : EntryState) → not (same_state s entry.Free) ≡ true → is_free s ≡ false
not-free entry.Free h = cc
not-free _ h = refl

module _ (o : Opening) (t v line : ℕ) (op : GuestOp) (row : OperationRow) (w : World) (is : operation_of o t v line op ≡ ByRow row) where
  pub row-tries : tries (row.items w) ≡ operation_tries t op w
  row-tries = ap (λ (z : Operation). tried_by z w) (sym is) ∙ operations_try_lists o t v line op w

  first-more : (hs : List Held) (l : LockId) (m : Mode) → HoldsFirst w t op hs → next (row.items w) (length hs) ≡ Attempts l m → HoldsFirst w t op (record { lock = l; mode = m } ∷ hs)
  first-more hs l m x e =
      let y = next-locks (row.items w) (length hs) l m e in
      let none : length hs ≡ length hs + 0 = omega arith in
      let left : x.0 ≡ record { lock = l; mode = m } ∷ y.0 =
      sym (drop-then hs 0 x.0) ∙ (ap (λ (k : ℕ). drop k (held_then hs x.0)) (sym none) ∙ (ap (drop (length hs)) (sym (row-tries ∙ x.1)) ∙ y.1)) in
      (y.0, x.1 ∙ ap (held_then hs) left)

named-tried : (o : Opening) (t v line : ℕ) (op : GuestOp) (row : OperationRow) (w : World) (k : ℕ) (l : LockId) (m : Mode) → operation_of o t v line op ≡ ByRow row → next (row.items w) (suc k) ≡ Attempts l m → NamesTried w t op
named-tried o t v line (op.Accept gpa) row w k l m is e = by_test (names_page w t gpa)
    (λ y. not-free (entry_at w t 0 gpa).state (and_parts (list_all (λ l. is_passed w t gpa l) (levels_above 0)) (not (same_state (entry_at w t 0 gpa).state entry.Free)) y).1)
    (λ n. absurd (let same : row ≡ accept t v gpa = cc in
    let at : next ((accept t v gpa).items w) (suc k) ≡ Attempts l m = subst (λ (x : OperationRow). next (x.items w) (suc k) ≡ Attempts l m) same e in
    let no = rw n at at in cc))
named-tried o t v line (op.Set r x) row w k l m is e = tt
named-tried o t v line (op.Secret r k) row w j l m is e = tt
named-tried o t v line (op.Add r s) row w k l m is e = tt
named-tried o t v line (op.Load r gpa) row w k l m is e = tt
named-tried o t v line (op.Store r gpa) row w k l m is e = tt
named-tried o t v line (op.Rtmr i) row w k l m is e = tt
named-tried o t v line op.Report row w k l m is e = tt
named-tried o t v line (op.Vmcall r) row w k l m is e = tt

module _ (o : Opening) (w : World) where
  -- an operation that is done leaves nothing
  settled-theirs : (g : Guest) → HoldsTheirs o w g → HoldsTheirs o w (settled_guest g)
  settled-theirs g h = by g.operation.phase g.operation.held
    where
      by : (phase : Phase (Option Outcome)) (hs : List Held) → HoldsTheirs o w (settle_operation phase hs g)
      by (Answered None) [] = fresh w g.tdr (operation_due o w g)
      by (Answered (Some out)) [] = fresh w g.tdr (operation_due o w g)
      by (Answered None) (x ∷ hs) = h
      by (Answered (Some out)) (x ∷ hs) = h
      by Trying hs = h
      by (Undoing l) hs = h

  -- of a call: a guest that comes in holds nothing of its operation
  call-theirs : (v : World) (b : Bool) (row : Row) (mv : Move Reply) (lp : Lp) → IfSome lp.guest (HoldsTheirs o w) → IfSome (settled (call_lp v b row mv lp)).guest (HoldsTheirs o w)
  call-theirs v b row mv lp h = ended (call_lp v b row mv lp) (made mv)
    where
      ended : (x : Lp) → IfSome x.guest (HoldsTheirs o w) → IfSome (settled x).guest (HoldsTheirs o w)
      ended x k = by x.call.phase x.call.held
        where
          by : (phase : Phase Reply) (hs : List Held) → IfSome (settle phase hs x).guest (HoldsTheirs o w)
          by (Answered r) [] = k
          by (Answered r) (y ∷ hs) = k
          by Trying hs = k
          by (Undoing l) hs = k

      entered : (x : Option Entering) → IfSome (succeeded v row x lp).guest (HoldsTheirs o w)
      entered None = h
      entered (Some e) = fresh w e.tdr (operation_due o w (new_guest e))

      made : (mv : Move Reply) → IfSome (call_lp v b row mv lp).guest (HoldsTheirs o w)
      made Succeeds = entered row.enters
      made (Attempts l m) = h
      made (Undoes l) = h
      made (Refuses r) = h
      made (Releases x) = h
      made Rests = h

-- a processor's own event
module _ (o : Opening) (w : World) (p : ℕ) (lp : Lp) (h : IfSome lp.guest (HoldsTheirs o w)) (b : Event → Bool) where
  abbrev Now : Event → Type 0
  Now e = IfSome (lp_after w (b e) e lp).guest (HoldsTheirs o (world_after e w))

  module _ (g : Guest) (guest : lp.guest ≡ Some g) where
    here : HoldsTheirs o w g
    here = subst (λ (x : Option Guest). IfSome x (HoldsTheirs o w)) guest h

    due-first : (op : GuestOp) → g.operation.phase ≡ Trying → operation_due o w g ≡ Some op → HoldsFirst w g.tdr op g.operation.held
    due-first op t due = (subst (λ (x : Option GuestOp). HoldsDue w g.tdr x g.operation.held) due (subst (λ (x : Phase (Option Outcome)). HoldsIn o w g x) t here)).0

    now-is : (w' : World) (lp' : Lp) (g' : Guest) → lp'.guest ≡ Some (settled_guest g') → HoldsTheirs o w' g' → IfSome lp'.guest (HoldsTheirs o w')
    now-is w' lp' g' gs k = subst (λ (x : Option Guest). IfSome x (HoldsTheirs o w')) (sym gs) (settled-theirs o w' g' k)

    of-operation : (row : OperationRow) (mv : Move (Option Outcome)) → let e : Event = OfOperation row mv in HoldsTheirs o (world_after e w) (record g { operation = after_move operation_busy (b e) (row.answer w) mv g.operation }) → Now e
    of-operation row mv k =
        let e : Event = OfOperation row mv in
        now-is (world_after e w) (lp_after w (b e) e lp) (record g { operation = after_move operation_busy (b e) (row.answer w) mv g.operation })
        (ap (λ (x : Option Guest). option_map (operation_guest w (b e) row mv) x) guest) k

    module _ (op : GuestOp) (row : OperationRow) (t : g.operation.phase ≡ Trying) (due : operation_due o w g ≡ Some op) (is : operation_of o g.tdr g.vp (length lp.replies + 1) op ≡ ByRow row) where
      named : (hs : List Held) (l : LockId) (m : Mode) → next (row.items w) (length hs) ≡ Attempts l m → IsNamed w g.tdr op (record { lock = l; mode = m } ∷ hs)
      named [] l m e = tt
      named (x ∷ hs) l m e = named-tried o g.tdr g.vp (length lp.replies + 1) op row w (length hs) l m is e

      tried : (x : Bool) (l : LockId) (m : Mode) → next (row.items w) (length g.operation.held) ≡ Attempts l m → HoldsTheirs o w (record g { operation = after_try operation_busy l m x g.operation })
      tried true l m e = subst (λ (x : Option GuestOp). HoldsDue w g.tdr x (record { lock = l; mode = m } ∷ g.operation.held)) (sym due)
          (first-more o g.tdr g.vp (length lp.replies + 1) op row w is g.operation.held l m (due-first op t due) e, named g.operation.held l m e)
      tried false l Shared e = tt
      tried false l Exclusive e = tt

      by-row : let mv = next (row.items w) (length g.operation.held) in Now (OfOperation row mv)
      by-row =
          next_is (λ mv. next (row.items w) (length g.operation.held) ≡ mv → Now (OfOperation row mv)) (row.items w) (length g.operation.held)
          (λ r e. of-operation row (Refuses r) tt) (λ e. of-operation row Succeeds tt) (λ l m room e. of-operation row (Attempts l m) (tried (b (OfOperation row (Attempts l m))) l m e)) refl

    by-walk : (access : Access) (gpa : ℕ) → Now (Walks access gpa)
    by-walk access gpa =
        now-is w (lp_after w (b (Walks access gpa)) (Walks access gpa) lp) (walk_step w g access gpa) (ap (λ (x : Option Guest). option_map (λ y. settled_guest (walk_step w y access gpa)) x) guest)
        (walked (goes_on access (walk_level g.walk) (walked_entry w g gpa)) (walk_level g.walk) (walked_entry w g gpa))
      where
        walked : (ok : Bool) (level : ℕ) (y : Entry) → HoldsTheirs o w (walked_on access gpa ok level y g)
        walked true zero y = here
        walked true (suc level) y = here
        walked false level y = tt

    by-reach : (access : Access) (r gpa page : ℕ) → Now (Reaches g.tdr g.vp access r gpa page)
    by-reach access r gpa page =
        let e : Event = Reaches g.tdr g.vp access r gpa page in
        now-is (world_after e w) (lp_after w (b e) e lp) (answered None g) (ap (λ (x : Option Guest). option_map (λ y. settled_guest (answered None y)) x) guest) tt

    by-release : (out : Option Outcome) → g.operation.phase ≡ Answered out → Now (OfOperation nothing_more (next_in [] (Answered out) g.operation.held))
    by-release out e = by g.operation.held
      where
        by : (hs : List Held) → Now (OfOperation nothing_more (next_in [] (Answered out) hs))
        by [] = of-operation nothing_more Rests here
        by (x ∷ hs) = of-operation nothing_more (Releases x) (subst (λ (y : Phase (Option Outcome)). HoldsIn o w (record g { operation = record { phase = y; held = but_newest g.operation.held } }) y) (sym e) tt)

  by-due : (e : Event) → Due o w p lp e → Now e
  by-due e (calls c cs line none) =
      let mv = next_in ((row_of o p c).items w) lp.call.phase lp.call.held in
      let ev : Event = OfCall (row_of o p c) mv in
      call-theirs o (world_after ev w) w (b ev) (row_of o p c) mv lp (subst (λ (x : Option Guest). IfSome x (HoldsTheirs o (world_after ev w))) (sym none) tt)
  by-due e (frees c cs g x hs line guest held epoch) = call-theirs o w w (b (OfCall (row_of o p c) (Releases x))) (row_of o p c) (Releases x) lp h
  by-due e (leaves c cs g out i l) = tt
  by-due e (stops c cs g i l t d) = tt
  by-due e (fills c cs g op i l t d m) = tt
  by-due e (operates c cs g op row i way is) = by-row g i.guest op row way.trying way.due is
  by-due e (walks c cs g op access r gpa i way is lost) = by-walk g i.guest access gpa
  by-due e (reaches c cs g op access r gpa page i way is found) = by-reach g i.guest access r gpa page
  by-due e (undoes c cs g l i st k) = of-operation g i.guest nothing_more (Undoes l) tt
  by-due e (gives_back c cs g out i st k) = by-release g i.guest out k

-- another processor's event leaves it
module _ (w w' : World) (t : ℕ) where
  -- where T is held, an entry that isn't FREE names its page
  abbrev WhereHeld : List Held → Type 0
  WhereHeld hs = holds hs (OfTree t) ≡ true → (n : ℕ) → is_free (w.tds.entries t 0 n).state ≡ false → Renames w t n w'

  -- of the two locks that `accept` tries both are held
  tree-held : (gpa : ℕ) (a b : Held) (hs : List Held) → HoldsFirst w t (op.Accept gpa) (a ∷ b ∷ hs) → holds (a ∷ b ∷ hs) (OfTree t) ≡ true
  tree-held gpa a b hs f =
      let same = ap length f.1 in
      let long = length-then (a ∷ b ∷ hs) f.0 in
      let none : f.0 ≡ [] = nothing-left f.0 (omega (arith, same, long)) in
      let all : operation_tries t (op.Accept gpa) w ≡ held_then (a ∷ b ∷ hs) [] = f.1 ∙ ap (held_then (a ∷ b ∷ hs)) none in
      let tried : holds (operation_tries t (op.Accept gpa) w) (OfTree t) ≡ true = rw (eq-eqb t t refl) refl in
      all-turned (λ h. same_lock h.lock (OfTree t)) (a ∷ b ∷ hs) (subst (λ (xs : List Held). holds xs (OfTree t) ≡ true) all tried)

  accept-stays : (gpa : ℕ) (hs : List Held) → WhereHeld hs → HoldsFirst w t (op.Accept gpa) hs → IsNamed w t (op.Accept gpa) hs → HoldsFirst w' t (op.Accept gpa) hs × IsNamed w' t (op.Accept gpa) hs
  accept-stays gpa [] names f k = ((operation_tries t (op.Accept gpa) w', refl), tt)
  accept-stays gpa (a ∷ []) names f k =
      let same : shared (OfTree t) ≡ a = (let e = f.1 in cc) in
      ((alone (OfPage (entry_at w' t 0 gpa).page) ∷ [], ap (λ (h : Held). h ∷ alone (OfPage (entry_at w' t 0 gpa).page) ∷ []) same), tt)
  accept-stays gpa (a ∷ b ∷ hs) names f k =
      let x = names (tree-held gpa a b hs f) (number_at 0 gpa) k in
      ((f.0, ap (λ (p : ℕ). shared (OfTree t) ∷ alone (OfPage p) ∷ []) x.1 ∙ f.1), x.0)

  named-stays : (x : GuestOp) (hs : List Held) → (NamesTried w t x → NamesTried w' t x) → IsNamed w t x hs → IsNamed w' t x hs
  named-stays x [] still k = tt
  named-stays x (a ∷ []) still k = tt
  named-stays x (a ∷ b ∷ hs) still k = still k

  due-stays : (x : Option GuestOp) (hs : List Held) → WhereHeld hs → HoldsDue w t x hs → HoldsDue w' t x hs
  due-stays None hs names k = tt
  due-stays (Some (op.Accept gpa)) hs names k = accept-stays gpa hs names k.0 k.1
  due-stays (Some (op.Set r x)) hs names k = (k.0, named-stays (op.Set r x) hs (λ y. y) k.1)
  due-stays (Some (op.Secret r x)) hs names k = (k.0, named-stays (op.Secret r x) hs (λ y. y) k.1)
  due-stays (Some (op.Add r s)) hs names k = (k.0, named-stays (op.Add r s) hs (λ y. y) k.1)
  due-stays (Some (op.Load r gpa)) hs names k = (k.0, named-stays (op.Load r gpa) hs (λ y. y) k.1)
  due-stays (Some (op.Store r gpa)) hs names k = (k.0, named-stays (op.Store r gpa) hs (λ y. y) k.1)
  due-stays (Some (op.Rtmr i)) hs names k = (k.0, named-stays (op.Rtmr i) hs (λ y. y) k.1)
  due-stays (Some op.Report) hs names k = (k.0, named-stays op.Report hs (λ y. y) k.1)
  due-stays (Some (op.Vmcall r)) hs names k = (k.0, named-stays (op.Vmcall r) hs (λ y. y) k.1)

  other-theirs : (o : Opening) (g : Guest) → g.tdr ≡ t → WhereHeld g.operation.held → SameVp w w' g.vp → HoldsTheirs o w g → HoldsTheirs o w' g
  other-theirs o g td names same h = by g.operation.phase h
    where
      by : (phase : Phase (Option Outcome)) → HoldsIn o w g phase → HoldsIn o w' g phase
      by Trying k = subst (λ (x : Option GuestOp). HoldsDue w' g.tdr x g.operation.held) (sym (same_due o w w' g same))
          (subst (λ (u : ℕ). HoldsDue w u (operation_due o w g) g.operation.held → HoldsDue w' u (operation_due o w g) g.operation.held) (sym td) (due-stays (operation_due o w g) g.operation.held names) k)
      by (Undoing l) k = tt
      by (Answered out) k = tt

-- in guest P of the TDR page is held
tdr-held : (o : Opening) (w : World) (q : ℕ) (c : Call) (lp : Lp) (g : Guest) → InGuest o w q c lp g → holds lp.call.held (OfPage g.tdr) ≡ true
tdr-held o w q c lp g i =
    let own : holds (shared (OfPage g.tdr) ∷ []) (OfPage g.tdr) ≡ true = rw (eq-eqb g.tdr g.tdr refl) refl in
    elim i.locks [
      | inl e ↦ rw e (held-behind (alone (OfPage g.vp) ∷ shared (OfOp g.tdr) ∷ []) (shared (OfPage g.tdr) ∷ []) (OfPage g.tdr) own)
      | inr e ↦ rw (e.0) (held-behind (shared (OfEpoch g.tdr) ∷ alone (OfPage g.vp) ∷ shared (OfOp g.tdr) ∷ []) (shared (OfPage g.tdr) ∷ []) (OfPage g.tdr) own)
    ]

module _ (o : Opening) (s : State) (p : ℕ) (e : Event) (is : next_event o s p ≡ Some e) (h : AllHoldTheirs o s) where
  others : (q : ℕ) → q ≢ p → IfSome (s.lps q).guest (HoldsTheirs o (world_after e s.world))
  others q apart = by (lines_left o q (s.lps q)) refl (h.operations.timely.each q)
    where
      at : (c : Call) → q < s.lp_count → (x : Option Guest) → (s.lps q).guest ≡ x → LineAt o s.world q c (s.lps q) x → IfSome x (HoldsTheirs o s.world) → IfSome x (HoldsTheirs o (world_after e s.world))
      at c below None guest t k = tt
      at c below (Some g) guest t k =
          let lp : Lp = s.lps q in
          let page = held-before lp.call.held (operation_locks lp.guest) (OfPage g.tdr) (tdr-held o s.world q c lp g t) in
          other-theirs s.world (world_after e s.world) g.tdr o g refl
          (λ tree n used. let all : holds (locks_of lp) (OfTree g.tdr) ≡ true = subst (λ (x : Option Guest). holds (lp.call.held ++ operation_locks x) (OfTree g.tdr) ≡ true) (sym guest) (held-behind lp.call.held g.operation.held (OfTree g.tdr) tree) in
          event-names o s.world g.tdr n used p (s.lps p) (λ c cs line none acts. entries-stay o s h.calls p c cs line none acts q apart below g.tdr page all) e (due_event_is o s p e is))
          (leave o s p e is h.operations.timely q g apart guest).same k

      by : (cs : List Call) → lines_left o q (s.lps q) ≡ cs → StandsAt o s.world q cs (s.lps q) → IfSome (s.lps q).guest (HoldsTheirs o (world_after e s.world))
      by [] line t = subst (λ (x : Option Guest). IfSome x (HoldsTheirs o (world_after e s.world))) (sym t.0) tt
      by (c ∷ cs) line t = at c (in-machine o s h.calls q c cs line) (s.lps q).guest refl t (h.operations.each q)

  step : OperationsHoldTheirs o (after_event p s (Some e))
  step = record {
    timely = timely_step o s p e is h.operations.timely;
    each = λ q. by_test (q == p)
        (λ y. rw y (by-due o s.world p (s.lps p) (h.operations.each p) (is_granted s) e (due_event_is o s p e is)))
        (λ n. rw n (others q (eqb-false q p n)));
  }

after : (o : Opening) (s : State) (p : ℕ) → AllHoldTheirs o s → OperationsHoldTheirs o (event o s p)
after o s p h = by (next_event o s p) refl
  where
    by : (x : Option Event) → next_event o s p ≡ x → OperationsHoldTheirs o (after_event p s x)
    by None is = h.operations
    by (Some e) is = step o s p e is h

pub operation-locks-kept : OperationLocksAreKept
operation-locks-kept = record {
  start = λ o ws. record { calls = call-locks-kept.start o ws; operations = record { timely = timeliness_kept.start o ws; each = λ q. tt } };
  event = λ o s p h. record { calls = call-locks-kept.event o s p h.calls; operations = after o s p h };
}

pub operation-locks-hold : OperationLocksHold
operation-locks-hold o ws schedule = (in_runs_of AllHoldTheirs operation-locks-kept o ws schedule).operations

-- At its act it holds all that it tries

-- of a processor whose guest's operation is on its way
module _ (o : Opening) (s : State) (p : ℕ) (all : OperationsHoldTheirs o s) (g : Guest) (is : (s.lps p).guest ≡ Some g) (op : GuestOp) (row : OperationRow) (trying : g.operation.phase ≡ Trying) (due : operation_due o s.world g ≡ Some op)
    (by-row : operation_of o g.tdr g.vp (length (s.lps p).replies + 1) op ≡ ByRow row) (succeeds : next (row.items s.world) (length g.operation.held) ≡ Succeeds) where
  its : HoldsFirst s.world g.tdr op g.operation.held
  its = due-first o s.world p (s.lps p) (all.each p) (λ e. false) g is op trying due

  pub operation-passes : Passes (row.items s.world) × HoldsTries (grip_of s p) (row.items s.world)
  operation-passes =
      let hs : List Held = g.operation.held in
      let within : IsWithin hs (locks_of (s.lps p)) =
      subst (λ (x : Option Guest). IsWithin hs ((s.lps p).call.held ++ operation_locks x)) (sym is) (record { held = held-behind (s.lps p).call.held hs; alone = alone-behind (s.lps p).call.held hs }) in (
        all-pass (row.items s.world) (length hs) succeeds,
        tries-held (grip_of s p) (locks_of (s.lps p)) (λ l h. h) (λ l h. h) (row.items s.world) hs its.0 within
            (row-tries o g.tdr g.vp (length (s.lps p).replies + 1) op row s.world by-row ∙ its.1) succeeds,
      )
