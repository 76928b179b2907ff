-- MRTD and what is measured, over runs and events.
use Rattle.std.proofs.Common.{◌≡◌, inl, inr, refl, sym, subst, ℕ, ◌+◌, List, [], ◌∷◌, length, Option, Some, None, true, false, ◌==◌}
use Rattle.std.proofs.lemmas.Bool.{eqb-true}
use Rattle.td_words.specs.declared.names.Access.{Access}
use Rattle.td_words.specs.declared.names.Access.TheVariants.{Read, Write}
use Rattle.td_words.specs.declared.machines.Machine.{Machine}
use Rattle.td_words.specs.declared.calls.Call.{Call}
use Rattle.td_words.specs.declared.calls.GuestOp.{GuestOp}
use Rattle.td_words.specs.declared.replies.Outcome.{Outcome}
use Rattle.td_words.specs.declared.replies.Reply.{Reply}
use Rattle.flat_core.specs.World.{World}
use Rattle.flat_core.specs.Processor.{Answered, Held, Lp}
use Rattle.flat_core.specs.Opening.{Opening}
use Rattle.flat_core.specs.Row.{OperationRow, Move, Attempts, Undoes, Refuses, Succeeds, Releases, Rests, Passes, next, next_in}
use Rattle.flat_core.specs.Conditions.{later_ops}
use Rattle.flat_core.specs.Effects.{tell_words}
use Rattle.flat_core.specs.Guest.{ByRow, operation_of, is_pending_at, reach}
use Rattle.flat_core.specs.Table.{row_of}
use Rattle.flat_core.specs.Event.{Event, OfCall, OfOperation, lines_left, next_event, nothing_more, world_after, after_event}
use Rattle.flat_core.specs.Laws.{with_bundles, AreMrtdsTrue, MrtdsAreKept, EveryMrtdIsTrue, measured_after_event, EventsMeasure}
use Rattle.flat_core.proofs.Tests.{by_test}
use Rattle.flat_core.proofs.Mrtd.{records_are_measured}
use Rattle.flat_core.proofs.Shapes as shape
use Rattle.flat_core.proofs.Shapes.{Measurement, mrtd_of, IsTrue, Aspect, aspect_of, IsOneOf, Takes, ChangesOp, Shape, ActShape, one, moves, page_by_page, by_shapes}
use Rattle.flat_core.proofs.ShapeOf.{shape_of}
use Rattle.flat_core.proofs.Operations.{operation_row, accepted}
use Rattle.flat_core.proofs.Due.{Due, calls, frees, leaves, stops, fills, operates, walks, reaches, undoes, gives_back, due_event_is}
use Rattle.flat_core.proofs.Induction.{world_event, in_runs}

-- the act of any shape
module _ (me : ℕ) (c : Call) (m : Machine) (w w' : World) (h : AreMrtdsTrue m w) where
  by_aspect : (a : Aspect) → aspect_of w' ≡ a → ((t : ℕ) → IsOneOf later_ops (a.ops t) → IsTrue (a.mrtds t)) → AreMrtdsTrue m w'
  by_aspect a e true_in t r = subst (λ (z : Aspect). IsTrue (z.mrtds t)) (sym e) (true_in t (subst (λ (z : Aspect). IsOneOf later_ops (z.ops t)) e r))

  by_world : (v : World) → w' ≡ v → AreMrtdsTrue m v → AreMrtdsTrue m w'
  by_world v e true_in = subst (λ (z : World). AreMrtdsTrue m z) (sym e) true_in

  stays : (t : ℕ) → mrtd_of w' t ≡ mrtd_of w t → IsOneOf later_ops (w.tds.ops t) → IsTrue (mrtd_of w' t)
  stays t e r = subst (λ (z : Measurement). IsTrue z) (sym e) (h t r)

  op_true : (x : ChangesOp c w w') → IsOneOf later_ops x.then_in → IsTrue (mrtd_of w' x.tdr)
  op_true x r = elim (x.mrtd r) [
    | inl kept ↦ stays x.tdr kept.1 kept.0
    | inr new ↦ new
  ]

  takes_true : Takes w w' → AreMrtdsTrue m w'
  takes_true x = by_aspect _ x.rest (λ t r. stays t (x.mrtds t r) r)

  shape_true : Shape me c w w' → AreMrtdsTrue m w'
  shape_true (shape.notes x) = by_aspect _ x.rest (λ t r. stays t (x.mrtds t r) r)
  shape_true (shape.fills x) = by_aspect _ x.rest h
  shape_true (shape.takes x held) = takes_true x
  shape_true (shape.reclaims x) = by_world _ x.is h
  shape_true (shape.unmaps x) = by_world _ x.is h
  shape_true (shape.begins x) = by_world _ x.is (λ t r. by_test (t == x.tdr) (λ y. absurd (let no : false ≡ true = rw y at r in cc)) (λ n. rw n (h t (rw n at r))))
  shape_true (shape.changes_life x) = by_aspect _ x.rest h
  shape_true (shape.changes_op x) = by_aspect _ x.rest (λ t r. by_test (t == x.tdr)
      (λ y. subst (λ (z : ℕ). IsTrue (mrtd_of w' z)) (sym (eqb-true t x.tdr y)) (op_true x (rw y at r)))
      (λ n. stays t (x.mrtds t n) (rw n at r)))
  shape_true (shape.changes_vp x) = by_aspect _ x.rest h
  shape_true (shape.enters x) = by_world _ x.is h
  shape_true (shape.flushes x) = by_world _ x.is h
  shape_true (shape.changes_entry x) = by_aspect _ x.rest h
  shape_true (shape.advances x) = by_world _ x.is h

act_true : (me : ℕ) (c : Call) (m : Machine) (w w' : World) → AreMrtdsTrue m w → ActShape m me c w w' → AreMrtdsTrue m w'
act_true me c m w w' h (one x) = shape_true me c m w w' h x
act_true me c m w w' h (moves v x y held) = takes_true me c m v w' (shape_true me c m w v h (shape.unmaps x)) y
act_true me c m w w' h (page_by_page none x) = by_shapes w w' w (AreMrtdsTrue m) (λ v u k y of h. shape_true me c m v u h y) (λ l. l) x h

row_true : (o : Opening) (me : ℕ) (c : Call) (w : World) → AreMrtdsTrue o.machine w → Passes ((row_of o me c).items w) → AreMrtdsTrue o.machine ((row_of o me c).act w)
row_true o me c w h ps = act_true me c o.machine w ((row_of o me c).act w) h (shape_of o me c w ps)

reach_true : (m : Machine) (t v : ℕ) (access : Access) (r gpa page : ℕ) (w : World) → AreMrtdsTrue m w → AreMrtdsTrue m (reach t v access r gpa page w)
reach_true m t v Read r gpa page w h = h
reach_true m t v Write r gpa page w h = h

operation_true : (o : Opening) (t v line : ℕ) (op : GuestOp) (row : OperationRow) (w : World) → operation_of o t v line op ≡ ByRow row → AreMrtdsTrue o.machine w → Passes (row.items w)
    → AreMrtdsTrue o.machine (tell_words (row.tells w) (row.act w))
operation_true o t v line op row w e h ps =
    operation_row o t v line (λ x. AreMrtdsTrue o.machine (tell_words (x.tells w) (x.act w)))
    (λ r x. h)
    (λ r s. h)
    (λ r gpa. h)
    (λ r gpa. h)
    (λ gpa. accepted (AreMrtdsTrue o.machine) (is_pending_at w t gpa) t gpa w (λ y. h) (λ y. h))
    (λ i. h)
    h
    (λ r. h)
    op row e

pub mrtds_kept : MrtdsAreKept
mrtds_kept = record {
  start = λ o ws t r. absurd (let no : false ≡ true = r in cc);
  event = λ o bundles s p h. world_event (with_bundles o bundles) (AreMrtdsTrue o.machine)
      (row_true (with_bundles o bundles))
      (operation_true (with_bundles o bundles))
      (λ t v line op access r gpa page w e. reach_true o.machine t v access r gpa page w)
      (λ v w h. h)
      s p h;
}

pub every_mrtd : EveryMrtdIsTrue
every_mrtd = in_runs (λ o s. AreMrtdsTrue o.machine s.world) mrtds_kept

module _ (o : Opening) (w : World) (p : ℕ) (lp : Lp) (t : ℕ) where
  abbrev Measures : List Call → Event → Type 0
  Measures cs e = (world_after e w).tds.measured t ≡ measured_after_event cs (Some e) w t

  call_measures : (c : Call) (cs : List Call) (move : Move Reply) → Measures (c ∷ cs) (OfCall (row_of o p c) move)
  call_measures c cs (Attempts l m) = refl
  call_measures c cs (Undoes l) = refl
  call_measures c cs (Refuses r) = refl
  call_measures c cs Succeeds = records_are_measured o p c w t
  call_measures c cs (Releases x) = refl
  call_measures c cs Rests = refl

  act_measures : (u v line : ℕ) (op : GuestOp) (row : OperationRow) → operation_of o u v line op ≡ ByRow row → (tell_words (row.tells w) (row.act w)).tds.measured t ≡ w.tds.measured t
  act_measures u v line op row e =
      operation_row o u v line (λ x. (tell_words (x.tells w) (x.act w)).tds.measured t ≡ w.tds.measured t)
      (λ r x. refl)
      (λ r s. refl)
      (λ r gpa. refl)
      (λ r gpa. refl)
      (λ gpa. accepted (λ x. x.tds.measured t ≡ w.tds.measured t) (is_pending_at w u gpa) u gpa w (λ y. refl) (λ y. refl))
      (λ i. refl)
      refl
      (λ r. refl)
      op row e

  operation_measures : (u v line : ℕ) (op : GuestOp) (c : Call) (cs : List Call) (row : OperationRow) (move : Move (Option Outcome)) → operation_of o u v line op ≡ ByRow row → Measures (c ∷ cs) (OfOperation row move)
  operation_measures u v line op c cs row (Attempts l m) e = refl
  operation_measures u v line op c cs row (Undoes l) e = refl
  operation_measures u v line op c cs row (Refuses r) e = refl
  operation_measures u v line op c cs row Succeeds e = act_measures u v line op row e
  operation_measures u v line op c cs row (Releases x) e = refl
  operation_measures u v line op c cs row Rests e = refl

  reach_measures : (u v : ℕ) (access : Access) (r gpa page : ℕ) → (reach u v access r gpa page w).tds.measured t ≡ w.tds.measured t
  reach_measures u v Read r gpa page = refl
  reach_measures u v Write r gpa page = refl

  ending_measures : (c : Call) (cs : List Call) (out : Option Outcome) (hs : List Held) → Measures (c ∷ cs) (OfOperation nothing_more (next_in [] (Answered out) hs))
  ending_measures c cs out [] = refl
  ending_measures c cs out (h ∷ hs) = refl

  due_measures : (e : Event) → Due o w p lp e → Measures (lines_left o p lp) e
  due_measures e (calls c cs line g) = rw line (call_measures c cs (next_in ((row_of o p c).items w) lp.call.phase lp.call.held))
  due_measures e (frees c cs g h hs line guest held epoch) = rw line refl
  due_measures e (leaves c cs g out i l) = rw (i.line) refl
  due_measures e (stops c cs g i l t d) = rw (i.line) refl
  due_measures e (fills c cs g op i l t d m) = rw (i.line) refl
  due_measures e (operates c cs g op row i way is) = rw (i.line) (operation_measures g.tdr g.vp (length lp.replies + 1) op c cs row (next (row.items w) (length g.operation.held)) is)
  due_measures e (walks c cs g op access r gpa i way is lost) = rw (i.line) refl
  due_measures e (reaches c cs g op access r gpa page i way is found) = rw (i.line) (reach_measures g.tdr g.vp access r gpa page)
  due_measures e (undoes c cs g l i s h) = rw (i.line) refl
  due_measures e (gives_back c cs g out i s h) = rw (i.line) (ending_measures c cs out g.operation.held)

pub events_measure : EventsMeasure
events_measure o s p t = by (next_event o s p) refl
  where
    none : (cs : List Call) → s.world.tds.measured t ≡ measured_after_event cs None s.world t
    none [] = refl
    none (c ∷ cs) = refl

    by : (x : Option Event) → next_event o s p ≡ x → (after_event p s x).world.tds.measured t ≡ measured_after_event (lines_left o p (s.lps p)) x s.world t
    by None e = none (lines_left o p (s.lps p))
    by (Some x) e = due_measures o s.world p (s.lps p) t x (due_event_is o s p x e)
