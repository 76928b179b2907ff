-- Pages have one use: what a call takes was the host's, and nothing but a call's act changes what a page is used for.
use Rattle.std.proofs.Common.{◌≡◌, refl, subst, ℕ, ◌+◌, List, [], ◌∷◌, length, Option, Some, None, false, sym, ◌∙◌, ap, true, ◌==◌}
use Rattle.td_words.specs.declared.names.PageKind.{PageKind}
use Rattle.td_words.specs.declared.names.PageKind.TheVariants as kind
use Rattle.td_words.specs.declared.names.Access.{Access}
use Rattle.td_words.specs.declared.names.Access.TheVariants.{Read, Write}
use Rattle.td_words.specs.declared.machines.Machine.{Machine}
use Rattle.td_words.specs.declared.calls.Call.{Call}
use Rattle.td_words.specs.declared.calls.GuestOp.{GuestOp}
use Rattle.td_words.specs.declared.replies.Outcome.{Outcome}
use Rattle.td_words.specs.declared.replies.Reply.{Reply}
use Rattle.flat_core.specs.World.{World, Pages}
use Rattle.flat_core.specs.Processor.{Phase, Trying, Undoing, Answered, Held, Lp}
use Rattle.flat_core.specs.Opening.{Opening}
use Rattle.flat_core.specs.Row.{OperationRow, Move, Attempts, Undoes, Refuses, Succeeds, Releases, Rests, Passes, next, next_in}
use Rattle.flat_core.specs.Conditions.{same_kind, is_host_in}
use Rattle.flat_core.specs.Effects.{tell_words, take_node}
use Rattle.flat_core.specs.Guest.{ByRow, operation_of, is_pending_at, reach}
use Rattle.flat_core.specs.Table.{row_of}
use Rattle.flat_core.specs.Event.{State, Event, OfCall, OfOperation, lines_left, next_event, nothing_more, world_after, after_event, event}
use Rattle.flat_core.specs.Laws.{IsUsedAsBefore, PagesHaveOneUse, gives_back as is_given_back}
use Rattle.flat_core.specs.PageUses.{is_act, is_act_giving_back, EventsKeepUses}
use Rattle.flat_core.proofs.Operations.{operation_row, accepted}
use Rattle.flat_core.proofs.Enter.{all_pass}
use Rattle.flat_core.proofs.Due.{Due, calls, frees, leaves, stops, fills, operates, walks, reaches, undoes, gives_back, due_event_is}
use Rattle.flat_core.proofs.Tests.{host_apart}
use Rattle.flat_core.proofs.Shapes as shape
use Rattle.flat_core.proofs.Shapes.{Aspect, aspect_of, Takes, Shape, ActShape, one, moves, page_by_page, by_shapes}
use Rattle.flat_core.proofs.ShapeOf.{shape_of}

abbrev same_use : (pages : Pages) (p : ℕ) → IsUsedAsBefore pages pages p
same_use pages p = record { kind = refl; owner = refl; level = refl; number = refl }

-- another page becomes one of this kind
other_taken : (w : World) (q : ℕ) (k : PageKind) (t level number p : ℕ) → (p == q) ≡ false → IsUsedAsBefore w.pages (take_node q k t level number w).pages p
other_taken w q k t level number p n = record { kind = rw n refl; owner = rw n refl; level = rw n refl; number = rw n refl }

-- a host page does
host_taken : (w : World) (q : ℕ) (k : PageKind) (t level number p : ℕ) → is_host_in w.pages q ≡ true → is_host_in w.pages p ≡ false → IsUsedAsBefore w.pages (take_node q k t level number w).pages p
host_taken w q k t level number p host owned = other_taken w q k t level number p (host_apart w q p host owned)

takes_uses : (w w' : World) (p : ℕ) → is_host_in w.pages p ≡ false → Takes w w' → IsUsedAsBefore w.pages w'.pages p
takes_uses w w' p owned x =
    subst (λ (z : Pages). IsUsedAsBefore w.pages z p) (sym (ap (λ (z : Aspect). z.pages) x.rest)) (host_taken w x.page x.becomes x.tdr x.level x.number p x.host owned)

-- the act of any shape leaves a page in use to its use, but the one that it gives back
module _ (me : ℕ) (c : Call) (w w' : World) (p : ℕ) (owned : is_host_in w.pages p ≡ false) (stays : is_given_back c w p ≡ false) where
  as_in : (pages : Pages) → w'.pages ≡ pages → IsUsedAsBefore w.pages pages p → IsUsedAsBefore w.pages w'.pages p
  as_in pages e u = subst (λ (z : Pages). IsUsedAsBefore w.pages z p) (sym e) u

  by_aspect : (a : Aspect) → aspect_of w' ≡ a → IsUsedAsBefore w.pages a.pages p → IsUsedAsBefore w.pages w'.pages p
  by_aspect a e u = as_in a.pages (ap (λ (z : Aspect). z.pages) e) u

  by_world : (v : World) → w' ≡ v → IsUsedAsBefore w.pages v.pages p → IsUsedAsBefore w.pages w'.pages p
  by_world v e u = as_in v.pages (ap (λ (z : World). z.pages) e) u

  shape_uses : Shape me c w w' → IsUsedAsBefore w.pages w'.pages p
  shape_uses (shape.notes x) = by_aspect _ x.rest (same_use w.pages p)
  shape_uses (shape.fills x) = by_aspect _ x.rest (same_use w.pages p)
  shape_uses (shape.takes x held) = takes_uses w w' p owned x
  shape_uses (shape.reclaims x) = by_world _ x.is (other_taken w x.page kind.Nda 0 0 0 p (sym (x.given p) ∙ stays))
  shape_uses (shape.unmaps x) = by_world _ x.is (other_taken w (w.tds.entries x.tdr x.level x.number).page kind.Nda 0 0 0 p (sym (x.given p) ∙ stays))
  shape_uses (shape.begins x) = by_world _ x.is (host_taken w x.tdr kind.Tdr x.tdr 0 0 p x.host owned)
  shape_uses (shape.changes_life x) = by_aspect _ x.rest (same_use w.pages p)
  shape_uses (shape.changes_op x) = by_aspect _ x.rest (same_use w.pages p)
  shape_uses (shape.changes_vp x) = by_aspect _ x.rest (same_use w.pages p)
  shape_uses (shape.enters x) = by_world _ x.is (same_use w.pages p)
  shape_uses (shape.flushes x) = by_world _ x.is (same_use w.pages p)
  shape_uses (shape.changes_entry x) = by_aspect _ x.rest (record { kind = refl; owner = refl; level = refl; number = refl })
  shape_uses (shape.advances x) = by_world _ x.is (same_use w.pages p)

used_on : (w v u : World) (p : ℕ) → IsUsedAsBefore w.pages v.pages p → IsUsedAsBefore v.pages u.pages p → IsUsedAsBefore w.pages u.pages p
used_on w v u p a b = record { kind = b.kind ∙ a.kind; owner = b.owner ∙ a.owner; level = b.level ∙ a.level; number = b.number ∙ a.number }

owned_on : (w v : World) (p : ℕ) → IsUsedAsBefore w.pages v.pages p → is_host_in w.pages p ≡ false → is_host_in v.pages p ≡ false
owned_on w v p a owned = ap (λ (k : PageKind). same_kind k kind.Nda) a.kind ∙ owned

act_uses : {m : Machine} (me : ℕ) (c : Call) (w w' : World) (p : ℕ) → is_host_in w.pages p ≡ false → is_given_back c w p ≡ false → ActShape m me c w w'
    → IsUsedAsBefore w.pages w'.pages p
act_uses me c w w' p owned stays (one x) = shape_uses me c w w' p owned stays x
act_uses me c w w' p owned stays (moves v x y held) =
    let a = shape_uses me c w v p owned stays (shape.unmaps x) in used_on w v w' p a (takes_uses v w' p (owned_on w v p a owned) y)
act_uses me c w w' p owned stays (page_by_page none x) =
    by_shapes w w' w (λ v. IsUsedAsBefore w.pages v.pages p) (λ v u l y of a. used_on w v u p a (shape_uses me c v u p (owned_on w v p a owned) (none v p) y))
    (λ l. l) x (same_use w.pages p)

pub one_use : PagesHaveOneUse
one_use o me c w p ps owned stays = act_uses me c w ((row_of o me c).act w) p owned stays (shape_of o me c w ps)

-- through events

operation_uses : (o : Opening) (t v line : ℕ) (op : GuestOp) (row : OperationRow) (w : World) (q : ℕ) → operation_of o t v line op ≡ ByRow row → IsUsedAsBefore w.pages (tell_words (row.tells w) (row.act w)).pages q
operation_uses o t v line op row w q e =
    operation_row o t v line (λ x. IsUsedAsBefore w.pages (tell_words (x.tells w) (x.act w)).pages q)
    (λ r x. same_use w.pages q)
    (λ r s. same_use w.pages q)
    (λ r gpa. same_use w.pages q)
    (λ r gpa. same_use w.pages q)
    (λ gpa. accepted (λ x. IsUsedAsBefore w.pages x.pages q) (is_pending_at w t gpa) t gpa w (λ y. same_use w.pages q) (λ y. same_use w.pages q))
    (λ i. same_use w.pages q)
    (same_use w.pages q)
    (λ r. same_use w.pages q)
    op row e

reach_uses : (t v : ℕ) (access : Access) (r gpa page : ℕ) (w : World) (q : ℕ) → IsUsedAsBefore w.pages (reach t v access r gpa page w).pages q
reach_uses t v Read r gpa page w q = same_use w.pages q
reach_uses t v Write r gpa page w q = same_use w.pages q

module _ (o : Opening) (s : State) (p q : ℕ) where
  abbrev lp : Lp
  lp = s.lps p

  abbrev IsStill : World → Type 0
  IsStill w = IsUsedAsBefore s.world.pages w.pages q

  -- what is shown of the acts of calls is shown of all events
  module _ (Allowed : List Call → Option Event → Type 0)
      (acts : (c : Call) (cs : List Call) → Allowed (c ∷ cs) (Some (OfCall (row_of o p c) Succeeds)) → Passes ((row_of o p c).items s.world) → IsStill ((row_of o p c).act s.world)) where
    by_move : (c : Call) (cs : List Call) (move : Move Reply) → (move ≡ Succeeds → Passes ((row_of o p c).items s.world)) → Allowed (c ∷ cs) (Some (OfCall (row_of o p c) move)) → IsStill (world_after (OfCall (row_of o p c) move) s.world)
    by_move c cs (Attempts l m) passed a = same_use s.world.pages q
    by_move c cs (Undoes l) passed a = same_use s.world.pages q
    by_move c cs (Refuses r) passed a = same_use s.world.pages q
    by_move c cs Succeeds passed a = acts c cs a (passed refl)
    by_move c cs (Releases x) passed a = same_use s.world.pages q
    by_move c cs Rests passed a = same_use s.world.pages q

    passed_in : (c : Call) (phase : Phase Reply) (hs : List Held) → next_in ((row_of o p c).items s.world) phase hs ≡ Succeeds → Passes ((row_of o p c).items s.world)
    passed_in c Trying hs e = all_pass ((row_of o p c).items s.world) (length hs) e
    passed_in c (Undoing l) hs e = cc
    passed_in c (Answered r) [] e = cc
    passed_in c (Answered r) (x ∷ hs) e = cc

    by_operation_move : (t v line : ℕ) (op : GuestOp) (row : OperationRow) (move : Move (Option Outcome)) → operation_of o t v line op ≡ ByRow row → IsStill (world_after (OfOperation row move) s.world)
    by_operation_move t v line op row (Attempts l m) e = same_use s.world.pages q
    by_operation_move t v line op row (Undoes l) e = same_use s.world.pages q
    by_operation_move t v line op row (Refuses r) e = same_use s.world.pages q
    by_operation_move t v line op row Succeeds e = operation_uses o t v line op row s.world q e
    by_operation_move t v line op row (Releases x) e = same_use s.world.pages q
    by_operation_move t v line op row Rests e = same_use s.world.pages q

    by_ending : (out : Option Outcome) (hs : List Held) → IsStill (world_after (OfOperation nothing_more (next_in [] (Answered out) hs)) s.world)
    by_ending out [] = same_use s.world.pages q
    by_ending out (h ∷ hs) = same_use s.world.pages q

    by_due : (e : Event) → Due o s.world p lp e → Allowed (lines_left o p lp) (Some e) → IsStill (world_after e s.world)
    by_due e (calls c cs line none) a =
        by_move c cs (next_in ((row_of o p c).items s.world) lp.call.phase lp.call.held) (passed_in c lp.call.phase lp.call.held) (subst (λ (xs : List Call). Allowed xs (Some e)) line a)
    by_due e (frees c cs g h hs line guest held epoch) a = same_use s.world.pages q
    by_due e (leaves c cs g out x l) a = same_use s.world.pages q
    by_due e (stops c cs g x l t d) a = same_use s.world.pages q
    by_due e (fills c cs g op x l t d m) a = same_use s.world.pages q
    by_due e (operates c cs g op row x way is) a = by_operation_move g.tdr g.vp (length lp.replies + 1) op row (next (row.items s.world) (length g.operation.held)) is
    by_due e (walks c cs g op access r gpa x way is lost) a = same_use s.world.pages q
    by_due e (reaches c cs g op access r gpa page x way is found) a = reach_uses g.tdr g.vp access r gpa page s.world q
    by_due e (undoes c cs g l x st h) a = same_use s.world.pages q
    by_due e (gives_back c cs g out x st h) a = by_ending out g.operation.held

    still_used : Allowed (lines_left o p lp) (next_event o s p) → IsStill (event o s p).world
    still_used = by (next_event o s p) refl
      where
        by : (x : Option Event) → next_event o s p ≡ x → Allowed (lines_left o p lp) x → IsStill (after_event p s x).world
        by None e a = same_use s.world.pages q
        by (Some x) e a = by_due x (due_event_is o s p x e) a

pub events_keep_uses : EventsKeepUses
events_keep_uses = record {
  acts_alone = λ o s p q. still_used o s p q (λ cs x. is_act x ≡ false) (λ c cs a ps. cc);
  one_use = λ o s p q owned. still_used o s p q (λ cs x. is_act_giving_back cs x s.world q ≡ false) (λ c cs a ps. one_use o p c s.world q ps owned a);
}
