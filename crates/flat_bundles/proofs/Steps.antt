-- What an event makes of the bundles and of the streams' words, and of how many calls of its processor have acted.
use Rattle.std.proofs.Common.{◌≡◌, refl, sym, ap, subst, ℕ, ◌+◌, ◌≤◌, List, [], ◌∷◌, length, Option, Some, None, Bool, length-append, arith}
use Rattle.td_words.specs.declared.calls.Call.{Call}
use Rattle.td_words.specs.declared.replies.Outcome.{Outcome}
use Rattle.td_words.specs.declared.replies.Outcome.TheVariants.{Stop, Max}
use Rattle.td_words.specs.declared.replies.Reply.{Reply}
use Rattle.td_words.specs.declared.replies.Reply.TheVariants.{Done}
use Rattle.td_words.specs.Slots.{output_slot}
use Rattle.flat_core.specs.World.{World}
use Rattle.flat_core.specs.Processor.{Phase, Trying, Undoing, Answered, Held, Entering, Lp}
use Rattle.flat_core.specs.Opening.{Opening}
use Rattle.flat_core.specs.Row.{Row, OperationRow, Move, Attempts, Undoes, Refuses, Succeeds, Releases, Rests, next, next_in}
use Rattle.flat_core.specs.Table.{row_of}
use Rattle.flat_core.specs.Event.{Event, OfCall, OfOperation, Leaves, lines_left, world_after, call_lp, succeeded, settle, settled, lp_after, nothing_more}
use Rattle.flat_core.proofs.Due.{Due, calls, frees, leaves, stops, fills, operates, walks, reaches, undoes, gives_back}
use Rattle.flat_bundles.specs.Bundles.{AddsBundle, AddsOwn, answered, acted}
use Rattle.flat_bundles.proofs.Rows.{calls-add, enters-none, operation-adds, operation-streams, reach-adds, reach-streams}

pub one-answered : (phase : Phase Reply) → answered phase ≤ 1
one-answered Trying = omega arith
one-answered (Undoing l) = omega arith
one-answered (Answered r) = omega arith

-- a line that is done was answered before
settled-acted : (lp : Lp) → acted (settled lp) ≡ acted lp
settled-acted lp = by lp.call.phase lp.call.held refl
  where
    by : (phase : Phase Reply) (hs : List Held) → lp.call.phase ≡ phase → acted (settle phase hs lp) ≡ acted lp
    by (Answered r) [] e = let one = ap answered e in omega (arith, one, length-append lp.replies (r ∷ []))
    by (Answered r) (h ∷ hs) e = refl
    by Trying hs e = refl
    by (Undoing l) hs e = refl

succeeded-replies : (w : World) (row : Row) (e : Option Entering) (lp : Lp) → (succeeded w row e lp).replies ≡ lp.replies
succeeded-replies w row None lp = refl
succeeded-replies w row (Some e) lp = refl

made-replies : (w : World) (b : Bool) (row : Row) (move : Move Reply) (lp : Lp) → (call_lp w b row move lp).replies ≡ lp.replies
made-replies w b row (Attempts l m) lp = refl
made-replies w b row (Undoes l) lp = refl
made-replies w b row (Refuses r) lp = refl
made-replies w b row Succeeds lp = succeeded-replies w row row.enters lp
made-replies w b row (Releases h) lp = refl
made-replies w b row Rests lp = refl

-- the reply of a call that has acted
abbrev pub IsDone : Phase Reply → Type 0
IsDone (Answered (Done value)) = Unit {0}
IsDone (Answered _) = ⊥
IsDone _ = Unit {0}

-- outside guests a call that enters none is answered by its act
pub record IsAnswered (before after : Lp) : Type 0 where
  pub outside : before.guest ≡ None
  pub stays_out : after.guest ≡ None
  pub more : acted after ≡ 1 + length before.replies
  pub done : IsDone after.call.phase

act-answers : (w : World) (b : Bool) (row : Row) (lp : Lp) → lp.guest ≡ None → row.enters ≡ None → IsAnswered lp (settled (call_lp w b row Succeeds lp))
act-answers w b row lp out none = subst (λ (x : Option Entering). IsAnswered lp (settled (succeeded w row x lp))) (sym none) (by lp.call.held)
  where
    by : (hs : List Held) → IsAnswered lp (settle (Answered (Done (row.value w))) hs (succeeded w row None lp))
    by [] = record { outside = out; stays_out = out; more = omega (arith, length-append lp.replies (Done (row.value w) ∷ [])); done = tt }
    by (h ∷ hs) = record { outside = out; stays_out = out; more = refl; done = tt }

module _ (o : Opening) (w : World) (p : ℕ) (lp : Lp) where
  -- An event leaves the bundles and the streams' words, and no fewer have acted; or it is the act of the next line, and where it
  -- enters no guest, that line is answered.
  pub data Acts (b : Bool) (e : Event) : Type 0 where
    idle : (world_after e w).outgoing.bundles ≡ w.outgoing.bundles → (world_after e w).streams ≡ w.streams → acted lp ≤ acted (lp_after w b e lp) → Acts b e
    acts : (c : Call) (cs : List Call) → lines_left o p lp ≡ c ∷ cs → world_after e w ≡ (row_of o p c).act w → acted lp ≡ length lp.replies → acted lp ≤ acted (lp_after w b e lp)
        → ((row_of o p c).enters ≡ None → IsAnswered lp (lp_after w b e lp)) → Acts b e

  -- none has been answered that goes on through its row
  not-fewer : (b : Bool) (row : Row) (move : Move Reply) → answered lp.call.phase ≡ 0 → acted lp ≤ acted (settled (call_lp w b row move lp))
  not-fewer b row move none =
      let x : Lp = call_lp w b row move lp in
      let replies : length x.replies ≡ length lp.replies = ap (λ (rs : List Reply). length rs) (made-replies w b row move lp) in
      omega (arith, none, replies, settled-acted x)

  module _ (b : Bool) (c : Call) (cs : List Call) (line : lines_left o p lp ≡ c ∷ cs) where
    abbrev row : Row
    row = row_of o p c

    move-acts : (move : Move Reply) → lp.guest ≡ None → answered lp.call.phase ≡ 0 → Acts b (OfCall row move)
    move-acts Succeeds out none = acts c cs line refl (omega (arith, none)) (not-fewer b row Succeeds none) (act-answers w b row lp out)
    move-acts (Attempts l m) out none = idle refl refl (not-fewer b row (Attempts l m) none)
    move-acts (Undoes l) out none = idle refl refl (not-fewer b row (Undoes l) none)
    move-acts (Refuses r) out none = idle refl refl (not-fewer b row (Refuses r) none)
    move-acts (Releases h) out none = idle refl refl (not-fewer b row (Releases h) none)
    move-acts Rests out none = idle refl refl (not-fewer b row Rests none)

    release-acts : (h : Held) → Acts b (OfCall row (Releases h))
    release-acts h = idle refl refl (let same = settled-acted (call_lp w b row (Releases h) lp) in omega (arith, same))

    rest-acts : Acts b (OfCall row Rests)
    rest-acts = idle refl refl (let same = settled-acted (call_lp w b row Rests lp) in omega (arith, same))

    call-acts : (phase : Phase Reply) (hs : List Held) → lp.guest ≡ None → lp.call.phase ≡ phase → Acts b (OfCall row (next_in (row.items w) phase hs))
    call-acts Trying hs out e = move-acts (next_in (row.items w) Trying hs) out (ap answered e)
    call-acts (Undoing l) hs out e = move-acts (Undoes l) out (ap answered e)
    call-acts (Answered r) [] out e = rest-acts
    call-acts (Answered r) (h ∷ hs) out e = release-acts h

  leave-acts : (b : Bool) (v : ℕ) (out : Outcome) → Acts b (Leaves v out)
  leave-acts b v out = idle refl refl (omega (arith, one-answered lp.call.phase))

  operation-acts : (b : Bool) (row : OperationRow) (move : Move (Option Outcome)) → (row.act w).outgoing.bundles ≡ w.outgoing.bundles → (row.act w).streams ≡ w.streams → Acts b (OfOperation row move)
  operation-acts b row (Attempts l m) same still = idle refl refl (omega arith)
  operation-acts b row (Undoes l) same still = idle refl refl (omega arith)
  operation-acts b row (Refuses r) same still = idle refl refl (omega arith)
  operation-acts b row Succeeds same still = idle same still (omega arith)
  operation-acts b row (Releases h) same still = idle refl refl (omega arith)
  operation-acts b row Rests same still = idle refl refl (omega arith)

  pub event-acts : (b : Bool) (e : Event) → Due o w p lp e → Acts b e
  event-acts b e (calls c cs line none) = call-acts b c cs line lp.call.phase lp.call.held none refl
  event-acts b e (frees c cs g h hs line guest held epoch) = release-acts b c cs line h
  event-acts b e (leaves c cs g out inside leaving) = leave-acts b g.vp out
  event-acts b e (stops c cs g inside still trying due) = leave-acts b g.vp Stop
  event-acts b e (fills c cs g op inside still trying due full) = leave-acts b g.vp Max
  event-acts b e (operates c cs g op row inside way is) =
      operation-acts b row (next (row.items w) (length g.operation.held)) (operation-adds o g.tdr g.vp (length lp.replies + 1) op row w is) (operation-streams o g.tdr g.vp (length lp.replies + 1) op row w is)
  event-acts b e (walks c cs g op access r gpa inside way is lost) = idle refl refl (omega arith)
  event-acts b e (reaches c cs g op access r gpa page inside way is found) = idle (reach-adds g.tdr g.vp access r gpa page w) (reach-streams g.tdr g.vp access r gpa page w) (omega arith)
  event-acts b e (undoes c cs g l inside still phase) = operation-acts b nothing_more _ refl refl
  event-acts b e (gives_back c cs g out inside still phase) = operation-acts b nothing_more (next_in [] (Answered out) g.operation.held) refl refl

  -- An event adds no bundle, and no fewer have acted; or it is the act of the next line, which adds one in its slot.
  pub data Goes (b : Bool) (e : Event) : Type 0 where
    stays : (world_after e w).outgoing.bundles ≡ w.outgoing.bundles → acted lp ≤ acted (lp_after w b e lp) → Goes b e
    makes : (c : Call) (cs : List Call) (slot : ℕ) → lines_left o p lp ≡ c ∷ cs → output_slot c ≡ Some slot
        → AddsBundle slot w.outgoing.bundles (world_after e w).outgoing.bundles → acted lp ≡ length lp.replies → IsAnswered lp (lp_after w b e lp) → Goes b e

  pub event-goes : (b : Bool) (e : Event) → Due o w p lp e → Goes b e
  event-goes b e due = from (event-acts b e due)
    where
      from : Acts b e → Goes b e
      from (idle same still le) = stays same le
      from (acts c cs line is now le more) = by (output_slot c) refl
        where
          adds : (x : Option ℕ) → output_slot c ≡ x → AddsOwn x w.outgoing.bundles (world_after e w).outgoing.bundles
          adds x names =
              subst (λ (v : World). AddsOwn x w.outgoing.bundles v.outgoing.bundles) (sym is)
              (subst (λ (y : Option ℕ). AddsOwn y w.outgoing.bundles ((row_of o p c).act w).outgoing.bundles) names (calls-add o p c w))

          by : (x : Option ℕ) → output_slot c ≡ x → Goes b e
          by None names = stays (adds None names) le
          by (Some slot) names = makes c cs slot line names (adds (Some slot) names) now (more (enters-none o p c slot names))
