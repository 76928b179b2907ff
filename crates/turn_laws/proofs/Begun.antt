-- A call that has made an event has begun.
use Rattle.std.proofs.Common.{◌≡◌, ◌≢◌, ℕ, ◌<◌, Bool, true, false, List, [], ◌∷◌, length, length-append, Option, Some, None, refl, ap, sym, ◌∙◌, subst, arith}
use Rattle.td_words.specs.declared.machines.Machine.{Machine}
use Rattle.td_words.specs.declared.calls.Call.{Call}
use Rattle.td_words.specs.declared.names.LockName.{LockName}
use Rattle.td_words.specs.declared.names.Mode.{Mode}
use Rattle.td_words.specs.declared.names.Mode.TheVariants.{Shared, Exclusive}
use Rattle.td_words.specs.declared.replies.Reply.{Reply}
use Rattle.flat_core.specs.World.{World}
use Rattle.flat_core.specs.Processor.{Trying, Progress, nothing_yet}
use Rattle.flat_core.specs.Opening.{Opening}
use Rattle.flat_core.specs.Event.{State}
use Rattle.step_core.specs.Items.{Table}
use Rattle.step_core.specs.declared.items.Taken.{Taken}
use Rattle.leaf_engine.specs.declared.events.Event.{Event}
use Rattle.leaf_engine.specs.declared.events.Event.TheVariants as event
use Rattle.leaf_engine.specs.declared.events.HeldLock.{HeldLock}
use Rattle.leaf_engine.specs.declared.events.Stage.{Stage}
use Rattle.leaf_engine.specs.declared.events.Stage.TheVariants as stages
use Rattle.leaf_engine.specs.declared.needs.Need.{Need}
use Rattle.leaf_engine.specs.declared.needs.Need.TheVariants as need
use Rattle.leaf_engine.specs.Trees.{Tree, answer_of, passed, settle}
use Rattle.leaf_engine.specs.Besides.{Beside, beside_after}
use Rattle.leaf_engine.specs.Calls.{IsStage, AreLocks}
use Rattle.leaf_engine.specs.Turns.{Standing, tried, denied, grants, Comes, TurnBy, TakesBack, GivesBack, last_reply}
use Rattle.leaf_engine.specs.Guests.{WordGuest, or_else, guest_entered, guest_after, Step, Operates, Accesses, Loads, Leaves, step_of, gives_epoch_back}
use Rattle.leaf_engine.specs.OwnLists.{Piece, TurnIn, LeafTable, WordLp, after_turn, after_step, LineTurn, EnteredTurn, LinesTurn, LpTurns}
use Rattle.leaf_engine.specs.Standing.{RunStands}
use Rattle.turn_laws.specs.Turns.{HasBegun, AllStand}

abbrev HasMoved : Standing → Type 0
HasMoved s = s.stage ≡ stages.Trying → length s.held ≡ 0 → ⊥

denied-moved : (name : LockName) (at : ℕ) (mode : Mode) → denied name at mode ≡ stages.Trying → ⊥
denied-moved name at Shared e = cc
denied-moved name at Exclusive e = cc

tried-moved : (s : Standing) (t : Tree) (name : LockName) (at : ℕ) (mode : Mode) (b : Bool) → HasMoved (tried s t name at mode b)
tried-moved s t name at mode true e none = (let n = length-append s.held (record { name = name; at = at; mode = mode } ∷ []) in omega (arith, n, none))
tried-moved s t name at mode false e none = denied-moved name at mode e

comes-moved : (m : Machine) (s s' : Standing) (e : Event) (n : Need) (t : Tree) (loads items : List Taken) → Comes m s t loads items n s' e → HasMoved s'
comes-moved m s s' e (need.Lock name at mode) t loads items c = subst HasMoved (sym c.after) (tried-moved s t name at mode (grants mode c.seen))
comes-moved m s s' e (need.Load at) t loads items c = absurd c
comes-moved m s s' e (need.Verdict reply) t loads items c = λ st none. (let bad = sym (ap (λ (z : Standing). z.stage) c.after) ∙ st in cc)

turn-moved : (m : Machine) (s s' : Standing) (e : Event) (ps : List Piece) (st : Stage) → TurnIn st m s ps s' e → s.stage ≡ st → HasMoved s'
turn-moved m s s' e ps stages.Trying t is = comes-moved m s s' e t.goes.need (passed (settle t.goes.tree)) t.goes.loads t.items t.goes.comes
turn-moved m s s' e ps (stages.Undoing name at) t is = λ st none.
    let back : TakesBack s name at t.items s' e = subst (λ (z : Stage). TurnBy z m s t.items s' e) is t.turn in
    (let bad = sym (ap (λ (z : Standing). z.stage) back.after) ∙ st in cc)
turn-moved m s s' e ps (stages.Answered r) t is = λ st none.
    let gives : GivesBack s.held t.items s'.held e × (s' ≡ record s { held = s'.held }) = subst (λ (z : Stage). TurnBy z m s t.items s' e) is t.turn in
    (let bad = sym is ∙ (sym (ap (λ (z : Standing). z.stage) gives.1) ∙ st) in cc)

guest-stays : (e : Event) (t : Tree) (x : WordGuest) → (y : WordGuest) × (guest_after e t (Some x) ≡ Some y)
guest-stays event.Act t x = by (guest_entered (answer_of t))
  where
    by : (z : Option WordGuest) → (y : WordGuest) × (or_else z (Some x) ≡ Some y)
    by None = (x, refl)
    by (Some g) = (g, refl)
guest-stays _ t x = (x, refl)

begun-in : (run : Standing) (g : Option WordGuest) → HasMoved run → HasBegun (Some run) g
begun-in run None h = h
begun-in run (Some x) h = tt

after-begun : (c : Call) (cs : List Call) (g : Option WordGuest) (rs : List Reply) (b : Beside) (s : Standing) (r : Option Reply) → HasMoved s → let a = after_turn c cs g rs b s r in HasBegun a.run a.guest
after-begun c cs g rs b s None h = begun-in s g h
after-begun c cs g rs b s (Some r) h = tt

step-begun : (c : Call) (cs : List Call) (line : Standing) (g : WordGuest) (rs : List Reply) (b : Beside) (step : Step) (s : Standing) (r : Option Reply) → let a = after_step c cs line g rs b step s r in HasBegun a.run a.guest
step-begun c cs line g rs b step s None = tt
step-begun c cs line g rs b (Operates o) s (Some r) = tt
step-begun c cs line g rs b (Accesses access x gpa page) s (Some r) = tt
step-begun c cs line g rs b (Loads access gpa level page) s (Some r) = tt
step-begun c cs line g rs b (Leaves out) s (Some r) = λ st none. cc

pub turns-begin : (t : LeafTable) (m : Machine) (at : WordLp) (e : Event) (ps : List Piece) (after : WordLp) → LpTurns t m at e ps after → HasBegun after.run after.guest
turns-begin t m at e ps after turn = by at.lines at.run at.guest turn
  where
    line : (c : Call) (cs : List Call) (run : Option Standing) (g : Option WordGuest) → LineTurn t.call m c cs run g at.replies at.beside e ps after → HasBegun after.run after.guest
    line c cs run g l =
        subst (λ (z : WordLp). HasBegun z.run z.guest) (sym l.after_is)
        (after-begun c cs (guest_after e l.stands.rest g) at.replies (beside_after e l.stands.rest at.beside) l.stands (last_reply l.stands.stage l.stands.held) (turn-moved m _ l.stands e ps _ l.turn refl))

    entered : (c : Call) (cs : List Call) (run : Standing) (x : WordGuest) (give : Bool) → EnteredTurn t m c cs run x at.replies at.beside e ps after give → HasBegun after.run after.guest
    entered c cs run x true l = line c cs (Some run) (Some x) l
    entered c cs run x false l =
        subst (λ (z : WordLp). HasBegun z.run z.guest) (sym l.after_is)
        (step-begun c cs run x at.replies (beside_after e l.stands.rest at.beside) (step_of t.codes at.beside.cached x) l.stands (last_reply l.stands.stage l.stands.held))

    by : (cs : List Call) (run : Option Standing) (g : Option WordGuest) → LinesTurn t m cs run g at.replies at.beside e ps after → HasBegun after.run after.guest
    by [] run g l = absurd l
    by (c ∷ cs) run None l = line c cs run None l
    by (c ∷ cs) None (Some x) l = absurd l
    by (c ∷ cs) (Some run) (Some x) l = entered c cs run x (gives_epoch_back run.held) l

-- so the flat machine's call has
no-locks : (m : Machine) (w : World) (hs : List HeldLock) → AreLocks m w hs [] → length hs ≡ 0
no-locks m w hs a = ap length a

stage-trying : (m : Machine) (w : World) (st : Stage) → IsStage m w st Trying → st ≡ stages.Trying
stage-trying m w stages.Trying i = refl
stage-trying m w (stages.Undoing name at) i = absurd i
stage-trying m w (stages.Answered r) i = absurd i

pub begun-call : (o : Opening) (leaf : ℕ → LeafTable) (now : ℕ → WordLp) (s : State) (u : Table) (p : ℕ) (c : Call) (cs : List Call) (run : Standing) → AllStand o leaf now s u → p < length o.calls
    → (now p).lines ≡ c ∷ cs → (now p).run ≡ Some run → (now p).guest ≡ None → HasBegun (Some run) None → (s.lps p).call ≢ nothing_yet
begun-call o leaf now s u p c cs run all i lines runs outside begun none =
    let st = (all.each p i).stands.run in
    let call = subst (λ (g : Option WordGuest). RunStands o (leaf p) p s.world all.memory.words (s.lps p) (c ∷ cs) (Some run) g (now p).replies (now p).beside) outside
    (subst (λ (r : Option Standing). RunStands o (leaf p) p s.world all.memory.words (s.lps p) (c ∷ cs) r (now p).guest (now p).replies (now p).beside) runs
    (subst (λ (l : List Call). RunStands o (leaf p) p s.world all.memory.words (s.lps p) l (now p).run (now p).guest (now p).replies (now p).beside) lines st)) in
    let m : Machine = ((leaf p).call c).place.machine in
    begun
    (stage-trying m s.world run.stage (subst (λ (x : Progress Reply). IsStage m s.world run.stage x.phase) none call.at.stage))
    (no-locks m s.world run.held (subst (λ (x : Progress Reply). AreLocks m s.world run.held x.held) none call.at.held))
