-- A turn of the run of a guest's step is a turn of its processor.
use Rattle.std.proofs.Common.{◌≡◌, ℕ, ◌+◌, ◌-◌, ◌*◌, ◌<◌, ◌≤◌, List, [], length, Option, Some, None, slice_get, refl, ap, sym, ◌∙◌, subst, arith}
use Rattle.report_core.specs.declared.facts.Facts.{Facts}
use Rattle.td_words.specs.declared.calls.Call.{Call}
use Rattle.td_words.specs.declared.calls.GuestOp.{GuestOp}
use Rattle.td_words.specs.declared.calls.GuestOp.TheVariants as op
use Rattle.td_words.specs.declared.replies.Outcome.{Outcome}
use Rattle.td_words.specs.declared.replies.Outcome.TheVariants as out
use Rattle.td_words.specs.declared.replies.Value.TheVariants as value
use Rattle.td_words.specs.declared.replies.Reply.{Reply}
use Rattle.td_words.specs.declared.replies.Reply.TheVariants.{Done, Exited}
use Rattle.flat_core.specs.Processor.{Translation}
use Rattle.flat_core.specs.Table.{operation_events}
use Rattle.step_core.specs.declared.items.Taken.{Taken}
use Rattle.leaf_engine.specs.declared.needs.Place.{Place}
use Rattle.leaf_engine.specs.Besides.{Beside, beside_after}
use Rattle.leaf_engine.specs.Guests.{WordGuest, Step, Operates, due_step, staying_step, step_of, passed_on, leaving_with}
use Rattle.leaf_engine.specs.Turns.{Standing}
use Rattle.leaf_engine.specs.OwnLists.{Piece, taken_in, TurnsInPieces, WordLp, running, after_step, GuestTurn}
use Rattle.leaf_table.specs.Ends.{Ends, step_answer, step_ends}
use Rattle.guest_turns.specs.Turns.{turn_of}
use Rattle.leaf_dispatch.specs.Answers.{answer_with, beside_by}
use Rattle.leaf_dispatch.specs.Bounds.{stage_used, run_used, step_used, unless_leaving, guest_left}
use Rattle.leaf_dispatch.specs.Guests.{guest_seen, unless_left, next_in}
use Rattle.leaf_table.specs.Given.{Given}
use Rattle.leaf_table.specs.Table.{step_task, place_table}
use Rattle.leaf_dispatch.specs.StepRuns.{StepTurned}
use Rattle.leaf_dispatch.specs.declared.guests.GuestAt.{GuestAt}
use Rattle.leaf_dispatch.specs.declared.step_runs.StepRun.{StepRun}
use Rattle.guest_turns.specs.declared.runs.LeafTurn.{LeafTurn}
use Rattle.leaf_dispatch.proofs.Lowering.{Gives, turn-gives}

-- the step of a guest whose list is its virtual processor's

staying-is : (codes : ℕ → ℕ → List GuestOp) (ts : List Translation) (x : WordGuest) (list : List GuestOp) (l : Option Outcome) → codes x.tdr x.index ≡ list → staying_step codes ts x l ≡ unless_left l (due_step ts x (slice_get list x.position))
staying-is codes ts x list None same = ap (λ (ops : List GuestOp). due_step ts x (slice_get ops x.position)) same
staying-is codes ts x list (Some out) same = refl

pub step-is : (codes : ℕ → ℕ → List GuestOp) (ts : List Translation) (g : GuestAt) (run : Option Standing) → codes g.tdr g.index ≡ g.list.now → step_of codes ts (guest_seen g run) ≡ next_in ts g run
step-is codes ts g run same = staying-is codes ts (guest_seen g run) g.list.now g.leaving same

pub record GuestMoved {B : Type 0} (did : List Taken → B → Type 0) (bench : B) (p : Place) (given : Given) (codes : ℕ → ℕ → List GuestOp) (c : Call) (cs : List Call) (line : Standing) (g : WordGuest) (rs : List Reply) (b : Beside) (q : WordLp) (result : LeafTurn) (P : List Taken → Type 0) : Type 0 where
  pub pieces : List Piece
  pub did_them : did (taken_in pieces) bench
  pub turn : GuestTurn (place_table p given codes) p.machine c cs line g rs b result.event pieces q
  pub shows : P (taken_in pieces)

guest-moves-at : TurnsInPieces → {B : Type 0} (did : List Taken → B → Type 0) (bench : B) (p : Place) (given : Given) (codes : ℕ → ℕ → List GuestOp) (c : Call) (cs : List Call) (line : Standing) (g : WordGuest) (rs : List Reply) (b : Beside) (kept : StepRun) (q : WordLp) (result : LeafTurn) (facts : Option Facts) (P : List Taken → Type 0)
    → let s = step_of codes b.cached g in let e = step_ends g.tdr (length rs + 1) s in (t : StepTurned did p.machine e (running (step_task given p g.tdr g.vp (length rs + 1) s) g.run) bench kept result facts)
    → P t.turned.0 → q ≡ after_step c cs line g rs (beside_by (answer_with e facts) [] result.act b) s t.stands result.reply → GuestMoved did bench p given codes c cs line g rs b q result P
guest-moves-at law did bench p given codes c cs line g rs b kept q result facts P t made after =
    let s : Step = step_of codes b.cached g in
    let e : Ends = step_ends g.tdr (length rs + 1) s in
    let run : Standing = running (step_task given p g.tdr g.vp (length rs + 1) s) g.run in
    let told = law.told p.machine run t.stands t.turned.0 (turn_of result) t.turned.2 in
    let gives : Gives e run t.stands result.event = turn-gives p.machine e run t.stands t.turned.0 result.event t.few_tries t.fits t.oldest t.turned.2.turn in
    let besides : beside_by (answer_with e facts) [] result.act b ≡ beside_after result.event t.stands.rest b = (λ i. beside_by (answer_with e (t.facts_is i)) (t.made_is i) (t.act_is i) b) ∙ sym (gives.beside b) in
    record {
      pieces = told.0;
      did_them = subst (λ (zs : List Taken). did zs bench) (sym told.2) t.turned.1;
      turn = record {
        stands = t.stands;
        turn = told.1;
        going = t.going;
        after_is =
            after
            ∙ (ap (λ (z : Beside). after_step c cs line g rs z s t.stands result.reply) besides
            ∙ ap (after_step c cs line g rs (beside_after result.event t.stands.rest b) s t.stands) t.turned.2.reply);
      };
      shows = subst P (sym told.2) made;
    }

-- whatever its step is
pub guest-moves : TurnsInPieces → {B : Type 0} (did : List Taken → B → Type 0) (bench : B) (p : Place) (given : Given) (codes : ℕ → ℕ → List GuestOp) (c : Call) (cs : List Call) (line : Standing) (g : WordGuest) (rs : List Reply) (b : Beside) (kept : StepRun) (q : WordLp) (result : LeafTurn) (facts : Option Facts) (P : List Taken → Type 0)
    (s : Step) → step_of codes b.cached g ≡ s → let e = step_ends g.tdr (length rs + 1) s in (t : StepTurned did p.machine e (running (step_task given p g.tdr g.vp (length rs + 1) s) g.run) bench kept result facts)
    → P t.turned.0 → q ≡ after_step c cs line g rs (beside_by (answer_with e facts) [] result.act b) s t.stands result.reply → GuestMoved did bench p given codes c cs line g rs b q result P
guest-moves law did bench p given codes c cs line g rs b kept q result facts P s is =
    subst
    (λ (z : Step). let e = step_ends g.tdr (length rs + 1) z in (t : StepTurned did p.machine e (running (step_task given p g.tdr g.vp (length rs + 1) z) g.run) bench kept result facts) → P t.turned.0 → q ≡ after_step c cs line g rs (beside_by (answer_with e facts) [] result.act b) z t.stands result.reply
    → GuestMoved did bench p given codes c cs line g rs b q result P)
    is
    (guest-moves-at law did bench p given codes c cs line g rs b kept q result facts P)

-- an operation leaves what is cached
pub cached-stays : (t line : ℕ) (o : GuestOp) (r : Reply) (ts : List Translation) → (step_answer t line (Operates o) r).cached ts ≡ ts
cached-stays t line (op.Load r gpa) (Done (value.Number x)) ts = refl
cached-stays t line (op.Store r gpa) (Done (value.Number x)) ts = refl
cached-stays t line (op.Rtmr i) (Done (value.Digest bytes)) ts = refl
cached-stays t line (op.Vmcall r) (Exited (out.Vmcall x)) ts = refl
cached-stays t line o r ts = refl

-- how many events a guest can still make, by what is due

abbrev pub left_by : Option Outcome → ℕ → Step → Option Standing → ℕ
left_by l n s run = unless_leaving l (operation_events * n - step_used s run)

pub left-is : (codes : ℕ → ℕ → List GuestOp) (ts : List Translation) (g : WordGuest) (s : Step) → g.leaving ≡ None → step_of codes ts g ≡ s → guest_left codes ts g ≡ left_by None (g.most - g.completed) s g.run
left-is codes ts g s stays is = ap (λ (l : Option Outcome). left_by l (g.most - g.completed) (step_of codes ts g) g.run) stays ∙ ap (λ (x : Step). left_by None (g.most - g.completed) x g.run) is

-- a step that goes on
pub goes-lower : (codes : ℕ → ℕ → List GuestOp) (ts ts' : List Translation) (g : WordGuest) (o : GuestOp) (s' : Standing) → g.leaving ≡ None → g.completed < g.most → step_of codes ts g ≡ Operates o → step_of codes ts' (record g { run = Some s' }) ≡ Operates o
    → run_used g.run < stage_used s'.stage (length s'.held) → run_used g.run < 5 → guest_left codes ts' (record g { run = Some s' }) < guest_left codes ts g
goes-lower codes ts ts' g o s' stays more is is' used few = rw (left-is codes ts g (Operates o) stays is, left-is codes ts' (record g { run = Some s' }) (Operates o) stays is') (omega (arith, more, used, few))

-- an operation that is completed, and a guest that is to be left
pub few-left : (codes : ℕ → ℕ → List GuestOp) (ts : List Translation) (g : WordGuest) → guest_left codes ts g ≤ operation_events * (g.most - g.completed)
few-left codes ts g = by-leaving g.leaving
  where
    by-leaving : (l : Option Outcome) → left_by l (g.most - g.completed) (step_of codes ts g) g.run ≤ operation_events * (g.most - g.completed)
    by-leaving None = omega arith
    by-leaving (Some out) = omega arith

pub passes-lower : (codes : ℕ → ℕ → List GuestOp) (ts ts' : List Translation) (g : WordGuest) (s : Step) → g.leaving ≡ None → g.completed < g.most → step_of codes ts g ≡ s → step_used s g.run < 5 → guest_left codes ts' (passed_on g) < guest_left codes ts g
passes-lower codes ts ts' g s stays more is few =
    let after : guest_left codes ts' (passed_on g) ≤ operation_events * (g.most - (g.completed + 1)) = few-left codes ts' (passed_on g) in
    rw (left-is codes ts g s stays is) (omega (arith, more, few, after))

pub leaving-lower : (codes : ℕ → ℕ → List GuestOp) (ts ts' : List Translation) (g : WordGuest) (out : Outcome) (s : Step) → g.leaving ≡ None → g.completed < g.most → step_of codes ts g ≡ s → step_used s g.run < 5 → guest_left codes ts' (leaving_with out g) < guest_left codes ts g
leaving-lower codes ts ts' g out s stays more is few = rw (left-is codes ts g s stays is) (omega (arith, more, few))
