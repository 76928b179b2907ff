-- A turn of the run of the present line is a turn of its processor.
use Rattle.std.proofs.Common.{◌≡◌, ℕ, ◌+◌, ◌%◌, ◌<◌, ◌≤◌, List, [], ◌∷◌, ◌++◌, length, Option, Some, None, refl, ap, sym, ◌∙◌, subst, arith}
use Rattle.report_core.specs.declared.facts.Facts.{Facts}
use Rattle.td_words.specs.declared.machines.Machine.{Machine}
use Rattle.td_words.specs.declared.calls.Call.{Call}
use Rattle.td_words.specs.declared.calls.GuestOp.{GuestOp}
use Rattle.td_words.specs.declared.replies.Reply.{Reply}
use Rattle.flat_core.specs.World.{Made}
use Rattle.flat_core.specs.Table.{most_tries, guest_events}
use Rattle.flat_core.specs.Run.{events_in}
use Rattle.step_core.specs.declared.items.Taken.{Taken}
use Rattle.leaf_engine.specs.declared.needs.Place.{Place}
use Rattle.leaf_engine.specs.declared.events.Event.{Event}
use Rattle.leaf_engine.specs.Besides.{Beside, beside_after}
use Rattle.leaf_engine.specs.Guests.{WordGuest, guest_after}
use Rattle.leaf_engine.specs.Turns.{Standing}
use Rattle.leaf_engine.specs.OwnLists.{Piece, taken_in, TurnsInPieces, WordLp, running, after_turn, LineTurn, LpTurns}
use Rattle.leaf_table.specs.Ends.{Ends, call_answer, call_ends}
use Rattle.guest_turns.specs.Turns.{turn_of}
use Rattle.leaf_dispatch.specs.Answers.{answer_with, beside_by, guest_by}
use Rattle.leaf_dispatch.specs.Bounds.{stage_left, run_left, events_left}
use Rattle.leaf_table.specs.Given.{Given}
use Rattle.leaf_table.specs.Table.{task_of, place_table}
use Rattle.leaf_dispatch.specs.Running.{LeafTurned}
use Rattle.leaf_dispatch.specs.Shown.{event_as, epoch_loaded}
use Rattle.trace_laws.specs.Told.{told}
use Rattle.guest_turns.specs.declared.runs.LeafTurn.{LeafTurn}
use Rattle.leaf_dispatch.proofs.Lowering.{Gives, turn-gives}

-- the present line's run before, and what its turn gives
pub line-gives : {B : Type 0} (did : List Taken → B → Type 0) (bench : B) (m : Machine) (e : Ends) (s : Standing) {kept : Option Standing} {Keeps : Type 0} {facts : Option Facts} (result : LeafTurn) (made : List Made) → (t : LeafTurned did m e s bench kept Keeps result made facts) → Gives e s t.stands result.event
line-gives did bench m e s result made t = turn-gives m e s t.stands t.turned.0 result.event t.few_tries t.fits t.oldest t.turned.2.turn

pub record LineMoved {B : Type 0} (did : List Taken → B → Type 0) (bench : B) (given : Given) (p : Place) (c : Call) (cs : List Call) (run : Option Standing) (g : Option WordGuest) (rs : List Reply) (b : Beside) (q : WordLp) (result : LeafTurn) : Type 0 where
  pub pieces : List Piece
  pub did_them : did (taken_in pieces) bench
  pub turn : LineTurn (task_of given p) p.machine c cs run g rs b result.event pieces q

-- what is left of it afterwards, by the replies of its act and of its last event, and the bundles that it made
abbrev pub after_line : Call → List Call → Option WordGuest → List Reply → Beside → Standing → LeafTurn → List Made → WordLp
after_line c cs g rs b s t made = after_turn c cs (guest_by (call_answer c) t.act g) rs (beside_by (call_answer c) made t.act b) s t.reply

pub line-moves : TurnsInPieces → {B : Type 0} (did : List Taken → B → Type 0) (bench : B) (given : Given) (p : Place) (c : Call) (cs : List Call) (run : Option Standing) (g : Option WordGuest) (rs : List Reply) (b : Beside) {kept : Option Standing} {Keeps : Type 0} (q : WordLp) (result : LeafTurn) (made : List Made)
    → (t : LeafTurned did p.machine (call_ends p.machine c) (running (task_of given p c) run) bench kept Keeps result made None) → q ≡ after_line c cs g rs b t.stands result made
    → LineMoved did bench given p c cs run g rs b q result
line-moves law did bench given p c cs run g rs b q result made t after =
    let s = running (task_of given p c) run in
    let told = law.told p.machine s t.stands t.turned.0 (turn_of result) t.turned.2 in
    let gives : Gives (call_ends p.machine c) s t.stands result.event = line-gives did bench p.machine (call_ends p.machine c) s result made t in
    let guest : guest_by (call_answer c) result.act g ≡ guest_after result.event t.stands.rest g = ap (λ (z : Option Reply). guest_by (call_answer c) z g) t.act_is ∙ sym (gives.guest g) in
    let besides : beside_by (call_answer c) made result.act b ≡ beside_after result.event t.stands.rest b = (λ i. beside_by (answer_with (call_ends p.machine c) (t.facts_is i)) (t.made_is i) (t.act_is i) b) ∙ sym (gives.beside b) in
    record {
      pieces = told.0;
      did_them = subst (λ (zs : List Taken). did zs bench) (sym told.2) t.turned.1;
      turn = record {
        stands = t.stands;
        turn = told.1;
        going = t.going;
        after_is =
            after
            ∙ (ap (λ (z : Option WordGuest). after_turn c cs z rs (beside_by (call_answer c) made result.act b) t.stands result.reply) guest
            ∙ (ap (λ (z : Beside). after_turn c cs (guest_after result.event t.stands.rest g) rs z t.stands result.reply) besides
            ∙ ap (after_turn c cs (guest_after result.event t.stands.rest g) rs (beside_after result.event t.stands.rest b) t.stands) t.turned.2.reply));
      };
    }

-- the bound before a turn, and after it

pub bound-before : (given : Given) (p : Place) (c : Call) (run : Option Standing) → run_left c run ≡ stage_left (most_tries c) (guest_events c) (running (task_of given p c) run).stage (length (running (task_of given p c) run).held)
bound-before given p c None = refl
bound-before given p c (Some s) = refl

pub none-begun : (codes : ℕ → ℕ → List GuestOp) (cs : List Call) (rs : List Reply) (b : Beside) → events_left codes (record { lines = cs; run = None; guest = None; replies = rs; beside = b }) ≤ events_in cs
none-begun codes [] rs b = omega arith
none-begun codes (c ∷ cs) rs b = omega arith

pub record Moved {B : Type 0} (given : Given) (codes : ℕ → ℕ → List GuestOp) (did : List Taken → B → Type 0) (bench : B) (place : Place) (p q : WordLp) (event shown : Event) : Type 0 where
  pub pieces : List Piece
  pub did_them : did (taken_in pieces) bench
  pub turn : LpTurns (place_table place given codes) place.machine p event pieces q
  pub tells : shown ≡ event_as (epoch_loaded (taken_in pieces) % 2) (told codes p event)
  pub fewer : events_left codes q < events_left codes p

pub bound-after : (codes : ℕ → ℕ → List GuestOp) (c : Call) (cs : List Call) (rs : List Reply) (b : Beside) (s : Standing) (reply : Option Reply) (x : ℕ) → stage_left (most_tries c) (guest_events c) s.stage (length s.held) < x
    → events_left codes (after_turn c cs None rs b s reply) < x + events_in cs
bound-after codes c cs rs b s None x l = omega arith
bound-after codes c cs rs b s (Some r) x l = let few = none-begun codes cs (rs ++ r ∷ []) b in omega (arith, few, l)
