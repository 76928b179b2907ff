-- A processor that stands over words as the leaf engine has it stands so here.
use Rattle.mrtd_measure.specs.declared.measures.Measure.{Measure}
use Rattle.std.proofs.Common.{◌≡◌, ℕ, ◌+◌, List, [], ◌∷◌, length, Option, Some, None, refl, sym, ◌∙◌, subst, inl}
use Rattle.td_words.specs.declared.calls.Call.{Call}
use Rattle.td_words.specs.declared.replies.Reply.{Reply}
use Rattle.td_words.specs.declared.replies.Reply.TheVariants.{Done}
use Rattle.td_words.specs.declared.replies.Outcome.{Outcome}
use Rattle.td_words.specs.Place.{WordPlace}
use Rattle.flat_core.specs.World.{World}
use Rattle.flat_core.specs.Processor.{Held, Progress, Entering, Guest, Lp}
use Rattle.flat_core.specs.Opening.{Opening}
use Rattle.leaf_engine.specs.declared.events.Event.{Event as RunEvent}
use Rattle.leaf_engine.specs.declared.events.Event.TheVariants as events
use Rattle.leaf_engine.specs.Besides.{Beside}
use Rattle.leaf_engine.specs.Trees.{Tree, answer_of}
use Rattle.leaf_engine.specs.Means.{Task}
use Rattle.leaf_engine.specs.Turns.{Standing}
use Rattle.leaf_engine.specs.Calls.{IsTold}
use Rattle.leaf_engine.specs.Guests.{WordGuest, Step, guest_after, entered_at, or_else, step_of, stepped}
use Rattle.leaf_engine.specs.OwnLists.{after_turn, step_leaf, after_step, line_after}
use Rattle.leaf_engine.specs.Standing.{HasNoHasher, RunOfStep, IsGuestAt, CallStands, GuestStands, RunStands, LpStands}
use Rattle.merge_laws.proofs.Leading.{step-same}
use Rattle.merge_laws.proofs.Standing.{Trees, leaf_for, table_for, step_for, OnCall, InGuestAt, RunAt, HandKnown, guest_run, HasInHand, StandsAt, with_hasher}

-- what a turn leaves of its line

pub turned-beside : (c : Call) (cs : List Call) (g : Option WordGuest) (rs : List Reply) (b : Beside) (run : Standing) (reply : Option Reply) → (after_turn c cs g rs b run reply).beside ≡ b
turned-beside c cs g rs b run None = refl
turned-beside c cs g rs b run (Some r) = refl

-- a guest that has been entered hasn't begun
entered-no-run : (x : Option Entering) (r : Reply) (g : Option WordGuest) → guest_run g ≡ None → guest_run (or_else (entered_at x r) g) ≡ None
entered-no-run None r g none = none
entered-no-run (Some e) (Done (Rattle.td_words.specs.declared.replies.Value.TheVariants.Entered stale index position root)) g none = refl
entered-no-run (Some e) _ g none = none

pub after-no-run : (e : RunEvent) (t : Tree) (g : Option WordGuest) → guest_run g ≡ None → guest_run (guest_after e t g) ≡ None
after-no-run events.Act t g none = entered-no-run (answer_of t).enters (answer_of t).reply g none
after-no-run (events.Try name mode granted) t g none = none
after-no-run (events.Undo name) t g none = none
after-no-run (events.Free name) t g none = none
after-no-run (events.Walk level) t g none = none
after-no-run (events.Word at) t g none = none
after-no-run (events.Count parity) t g none = none

pub in-hand-after : (c : Call) (cs : List Call) (g : Option WordGuest) (rs : List Reply) (b : Beside) (run' : Standing) (reply : Option Reply) (h : Option Measure) → guest_run g ≡ None → run'.hasher ≡ h → HasInHand (after_turn c cs g rs b run' reply) h
in-hand-after c cs g rs b run' None h none e = (inl e, subst (λ (z : Option Standing). HandKnown z h) (sym none) tt)
in-hand-after c cs g rs b run' (Some r) h none e = (tt, tt)

-- where it is, as the leaf engine has it

told-so : (task : Task) (words : WordPlace → ℕ) (run : Standing) (h : Option Measure) (hs : List Held) → IsTold task words (with_hasher run h) hs → IsTold task words run hs
told-so task words run h hs t = record { told = t.told; current = t.current; waits = t.waits; rest = t.rest; locks = t.locks }

step-so : (task : Task) (w : World) (words : WordPlace → ℕ) (run : Standing) (h : Option Measure) (y : Progress (Option Outcome)) → HasNoHasher run → RunOfStep task w words (with_hasher run h) y → RunOfStep task w words run y
step-so task w words run h y none q = record {
  own = q.own;
  is = q.is;
  at = record { stage = q.at.stage; held = q.at.held; told = λ e. told-so task words run h q.own.held (q.at.told e) };
  waits = none;
  single = q.single;
  answers = q.answers;
}

module _ (o : Opening) (trees : Trees) (p : ℕ) (w : World) (words : WordPlace → ℕ) (lp : Lp) where
  in-guest : (c : Call) (line : Standing) (h : Option Measure) (x : WordGuest) (rs : List Reply) (b : Beside) → GuestStands o (table_for o trees p) p c w words lp (with_hasher line h) x rs b → InGuestAt o trees p w words lp line x rs b
  in-guest c line h x rs b g = record {
    guest = g.guest;
    is_in = g.is_in;
    at = g.at;
    reply = g.reply;
    answered = g.answered;
    held = g.held;
    waits = g.fresh;
  }

  on-call : (c : Call) (run : Standing) (h : Option Measure) → HasNoHasher run → CallStands o (table_for o trees p) p c w words lp (with_hasher run h) → OnCall o trees p c w words lp run
  on-call c run h none g = record {
    guest = g.at.guest;
    runs = record {
      at = record {
        stage = g.at.stage;
        held = g.at.held;
        told = λ e. told-so (leaf_for o trees p c) words run h lp.call.held (g.at.told e);
      };
      trying = none;
    };
  }

  -- after a turn of its line's leaf
  pub turned-stands : (c : Call) (cs : List Call) (g : Option WordGuest) (rs : List Reply) (b : Beside) (run : Standing) (h : Option Measure) (reply : Option Reply) → HasNoHasher run → LpStands o (table_for o trees p) p w words lp (after_turn c cs g rs b (with_hasher run h) reply)
      → StandsAt o trees p w words lp (after_turn c cs g rs b run reply)
  turned-stands c cs None rs b run h None none st = record { lines = st.lines; replies = st.replies; beside = st.beside; run = on-call c run h none st.run }
  turned-stands c cs (Some x) rs b run h None none st = record { lines = st.lines; replies = st.replies; beside = st.beside; run = in-guest c run h x rs b st.run }
  turned-stands c cs g rs b run h (Some r) none st = record { lines = st.lines; replies = st.replies; beside = st.beside; run = st.run }

  stands-so : (cs : List Call) (run : Option Standing) (g : Option WordGuest) (rs : List Reply) (b : Beside) → RunStands o (table_for o trees p) p w words lp cs run g rs b → RunAt o trees p w words lp cs run g rs b
  stands-so cs None None rs b a = a
  stands-so [] None (Some x) rs b a = absurd a
  stands-so [] (Some r) None rs b a = absurd a
  stands-so [] (Some r) (Some x) rs b a = absurd a
  stands-so (c ∷ cs) None (Some x) rs b a = absurd a
  stands-so (c ∷ cs) (Some r) None rs b a = on-call c r r.hasher a.waits a
  stands-so (c ∷ cs) (Some r) (Some x) rs b a = in-guest c r r.hasher x rs b a

  -- after a turn of its guest's step
  pub stepped-stands : (c : Call) (cs : List Call) (line : Standing) (x : WordGuest) (rs : List Reply) (b : Beside) (step : Step) (run : Standing) (h : Option Measure) (reply : Option Reply) → HasNoHasher run
      → LpStands o (table_for o trees p) p w words lp (after_step c cs line x rs b step (with_hasher run h) reply) → StandsAt o trees p w words lp (after_step c cs line x rs b step run reply)
  stepped-stands c cs line x rs b step run h (Some r) none st = record { lines = st.lines; replies = st.replies; beside = st.beside; run = stands-so (c ∷ cs) (Some (line_after step r line)) (stepped step r x) rs b st.run }
  stepped-stands c cs line x rs b step run h None none st = record {
    lines = st.lines;
    replies = st.replies;
    beside = st.beside;
    run = record {
      guest = st.run.guest;
      is_in = st.run.is_in;
      at = on-way st.run.guest st.run.at;
      reply = st.run.reply;
      answered = st.run.answered;
      held = st.run.held;
      waits = λ z. (let no : None ≡ Some (with_hasher run h) = sym (st.run.fresh z) in cc);
    };
  }
    where
      its-step : step_of o.codes b.cached (record x { run = Some (with_hasher run h) }) ≡ step_of o.codes b.cached (record x { run = Some run })
      its-step = step-same o.codes b.cached x (Some (with_hasher run h)) ∙ sym (step-same o.codes b.cached x (Some run))

      on-way : (g : Guest) → IsGuestAt (step_leaf (table_for o trees p) (record x { run = Some (with_hasher run h) }) rs b) w words g (record x { run = Some (with_hasher run h) })
          → IsGuestAt (step_leaf (table_for o trees p) (record x { run = Some run }) rs b) w words g (record x { run = Some run })
      on-way g at = record {
        tdr = at.tdr;
        vp = at.vp;
        most = at.most;
        completed = at.completed;
        walk = at.walk;
        leaving = at.leaving;
        root = at.root;
        index = at.index;
        position = at.position;
        operation = subst (λ (z : Step). RunOfStep (step_for o trees p x.tdr x.vp (length rs + 1) z) w words run g.operation) its-step (step-so _ w words run h g.operation none at.operation);
      }
