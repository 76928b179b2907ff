-- All that a guest's step leads to.
use Rattle.mrtd_measure.specs.declared.measures.Measure.{Measure}
use Rattle.std.proofs.Common.{◌≡◌, ◌⊎◌, ℕ, ◌+◌, ◌<◌, Bool, true, false, List, ◌∷◌, length, Option, Some, None, refl, ap, sym, ◌∙◌, subst, inl, inr}
use Rattle.std.specs.Prelude.{slice_index}
use Rattle.td_words.specs.declared.calls.Call.{Call}
use Rattle.td_words.specs.declared.replies.Reply.{Reply}
use Rattle.td_words.specs.Place.{WordPlace}
use Rattle.flat_core.specs.Processor.{Progress, nothing_yet, Guest, Lp}
use Rattle.flat_core.specs.Opening.{Opening}
use Rattle.flat_core.specs.Event.{State, event, lines_left}
use Rattle.leaf_engine.specs.declared.events.Event.{Event as RunEvent}
use Rattle.leaf_engine.specs.declared.events.Stage.TheVariants as stages
use Rattle.leaf_engine.specs.Changes.{Hand}
use Rattle.leaf_engine.specs.Decides.{IsHand}
use Rattle.leaf_engine.specs.Besides.{Beside, beside_of, beside_after, bundles_made}
use Rattle.leaf_engine.specs.Turns.{Standing, last_reply, has_ended}
use Rattle.leaf_engine.specs.Calls.{AreLocks}
use Rattle.leaf_engine.specs.Doing.{HasMoves}
use Rattle.leaf_engine.specs.Standing.{out_progress, RunOfStep, AnswersGuest}
use Rattle.leaf_engine.specs.Guests.{WordGuest, Step, step_of, stepped, gives_epoch_back}
use Rattle.leaf_engine.specs.OwnLists.{Piece, TurnIn, GuestTurn, EnteredTurn, after_step, line_after}
use Rattle.leaf_engine.proofs.GuestThen.{position_of}
use Rattle.leaf_engine.proofs.Making.{adds-bundles, own-bundles}
use Rattle.leaf_engine.proofs.Processing.{stage-position}
use Rattle.merge_laws.proofs.Inside.{trying-phase, seen_in, step-no-call, step-stands}
use Rattle.merge_laws.proofs.LineStands.{stepped-stands}
use Rattle.merge_laws.proofs.Standing.{Trees, table_for, step_for, AreTrees, Known, Does, task_for, RunsAt, InGuestAt, step_does, with_hasher, HandKnown, guest_run, HasInHand, Leads}
use Rattle.merge_laws.proofs.Leading.{step-same, stepped-same}
use Rattle.merge_laws.proofs.Leaving.{stepped-fresh, line-hasher, stays-at}

-- what it then is doesn't hang on the run that it had
after-same : (c : Call) (cs : List Call) (line : Standing) (x : WordGuest) (run : Option Standing) (rs : List Reply) (b : Beside) (step : Step) (s : Standing) (r : Option Reply)
    → after_step c cs line x rs b step s r ≡ after_step c cs line (record x { run = run }) rs b step s r
after-same c cs line x run rs b step s None = refl
after-same c cs line x run rs b step s (Some r) = ap (λ (g : Option WordGuest). record { lines = c ∷ cs; run = Some (line_after step r line); guest = g; replies = rs; beside = b }) (sym (stepped-same step r x run))

after-bundles : (c : Call) (cs : List Call) (line : Standing) (x : WordGuest) (rs : List Reply) (b : Beside) (step : Step) (s : Standing) (r : Option Reply) → (after_step c cs line x rs b step s r).beside ≡ b
after-bundles c cs line x rs b step s None = refl
after-bundles c cs line x rs b step s (Some r) = refl

none-known : (r : Option Standing) (h : Option Measure) → r ≡ None → HandKnown r h
none-known r h e = subst (λ (z : Option Standing). HandKnown z h) (sym e) tt

after-hand : (c : Call) (cs : List Call) (line : Standing) (x : WordGuest) (rs : List Reply) (b : Beside) (step : Step) (s : Standing) (r : Option Reply) (h : Option Measure) → ((y : Hand) × IsHand line.hasher y) → s.hasher ≡ h → HasInHand (after_step c cs line x rs b step s r) h
after-hand c cs line x rs b step s None h hand e = (inr hand, inl e)
after-hand c cs line x rs b step s (Some r) h hand e =
    (inr (subst (λ (z : Option Measure). (y : Hand) × IsHand z y) (sym (line-hasher step r line)) hand), none-known (guest_run (stepped step r x)) h (stepped-fresh step r x))

module _ (o : Opening) (trees : Trees) (s : State) (p : ℕ) (c : Call) (cs : List Call) (line : Standing) (x : WordGuest) (rs : List Reply) (b : Beside) (g : Guest) (own : Progress Reply) (are : AreTrees o trees) (known : Known o s) (i : p < length o.calls)
    (lines : lines_left o p (s.lps p) ≡ c ∷ cs) (replies : (s.lps p).replies ≡ rs) (beside : beside_of (s.lps p) b.bundles ≡ b) (is_in : (s.lps p).guest ≡ Some g) (is : seen_in s.world g x.position x.run ≡ x) (far : out_progress own ≡ g.operation)
    (place : s.world.vps.positions g.vp ≡ position_of x.position own.phase)
    (single : HasMoves (trees.means p x.tdr x.vp (length rs + 1) (step_of o.codes b.cached x)) ⊎ (own ≡ nothing_yet)) (fine : AnswersGuest own.phase) (held : AreLocks o.machine s.world line.held (s.lps p).call.held) (freed : gives_epoch_back line.held ≡ false)
    (hand : (y : Hand) × IsHand line.hasher y) (reply : Reply) (answered : line.stage ≡ stages.Answered reply) where
  abbrev lp : Lp
  lp = s.lps p

  abbrev its : Does
  its = step_does o trees p lp own c cs line x rs b

  abbrev its_step : Step
  its_step = step_of o.codes b.cached x

  abbrev inner : Standing → WordGuest
  inner run = record x { run = Some run }

  tdr-is : g.tdr ≡ x.tdr
  tdr-is = ap (λ (z : WordGuest). z.tdr) is

  vp-is : g.vp ≡ x.vp
  vp-is = ap (λ (z : WordGuest). z.vp) is

  in-within : (words : WordPlace → ℕ) (run : Standing) → RunsAt (task_for o p its) own s.world words run → InGuestAt o trees p s.world words lp line (inner run) rs b
  in-within words run ra = record {
    guest = g;
    is_in = is_in;
    at = record {
      tdr = tdr-is;
      vp = vp-is;
      most = ap (λ (z : WordGuest). z.most) is;
      completed = ap (λ (z : WordGuest). z.completed) is;
      walk = ap (λ (z : WordGuest). z.walk) is;
      leaving = ap (λ (z : WordGuest). z.leaving) is;
      root = ap (λ (z : ℕ). slice_index (s.world.tds.controls z) 1) (sym tdr-is) ∙ ap (λ (z : WordGuest). z.root) is;
      index = ap s.world.vps.indexes (sym vp-is) ∙ ap (λ (z : WordGuest). z.index) is;
      position = ap s.world.vps.positions (sym vp-is) ∙ (place ∙ sym (stage-position o.machine s.world x.position run.stage own.phase ra.at.stage));
      operation = subst (λ (z : Step). RunOfStep (step_for o trees p x.tdr x.vp (length rs + 1) z) s.world words run g.operation) (sym (step-same o.codes b.cached x (Some run)))
          (record { own = own; is = far; at = ra.at; waits = ra.trying; single = single; answers = fine });
    };
    reply = reply;
    answered = answered;
    held = held;
    waits = λ y. (let no : true ≡ false = sym y ∙ freed in cc);
  }

  turned : (run run' : Standing) (e : RunEvent) (tp : List Piece) → TurnIn run.stage o.machine run tp run' e → has_ended run.stage run.held ≡ false → GuestTurn (table_for o trees p) o.machine c cs line (inner run) rs b e tp (its.after e run')
  turned run run' e tp tn going = record {
    stands = run';
    turn = tn;
    going = going;
    after_is = after-same c cs line x (Some run) rs (beside_after e run'.rest b) its_step run' (last_reply run'.stage run'.held)
        ∙ ap (λ (z : Step). after_step c cs line (inner run) rs (beside_after e run'.rest b) z run' (last_reply run'.stage run'.held)) (sym (step-same o.codes b.cached x (Some run)));
  }

  pub step-leads : Leads o trees s p its
  step-leads = record {
    within_stands = λ words run ra trying. record { lines = lines; replies = replies; beside = beside; run = in-within words run ra };
    within_is = λ words run ra trying. inr (record {
      call = c;
      further = cs;
      line = line;
      base = x;
      run = run;
      guest = g;
      own = own;
      lines_are = refl;
      run_is = refl;
      guest_is = refl;
      freed = freed;
      hand = hand;
      is_in = is_in;
      far = far;
      single = single;
      trying = trying-phase o.machine s.world run.stage own.phase ra.at.stage trying;
      is = refl;
    });
    within_bundles = λ run. refl;
    within_run = λ words run h ra trying e. (inr hand, inl e);
    turns = λ words run run' e tp ra trying tn going. subst (λ (z : Bool). EnteredTurn (table_for o trees p) o.machine c cs line (inner run) rs b e tp (its.after e run') z) (sym freed) (turned run run' e tp tn going);
    after_stands = λ u run' h e la none.
        stepped-stands o trees p (event o s p).world la.mem.words ((event o s p).lps p) c cs line x rs (beside_after e run'.rest b) its_step run' h (last_reply run'.stage run'.held) none
        (step-stands o trees s p c cs line x rs b g own are known i lines replies beside is_in is far place single held freed hand reply answered fine u (with_hasher run' h) e la);
    after_grows = λ u run' h e la. record {
      more = bundles_made e run'.rest;
      all = adds-bundles o (task_for o p its) s own u (with_hasher run' h) e single la;
      own = ap (λ (z : Beside). z.bundles) (after-bundles c cs line x rs (beside_after e run'.rest b) its_step run' (last_reply run'.stage run'.held)) ∙ own-bundles e run'.rest b;
    };
    after_run = λ e run' h f. after-hand c cs line x rs (beside_after e run'.rest b) its_step run' (last_reply run'.stage run'.held) h hand f;
    locks_stay = λ mv act next.
        stays-at o s p g is_in own far its.meaning single (step-no-call o trees s p c cs line x rs b g own are known i lines replies beside is_in is far place single held freed) mv act next;
  }
