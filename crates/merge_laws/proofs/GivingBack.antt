-- VP.ENTER in its guest, with E still to give back: what its processor does, and where that leads.
use Rattle.std.proofs.Common.{◌≡◌, ◌⊎◌, ℕ, ◌<◌, true, false, List, [], ◌∷◌, ◌++◌, length, Option, Some, None, refl, ap, sym, ◌∙◌, subst, inl, inr}
use Rattle.std.proofs.lemmas.List.{append-nil}
use Rattle.td_words.specs.declared.names.Mode.TheVariants.{Shared, Exclusive}
use Rattle.td_words.specs.declared.calls.Call.{Call}
use Rattle.td_words.specs.declared.replies.Reply.{Reply}
use Rattle.td_words.specs.declared.replies.Outcome.{Outcome}
use Rattle.td_words.specs.Place.{WordPlace}
use Rattle.flat_core.specs.World.{World}
use Rattle.flat_core.specs.Processor.{OfPage, OfOp, OfEpoch, Held, Answered, Progress, nothing_yet, Guest, new_guest, Lp}
use Rattle.flat_core.specs.Opening.{Opening}
use Rattle.flat_core.specs.Row.{Row, Move, Attempts, Undoes, Refuses, Succeeds, Releases, Rests, next_in}
use Rattle.flat_core.specs.Table.{row_of}
use Rattle.flat_core.specs.Event.{State, OfCall, next_event, event_for, line_event, entered_event, lines_left, event}
use Rattle.flat_core.specs.Guests.{guest_locks, entry_locks}
use Rattle.flat_core.specs.Inside.{InGuest, LineAt}
use Rattle.flat_core.specs.Inside as inside
use Rattle.lock_words.specs.Grips.{HoldTdrs, operation_locks}
use Rattle.leaf_engine.specs.declared.events.Stage.{Stage}
use Rattle.leaf_engine.specs.declared.events.Stage.TheVariants as stages
use Rattle.leaf_engine.specs.Besides.{Beside, beside_of, beside_after, bundles_made}
use Rattle.leaf_engine.specs.Turns.{Standing, last_reply}
use Rattle.leaf_engine.specs.Calls.{AreLocks, IsStage}
use Rattle.leaf_engine.specs.Guests.{WordGuest, guest_after, gives_epoch_back}
use Rattle.leaf_engine.specs.OwnLists.{after_turn, step_leaf}
use Rattle.leaf_engine.specs.Standing.{position_at, LpStands}
use Rattle.leaf_engine.proofs.Making.{adds-bundles, own-bundles}
use Rattle.leaf_engine.proofs.Processing.{gives-back, given-back-then}
use Rattle.merge_laws.proofs.Holding.{locks_at}
use Rattle.merge_laws.proofs.Inside.{seen_in, seen-is}
use Rattle.merge_laws.proofs.LineStands.{turned-beside, after-no-run, in-hand-after, turned-stands}
use Rattle.merge_laws.proofs.Standing.{Trees, table_for, AreTrees, Known, Does, task_for, RunsAt, InGuestAt, StandsAt, line_does, DoesHere, with_hasher, IsAct, Leads}

module _ (o : Opening) (trees : Trees) (s : State) (p : ℕ) (c : Call) (cs : List Call) (line : Standing) (x : WordGuest) (rs : List Reply) (b : Beside) (are : AreTrees o trees) (known : Known o s) (i : p < length o.calls) (lines : lines_left o p (s.lps p) ≡ c ∷ cs)
    (replies : (s.lps p).replies ≡ rs) (beside : beside_of (s.lps p) b.bundles ≡ b) (words : WordPlace → ℕ) (a : InGuestAt o trees p s.world words (s.lps p) line x rs b) (gives : gives_epoch_back line.held ≡ true) where
  abbrev lp : Lp
  lp = s.lps p

  abbrev w : World
  w = s.world

  abbrev row : Row
  row = row_of o p c

  abbrev g : Guest
  g = a.guest

  abbrev far : Progress Reply
  far = record { phase = Answered a.reply; held = lp.call.held }

  abbrev its : Does
  its = line_does o trees p far c cs (Some x) rs b

  ing : InGuest o w p c lp g
  ing = subst (λ (z : Option Guest). LineAt o w p c lp z) a.is_in (subst (λ (z : List Call). inside.StandsAt o w p z lp) lines (known.guarded.timely.each p))

  entered : (lp.call.held ≡ entry_locks g.tdr g.vp) × (g ≡ new_guest (record { tdr = g.tdr; vp = g.vp; most = g.most }))
  entered = by ing.locks
    where
      by : (lp.call.held ≡ guest_locks g.tdr g.vp) ⊎ ((lp.call.held ≡ entry_locks g.tdr g.vp) × (g ≡ new_guest (record { tdr = g.tdr; vp = g.vp; most = g.most }))) → (lp.call.held ≡ entry_locks g.tdr g.vp) × (g ≡ new_guest (record { tdr = g.tdr; vp = g.vp; most = g.most }))
      by (inl h) =
          let no : gives_epoch_back line.held ≡ false = gives-back o.machine w line.held (record { lock = OfPage g.vp; mode = Exclusive }) (record { lock = OfOp g.tdr; mode = Shared } ∷ record { lock = OfPage g.tdr; mode = Shared } ∷ [])
          (subst (λ (z : List Held). AreLocks o.machine w line.held z) h a.held) in
          (let bad : true ≡ false = sym gives ∙ no in cc)
      by (inr h) = h

  none : g.operation ≡ nothing_yet
  none = ap (λ (z : Guest). z.operation) entered.1

  not-trying : (st : Stage) → IsStage o.machine w st (Answered a.reply) → st ≡ stages.Trying → ⊥
  not-trying st is e = subst (λ (z : Stage). IsStage o.machine w z (Answered a.reply)) e is

  entered-is : next_event o s p ≡ Some (entered_event o w lp row g lp.call.held)
  entered-is = ap (event_for o w p lp) lines ∙ ap (λ (z : Option Guest). Some (line_event o w lp row z)) a.is_in

  due : next_event o s p ≡ Some (OfCall row (next_in (row.items w) (Answered a.reply) lp.call.held))
  due = entered-is ∙ (ap (λ (z : List Held). Some (entered_event o w lp row g z)) entered.0 ∙ ap (λ (z : List Held). Some (OfCall row (next_in (row.items w) (Answered a.reply) z))) (sym entered.0))

  locks-are : locks_at lp ≡ lp.call.held
  locks-are = ap (λ (z : Option Guest). operation_locks z ++ lp.call.held) a.is_in ∙ ap (λ (z : Progress (Option Outcome)). z.held ++ lp.call.held) none

  pub back-here : DoesHere o s p its
  back-here = record {
    means = are.means p c;
    doing = λ mem. record {
      next = known.next p (OfCall row (next_in (row.items w) (Answered a.reply) lp.call.held)) due;
      single = inl tt;
      maker = λ e. cc;
    };
    locks = append-nil lp.call.held ∙ sym locks-are;
    held_tdrs = subst (λ (z : List Held). HoldTdrs z) (sym locks-are) (known.facts.tdrs p).0.0;
    undo_tdr = tt;
  }

  pub back-runs : RunsAt (task_for o p its) far w words line
  back-runs = record {
    at = record {
      stage = subst (λ (z : Stage). IsStage o.machine w z (Answered a.reply)) (sym a.answered) refl;
      held = a.held;
      told = λ e. (let no : stages.Answered a.reply ≡ stages.Trying = sym a.answered ∙ e in cc);
    };
    trying = λ e. (let no : stages.Answered a.reply ≡ stages.Trying = sym a.answered ∙ e in cc);
  }

  fresh : x.run ≡ None
  fresh = a.waits gives

  guest-is : seen_in w g x.position None ≡ x
  guest-is = ap (λ (z : Option Standing). seen_in w g x.position z) (sym fresh) ∙ seen-is (step_leaf (table_for o trees p) x rs b) w words g x x.run a.at

  place : w.vps.positions g.vp ≡ x.position
  place = ap w.vps.positions a.at.vp ∙ (a.at.position ∙ ap (position_at x.position) fresh)

  -- it is a release
  releases : (mv : Move Reply) → next_event o s p ≡ Some (OfCall row mv) → Releases (record { lock = OfEpoch g.tdr; mode = Shared }) ≡ mv
  releases mv e =
      let same : Some (OfCall row (next_in (row.items w) (Answered a.reply) lp.call.held)) ≡ Some (OfCall row mv) = sym due ∙ e in
      let is : next_in (row.items w) (Answered a.reply) lp.call.held ≡ mv = cc in
      sym (ap (λ (z : List Held). next_in (row.items w) (Answered a.reply) z) entered.0) ∙ is

  no-act : (mv : Move Reply) → IsAct mv → Releases (record { lock = OfEpoch g.tdr; mode = Shared }) ≡ mv → ⊥
  no-act (Refuses r) act e = cc
  no-act Succeeds act e = cc
  no-act (Attempts l m) act e = absurd act
  no-act (Undoes l) act e = absurd act
  no-act (Releases h) act e = absurd act
  no-act Rests act e = absurd act

  pub back-leads : Leads o trees s p its
  back-leads = record {
    within_stands = λ words run ra trying. absurd (not-trying run.stage ra.at.stage trying);
    within_is = λ words run ra trying. absurd (not-trying run.stage ra.at.stage trying);
    within_bundles = λ run. refl;
    within_run = λ words run h ra trying e. absurd (not-trying run.stage ra.at.stage trying);
    turns = λ words run run' e tp ra trying tn going. absurd (not-trying run.stage ra.at.stage trying);
    after_stands = λ u run' h e la none-on.
        let reply = last_reply run'.stage run'.held in
        let w' = (event o s p).world in
        let lp' = (event o s p).lps p in
        subst (λ (z : List Reply). StandsAt o trees p w' la.mem.words lp' (after_turn c cs (guest_after e run'.rest (Some x)) z (beside_after e run'.rest b) run' reply)) replies
        (turned-stands o trees p w' la.mem.words lp' c cs (guest_after e run'.rest (Some x)) lp.replies (beside_after e run'.rest b) run' h reply none-on
        (subst (λ (z : Beside). LpStands o (table_for o trees p) p w' la.mem.words lp' (after_turn c cs (guest_after e run'.rest (Some x)) lp.replies (beside_after e run'.rest z) (with_hasher run' h) reply)) beside
        (subst (λ (z : WordGuest). LpStands o (table_for o trees p) p w' la.mem.words lp' (after_turn c cs (guest_after e run'.rest (Some z)) lp.replies (beside_after e run'.rest (beside_of lp b.bundles)) (with_hasher run' h) reply)) guest-is
        (given-back-then o p s la.mem c cs (trees.call p) (trees.step p) (trees.means p) b.bundles known.guarded.timely lines u e (with_hasher run' h) line a.reply g x.position a.is_in a.answered entered.0 ing.trying none place la))));
    after_grows = λ u run' h e la. record {
      more = bundles_made e run'.rest;
      all = adds-bundles o (task_for o p its) s far u (with_hasher run' h) e (inl tt) la;
      own = ap (λ (z : Beside). z.bundles) (turned-beside c cs (guest_after e run'.rest (Some x)) rs (beside_after e run'.rest b) run' (last_reply run'.stage run'.held)) ∙ own-bundles e run'.rest b;
    };
    after_run = λ e run' h f. in-hand-after c cs (guest_after e run'.rest (Some x)) rs (beside_after e run'.rest b) run' (last_reply run'.stage run'.held) h (after-no-run e run'.rest (Some x) fresh) f;
    locks_stay = λ mv act next. absurd (no-act mv act (releases mv next.next));
  }
