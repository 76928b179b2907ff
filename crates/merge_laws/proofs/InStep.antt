-- What a processor in a guest does, wherever it stands, and where that leads.
use Rattle.std.proofs.Common.{◌≡◌, ℕ, ◌<◌, List, ◌∷◌, length, Option, Some, ap, sym, ◌∙◌, subst}
use Rattle.td_words.specs.declared.calls.Call.{Call}
use Rattle.td_words.specs.declared.replies.Reply.{Reply}
use Rattle.td_words.specs.declared.replies.Outcome.{Outcome}
use Rattle.td_words.specs.Place.{WordPlace}
use Rattle.flat_core.specs.Processor.{Phase, Progress, Guest}
use Rattle.flat_core.specs.Opening.{Opening}
use Rattle.flat_core.specs.Event.{State}
use Rattle.leaf_engine.specs.Means.{Task}
use Rattle.leaf_engine.specs.Turns.{Standing}
use Rattle.leaf_engine.specs.Calls.{IsStage}
use Rattle.leaf_engine.specs.Standing.{out_phase, AnswersGuest, RunOfStep}
use Rattle.leaf_engine.specs.Guests.{WordGuest}
use Rattle.leaf_engine.specs.OwnLists.{WordLp, step_leaf}
use Rattle.leaf_engine.proofs.GuestThen.{position_of}
use Rattle.leaf_engine.proofs.Processing.{stage-position}
use Rattle.merge_laws.proofs.Standing.{Trees, table_for, AreTrees, Known, Does, InGuestAt, RunAt, StandsAt, IsInStep, DoesHere, Leads}
use Rattle.merge_laws.proofs.Inside.{out-trying, seen_in, seen-is, step-here}
use Rattle.merge_laws.proofs.Stepping.{step-leads}

one-guest : (g g' : Guest) → Some g ≡ Some g' → g ≡ g'
one-guest g g' e = cc

module _ (o : Opening) (trees : Trees) (s : State) (p : ℕ) (d : Does) (at : WordLp) (words : WordPlace → ℕ) (are : AreTrees o trees) (known : Known o s) (i : p < length o.calls) (st : StandsAt o trees p s.world words (s.lps p) at) (is : IsInStep o trees p (s.lps p) at d) where
  abbrev x : WordGuest
  x = is.base

  abbrev now : WordGuest
  now = record x { run = Some is.run }

  abbrev task : Task
  task = step_leaf (table_for o trees p) now at.replies at.beside

  stands : InGuestAt o trees p s.world words (s.lps p) is.line now at.replies at.beside
  stands =
      subst (λ (z : Option WordGuest). RunAt o trees p s.world words (s.lps p) (is.call ∷ is.further) (Some is.line) z at.replies at.beside) is.guest_is
      (subst (λ (z : Option Standing). RunAt o trees p s.world words (s.lps p) (is.call ∷ is.further) z at.guest at.replies at.beside) is.run_is
      (subst (λ (z : List Call). RunAt o trees p s.world words (s.lps p) z at.run at.guest at.replies at.beside) is.lines_are st.run))

  its : stands.guest ≡ is.guest
  its = one-guest stands.guest is.guest (sym stands.is_in ∙ is.is_in)

  abbrev f : RunOfStep task s.world words is.run stands.guest.operation
  f = stands.at.operation

  same : f.own.phase ≡ is.own.phase
  same = out-trying f.own.phase (ap (λ (z : Progress (Option Outcome)). z.phase) (f.is ∙ (ap (λ (z : Guest). z.operation) its ∙ sym is.far)) ∙ ap out_phase is.trying) ∙ sym is.trying

  its-seen : seen_in s.world is.guest x.position x.run ≡ x
  its-seen = subst (λ (z : Guest). seen_in s.world z x.position x.run ≡ x) its (seen-is task s.world words stands.guest x (Some is.run) stands.at)

  place : s.world.vps.positions is.guest.vp ≡ position_of x.position is.own.phase
  place =
      subst (λ (z : Guest). s.world.vps.positions z.vp ≡ position_of x.position is.own.phase) its
      (ap s.world.vps.positions stands.at.vp ∙ (stands.at.position ∙ (stage-position o.machine s.world x.position is.run.stage f.own.phase f.at.stage ∙ ap (position_of x.position) same)))

  pub in-step-here : DoesHere o s p d
  in-step-here =
      subst (λ (z : Does). DoesHere o s p z) (sym is.is)
      (step-here o trees s p is.call is.further is.line x at.replies at.beside is.guest is.own are known i (st.lines ∙ is.lines_are) st.replies st.beside is.is_in its-seen is.far place is.single stands.held is.freed
      is.run (subst (λ (z : Phase Reply). IsStage o.machine s.world is.run.stage z) same f.at.stage))

  pub in-step-leads : Leads o trees s p d
  in-step-leads =
      subst (λ (z : Does). Leads o trees s p z) (sym is.is)
      (step-leads o trees s p is.call is.further is.line x at.replies at.beside is.guest is.own are known i (st.lines ∙ is.lines_are) st.replies st.beside is.is_in its-seen is.far place is.single (subst AnswersGuest (sym is.trying) tt) stands.held is.freed is.hand stands.reply
      stands.answered)
