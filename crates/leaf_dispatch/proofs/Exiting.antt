-- A run that answers something else stays under way.
use Rattle.std.proofs.Common.{◌≡◌, ◌∙◌, true, false, is_none, List, [], ◌∷◌, Option, None, refl, ap, sym, subst}
use Rattle.td_words.specs.declared.machines.Machine.{Machine}
use Rattle.td_words.specs.declared.calls.Call.{Call}
use Rattle.td_words.specs.declared.calls.Call.TheVariants as call
use Rattle.td_words.specs.declared.replies.Outcome.{Outcome}
use Rattle.td_words.specs.declared.replies.Reply.{Reply}
use Rattle.td_words.specs.declared.replies.Reply.TheVariants.{Done, Refused, Exited}
use Rattle.leaf_engine.specs.declared.events.HeldLock.{HeldLock}
use Rattle.leaf_engine.specs.declared.events.Stage.{Stage}
use Rattle.leaf_engine.specs.declared.events.Stage.TheVariants as stages
use Rattle.leaf_engine.specs.Turns.{Standing, has_ended, CanRun}
use Rattle.leaf_table.specs.Ends.{Ends, call_fits, call_ends}
use Rattle.leaf_dispatch.specs.Answers.{is_busy, FewTries, FitsStage, OldestIsOther}
use Rattle.leaf_dispatch.specs.Guests.{IsExit}
use Rattle.leaf_table.specs.Leaves.{leaf_seen}
use Rattle.leaf_dispatch.specs.Running.{standing_of, answered_with, IsUnderWay, IsRunOf, IsAnsweredBy}
use Rattle.leaf_dispatch.specs.CallRuns.{IsCallRunAt}
use Rattle.leaf_dispatch.specs.ShortRuns.{IsOneOf}
use Rattle.host_turns.specs.HostTurns.{standing_of as host_standing, IsIn}
use Rattle.host_turns.specs.declared.runs.HostRun.{HostRun}
use Rattle.leaf_table.specs.declared.leaves.AnyLeaf.{AnyLeaf}
use Rattle.leaf_dispatch.specs.declared.call_runs.CallRun.{CallRun}
use Rattle.leaf_dispatch.specs.declared.running.Running.{Running}
use Rattle.leaf_dispatch.proofs.Lowering.{by-fits}
use Rattle.leaf_dispatch.proofs.ShortRuns.{none-is, other-of}

still-held : (x : Stage) (held : List HeldLock) (reply : Reply) → IsAnsweredBy x → has_ended x held ≡ false → has_ended (stages.Answered reply) held ≡ false
still-held (stages.Answered r) [] reply is e = cc
still-held (stages.Answered r) (h ∷ hs) reply is e = refl
still-held stages.Trying held reply is e = absurd is
still-held (stages.Undoing name at) held reply is e = absurd is

still-oldest : (x : Stage) (held : List HeldLock) (s s' : Standing) → IsAnsweredBy x → has_ended x held ≡ false → OldestIsOther held s → OldestIsOther held s'
still-oldest (stages.Answered r) [] s s' is e o = cc
still-oldest x (h ∷ hs) s s' is e o = o
still-oldest stages.Trying [] s s' is e o = absurd is
still-oldest (stages.Undoing name at) [] s s' is e o = absurd is

pub still-answered : (m : Machine) (e : Ends) (r r' : Running) (reply : Reply) → r'.run.leaf ≡ r.run.leaf → standing_of r' ≡ answered_with reply (standing_of r) → IsUnderWay m e r → IsAnsweredBy r.run.stage → e.fits reply ≡ true → IsUnderWay m e r'
still-answered m e r r' reply leaf stands u is fits =
    let can : CanRun m (answered_with reply (standing_of r)) (leaf_seen r.run.leaf).tries (leaf_seen r.run.leaf).written (leaf_seen r.run.leaf).waits =
    record { held_in = u.can_run.held_in; stage_in = tt; room = u.can_run.room; ready = u.can_run.ready } in
    let few : FewTries e (answered_with reply (standing_of r)) = (u.few_tries.0, λ st. cc) in
    record {
      machine = ap (λ (l : AnyLeaf). (leaf_seen l).task.place.machine) leaf ∙ u.machine;
      can_run =
          subst (λ (z : Standing). CanRun m z (leaf_seen r'.run.leaf).tries (leaf_seen r'.run.leaf).written (leaf_seen r'.run.leaf).waits) (sym stands)
          (subst (λ (l : AnyLeaf). CanRun m (answered_with reply (standing_of r)) (leaf_seen l).tries (leaf_seen l).written (leaf_seen l).waits) (sym leaf) can);
      going = subst (λ (z : Standing). has_ended z.stage z.held ≡ false) (sym stands) (still-held r.run.stage r.run.held.items reply is u.going);
      few_tries = subst (λ (z : Standing). FewTries e z) (sym stands) few;
      fits = subst (λ (z : Standing). FitsStage e z.stage) (sym stands) (by-fits (e.fits reply) (is_busy reply) fits);
      oldest = subst (λ (z : Standing). OldestIsOther z.held z) (sym stands) (still-oldest r.run.stage r.run.held.items (standing_of r) (answered_with reply (standing_of r)) is u.going u.oldest);
    }

-- an exit's reply is one that any call may have
exit-fits : (m : Machine) (c : Call) (out : Outcome) → call_fits m c (Exited out) ≡ true
exit-fits m (call.VpEnter tdr vp most) out = refl
exit-fits m (call.VpFlush tdr vp) out = refl
exit-fits m (call.HostRead page word) out = refl
exit-fits m _ out = refl

pub exits-fit : (m : Machine) (c : Call) (r : Reply) → IsExit r → call_fits m c r ≡ true
exits-fit m c (Exited out) is = exit-fits m c out
exits-fit m c (Done v) is = absurd is
exits-fit m c (Refused s) is = absurd is

-- the run of the first line, where that of any call would still be under way
pub still-at : (m : Machine) (lines : List Call) (k k' : CallRun) → is_none k.host ≡ true → k'.host ≡ k.host → ((c : Call) → IsRunOf m (call_ends m c) k.other → IsRunOf m (call_ends m c) k'.other) → IsCallRunAt m lines k → IsCallRunAt m lines k'
still-at m [] k k' alone same h is = tt
still-at m (c ∷ cs) k k' alone same h is =
    let nothing : k.host ≡ None = none-is k.host alone in
    subst (λ (r : Option HostRun). IsOneOf host_standing IsIn m (call_ends m c) r k'.other) (sym (same ∙ nothing)) (h c (other-of host_standing IsIn m (call_ends m c) k.host k.other nothing is))
