-- What a turn leaves of a run.
use Rattle.std.proofs.Common.{◌≡◌, ◌∙◌, ℕ, ◌-◌, false, List, [], ◌∷◌, Option, Some, None, refl, ap, sym, subst, arith}
use Rattle.report_core.specs.declared.facts.Facts.{Facts}
use Rattle.td_words.specs.declared.machines.Machine.{Machine}
use Rattle.td_words.specs.declared.replies.Reply.{Reply}
use Rattle.flat_core.specs.World.{Made}
use Rattle.step_core.specs.declared.items.Taken.{Taken}
use Rattle.leaf_engine.specs.declared.events.Event.{Event}
use Rattle.leaf_engine.specs.declared.events.HeldLock.{HeldLock}
use Rattle.leaf_engine.specs.declared.events.RunTurn.{RunTurn}
use Rattle.leaf_engine.specs.declared.events.Stage.{Stage}
use Rattle.leaf_engine.specs.declared.events.Stage.TheVariants as stages
use Rattle.leaf_engine.specs.Means.{Task}
use Rattle.leaf_engine.specs.Trees.{Tree, settle}
use Rattle.leaf_engine.specs.Turns.{Standing, standing, CanRun, Turned, has_ended, last_reply}
use Rattle.leaf_table.specs.Leaves.{leaf_seen}
use Rattle.leaf_table.specs.Ends.{Ends, EndsAs, BeginsUnderOther}
use Rattle.guest_turns.specs.Turns.{turn_of, act_of, kept_after}
use Rattle.leaf_dispatch.specs.Answers.{FewTries, FitsStage, OldestIsOther}
use Rattle.leaf_dispatch.specs.Running.{standing_of, run_seen, act_in, made_in_run, facts_in_run, kept_until, IsUnderWay, IsRunOf, IsKept, CanTurn, HasTurned, RunTurned}
use Rattle.leaf_dispatch.specs.declared.running.Running.{Running}
use Rattle.guest_turns.specs.declared.runs.LeafTurn.{LeafTurn}
use Rattle.leaf_table.proofs.Ending.{ends-fed}
use Rattle.leaf_dispatch.proofs.Lowering.{other-settled, Gives, turn-gives}

-- a run that goes on has something left to do
pub goes-on : (s : Stage) (held : List HeldLock) → last_reply s held ≡ None → has_ended s held ≡ false
goes-on stages.Trying held e = refl
goes-on (stages.Undoing name at) held e = refl
goes-on (stages.Answered reply) [] e = cc
goes-on (stages.Answered reply) (h ∷ hs) e = refl

still-under-way : (m : Machine) (e : Ends) (r r' : Running) (ev : Event) (reply : Option Reply) → IsUnderWay m e r → Gives e (standing_of r) (standing_of r') ev → reply ≡ last_reply r'.run.stage r'.run.held.items
    → (leaf_seen r'.run.leaf).task ≡ (leaf_seen r.run.leaf).task → CanRun m (standing_of r') (leaf_seen r'.run.leaf).tries (leaf_seen r'.run.leaf).written (leaf_seen r'.run.leaf).waits → reply ≡ None
    → IsUnderWay m e r'
still-under-way m e r r' ev reply u gives is task can none = record {
  machine = ap (λ (z : Task). z.place.machine) task ∙ u.machine;
  can_run = can;
  going = goes-on r'.run.stage r'.run.held.items (sym is ∙ none);
  few_tries = gives.few;
  fits = gives.fits;
  oldest = gives.oldest;
}

pub can-turn : (m : Machine) (e : Ends) (s : Standing) (kept : Option Running) → IsKept m e s kept → CanTurn m kept
can-turn m e s None k = k
can-turn m e s (Some r) k = (k.1.machine, k.1.can_run, k.1.going)

-- a turn of the run that is kept, by whether its reply has come

kept-turned : {B : Type 0} (did : List Taken → B → Type 0) (bench : B) (m : Machine) (e : Ends) (s : Standing) (r r' : Running) (kept : Option Running) (result : LeafTurn) (made : List Made) (facts : Option Facts)
    → IsKept m e s (Some r) → HasTurned did m (Some r) bench (Some r') (turn_of result) → result.act ≡ act_of result.event r'.run.stage → made ≡ made_in_run (Some r') result.event → facts ≡ facts_in_run (Some r') result.event → run_seen kept ≡ kept_after result.reply (standing_of r') → IsRunOf m e kept
    → RunTurned did m e s bench kept result made facts
kept-turned did bench m e s r r' kept result made facts k t act adds reports seen is = record {
  going = subst (λ (z : Standing). has_ended z.stage z.held ≡ false) k.0 k.1.going;
  few_tries = subst (λ (z : Standing). FewTries e z) k.0 k.1.few_tries;
  fits = subst (λ (z : Standing). FitsStage e z.stage) k.0 k.1.fits;
  oldest = subst (λ (z : Standing). OldestIsOther z.held z) k.0 k.1.oldest;
  stands = standing_of r';
  turned = subst (λ (z : Standing). Turned did m z bench (standing_of r') (turn_of result)) k.0 t.0;
  act_is = act;
  made_is = adds;
  facts_is = reports;
  seen = seen;
  under_way = is;
}

run-goes-on : {B : Type 0} (did : List Taken → B → Type 0) (bench : B) (m : Machine) (e : Ends) (s : Standing) (kept kept' : Option Running) (result : LeafTurn) (made : List Made) (facts : Option Facts)
    → IsKept m e s kept → HasTurned did m kept bench kept' (turn_of result) → result.act ≡ act_in kept' result.event → made ≡ made_in_run kept' result.event → facts ≡ facts_in_run kept' result.event → result.reply ≡ None → RunTurned did m e s bench kept' result made facts
run-goes-on did bench m e s None kept' result made facts k t act adds reports none = elim k [ ]
run-goes-on did bench m e s (Some r) None result made facts k t act adds reports none = elim t [ ]
run-goes-on did bench m e s (Some r) (Some r') result made facts k t act adds reports none =
    let gives = turn-gives m e (standing_of r) (standing_of r') t.0.0 result.event k.1.few_tries k.1.fits k.1.oldest t.0.2.turn in
    kept-turned did bench m e s r r' (Some r') result made facts k t act adds reports (sym (ap (λ (z : Option Reply). kept_after z (standing_of r')) none))
    (still-under-way m e r r' result.event result.reply k.1 gives t.0.2.reply t.1 t.2 none)

run-is-over : {B : Type 0} (did : List Taken → B → Type 0) (bench : B) (m : Machine) (e : Ends) (s : Standing) (kept kept' : Option Running) (result : LeafTurn) (made : List Made) (facts : Option Facts) (reply : Reply)
    → IsKept m e s kept → HasTurned did m kept bench kept' (turn_of result) → result.act ≡ act_in kept' result.event → made ≡ made_in_run kept' result.event → facts ≡ facts_in_run kept' result.event → result.reply ≡ Some reply → RunTurned did m e s bench None result made facts
run-is-over did bench m e s None kept' result made facts reply k t act adds reports some = elim k [ ]
run-is-over did bench m e s (Some r) None result made facts reply k t act adds reports some = elim t [ ]
run-is-over did bench m e s (Some r) (Some r') result made facts reply k t act adds reports some =
    kept-turned did bench m e s r r' None result made facts k t act adds reports (sym (ap (λ (z : Option Reply). kept_after z (standing_of r')) some)) tt

-- whichever it is
pub run-turned : {B : Type 0} (did : List Taken → B → Type 0) (bench : B) (m : Machine) (e : Ends) (s : Standing) (kept kept' kept'' : Option Running) (result : LeafTurn) (turn : RunTurn) (made : List Made) (facts : Option Facts)
    → IsKept m e s kept → HasTurned did m kept bench kept' turn → turn_of result ≡ turn → result.act ≡ act_in kept' turn.event → made ≡ made_in_run kept' turn.event → facts ≡ facts_in_run kept' turn.event → kept'' ≡ kept_until turn.reply kept' → RunTurned did m e s bench kept'' result made facts
run-turned did bench m e s kept kept' kept'' result turn made facts k t same =
    subst (λ (z : RunTurn). HasTurned did m kept bench kept' z → result.act ≡ act_in kept' z.event → made ≡ made_in_run kept' z.event → facts ≡ facts_in_run kept' z.event → kept'' ≡ kept_until z.reply kept' → RunTurned did m e s bench kept'' result made facts) same
    (λ t act adds reports is. by t act adds reports result.reply refl is) t
  where
    by : HasTurned did m kept bench kept' (turn_of result) → result.act ≡ act_in kept' result.event → made ≡ made_in_run kept' result.event → facts ≡ facts_in_run kept' result.event → (reply : Option Reply) → result.reply ≡ reply → kept'' ≡ kept_until reply kept' → RunTurned did m e s bench kept'' result made facts
    by t act adds reports None none is = subst (λ (z : Option Running). RunTurned did m e s bench z result made facts) (sym is) (run-goes-on did bench m e s kept kept' result made facts k t act adds reports none)
    by t act adds reports (Some r) some is = subst (λ (z : Option Running). RunTurned did m e s bench z result made facts) (sym is) (run-is-over did bench m e s kept kept' result made facts r k t act adds reports some)

-- in a machine that is the bench's

pub can-turn-at : (m n : Machine) (e : Ends) (s : Standing) (kept : Option Running) → n ≡ m → IsKept n e s kept → CanTurn m kept
can-turn-at m n e s kept at k = subst (λ (z : Machine). CanTurn z kept) at (can-turn n e s kept k)

-- a run at its first event

pub begun : (m : Machine) (e : Ends) (tree : Tree) (r : Running) → (leaf_seen r.run.leaf).task.place.machine ≡ m
    → CanRun m (standing_of r) (leaf_seen r.run.leaf).tries (leaf_seen r.run.leaf).written (leaf_seen r.run.leaf).waits → standing_of r ≡ standing (settle tree) stages.Trying [] None
    → EndsAs e e.tries tree → BeginsUnderOther tree → IsUnderWay m e r
begun m e tree r machine can start ends other =
    let same : e.tries ≡ e.tries - 0 = omega arith in
    record {
      machine = machine;
      can_run = can;
      going = subst (λ (z : Standing). has_ended z.stage z.held ≡ false) (sym start) refl;
      few_tries = subst (λ (z : Standing). FewTries e z) (sym start) (omega arith, λ st. subst (λ (n : ℕ). EndsAs e n (settle tree)) same (ends-fed e e.tries tree [] ends));
      fits = subst (λ (z : Standing). FitsStage e z.stage) (sym start) tt;
      oldest = subst (λ (z : Standing). OldestIsOther z.held z) (sym start) (λ st. other-settled tree other);
    }
