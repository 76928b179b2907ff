-- A run that goes on behind its first event has the bundle that its call takes.
use Rattle.std.proofs.Common.{◌≡◌, ◌∙◌, ◌⊎◌, ℕ, is_some, List, [], ◌∷◌, Option, Some, None, refl, ap, sym, subst, inl, inr}
use Rattle.td_words.specs.declared.machines.Machine.{Machine}
use Rattle.td_words.specs.declared.replies.Reply.{Reply}
use Rattle.step_core.specs.declared.items.Taken.{Taken}
use Rattle.step_core.specs.declared.items.Taken.TheVariants.{Stepped, Swapped, Missed}
use Rattle.flat_core.specs.Opening.{Incoming}
use Rattle.leaf_engine.specs.declared.needs.Need.{Need}
use Rattle.leaf_engine.specs.declared.needs.Need.TheVariants.{Verdict}
use Rattle.leaf_engine.specs.declared.events.RunTurn.{RunTurn}
use Rattle.leaf_engine.specs.declared.events.Stage.TheVariants.{Trying}
use Rattle.leaf_engine.specs.Decides.{Wants}
use Rattle.leaf_engine.specs.Items.{IsLoaded}
use Rattle.leaf_engine.specs.Trees.{Tree, End, only, settle, passed}
use Rattle.leaf_engine.specs.Turns.{Standing, standing, last_reply, Comes, IsTurn}
use Rattle.leaf_table.specs.Given.{Given}
use Rattle.leaf_table.specs.Leaves.{leaf_seen}
use Rattle.leaf_table.specs.Origins.{LeafOrigin, origin_of, bundle_in, bundle_at, HasBundle}
use Rattle.leaf_table.proofs.Refusals.{Refuses, leaf-refuses}
use Rattle.leaf_dispatch.specs.Running.{standing_of, kept_until, IsFirst, BeginsWith, TakesIts, HasTurned}
use Rattle.leaf_dispatch.specs.declared.running.Running.{Running}

-- a leaf that is refused before its first try has its reply with its first event

loaded-end : (n : ℕ) (r : Reply) (u : Tree) (xs : List Taken) → IsLoaded n (End (only r) [] []) xs u → u ≡ End (only r) [] []
loaded-end n r u [] l = sym l
loaded-end n r u (Stepped s answer ∷ xs) l = absurd l.0.1
loaded-end n r u (Swapped k p q ∷ xs) l = absurd l
loaded-end n r u (Missed k ∷ xs) l = absurd l

refused-once : (m : Machine) (r : Reply) (xs : List Taken) (s' : Standing) (result : RunTurn) → IsTurn m (standing (End (only r) [] []) Trying [] None) xs s' result → result.reply ≡ Some r
refused-once m r xs s' result it =
    let a = it.turn in
    let need : a.need ≡ Verdict r = subst (λ (t : Tree). Wants m.pages (settle t) a.need) (loaded-end m.pages r a.tree a.loads a.loaded) a.gives in
    let comes = subst (λ (n : Need). Comes m (standing (End (only r) [] []) Trying [] None) (passed (settle a.tree)) a.loads xs n s' result.event) need a.comes in
    it.reply ∙ ap (λ (s : Standing). last_reply s.stage s.held) comes.after

first-has : {B : Type 0} (did : List Taken → B → Type 0) (m : Machine) (r r' : Running) (bench : B) (turn : RunTurn) → HasTurned did m (Some r) bench (Some r') turn → turn.reply ≡ None → HasBundle r.run.leaf ⊎ IsFirst r → HasBundle r.run.leaf
first-has did m r r' bench turn t none (inl has) = has
first-has did m r r' bench turn t none (inr first) = by (leaf-refuses r.run.leaf)
  where
    by : HasBundle r.run.leaf ⊎ Refuses (settle (leaf_seen r.run.leaf).task.tree) → HasBundle r.run.leaf
    by (inl has) = has
    by (inr refuses) =
        let stands : standing_of r ≡ standing (End (only refuses.0) [] []) Trying [] None = first ∙ ap (λ (z : Tree). standing z Trying [] None) refuses.1 in
        let some = refused-once m refuses.0 t.0.0 (standing_of r') turn (subst (λ (s : Standing). IsTurn m s t.0.0 (standing_of r') turn) stands t.0.2) in
        cc

-- what no event changes stays

origin-takes : (g : Given) (r r' : Running) → origin_of r'.run.leaf ≡ origin_of r.run.leaf → TakesIts g (Some r) → TakesIts g (Some r')
origin-takes g r r' same takes =
    let bundle : bundle_in r'.run.leaf ≡ bundle_in r.run.leaf = ap (λ (o : LeafOrigin). o.bundle) same in
    (bundle ∙ takes.0 ∙ sym (ap (λ (o : LeafOrigin). bundle_at g o.slot) same), ap is_some bundle ∙ takes.1 ∙ sym (ap (λ (o : LeafOrigin). is_some o.slot) same))

pub takes-turned : {B : Type 0} (did : List Taken → B → Type 0) (m : Machine) (g : Given) (kept kept' : Option Running) (bench : B) (turn : RunTurn) → BeginsWith g kept → HasTurned did m kept bench kept' turn → TakesIts g (kept_until turn.reply kept')
takes-turned did m g None kept' bench turn takes t = absurd t
takes-turned did m g (Some r) None bench turn takes t = absurd t
takes-turned did m g (Some r) (Some r') bench turn takes t = by turn.reply refl
  where
    by : (reply : Option Reply) → turn.reply ≡ reply → TakesIts g (kept_until reply (Some r'))
    by (Some reply) is = tt
    by None is = origin-takes g r r' t.3 (takes.0, first-has did m r r' bench turn t is takes.1)

-- a run that was under way
pub begins-kept : (g : Given) (kept : Option Running) → TakesIts g kept → BeginsWith g kept
begins-kept g None takes = tt
begins-kept g (Some r) takes = (takes.0, inl takes.1)

-- and one whose leaf stays
pub leaf-takes : (g : Given) (r r' : Running) → r'.run.leaf ≡ r.run.leaf → TakesIts g (Some r) → TakesIts g (Some r')
leaf-takes g r r' same takes = origin-takes g r r' (ap origin_of same) takes
