-- The replies of a guest's step are those that it may have.
use Rattle.std.proofs.Common.{◌≡◌, ◌∙◌, ℕ, true, List, Option, Some, None, IfSome, refl, ap, sym, subst}
use Rattle.report_core.specs.declared.facts.Facts.{Facts}
use Rattle.td_words.specs.declared.machines.Machine.{Machine}
use Rattle.td_words.specs.declared.names.Access.{Access}
use Rattle.td_words.specs.declared.replies.Value.TheVariants as value
use Rattle.td_words.specs.declared.replies.Reply.{Reply}
use Rattle.td_words.specs.declared.replies.Outcome.{Outcome}
use Rattle.td_words.specs.declared.replies.Reply.TheVariants.{Done, Exited}
use Rattle.flat_core.specs.World.{Made}
use Rattle.step_core.specs.declared.items.Taken.{Taken}
use Rattle.leaf_engine.specs.declared.needs.Place.{Place}
use Rattle.leaf_engine.specs.declared.events.Stage.{Stage}
use Rattle.leaf_engine.specs.declared.events.Stage.TheVariants as stages
use Rattle.leaf_engine.specs.Guests.{Step, Operates, Accesses, Loads, Leaves}
use Rattle.leaf_engine.specs.OwnLists.{running}
use Rattle.leaf_engine.specs.Turns.{Standing}
use Rattle.leaf_table.specs.Ends.{Ends, step_fits, step_tries, step_ends}
use Rattle.leaf_dispatch.specs.Answers.{FitsStage}
use Rattle.leaf_dispatch.specs.Guests.{IsNumber, IsExit, IsReplyOf}
use Rattle.leaf_dispatch.specs.Running.{LeafTurned}
use Rattle.leaf_table.specs.Given.{Given}
use Rattle.leaf_table.specs.Table.{step_task}
use Rattle.guest_turns.specs.declared.runs.LeafTurn.{LeafTurn}
use Rattle.leaf_dispatch.proofs.Turning.{line-gives}
use Rattle.leaf_dispatch.proofs.Fewer.{answered-by, outcome-of}

number-of : (access : Access) (gpa level page : ℕ) (r : Reply) → step_fits (Loads access gpa level page) r ≡ true → IsNumber r
number-of access gpa level page (Done (value.Number x)) h = tt
number-of access gpa level page _ h = cc

exit-of : (out : Outcome) (r : Reply) → step_fits (Leaves out) r ≡ true → IsExit r
exit-of out (Exited x) h = tt
exit-of out _ h = cc

module _ {B : Type 0} (did : List Taken → B → Type 0) (bench : B) (m : Machine) {kept : Option Standing} {Keeps : Type 0} {facts : Option Facts} (result : LeafTurn) (made : List Made) where
  pub act-fits : (e : Ends) (s : Standing) → LeafTurned did m e s bench kept Keeps result made facts → (act : Option Reply) → result.act ≡ act → IfSome act (λ r. e.fits r ≡ true)
  act-fits e s t None is = tt
  act-fits e s t (Some r) is = ((line-gives did bench m e s result made t).act r (sym t.act_is ∙ is)).fits

  -- a run of a single event has that event's reply
  at-once : (t n : ℕ) (s : Step) (run : Standing) (r : Reply) → LeafTurned did m (step_ends t n s) run bench kept Keeps result made facts → step_tries s ≡ 0 → run.stage ≡ stages.Trying → result.reply ≡ Some r → step_fits s r ≡ true
  at-once t n s run r turned none on is =
      let gives = line-gives did bench m (step_ends t n s) run result made turned in
      let x = gives.once none on in
      subst (λ (z : Reply). step_fits s z ≡ true) (some-same (sym x.2 ∙ (sym turned.turned.2.reply ∙ is))) (gives.act x.0 x.1).fits
    where
      some-same : {a b : Reply} → Some a ≡ Some b → a ≡ b
      some-same e = cc

  pub reply-fits : (t n : ℕ) (s : Step) (run : Standing) → LeafTurned did m (step_ends t n s) run bench kept Keeps result made facts → (step_tries s ≡ 0 → run.stage ≡ stages.Trying) → (reply : Option Reply) → result.reply ≡ reply → IfSome reply (λ r. IsReplyOf s r)
  reply-fits t n s run turned first None is = tt
  reply-fits t n (Operates o) run turned first (Some r) is =
      let gives = line-gives did bench m (step_ends t n (Operates o)) run result made turned in
      let on = answered-by turned.stands.stage turned.stands.held r (sym turned.turned.2.reply ∙ is) in
      outcome-of o r (subst (λ (x : Stage). FitsStage (step_ends t n (Operates o)) x) on gives.fits)
  reply-fits t n (Accesses access r gpa page) run turned first (Some x) is = tt
  reply-fits t n (Loads access gpa level page) run turned first (Some r) is = number-of access gpa level page r (at-once t n (Loads access gpa level page) run r turned refl (first refl) is)
  reply-fits t n (Leaves out) run turned first (Some r) is = exit-of out r (at-once t n (Leaves out) run r turned refl (first refl) is)

-- a run that hasn't begun is on its way
pub first-trying : (given : Given) (p : Place) (t v n : ℕ) (s : Step) (kept : Option Standing) → (step_tries s ≡ 0 → kept ≡ None) → step_tries s ≡ 0 → (running (step_task given p t v n s) kept).stage ≡ stages.Trying
first-trying given p t v n s kept h none = ap (λ (k : Option Standing). (running (step_task given p t v n s) k).stage) (h none)
