-- What contracts see of a run that is kept in a small record, or else as the run of another leaf.
use Rattle.std.specs.Prelude.{◌≡◌, true, false, is_none, Option, Some, None}
use Rattle.std.proofs.Props.{props}
use Rattle.td_words.specs.declared.replies.Reply.{Reply}
use Rattle.leaf_engine.specs.Besides.{reported}
use Rattle.td_words.specs.declared.machines.Machine.{Machine}
use Rattle.leaf_engine.specs.Turns.{Standing, has_ended}
use Rattle.leaf_table.specs.Ends.{Ends}
use Rattle.leaf_dispatch.specs.Answers.{FewTries, FitsStage, OldestIsOther}
use Rattle.leaf_dispatch.specs.Running.{run_seen, IsRunOf}
use Rattle.leaf_dispatch.specs.Kept.{EndsAs-prop, FitsStage-prop, OldestIsOther-prop, IsRunOf-prop}
use Rattle.leaf_dispatch.specs.declared.running.Running.{Running}

-- how far it is
abbrev pub seen_by : {A : Type 0} → (A → Standing) → Option A → Option Running → Option Standing
seen_by stands None other = run_seen other
seen_by stands (Some r) other = Some (stands r)

-- one in a small record is on its way: it makes no bundle and reports nothing, has something left to do, and comes to what its leaf does
pub record IsShortOf {A : Type 0} (stands : A → Standing) (IsAt : Machine → A → Type 0) (m : Machine) (e : Ends) (r : A) : Type 0 where
  pub inside : IsAt m r
  pub makes : e.makes ≡ None
  pub quiet : (e.reports ≡ None) × ((r : Reply) → reported (e.answer r).notes ≡ None)
  pub going : has_ended (stands r).stage (stands r).held ≡ false
  pub few_tries : FewTries e (stands r)
  pub fits : FitsStage e (stands r).stage
  pub oldest : OldestIsOther (stands r).held (stands r)

-- the run that is kept, if there is one
abbrev pub IsOneOf : {A : Type 0} → (A → Standing) → (Machine → A → Type 0) → Machine → Ends → Option A → Option Running → Type 0
IsOneOf stands IsAt m e None other = IsRunOf m e other
IsOneOf stands IsAt m e (Some r) other = (is_none other ≡ true) × IsShortOf stands IsAt m e r

-- that has one proof, where what is so of the record in its machine has one
pub IsOneOf-prop : {A : Type 0} (stands : A → Standing) (IsAt : Machine → A → Type 0) → ((m : Machine) (r : A) → IsProp (IsAt m r)) → (m : Machine) (e : Ends) (short : Option A) (other : Option Running) → IsProp (IsOneOf stands IsAt m e short other)
IsOneOf-prop stands IsAt at-prop m e None other = IsRunOf-prop m e other
IsOneOf-prop stands IsAt at-prop m e (Some r) other = hlevel (props, at-prop m r, EndsAs-prop, FitsStage-prop, OldestIsOther-prop)
