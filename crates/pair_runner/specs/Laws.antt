-- Laws of plans in a reader's terms.
use Rattle.std.specs.Prelude.{◌≡◌, ℕ, ◌^◌, ◌<◌, ◌≤◌, List, length, Ok}
use Rattle.std.specs.List.{All}
use Rattle.pair_runner.specs.declared.plans.PlanItem.{PlanItem}
use Rattle.pair_runner.specs.Plans.{plan_in, plan_text}

-- one of the modules has 1 to 2 ^ 20 events
pub record IsItem (modules : ℕ) (i : PlanItem) : Type 0 where
  pub «module» : i.«module» < modules
  pub some : 1 ≤ i.events
  pub most : i.events ≤ 2 ^ 20

pub record IsPlan (modules : ℕ) (plan : List PlanItem) : Type 0 where
  pub lines : length plan ≤ 4096
  pub items : All (IsItem modules) plan

-- each plan that is read is in form
pub record PlansAreInForm : Type 0 where
  pub in_form : (modules : ℕ) (bytes : List ℕ) (plan : List PlanItem) → plan_in modules bytes ≡ Ok plan → IsPlan modules plan

-- a plan in form that is written out is read again as that plan
pub record PlansReadAgain : Type 0 where
  pub read_again : (modules : ℕ) (plan : List PlanItem) → modules ≤ 8 → IsPlan modules plan → plan_in modules (plan_text plan) ≡ Ok plan
