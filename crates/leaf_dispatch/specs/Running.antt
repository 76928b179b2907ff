-- What contracts see of the run of a leaf, and what it keeps between its turns.
use Rattle.std.specs.Prelude.{◌≡◌, ◌⊎◌, ℕ, Bool, false, List, [], Option, Some, None}
use Rattle.report_core.specs.declared.facts.Facts.{Facts}
use Rattle.td_words.specs.declared.machines.Machine.{Machine}
use Rattle.td_words.specs.declared.replies.Reply.{Reply}
use Rattle.flat_core.specs.World.{Made}
use Rattle.step_core.specs.declared.items.Taken.{Taken}
use Rattle.leaf_engine.specs.declared.events.Event.{Event}
use Rattle.leaf_engine.specs.declared.events.RunTurn.{RunTurn}
use Rattle.leaf_engine.specs.declared.events.Stage.{Stage}
use Rattle.leaf_engine.specs.declared.events.Stage.TheVariants as stage
use Rattle.leaf_engine.specs.Besides.{bundles_made, facts_made}
use Rattle.leaf_engine.specs.Trees.{settle}
use Rattle.leaf_engine.specs.Turns.{Standing, standing, CanRun, Turned, has_ended}
use Rattle.leaf_table.specs.Given.{Given}
use Rattle.leaf_table.specs.Leaves.{LeafSeen, leaf_seen}
use Rattle.leaf_table.specs.Origins.{origin_of, TakesFrom, HasBundle}
use Rattle.leaf_table.specs.PageRooms.{is_spare, leaf_room}
use Rattle.leaf_table.specs.Ends.{Ends}
use Rattle.leaf_dispatch.specs.Answers.{FewTries, FitsStage, OldestIsOther}
use Rattle.leaf_dispatch.specs.declared.running.Running.{Running}
use Rattle.guest_turns.specs.declared.runs.LeafTurn.{LeafTurn}
use Rattle.guest_turns.specs.Turns.{turn_of, act_of, kept_after}

-- how far it is
abbrev pub standing_of : Running → Standing
standing_of r = standing (leaf_seen r.run.leaf).rest r.run.stage r.run.held.items r.run.hasher

abbrev pub run_seen : Option Running → Option Standing
run_seen None = None
run_seen (Some r) = Some (standing_of r)

-- it can go on in its machine, has something left to do, and comes to what its leaf does
pub record IsGoing (m : Machine) (e : Ends) (l : LeafSeen) (s : Standing) : Type 0 where
  pub machine : l.task.place.machine ≡ m
  pub can_run : CanRun m s l.tries l.written l.waits
  pub going : has_ended s.stage s.held ≡ false
  pub few_tries : FewTries e s
  pub fits : FitsStage e s.stage
  pub oldest : OldestIsOther s.held s

abbrev pub IsUnderWay : Machine → Ends → Running → Type 0
IsUnderWay m e r = IsGoing m e (leaf_seen r.run.leaf) (standing_of r)

-- a run that is kept, if there is one
abbrev pub IsRunOf : Machine → Ends → Option Running → Type 0
IsRunOf m e None = Unit {0}
IsRunOf m e (Some r) = IsUnderWay m e r

-- the run that is kept stands there
abbrev pub IsKept : Machine → Ends → Standing → Option Running → Type 0
IsKept m e s None = ⊥
IsKept m e s (Some r) = (standing_of r ≡ s) × IsUnderWay m e r

-- it takes the bundle of its slot of those that are given: at its first event there may be none, later there is one
abbrev pub IsFirst : Running → Type 0
IsFirst r = standing_of r ≡ standing (settle (leaf_seen r.run.leaf).task.tree) stage.Trying [] None

abbrev pub BeginsWith : Given → Option Running → Type 0
BeginsWith g None = Unit {0}
BeginsWith g (Some r) = TakesFrom g r.run.leaf × (HasBundle r.run.leaf ⊎ IsFirst r)

abbrev pub TakesIts : Given → Option Running → Type 0
TakesIts g None = Unit {0}
TakesIts g (Some r) = TakesFrom g r.run.leaf × HasBundle r.run.leaf

-- the run that is kept can make a turn, and has made it
abbrev pub CanTurn : Machine → Option Running → Type 0
CanTurn m None = ⊥
CanTurn m (Some r) = ((leaf_seen r.run.leaf).task.place.machine ≡ m) × CanRun m (standing_of r) (leaf_seen r.run.leaf).tries (leaf_seen r.run.leaf).written (leaf_seen r.run.leaf).waits × (has_ended r.run.stage r.run.held.items ≡ false)

abbrev pub HasTurned : {B : Type 0} → (List Taken → B → Type 0) → Machine → Option Running → B → Option Running → RunTurn → Type 0
HasTurned did m (Some r) bench (Some r') result =
    Turned did m (standing_of r) bench (standing_of r') result × ((leaf_seen r'.run.leaf).task ≡ (leaf_seen r.run.leaf).task) × CanRun m (standing_of r') (leaf_seen r'.run.leaf).tries (leaf_seen r'.run.leaf).written (leaf_seen r'.run.leaf).waits
    × (origin_of r'.run.leaf ≡ origin_of r.run.leaf)
HasTurned did m _ bench _ result = ⊥

abbrev pub act_in : Option Running → Event → Option Reply
act_in None e = None
act_in (Some r) e = act_of e r.run.stage

-- the bundles that a kept run has made with its last event
abbrev pub made_in_run : Option Running → Event → List Made
made_in_run None e = []
made_in_run (Some r) e = bundles_made e (leaf_seen r.run.leaf).rest

-- the facts that it has reported with it
abbrev pub facts_in_run : Option Running → Event → Option Facts
facts_in_run None e = None
facts_in_run (Some r) e = facts_made e (leaf_seen r.run.leaf).rest

-- the room for a page's words is spare, or the run that is kept has it
abbrev pub holds_room : Option (List ℕ) → Option Running → Bool
holds_room spare None = is_spare spare
holds_room spare (Some r) = leaf_room spare r.run.leaf

-- a run is kept until its reply comes
abbrev pub kept_until : Option Reply → Option Running → Option Running
kept_until None kept = kept
kept_until (Some reply) kept = None

-- the next turn of a leaf's run, which stood there; what is kept of the run, and what is so of that; the bundles that it
-- made, and the facts that it reported
pub record LeafTurned {B : Type 0} (did : List Taken → B → Type 0) (m : Machine) (e : Ends) (s : Standing) (bench : B) (kept : Option Standing) (Keeps : Type 0) (result : LeafTurn) (made : List Made) (facts : Option Facts) : Type 0 where
  pub going : has_ended s.stage s.held ≡ false
  pub few_tries : FewTries e s
  pub fits : FitsStage e s.stage
  pub oldest : OldestIsOther s.held s
  pub stands : Standing
  pub turned : Turned did m s bench stands (turn_of result)
  pub act_is : result.act ≡ act_of result.event stands.stage
  pub made_is : made ≡ bundles_made result.event stands.rest
  pub facts_is : facts ≡ facts_made result.event stands.rest
  pub seen : kept ≡ kept_after result.reply stands
  pub under_way : Keeps

-- the same of a run that is kept so
abbrev pub RunTurned : {B : Type 0} → (List Taken → B → Type 0) → Machine → Ends → Standing → B → Option Running → LeafTurn → List Made → Option Facts → Type 0
RunTurned did m e s bench kept result made facts = LeafTurned did m e s bench (run_seen kept) (IsRunOf m e kept) result made facts

-- a run that was answered, and answers something else
abbrev pub answered_with : Reply → Standing → Standing
answered_with reply s = record s { stage = stage.Answered reply }

abbrev pub IsAnsweredBy : Stage → Type 0
IsAnsweredBy (stage.Answered reply) = Unit {0}
IsAnsweredBy _ = ⊥

abbrev pub IsAnswered : Option Running → Type 0
IsAnswered None = Unit {0}
IsAnswered (Some r) = IsAnsweredBy r.run.stage
