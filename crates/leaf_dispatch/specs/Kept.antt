-- What a run keeps between its turns has one proof.
use Rattle.std.specs.Prelude.{ℕ, ◌-◌, List, [], ◌∷◌, Option, Some, None}
use Rattle.std.proofs.Props.{props}
use Rattle.td_words.specs.declared.machines.Machine.{Machine}
use Rattle.flat_core.specs.World.{Made}
use Rattle.leaf_engine.specs.declared.events.HeldLock.{HeldLock}
use Rattle.leaf_engine.specs.declared.events.Stage.{Stage}
use Rattle.leaf_engine.specs.declared.events.Stage.TheVariants as stage
use Rattle.leaf_engine.specs.Trees.{Answer, Tree, Lock, Load, Test, End, Since}
use Rattle.word_rules.specs.Views.{look}
use Rattle.leaf_engine.specs.Turns.{Standing, AreIn, IsStageIn}
use Rattle.leaf_table.specs.Ends.{Ends, MakesOne, EndsBy, EndsAs, BeginsUnderOther}
use Rattle.leaf_dispatch.specs.Answers.{FitsStage, OldestIsOther}
use Rattle.leaf_table.specs.Given.{Given}
use Rattle.leaf_table.specs.Leaves.{LeafSeen}
use Rattle.leaf_dispatch.specs.Running.{IsGoing, IsRunOf, TakesIts, IsAnsweredBy, IsAnswered}
use Rattle.leaf_dispatch.specs.declared.running.Running.{Running}

AreIn-prop : (m : Machine) (hs : List HeldLock) → IsProp (AreIn m hs)
AreIn-prop m [] = hlevel
AreIn-prop m (h ∷ hs) = hlevel (props, AreIn-prop m hs)

IsStageIn-prop : (m : Machine) (written : ℕ) (s : Stage) → IsProp (IsStageIn m written s)
IsStageIn-prop m written stage.Trying = hlevel props
IsStageIn-prop m written (stage.Undoing name at) = hlevel props
IsStageIn-prop m written (stage.Answered reply) = hlevel

MakesOne-prop : (n : ℕ) (ms : List Made) → IsProp (MakesOne n ms)
MakesOne-prop n [] = hlevel
MakesOne-prop n (m ∷ []) = hlevel props
MakesOne-prop n (m ∷ k ∷ ms) = hlevel

EndsBy-prop : (o : Option ℕ) (a b : Answer) → IsProp (EndsBy o a b)
EndsBy-prop None a b = hlevel props
EndsBy-prop (Some n) a b = hlevel (props, MakesOne-prop)

pub EndsAs-prop : (e : Ends) (n : ℕ) (t : Tree) → IsProp (EndsAs e n t)
EndsAs-prop e n (Lock l q m t) = hlevel (props, EndsAs-prop e (n - 1) t)
EndsAs-prop e n (Load v q k) = hlevel (λ (x : ℕ). EndsAs-prop e n (k (look v x)))
EndsAs-prop e n (Test b r t) = hlevel (props, EndsAs-prop e n t)
EndsAs-prop e n (End a fs cs) = hlevel (props, EndsBy-prop)
EndsAs-prop e n (Since a cs) = hlevel (props, EndsBy-prop)

pub FitsStage-prop : (e : Ends) (s : Stage) → IsProp (FitsStage e s)
FitsStage-prop e stage.Trying = hlevel
FitsStage-prop e (stage.Undoing name at) = hlevel
FitsStage-prop e (stage.Answered reply) = hlevel props

BeginsUnderOther-prop : (t : Tree) → IsProp (BeginsUnderOther t)
BeginsUnderOther-prop (Lock l q m t) = hlevel props
BeginsUnderOther-prop (Load v q k) = hlevel (λ (x : ℕ). BeginsUnderOther-prop (k (look v x)))
BeginsUnderOther-prop (Test b r t) = BeginsUnderOther-prop t
BeginsUnderOther-prop (End a fs cs) = hlevel props
BeginsUnderOther-prop (Since a cs) = hlevel props

pub OldestIsOther-prop : (hs : List HeldLock) (s : Standing) → IsProp (OldestIsOther hs s)
OldestIsOther-prop [] s = hlevel (BeginsUnderOther-prop s.rest)
OldestIsOther-prop (h ∷ hs) s = hlevel props

pub IsGoing-prop : (m : Machine) (e : Ends) (l : LeafSeen) (s : Standing) → IsProp (IsGoing m e l s)
IsGoing-prop m e l s = hlevel (props, AreIn-prop, IsStageIn-prop, EndsAs-prop, FitsStage-prop, OldestIsOther-prop)

pub IsRunOf-prop : (m : Machine) (e : Ends) (run : Option Running) → IsProp (IsRunOf m e run)
IsRunOf-prop m e None = hlevel
IsRunOf-prop m e (Some r) = hlevel IsGoing-prop

pub TakesIts-prop : (g : Given) (run : Option Running) → IsProp (TakesIts g run)
TakesIts-prop g None = hlevel
TakesIts-prop g (Some r) = hlevel props

IsAnsweredBy-prop : (s : Stage) → IsProp (IsAnsweredBy s)
IsAnsweredBy-prop stage.Trying = hlevel
IsAnsweredBy-prop (stage.Undoing name at) = hlevel
IsAnsweredBy-prop (stage.Answered reply) = hlevel

pub IsAnswered-prop : (run : Option Running) → IsProp (IsAnswered run)
IsAnswered-prop None = hlevel
IsAnswered-prop (Some r) = IsAnsweredBy-prop r.run.stage
