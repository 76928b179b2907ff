-- What was done with files and an output. Histories are lists, the oldest first.
use Rattle.std.specs.Prelude.{ℕ, List, Result}
use Rattle.std.specs.Global.{Vec}
use Rattle.bundle_store.specs.declared.outside.LoadFault.{LoadFault}
use Rattle.bundle_store.specs.declared.outside.SaveFault.{SaveFault}
use Rattle.bundle_store.specs.declared.outside.PutFault.{PutFault}

-- a load: for which name, and what it handed out or answered
pub record Loaded : Type 0 where
  pub name : List ℕ
  pub answer : Result (Vec ℕ) LoadFault

-- a save: for which name, what it was given, and what it answered
pub record Saved : Type 0 where
  pub name : List ℕ
  pub bytes : List ℕ
  pub answer : Result (Unit {0}) SaveFault

-- a put: what it was given, and what it answered
pub record Put : Type 0 where
  pub bytes : List ℕ
  pub answer : Result (Unit {0}) PutFault
