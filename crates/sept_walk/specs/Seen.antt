-- What contracts see of a walk.
use Rattle.std.specs.Prelude.{ℕ}

-- a walk to the entry of a wanted level that maps a GPA stands in a secure EPT page, whose entries are of a level
pub record Walk : Type 0 where
  pub page : ℕ
  pub level : ℕ
  pub gpa : ℕ
  pub wanted : ℕ
