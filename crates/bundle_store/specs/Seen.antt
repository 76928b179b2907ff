-- What contracts see of structs that hold lists.
use Rattle.std.specs.Prelude.{ℕ, List}

-- a file in memory
pub record FileSeen : Type 0 where
  pub name : List ℕ
  pub bytes : List ℕ
