-- The bundle that a call made, if it made one.
use Rattle.std.specs.Prelude.{Option, Some, None, List, [], ◌∷◌}
use Rattle.flat_core.specs.World.{Made}

-- a call makes one at most
abbrev pub made_in : Option Made → List Made
made_in None = []
made_in (Some b) = b ∷ []
