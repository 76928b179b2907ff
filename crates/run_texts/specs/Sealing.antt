-- The bundles of a script's processors, and the container of those that its run makes.
use Rattle.std.specs.Prelude.{ℕ, List, [], ◌∷◌, ◌++◌}
use Rattle.flat_core.specs.World.{Made}
use Rattle.flat_core.specs.Opening.{Opening}
use Rattle.flat_core.specs.Run.{run, bundles_in}
use Rattle.bundle_texts.specs.Ordered.{container_text}
use Rattle.leaf_dispatch.specs.Ended.{ended_in}
use Rattle.leaf_dispatch.specs.States.{seen_of}
use Rattle.leaf_dispatch.specs.declared.states.LpState.{LpState}

-- those whose calls have ended, one processor's behind the other's
abbrev pub bundles_seen : List LpState → List Made
bundles_seen [] = []
bundles_seen (s ∷ ss) = ended_in (seen_of s) ++ bundles_seen ss

-- the bundles that a run makes, each sealed under one of these keys, in the order of their slots
unfoldable pub bundles_text : (forward backward : List ℕ) → Opening → List ℕ → List ℕ
bundles_text forward backward o schedule = container_text forward backward (bundles_in (run o schedule))
