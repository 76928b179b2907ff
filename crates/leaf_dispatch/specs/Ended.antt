-- The bundles of a logical processor whose calls have ended (TD Migration Architecture, "Migration Bundles").
use Rattle.std.specs.Prelude.{ℕ, ◌-◌, List, [], ◌∷◌, length, take, Option, Some, None}
use Rattle.td_words.specs.declared.calls.Call.{Call}
use Rattle.td_words.specs.declared.replies.Reply.TheVariants.{Done}
use Rattle.flat_core.specs.World.{Made}
use Rattle.leaf_engine.specs.declared.events.Stage.{Stage}
use Rattle.leaf_engine.specs.declared.events.Stage.TheVariants as stage
use Rattle.leaf_engine.specs.OwnLists.{WordLp}
use Rattle.leaf_engine.specs.Trees.{Tree, answer_of}
use Rattle.leaf_engine.specs.Turns.{Standing}
use Rattle.leaf_dispatch.specs.declared.ended.EndedBundles.{EndedBundles}

-- how many a run has made: none before its act, and none where it is refused
abbrev pub made_at : Stage → Tree → ℕ
made_at (stage.Answered (Done value)) t = length (answer_of t).bundles
made_at _ t = 0

abbrev pub made_by_run : Option Standing → ℕ
made_by_run None = 0
made_by_run (Some s) = made_at s.stage s.rest

-- how many the call under way has; no call is where no line is left
abbrev pub made_under_way : List Call → Option Standing → ℕ
made_under_way [] run = 0
made_under_way (c ∷ cs) run = made_by_run run

-- all but those
abbrev pub ended_in : WordLp → List Made
ended_in at = take (length at.beside.bundles - made_under_way at.lines at.run) at.beside.bundles

-- the bundles that are shown
abbrev pub ended_seen : EndedBundles → List Made
ended_seen b = take b.count b.bundles.now.made
