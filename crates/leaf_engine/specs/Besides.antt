-- What a logical processor has besides its calls and its guest, and what the turns of their leaves make of it.
use Rattle.std.specs.Prelude.{ℕ, List, [], ◌∷◌, Option, Some, None}
use Rattle.report_core.specs.declared.facts.Facts.{Facts}
use Rattle.flat_core.specs.World.{Made}
use Rattle.flat_core.specs.Processor.{Translation, Note, ReportNote, Lp}
use Rattle.leaf_engine.specs.declared.events.Event.{Event}
use Rattle.leaf_engine.specs.declared.events.Event.TheVariants as event
use Rattle.leaf_engine.specs.Trees.{Answer, Tree, answer_of, added}

-- its cached translations, its notes, the words that its guests told, and the bundles that it made
pub record Beside : Type 0 where
  pub cached : List Translation
  pub notes : List Note
  pub told : List ℕ
  pub bundles : List Made

abbrev pub nothing_beside : Beside
nothing_beside = record { cached = []; notes = []; told = []; bundles = [] }

-- of a processor of the flat machine that made these bundles
abbrev pub beside_of : Lp → List Made → Beside
beside_of lp bundles = record { cached = lp.cached; notes = lp.notes; told = lp.told; bundles = bundles }

-- what an answer makes of it
abbrev pub answered_by : Answer → Beside → Beside
answered_by a b = record {
  cached = a.cached b.cached;
  notes = added b.notes a.notes;
  told = added b.told a.tells;
  bundles = added b.bundles a.bundles;
}

-- a turn that made this event and left this of its leaf's tree: an act brings the tree's answer, and no other event does
abbrev pub beside_after : Event → Tree → Beside → Beside
beside_after event.Act t b = answered_by (answer_of t) b
beside_after _ t b = b

-- and the bundles that it made
abbrev pub bundles_made : Event → Tree → List Made
bundles_made event.Act t = (answer_of t).bundles
bundles_made _ t = []

-- the facts that it reported: no reply shows them
abbrev pub reported : List Note → Option Facts
reported (ReportNote line f ∷ notes) = Some f
reported _ = None

abbrev pub facts_made : Event → Tree → Option Facts
facts_made event.Act t = reported (answer_of t).notes
facts_made _ t = None
