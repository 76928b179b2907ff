-- Lists of pages: what is said of calls without COUNT holds of calls with it, though none says it yet (TD Migration Architecture,
-- "Migration Bundles"; ABI Reference, "TDH.EXPORT.MEM" and "TDH.IMPORT.MEM").
use Rattle.std.specs.Prelude.{◌≡◌, ℕ, Option, None}
use Rattle.flat_core.specs.World.{World}
use Rattle.flat_core.specs.Opening.{Opening}
use Rattle.flat_core.specs.Row.{Passes}
use Rattle.flat_core.specs.Inputs.{input_in}
use Rattle.flat_core.specs.BundleRows.{export_pages}
use Rattle.flat_core.specs.ImportRows.{import_pages}
use Rattle.flat_core.specs.Lawful.{Lawful}
use Rattle.flat_core.specs.Laws.{ArePagesKnown}
use Rattle.mig_laws.specs.Ivs.{AbortsHold}
use Rattle.mig_laws.specs.Source.{SourceHolds}
use Rattle.mig_laws.specs.Paused.{PausesHold}
use Rattle.mig_laws.specs.WellMade.{AreWellMade, WellHolds}
use Rattle.mig_laws.specs.States.{StatesHold}
use Rattle.mig_laws.specs.Started.{StartsHold}
use Rattle.mig_laws.specs.Image.{Unforged, AreSingle}
use Rattle.mig_laws.specs.Imports.{DestinationHolds}
use Rattle.mig_laws.specs.Once.{IsSpent, number_of}

-- what this crate says of a source, world by world
pub record IsExporter (w : World) : Type 0 where
  pub source : SourceHolds w
  pub pauses : PausesHold w
  pub states : StatesHold w
  pub starts : StartsHold w
  pub well : WellHolds w

-- The act of EXPORT.MEM keeps it, for any COUNT: one bundle is counted and sealed once, and each page's words in it are the page's.
abbrev pub ListsAreSent : Type 0
ListsAreSent = (o : Opening) (w : World) (t gpa k slot : ℕ) (count : Option ℕ) → let row = export_pages o.machine t gpa k slot count in
    Lawful o.machine w → ArePagesKnown w → IsExporter w → Passes (row.items w) → IsExporter (row.act w)

-- That of IMPORT.MEM keeps what a destination has of any source whose bundles are well made, lists among them; and what it has taken
-- it doesn't take again.
pub record ListsAreTaken : Type 0 where
  pub kept : (source : World) (o : Opening) (w : World) (t slot page : ℕ) (count : Option ℕ) → let row = import_pages o.machine (o.bundles slot) t slot page count in
      AreWellMade source.outgoing.bundles → (count ≡ None → AreSingle source.outgoing.bundles) → Unforged o source.outgoing.bundles
      → Lawful o.machine w → DestinationHolds source w → Passes (row.items w) → DestinationHolds source (row.act w)
  pub spent : (o : Opening) (w : World) (t slot page : ℕ) (count : Option ℕ) → let row = import_pages o.machine (o.bundles slot) t slot page count in
      Lawful o.machine w → AbortsHold w → Passes (row.items w) → IsSpent (row.act w) (number_of (input_in (o.bundles slot)).header)
  pub once : (o : Opening) (w : World) (t slot page : ℕ) (count : Option ℕ) → let row = import_pages o.machine (o.bundles slot) t slot page count in
      Lawful o.machine w → Passes (row.items w) → IsSpent w (number_of (input_in (o.bundles slot)).header) → ⊥
