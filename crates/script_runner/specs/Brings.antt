-- What the container that a run seals brings over to another run.
use Rattle.std.specs.Prelude.{◌≡◌, ◌≢◌, ℕ, List, Option, Some, None, Ok, All}
use Rattle.td_words.specs.Seen.{BundleSeen}
use Rattle.flat_core.specs.World.{Image}
use Rattle.flat_core.specs.Run.{run, bundles_in}
use Rattle.flat_core.specs.Laws.{reached}
use Rattle.flat_bundles.specs.Bundles.{BundlesAreOfLines}
use Rattle.mig_laws.specs.Image.{Unforged, StartsFromPause}
use Rattle.bundle_texts.specs.Laws.{BundlesReadAgain}
use Rattle.image_laws.specs.Containers.{as_made, RunsMakeWhole, ContainersBringBundles, NothingIsForged, ContainersBringImages}
use Rattle.bundle_store.specs.Containers.{container_in}
use Rattle.script_text.specs.Seen.{ScriptSeen}
use Rattle.script_text.specs.Laws.{ScriptsAreInForm}
use Rattle.run_texts.specs.Sealing.{bundles_text}
use Rattle.script_words.specs.Given.{AreInputWords, ScriptsGiveWords}
use Rattle.command_files.specs.Commands.{NamedSeen, CommandSeen, named_of}
use Rattle.script_runner.specs.Ending.{HandedOut, given_by, opening_by}

-- what is handed out are words of 64 bits
abbrev pub HandsWords : HandedOut → Type 0
HandsWords handed = AreInputWords (given_by handed).secrets (given_by handed).bundles

-- the container that a run seals
abbrev pub sealed_by : HandedOut → ScriptSeen → (order : List ℕ) → List ℕ
sealed_by handed s order = bundles_text handed.keys.forward handed.keys.backward (opening_by handed s) order

-- another run is handed out just the container of these bytes, and the same keys
pub record IsHandedOn (handed : HandedOut) (bytes : List ℕ) (other : HandedOut) : Type 0 where
  pub keys : other.keys ≡ handed.keys
  pub container : container_in bytes ≡ Ok other.bundles

-- These bytes, which this run has left, are a container. Where another run is handed it on, whatever its script and its secret words,
-- each bundle that this run made comes in as it was made, in its slot; and none is forged, so that each that comes in and opens was
-- made by this run. So what is committed there starts from this run's pause.
pub record BringsOver (handed : HandedOut) (s : ScriptSeen) (order bytes : List ℕ) : Type 0 where
  pub container : (bundles : List BundleSeen) × (container_in bytes ≡ Ok bundles)
  pub bundles : (other : HandedOut) (script : ScriptSeen) → IsHandedOn handed bytes other
      → All (λ m. (opening_by other script).bundles m.slot ≡ Some (as_made m)) (bundles_in (run (opening_by handed s) order))
  pub unforged : (other : HandedOut) (script : ScriptSeen) → IsHandedOn handed bytes other → Unforged (opening_by other script) (bundles_in (run (opening_by handed s) order))
  pub images : (other : HandedOut) (script : ScriptSeen) → IsHandedOn handed bytes other → (events : List ℕ) (session : ℕ) (start : Image)
      → (reached (opening_by other script) None events).world.hidden.given session ≡ Some start → StartsFromPause (run (opening_by handed s) order).world session start

-- Behind the run the named container file has just this container, where what files have is told, and it brings its bundles over.
-- Where the guest file has that name too, it was saved over it.
abbrev pub FileBringsOver : CommandSeen → Option (List ℕ → Option (List ℕ)) → HandedOut → ScriptSeen → (order : List ℕ) → Type 0
FileBringsOver c behind handed s order = (n : NamedSeen) (name : List ℕ) → named_of c ≡ Some n → n.out_bundles ≡ Some name → n.guest_out ≢ Some name
    → (files : List ℕ → Option (List ℕ)) × (behind ≡ Some files) × (files name ≡ Some (sealed_by handed s order)) × BringsOver handed s order (sealed_by handed s order)

-- the laws by which it is so
pub record CarryingLaws : Type 0 where
  pub whole : RunsMakeWhole
  pub come : ContainersBringBundles
  pub forged : NothingIsForged
  pub images : ContainersBringImages
  pub read_again : BundlesReadAgain
  pub lines : BundlesAreOfLines
  pub forms : ScriptsAreInForm
  pub gives : ScriptsGiveWords
