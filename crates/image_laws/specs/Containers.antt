-- What comes in by a container is what was sealed into it (TD Migration Architecture, "Migration Bundles").
use Rattle.std.specs.Prelude.{◌≡◌, ◌≢◌, ℕ, List, map, Option, Some, Ok, true, IfSome, All, AllPairs}
use Rattle.flat_core.specs.World.{World, Image, Made}
use Rattle.flat_core.specs.Opening.{Opening, Incoming}
use Rattle.flat_core.specs.Event.{State, start, event}
use Rattle.flat_core.specs.Inside.{AreTimely}
use Rattle.flat_core.specs.Run.{bundles_in}
use Rattle.flat_core.specs.Laws.{with_bundles, reached, HoldsInRuns}
use Rattle.flat_words.specs.Words.{BringsWords, GivesWords, AreToTell, HasWords, HoldsWords}
use Rattle.flat_bundles.specs.Formed.{IsFormed, AreCodesShort, FormsHold}
use Rattle.mig_laws.specs.Image.{Unforged, IsSource, StartsFromPause}
use Rattle.mig_laws.specs.Imports.{IsKeptWhere, TakesIn}
use Rattle.bundle_texts.specs.Sealed.{sealed}
use Rattle.bundle_texts.specs.Ordered.{in_slot_order}
use Rattle.incoming.specs.Arrivals.{incoming_in, at_slot}

-- what comes in, by slots, of bundles that are sealed and opened with the same keys
abbrev pub brought : (forward backward : List ℕ) → List Made → ℕ → Option Incoming
brought forward backward made = at_slot (map (incoming_in forward backward) (map (sealed forward backward) (in_slot_order made)))

-- a bundle that comes in as it was made: under its header, with the tag right, and with the words of its payload
abbrev pub as_made : Made → Incoming
as_made m = record { header = Ok m.header; opens = true; payload = m.payload }

-- ---- what a run makes

-- bundles that have the form of their types, and words of 64 bits
pub record AreWhole (made : List Made) : Type 0 where
  pub forms : All IsFormed made
  pub words : All HasWords made

-- a state whose bundles are so
pub record MakesWhole (o : Opening) (s : State) : Type 0 where
  pub timely : AreTimely o s
  pub forms : FormsHold s.world
  pub words : HoldsWords s.world

-- Every run of short codes starts so, where the words that it has to tell are of 64 bits; and one event keeps it so that is given
-- such words, by whatever bundles have come in by then.
pub record WholeIsKept : Type 0 where
  pub bundles : (o : Opening) (s : State) → MakesWhole o s → AreWhole (bundles_in s)
  pub start : (o : Opening) (words_to_tell : Option (List ℕ)) → AreCodesShort o → AreToTell words_to_tell → MakesWhole o (start o words_to_tell)
  pub event : (o : Opening) (bundles : ℕ → Option Incoming) (s : State) (p : ℕ) → AreCodesShort o → GivesWords (with_bundles o bundles)
      → MakesWhole o s → MakesWhole o (event (with_bundles o bundles) s p)

-- So are the bundles of every run that is given such words.
abbrev pub RunsMakeWhole : Type 0
RunsMakeWhole = (o : Opening) (words_to_tell : Option (List ℕ)) (schedule : List ℕ) → AreCodesShort o → GivesWords o → AreToTell words_to_tell
    → AreWhole (bundles_in (reached o words_to_tell schedule))

-- ---- what their container brings over

-- Each comes in as it was made, in its slot, where no two are in one slot.
abbrev pub ContainersBringBundles : Type 0
ContainersBringBundles = (forward backward : List ℕ) (made : List Made) → AreWhole made
    → AllPairs (λ m n. m.slot ≢ n.slot) made → All (λ m. brought forward backward made m.slot ≡ Some (as_made m)) made

-- nothing has come in but of these bundles: in each slot what their container brings, or nothing yet
abbrev pub ComeOf : (forward backward : List ℕ) → List Made → (ℕ → Option Incoming) → Type 0
ComeOf forward backward made bundles = (slot : ℕ) (b : Incoming) → bundles slot ≡ Some b → brought forward backward made slot ≡ Some b

-- Nothing that comes in so is forged.
abbrev pub NothingIsForged : Type 0
NothingIsForged = (forward backward : List ℕ) (made : List Made) → AreWhole made → (o : Opening) → ComeOf forward backward made o.bundles → Unforged o made

-- And it gives words of 64 bits again.
abbrev pub ContainersBringWords : Type 0
ContainersBringWords = (forward backward : List ℕ) (made : List Made) → AreWhole made → (slot : ℕ) → IfSome (brought forward backward made slot) BringsWords

-- What a destination keeps of a source every run starts with, and each event keeps it at which what has come in is of that source;
-- so each TD that was committed starts from the source's pause.
abbrev pub ImagesAreKept : Type 0
ImagesAreKept = (forward backward : List ℕ) (source : World) → IsSource source → AreWhole source.outgoing.bundles
    → IsKeptWhere (λ o. ComeOf forward backward source.outgoing.bundles o.bundles) (TakesIn source)

-- So it is in every run, where the source is a run too.
abbrev pub ContainersBringImages : Type 0
ContainersBringImages = (forward backward : List ℕ) (q : Opening) (words_to_tell : Option (List ℕ)) (schedule : List ℕ)
    → let source = reached q words_to_tell schedule in
    AreCodesShort q → AreWhole (bundles_in source) → HoldsInRuns (λ o s. ComeOf forward backward (bundles_in source) o.bundles
    → (session : ℕ) (start : Image) → s.world.hidden.given session ≡ Some start → StartsFromPause source.world session start)
