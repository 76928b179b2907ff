-- What a run takes over from others: where what it committed started from, and that nothing comes in twice.
use Rattle.std.specs.Prelude.{◌≡◌, ℕ, List, ◌∷◌, ◌++◌, Some, None}
use Rattle.flat_core.specs.World.{Image, ClearHeader}
use Rattle.flat_core.specs.Opening.{Opening}
use Rattle.flat_core.specs.Run.{to_the_end, bundles_in}
use Rattle.flat_core.specs.Laws.{reached}
use Rattle.mig_laws.specs.Image.{Unforged, StartsFromPauseOf, ImageLaw}
use Rattle.mig_laws.specs.Once.{TakesBundle, AreTakenApart, NoBundleIsTakenTwice}

-- Take any other run, of whatever script, as far as it has come: the source. Where no tag is forged, so that the source made each
-- bundle that comes into this run and opens (but for a token back), every TD that this run has committed starts from the
-- source's pause: with a front of this run's events behind it, what IMPORT.COMMIT has noted under a session has just the pages
-- that the source sent under it, with the words that EXPORT.PAUSE noted there, and MRTD, RTMRs and virtual processors as noted,
-- each with its position where no guest's code of the source has more than 256 operations, as none of a script has.
abbrev pub StartsFromPauses : Opening → List ℕ → Type 0
StartsFromPauses o schedule = (q : Opening) (events : List ℕ) → let source = reached q None events in Unforged o (bundles_in source)
    → (front back : List ℕ) → schedule ++ to_the_end 0 o.calls ≡ front ++ back
    → let s = reached o None front in
    (session : ℕ) (start : Image) → s.world.hidden.given session ≡ Some start → StartsFromPauseOf q source.world session start

-- Whoever made what comes in: of two of this run's events neither takes the bundle that the other took, but for tokens back, nor
-- begins the session that the other began.
abbrev pub TakesNoneTwice : Opening → List ℕ → Type 0
TakesNoneTwice o schedule = (front between back : List ℕ) (p q : ℕ) (h k : ClearHeader) → schedule ++ to_the_end 0 o.calls ≡ front ++ p ∷ (between ++ q ∷ back)
    → TakesBundle o (reached o None front) p h → TakesBundle o (reached o None (front ++ p ∷ between)) q k → AreTakenApart h k

pub record TakesOver (o : Opening) (schedule : List ℕ) : Type 0 where
  pub starts : StartsFromPauses o schedule
  pub once : TakesNoneTwice o schedule

-- by which laws
pub record TakingLaws : Type 0 where
  pub image : ImageLaw
  pub once : NoBundleIsTakenTwice
