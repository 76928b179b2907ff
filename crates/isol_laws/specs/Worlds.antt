-- What a run shows, whatever the private words are: beside it, the run with every private word 0, in which guests tell the
-- same words.
use Rattle.std.specs.Prelude.{◌≡◌, ℕ, List, [], ◌++◌, map, Option, Some, None}
use Rattle.flat_core.specs.World.{Made}
use Rattle.flat_core.specs.Opening.{Opening, Incoming, Agree, blind, public_bundle}
use Rattle.flat_core.specs.Event.{State, start, next_event, event}
use Rattle.flat_core.specs.Run.{run, run_told, told_in, bundles_in}
use Rattle.flat_core.specs.HostText.{host_text, text_of}
use Rattle.flat_core.specs.Laws.{with_bundles}
use Rattle.flat_core.specs.AccessLaw.{IsGuarded}
use Rattle.flat_core.specs.TwoWorlds.{AreAlikeStates, words_told}

-- Two worlds side by side: each is as states of runs are, and they are the same but for private words, with these words for the
-- second to tell.
pub record StandAlike (o q : Opening) (s t : State) (words : List ℕ) : Type 0 where
  pub here : IsGuarded o s
  pub there : IsGuarded q t
  pub alike : AreAlikeStates s t words

-- Two runs whose openings agree on all that is public start so. One event of each keeps them so, whatever bundles have come in by
-- then, where those that came into the one agree with those that came into the other: the second has the words to tell that the
-- first one's event tells, and then others, which are left.
pub record WorldsAreKept : Type 0 where
  pub start : (o q : Opening) (words : List ℕ) → Agree o q → StandAlike o q (start o None) (start q (Some words)) words
  pub event : (o q : Opening) (bundles others : ℕ → Option Incoming) (s t : State) (p : ℕ) (rest : List ℕ) → let a = with_bundles o bundles in let b = with_bundles q others in
      Agree a b → StandAlike o q s t (words_told s.world (next_event a s p) ++ rest) → StandAlike o q (event a s p) (event b t p) rest

-- the run with every private word 0, in which each word that is told is the next of those that this run tells
abbrev pub blind_run : Opening → List ℕ → State
blind_run o schedule = run_told (blind o) schedule (told_in (run o schedule))

-- The two end alike, with no word left to tell: the same but for private pages, registers and RTMRs, for what guests know and
-- noted, for the images that were noted, and for the private payloads of bundles that were made.
abbrev pub BlindRunsAreAlike : Type 0
BlindRunsAreAlike = (o : Opening) (schedule : List ℕ) → AreAlikeStates (run o schedule) (blind_run o schedule) []

-- So they print the same.
abbrev pub BlindRunsPrintTheSame : Type 0
BlindRunsPrintTheSame = (o : Opening) (schedule : List ℕ) → host_text o schedule ≡ text_of (blind_run o schedule)

-- what anyone can read of the bundles that were made
abbrev pub public_bundles : State → List Made
public_bundles s = map public_bundle (bundles_in s)

-- The bundles that they make have the same public part, too.
abbrev pub BlindRunsMakeTheSameBundles : Type 0
BlindRunsMakeTheSameBundles = (o : Opening) (schedule : List ℕ) → public_bundles (run o schedule) ≡ public_bundles (blind_run o schedule)

-- So two openings that agree on all that is public print the same and make bundles with the same public part, where guests
-- tell the same.
abbrev pub AgreeingRunsShowTheSame : Type 0
AgreeingRunsShowTheSame = (o q : Opening) (schedule : List ℕ) → Agree o q → told_in (run o schedule) ≡ told_in (run q schedule)
    → (host_text o schedule ≡ host_text q schedule) × (public_bundles (run o schedule) ≡ public_bundles (run q schedule))

-- The run with every private word 0 agrees with its own on all that is public, and has no secret word; and so do any two
-- openings that differ in secret words alone.
pub record SecretsArePrivate : Type 0 where
  pub agree : (o : Opening) → Agree o (blind o)
  pub none : (o : Opening) (k : ℕ) → (blind o).secrets k ≡ 0
  pub differ : (o : Opening) (secrets : ℕ → ℕ) → Agree o (record o { secrets = secrets })
