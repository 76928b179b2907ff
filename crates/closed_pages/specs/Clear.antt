-- What the grip of a processor's locks takes on trust of guests is told by the world: that no other one's guest reaches the page
-- of an entry, and that none writes there.
use Rattle.std.specs.Prelude.{◌≡◌, ℕ, ◌<◌, true, false}
use Rattle.td_words.specs.declared.machines.Machine.{Machine}
use Rattle.flat_core.specs.Event.{State}
use Rattle.flat_core.specs.Laws.{HoldsInRuns}
use Rattle.flat_core.specs.Lawful.{IsAlive, is_free}
use Rattle.flat_laws.specs.Unreached.{is_unreached, is_unchanged, IsSound}
use Rattle.word_rules.specs.Guards.{Reached, Written}
use Rattle.lock_words.specs.Grips.{clear_of}

-- the page of an entry is clear, for every processor: of reach where the entry is unreached, of writes where it is unchanged
pub record IsClear (s : State) (t n : ℕ) : Type 0 where
  pub reach : is_unreached s.world t n ≡ true → (me : ℕ) → clear_of s me (Reached (s.world.tds.entries t 0 n).page) ≡ true
  pub writes : is_unchanged s.world t n ≡ true → (me : ℕ) → clear_of s me (Written (s.world.tds.entries t 0 n).page) ≡ true

-- So it is at an instant: in a lawful state in which no stale translation is used, and of which each processor's guest is
-- counted, of each entry that isn't FREE, of each TD that is alive.
abbrev pub SoundIsClear : Type 0
SoundIsClear = (m : Machine) (s : State) (t n : ℕ) → ((p : ℕ) → p < s.lp_count → IsSound m s p)
    → IsAlive s.world.pages s.world.tds t → is_free (s.world.tds.entries t 0 n).state ≡ false → IsClear s t n

-- hence in every run
abbrev pub ClosedIsClear : Type 0
ClosedIsClear = HoldsInRuns (λ o s. (t n : ℕ) → IsAlive s.world.pages s.world.tds t → is_free (s.world.tds.entries t 0 n).state ≡ false → IsClear s t n)
