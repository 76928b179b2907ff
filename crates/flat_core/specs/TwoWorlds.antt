-- Two runs side by side, event by event: their openings differ in private words alone, and the second is given the words
-- that the first tells.
use Rattle.std.specs.Prelude.{◌≡◌, ℕ, List, [], ◌++◌, Option, Some}
use Rattle.td_words.specs.declared.calls.GuestOp.{GuestOp}
use Rattle.flat_core.specs.World.{World}
use Rattle.flat_core.specs.Processor.{Lp}
use Rattle.flat_core.specs.Opening.{Opening, Agree}
use Rattle.flat_core.specs.Guest.{operation_of}
use Rattle.flat_core.specs.Event.{State, Event, OfOperation, operation_told, next_event, event}
use Rattle.flat_core.specs.Lawful.{Lawful}
use Rattle.flat_core.specs.Alike.{TellAlike, AreBlindOperations}
use Rattle.flat_core.specs.AccessLaw.{IsGuarded}

-- beside the operation of each virtual processor, at each call line
abbrev pub OperationsAreBlind : Type 0
OperationsAreBlind = (o q : Opening) → Agree o q → (tdr vp line : ℕ) (op : GuestOp) → AreBlindOperations (operation_of o tdr vp line op) (operation_of q tdr vp line op)

-- processors that are the same but for what their guests noted
abbrev pub AreSameButNotes : (lps others : ℕ → Lp) → Type 0
AreSameButNotes lps others = (p : ℕ) → others p ≡ record (lps p) { notes = (others p).notes }

-- two states, where the guests of the second have these words to tell
pub record AreAlikeStates (s t : State) (words : List ℕ) : Type 0 where
  pub worlds : TellAlike s.world t.world words
  pub lps : AreSameButNotes s.lps t.lps
  pub count : s.lp_count ≡ t.lp_count

-- the words that an event tells
abbrev pub words_told : World → Option Event → List ℕ
words_told w (Some (OfOperation row move)) = operation_told w row move
words_told w _ = []

-- One event of each keeps two states alike, whatever bundles have come in, where the first one is as states of runs are, and
-- the second has the words to tell that the first one's event tells, and then others: these are left.
abbrev pub EventsAreBlind : Type 0
EventsAreBlind = (o q : Opening) (s t : State) (p : ℕ) (rest : List ℕ) → Agree o q → IsGuarded o s → Lawful q.machine t.world
    → AreAlikeStates s t (words_told s.world (next_event o s p) ++ rest) → AreAlikeStates (event o s p) (event q t p) rest

-- Each event puts the words that it tells at the end of the world's list.
abbrev pub EventsTellTheirWords : Type 0
EventsTellTheirWords = (o : Opening) (s : State) (p : ℕ) → (event o s p).world.outgoing.told ≡ s.world.outgoing.told ++ words_told s.world (next_event o s p)
