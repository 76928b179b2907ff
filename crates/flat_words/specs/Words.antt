-- Each word of a run is one of 64 bits, where the words that it was given are. So what it seals opens to the words that it sealed
-- (TD Migration Architecture, "Migration Bundles").
use Rattle.std.specs.Prelude.{ℕ, ◌^◌, ◌<◌, List, Option, IfSome, All}
use Rattle.td_words.specs.declared.calls.Call.{Call}
use Rattle.td_words.specs.declared.calls.Call.TheVariants as call
use Rattle.td_words.specs.declared.calls.GuestOp.{GuestOp}
use Rattle.td_words.specs.declared.calls.GuestOp.TheVariants as op
use Rattle.flat_core.specs.World.{World, Made}
use Rattle.flat_core.specs.Opening.{Opening, Incoming}
use Rattle.flat_core.specs.Event.{State, event}
use Rattle.flat_core.specs.Run.{bundles_in}
use Rattle.flat_core.specs.Laws.{reached}

-- a word of 64 bits, and words by their numbers
abbrev pub IsWord : ℕ → Type 0
IsWord x = x < 2 ^ 64

abbrev pub AreWords : (ℕ → ℕ) → Type 0
AreWords ws = (i : ℕ) → IsWord (ws i)

-- What an opening gives: the value of a HOST.WRITE, of a VP.INIT and of a `set` is a word, and so is each of the 512 secret words
-- and each word that a bundle brings.
abbrev pub GivesWord : Call → Type 0
GivesWord (call.HostWrite page word value) = IsWord value
GivesWord (call.VpInit tdr vp value) = IsWord value
GivesWord _ = Unit {0}

abbrev pub SetsWord : GuestOp → Type 0
SetsWord (op.Set register value) = IsWord value
SetsWord (op.Secret register number) = number < 512
SetsWord _ = Unit {0}

abbrev pub BringsWords : Incoming → Type 0
BringsWords b = All IsWord b.payload

pub record GivesWords (o : Opening) : Type 0 where
  pub calls : All (All GivesWord) o.calls
  pub codes : (t index : ℕ) → All SetsWord (o.codes t index)
  pub bundles : (slot : ℕ) → IfSome (o.bundles slot) BringsWords
  pub secrets : (k : ℕ) → k < 512 → IsWord (o.secrets k)

-- and the words to tell, where there are any
abbrev pub AreToTell : Option (List ℕ) → Type 0
AreToTell words_to_tell = IfSome words_to_tell (All IsWord)

-- a bundle that was made, of words
abbrev pub HasWords : Made → Type 0
HasWords b = All IsWord b.payload

-- What a world has: the words of memory, the registers, RTMRs and MRTDs, what guests know of their private pages, the words that
-- were told and those that are to be told, and the payloads of the bundles that were made.
pub record HoldsWords (w : World) : Type 0 where
  pub memory : (page : ℕ) → AreWords (w.words page)
  pub registers : (vp : ℕ) → AreWords (w.hidden.registers vp)
  pub rtmrs : (tdr : ℕ) → AreWords (w.hidden.rtmrs tdr)
  pub mrtds : (tdr : ℕ) → AreWords (w.tds.mrtds tdr)
  pub known : (tdr gpa_page : ℕ) → IfSome (w.hidden.memories tdr gpa_page) AreWords
  pub told : All IsWord w.outgoing.told
  pub to_tell : AreToTell w.outgoing.to_tell
  pub made : All HasWords w.outgoing.bundles

-- one event keeps it
abbrev pub EventsKeepWords : Type 0
EventsKeepWords = (o : Opening) (s : State) (p : ℕ) → GivesWords o → HoldsWords s.world → HoldsWords (event o s p).world

-- so every state of every run has it
abbrev pub RunsHoldWords : Type 0
RunsHoldWords = (o : Opening) (words_to_tell : Option (List ℕ)) (schedule : List ℕ) → GivesWords o → AreToTell words_to_tell → HoldsWords (reached o words_to_tell schedule).world

-- and so every bundle that a run makes
abbrev pub BundlesHaveWords : Type 0
BundlesHaveWords = (o : Opening) (words_to_tell : Option (List ℕ)) (schedule : List ℕ) → GivesWords o → AreToTell words_to_tell
    → All HasWords (bundles_in (reached o words_to_tell schedule))
