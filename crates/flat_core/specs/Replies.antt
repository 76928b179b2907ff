-- Each call line gets exactly one reply.
use Rattle.std.specs.Prelude.{◌≡◌, ◌⊎◌, ℕ, ◌≤◌, List, [], ◌∷◌, ◌++◌, length, Option}
use Rattle.td_words.specs.declared.replies.Reply.{Reply}
use Rattle.flat_core.specs.Opening.{Opening}
use Rattle.flat_core.specs.Event.{State, calls_of, event}
use Rattle.flat_core.specs.Run.{run_telling}
use Rattle.flat_core.specs.Laws.{IsKept, HoldsInRuns}

-- the same replies, or one more at their end
abbrev pub IsOneMore : List Reply → List Reply → Type 0
IsOneMore before after = (after ≡ before) ⊎ ((r : Reply) × (after ≡ before ++ r ∷ []))

-- an event of a processor brings one reply or none, in every state: also where a virtual processor is in guest
abbrev pub RepliesComeOneByOne : Type 0
RepliesComeOneByOne = (o : Opening) (s : State) (p : ℕ) → IsOneMore (s.lps p).replies ((event o s p).lps p).replies

-- a processor has no more replies than it has lines
abbrev pub AreToLines : Opening → State → Type 0
AreToLines o s = (p : ℕ) → length (s.lps p).replies ≤ length (calls_of o.calls p)

abbrev pub RepliesAreKept : Type 0
RepliesAreKept = IsKept AreToLines

abbrev pub RepliesAreToLines : Type 0
RepliesAreToLines = HoldsInRuns AreToLines

-- at the end of a run it has as many
abbrev pub EveryLineIsAnswered : Type 0
EveryLineIsAnswered = (o : Opening) (words_to_tell : Option (List ℕ)) (schedule : List ℕ) (p : ℕ)
    → length ((run_telling words_to_tell o schedule).lps p).replies ≡ length (calls_of o.calls p)
