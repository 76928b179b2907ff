-- What a trace says of a run, and what a loop rests on that makes a trace event by event.
use Rattle.std.specs.Prelude.{◌≡◌, ℕ, ◌+◌, ◌<◌, ◌==◌, if◌then◌else◌, List, [], ◌∷◌, ◌++◌, length, Option, Some, None}
use Rattle.td_words.specs.declared.replies.Reply.{Reply}
use Rattle.flat_core.specs.Opening.{Opening}
use Rattle.flat_core.specs.Event.{State, start, lines_left}
use Rattle.flat_core.specs.Run.{play, run, to_the_end}
use Rattle.trace_lines.specs.declared.traces.Traced.{Traced}
use Rattle.trace_lines.specs.Traces.{traces_from, traces}

-- the replies that are told of processor p, in order
abbrev pub reply_before : Option Reply → List Reply → List Reply
reply_before None rs = rs
reply_before (Some r) rs = r ∷ rs

abbrev pub replies_told : (p : ℕ) → List Traced → List Reply
replies_told p [] = []
replies_told p (t ∷ ts) = if t.lp == p then reply_before t.reply (replies_told p ts) else replies_told p ts

-- they are numbered one after another, from this number on
abbrev pub AreNumbered : ℕ → List Traced → Type 0
AreNumbered n [] = Unit {0}
AreNumbered n (t ∷ ts) = (t.number ≡ n) × AreNumbered (n + 1) ts

-- The trace of a run numbers its events from 1, and tells just the replies that the run gives, each processor's in its order.
pub record TracesTell : Type 0 where
  pub numbers : (o : Opening) (schedule : List ℕ) → AreNumbered 1 (traces o schedule)
  pub replies : (o : Opening) (schedule : List ℕ) (p : ℕ) → replies_told p (traces o schedule) ≡ ((run o schedule).lps p).replies

-- in a state, processor p has no line left
abbrev pub HasEnded : Opening → State → (p : ℕ) → Type 0
HasEnded o s p = lines_left o p (s.lps p) ≡ []

-- Traces go on one after another. An item of a processor that has ended changes nothing; neither does one more of a processor
-- before which all have ended, where the run goes on to its end; and where all have ended nothing is left.
pub record TracesGoOn : Type 0 where
  pub append : (o : Opening) (s : State) (number : ℕ) (events further : List ℕ)
      → traces_from o s number (events ++ further) ≡ traces_from o s number events ++ traces_from o (play o events s) (number + length (traces_from o s number events)) further
  pub idle : (o : Opening) (s : State) (number p : ℕ) (further : List ℕ) → HasEnded o s p → traces_from o s number (p ∷ further) ≡ traces_from o s number further
  pub one_more : (o : Opening) (events : List ℕ) (number p : ℕ) → p < length o.calls → let s = play o events (start o None) in
      ((q : ℕ) → q < p → HasEnded o s q) → traces_from o s number (p ∷ to_the_end 0 o.calls) ≡ traces_from o s number (to_the_end 0 o.calls)
  pub ended : (o : Opening) (s : State) (number : ℕ) → ((q : ℕ) → q < length o.calls → HasEnded o s q) → traces_from o s number (to_the_end 0 o.calls) ≡ []
