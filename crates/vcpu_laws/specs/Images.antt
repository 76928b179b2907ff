-- What is noted of a TD at its pause and at its commit, in a reader's terms: which event notes which image (TD Migration
-- Architecture, "Migration Session Control").
use Rattle.std.specs.Prelude.{◌≡◌, ℕ, List, ◌∷◌, map, Option, Some, ◌==◌, if◌then◌else◌}
use Rattle.td_words.specs.declared.calls.Call.{Call}
use Rattle.td_words.specs.declared.calls.Call.TheVariants as call
use Rattle.flat_core.specs.World.{World, Image}
use Rattle.flat_core.specs.Opening.{Opening}
use Rattle.flat_core.specs.Row.{Succeeds}
use Rattle.flat_core.specs.Event.{State, Event, OfCall, lines_left, next_event, event}

-- what a TD has: what its guest knows of its private pages, MRTD, RTMRs, and of each of its virtual processors, in the order of
-- their indexes, the registers and the position
abbrev pub td_now : World → (tdr : ℕ) → Image
td_now w t = record {
  pages = w.hidden.memories t;
  mrtd = w.tds.mrtds t;
  rtmrs = w.hidden.rtmrs t;
  vps = map (λ v. record { registers = w.hidden.registers v; position = w.vps.positions v }) (w.tds.vps t);
}

-- after a call has succeeded: EXPORT.PAUSE notes under the TD's session what the TD has, as its pause
abbrev pub paused_after_call : Call → World → (session : ℕ) → Option Image
paused_after_call (call.ExportPause tdr) w n = if n == w.tds.sessions tdr then Some (td_now w tdr) else w.hidden.paused n
paused_after_call _ w n = w.hidden.paused n

-- and IMPORT.COMMIT, as what an import gave
abbrev pub given_after_call : Call → World → (session : ℕ) → Option Image
given_after_call (call.ImportCommit tdr) w n = if n == w.tds.sessions tdr then Some (td_now w tdr) else w.hidden.given n
given_after_call _ w n = w.hidden.given n

-- after an event of a processor with these lines left: any other event notes nothing
abbrev pub paused_after_event : List Call → Option Event → World → (session : ℕ) → Option Image
paused_after_event (c ∷ cs) (Some (OfCall row Succeeds)) w = paused_after_call c w
paused_after_event _ _ w = w.hidden.paused

abbrev pub given_after_event : List Call → Option Event → World → (session : ℕ) → Option Image
given_after_event (c ∷ cs) (Some (OfCall row Succeeds)) w = given_after_call c w
given_after_event _ _ w = w.hidden.given

abbrev pub PausesAreNoted : Type 0
PausesAreNoted = (o : Opening) (s : State) (p n : ℕ) → (event o s p).world.hidden.paused n ≡ paused_after_event (lines_left o p (s.lps p)) (next_event o s p) s.world n

abbrev pub CommitsAreNoted : Type 0
CommitsAreNoted = (o : Opening) (s : State) (p n : ℕ) → (event o s p).world.hidden.given n ≡ given_after_event (lines_left o p (s.lps p)) (next_event o s p) s.world n
