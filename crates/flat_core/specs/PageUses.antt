-- What pages are used for, through the events of a run.
use Rattle.std.specs.Prelude.{◌≡◌, ℕ, List, ◌∷◌, Option, Some, Bool, true, false}
use Rattle.td_words.specs.declared.calls.Call.{Call}
use Rattle.flat_core.specs.World.{World}
use Rattle.flat_core.specs.Opening.{Opening}
use Rattle.flat_core.specs.Row.{Succeeds}
use Rattle.flat_core.specs.Conditions.{is_host_in}
use Rattle.flat_core.specs.Event.{State, Event, OfCall, lines_left, next_event, event}
use Rattle.flat_core.specs.Laws.{gives_back, IsUsedAsBefore}

-- the act of a call
abbrev pub is_act : Option Event → Bool
is_act (Some (OfCall row Succeeds)) = true
is_act _ = false

-- the act of a call, the first of these, that gives a page back to the host
abbrev pub is_act_giving_back : List Call → Option Event → World → ℕ → Bool
is_act_giving_back (c ∷ cs) (Some (OfCall row Succeeds)) w q = gives_back c w q
is_act_giving_back _ _ w q = false

-- No event but the act of a call changes what any page is used for: neither what a guest does nor what is tried or released.
-- And a page that isn't the host's keeps its use through every event but the act that gives it back.
pub record EventsKeepUses : Type 0 where
  pub acts_alone : (o : Opening) (s : State) (p q : ℕ) → is_act (next_event o s p) ≡ false → IsUsedAsBefore s.world.pages (event o s p).world.pages q
  pub one_use : (o : Opening) (s : State) (p q : ℕ) → is_host_in s.world.pages q ≡ false → is_act_giving_back (lines_left o p (s.lps p)) (next_event o s p) s.world q ≡ false
      → IsUsedAsBefore s.world.pages (event o s p).world.pages q
