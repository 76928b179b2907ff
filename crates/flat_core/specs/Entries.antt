-- How many events VP.ENTER has before its guest can begin its first operation, and from the count step on.
use Rattle.std.specs.Prelude.{◌≡◌, ℕ, ◌+◌, List, ◌∷◌, Some}
use Rattle.td_words.specs.declared.calls.Call.{Call}
use Rattle.td_words.specs.declared.calls.Call.TheVariants as call
use Rattle.td_words.specs.declared.replies.Outcome.{Outcome}
use Rattle.td_words.specs.declared.replies.Reply.{Reply}
use Rattle.td_words.specs.declared.replies.Reply.TheVariants.{Exited}
use Rattle.flat_core.specs.Processor.{Held, Guest, new_guest, Lp}
use Rattle.flat_core.specs.Opening.{Opening}
use Rattle.flat_core.specs.Event.{State, Leaves, lines_left, calls_of, next_event, event}
use Rattle.flat_core.specs.Run.{play}
use Rattle.flat_core.specs.Guests.{guest_locks, entry_locks}
use Rattle.flat_core.specs.Inside.{IsTimely}
use Rattle.flat_core.specs.Laws.{IsBetween, AnswersNext, own_items}

-- a guest that has begun no operation yet is in, under these locks
pub record IsNew (tdr vp most : ℕ) (locks : List Held) (lp : Lp) : Type 0 where
  pub guest : lp.guest ≡ Some (new_guest (record { tdr = tdr; vp = vp; most = most }))
  pub held : lp.call.held ≡ locks

-- the next line of a processor between two calls is VP.ENTER, and after the schedule it has given no reply yet, and a guest
-- is in
pub record IsEntering (o : Opening) (s : State) (p : ℕ) (schedule : List ℕ) (tdr vp most : ℕ) (g : Guest) : Type 0 where
  pub between : IsBetween (s.lps p)
  pub rest : List Call
  pub line : lines_left o p (s.lps p) ≡ call.VpEnter tdr vp most ∷ rest
  pub none_yet : ((play o schedule s).lps p).replies ≡ (s.lps p).replies
  pub guest : ((play o schedule s).lps p).guest ≡ Some g

-- VP.ENTER has six events before its guest can begin its first operation: four tries and its act, after which E is still
-- held, and the release of E. From the count step on it has four: that step and three releases. So it is whatever the other
-- processors do in between.
pub record EntriesHaveTheirEvents : Type 0 where
  pub begins : (o : Opening) (s : State) (p : ℕ) (schedule : List ℕ) (tdr vp most : ℕ) (g : Guest) → IsEntering o s p schedule tdr vp most g → ((play o schedule s).lps p).call.held ≡ entry_locks tdr vp
      → (own_items p schedule + 1 ≡ 6) × IsNew tdr vp most (guest_locks tdr vp) ((event o (play o schedule s) p).lps p)
  pub ready : (o : Opening) (s : State) (p : ℕ) (schedule : List ℕ) (tdr vp most : ℕ) (g : Guest) → IsEntering o s p schedule tdr vp most g → own_items p schedule ≡ 6
      → IsNew tdr vp most (guest_locks tdr vp) ((play o schedule s).lps p)
  pub leaves : (o : Opening) (s : State) (p : ℕ) (schedule : List ℕ) (vp : ℕ) (out : Outcome) (r : Reply) → IsTimely o s.world p (calls_of o.calls p) (s.lps p) → next_event o s p ≡ Some (Leaves vp out)
      → AnswersNext o s p (p ∷ schedule) r → (r ≡ Exited out) × (own_items p (p ∷ schedule) + 1 ≡ 4)
