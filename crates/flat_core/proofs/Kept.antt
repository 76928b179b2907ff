-- What every schedule keeps.
use Rattle.std.proofs.Common.{◌≡◌, ◌≢◌, refl, sym, ◌∙◌, ap, ℕ, ◌+◌, List, [], ◌∷◌, length, drop, Option, Some, None, option_map, true, false, subst, ◌==◌}
use Rattle.std.specs.List.{list_any}
use Rattle.std.proofs.lemmas.Bool.{eqb-true, ne_eqb}
use Rattle.td_words.specs.declared.machines.Machine.{Machine}
use Rattle.td_words.specs.declared.names.Access.{Access}
use Rattle.td_words.specs.declared.names.Access.TheVariants.{Read, Write}
use Rattle.td_words.specs.declared.names.OpState.{OpState}
use Rattle.td_words.specs.declared.names.OpState.TheVariants as op
use Rattle.td_words.specs.declared.names.EntryState.{EntryState}
use Rattle.td_words.specs.declared.names.EntryState.TheVariants as entry
use Rattle.td_words.specs.declared.calls.Call.{Call}
use Rattle.td_words.specs.declared.calls.GuestOp.{GuestOp}
use Rattle.td_words.specs.NameNumber.{op_number}
use Rattle.td_words.specs.Packing.{is_exported}
use Rattle.flat_core.specs.World.{World}
use Rattle.flat_core.specs.Processor.{Guest, Lp}
use Rattle.flat_core.specs.Opening.{Opening}
use Rattle.flat_core.specs.Row.{OperationRow, Attempts, Undoes, Refuses, Succeeds, Releases, Rests}
use Rattle.flat_core.specs.Conditions.{running_ops}
use Rattle.flat_core.specs.Tree.{number_at, entry_at, same_state}
use Rattle.flat_core.specs.Effects.{set_entry, set_rtmr, leave_guest, tell_words}
use Rattle.flat_core.specs.Guest.{ByRow, operation_of, is_pending_at, accept_page, extended_rtmr, reach}
use Rattle.flat_core.specs.Event.{State, Event, OfCall, OfOperation, Walks, Reaches, Leaves, next_event, after_event}
use Rattle.flat_core.specs.Lawful.{Lawful, is_free, is_node}
use Rattle.flat_core.specs.Guests.{IsOccupied}
use Rattle.flat_core.specs.Inside.{LineAt, StandsAt, IsTimely}
use Rattle.flat_core.specs.Laws.{GuestRuns, EventsKeepLawful, OthersStay, QuietEventsStay, NoWordsToTell}
use Rattle.flat_core.proofs.Tests.{by_test}
use Rattle.flat_core.proofs.Acts.{event_world}
use Rattle.flat_core.proofs.Operations.{operation_row, accepted}
use Rattle.flat_core.proofs.Parts.{untouched, new_kept}
use Rattle.flat_core.proofs.EntryStates.{state_kept}
use Rattle.flat_core.proofs.Keeps.{row-keeps}

-- a guest's access changes words, registers, memories and positions alone
reach_lawful : (o : Opening) (t v : ℕ) (access : Access) (r gpa page : ℕ) (w : World) → Lawful o.machine w → Lawful o.machine (reach t v access r gpa page w)
reach_lawful o t v Read r gpa page w l = untouched o.machine w _ refl l
reach_lawful o t v Write r gpa page w l = untouched o.machine w _ refl l

-- and a count step which virtual processors are in guest
pub leave_lawful : (o : Opening) (v : ℕ) (w : World) → Lawful o.machine w → Lawful o.machine (leave_guest v w)
leave_lawful o v w l = untouched o.machine w _ refl l

pub is_pending : (s : EntryState) → same_state s entry.Pending ≡ true → s ≡ entry.Pending
is_pending entry.Pending h = refl
is_pending _ h = cc

-- what the acceptance of a page makes of an entry
pub accept_lawful : (m : Machine) (t gpa : ℕ) (w : World) → Lawful m w → Lawful m (accept_page (is_pending_at w t gpa) t gpa w)
accept_lawful m t gpa w l =
    accepted (Lawful m) (is_pending_at w t gpa) t gpa w
    (λ e. let pending : (entry_at w t 0 gpa).state ≡ entry.Pending = is_pending _ e in
    untouched m (set_entry t 0 (number_at 0 gpa) (record { state = entry.Mapped; page = (entry_at w t 0 gpa).page; mark = 0 }) w) _ refl
    (state_kept m w t 0 (number_at 0 gpa) entry.Mapped l (ap is_free pending) (ap is_exported pending) refl (sym (ap is_node pending)) refl))
    (λ e. l)

-- a TD that runs isn't new
abbrev Runs : World → ℕ → Type 0
Runs w t = list_any (λ s. op_number s == op_number (w.tds.ops t)) running_ops ≡ true

not_new : (w : World) (t : ℕ) → Runs w t → w.tds.ops t ≡ op.Uninitialized → ⊥
not_new w t runs e = let no : true ≡ false = sym runs ∙ ap (λ (s : OpState). list_any (λ a. op_number a == op_number s) running_ops) e in cc

-- so its RTMRs may be extended
extended_lawful : (m : Machine) (t i : ℕ) (ws : ℕ → ℕ) (w : World) → Runs w t → Lawful m w → Lawful m (set_rtmr t i ws w)
extended_lawful m t i ws w runs l = record {
  size = l.size;
  pages = l.pages;
  tds = l.tds;
  lists = l.lists;
  tree = l.tree;
  keys = l.keys;
  beginnings = record {
    is_new = λ x a n. (let is_new = l.beginnings.is_new x a n in by_test (x == t)
        (λ y. absurd (not_new w t runs (ap w.tds.ops (sym (eqb-true x t y)) ∙ is_new.op)))
        (λ y. new_kept w.tds w.tds w.hidden.rtmrs (set_rtmr t i ws w).hidden.rtmrs x (rw y refl) is_new));
  };
  counts = l.counts;
  streams = l.streams;
  sessions = l.sessions;
}

-- a guest's operations change registers, host words, positions, an entry that was PENDING, and RTMRs of its TD
pub operation_lawful : (o : Opening) (t v line : ℕ) (op : GuestOp) (row : OperationRow) (w : World) → operation_of o t v line op ≡ ByRow row → Runs w t → Lawful o.machine w
    → Lawful o.machine (tell_words (row.tells w) (row.act w))
operation_lawful o t v line op row w e runs l =
    operation_row o t v line (λ x. Lawful o.machine (tell_words (x.tells w) (x.act w)))
    (λ r x. untouched o.machine w _ refl l)
    (λ r s. untouched o.machine w _ refl l)
    (λ r gpa. untouched o.machine w _ refl l)
    (λ r gpa. untouched o.machine w _ refl l)
    (λ gpa. untouched o.machine (accept_page (is_pending_at w t gpa) t gpa w) _ refl (accept_lawful o.machine t gpa w l))
    (λ i. untouched o.machine (set_rtmr t i (extended_rtmr w t v i) w) _ refl (extended_lawful o.machine t i (extended_rtmr w t v i) w runs l))
    (untouched o.machine w _ refl l)
    (λ r. untouched o.machine w _ refl l)
    op row e

pub events_keep : EventsKeepLawful
events_keep o s p l runs =
    event_world o s p (Lawful o.machine) l
    (λ c cs line none ps. (row-keeps o p c).act s.world l ps)
    (λ c cs g op row i is ps. operation_lawful o g.tdr g.vp (length (s.lps p).replies + 1) op row s.world is (runs g i.guest) l)
    (λ c cs g op access r gpa page i is found. reach_lawful o g.tdr g.vp access r gpa page s.world l)
    (λ c cs g i. leave_lawful o g.vp s.world l)

-- where a processor stands as it does in runs its guest runs there, and so does the guest's TD
pub timely_occupied : (o : Opening) (w : World) (p : ℕ) (calls : List Call) (lp : Lp) → IsTimely o w p calls lp → (g : Guest) → lp.guest ≡ Some g → IsOccupied w p g.tdr g.vp
timely_occupied o w p calls lp timely = by (drop (length lp.replies) calls) timely
  where
    at : (c : Call) (x : Option Guest) → LineAt o w p c lp x → (g : Guest) → x ≡ Some g → IsOccupied w p g.tdr g.vp
    at c None h g e = cc
    at c (Some y) h g e = let same : y ≡ g = cc in subst (λ (z : Guest). IsOccupied w p z.tdr z.vp) same h.occupied

    by : (cs : List Call) → StandsAt o w p cs lp → (g : Guest) → lp.guest ≡ Some g → IsOccupied w p g.tdr g.vp
    by [] h g e = absurd (let no : None ≡ Some g = sym h.0 ∙ e in cc)
    by (c ∷ cs) h g e = at c lp.guest h g e

pub timely_runs : (o : Opening) (w : World) (p : ℕ) (calls : List Call) (lp : Lp) → IsTimely o w p calls lp → GuestRuns w lp
timely_runs o w p calls lp timely g e = (timely_occupied o w p calls lp timely g e).running

other_stays : (s : State) (p q : ℕ) (x : Option Event) → q ≢ p → (after_event p s x).lps q ≡ s.lps q
other_stays s p q None n = refl
other_stays s p q (Some e) n = rw (ne_eqb q p n) refl

pub others_stay : OthersStay
others_stay o s p q n = other_stays s p q (next_event o s p) n

pub quiet_stay : QuietEventsStay
quiet_stay (OfCall row (Attempts l m)) w h = refl
quiet_stay (OfCall row (Undoes l)) w h = refl
quiet_stay (OfCall row (Refuses r)) w h = refl
quiet_stay (OfCall row Succeeds) w h = absurd h
quiet_stay (OfCall row (Releases x)) w h = refl
quiet_stay (OfCall row Rests) w h = refl
quiet_stay (OfOperation row (Attempts l m)) w h = refl
quiet_stay (OfOperation row (Undoes l)) w h = refl
quiet_stay (OfOperation row (Refuses r)) w h = refl
quiet_stay (OfOperation row Succeeds) w h = absurd h
quiet_stay (OfOperation row (Releases x)) w h = refl
quiet_stay (OfOperation row Rests) w h = refl
quiet_stay (Walks access gpa) w h = refl
quiet_stay (Reaches t v access r gpa page) w h = absurd h
quiet_stay (Leaves v out) w h = absurd h

-- a word that is told is its register's where there are none to tell
abbrev TellsNone : World → Type 0
TellsNone w = w.outgoing.to_tell ≡ None

pub no_words_to_tell : NoWordsToTell
no_words_to_tell o s p h =
    event_world o s p TellsNone h
    (λ c cs line none ps. (row-keeps o p c).to_tell s.world ∙ h)
    (λ c cs g op row i is ps. operation_tells g.tdr g.vp (length (s.lps p).replies + 1) op row is)
    (λ c cs g op access r gpa page i is found. reach_tells g.tdr g.vp access r gpa page)
    (λ c cs g i. h)
  where
    reach_tells : (t v : ℕ) (access : Access) (r gpa page : ℕ) → TellsNone (reach t v access r gpa page s.world)
    reach_tells t v Read r gpa page = h
    reach_tells t v Write r gpa page = h

    operation_tells : (t v line : ℕ) (op : GuestOp) (row : OperationRow) → operation_of o t v line op ≡ ByRow row → TellsNone (tell_words (row.tells s.world) (row.act s.world))
    operation_tells t v line op row e =
        operation_row o t v line (λ x. TellsNone (tell_words (x.tells s.world) (x.act s.world)))
        (λ r x. rw h refl)
        (λ r x. rw h refl)
        (λ r gpa. rw h refl)
        (λ r gpa. rw h refl)
        (λ gpa. accepted (λ x. option_map (drop 0) x.outgoing.to_tell ≡ None) (is_pending_at s.world t gpa) t gpa s.world (λ y. rw h refl) (λ y. rw h refl))
        (λ i. rw h refl)
        (rw h refl)
        (λ r. rw h refl)
        op row e
