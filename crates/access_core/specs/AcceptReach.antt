-- A page that its guest hasn't accepted is reached through no cached translation, so nobody sees the zeros that are stored there.
use Rattle.std.proofs.Common.{◌≡◌, ℕ, true, false, ◌<◌, List, Option, Some, subst, inl}
use Rattle.td_words.specs.declared.machines.Machine.{Machine}
use Rattle.td_words.specs.Place as place
use Rattle.flat_core.specs.Processor.{OfPage, OfOp, Held, Guest}
use Rattle.flat_core.specs.Lawful.{Lawful, IsAlive}
use Rattle.flat_core.specs.Event.{State}
use Rattle.flat_core.specs.Access.{is_pending}
use Rattle.word_rules.specs.Spots.{runs_in}
use Rattle.word_rules.specs.Permissions.{Fills}
use Rattle.lock_words.specs.Grips.{holds, holds_alone, none_reaches, grip_with}
use Rattle.act_rules.proofs.Unreached.{IsCounted, node, none-reaches-pending}
use Rattle.leaf_engine.specs.Facts.{GuestFits, GuestIsIn, Facts}

-- Through no translation that is cached on any processor can a guest reach the page that a PENDING entry names.
abbrev pub PendingIsUnreached : Type 0
PendingIsUnreached = (m : Machine) (s : State) (me t n : ℕ) → Lawful m s.world → Facts s → IsAlive s.world.pages s.world.tds t → is_pending (s.world.tds.entries t 0 n).state ≡ true → none_reaches s.lps s.lp_count me (s.world.tds.entries t 0 n).page false ≡ true

-- So under P of the page alone, and the locks of the TD's guest, the rules let its words be stored before an act.
abbrev pub PendingMayBeFilled : Type 0
PendingMayBeFilled = (m : Machine) (s : State) (me t n : ℕ) (hs : List Held) → Lawful m s.world → Facts s → IsAlive s.world.pages s.world.tds t → is_pending (s.world.tds.entries t 0 n).state ≡ true → runs_in (s.world.tds.ops t) ≡ true
    → holds hs (OfPage t) ≡ true → holds hs (OfOp t) ≡ true → holds_alone hs (OfPage (s.world.tds.entries t 0 n).page) ≡ true → (i : ℕ) → Fills (grip_with s me hs) s.world (place.Word (s.world.tds.entries t 0 n).page i)

-- each guest is counted
guests-counted : (s : State) → Facts s → (q : ℕ) (g : Guest) → q < s.lp_count → (s.lps q).guest ≡ Some g → IsCounted s.world g.tdr g.vp
guests-counted s facts q g below is =
    let fits : GuestFits s.world q (s.lps q).call.held g.tdr g.vp = subst (λ (x : Option Guest). GuestIsIn s.world q (s.lps q).call.held x) is (facts.guests q below) in
    record { alive = fits.alive; counted = fits.counted }

pub pending-is-unreached : PendingIsUnreached
pending-is-unreached m s me t n la facts alive pends = none-reaches-pending m s t n la facts.access (guests-counted s facts) alive pends me

pub pending-may-be-filled : PendingMayBeFilled
pending-may-be-filled m s me t n hs la facts alive pends runs tdr op alone i =
    let its = node m s t n la facts.access (guests-counted s facts) alive pends in
    rw (its.page.kind, its.page.owner, runs) (inl (tdr, (op, (alone, (pending-is-unreached m s me t n la facts alive pends, tt)))))
