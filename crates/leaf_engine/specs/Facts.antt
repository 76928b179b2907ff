-- Facts of states: what is true of a world with its processors in every state of a run. One that is added here is proved of
-- the start and kept by each event, and is known wherever words show a state.
use Rattle.std.specs.Prelude.{◌≡◌, ℕ, ◌<◌, true, false, Option, Some, None, List}
use Rattle.td_words.specs.declared.names.PageKind.TheVariants as kind
use Rattle.flat_core.specs.World.{World}
use Rattle.flat_core.specs.Processor.{OfPage, OfOp, Held, Guest}
use Rattle.flat_core.specs.Opening.{Opening}
use Rattle.flat_core.specs.Conditions.{is_elsewhere}
use Rattle.flat_core.specs.Lawful.{IsAlive, IsPageOf}
use Rattle.flat_core.specs.Event.{State, start}
use Rattle.flat_core.specs.Access.{AccessHolds}
use Rattle.flat_core.specs.AccessLaw.{IsGuarded}
use Rattle.flat_core.specs.Laws.{reached, IsKept}
use Rattle.word_rules.specs.Spots.{runs_in}
use Rattle.lock_words.specs.Grips.{holds, holds_alone, TdrsAreHeld}
use Rattle.lock_words.specs.LockWords.{LocksStand}
use Rattle.lock_words.specs.Reached.{AreSound}

-- while a virtual processor is in guest, its VP.ENTER holds P of its TDR page and O, and P of its own page alone; its TD is
-- alive, in an op state that runs; and it is associated with the processor that it is on, and counted at its last epoch
pub record GuestFits (w : World) (me : ℕ) (held : List Held) (t v : ℕ) : Type 0 where
  pub tdr_held : holds held (OfPage t) ≡ true
  pub op_held : holds held (OfOp t) ≡ true
  pub vp_held : holds_alone held (OfPage v) ≡ true
  pub alive : IsAlive w.pages w.tds t
  pub vp_page : IsPageOf w.pages t v kind.Tdvpr
  pub associated : w.vps.associated v ≡ Some me
  pub running : runs_in (w.tds.ops t) ≡ true
  pub counted : w.vps.entered v ≡ Some (w.vps.lasts v)

abbrev pub GuestIsIn : World → ℕ → List Held → Option Guest → Type 0
GuestIsIn w me held None = Unit {0}
GuestIsIn w me held (Some g) = GuestFits w me held g.tdr g.vp

-- a virtual processor is in guest on one of the machine's processors
pub record IsInside (s : State) (v : ℕ) : Type 0 where
  pub lp : ℕ
  pub in_machine : lp < s.lp_count
  pub guest : Guest
  pub is_in : (s.lps lp).guest ≡ Some guest
  pub vp_is : guest.vp ≡ v

-- each that is counted at an epoch is. So one that isn't in guest, as one that is associated with no other processor than
-- that which makes a call, is counted at none
abbrev pub CountedAreIn : State → Type 0
CountedAreIn s = (v epoch : ℕ) → s.world.vps.entered v ≡ Some epoch → IsInside s v

-- who holds, or is being refused, a lock of a TD holds P of its TDR page; the locks that are held, or being refused, stand;
-- guests are where they run; no other virtual processor is counted; and no stale translation is used
pub record Facts (s : State) : Type 0 where
  pub tdrs : TdrsAreHeld s
  pub stand : LocksStand s
  pub guests : (p : ℕ) → p < s.lp_count → GuestIsIn s.world p (s.lps p).call.held (s.lps p).guest
  pub counted : CountedAreIn s
  pub access : AccessHolds s

-- So it is at the start; after each event of a state whose locks are sound, and that is guarded, whatever bundles have come
-- in; and in every state that a run reaches.
abbrev pub FactsBegin : Type 0
FactsBegin = (o : Opening) → Facts (start o None)

abbrev pub EventsKeepFacts : Type 0
EventsKeepFacts = IsKept (λ o s. AreSound o s × IsGuarded o s × Facts s)

abbrev pub FactsStand : Type 0
FactsStand = (o : Opening) (schedule : List ℕ) → Facts (reached o None schedule)

-- A virtual processor that is associated with no other processor than one that is outside guests is counted at no epoch.
abbrev pub OutsideNoneIsCounted : Type 0
OutsideNoneIsCounted = (s : State) (me v : ℕ) → Facts s → (s.lps me).guest ≡ None → is_elsewhere me (s.world.vps.associated v) ≡ false → s.world.vps.entered v ≡ None
