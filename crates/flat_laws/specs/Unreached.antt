-- No reach and no change: when no guest can reach the page of an entry, or write there, told from the world alone.
use Rattle.std.specs.Prelude.{◌≡◌, ℕ, Bool, true, false, not, ◌==◌, ◌&&◌, ◌||◌, List, Option, Some, None}
use Rattle.std.specs.List.{list_any}
use Rattle.td_words.specs.declared.names.Access.{Access}
use Rattle.td_words.specs.declared.names.Access.TheVariants.{Write}
use Rattle.td_words.specs.declared.names.EntryState.{EntryState}
use Rattle.td_words.specs.declared.names.EntryState.TheVariants as entry
use Rattle.td_words.specs.declared.names.PageKind.TheVariants as kind
use Rattle.td_words.specs.declared.machines.Machine.{Machine}
use Rattle.flat_core.specs.World.{World}
use Rattle.flat_core.specs.Processor.{Translation, Guest}
use Rattle.flat_core.specs.Opening.{Opening}
use Rattle.flat_core.specs.Tracking.{is_tracked}
use Rattle.flat_core.specs.Lawful.{Lawful, IsAlive, IsPageOf, is_free}
use Rattle.flat_core.specs.Event.{State, Reaches, next_event}
use Rattle.flat_core.specs.Laws.{HoldsInRuns}
use Rattle.flat_core.specs.Access.{AccessHolds, may_be_exempt}
use Rattle.flat_core.specs.AccessLaw.{IsGuarded}
use Rattle.flat_laws.specs.Usable.{MayUse}

-- An entry lets no translation be used: it is FREE, or its guest hasn't accepted the page, or it is blocked and that is
-- tracked (Base Architecture, "Secure EPT Entry State Diagram").
abbrev pub unreached_in : EntryState → (tracked : Bool) → Bool
unreached_in entry.Free over = true
unreached_in entry.Pending over = true
unreached_in entry.PendingBlocked over = true
unreached_in entry.Blocked over = over
unreached_in _ over = false

-- Or it lets none be used to write: it is blocked for writing and that is tracked, and the page isn't one that an export may
-- have taken without a block (TD Migration Architecture, "Private Memory Migration").
abbrev pub unchanged_in : EntryState → (tracked exempt : Bool) → Bool
unchanged_in entry.BlockedW over exempt = over
unchanged_in entry.ExportedDirtyBlockedW over exempt = over
unchanged_in entry.ExportedBlockedW over exempt = over && not exempt
unchanged_in s over exempt = unreached_in s over

-- No guest reaches the page of a TD's GPA page through a translation. Where the page is pending its guest's `accept` clears
-- it, by the entry and through no translation.
abbrev pub is_unreached : World → (t gpa_page : ℕ) → Bool
is_unreached w t n = let e = w.tds.entries t 0 n in unreached_in e.state (is_tracked w t e.page)

-- no guest writes there through one
abbrev pub is_unchanged : World → (t gpa_page : ℕ) → Bool
is_unchanged w t n = let e = w.tds.entries t 0 n in unchanged_in e.state (is_tracked w t e.page) (may_be_exempt (w.tds.ops t))

-- a translation of a TD that names a page, and allows writing where that is asked
abbrev pub names_page : ℕ → ℕ → (must_write : Bool) → Translation → Bool
names_page t page must_write c = c.tdr == t && (c.page == page && (not must_write || c.may_write))

-- the guest on a processor reaches the page through what is cached there
abbrev pub guest_reaches : Option Guest → (page : ℕ) → (must_write : Bool) → List Translation → Bool
guest_reaches None page must_write cs = false
guest_reaches (Some g) page must_write cs = list_any (names_page g.tdr page must_write) cs

-- On a processor no translation that may be used, or that may be used to write, is of that GPA page; none names the page of
-- its entry; and its guest, of whatever TD, doesn't reach that page.
pub record IsClosed (s : State) (p t n : ℕ) (must_write : Bool) : Type 0 where
  pub gpa_page : (c : Translation) → MayUse s p c → (must_write ≡ true → c.may_write ≡ true) → c.tdr ≡ t → c.gpa_page ≡ n → ⊥
  pub page : is_free (s.world.tds.entries t 0 n).state ≡ false
      → (c : Translation) → MayUse s p c → (must_write ≡ true → c.may_write ≡ true) → c.page ≡ (s.world.tds.entries t 0 n).page → ⊥
  pub guest : is_free (s.world.tds.entries t 0 n).state ≡ false
      → guest_reaches (s.lps p).guest (s.world.tds.entries t 0 n).page must_write (s.lps p).cached ≡ false

-- a virtual processor of the TD, in guest and counted at an epoch
pub record IsCounted (w : World) (t v : ℕ) : Type 0 where
  pub page : IsPageOf w.pages t v kind.Tdvpr
  pub epoch : ℕ
  pub entered : w.vps.entered v ≡ Some epoch

-- a lawful state in which no stale translation is used, and of which a processor's guest is counted
pub record IsSound (m : Machine) (s : State) (p : ℕ) : Type 0 where
  pub lawful : Lawful m s.world
  pub access : AccessHolds s
  pub guest : (g : Guest) → (s.lps p).guest ≡ Some g → IsCounted s.world g.tdr g.vp

abbrev pub ClosedIsUnreached : Type 0
ClosedIsUnreached = (m : Machine) (s : State) (p t n : ℕ) → IsSound m s p → IsAlive s.world.pages s.world.tds t → is_unreached s.world t n ≡ true → IsClosed s p t n false

abbrev pub ClosedIsUnchanged : Type 0
ClosedIsUnchanged = (m : Machine) (s : State) (p t n : ℕ) → IsSound m s p → IsAlive s.world.pages s.world.tds t → is_unchanged s.world t n ≡ true → IsClosed s p t n true

-- what nobody reaches nobody changes
abbrev pub UnreachedIsUnchanged : Type 0
UnreachedIsUnchanged = (w : World) (t n : ℕ) → is_unreached w t n ≡ true → is_unchanged w t n ≡ true

-- both, of each processor and each GPA page of a TD that is alive
pub record AreClosed (s : State) : Type 0 where
  pub unreached : (p t n : ℕ) → IsAlive s.world.pages s.world.tds t → is_unreached s.world t n ≡ true → IsClosed s p t n false
  pub unchanged : (p t n : ℕ) → IsAlive s.world.pages s.world.tds t → is_unchanged s.world t n ≡ true → IsClosed s p t n true

abbrev pub ClosedInGuarded : Type 0
ClosedInGuarded = (o : Opening) (s : State) → IsGuarded o s → AreClosed s

-- So no access of a guest, of whatever TD, reaches the page of an entry that nobody reaches; and no store does that of one
-- that nobody changes.
pub record IsNotAccessed (o : Opening) (s : State) (t n : ℕ) : Type 0 where
  pub reached : (p u v : ℕ) (access : Access) (r gpa : ℕ) → is_unreached s.world t n ≡ true → next_event o s p ≡ Some (Reaches u v access r gpa (s.world.tds.entries t 0 n).page) → ⊥
  pub stored : (p u v r gpa : ℕ) → is_unchanged s.world t n ≡ true → next_event o s p ≡ Some (Reaches u v Write r gpa (s.world.tds.entries t 0 n).page) → ⊥

abbrev pub ClosedIsNotAccessed : Type 0
ClosedIsNotAccessed = HoldsInRuns (λ o s. (t n : ℕ) → IsAlive s.world.pages s.world.tds t → is_free (s.world.tds.entries t 0 n).state ≡ false → IsNotAccessed o s t n)

abbrev pub ClosedInRuns : Type 0
ClosedInRuns = HoldsInRuns (λ o s. AreClosed s)
