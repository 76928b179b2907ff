-- Why no translation that may be used goes through an entry that is closed: it isn't FREE, its guest has accepted the page, and
-- where it allows less its block isn't tracked.
use Rattle.std.proofs.Common.{◌≡◌, inl, inr, refl, sym, ◌∙◌, ap, subst, ℕ, suc, ◌<◌, List, [], ◌∷◌, Contains, Option, Some, None, Bool, true, false, not, ◌==◌, ◌&&◌, ◌||◌, arith}
use Rattle.std.specs.List.{list_any}
use Rattle.std.proofs.lemmas.Bool.{eq-eqb, eqb-true, and_parts}
use Rattle.td_words.specs.declared.names.Access.{Access}
use Rattle.td_words.specs.declared.names.Access.TheVariants.{Write}
use Rattle.td_words.specs.declared.names.EntryState.{EntryState}
use Rattle.td_words.specs.declared.names.EntryState.TheVariants as entry
use Rattle.td_words.specs.declared.names.PageKind.TheVariants as kind
use Rattle.td_words.specs.declared.machines.Machine.{Machine}
use Rattle.td_words.specs.Packing.{Entry}
use Rattle.flat_core.specs.World.{World}
use Rattle.flat_core.specs.Processor.{Translation, Guest}
use Rattle.flat_core.specs.Opening.{Opening}
use Rattle.flat_core.specs.Tracking.{is_tracked}
use Rattle.flat_core.specs.Lawful.{IsAlive, IsNodeOf, is_free}
use Rattle.flat_core.specs.Event.{State, Event, Reaches, next_event}
use Rattle.flat_core.specs.Laws.{reached}
use Rattle.flat_core.specs.Guests.{IsOccupied}
use Rattle.flat_core.specs.Access.{IsUsable, inside, outside, entry_of, allows_less, is_pending, may_be_exempt, IsCurrent}
use Rattle.flat_core.specs.AccessLaw.{IsGuarded}
use Rattle.flat_core.specs.Tree.{page_of_gpa}
use Rattle.flat_core.specs.Translations.{is_of_page, allows_access, look_up}
use Rattle.flat_core.proofs.Tests.{by_test, some_same}
use Rattle.flat_core.proofs.Due.{Due, reaches, due_event_is}
use Rattle.flat_core.proofs.Trackings.{entered_later, epoch_later}
use Rattle.flat_core.proofs.Always.{occ-of, always_guarded}
use Rattle.flat_laws.specs.Usable.{MayUse}
use Rattle.flat_laws.specs.Unreached.{unreached_in, unchanged_in, names_page, guest_reaches, IsClosed, IsSound, ClosedIsUnreached, ClosedIsUnchanged, UnreachedIsUnchanged, ClosedInGuarded, ClosedInRuns, ClosedIsNotAccessed}
use Rattle.flat_laws.proofs.Usable.{current, node}

-- what is asked of an entry's state, for a translation that may write as it says, whose guest has accepted the page
abbrev Blocks : Bool → EntryState → (over exempt : Bool) → Type 0
Blocks writes x over exempt = (allows_less writes x ≡ true) × (over ≡ true) × (x ≡ entry.ExportedBlockedW → exempt ≡ true → ⊥)

unreached-blocks : (writes : Bool) (x : EntryState) (over exempt : Bool) → unreached_in x over ≡ true → is_free x ≡ false → is_pending x ≡ false → Blocks writes x over exempt
unreached-blocks writes entry.Blocked over exempt h used accepted = (refl, h, λ e. cc)
unreached-blocks writes entry.Free over exempt h used accepted = cc
unreached-blocks writes entry.Pending over exempt h used accepted = cc
unreached-blocks writes entry.PendingBlocked over exempt h used accepted = cc
unreached-blocks writes _ over exempt h used accepted = cc

unchanged-blocks : (x : EntryState) (over exempt : Bool) → unchanged_in x over exempt ≡ true → is_free x ≡ false → is_pending x ≡ false → Blocks true x over exempt
unchanged-blocks entry.BlockedW over exempt h used accepted = (refl, h, λ e. cc)
unchanged-blocks entry.ExportedDirtyBlockedW over exempt h used accepted = (refl, h, λ e. cc)
unchanged-blocks entry.ExportedBlockedW over exempt h used accepted = let both = and_parts over (not exempt) h in (refl, both.0, λ e y. let no : false ≡ true = rw y at both.1 in cc)
unchanged-blocks entry.Blocked over exempt h used accepted = (refl, h, λ e. cc)
unchanged-blocks entry.Free over exempt h used accepted = cc
unchanged-blocks entry.Pending over exempt h used accepted = cc
unchanged-blocks entry.PendingBlocked over exempt h used accepted = cc
unchanged-blocks entry.Mapped over exempt h used accepted = cc
unchanged-blocks entry.NlMapped over exempt h used accepted = cc
unchanged-blocks entry.NlBlocked over exempt h used accepted = cc
unchanged-blocks entry.ExportedDirty over exempt h used accepted = cc

pub unreached-unchanged : UnreachedIsUnchanged
unreached-unchanged w t n h = by (w.tds.entries t 0 n).state (is_tracked w t (w.tds.entries t 0 n).page) (may_be_exempt (w.tds.ops t)) h
  where
    by : (x : EntryState) (over exempt : Bool) → unreached_in x over ≡ true → unchanged_in x over exempt ≡ true
    by entry.Free over exempt h = refl
    by entry.Pending over exempt h = refl
    by entry.PendingBlocked over exempt h = refl
    by entry.Blocked over exempt h = h
    by _ over exempt h = cc

-- one of a list that has what is asked
record Found (cs : List Translation) (test : Translation → Bool) : Type 0 where
  pub translation : Translation
  pub is_in : Contains cs translation
  pub has : test translation ≡ true

found-later : (c : Translation) (cs : List Translation) (test : Translation → Bool) → Found cs test → Found (c ∷ cs) test
found-later c cs test f = record { translation = f.translation; is_in = (suc (f.is_in.0), (let few = f.is_in.1 in omega (arith, few)), f.is_in.2); has = f.has }

find : (cs : List Translation) (test : Translation → Bool) → list_any test cs ≡ true → Found cs test
find [] test e = cc
find (c ∷ cs) test e = by_test (test c)
    (λ y. record { translation = c; is_in = (0, omega arith, refl); has = y })
    (λ n. found-later c cs test (find cs test (later (test c) (list_any test cs) n e)))
  where
    later : (a b : Bool) → a ≡ false → (a || b) ≡ true → b ≡ true
    later false b n e = e
    later true b n e = cc

module _ (m : Machine) (s : State) (p t n : ℕ) (sound : IsSound m s p) (living : IsAlive s.world.pages s.world.tds t) where
  abbrev w : World
  w = s.world

  abbrev its : Entry
  its = w.tds.entries t 0 n

  -- whoever may use what is cached of the TD entered, or enters, later than a block that is tracked
  late : (e : ℕ) → is_tracked w t its.page ≡ true → IsUsable w p (s.lps p).guest t e → w.pages.blocked its.page < e
  late e over (inside g is td entered) =
      let counted = sound.guest g is in
      let of-td : w.pages.owners g.vp ≡ t = counted.page.owner ∙ td in
      let listed : list_any (λ q. q == g.vp) (w.tds.vps (w.pages.owners g.vp)) ≡ true = sound.lawful.lists.vp g.vp counted.page.kind (subst (λ (z : ℕ). IsAlive w.pages w.tds z) (sym of-td) living) in
      entered_later (w.pages.blocked its.page) (w.tds.epochs t) w.vps.entered g.vp e (w.tds.vps t) over (subst (λ (z : ℕ). list_any (λ q. q == g.vp) (w.tds.vps z) ≡ true) of-td listed) entered
  late e over (outside v other here last at) = subst (λ (z : ℕ). w.pages.blocked its.page < z) (sym at) (epoch_later (w.pages.blocked its.page) (w.tds.epochs t) _ over)

  module _ (must_write : Bool)
      (blocks : (writes : Bool) → (must_write ≡ true → writes ≡ true) → is_free its.state ≡ false → is_pending its.state ≡ false → Blocks writes its.state (is_tracked w t its.page) (may_be_exempt (w.tds.ops t))) where
    at-entry : (c : Translation) (u : MayUse s p c) → (must_write ≡ true → c.may_write ≡ true) → c.tdr ≡ t → entry_of w c ≡ its → ⊥
    at-entry c u writes td at =
        let now : IsCurrent w c u.epoch = current m s sound.lawful sound.access p c u in
        let b = blocks c.may_write writes (ap (λ (x : Entry). is_free x.state) (sym at) ∙ now.named.used) (ap (λ (x : Entry). is_pending x.state) (sym at) ∙ now.accepted) in
        let page : its.page ≡ c.page = ap (λ (x : Entry). x.page) (sym at) ∙ now.named.page_is in
        let after : w.pages.blocked its.page < u.epoch = late u.epoch b.1 (subst (λ (z : ℕ). IsUsable w p (s.lps p).guest z u.epoch) td u.usable) in
        elim (now.rights (ap (λ (x : Entry). allows_less c.may_write x.state) at ∙ b.0)) [
          | inl low ↦ (let same : w.pages.blocked its.page ≡ w.pages.blocked c.page = ap w.pages.blocked page in omega (arith, after, low, same))
          | inr spared ↦ b.2 (ap (λ (x : Entry). x.state) (sym at) ∙ spared.0) (ap (λ (z : ℕ). may_be_exempt (w.tds.ops z)) (sym td) ∙ spared.1)
        ]

    at-place : (c : Translation) → c.tdr ≡ t → c.gpa_page ≡ n → entry_of w c ≡ its
    at-place c td number = ap (λ (z : ℕ). w.tds.entries z 0 c.gpa_page) td ∙ ap (λ (z : ℕ). w.tds.entries t 0 z) number

    -- one that names the page is of that GPA page
    by-page : is_free its.state ≡ false → (c : Translation) → MayUse s p c → (must_write ≡ true → c.may_write ≡ true) → c.page ≡ its.page → ⊥
    by-page used c u writes is =
        let here : IsNodeOf w.pages t its.page kind.Reg 0 n = (sound.lawful.tree.lowest t n living used).1 in
        let other : IsNodeOf w.pages c.tdr (entry_of w c).page kind.Reg 0 c.gpa_page = node m s sound.lawful sound.access p c u in
        let same : (entry_of w c).page ≡ its.page = (current m s sound.lawful sound.access p c u).named.page_is ∙ is in
        let td : c.tdr ≡ t = sym other.page.owner ∙ (ap w.pages.owners same ∙ here.page.owner) in
        let number : c.gpa_page ≡ n = sym other.number_is ∙ (ap w.pages.numbers same ∙ here.number_is) in
        at-entry c u writes td (at-place c td number)

    allowed : (writes : Bool) → (not must_write || writes) ≡ true → must_write ≡ true → writes ≡ true
    allowed writes h must = rw must at h

    by-guest : is_free its.state ≡ false → (x : Option Guest) → (s.lps p).guest ≡ x → guest_reaches x its.page must_write (s.lps p).cached ≡ false
    by-guest used None is = refl
    by-guest used (Some g) is = by_test (list_any (names_page g.tdr its.page must_write) (s.lps p).cached)
        (λ y. absurd (let f = find (s.lps p).cached (names_page g.tdr its.page must_write) y in
        let first = and_parts (f.translation.tdr == g.tdr) ((f.translation.page == its.page) && (not must_write || f.translation.may_write)) f.has in
        let second = and_parts (f.translation.page == its.page) (not must_write || f.translation.may_write) first.1 in
        let counted = sound.guest g is in
        let u : MayUse s p f.translation = record { cached = f.is_in; epoch = counted.epoch; usable = inside g is (sym (eqb-true f.translation.tdr g.tdr first.0)) counted.entered } in
        by-page used f.translation u (allowed f.translation.may_write second.1) (eqb-true f.translation.page its.page second.0)))
        (λ y. y)

    closed : IsClosed s p t n must_write
    closed = record {
      gpa_page = λ c u writes td number. at-entry c u writes td (at-place c td number);
      page = by-page;
      guest = λ used. by-guest used (s.lps p).guest refl;
    }

pub closed-is-unreached : ClosedIsUnreached
closed-is-unreached m s p t n sound living h = closed m s p t n sound living false (λ writes may. unreached-blocks writes _ _ _ h)

pub closed-is-unchanged : ClosedIsUnchanged
closed-is-unchanged m s p t n sound living h = closed m s p t n sound living true
    (λ writes may used accepted. subst (λ (b : Bool). Blocks b (s.world.tds.entries t 0 n).state (is_tracked s.world t (s.world.tds.entries t 0 n).page) (may_be_exempt (s.world.tds.ops t))) (sym (may refl)) (unchanged-blocks _ _ _ h used accepted))

-- a guarded state
pub is-sound : (o : Opening) (s : State) → IsGuarded o s → (p : ℕ) → IsSound o.machine s p
is-sound o s all p = record {
  lawful = all.timely.lawful;
  access = all.access;
  guest = λ g is. (let x : IsOccupied s.world p g.tdr g.vp = occ-of o s all.timely p g is in record { page = record { kind = x.page.kind; owner = x.page.owner }; epoch = x.epoch; entered = x.entered });
}

pub closed-in-guarded : ClosedInGuarded
closed-in-guarded o s all = record {
  unreached = λ p t n. closed-is-unreached o.machine s p t n (is-sound o s all p);
  unchanged = λ p t n. closed-is-unchanged o.machine s p t n (is-sound o s all p);
}

pub closed-in-runs : ClosedInRuns
closed-in-runs o ws schedule = closed-in-guarded o (reached o ws schedule) (always_guarded o ws schedule)

-- an access goes through a translation that names the page

abbrev allows-as : Bool → Access → Type 0
allows-as must access = (c : Translation) → allows_access access c ≡ true → (not must || c.may_write) ≡ true

found-names : (cs : List Translation) (t n : ℕ) (access : Access) (page : ℕ) (must : Bool) → allows-as must access → look_up cs t n access ≡ Some page → list_any (names_page t page must) cs ≡ true
found-names [] t n access page must allows e = cc
found-names (c ∷ cs) t n access page must allows e = by_test (is_of_page t n c && allows_access access c)
    (λ y. let a = and_parts (is_of_page t n c) (allows_access access c) y in
    let td = (and_parts (c.tdr == t) (c.gpa_page == n) a.0).0 in
    let at : Some c.page ≡ Some page = rw y at e in
    let is : (c.page == page) ≡ true = eq-eqb c.page page (some_same c.page page at) in
    let may = allows c a.1 in
    first (names_page t page must c) _ (rw (td, is, may) refl))
    (λ k. later (names_page t page must c) _ (found-names cs t n access page must allows (rw k at e)))
  where
    first : (a b : Bool) → a ≡ true → (a || b) ≡ true
    first true b h = refl
    first false b h = cc

    later : (a b : Bool) → b ≡ true → (a || b) ≡ true
    later true b h = refl
    later false b h = h

module _ (o : Opening) (s : State) (p page : ℕ) (must : Bool) (shut : guest_reaches (s.lps p).guest page must (s.lps p).cached ≡ false) where
  due-apart : (e : Event) → Due o s.world p (s.lps p) e → (u v : ℕ) (access : Access) (r gpa : ℕ) → allows-as must access → e ≡ Reaches u v access r gpa page → ⊥
  due-apart e (reaches c cs g op access r gpa found-page x way is found) u v a b d allows same =
      let to : found-page ≡ page = cc in
      let by : access ≡ a = cc in
      let hit : list_any (names_page g.tdr page must) (s.lps p).cached ≡ true = found-names (s.lps p).cached g.tdr (page_of_gpa gpa) access page must (subst (λ (z : Access). allows-as must z) (sym by) allows) (found ∙ ap (λ (z : ℕ). Some z) to) in
      let closed : guest_reaches (Some g) page must (s.lps p).cached ≡ false = subst (λ (z : Option Guest). guest_reaches z page must (s.lps p).cached ≡ false) x.guest shut in
      let no : true ≡ false = sym hit ∙ closed in cc
  due-apart e _ u v a b d allows same = cc

  not-accessed : (u v : ℕ) (access : Access) (r gpa : ℕ) → allows-as must access → next_event o s p ≡ Some (Reaches u v access r gpa page) → ⊥
  not-accessed u v access r gpa allows is = due-apart (Reaches u v access r gpa page) (due_event_is o s p (Reaches u v access r gpa page) is) u v access r gpa allows refl

pub closed-is-not-accessed : ClosedIsNotAccessed
closed-is-not-accessed o ws schedule t n living used =
    let s : State = reached o ws schedule in
    let all = closed-in-guarded o s (always_guarded o ws schedule) in
    record {
      reached = λ p u v access r gpa h is. not-accessed o s p (s.world.tds.entries t 0 n).page false ((all.unreached p t n living h).guest used) u v access r gpa (λ c a. refl) is;
      stored = λ p u v r gpa h is. not-accessed o s p (s.world.tds.entries t 0 n).page true ((all.unchanged p t n living h).guest used) u v Write r gpa (λ c a. a) is;
    }
