-- The shapes of acts: each is a relation of the world before a call's act and the world after it. `ShapeOf` names the shape of
-- each call, and the laws of acts are shown of shapes, once for all calls. `rest` says that all else is as it was, of what these
-- laws look at; or `is` says what the world is afterwards.
use Rattle.std.proofs.Common.{◌≡◌, ◌≢◌, ◌⊎◌, refl, sym, ◌∙◌, subst, ap, ℕ, suc, ◌+◌, ◌/◌, List, Option, Some, None, Bool, true, false, not, ◌==◌}
use Rattle.std.proofs.lemmas.Bool.{eqb-true}
use Rattle.std.specs.List.{list_any}
use Rattle.td_words.specs.declared.names.PageKind.{PageKind}
use Rattle.td_words.specs.declared.names.PageKind.TheVariants as kind
use Rattle.td_words.specs.declared.names.LifeState.{LifeState}
use Rattle.td_words.specs.declared.names.LifeState.TheVariants as life
use Rattle.td_words.specs.declared.names.OpState.{OpState}
use Rattle.td_words.specs.declared.names.OpState.TheVariants as op
use Rattle.td_words.specs.declared.names.EntryState.{EntryState}
use Rattle.td_words.specs.declared.names.EntryState.TheVariants as entry
use Rattle.td_words.specs.declared.machines.Machine.{Machine}
use Rattle.td_words.specs.declared.replies.Value.TheVariants.{Digest}
use Rattle.td_words.specs.declared.calls.Call.{Call}
use Rattle.td_words.specs.declared.calls.Call.TheVariants as call
use Rattle.td_words.specs.NameNumber.{life_number, op_number}
use Rattle.td_words.specs.Packing.{Entry, AssignedTo}
use Rattle.flat_core.specs.World.{World, Pages, Vps, put}
use Rattle.flat_core.specs.Conditions.{is_host_in, is_elsewhere, associated_count, running_ops, later_ops}
use Rattle.flat_core.specs.Effects.{put_in, take_node, take_page, clear_page, give_back, unmap_page, set_entry, set_epoch, set_key, new_td, enter_guest, end_association, end_memory_in}
use Rattle.flat_core.specs.Tracking.{is_tracked, previous_count}
use Rattle.flat_core.specs.Tree.{same_state}
use Rattle.flat_core.specs.Sessions.{unrestored_count}
use Rattle.flat_core.specs.Digests.{digest_bytes, six_words}
use Rattle.flat_core.specs.Lawful.{Lawful, IsAlive, is_free}
use Rattle.flat_core.specs.Guests.{IsOccupied, SameVp}
use Rattle.flat_core.specs.Access.{allows_less, is_pending, may_be_exempt, has_not_run}
use Rattle.flat_core.specs.Laws.{gives_back, given_or_measured, holds_memory, memory_of, ArePagesKnown}
use Rattle.flat_core.proofs.Tests.{by_test}
use Rattle.flat_core.proofs.Ranges.{IsRemoved}
use Rattle.flat_core.proofs.Removals.{unmapped_kept}
use Rattle.flat_core.proofs.Parts.{IsLive, untouched}

-- MRTD of a TD, and what it is to be the digest of
pub record Measurement : Type 0 where
  pub digest : ℕ → ℕ
  pub given : Option (ℕ → ℕ)
  pub measured : List ℕ

abbrev pub mrtd_of : World → ℕ → Measurement
mrtd_of w t = record { digest = w.tds.mrtds t; given = w.tds.mrtds_given t; measured = w.tds.measured t }

-- what MNG.RD gives is that digest
abbrev pub IsTrue : Measurement → Type 0
IsTrue m = Digest (digest_bytes (six_words m.digest)) ≡ Digest (given_or_measured m.given m.measured)

-- what laws of acts look at
pub record Aspect : Type 0 where
  pub pages : Pages
  pub words : ℕ → ℕ → ℕ
  pub lives : ℕ → LifeState
  pub ops : ℕ → OpState
  pub epochs : ℕ → ℕ
  pub entries : ℕ → ℕ → ℕ → Entry
  pub mrtds : ℕ → Measurement
  pub vps : Vps
  pub registers : ℕ → ℕ → ℕ
  pub memories : ℕ → ℕ → Option (ℕ → ℕ)

abbrev pub aspect_of : World → Aspect
aspect_of w = record {
  pages = w.pages;
  words = w.words;
  lives = w.tds.lives;
  ops = w.tds.ops;
  epochs = w.tds.epochs;
  entries = w.tds.entries;
  mrtds = mrtd_of w;
  vps = w.vps;
  registers = w.hidden.registers;
  memories = w.hidden.memories;
}

abbrev pub IsOneOf : List OpState → OpState → Type 0
IsOneOf ops s = list_any (λ a. op_number a == op_number s) ops ≡ true

-- nothing but words of the host's pages, and what is measured of a TD that is still built
pub record Notes (w w' : World) : Type 0 where
  pub rest : aspect_of w' ≡ record (aspect_of w) { words = w'.words; mrtds = mrtd_of w' }
  pub words : (p : ℕ) → is_host_in w.pages p ≡ false → w'.words p ≡ w.words p
  pub mrtds : (t : ℕ) → IsOneOf later_ops (w.tds.ops t) → mrtd_of w' t ≡ mrtd_of w t

-- a private page gets other words, which its guest may know
pub record Fills (w w' : World) : Type 0 where
  pub tdr : ℕ
  pub number : ℕ
  pub words : ℕ → ℕ
  pub alive : IsAlive w.pages w.tds tdr
  pub mapped : (w.tds.entries tdr 0 number).state ≡ entry.Mapped
  pub rest : aspect_of w' ≡ record (aspect_of w) { words = put w.words (w.tds.entries tdr 0 number).page words; memories = put_in w.hidden.memories tdr number (Some words) }

-- what a guest knows of a page, where a page is taken: what it holds now; or what it knew, where the entry stays, or was FREE
-- and its page waits to be accepted
abbrev pub IsHeld : World → World → ℕ → ℕ → Type 0
IsHeld w w' t n = (w'.hidden.memories t n ≡ memory_of (w'.tds.entries t 0 n) w'.words)
    ⊎ ((w'.hidden.memories t n ≡ w.hidden.memories t n)
    × ((w'.tds.entries t 0 n ≡ w.tds.entries t 0 n) ⊎ ((is_free (w.tds.entries t 0 n).state ≡ true) × (holds_memory (w'.tds.entries t 0 n).state ≡ false))))

-- a page of the host becomes one of a TD, and no TDR page; entries that aren't FREE stay, and so do other virtual processors,
-- and one that the page begins has not entered
pub record Takes (w w' : World) : Type 0 where
  pub page : ℕ
  pub becomes : PageKind
  pub tdr : ℕ
  pub level : ℕ
  pub number : ℕ
  pub host : is_host_in w.pages page ≡ true
  pub no_tdr : becomes ≢ kind.Tdr
  pub rest : aspect_of w' ≡ record (aspect_of w) {
    pages = (take_node page becomes tdr level number w).pages;
    words = w'.words;
    entries = w'.tds.entries;
    mrtds = mrtd_of w';
    vps = w'.vps;
    registers = w'.hidden.registers;
    memories = w'.hidden.memories;
  }
  pub words : (p : ℕ) → (p == page) ≡ false → w'.words p ≡ w.words p
  pub entries : (t l n : ℕ) → is_free (w.tds.entries t l n).state ≡ false → w'.tds.entries t l n ≡ w.tds.entries t l n
  pub mrtds : (t : ℕ) → IsOneOf later_ops (w.tds.ops t) → mrtd_of w' t ≡ mrtd_of w t
  pub vps : (v : ℕ) → (v == page) ≡ false → SameVp w w' v
  pub begun : becomes ≡ kind.Tdvpr → (w'.vps.lasts page ≡ 0) × (w'.vps.entered page ≡ None) × (w'.vps.associated page ≡ None)

-- the calls that change what is said of a TD's TDR page: its life goes on, or a page of it is reclaimed, the TDR page last
abbrev pub changes_root : Call → Bool
changes_root (call.PhymemPageReclaim t page) = true
changes_root (call.MngKeyConfig t) = true
changes_root (call.MngVpflushdone t) = true
changes_root (call.MngKeyFreeid t) = true
changes_root _ = false

-- a page of a TD in TD_TEARDOWN is given back
pub record Reclaims (c : Call) (w w' : World) : Type 0 where
  pub call : changes_root c ≡ true
  pub tdr : ℕ
  pub page : ℕ
  pub root : w.pages.kinds tdr ≡ kind.Tdr
  pub dead : (life_number (w.tds.lives tdr) == life_number life.Teardown) ≡ true
  pub own : (page == tdr) ≡ false → w.pages.owners page ≡ tdr
  pub is : w' ≡ give_back page (end_memory_in tdr page w)
  pub given : (p : ℕ) → gives_back c w p ≡ (p == page)

-- the page that an entry names is given back, tracked, and the entry is FREE
pub record Unmaps (c : Call) (w w' : World) : Type 0 where
  pub tdr : ℕ
  pub level : ℕ
  pub number : ℕ
  pub memories : ℕ → ℕ → Option (ℕ → ℕ)
  pub alive : IsAlive w.pages w.tds tdr
  pub removed : IsRemoved (w.tds.entries tdr level number).state
  pub empty : (j n : ℕ) → suc j ≡ level → n / 512 ≡ number → is_free (w.tds.entries tdr j n).state ≡ true
  pub tracked : is_tracked w tdr (w.tds.entries tdr level number).page ≡ true
  pub ended : 0 ≡ level → memories tdr number ≡ None
  pub others : (t n : ℕ) → (t ≡ tdr → 0 ≡ level → n ≡ number → ⊥) → memories t n ≡ w.hidden.memories t n
  pub is : w' ≡ unmap_page tdr level number (record w { hidden = record (w.hidden) { memories = memories } })
  pub given : (p : ℕ) → gives_back c w p ≡ (p == (w.tds.entries tdr level number).page)

-- a TD begins
pub record Begins (c : Call) (w w' : World) : Type 0 where
  pub tdr : ℕ
  pub hkid : ℕ
  pub call : c ≡ call.MngCreate tdr hkid
  pub host : is_host_in w.pages tdr ≡ true
  pub is : w' ≡ set_key hkid (AssignedTo tdr) (new_td tdr hkid (clear_page tdr (take_page tdr kind.Tdr tdr w)))

-- a TD's life goes on: none of its virtual processors is associated, and it wasn't in TD_TEARDOWN
pub record ChangesLife (c : Call) (w w' : World) : Type 0 where
  pub call : changes_root c ≡ true
  pub tdr : ℕ
  pub then_in : LifeState
  pub live : (life_number (w.tds.lives tdr) == life_number life.Teardown) ≡ false
  pub idle : w.tds.lives tdr ≡ life.KeysConfigured → (associated_count w tdr == 0) ≡ true
  pub rest : aspect_of w' ≡ record (aspect_of w) { lives = put w.tds.lives tdr then_in }

-- from and into which operation states a TD goes: before a guest of it has run here; into one in which what is exempt is so
-- still; or, where none of its entries is exported, into another one in which it may have run
pub data OpGoes (w : World) (t : ℕ) (s : OpState) : Type 0 where
  unrun : has_not_run (w.tds.ops t) ≡ true → OpGoes w t s
  runs : has_not_run s ≡ false → may_be_exempt s ≡ true → OpGoes w t s
  restored : has_not_run s ≡ false → IsAlive w.pages w.tds t → (unrestored_count w t == 0) ≡ true → OpGoes w t s

-- TD_EPOCH is as it was, or begins with the measurement
pub data EpochGoes (w w' : World) (t : ℕ) : Type 0 where
  stay : w'.tds.epochs ≡ w.tds.epochs → EpochGoes w w' t
  begin : w.pages.kinds t ≡ kind.Tdr → w.tds.ops t ≡ op.Uninitialized → w'.tds.epochs ≡ put w.tds.epochs t 1 → EpochGoes w w' t

-- a TD goes into another operation state. One that runs then runs on, but for a pause; and where it is built then, it was
-- before, or MRTD is what it is to be
pub record ChangesOp (c : Call) (w w' : World) : Type 0 where
  pub tdr : ℕ
  pub then_in : OpState
  pub goes : OpGoes w tdr then_in
  pub later : then_in ≢ op.Uninitialized
  pub running : (c ≡ call.ExportPause tdr) ⊎ (IsOneOf running_ops (w.tds.ops tdr) → IsOneOf running_ops then_in)
  pub rest : aspect_of w' ≡ record (aspect_of w) { ops = put w.tds.ops tdr then_in; epochs = w'.tds.epochs; mrtds = mrtd_of w' }
  pub epochs : EpochGoes w w' tdr
  pub mrtds : (t : ℕ) → (t == tdr) ≡ false → mrtd_of w' t ≡ mrtd_of w t
  pub mrtd : IsOneOf later_ops then_in → (IsOneOf later_ops (w.tds.ops tdr) × (mrtd_of w' tdr ≡ mrtd_of w tdr)) ⊎ IsTrue (mrtd_of w' tdr)

-- a virtual processor that is in no guest changes, but not where and when it last entered
pub record ChangesVp (w w' : World) : Type 0 where
  pub vp : ℕ
  pub idle : (p t : ℕ) → IsOccupied w p t vp → ⊥
  pub rest : aspect_of w' ≡ record (aspect_of w) { vps = record (w.vps) { states = w'.vps.states; positions = w'.vps.positions; exported = w'.vps.exported }; registers = w'.hidden.registers }
  pub others : (v : ℕ) → (v == vp) ≡ false
      → (w'.vps.states v ≡ w.vps.states v) × (w'.vps.positions v ≡ w.vps.positions v) × (w'.vps.exported v ≡ w.vps.exported v) × ((r : ℕ) → w'.hidden.registers v r ≡ w.hidden.registers v r)

-- a virtual processor enters the guest on the processor that calls
pub record Enters (me : ℕ) (c : Call) (w w' : World) : Type 0 where
  pub tdr : ℕ
  pub vp : ℕ
  pub most : ℕ
  pub call : c ≡ call.VpEnter tdr vp most
  pub owner : w.pages.owners vp ≡ tdr
  pub life : w.tds.lives tdr ≡ life.KeysConfigured
  pub running : has_not_run (w.tds.ops tdr) ≡ false
  pub here : not (is_elsewhere me (w.vps.associated vp)) ≡ true
  pub is : w' ≡ enter_guest me vp (w.tds.epochs tdr) w

-- its association with that processor ends
pub record Flushes (me : ℕ) (c : Call) (w w' : World) : Type 0 where
  pub tdr : ℕ
  pub vp : ℕ
  pub call : c ≡ call.VpFlush tdr vp
  pub here : not (is_elsewhere me (w.vps.associated vp)) ≡ true
  pub is : w' ≡ end_association vp w

-- BEPOCH where an entry's state changes: TD_EPOCH is noted; or it stays, where the new state allows no less than the old one,
-- or the page is exempt
pub data BlockGoes (w : World) (t : ℕ) (e : Entry) (s : EntryState) (blocked : ℕ → ℕ) : Type 0 where
  noted : IsAlive w.pages w.tds t → blocked ≡ put w.pages.blocked e.page (w.tds.epochs t) → BlockGoes w t e s blocked
  open_on : blocked ≡ w.pages.blocked → same_state e.state entry.NlMapped ≡ false
      → ((writes : Bool) → allows_less writes s ≡ true → ((allows_less writes e.state ≡ true) × (e.state ≢ entry.ExportedBlockedW)) ⊎ ((s ≡ entry.ExportedBlockedW) × (may_be_exempt (w.tds.ops t) ≡ true)))
      → BlockGoes w t e s blocked

-- an entry gets another state and mark for the page that it names
pub record ChangesEntry (w w' : World) : Type 0 where
  pub tdr : ℕ
  pub level : ℕ
  pub number : ℕ
  pub then_in : EntryState
  pub mark : ℕ
  pub blocked : ℕ → ℕ
  pub used : is_free (w.tds.entries tdr level number).state ≡ false
  pub still_used : is_free then_in ≡ false
  pub same_pending : is_pending then_in ≡ is_pending (w.tds.entries tdr level number).state
  pub same_memory : holds_memory then_in ≡ holds_memory (w.tds.entries tdr level number).state
  pub block : BlockGoes w tdr (w.tds.entries tdr level number) then_in blocked
  pub rest : aspect_of w' ≡ record (aspect_of w) {
    pages = record (w.pages) { blocked = blocked };
    entries = (set_entry tdr level number (record { state = then_in; page = (w.tds.entries tdr level number).page; mark = mark }) w).tds.entries;
  }

-- TD_EPOCH rises, once nobody is in guest who entered at the one before it
pub record Advances (w w' : World) : Type 0 where
  pub tdr : ℕ
  pub life : w.tds.lives tdr ≡ life.KeysConfigured
  pub begun : w.tds.ops tdr ≢ op.Uninitialized
  pub left : (previous_count w tdr == 0) ≡ true
  pub is : w' ≡ set_epoch tdr (w.tds.epochs tdr + 1) w

-- the shape of an act, of a call that a processor makes
pub data Shape (me : ℕ) (c : Call) (w w' : World) : Type 0 where
  notes : Notes w w' → Shape me c w w'
  fills : Fills w w' → Shape me c w w'
  takes : Takes w w' → ((t n : ℕ) → IsHeld w w' t n) → Shape me c w w'
  reclaims : Reclaims c w w' → Shape me c w w'
  unmaps : Unmaps c w w' → Shape me c w w'
  begins : Begins c w w' → Shape me c w w'
  changes_life : ChangesLife c w w' → Shape me c w w'
  changes_op : ChangesOp c w w' → Shape me c w w'
  changes_vp : ChangesVp w w' → Shape me c w w'
  enters : Enters me c w w' → Shape me c w w'
  flushes : Flushes me c w w' → Shape me c w w'
  changes_entry : ChangesEntry w w' → Shape me c w w'
  advances : Advances w w' → Shape me c w w'

-- of these the act for a list of pages is made, page by page; a lawful first world makes each between lawful
abbrev pub IsOfPages : {me : ℕ} {c : Call} {w w' : World} → Shape me c w w' → Type 0
IsOfPages (notes x) = Unit {0}
IsOfPages (fills x) = Unit {0}
IsOfPages (takes x held) = Unit {0}
IsOfPages (changes_entry x) = Unit {0}
IsOfPages _ = ⊥

pub data ListShape (m : Machine) (first : World) (me : ℕ) (c : Call) (w' : World) : World → Type 0 where
  ended : ListShape m first me c w' w'
  page_then : {w : World} (v : World) (x : Shape me c w v) → IsOfPages x → (Lawful m first → Lawful m v) → ListShape m first me c w' v
      → ListShape m first me c w' w

-- An act has one of these shapes; or the page that an entry names leaves, and a page of the host is taken behind that; or it is
-- made page by page, and gives no page back. What the parts keep, it keeps.
pub data ActShape (m : Machine) (me : ℕ) (c : Call) (w w' : World) : Type 0 where
  one : Shape me c w w' → ActShape m me c w w'
  moves : (v : World) → Unmaps c w v → Takes v w' → (ArePagesKnown w → (t n : ℕ) → IsHeld v w' t n) → ActShape m me c w w'
  page_by_page : ((v : World) (p : ℕ) → gives_back c v p ≡ false) → ListShape m w me c w' w → ActShape m me c w w'

-- what the act for each page keeps, that for all keeps
pub by_shapes : {m : Machine} {me : ℕ} {c : Call} (first w' w : World) (P : World → Type 0)
    → ((v u : World) → (Lawful m first → Lawful m v) → (x : Shape me c v u) → IsOfPages x → P v → P u)
    → (Lawful m first → Lawful m w) → ListShape m first me c w' w → P w → P w'
by_shapes first w' w P step l ended h = h
by_shapes first w' w P step l (page_then v x of kept more) h = by_shapes first w' v P step kept more (step w v l x of h)

-- a page that leaves the map leaves a lawful world
pub unmaps_kept : (m : Machine) (c : Call) (w v : World) → Lawful m w → Unmaps c w v → Lawful m v
unmaps_kept m c w v l x =
    let kept = unmapped_kept m w x.tdr x.level x.number l x.alive x.removed.used x.removed.unmarked x.empty in
    subst (λ (z : World). Lawful m z) (sym x.is) (untouched m (unmap_page x.tdr x.level x.number w) _ refl kept)

-- a page of a TD in TD_TEARDOWN that is given back is its own, also where it is its TDR page
pub owner_reclaimed : (m : Machine) (c : Call) (w w' : World) → Lawful m w → (x : Reclaims c w w') → w.pages.owners x.page ≡ x.tdr
owner_reclaimed m c w w' l x = by_test (x.page == x.tdr)
    (λ y. let here = eqb-true x.page x.tdr y in l.pages.tdr x.page (subst (λ (z : ℕ). w.pages.kinds z ≡ kind.Tdr) (sym here) x.root) ∙ here)
    x.own

-- a virtual processor stays where all do
pub same_vp : (w w' : World) (v : ℕ) → w'.vps ≡ w.vps → w'.hidden.registers ≡ w.hidden.registers → SameVp w w' v
same_vp w w' v e k = record {
  registers = λ r. ap (λ (z : ℕ → ℕ → ℕ). z v r) k;
  index = ap (λ (z : Vps). z.indexes v) e;
  state = ap (λ (z : Vps). z.states v) e;
  associated = ap (λ (z : Vps). z.associated v) e;
  last = ap (λ (z : Vps). z.lasts v) e;
  position = ap (λ (z : Vps). z.positions v) e;
  exported = ap (λ (z : Vps). z.exported v) e;
  entered = ap (λ (z : Vps). z.entered v) e;
}

-- who is alive afterwards was so before, where no TD begins
module _ (me : ℕ) (c : Call) (w w' : World) (never : (t h : ℕ) → c ≢ call.MngCreate t h) where
  by_aspect : (a : Aspect) → aspect_of w' ≡ a → ((x : ℕ) → a.pages.kinds x ≡ kind.Tdr → w.pages.kinds x ≡ kind.Tdr) → ((x : ℕ) → IsLive (a.lives x) → IsLive (w.tds.lives x)) → (x : ℕ) → IsAlive w'.pages w'.tds x → IsAlive w.pages w.tds x
  by_aspect a e was lived x i = record { kind = was x (ap (λ (z : Aspect). z.pages.kinds x) (sym e) ∙ i.kind); life = lived x (subst (λ (z : Aspect). IsLive (z.lives x)) e i.life) }

  by_world : (v : World) → w' ≡ v → ((x : ℕ) → v.pages.kinds x ≡ kind.Tdr → w.pages.kinds x ≡ kind.Tdr) → v.tds.lives ≡ w.tds.lives → (x : ℕ) → IsAlive w'.pages w'.tds x → IsAlive w.pages w.tds x
  by_world v e was same = by_aspect (aspect_of v) (ap aspect_of e) was (λ x h. subst (λ (f : ℕ → LifeState). IsLive (f x)) same h)

  not_taken : (q x : ℕ) (k : PageKind) → k ≢ kind.Tdr → put w.pages.kinds q k x ≡ kind.Tdr → w.pages.kinds x ≡ kind.Tdr
  not_taken q x k other e = by_test (x == q) (λ y. absurd (other (rw y at e))) (λ y. rw y at e)

  takes_alive : Takes w w' → (x : ℕ) → IsAlive w'.pages w'.tds x → IsAlive w.pages w.tds x
  takes_alive y = by_aspect _ y.rest (λ x k. not_taken y.page x y.becomes y.no_tdr k) (λ x h. h)

  pub shape_alive : Shape me c w w' → (x : ℕ) → IsAlive w'.pages w'.tds x → IsAlive w.pages w.tds x
  shape_alive (notes y) = by_aspect _ y.rest (λ x k. k) (λ x h. h)
  shape_alive (fills y) = by_aspect _ y.rest (λ x k. k) (λ x h. h)
  shape_alive (takes y held) = takes_alive y
  shape_alive (reclaims y) = by_world _ y.is (λ x k. not_taken y.page x kind.Nda (λ e. cc) k) refl
  shape_alive (unmaps y) = by_world _ y.is (λ x k. not_taken (w.tds.entries y.tdr y.level y.number).page x kind.Nda (λ e. cc) k) refl
  shape_alive (begins y) = absurd (never y.tdr y.hkid y.call)
  shape_alive (changes_life y) = by_aspect _ y.rest (λ x k. k) (λ x h. by_test (x == y.tdr) (λ z. subst (λ (u : ℕ). IsLive (w.tds.lives u)) (sym (eqb-true x y.tdr z)) y.live) (λ z. rw z at h))
  shape_alive (changes_op y) = by_aspect _ y.rest (λ x k. k) (λ x h. h)
  shape_alive (changes_vp y) = by_aspect _ y.rest (λ x k. k) (λ x h. h)
  shape_alive (enters y) = by_world _ y.is (λ x k. k) refl
  shape_alive (flushes y) = by_world _ y.is (λ x k. k) refl
  shape_alive (changes_entry y) = by_aspect _ y.rest (λ x k. k) (λ x h. h)
  shape_alive (advances y) = by_world _ y.is (λ x k. k) refl

pub act_alive : {m : Machine} (me : ℕ) (c : Call) (w w' : World) → ((t h : ℕ) → c ≢ call.MngCreate t h) → ActShape m me c w w' → (x : ℕ)
    → IsAlive w'.pages w'.tds x → IsAlive w.pages w.tds x
act_alive me c w w' never (one y) x a = shape_alive me c w w' never y x a
act_alive me c w w' never (moves v y z held) x a = shape_alive me c w v never (unmaps y) x (takes_alive me c v w' never z x a)
act_alive me c w w' never (page_by_page none y) x a =
    by_shapes w w' w (λ v. IsAlive v.pages v.tds x → IsAlive w.pages w.tds x) (λ v u l y of h b. h (shape_alive me c v u never y x b)) (λ l. l) y (λ b. b) a
