-- The loop over the pages that come in means what the row asks of them: each try comes behind those before it, and its page is
-- the one that is offered, or the one that the entry names.
use Rattle.std.proofs.Common.{◌≡◌, ◌⊎◌, ℕ, ◌/◌, ◌^◌, ◌<◌, ◌≤◌, true, false, ◌&&◌, List, [], ◌∷◌, ◌++◌, Some, None, refl, ap, sym, ◌∙◌, subst, inl, inr, lit<, arith}
use Rattle.std.specs.List.{list_any}
use Rattle.std.proofs.lemmas.Bool.{not-true}
use Rattle.td_words.specs.declared.names.EntryState.{EntryState}
use Rattle.td_words.specs.declared.names.EntryState.TheVariants as entry
use Rattle.td_words.specs.declared.names.PageKind.TheVariants as kind
use Rattle.td_words.specs.declared.names.Mode.TheVariants.{Exclusive}
use Rattle.td_words.specs.declared.machines.Machine.{Machine}
use Rattle.td_words.specs.declared.replies.Reply.{Reply}
use Rattle.td_words.specs.Packing.{Entry}
use Rattle.flat_core.specs.World.{World}
use Rattle.flat_core.specs.Processor.{LockId, OfPage, OfOp, OfTree, Held}
use Rattle.flat_core.specs.Locks.{same_lock, is_alone}
use Rattle.flat_core.specs.Row.{Item}
use Rattle.flat_core.specs.Conditions.{is_host, children, page_exclusive, host_page}
use Rattle.flat_core.specs.PageLists.{Arrival}
use Rattle.flat_core.specs.ImportRows.{filling_ops, importable, is_among, unlocked_page, page_to_fill, filled_page, page_filled, pages_to_fill}
use Rattle.flat_core.specs.Lawful.{Lawful, IsAlive, IsNodeOf, is_free}
use Rattle.flat_core.specs.Tree.{entry_at, number_at, same_state, state_in}
use Rattle.flat_core.proofs.Maps.{node_named}
use Rattle.flat_core.proofs.PageLists.{AllMayTake}
use Rattle.flat_core.proofs.Tests.{by_test}
use Rattle.word_rules.specs.Cells.{Shows}
use Rattle.lock_words.specs.Grips.{holds, holds_alone}
use Rattle.leaf_engine.specs.Trees.{Tree}
use Rattle.leaf_engine.specs.Means.{Instant, Work, Means}
use Rattle.leaf_parts.proofs.Begun.{IsTd, page_lock, page-in}
use Rattle.leaf_parts.proofs.HostPages.{taken-page-means}
use Rattle.sept_parts.specs.SeptPages.{HasEntry, HoldsTree}
use Rattle.sept_parts.proofs.SeptBegun.{find-means}
use Rattle.import_pages.specs.declared.page_imports.Filling.{Filling}
use Rattle.import_pages.specs.PageImportTrees.{taken_tree, to_fill_tree, found_rest, fills_tree}

holds-more : (h : Held) (hs : List Held) (l : LockId) → holds hs l ≡ true → holds (h ∷ hs) l ≡ true
holds-more h hs l e = by_test (same_lock h.lock l) (λ y. rw y refl) (λ n. rw (n, e) refl)

pub alone-more : (h : Held) (hs : List Held) (l : LockId) → holds_alone hs l ≡ true → holds_alone (h ∷ hs) l ≡ true
alone-more h hs l e = by_test (is_alone h.mode && same_lock h.lock l) (λ y. rw y refl) (λ n. rw (n, e) refl)

-- P of the TDR page, O, and T alone
pub record HoldsMap (hs : List Held) (t : ℕ) : Type 0 where
  pub tree : HoldsTree hs t
  pub sole : holds_alone hs (OfTree t) ≡ true

pub map-more : (h : Held) (hs : List Held) (t : ℕ) → HoldsMap hs t → HoldsMap (h ∷ hs) t
map-more h hs t s = record {
  tree = record { tdr = holds-more h hs (OfPage t) s.tree.tdr; op = holds-more h hs (OfOp t) s.tree.op; tree = holds-more h hs (OfTree t) s.tree.tree };
  sole = alone-more h hs (OfTree t) s.sole;
}

-- the locks of the pages of a list, the last one first
abbrev pub with_fills : World → (t : ℕ) → List Arrival → List Held → List Held
with_fills w t [] hs = hs
with_fills w t (a ∷ more) hs = with_fills w t more (page_lock (page_filled w t a) Exclusive ∷ hs)

-- what is told of a page, by the state of its entry, where the TD has n pages so far; and of each
abbrev pub filling_of : (n at page : ℕ) → EntryState → (named : ℕ) → Filling
filling_of n at page entry.Free named = record { at = at; page = page; children = Some n }
filling_of n at page _ named = record { at = at; page = named; children = None }

abbrev pub fillings : (n : ℕ) → World → (t : ℕ) → List Arrival → (ats : List ℕ) → List Filling
fillings n w t (a ∷ more) (at ∷ ats) =
    let e : Entry = entry_at w t 0 a.gpa in filling_of n at a.page e.state e.page ∷ fillings n w t more ats
fillings n w t _ _ = []

-- of each: its GPA is below 2^47, and the page that is offered is the machine's
abbrev pub AreOffered : Machine → List Arrival → Type 0
AreOffered m [] = Unit {0}
AreOffered m (a ∷ more) = (a.gpa < 2 ^ 47) × (a.page < m.pages) × AreOffered m more

-- the secure EPT page in which the entry of a GPA stands; and those of each
pub record IsTable (m : Machine) (w : World) (t gpa at : ℕ) : Type 0 where
  pub in_machine : at < m.pages
  pub node : IsNodeOf w.pages t at kind.Ept 1 (number_at 1 gpa)

abbrev pub AreTables : (m : Machine) (w : World) (t : ℕ) → List Arrival → (ats : List ℕ) → Type 0
AreTables m w t [] [] = Unit {0}
AreTables m w t (a ∷ more) (at ∷ ats) = IsTable m w t a.gpa at × AreTables m w t more ats
AreTables m w t _ _ = ⊥

pub table-of : (m : Machine) (w : World) (t root gpa at : ℕ) → HasEntry m w t root at gpa 0 → IsTable m w t gpa at
table-of m w t root gpa at has = record { in_machine = has.in_machine; node = by has.node }
  where
    by : ((◌≡◌ {A = ℕ} 0 3) × (at ≡ root)) ⊎ ((0 < 3) × IsNodeOf w.pages t at kind.Ept 1 (number_at 1 gpa)) → IsNodeOf w.pages t at kind.Ept 1 (number_at 1 gpa)
    by (inl e) = (let no : ◌≡◌ {A = ℕ} 0 3 = e.0 in cc)
    by (inr e) = e.1

pub entry-of : (m : Machine) (w : World) (t root gpa at : ℕ) → IsTable m w t gpa at → HasEntry m w t root at gpa 0
entry-of m w t root gpa at is = record { in_machine = is.in_machine; node = inr (lit< tt, is.node) }

-- above it the map goes on
pub table-above : (m : Machine) (w : World) (t gpa at : ℕ) → Lawful m w → IsAlive w.pages w.tds t → IsTable m w t gpa at → is_free (w.tds.entries t 1 (number_at 0 gpa / 512)).state ≡ false
table-above m w t gpa at la alive is =
    let its : IsAlive w.pages w.tds (w.pages.owners at) = subst (λ (u : ℕ). IsAlive w.pages w.tds u) (sym is.node.page.owner) alive in
    let named = la.tree.named at (rw is.node.page.kind refl) its in
    let up : number_at 0 gpa / 512 ≡ number_at 1 gpa = omega arith in
    rw up (rw (is.node.page.owner, is.node.level_is, is.node.number_is) at named.0)

module _ (m : Machine) (c : Instant) (k : Work) (t : ℕ) (in_page : t < m.pages) (limit : m.pages ≤ 1024) (la : Lawful m c.state.world) (sh : Shows m c.memory.words c.memory.slots c.state) (y : IsTd m c.state.world t filling_ops) where
  abbrev w : World
  w = c.state.world

  abbrev e_of : Arrival → Entry
  e_of a = entry_at c.state.world t 0 a.gpa

  abbrev n : ℕ
  n = children c.state.world t

  abbrev on_page : (a : Arrival) → List Held → List Held
  on_page a hs = page_lock (page_filled c.state.world t a) Exclusive ∷ hs

  -- a page that is taken
  taken-means : (a : Arrival) (at : ℕ) (locked : List ℕ) (hs : List Held) (rest : List (Item Reply)) (further : Filling → Tree) → HoldsMap (hs ++ c.kept) t → a.page < m.pages
      → (is_host w a.page ≡ true → is_among a.page locked ≡ false → Means m c k (page_lock a.page Exclusive ∷ hs) (further (record { at = at; page = a.page; children = Some n })) rest)
      → Means m c k hs (taken_tree t locked a.page at further) ((unlocked_page locked a.page ++ page_exclusive a.page ∷ host_page w a.page ∷ []) ++ rest)
  taken-means a at locked hs rest further held inside h = by locked h
    where
      Next : Type 0
      Next = Means m c k (page_lock a.page Exclusive ∷ hs) (further (record { at = at; page = a.page; children = Some n })) rest

      its : HoldsMap ((page_lock a.page Exclusive ∷ hs) ++ c.kept) t
      its = map-more (page_lock a.page Exclusive) (hs ++ c.kept) t held

      taken : (is_host w a.page ≡ true → Next) → Means m c k hs (taken_tree t [] a.page at further) (page_exclusive a.page ∷ host_page w a.page ∷ rest)
      taken g = taken-page-means m c sh k hs t a.page y.alive.kind y.own in_page inside (inr (inr (inl (its.tree.tdr, (its.tree.op, (its.sole, tt))))))
          (λ x. further (record { at = at; page = a.page; children = Some x })) rest g

      by : (locked : List ℕ) → (is_host w a.page ≡ true → is_among a.page locked ≡ false → Next)
          → Means m c k hs (taken_tree t locked a.page at further) ((unlocked_page locked a.page ++ page_exclusive a.page ∷ host_page w a.page ∷ []) ++ rest)
      by [] g = taken (λ host. g host refl)
      by (p ∷ locked) g = (refl, λ z. refl, λ other. taken (λ host. g host (not-true (is_among a.page (p ∷ locked)) other)))

  -- the page of one entry, by its state
  fill-means : (a : Arrival) (at : ℕ) (locked : List ℕ) (hs : List Held) (more : ℕ → List (Item Reply)) (further : Filling → Tree) → HoldsMap (hs ++ c.kept) t → a.page < m.pages
      → (((e_of a).state ≡ entry.Free → is_host w a.page ≡ true) → ((e_of a).state ≡ entry.Free → is_among a.page locked ≡ false)
      → Means m c k (on_page a hs) (further (filling_of n at a.page (e_of a).state (e_of a).page)) (more (page_filled w t a)))
      → (s : EntryState) → (e_of a).state ≡ s → list_any (λ b. same_state b s) importable ≡ true
      → Means m c k hs (to_fill_tree t locked a.page at s (e_of a).page further) (page_to_fill w t locked a.gpa a.page s ++ more (filled_page a.page s (e_of a).page))
  fill-means a at locked hs more further held inside h entry.Free is state =
      taken-means a at locked hs (more a.page) further held inside (λ host off.
      subst (λ (s : EntryState). Means m c k (page_lock (filled_page a.page s (e_of a).page) Exclusive ∷ hs) (further (filling_of n at a.page s (e_of a).page)) (more (filled_page a.page s (e_of a).page))) is
      (h (λ free. host) (λ free. off)))
  fill-means a at locked hs more further held inside h entry.Mapped is state =
      let p : ℕ = (e_of a).page in
      let node = node_named m w la t 0 (number_at 0 a.gpa) y.alive (ap is_free is) in
      let p_in : p < m.pages = page-in m w t p kind.Reg la node.page refl in
      let never : (e_of a).state ≡ entry.Free → ⊥ = λ free. (let no : entry.Mapped ≡ entry.Free = sym is ∙ free in cc) in (
        refl,
        refl,
        record { in_machine = p_in; at = refl; stands = tt; allowed = inl tt },
        subst (λ (s : EntryState). Means m c k (page_lock (filled_page a.page s p) Exclusive ∷ hs) (further (filling_of n at a.page s p)) (more (filled_page a.page s p))) is
            (h (λ free. absurd (never free)) (λ free. absurd (never free))),
      )
  fill-means a at locked hs more further held inside h _ is state = cc

  -- a page of which the row's tree knows, by its entry, is locked for the ones behind it
  same-page : (at page : ℕ) (s : EntryState) (named : ℕ) (P : ℕ → Type 0) → P (filled_page page s named) → P (filling_of n at page s named).page
  same-page at page entry.Free named P h = h
  same-page at page _ named P h = h

  -- all of them
  pub fills-mean : (pages : List Arrival) (locked : List ℕ) (hs : List Held) → HoldsMap (hs ++ c.kept) t → AreOffered m pages → (further : List Filling → Tree) (rest : List (Item Reply))
      → ((ats : List ℕ) → AreTables m w t pages ats → AllMayTake w t locked pages → Means m c k (with_fills w t pages hs) (further (fillings n w t pages ats)) rest)
      → Means m c k hs (fills_tree m.pages t locked pages further) (pages_to_fill w t locked pages rest)
  fills-mean [] locked hs held fit further rest h = h [] tt tt
  fills-mean (a ∷ pages) locked hs held fit further rest h =
      let e : Entry = entry_at w t 0 a.gpa in
      let p : ℕ = page_filled w t a in
      let more : ℕ → List (Item Reply) = λ q. pages_to_fill w t (q ∷ locked) pages rest in
      let next : Filling → Tree = λ f. fills_tree m.pages t (f.page ∷ locked) pages (λ fs. further (f ∷ fs)) in
      find-means m c k t in_page limit la sh y.alive y.controls hs a.gpa fit.0 held.tree 0 (λ found. found_rest t locked a.page found next)
      (state_in w t a.gpa 0 importable ∷ (page_to_fill w t locked a.gpa a.page e.state ++ more p)) (omega arith) (inl held.sole) (λ at has. (
        refl,
        λ z. refl,
        λ state. fill-means a at locked hs more next held fit.1 (λ host off.
            same-page at a.page e.state e.page (λ q. Means m c k (on_page a hs) (fills_tree m.pages t (q ∷ locked) pages (λ fs. further (filling_of n at a.page e.state e.page ∷ fs))) (more p))
            (fills-mean pages (p ∷ locked) (on_page a hs) (map-more (page_lock p Exclusive) (hs ++ c.kept) t held) fit.2 (λ fs. further (filling_of n at a.page e.state e.page ∷ fs)) rest
            (λ ats are may.
            let its : IsTable m w t a.gpa at = table-of m w t y.controls.root a.gpa at has in
            h (at ∷ ats) (its, are) (record { above = λ low. table-above m w t a.gpa at la y.alive its; state = state; host = host; off = off }, may))))
            e.state refl state,
      ))
