-- The beginning of the calls that share a TD's map means what their rows say, up to the state of the entry.
use Rattle.std.proofs.Common.{◌≡◌, ℕ, ◌^◌, ◌<◌, ◌≤◌, Bool, true, false, not, ◌==◌, ◌&&◌, List, [], ◌∷◌, ◌++◌, refl, ap, sym, ◌∙◌, subst, inl, arith}
use Rattle.std.specs.List.{list_any}
use Rattle.std.proofs.lemmas.Bool.{eq-eqb, ne_eqb}
use Rattle.td_words.specs.declared.names.EntryState.{EntryState}
use Rattle.td_words.specs.declared.names.EntryState.TheVariants as entry
use Rattle.td_words.specs.declared.names.OpState.{OpState}
use Rattle.td_words.specs.declared.names.PageKind.TheVariants as kind
use Rattle.td_words.specs.declared.names.Mode.TheVariants.{Shared, Exclusive}
use Rattle.td_words.specs.declared.machines.Machine.{Machine}
use Rattle.td_words.specs.declared.refusals.Status.TheVariants.{EptEntryStateIncorrect}
use Rattle.td_words.specs.declared.replies.Reply.{Reply}
use Rattle.td_words.specs.Packing.{Entry}
use Rattle.td_words.specs.Place as place
use Rattle.td_words.proofs.Unpacked.{packings}
use Rattle.flat_core.specs.World.{World}
use Rattle.flat_core.specs.Processor.{LockId, OfPage, OfOp, OfTree, OfEpoch, Held}
use Rattle.flat_core.specs.Locks.{same_lock, is_alone}
use Rattle.flat_core.specs.Row.{Item}
use Rattle.flat_core.specs.Conditions.{td_shared, tree_shared, epoch_shared}
use Rattle.flat_core.specs.Lawful.{Lawful, IsNodeOf, is_free}
use Rattle.flat_core.specs.Tree.{entry_at, number_at, same_state, state_in, has_page, named_page, walk}
use Rattle.flat_core.proofs.Maps.{node_named}
use Rattle.flat_core.proofs.Tests.{by_test}
use Rattle.sept_walk.specs.SecureEpt.{index_at}
use Rattle.sept_walk.proofs.Meets.{split}
use Rattle.word_rules.specs.Rules.{ThePage}
use Rattle.word_rules.specs.Views.{no_page, named_by, look, of_entry}
use Rattle.word_rules.specs.Cells.{Shows}
use Rattle.lock_words.specs.Grips.{holds, holds_alone}
use Rattle.lock_words.specs.LockWords.{TdStands}
use Rattle.leaf_engine.specs.Trees.{Tree, needs}
use Rattle.leaf_engine.specs.Means.{Instant, Work, Means, LocksStay}
use Rattle.leaf_parts.specs.Words.{page_told}
use Rattle.leaf_parts.proofs.Aside.{apart}
use Rattle.leaf_parts.proofs.Begun.{IsTd, op_lock, page_lock, page-in, td-head-means, holds-newest}
use Rattle.leaf_parts.proofs.Told.{page-back}
use Rattle.sept_parts.specs.SeptPages.{HasEntry, HoldsTree}
use Rattle.sept_parts.specs.SeptTrees.{root_page_tree, walk_tree, state_tree}
use Rattle.sept_parts.proofs.SeptBegun.{tree-lock-means, root-page-means, walk-means, entry-means}
use Rattle.sept_parts.proofs.SeptLocks.{tree_held, page-reads, named-reads}
use Rattle.sept_parts.proofs.SeptTold.{said}
use Rattle.mem_remove.specs.declared.named_entries.Named.{Named}
use Rattle.mem_remove.specs.NamedTrees.{epoch_lock_tree}
use Rattle.mem_remove.specs.NamedMeanings.{epoch_held, epoch-lock-means}
use Rattle.export_core.specs.WriteTrees.{held_tree, page_tree, shared_walk, writable_tree}

-- an entry names a page exactly where it isn't FREE
named-free : (e : Entry) → is_free e.state ≡ true → named_by e ≡ no_page
named-free e f = rw f refl

pub named-page : (e : Entry) → is_free e.state ≡ false → named_by e ≡ e.page
named-page e f = rw f refl

same-free : (s : EntryState) → same_state s entry.Free ≡ is_free s
same-free entry.Free = refl
same-free _ = refl

not-true : (b : Bool) → not b ≡ true → b ≡ false
not-true false e = refl
not-true true e = cc

-- the locks of a TD's map that is shared with an epoch that stays, and of the page that an entry names
abbrev pub shared_locks : ℕ → List Held
shared_locks t = epoch_held t Shared ∷ tree_held t Shared ∷ op_lock t Shared ∷ page_lock t Shared ∷ []

abbrev pub writable_locks : (t page : ℕ) → List Held
writable_locks t p = page_lock p Exclusive ∷ shared_locks t

-- what the beginning of the row tells of the entry, and of the page that it names
pub record IsWritable (m : Machine) (w : World) (t gpa : ℕ) (ops : List OpState) (allowed : List EntryState) : Type 0 where
  pub td : IsTd m w t ops
  pub page : ℕ
  pub has : HasEntry m w t td.controls.root page gpa 0
  pub state : list_any (λ s. same_state s (entry_at w t 0 gpa).state) allowed ≡ true
  pub used : is_free (entry_at w t 0 gpa).state ≡ false
  pub node : IsNodeOf w.pages t (entry_at w t 0 gpa).page kind.Reg 0 (number_at 0 gpa)
  pub in_machine : (entry_at w t 0 gpa).page < m.pages
  pub apart : ((entry_at w t 0 gpa).page == t) ≡ false

-- and which locks are held
pub record HoldsWritable (hs : List Held) (t p : ℕ) : Type 0 where
  pub tree : HoldsTree hs t
  pub epoch : holds hs (OfEpoch t) ≡ true
  pub page_alone : holds_alone hs (OfPage p) ≡ true

pub holds-writable : (t p : ℕ) (kept : List Held) → (p == t) ≡ false → HoldsWritable (writable_locks t p ++ kept) t p
holds-writable t p kept n = record {
  tree = record { tdr = rw (n, eq-eqb t t refl) refl; op = rw (eq-eqb t t refl) refl; tree = rw (eq-eqb t t refl) refl };
  epoch = rw (eq-eqb t t refl) refl;
  page_alone = rw (eq-eqb p p refl) refl;
}

-- they stay through an act that leaves the TD where it is
pub writable-locks-stay : (w w' : World) (t p : ℕ) → w'.tds.controls t ≡ w.tds.controls t → (TdStands w t → TdStands w' t) → LocksStay w w' (writable_locks t p)
writable-locks-stay w w' t p same stand = ((refl, λ z. z), ((rw same refl, stand), ((rw same refl, stand), ((rw same refl, stand), ((refl, λ z. z), tt)))))

-- locks that are held stay held as more are
pub holds-more : (h : Held) (hs : List Held) (l : LockId) → holds hs l ≡ true → holds (h ∷ hs) l ≡ true
holds-more h hs l e = by_test (same_lock h.lock l) (λ y. rw y refl) (λ n. rw (n, e) refl)

pub alone-more : (h : Held) (hs : List Held) (l : LockId) → holds_alone hs l ≡ true → holds_alone (h ∷ hs) l ≡ true
alone-more h hs l e = by_test (is_alone h.mode && same_lock h.lock l) (λ y. rw y refl) (λ n. rw (n, e) refl)

pub tree-more : (h : Held) (hs : List Held) (t : ℕ) → HoldsTree hs t → HoldsTree (h ∷ hs) t
tree-more h hs t s = record { tdr = holds-more h hs (OfPage t) s.tdr; op = holds-more h hs (OfOp t) s.op; tree = holds-more h hs (OfTree t) s.tree }

-- an entry of these states stands in that page, and names a page of the TD
pub record IsNaming (m : Machine) (w : World) (t root gpa at : ℕ) (allowed : List EntryState) : Type 0 where
  pub has : HasEntry m w t root at gpa 0
  pub state : list_any (λ s. same_state s (entry_at w t 0 gpa).state) allowed ≡ true
  pub used : is_free (entry_at w t 0 gpa).state ≡ false
  pub node : IsNodeOf w.pages t (entry_at w t 0 gpa).page kind.Reg 0 (number_at 0 gpa)
  pub in_machine : (entry_at w t 0 gpa).page < m.pages

module _ (m : Machine) (c : Instant) (k : Work) (t : ℕ) (in_page : t < m.pages) (limit : m.pages ≤ 1024) (la : Lawful m c.state.world) (sh : Shows m c.memory.words c.memory.slots c.state) (gpa : ℕ) (small : gpa < 2 ^ 47) (ops : List OpState) (allowed : List EntryState)
    (further : Named → Tree) (rest : List (Item Reply)) where
  abbrev w : World
  w = c.state.world

  abbrev e : Entry
  e = entry_at c.state.world t 0 gpa

  abbrev named_rest : List (Item Reply)
  named_rest = named_page w t gpa 0 Exclusive ∷ state_in w t gpa 0 allowed ∷ rest

  abbrev found_rest : List (Item Reply)
  found_rest = has_page w t gpa 0 ∷ named_rest

  abbrev behind_page : (tdcs at page : ℕ) → Tree
  behind_page tdcs at p = held_tree m.pages tdcs gpa at allowed p further

  -- under the locks so far
  module _ (y : IsTd m w t ops) (hs : List Held) (held : HoldsTree (hs ++ c.kept) t)
      (h : (at : ℕ) → IsNaming m w t y.controls.root gpa at allowed → Means m c k (page_lock e.page Exclusive ∷ hs) (further (record { tdcs = y.controls.tdcs; page = at; entry = e })) rest) where
    module _ (at : ℕ) (has : HasEntry m w t y.controls.root at gpa 0) where
      held-means : is_free e.state ≡ false → Means m c k hs (behind_page y.controls.tdcs at e.page) named_rest
      held-means used =
          let node : IsNodeOf w.pages t e.page kind.Reg 0 (number_at 0 gpa) = node_named m w la t 0 (number_at 0 gpa) y.alive used in
          let inside : e.page < m.pages = page-in m w t e.page kind.Reg la node.page refl in
          let more : List Held = page_lock e.page Exclusive ∷ hs in
          let its : holds (more ++ c.kept) (OfPage (named_by e)) ≡ true = subst (λ (p : ℕ). holds (more ++ c.kept) (OfPage p) ≡ true) (sym (named-page e used)) (holds-newest e.page Exclusive (hs ++ c.kept)) in (
            refl,
            refl,
            record { in_machine = inside; at = refl; stands = tt; allowed = inl tt },
            entry-means m c k t in_page limit la sh y.alive y.controls more gpa small at 0 (λ f. state_tree f allowed (further (record { tdcs = y.controls.tdcs; page = at; entry = f }))) (state_in w t gpa 0 allowed ∷ rest) has
                (named-reads m c t sh y.alive y.controls more (tree-more (page_lock e.page Exclusive) (hs ++ c.kept) t held) gpa at 0 small has its)
                (refl, λ z. refl, λ st. h at (record { has = has; state = st; used = used; node = node; in_machine = inside })),
          )

      names-full : not (named_by e == no_page) ≡ not (same_state e.state entry.Free)
      names-full = by_test (is_free e.state)
          (λ z. ap (λ (n : ℕ). not (n == no_page)) (named-free e z) ∙ ap not (sym (same-free e.state ∙ z)))
          (λ z. (let few : e.page < m.pages = page-in m w t e.page kind.Reg la (node_named m w la t 0 (number_at 0 gpa) y.alive z).page refl in
          let other : (e.page == no_page) ≡ false = ne_eqb e.page no_page (λ is. (absurd (omega (arith, few, limit, is)))) in
          ap (λ (n : ℕ). not (n == no_page)) (named-page e z) ∙ (ap not other ∙ ap not (sym (same-free e.state ∙ z)))))

      told : look ThePage (c.memory.words (place.Word at (index_at 0 gpa))) ≡ named_by e
      told = ap (look ThePage) (said m c.memory c.state t sh y.alive y.controls gpa small at 0 has) ∙ ap (of_entry named_by) (packings.entry e (la.tree.entry limit t 0 (number_at 0 gpa)))

      full-means : not (same_state e.state entry.Free) ≡ true → Means m c k hs (behind_page y.controls.tdcs at (page_told m.pages (named_by e))) named_rest
      full-means z =
          let used : is_free e.state ≡ false = sym (same-free e.state) ∙ not-true (same_state e.state entry.Free) z in
          let inside : e.page < m.pages = page-in m w t e.page kind.Reg la (node_named m w la t 0 (number_at 0 gpa) y.alive used).page refl in
          let back : page_told m.pages (named_by e) ≡ e.page = ap (page_told m.pages) (named-page e used) ∙ page-back m.pages e.page inside in
          subst (λ (p : ℕ). Means m c k hs (behind_page y.controls.tdcs at p) named_rest) (sym back) (held-means used)

      page-means : Means m c k hs (page_tree m.pages gpa at (behind_page y.controls.tdcs at)) found_rest
      page-means = (
        (has.in_machine, split.index 0 gpa),
        inl (page-reads m c t sh y.alive y.controls hs held gpa at 0 small has),
        subst (λ (p : ℕ). Means m c k hs (needs (not (p == no_page)) (EptEntryStateIncorrect entry.Free) (behind_page y.controls.tdcs at (page_told m.pages p))) found_rest) (sym told) (names-full, λ z. refl, full-means),
      )

    abbrev behind_walk : ℕ → Tree
    behind_walk at = page_tree m.pages gpa at (behind_page y.controls.tdcs at)

    pub naming-means : Means m c k hs (walk_tree m.pages y.controls.root gpa 0 behind_walk) (walk w t gpa 0 ++ found_rest)
    naming-means = walk-means m c k t in_page limit la sh y.alive y.controls hs gpa small held 0 behind_walk found_rest (omega arith) page-means

  -- under those of the map alone
  module _ (h : (x : IsWritable m w t gpa ops allowed) → Means m c k (writable_locks t e.page) (further (record { tdcs = x.td.controls.tdcs; page = x.page; entry = e })) rest) (y : IsTd m w t ops) where
    shared : HoldsTree (shared_locks t ++ c.kept) t
    shared = record { tdr = rw (eq-eqb t t refl) refl; op = rw (eq-eqb t t refl) refl; tree = rw (eq-eqb t t refl) refl }

    named-means : Means m c k (shared_locks t) (walk_tree m.pages y.controls.root gpa 0 (λ at. page_tree m.pages gpa at (behind_page y.controls.tdcs at))) (walk w t gpa 0 ++ found_rest)
    named-means = naming-means y (shared_locks t) shared
        (λ at x. h (record {
          td = y;
          page = at;
          has = x.has;
          state = x.state;
          used = x.used;
          node = x.node;
          in_machine = x.in_machine;
          apart = apart w.pages.kinds e.page t kind.Reg kind.Tdr x.node.page.kind y.alive.kind (λ z. cc);
        }))

    abbrev walked : ℕ → Tree
    walked root = walk_tree m.pages root gpa 0 (λ at. page_tree m.pages gpa at (behind_page y.controls.tdcs at))

    pub map-means : Means m c k (op_lock t Shared ∷ page_lock t Shared ∷ []) (shared_walk m.pages t gpa y.controls.tdcs (λ at. page_tree m.pages gpa at (behind_page y.controls.tdcs at))) (tree_shared t ∷ epoch_shared t ∷ (walk w t gpa 0 ++ found_rest))
    map-means =
        tree-lock-means m c k t in_page limit la sh y.alive y.controls (op_lock t Shared ∷ page_lock t Shared ∷ []) Shared (epoch_lock_tree t y.controls.tdcs Shared (root_page_tree m.pages t walked)) (epoch_shared t ∷ (walk w t gpa 0 ++ found_rest)) (rw (eq-eqb t t refl) refl)
        (epoch-lock-means m c k t y.alive y.controls (tree_held t Shared ∷ op_lock t Shared ∷ page_lock t Shared ∷ []) Shared (root_page_tree m.pages t walked) (walk w t gpa 0 ++ found_rest) (rw (eq-eqb t t refl) refl)
        (root-page-means m c k t in_page limit la sh y.alive y.controls (shared_locks t) walked (walk w t gpa 0 ++ found_rest) shared.tdr named-means))

  pub writable-means : ((x : IsWritable m w t gpa ops allowed) → Means m c k (writable_locks t e.page) (further (record { tdcs = x.td.controls.tdcs; page = x.page; entry = e })) rest)
      → Means m c k [] (writable_tree m.pages t gpa ops allowed further) (td_shared w t ops ++ tree_shared t ∷ epoch_shared t ∷ (walk w t gpa 0 ++ found_rest))
  writable-means h =
      td-head-means m c k t in_page la sh Shared ops (λ td. shared_walk m.pages t gpa td.tdcs (λ at. page_tree m.pages gpa at (behind_page td.tdcs at))) (tree_shared t ∷ epoch_shared t ∷ (walk w t gpa 0 ++ found_rest))
      (λ y. map-means h y)
