-- The beginning of the calls that block, unblock and remove means what their rows say.
use Rattle.std.proofs.Common.{◌≡◌, ℕ, ◌^◌, ◌<◌, ◌≤◌, true, false, ◌==◌, List, [], ◌∷◌, ◌++◌, refl, inl, arith}
use Rattle.std.specs.List.{list_any}
use Rattle.std.proofs.lemmas.Bool.{eq-eqb}
use Rattle.td_words.specs.declared.names.EntryState.{EntryState}
use Rattle.td_words.specs.declared.names.PageKind.TheVariants as kind
use Rattle.td_words.specs.declared.names.Mode.{Mode}
use Rattle.td_words.specs.declared.names.Mode.TheVariants.{Shared, Exclusive}
use Rattle.td_words.specs.declared.machines.Machine.{Machine}
use Rattle.td_words.specs.declared.replies.Reply.{Reply}
use Rattle.flat_core.specs.World.{World}
use Rattle.flat_core.specs.Processor.{OfPage, OfTree, OfEpoch, Held}
use Rattle.flat_core.specs.Row.{Item, Try}
use Rattle.flat_core.specs.Conditions.{blocking_ops, tree_exclusive, epoch_shared}
use Rattle.flat_core.specs.Lawful.{Lawful, IsAlive, IsNodeOf, is_free}
use Rattle.flat_core.specs.MemRows.{named_row}
use Rattle.flat_core.specs.Tree.{entry_at, number_at, same_state, state_in, named_page, walk}
use Rattle.flat_core.proofs.Maps.{kind_named, node_named, named_owned, never_tdr}
use Rattle.word_rules.specs.Cells.{Shows}
use Rattle.lock_words.specs.Grips.{holds, holds_alone}
use Rattle.lock_words.specs.LockWords.{TdStands}
use Rattle.leaf_engine.specs.Trees.{Tree}
use Rattle.leaf_engine.specs.Means.{Instant, Work, Means, LocksStay}
use Rattle.leaf_parts.proofs.Aside.{apart}
use Rattle.leaf_parts.proofs.Begun.{IsTd, TwoControls, op_lock, page_lock, page-in, td-head-means}
use Rattle.leaf_parts.proofs.Told.{tdcs-spot}
use Rattle.sept_parts.specs.declared.finds.Found.{Found}
use Rattle.sept_parts.specs.SeptPages.{HasEntry, HoldsTree}
use Rattle.sept_parts.specs.SeptTrees.{tree_lock_tree, find_tree}
use Rattle.sept_parts.proofs.SeptBegun.{tree-lock-means, find-means}
use Rattle.sept_parts.proofs.SeptLocks.{tree_held}
use Rattle.mem_remove.specs.declared.named_entries.Named.{Named}
use Rattle.mem_remove.specs.NamedTrees.{epoch_lock_tree, taken_tree, named_tree}

abbrev pub epoch_held : ℕ → Mode → Held
epoch_held t mode = record { lock = OfEpoch t; mode = mode }

-- the try of E, under P of the TDR page
pub epoch-lock-means : (m : Machine) (c : Instant) (k : Work) (t : ℕ) → IsAlive c.state.world.pages c.state.world.tds t → (x : TwoControls m c.state.world t) (hs : List Held) (mode : Mode) (further : Tree) (rest : List (Item Reply))
    → holds (hs ++ c.kept) (OfPage t) ≡ true → Means m c k (epoch_held t mode ∷ hs) further rest → Means m c k hs (epoch_lock_tree t x.tdcs mode further) (Try (OfEpoch t) mode ∷ rest)
epoch-lock-means m c k t alive x hs mode further rest held h = (
  refl,
  refl,
  record {
    in_machine = (x.tdcs_in, omega arith);
    at = rw x.list refl;
    stands = record { alive = alive; has_tdcs = rw x.list refl };
    allowed = rw (tdcs-spot c.state.world t 2 x.tdcs (x.root ∷ []) x.list x.tdcs_page) (inl (held, tt));
  },
  h,
)

-- the locks of a TD's map with TD_EPOCH, and with the page that an entry names
abbrev pub map_locks : ℕ → List Held
map_locks t = epoch_held t Shared ∷ tree_held t Exclusive ∷ op_lock t Shared ∷ page_lock t Shared ∷ []

abbrev pub named_locks : (t page : ℕ) → List Held
named_locks t p = page_lock p Exclusive ∷ map_locks t

-- what the beginning of these rows tells of the entry, and of the page that it names
pub record IsNamed (m : Machine) (w : World) (t gpa level : ℕ) (allowed : List EntryState) : Type 0 where
  pub td : IsTd m w t blocking_ops
  pub page : ℕ
  pub has : HasEntry m w t td.controls.root page gpa level
  pub state : list_any (λ s. same_state s (entry_at w t level gpa).state) allowed ≡ true
  pub node : IsNodeOf w.pages t (entry_at w t level gpa).page (kind_named level) level (number_at level gpa)
  pub in_machine : (entry_at w t level gpa).page < m.pages
  pub apart : ((entry_at w t level gpa).page == t) ≡ false

-- and which locks are held
pub record HoldsNamed (hs : List Held) (t p : ℕ) : Type 0 where
  pub tree : HoldsTree hs t
  pub epoch : holds hs (OfEpoch t) ≡ true
  pub tree_alone : holds_alone hs (OfTree t) ≡ true
  pub page : holds hs (OfPage p) ≡ true
  pub page_alone : holds_alone hs (OfPage p) ≡ true

pub holds-named : (t p : ℕ) (kept : List Held) → (p == t) ≡ false → HoldsNamed (named_locks t p ++ kept) t p
holds-named t p kept n = record {
  tree = record { tdr = rw (n, eq-eqb t t refl) refl; op = rw (eq-eqb t t refl) refl; tree = rw (eq-eqb t t refl) refl };
  epoch = rw (eq-eqb t t refl) refl;
  tree_alone = rw (eq-eqb t t refl) refl;
  page = rw (eq-eqb p p refl) refl;
  page_alone = rw (eq-eqb p p refl) refl;
}

-- they stay through an act that leaves the TD where it is
pub named-locks-stay : (w w' : World) (t p : ℕ) → w'.tds.controls t ≡ w.tds.controls t → (TdStands w t → TdStands w' t) → LocksStay w w' (named_locks t p)
named-locks-stay w w' t p same stand = ((refl, λ z. z), ((rw same refl, stand), ((rw same refl, stand), ((rw same refl, stand), ((refl, λ z. z), tt)))))

module _ (m : Machine) (c : Instant) (k : Work) (t : ℕ) (in_page : t < m.pages) (limit : m.pages ≤ 1024) (la : Lawful m c.state.world) (sh : Shows m c.memory.words c.memory.slots c.state) (gpa level : ℕ) (small : gpa < 2 ^ 47) (few : level ≤ 3)
    (allowed : List EntryState) (used : (s : EntryState) → list_any (λ a. same_state a s) allowed ≡ true → is_free s ≡ false) (further : Named → Tree) (rest : List (Item Reply)) where
  abbrev w : World
  w = c.state.world

  abbrev p : ℕ
  p = (entry_at c.state.world t level gpa).page

  -- what comes behind each part
  abbrev behind_find : ℕ → Found → Tree
  behind_find tdcs f = taken_tree f.entry allowed (further (record { tdcs = tdcs; page = f.page; entry = f.entry }))

  abbrev behind_epoch : ℕ → Tree
  behind_epoch tdcs = find_tree m.pages t gpa level (behind_find tdcs)

  abbrev behind_tree : ℕ → Tree
  behind_tree tdcs = epoch_lock_tree t tdcs Shared (behind_epoch tdcs)

  abbrev found_rest : List (Item Reply)
  found_rest = state_in w t gpa level allowed ∷ named_page w t gpa level Exclusive ∷ rest

  abbrev epoch_rest : List (Item Reply)
  epoch_rest = epoch_shared t ∷ (walk w t gpa level ++ found_rest)

  module _ (h : (x : IsNamed m w t gpa level allowed) → Means m c k (named_locks t p) (further (record { tdcs = x.td.controls.tdcs; page = x.page; entry = entry_at w t level gpa })) rest) (y : IsTd m w t blocking_ops) where
    tree : HoldsTree (map_locks t ++ c.kept) t
    tree = record { tdr = rw (eq-eqb t t refl) refl; op = rw (eq-eqb t t refl) refl; tree = rw (eq-eqb t t refl) refl }

    taken-means : (at : ℕ) → HasEntry m w t y.controls.root at gpa level → Means m c k (map_locks t) (behind_find y.controls.tdcs (record { page = at; entry = entry_at w t level gpa })) found_rest
    taken-means at has = (
      refl,
      λ e. refl,
      λ st.
          (let node : IsNodeOf w.pages t p (kind_named level) level (number_at level gpa) = node_named m w la t level (number_at level gpa) y.alive (used (entry_at w t level gpa).state st) in
          let inside : p < m.pages = page-in m w t p (kind_named level) la node.page (named_owned level) in (
            refl,
            refl,
            record { in_machine = inside; at = refl; stands = tt; allowed = inl tt },
            h (record { td = y; page = at; has = has; state = st; node = node; in_machine = inside; apart = apart w.pages.kinds p t (kind_named level) kind.Tdr node.page.kind y.alive.kind (never_tdr level) }),
          )),
    )

    map-means : Means m c k (op_lock t Shared ∷ page_lock t Shared ∷ []) (tree_lock_tree t y.controls.tdcs Exclusive (behind_tree y.controls.tdcs)) (tree_exclusive t ∷ epoch_rest)
    map-means =
        tree-lock-means m c k t in_page limit la sh y.alive y.controls (op_lock t Shared ∷ page_lock t Shared ∷ []) Exclusive (behind_tree y.controls.tdcs) epoch_rest (rw (eq-eqb t t refl) refl)
        (epoch-lock-means m c k t y.alive y.controls (tree_held t Exclusive ∷ op_lock t Shared ∷ page_lock t Shared ∷ []) Shared (behind_epoch y.controls.tdcs) (walk w t gpa level ++ found_rest) (rw (eq-eqb t t refl) refl)
        (find-means m c k t in_page limit la sh y.alive y.controls (map_locks t) gpa small tree level (behind_find y.controls.tdcs) found_rest few (inl (rw (eq-eqb t t refl) refl)) taken-means))

  pub named-means : ((x : IsNamed m w t gpa level allowed) → Means m c k (named_locks t p) (further (record { tdcs = x.td.controls.tdcs; page = x.page; entry = entry_at w t level gpa })) rest)
      → Means m c k [] (named_tree m.pages t gpa level allowed further) (named_row w t gpa level allowed rest)
  named-means h = td-head-means m c k t in_page la sh Shared blocking_ops (λ td. tree_lock_tree t td.tdcs Exclusive (behind_tree td.tdcs)) (tree_exclusive t ∷ epoch_rest) (λ y. map-means h y)
