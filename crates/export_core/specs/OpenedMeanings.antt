-- The beginning of the calls that give a guest its page back means what their rows say.
use Rattle.std.proofs.Common.{◌≡◌, ℕ, ◌%◌, ◌^◌, ◌<◌, ◌≤◌, Bool, true, false, ◌==◌, nat_lt, List, [], ◌∷◌, ◌++◌, refl, inl, inr, arith}
use Rattle.std.specs.List.{list_any}
use Rattle.std.proofs.lemmas.Bool.{eq-eqb}
use Rattle.td_words.specs.declared.names.EntryState.{EntryState}
use Rattle.td_words.specs.declared.names.OpState.{OpState}
use Rattle.td_words.specs.declared.names.PageKind.TheVariants as kind
use Rattle.td_words.specs.declared.names.Mode.TheVariants.{Shared, Exclusive}
use Rattle.td_words.specs.declared.machines.Machine.{Machine}
use Rattle.td_words.specs.declared.refusals.Status.{Status}
use Rattle.td_words.specs.declared.refusals.Status.TheVariants.{OperandInvalid}
use Rattle.td_words.specs.declared.replies.Reply.{Reply}
use Rattle.td_words.specs.Packing.{Entry}
use Rattle.flat_core.specs.World.{World}
use Rattle.flat_core.specs.Processor.{OfTree, Held}
use Rattle.flat_core.specs.Row.{Item}
use Rattle.flat_core.specs.Arguments.{level_size}
use Rattle.flat_core.specs.Conditions.{tree_exclusive}
use Rattle.flat_core.specs.ExportRows.{opened_row}
use Rattle.flat_core.specs.Lawful.{Lawful, IsNodeOf, is_free}
use Rattle.flat_core.specs.Tree.{entry_at, number_at, same_state, state_in, named_page, walk}
use Rattle.flat_core.proofs.Maps.{node_named}
use Rattle.sept_walk.specs.SecureEpt.{index_at}
use Rattle.sept_walk.proofs.Meets.{split}
use Rattle.word_rules.specs.Guards.{Grip}
use Rattle.word_rules.specs.Rules.{DirtyWord, KeepsNothing, Whole, reads, owes}
use Rattle.word_rules.specs.Permissions.{MayAt}
use Rattle.word_rules.specs.Cells.{Shows}
use Rattle.lock_words.specs.Grips.{holds_alone}
use Rattle.lock_words.specs.LockWords.{TdStands}
use Rattle.leaf_engine.specs.Trees.{Tree}
use Rattle.leaf_engine.specs.Means.{Instant, Work, Means, LocksStay, MayAct, hold}
use Rattle.leaf_parts.proofs.Aside.{apart}
use Rattle.leaf_parts.proofs.Begun.{IsTd, op_lock, page_lock, page-in, td-head-means}
use Rattle.leaf_parts.proofs.Checks.{spot_of}
use Rattle.sept_parts.specs.declared.finds.Found.{Found}
use Rattle.sept_parts.specs.SeptPages.{HasEntry, HoldsTree}
use Rattle.sept_parts.specs.SeptTrees.{tree_lock_tree, find_tree}
use Rattle.sept_parts.proofs.SeptBegun.{td-find-means}
use Rattle.sept_parts.proofs.SeptLocks.{tree_held, entry-writes}
use Rattle.mem_remove.specs.declared.named_entries.Named.{Named}
use Rattle.mem_remove.specs.NamedTrees.{taken_tree}
use Rattle.export_core.specs.OpenedTrees.{opened_tree, restated}

-- the locks of a TD's map that is held alone, with the page that an entry names
abbrev pub map_locks : ℕ → List Held
map_locks t = tree_held t Exclusive ∷ op_lock t Shared ∷ page_lock t Shared ∷ []

abbrev pub opened_locks : (t page : ℕ) → List Held
opened_locks t p = page_lock p Exclusive ∷ map_locks t

-- what the beginning of these rows tells of the entry, and of the page that it names
pub record IsOpened (m : Machine) (w : World) (t gpa : ℕ) (ops : List OpState) (allowed : List EntryState) : Type 0 where
  pub td : IsTd m w t ops
  pub page : ℕ
  pub has : HasEntry m w t td.controls.root page gpa 0
  pub state : list_any (λ s. same_state s (entry_at w t 0 gpa).state) allowed ≡ true
  pub node : IsNodeOf w.pages t (entry_at w t 0 gpa).page kind.Reg 0 (number_at 0 gpa)
  pub in_machine : (entry_at w t 0 gpa).page < m.pages
  pub apart : ((entry_at w t 0 gpa).page == t) ≡ false

-- and which locks are held
pub record HoldsOpened (hs : List Held) (t : ℕ) : Type 0 where
  pub tree : HoldsTree hs t
  pub tree_alone : holds_alone hs (OfTree t) ≡ true

pub holds-opened : (t p : ℕ) (kept : List Held) → (p == t) ≡ false → HoldsOpened (opened_locks t p ++ kept) t
holds-opened t p kept n = record {
  tree = record { tdr = rw (n, eq-eqb t t refl) refl; op = rw (eq-eqb t t refl) refl; tree = rw (eq-eqb t t refl) refl };
  tree_alone = rw (eq-eqb t t refl) refl;
}

-- they stay through an act that leaves the TD where it is
pub opened-locks-stay : (w w' : World) (t p : ℕ) → w'.tds.controls t ≡ w.tds.controls t → (TdStands w t → TdStands w' t) → LocksStay w w' (opened_locks t p)
opened-locks-stay w w' t p same stand = ((refl, λ z. z), ((rw same refl, stand), ((rw same refl, stand), ((refl, λ z. z), tt))))

module _ (m : Machine) (c : Instant) (k : Work) (t : ℕ) (in_page : t < m.pages) (limit : m.pages ≤ 1024) (la : Lawful m c.state.world) (sh : Shows m c.memory.words c.memory.slots c.state) (gpa : ℕ) (small : gpa < 2 ^ 47) (ops : List OpState) (allowed : List EntryState)
    (used : (s : EntryState) → list_any (λ a. same_state a s) allowed ≡ true → is_free s ≡ false) (further : Named → Tree) where
  abbrev w : World
  w = c.state.world

  abbrev p : ℕ
  p = (entry_at c.state.world t 0 gpa).page

  -- what comes behind the walk
  abbrev behind_find : ℕ → Found → Tree
  behind_find tdcs f = taken_tree f.entry allowed (further (record { tdcs = tdcs; page = f.page; entry = f.entry }))

  abbrev found_rest : List (Item Reply)
  found_rest = state_in w t gpa 0 allowed ∷ named_page w t gpa 0 Exclusive ∷ []

  module _ (h : (x : IsOpened m w t gpa ops allowed) → Means m c k (opened_locks t p) (further (record { tdcs = x.td.controls.tdcs; page = x.page; entry = entry_at w t 0 gpa })) []) (y : IsTd m w t ops) where
    taken-means : (at : ℕ) → HasEntry m w t y.controls.root at gpa 0 → Means m c k (map_locks t) (behind_find y.controls.tdcs (record { page = at; entry = entry_at w t 0 gpa })) found_rest
    taken-means at has = (
      refl,
      λ e. refl,
      λ st.
          (let node : IsNodeOf w.pages t p kind.Reg 0 (number_at 0 gpa) = node_named m w la t 0 (number_at 0 gpa) y.alive (used (entry_at w t 0 gpa).state st) in
          let inside : p < m.pages = page-in m w t p kind.Reg la node.page refl in (
            refl,
            refl,
            record { in_machine = inside; at = refl; stands = tt; allowed = inl tt },
            h (record { td = y; page = at; has = has; state = st; node = node; in_machine = inside; apart = apart w.pages.kinds p t kind.Reg kind.Tdr node.page.kind y.alive.kind (λ e. cc) }),
          )),
    )

    map-means : Means m c k (op_lock t Shared ∷ page_lock t Shared ∷ []) (tree_lock_tree t y.controls.tdcs Exclusive (find_tree m.pages t gpa 0 (behind_find y.controls.tdcs))) (tree_exclusive t ∷ (walk w t gpa 0 ++ found_rest))
    map-means = td-find-means m c k t in_page limit la sh ops y Exclusive Shared tt gpa 0 small (omega arith) (behind_find y.controls.tdcs) found_rest taken-means

  pub opened-means : ((x : IsOpened m w t gpa ops allowed) → Means m c k (opened_locks t p) (further (record { tdcs = x.td.controls.tdcs; page = x.page; entry = entry_at w t 0 gpa })) [])
      → Means m c k [] (opened_tree m.pages t gpa ops allowed further) (opened_row w t gpa ops allowed)
  opened-means h =
      td-head-means m c k t in_page la sh Shared ops (λ td. tree_lock_tree t td.tdcs Exclusive (find_tree m.pages t gpa 0 (behind_find td.tdcs))) (tree_exclusive t ∷ (walk w t gpa 0 ++ found_rest))
      (λ y. map-means h y)

-- the arguments of these calls, and of the one that blocks writing
abbrev pub arguments : Machine → (t gpa : ℕ) → List (Bool × Status)
arguments m t gpa = (nat_lt t m.pages, OperandInvalid 1) ∷ (nat_lt gpa (2 ^ 47), OperandInvalid 2) ∷ (gpa % level_size 0 == 0, OperandInvalid 2) ∷ []

-- What may be done at the entry's word and at the counts under these locks.
module _ (m : Machine) (c : Instant) (t gpa : ℕ) (ops : List OpState) (allowed : List EntryState) (sh : Shows m c.memory.words c.memory.slots c.state) (small : gpa < 2 ^ 47) (x : IsOpened m c.state.world t gpa ops allowed) where
  abbrev v : World
  v = c.state.world

  abbrev e : Entry
  e = entry_at c.state.world t 0 gpa

  abbrev hs : List Held
  hs = opened_locks t (entry_at c.state.world t 0 gpa).page

  abbrev g : Grip
  g = hold c hs

  pub locks : HoldsOpened (hs ++ c.kept) t
  locks = holds-opened t e.page c.kept x.apart

  pub may-restate : (s : EntryState) (mark : ℕ) → MayAct m g v c.memory (restated x.page (index_at 0 gpa) e.page s mark)
  may-restate s mark = ((x.has.in_machine, split.index 0 gpa), (KeepsNothing, entry-writes m c t sh x.td.alive x.td.controls hs locks.tree gpa x.page 0 small x.has KeepsNothing locks.tree_alone, tt))

  pub count-reads : MayAt g (spot_of DirtyWord t x.td.controls.tdcs) (λ z. reads z Whole)
  count-reads = inr (inr (inl (locks.tree.tdr, (locks.tree.op, (locks.tree_alone, tt)))))

  pub count-owes : MayAt g (spot_of DirtyWord t x.td.controls.tdcs) (λ z. owes z KeepsNothing)
  count-owes = inr (inr (inl (locks.tree.tdr, (locks.tree.op, (locks.tree_alone, tt)))))
