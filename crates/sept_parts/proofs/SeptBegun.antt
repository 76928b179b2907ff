-- The walk of a TD's secure EPT means what its row says.
use Rattle.std.proofs.Common.{◌≡◌, ℕ, zero, suc, ◌^◌, ◌<◌, ◌≤◌, true, List, [], ◌∷◌, ◌++◌, slice_index, refl, ap, sym, ◌∙◌, subst, inl, inr, lit<, arith}
use Rattle.td_words.specs.declared.names.EntryState.{EntryState}
use Rattle.td_words.specs.declared.names.EntryState.TheVariants as entry
use Rattle.td_words.specs.declared.names.OpState.{OpState}
use Rattle.td_words.specs.declared.names.Mode.{Mode}
use Rattle.td_words.specs.declared.names.Mode.TheVariants.{Shared, Exclusive}
use Rattle.td_words.specs.declared.names.PageKind.TheVariants as kind
use Rattle.td_words.specs.declared.machines.Machine.{Machine}
use Rattle.td_words.specs.declared.places.TheConstants.{TDR_ROOT}
use Rattle.td_words.specs.declared.refusals.Status.TheVariants.{EptWalkFailed}
use Rattle.td_words.specs.declared.replies.Reply.{Reply}
use Rattle.td_words.specs.Packing.{Entry}
use Rattle.td_words.specs.Place as place
use Rattle.flat_core.specs.World.{World}
use Rattle.flat_core.specs.Processor.{OfPage, OfTree, Held}
use Rattle.flat_core.specs.Row.{Item, Try, needs}
use Rattle.flat_core.specs.Conditions.{td_row}
use Rattle.flat_core.specs.Lawful.{Lawful, IsAlive}
use Rattle.flat_core.specs.Tree.{entry_at, number_at, same_state, walk, state_in}
use Rattle.flat_core.proofs.Maps.{not_free}
use Rattle.sept_walk.specs.SecureEpt.{index_at, is_mapped_on}
use Rattle.sept_walk.proofs.Meets.{split}
use Rattle.word_rules.specs.Cells.{Shows}
use Rattle.word_rules.specs.Rules.{Whole}
use Rattle.word_rules.specs.Permissions.{Reads}
use Rattle.lock_words.specs.Grips.{holds}
use Rattle.leaf_engine.specs.Trees.{Tree}
use Rattle.leaf_engine.specs.Trees as tree
use Rattle.leaf_engine.specs.Means.{Instant, Work, Means, hold}
use Rattle.leaf_parts.specs.Words.{page_told}
use Rattle.leaf_parts.proofs.Told.{page-back, tdr-shown, tdr-spot, tdcs-spot}
use Rattle.leaf_parts.proofs.Begun.{TwoControls, IsTd, page-in, page_lock, op_lock, td-head-means}
use Rattle.sept_parts.specs.declared.finds.Found.{Found}
use Rattle.sept_parts.specs.declared.finds.Modes.{Modes}
use Rattle.sept_parts.specs.SeptWords.{entry_told}
use Rattle.sept_parts.specs.SeptTrees.{tree_lock_tree, root_page_tree, entry_tree, state_tree, below_tree, walk_tree, find_tree, td_find_tree}
use Rattle.sept_parts.specs.SeptPages.{HasEntry, HoldsTree, HoldsEntries}
use Rattle.sept_parts.proofs.SeptTold.{told-back, said}
use Rattle.sept_parts.proofs.SeptLocks.{tree_held, holds-tree, tree-alone, op-alone, entry-reads, upper-reads}

module _ (m : Machine) (c : Instant) (k : Work) (t : ℕ) (in_page : t < m.pages) (limit : m.pages ≤ 1024) (la : Lawful m c.state.world) (sh : Shows m c.memory.words c.memory.slots c.state) (alive : IsAlive c.state.world.pages c.state.world.tds t) (x : TwoControls m c.state.world t) (hs : List Held) where
  abbrev w : World
  w = c.state.world

  -- the try of T
  pub tree-lock-means : (mode : Mode) (further : Tree) (rest : List (Item Reply)) → holds (hs ++ c.kept) (OfPage t) ≡ true → Means m c k (tree_held t mode ∷ hs) further rest
      → Means m c k hs (tree_lock_tree t x.tdcs mode further) (Try (OfTree t) mode ∷ rest)
  tree-lock-means mode further rest held h = (
    refl,
    refl,
    record {
      in_machine = (x.tdcs_in, omega arith);
      at = rw x.list refl;
      stands = record { alive = alive; has_tdcs = rw x.list refl };
      allowed = rw (tdcs-spot w t 1 x.tdcs (x.root ∷ []) x.list x.tdcs_page) (inl (held, tt));
    },
    h,
  )

  -- the root
  pub root-page-means : (further : ℕ → Tree) (rest : List (Item Reply)) → holds (hs ++ c.kept) (OfPage t) ≡ true → Means m c k hs (further x.root) rest → Means m c k hs (root_page_tree m.pages t further) rest
  root-page-means further rest held h =
      let word : c.memory.words (place.Word t TDR_ROOT) ≡ slice_index (w.tds.controls t) 1 = tdr-shown m c.memory.words c.memory.slots c.state sh t 5 alive.kind (la.pages.tdr t alive.kind) in_page (omega arith) in
      let second : slice_index (w.tds.controls t) 1 ≡ x.root = ap (λ (cs : List ℕ). slice_index cs 1) x.list in
      let told : page_told m.pages (c.memory.words (place.Word t TDR_ROOT)) ≡ x.root = ap (page_told m.pages) (word ∙ second) ∙ page-back m.pages x.root x.root_in in (
        (in_page, omega arith),
        inl (rw (tdr-spot w t 5 alive.kind (la.pages.tdr t alive.kind)) (inl (held, tt))),
        subst (λ (p : ℕ). Means m c k hs (further p) rest) (sym told) h,
      )

  module _ (gpa : ℕ) (small : gpa < 2 ^ 47) where
    -- one entry, where its word is stable
    pub entry-means : (page level : ℕ) (further : Entry → Tree) (rest : List (Item Reply)) → HasEntry m w t x.root page gpa level → Reads (hold c hs) w (place.Word page (index_at level gpa)) Whole
        → Means m c k hs (further (entry_at w t level gpa)) rest → Means m c k hs (entry_tree m.pages page gpa level further) rest
    entry-means page level further rest has reads h =
        let word : entry_told m.pages (c.memory.words (place.Word page (index_at level gpa))) ≡ entry_at w t level gpa =
        ap (entry_told m.pages) (said m c.memory c.state t sh alive x gpa small page level has) ∙ told-back m w t in_page limit la alive level (number_at level gpa) in (
          (has.in_machine, split.index level gpa),
          inl reads,
          subst (λ (e : Entry). Means m c k hs (further e) rest) (sym word) h,
        )

    -- its state
    pub state-means : (level : ℕ) (allowed : List EntryState) (further : Tree) (rest : List (Item Reply)) → Means m c k hs further rest
        → Means m c k hs (state_tree (entry_at w t level gpa) allowed further) (state_in w t gpa level allowed ∷ rest)
    state-means level allowed further rest h = (refl, λ e. refl, λ e. h)

    module _ (locks : HoldsTree (hs ++ c.kept) t) where
      -- an upper entry that is passed over
      pub below-means : (page l : ℕ) (further : ℕ → Tree) (rest : List (Item Reply)) → l < 3 → HasEntry m w t x.root page gpa (suc l)
          → ((next : ℕ) → HasEntry m w t x.root next gpa l → Means m c k hs (further next) rest)
          → Means m c k hs (below_tree m.pages page gpa (suc l) further) (needs (same_state (entry_at w t (suc l) gpa).state entry.NlMapped) (EptWalkFailed (suc l)) ∷ rest)
      below-means page l further rest below has h =
          entry-means page (suc l) (λ e. tree.needs (is_mapped_on e) (EptWalkFailed (suc l)) (further e.page)) (needs (same_state (entry_at w t (suc l) gpa).state entry.NlMapped) (EptWalkFailed (suc l)) ∷ rest) has
          (upper-reads m c t sh alive x hs locks gpa page l small has) (
            refl,
            λ e. refl,
            λ on. (let named = la.tree.upper t l (number_at (suc l) gpa) alive (not_free (entry_at w t (suc l) gpa).state on) in
                h (entry_at w t (suc l) gpa).page (record {
                  in_machine = page-in m w t (entry_at w t (suc l) gpa).page kind.Ept la named.1.page refl;
                  node = inr (below, named.1);
                })),
          )

      -- the walk, from the root
      pub walk-means : (level : ℕ) (further : ℕ → Tree) (rest : List (Item Reply)) → level ≤ 3 → ((page : ℕ) → HasEntry m w t x.root page gpa level → Means m c k hs (further page) rest)
          → Means m c k hs (walk_tree m.pages x.root gpa level further) (walk w t gpa level ++ rest)
      walk-means level further rest few h = by-level level few h
        where
          root : HasEntry m w t x.root x.root gpa 3
          root = record { in_machine = x.root_in; node = inl (refl, refl) }

          passed : ℕ → Item Reply
          passed l = needs (same_state (entry_at w t l gpa).state entry.NlMapped) (EptWalkFailed l)

          by-level : (level : ℕ) → level ≤ 3 → ((page : ℕ) → HasEntry m w t x.root page gpa level → Means m c k hs (further page) rest) → Means m c k hs (walk_tree m.pages x.root gpa level further) (walk w t gpa level ++ rest)
          by-level (suc (suc (suc zero))) s g = g x.root root
          by-level (suc (suc zero)) s g = below-means x.root 2 further rest (lit< tt) root g
          by-level (suc zero) s g =
              below-means x.root 2 (λ p. below_tree m.pages p gpa 2 further) (passed 2 ∷ rest) (lit< tt) root (λ p hp.
              below-means p 1 further rest (lit< tt) hp g)
          by-level zero s g =
              below-means x.root 2 (λ p. below_tree m.pages p gpa 2 (λ q. below_tree m.pages q gpa 1 further)) (passed 2 ∷ passed 1 ∷ rest) (lit< tt) root (λ p hp.
              below-means p 1 (λ q. below_tree m.pages q gpa 1 further) (passed 1 ∷ rest) (lit< tt) hp (λ q hq.
              below-means q 0 further rest (lit< tt) hq g))
          by-level (suc (suc (suc (suc n)))) s g = absurd (omega (arith, s))

      -- the wanted entry, by a walk from the root: under T alone or O alone, so that its whole word is stable
      pub find-means : (level : ℕ) (further : Found → Tree) (rest : List (Item Reply)) → level ≤ 3 → HoldsEntries (hs ++ c.kept) t
          → ((page : ℕ) → HasEntry m w t x.root page gpa level → Means m c k hs (further (record { page = page; entry = entry_at w t level gpa })) rest)
          → Means m c k hs (find_tree m.pages t gpa level further) (walk w t gpa level ++ rest)
      find-means level further rest few stable h =
          root-page-means (λ root. walk_tree m.pages root gpa level (λ page. entry_tree m.pages page gpa level (λ e. further (record { page = page; entry = e })))) (walk w t gpa level ++ rest) locks.tdr
          (walk-means level (λ page. entry_tree m.pages page gpa level (λ e. further (record { page = page; entry = e }))) rest few
          (λ page has. entry-means page level (λ e. further (record { page = page; entry = e })) rest has (entry-reads m c t sh alive x hs locks gpa page level small has stable) (h page has)))

-- under T alone, or O alone
abbrev pub AreStable : (tree op : Mode) → Type 0
AreStable Exclusive op = Unit {0}
AreStable Shared Exclusive = Unit {0}
AreStable Shared Shared = ⊥

stable-entries : (t : ℕ) (tree op page : Mode) (hs : List Held) → AreStable tree op → HoldsEntries (tree_held t tree ∷ op_lock t op ∷ page_lock t page ∷ hs) t
stable-entries t Exclusive op page hs a = inl (tree-alone t (op_lock t op ∷ page_lock t page ∷ hs))
stable-entries t Shared Exclusive page hs a = inr (op-alone t Shared (page_lock t page ∷ hs))
stable-entries t Shared Shared page hs a = absurd a

-- Behind the beginning of a TD's row: the try of T, and the entry by a walk from the root.
pub td-find-means : (m : Machine) (c : Instant) (k : Work) (t : ℕ) → t < m.pages → m.pages ≤ 1024 → Lawful m c.state.world → Shows m c.memory.words c.memory.slots c.state → (ops : List OpState) → (y : IsTd m c.state.world t ops)
    → (tree_mode op : Mode) → AreStable tree_mode op → (gpa level : ℕ) → gpa < 2 ^ 47 → level ≤ 3 → (further : Found → Tree) (rest : List (Item Reply))
    → ((page : ℕ) → HasEntry m c.state.world t y.controls.root page gpa level → Means m c k (tree_held t tree_mode ∷ op_lock t op ∷ page_lock t Shared ∷ []) (further (record { page = page; entry = entry_at c.state.world t level gpa })) rest)
    → Means m c k (op_lock t op ∷ page_lock t Shared ∷ []) (tree_lock_tree t y.controls.tdcs tree_mode (find_tree m.pages t gpa level further)) (Try (OfTree t) tree_mode ∷ (walk c.state.world t gpa level ++ rest))
td-find-means m c k t in_page limit la sh ops y tree_mode op stable gpa level small few further rest h =
    let locks : HoldsTree (tree_held t tree_mode ∷ op_lock t op ∷ page_lock t Shared ∷ c.kept) t = holds-tree t tree_mode op Shared c.kept in
    tree-lock-means m c k t in_page limit la sh y.alive y.controls (op_lock t op ∷ page_lock t Shared ∷ []) tree_mode (find_tree m.pages t gpa level further) (walk c.state.world t gpa level ++ rest) locks.tdr
    (find-means m c k t in_page limit la sh y.alive y.controls (tree_held t tree_mode ∷ op_lock t op ∷ page_lock t Shared ∷ []) gpa small locks level further rest few
    (stable-entries t tree_mode op Shared c.kept stable) h)

-- The whole beginning of the row of a call that walks.
pub row-find-means : (m : Machine) (c : Instant) (k : Work) (t : ℕ) → t < m.pages → m.pages ≤ 1024 → Lawful m c.state.world → Shows m c.memory.words c.memory.slots c.state → (modes : Modes) (ops : List OpState) → AreStable modes.tree modes.op
    → (gpa level : ℕ) → gpa < 2 ^ 47 → level ≤ 3 → (further : Found → Tree) (rest : List (Item Reply))
    → ((y : IsTd m c.state.world t ops) (page : ℕ) → HasEntry m c.state.world t y.controls.root page gpa level
    → Means m c k (tree_held t modes.tree ∷ op_lock t modes.op ∷ page_lock t Shared ∷ []) (further (record { page = page; entry = entry_at c.state.world t level gpa })) rest)
    → Means m c k [] (td_find_tree m.pages t modes ops gpa level further) (td_row c.state.world t modes.op ops ++ Try (OfTree t) modes.tree ∷ (walk c.state.world t gpa level ++ rest))
row-find-means m c k t in_page limit la sh modes ops stable gpa level small few further rest h =
    td-head-means m c k t in_page la sh modes.op ops (λ td. tree_lock_tree t td.tdcs modes.tree (find_tree m.pages t gpa level further)) (Try (OfTree t) modes.tree ∷ (walk c.state.world t gpa level ++ rest))
    (λ y. td-find-means m c k t in_page limit la sh ops y modes.tree modes.op stable gpa level small few further rest (λ page has. h y page has))
