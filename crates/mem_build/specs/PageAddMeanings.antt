-- The leaf that adds a private page means its row.
use Rattle.std.proofs.Common.{◌≡◌, ◌≢◌, ℕ, ◌^◌, ◌<◌, Bool, true, false, ◌==◌, List, [], ◌∷◌, ◌++◌, Option, refl, sym, ◌∙◌, subst, inl, arith}
use Rattle.std.proofs.lemmas.Bool.{eq-eqb, ltb-true, not-true}
use Rattle.td_words.specs.declared.names.EntryState.TheVariants as entry
use Rattle.td_words.specs.declared.names.Mode.TheVariants.{Shared, Exclusive}
use Rattle.td_words.specs.declared.machines.Machine.{Machine}
use Rattle.td_words.specs.declared.places.TheConstants.{TDR_HKID, TDR_CHILDREN}
use Rattle.td_words.specs.declared.replies.Reply.{Reply}
use Rattle.td_words.specs.Limits.{IsMachine}
use Rattle.td_words.specs.Place as place
use Rattle.flat_core.specs.World.{World, put}
use Rattle.flat_core.specs.Processor.{OfPage, OfOp, OfTree, Held}
use Rattle.flat_core.specs.Row.{Item}
use Rattle.flat_core.specs.Conditions.{is_host, children, page_exclusive, host_page, td_row, tree_exclusive}
use Rattle.flat_core.specs.Lawful.{Lawful}
use Rattle.flat_core.specs.MemRows.{add_page}
use Rattle.flat_core.specs.Tree.{state_in, walk}
use Rattle.mrtd_measure.specs.Records.{page_record}
use Rattle.word_rules.specs.Rules.{Whole, KeepsNothing, owes}
use Rattle.word_rules.specs.Permissions.{MayAt, SwapsOwed}
use Rattle.word_rules.specs.Spots.{slot_of}
use Rattle.word_rules.specs.Cells.{Shows}
use Rattle.lock_words.specs.Grips.{holds_alone}
use Rattle.act_rules.proofs.Rows.{page-added}
use Rattle.leaf_engine.specs.declared.needs.Place.{Place}
use Rattle.leaf_engine.specs.Changes.{changes_where}
use Rattle.leaf_engine.specs.Trees.{Tree, Load, done}
use Rattle.leaf_engine.specs.Means.{Instant, Means, MeansRow, Work, work_of, OfCall, hold, grasp_of}
use Rattle.leaf_parts.specs.HostPages.{host_page_tree}
use Rattle.leaf_parts.proofs.Aside.{turned}
use Rattle.leaf_parts.proofs.Begun.{page_lock, op_lock, IsTd}
use Rattle.leaf_parts.proofs.Checks.{checks-mean, host-page-means, tdr-load}
use Rattle.leaf_parts.proofs.HostPages.{host-reads, host-fills, host-word}
use Rattle.leaf_parts.proofs.Hashers.{initialized}
use Rattle.leaf_parts.proofs.Told.{tdr-shown}
use Rattle.leaf_parts.proofs.Keys.{hkid-in}
use Rattle.sept_parts.specs.declared.mappings.Mapping.{Mapping}
use Rattle.sept_parts.specs.SeptPages.{HasEntry, HoldsTree}
use Rattle.sept_parts.specs.SeptTrees.{state_tree}
use Rattle.sept_parts.specs.MapTrees.{private_mapping}
use Rattle.sept_parts.proofs.SeptLocks.{tree_held, count-reads}
use Rattle.sept_parts.proofs.SeptBegun.{row-find-means}
use Rattle.sept_parts.proofs.Filled.{page-set}
use Rattle.sept_parts.proofs.Maps.{MayMap, IsFilled, private-filled, map-shown, map-end}
use Rattle.mem_build.specs.PageAddTrees.{Addition, page_fills, measure_changes, page_changes, addition_end, page_add_arguments, alone, pages_tree, td_tree, page_add_tree, page_add_task}
use Rattle.mem_build.specs.PageAddShows.{page-added-shown}

module _ (m : Machine) (c : Instant) (t gpa p q : ℕ) (limits : IsMachine m) (in_tdr : t < m.pages) (small : gpa < 2 ^ 47) (in_page : p < m.pages) (in_source : q < m.pages)
    (p-t : (p == t) ≡ false) (q-t : (q == t) ≡ false) (q-p : (q == p) ≡ false) (la : Lawful m c.state.world) (sh : Shows m c.memory.words c.memory.slots c.state) where
  abbrev v : World
  v = c.state.world

  abbrev k : Work
  k = work_of (OfCall (add_page m t gpa p q))

  abbrev v' : World
  v' = (add_page m t gpa p q).act c.state.world

  module _ (x : IsTd m v t initialized) (table : ℕ) (has : HasEntry m v t x.controls.root table gpa 0) where
    abbrev held : List Held
    held = page_lock p Exclusive ∷ page_lock q Exclusive ∷ tree_held t Exclusive ∷ op_lock t Exclusive ∷ page_lock t Shared ∷ []

    abbrev addition : ℕ → ℕ → Addition
    addition h n = record { tdr = t; gpa = gpa; page = p; source = q; table = table; hkid = h; children = n }

    abbrev full : Addition
    full = addition (v.tds.hkids t) (children v t)

    -- what is held
    itself : (a : ℕ) → (a == a) ≡ true
    itself a = eq-eqb a a refl

    locks : HoldsTree (held ++ c.kept) t
    locks = record { tdr = rw (p-t, q-t, itself t) refl; op = rw (itself t) refl; tree = rw (itself t) refl }

    tree-alone : holds_alone (held ++ c.kept) (OfTree t) ≡ true
    tree-alone = rw (itself t) refl

    op-alone : holds_alone (held ++ c.kept) (OfOp t) ≡ true
    op-alone = rw (itself t) refl

    page-alone : holds_alone (held ++ c.kept) (OfPage p) ≡ true
    page-alone = rw (itself p) refl

    source-alone : holds_alone (held ++ c.kept) (OfPage q) ≡ true
    source-alone = rw (turned q p q-p, itself q) refl

    owes-swap : SwapsOwed (hold c held) v' (v.tds.hkids t)
    owes-swap = subst (λ (o : Option ℕ). MayAt (hold c held) (slot_of o) (λ a. owes a KeepsNothing)) (sym (la.keys.owner t x.alive)) (inl (locks.tdr, (op-alone, tt)))

    not-same : q ≢ p
    not-same e = (let no : true ≡ false = sym (eq-eqb q p e) ∙ q-p in cc)

    -- the source is copied, the page is mapped, and measured
    ended : is_host v q ≡ true → is_host v p ≡ true → Means m c k held (done (page_fills full) (page_changes m.pages full)) []
    ended source host =
        let y : Mapping = private_mapping t gpa p in
        let words = put v.words p (v.words q) in
        let may : MayMap m c held y table = record {
          lawful = la;
          shown = sh;
          small = small;
          tdr_in = in_tdr;
          page_in = in_page;
          alive = x.alive;
          controls = x.controls;
          entry = has;
          locks = locks;
          tree_alone = tree-alone;
          page_alone = page-alone;
          host = host;
          owned = refl;
        } in
        let copied : IsFilled m c y words (page_fills full) =
        private-filled m c y words (page_fills full) refl in_page host (page-set m c.memory c.state p (v.words q) (λ i. c.memory.words (place.Word q i)) (λ i few. host-word m c sh q in_source source i few) sh host) in
        map-end m c held y table may words (page_fills full) copied (add_page m t gpa p q) (measure_changes full.hkid gpa) refl refl refl
        (record { reply_is = refl; cached_is = refl; enters_is = refl; notes_are = refl; tells_are = refl; bundles_are = refl })
        (((in_source, in_page, not-same, λ i b. host-fills (hold c held) v p i host page-alone), tt), ((λ i b. host-reads (grasp_of c held) v q i source source-alone), tt))
        (page-added (hold c held) v t gpa p (v.words q) (page_record gpa) host page-alone (record { tdr = locks.tdr; op = locks.op }) tree-alone)
        (page-added-shown m c.state c.memory t gpa p q table sh la x (map-shown m c held y table may words (page_fills full) copied))
        ((la.keys.in_range t x.alive, owes-swap), ((la.keys.in_range t x.alive, owes-swap), tt))

    ends : is_host v q ≡ true → is_host v p ≡ true → Means m c k held (addition_end m full) []
    ends source host =
        subst (λ (b : Bool). Means m c k held (done (changes_where b (page_fills full)) (changes_where b (page_changes m.pages full))) []) (sym (hkid-in m (v.tds.hkids t) (la.keys.in_range t x.alive))) (ended source host)

    -- the HKID and the child count
    counts-mean : is_host v q ≡ true → is_host v p ≡ true
        → Means m c k held (Load Whole (place.Word t TDR_HKID) (λ h. Load Whole (place.Word t TDR_CHILDREN) (λ n. addition_end m (addition h n)))) []
    counts-mean source host =
        let count : c.memory.words (place.Word t TDR_CHILDREN) ≡ children v t = tdr-shown m c.memory.words c.memory.slots c.state sh t 2 x.alive.kind x.own in_tdr (omega arith) in
        tdr-load m c k held sh t 1 (v.tds.hkids t) x.alive.kind x.own in_tdr (omega arith) refl (inl (locks.tdr, tt)) (λ h. Load Whole (place.Word t TDR_CHILDREN) (λ n. addition_end m (addition h n))) [] (
          (in_tdr, omega arith),
          inl (count-reads m c t sh x.alive x.controls held locks la tree-alone),
          subst (λ (n : ℕ). Means m c k held (addition_end m (addition (v.tds.hkids t) n)) []) (sym count) (ends source host),
        )

    pages-mean : Means m c k (tree_held t Exclusive ∷ op_lock t Exclusive ∷ page_lock t Shared ∷ []) (pages_tree t p q (λ h n. addition_end m (addition h n)))
        (page_exclusive q ∷ host_page v q ∷ page_exclusive p ∷ host_page v p ∷ [])
    pages-mean =
        let counts : Tree = Load Whole (place.Word t TDR_HKID) (λ h. Load Whole (place.Word t TDR_CHILDREN) (λ n. addition_end m (addition h n))) in
        host-page-means m c k (tree_held t Exclusive ∷ op_lock t Exclusive ∷ page_lock t Shared ∷ []) sh q in_source (host_page_tree p counts) (page_exclusive p ∷ host_page v p ∷ [])
        (λ source. host-page-means m c k (page_lock q Exclusive ∷ tree_held t Exclusive ∷ op_lock t Exclusive ∷ page_lock t Shared ∷ []) sh p in_page counts [] (λ host. counts-mean source host))

pub page_add-means : (pl : Place) (t gpa p q : ℕ) → IsMachine pl.machine → MeansRow (page_add_task pl t gpa p q)
unfolding page_add_tree
page_add-means pl t gpa p q limits = record {
  means = λ c at.
      (let m : Machine = pl.machine in
      let k : Work = work_of (OfCall (add_page m t gpa p q)) in
      let rest : List (Item Reply) = state_in c.state.world t gpa 0 (entry.Free ∷ []) ∷ page_exclusive q ∷ host_page c.state.world q ∷ page_exclusive p ∷ host_page c.state.world p ∷ [] in
      checks-mean m c k [] (page_add_arguments m t gpa p q) (td_tree m.pages t gpa p q (λ a. addition_end m a)) (td_row c.state.world t Exclusive initialized ++ tree_exclusive t ∷ (walk c.state.world t gpa 0 ++ rest)) (λ a.
      let in_tdr : t < m.pages = ltb-true t m.pages a.0 in
      let small : gpa < 2 ^ 47 = ltb-true gpa (2 ^ 47) a.1.0 in
      row-find-means m c k t in_tdr limits.pages.1 at.lawful at.shown alone initialized tt gpa 0 small (omega arith)
      (λ found. state_tree found.entry (entry.Free ∷ []) (pages_tree t p q (λ hk n. addition_end m (record { tdr = t; gpa = gpa; page = p; source = q; table = found.page; hkid = hk; children = n })))) rest
      (λ x page has. (
        refl,
        λ e. refl,
        λ free. pages-mean m c t gpa p q limits in_tdr small (ltb-true p m.pages a.1.1.0) (ltb-true q m.pages a.1.1.1.0) (not-true (p == t) a.1.1.1.1.0) (not-true (q == t) a.1.1.1.1.1.0) (not-true (q == p) a.1.1.1.1.1.1.0) at.lawful at.shown x page has,
      ))));
}
