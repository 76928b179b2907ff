-- The leaf that accepts a private page means its row.
use Rattle.std.proofs.Common.{◌≡◌, ℕ, suc, ◌^◌, ◌<◌, ◌≤◌, Bool, true, false, not, ◌==◌, ◌||◌, ◌&&◌, List, [], ◌∷◌, ◌++◌, slice_index, refl, ap, sym, ◌∙◌, subst, inl, inr, lit<, arith, ◌⊎◌}
use Rattle.std.proofs.lemmas.Bool.{eq-eqb, ne_eqb, lt-ltb}
use Rattle.td_words.specs.declared.names.EntryState.{EntryState}
use Rattle.td_words.specs.declared.names.EntryState.TheVariants as entry
use Rattle.td_words.specs.declared.names.PageKind.TheVariants as kind
use Rattle.td_words.specs.declared.names.Mode.TheVariants.{Shared, Exclusive}
use Rattle.td_words.specs.declared.names.Access.TheVariants.{Write}
use Rattle.td_words.specs.declared.machines.Machine.{Machine}
use Rattle.td_words.specs.declared.replies.Reply.{Reply}
use Rattle.td_words.specs.Packing.{Entry, entry_word, is_lawful_entry}
use Rattle.td_words.specs.Place as place
use Rattle.td_words.proofs.Unpacked.{packings}
use Rattle.flat_core.specs.World.{World}
use Rattle.flat_core.specs.Processor.{OfPage, OfOp, OfTree, Held}
use Rattle.flat_core.specs.Effects.{pass_operation, tell_words, set_entry}
use Rattle.flat_core.specs.Row.{Item, Try}
use Rattle.flat_core.specs.Tree.{entry_at, number_at, same_state, may_read, is_passed}
use Rattle.flat_core.specs.Guest.{accept, accept_page, names_page, is_pending_at, unless_violated}
use Rattle.flat_core.specs.Lawful.{Lawful, is_free, IsNodeOf}
use Rattle.flat_core.specs.Access.{is_pending}
use Rattle.flat_core.proofs.Maps.{not_free}
use Rattle.flat_core.proofs.Tests.{by_test}
use Rattle.sept_walk.specs.SecureEpt.{index_at, is_mapped_on}
use Rattle.sept_walk.proofs.Meets.{split}
use Rattle.word_rules.specs.Rules.{ThePage, KeepsNothing, KeepsPage}
use Rattle.word_rules.specs.Permissions.{Respects}
use Rattle.word_rules.specs.Views.{no_page, named_by, look, of_entry}
use Rattle.word_rules.specs.Cells.{Shows}
use Rattle.lock_words.specs.Grips.{holds, holds_alone}
use Rattle.lock_words.specs.LockWords.{tdcs_of}
use Rattle.leaf_engine.specs.Facts.{GuestFits, Facts}
use Rattle.leaf_engine.specs.Trees.{Tree, done}
use Rattle.leaf_engine.specs.Changes.{changed_all, Change, Clear, changed}
use Rattle.leaf_engine.specs.Means.{Instant, Means, Work, work_of, OfOperation, IsAtOperation, hold, grasp_of, exit_item, LocksStay, MayChangeBy, MayFill, FillsAllowed}
use Rattle.leaf_parts.specs.Words.{page_told}
use Rattle.leaf_parts.proofs.Begun.{TwoControls, page-in, page_lock, holds-newest, alone-newest}
use Rattle.leaf_parts.proofs.Checks.{tdr-load}
use Rattle.leaf_parts.proofs.Told.{page-back}
use Rattle.sept_parts.specs.SeptPages.{HasEntry, HoldsTree}
use Rattle.sept_parts.proofs.SeptTold.{said, named-in}
use Rattle.sept_parts.proofs.SeptLocks.{tree_held, upper-reads, page-reads, named-reads, named-writes}
use Rattle.sept_parts.proofs.SeptBegun.{tree-lock-means, root-page-means, entry-means}
use Rattle.sept_parts.specs.SeptTrees.{root_page_tree}
use Rattle.access_core.specs.OperationTrees.{with_position, put_next, unless_violation}
use Rattle.access_core.specs.VpShows.{passed-shown}
use Rattle.access_core.specs.GuestWords.{held-under, writes-beside, kept-respects, vp-in, vp-writes, position-load, vp-owes}
use Rattle.access_core.specs.RtmrMeanings.{running-controls}
use Rattle.word_rules.proofs.Conflicts.{respects-compose}
use Rattle.act_rules.proofs.Respected.{effects-respect}
use Rattle.access_core.specs.AcceptReach.{pending-may-be-filled}
use Rattle.access_core.specs.AcceptShows.{accepted-shown}
use Rattle.access_core.specs.AcceptTrees.{map_entry, or_violation, passed_tree, passed_walk, accepted, accept_held, accept_named, accept_found, accept_at, accept_tree, AcceptMeans}

-- an entry names a page exactly where it isn't FREE
named-free : (e : Entry) → is_free e.state ≡ true → named_by e ≡ no_page
named-free e f = rw f refl

named-page : (e : Entry) → is_free e.state ≡ false → named_by e ≡ e.page
named-page e f = rw f refl

same-free : (s : EntryState) → same_state s entry.Free ≡ is_free s
same-free entry.Free = refl
same-free entry.Mapped = refl
same-free entry.Blocked = refl
same-free entry.Pending = refl
same-free entry.PendingBlocked = refl
same-free entry.NlMapped = refl
same-free entry.NlBlocked = refl
same-free entry.BlockedW = refl
same-free entry.ExportedBlockedW = refl
same-free entry.ExportedDirty = refl
same-free entry.ExportedDirtyBlockedW = refl

-- the row's first condition, level by level
fails-top : (a b c d : Bool) → a ≡ false → false ≡ ((a && (b && (c && true))) && d)
fails-top false b c d e = refl
fails-top true b c d e = cc

fails-second : (a b c d : Bool) → a ≡ true → b ≡ false → false ≡ ((a && (b && (c && true))) && d)
fails-second true false c d e f = refl
fails-second _ _ c d e f = cc

fails-third : (a b c d : Bool) → a ≡ true → b ≡ true → c ≡ false → false ≡ ((a && (b && (c && true))) && d)
fails-third true true false d e f g = refl
fails-third _ _ _ d e f g = cc

is-last : (a b c d x : Bool) → a ≡ true → b ≡ true → c ≡ true → x ≡ d → x ≡ ((a && (b && (c && true))) && d)
is-last true true true d x e f g h = h
is-last _ _ _ d x e f g h = cc

last-of : (a b c d : Bool) → ((a && (b && (c && true))) && d) ≡ true → d ≡ true
last-of true true true d e = e
last-of _ _ _ d e = cc

not-true : (b : Bool) → not b ≡ true → b ≡ false
not-true false e = refl
not-true true e = cc

pending-waits : (s : EntryState) → same_state s entry.Pending ≡ true → is_pending s ≡ true
pending-waits entry.Pending e = refl
pending-waits entry.PendingBlocked e = refl
pending-waits _ e = cc

-- an entry that names a page and becomes MAPPED is lawful
mapped-lawful : (p : ℕ) → p < 1024 → is_lawful_entry (record { state = entry.Mapped; page = p; mark = 0 }) ≡ true
mapped-lawful p few = rw (lt-ltb p 1024 few) refl

module _ (m : Machine) (c : Instant) (t v gpa : ℕ) (limit : m.pages ≤ 1024) (small : gpa < 2 ^ 47) (la : Lawful m c.state.world) (sh : Shows m c.memory.words c.memory.slots c.state) (fits : GuestFits c.state.world c.me c.kept t v) (starts : IsAtOperation c.state.world v)
    (facts : Facts c.state) where
  abbrev w : World
  w = c.state.world

  abbrev k : Work
  k = work_of (OfOperation t v (accept t v gpa))

  z : TwoControls m w t
  z = running-controls m c t v la fits

  in_page : t < m.pages
  in_page = la.pages.in_machine t (let is = fits.alive.kind in rw is refl)

  inside : v < m.pages
  inside = vp-in m c t v la sh fits

  abbrev e : Entry
  e = entry_at w t 0 gpa

  abbrev tree : List Held
  tree = tree_held t Shared ∷ []

  locks : HoldsTree (tree ++ c.kept) t
  locks = record { tdr = fits.tdr_held; op = fits.op_held; tree = rw (eq-eqb t t refl) refl }

  abbrev both : ℕ → List Held
  both p = page_lock p Exclusive ∷ tree

  both-locks : (p : ℕ) → HoldsTree (both p ++ c.kept) t
  both-locks p = record {
    tdr = held-under (both p) c.kept (OfPage t) fits.tdr_held;
    op = held-under (both p) c.kept (OfOp t) fits.op_held;
    tree = held-under (page_lock p Exclusive ∷ []) (tree ++ c.kept) (OfTree t) locks.tree;
  }

  -- what is to show of an end that makes this world
  record Ends (fills changes : List Change) (w' : World) : Type 0 where
    pub bundles_are : w'.outgoing.bundles ≡ w.outgoing.bundles
    pub respects : Respects (grasp_of c (both e.page)) w w'
    pub locks_stay : LocksStay w w' (both e.page)
    pub shows : (let mem = changed_all changes (changed_all fills c.memory) in Shows m mem.words mem.slots (record c.state { world = w' }))
    pub changes_allowed : MayChangeBy m (grasp_of c (both e.page)) (hold c (both e.page)) w w' (changed_all fills c.memory) changes

  act-is : (b : Bool) → is_pending_at w t gpa ≡ b → tell_words [] (pass_operation v (accept_page b t gpa w)) ≡ k.act w
  act-is b is = ap (λ (y : Bool). tell_words [] (pass_operation v (accept_page y t gpa w))) (sym is)

  ended : (fills changes : List Change) → Ends fills changes (k.act w) → FillsAllowed m (grasp_of c (both e.page)) (grasp_of c (both e.page)) w fills → Means m c k (both e.page) (done fills changes) []
  ended fills changes ends filled = (
    record {
      answers = record { reply_is = refl; cached_is = refl; enters_is = refl; notes_are = refl; tells_are = refl; bundles_are = ends.bundles_are };
      fills_allowed = filled;
      respects = ends.respects;
      locks_stay = ends.locks_stay;
      shows = ends.shows;
    },
    ends.changes_allowed,
  )

  -- nothing but the position changes
  passes : Ends [] (put_next v (w.vps.positions v) ∷ []) (tell_words [] (pass_operation v w))
  passes =
      let one = passed-shown m c.memory.words c.memory.slots c.state sh t v fits.alive.life fits.vp_page inside starts in
      record {
        bundles_are = refl;
        respects = kept-respects (grasp_of c (both e.page)) w (tell_words [] (pass_operation v w)) refl refl refl refl;
        locks_stay = ((refl, λ y. y), ((refl, λ y. record { alive = record { kind = y.alive.kind; life = y.alive.life }; has_tdcs = y.has_tdcs }), tt));
        shows = record { word = one.word; hasher = one.hasher };
        changes_allowed = (((inside, omega arith), (KeepsNothing, vp-writes m c t v la sh fits (both e.page) 4 refl, tt)), tt);
      }

  stays-end : (at : ℕ) → is_pending_at w t gpa ≡ false → Means m c k (both e.page) (accepted false v at (index_at 0 gpa) e.page (w.vps.positions v)) []
  stays-end at stays = ended [] (put_next v (w.vps.positions v) ∷ []) (subst (λ (w' : World). Ends [] (put_next v (w.vps.positions v) ∷ []) w') (act-is false stays) passes) tt

  -- the page holds zeros, and its entry becomes MAPPED
  module _ (at : ℕ) (has : HasEntry m w t z.root at gpa 0) (full : is_free e.state ≡ false) where
    abbrev mapped : Entry
    mapped = record { state = entry.Mapped; page = e.page; mark = 0 }

    abbrev changes : List Change
    changes = map_entry at (index_at 0 gpa) e.page ∷ put_next v (w.vps.positions v) ∷ []

    abbrev w' : World
    w' = tell_words [] (pass_operation v (accept_page true t gpa w))

    its_node : IsNodeOf w.pages t e.page kind.Reg 0 (number_at 0 gpa)
    its_node = (la.tree.lowest t (number_at 0 gpa) fits.alive full).1

    table-kind : (level : ℕ) → level ≡ 0 → ((level ≡ 3) × (at ≡ z.root)) ⊎ ((level < 3) × IsNodeOf w.pages t at kind.Ept (suc level) (number_at (suc level) gpa)) → w.pages.kinds at ≡ kind.Ept
    table-kind level is (inl y) = absurd (omega (arith, is, y.0))
    table-kind level is (inr y) = y.1.page.kind

    apart : (at == e.page) ≡ false
    apart = ne_eqb at e.page (λ y. (let no : kind.Ept ≡ kind.Reg = sym (table-kind 0 refl has.node) ∙ (ap w.pages.kinds y ∙ its_node.page.kind) in cc))

    few : e.page < 1024
    few = (let small_page : e.page < m.pages = named-in m w t in_page limit la fits.alive 0 (number_at 0 gpa) full in omega (arith, small_page, limit))

    looks : look ThePage (entry_word mapped) ≡ e.page
    looks = ap (of_entry named_by) (packings.entry mapped (mapped-lawful e.page few))

    looked : look ThePage (c.memory.words (place.Word at (index_at 0 gpa))) ≡ e.page
    looked = ap (look ThePage) (said m c.memory c.state t sh fits.alive z gpa small at 0 has) ∙ (ap (of_entry named_by) (packings.entry e (la.tree.entry limit t 0 (number_at 0 gpa))) ∙ named-page e full)

    kept : look ThePage (entry_word mapped) ≡ look ThePage ((changed (Clear e.page) c.memory).words (place.Word at (index_at 0 gpa)))
    kept = looks ∙ rw apart (sym looked)

    alone : holds_alone (both e.page ++ c.kept) (OfPage (named_by e)) ≡ true
    alone = subst (λ (p : ℕ). holds_alone (both e.page ++ c.kept) (OfPage p) ≡ true) (sym (named-page e full)) (alone-newest e.page (tree ++ c.kept))

    respected : Respects (grasp_of c (both e.page)) w w'
    respected =
        let named : World = set_entry t 0 (number_at 0 gpa) mapped w in
        respects-compose.both (grasp_of c (both e.page)) w named w' ((effects-respect (grasp_of c (both e.page)) w).entry_state t 0 (number_at 0 gpa) mapped (sym (named-page e full))) (kept-respects (grasp_of c (both e.page)) named w' refl refl refl refl)

    maps : Ends (Clear e.page ∷ []) changes w'
    maps = record {
      bundles_are = refl;
      respects = respected;
      locks_stay = ((refl, λ y. y), ((refl, λ y. record { alive = record { kind = y.alive.kind; life = y.alive.life }; has_tdcs = y.has_tdcs }), tt));
      shows = accepted-shown m c.memory c.state t v gpa at sh la fits.alive z small has its_node.page.kind fits.vp_page inside starts;
      changes_allowed = (
        ((has.in_machine, split.index 0 gpa), (KeepsPage, writes-beside c (both e.page) w (place.Word at (index_at 0 gpa)) KeepsPage (named-writes m c t sh fits.alive z (both e.page) (both-locks e.page) gpa at small has alone), kept)),
        (((inside, omega arith), (KeepsNothing, vp-owes m c t v la sh fits (both e.page) w' 4 (record { kind = fits.vp_page.kind; owner = fits.vp_page.owner }) refl, tt)), tt),
      );
    }

    -- nobody reaches the page, so its zeros may be stored before the act
    filled : is_pending_at w t gpa ≡ true → MayFill m (grasp_of c (both e.page)) w (Clear e.page)
    filled pends = (
      named-in m w t in_page limit la fits.alive 0 (number_at 0 gpa) full,
      λ i b. pending-may-be-filled m c.state c.me t (number_at 0 gpa) (both e.page ++ c.kept) la facts fits.alive (pending-waits e.state pends) fits.running (both-locks e.page).tdr (both-locks e.page).op (alone-newest e.page (tree ++ c.kept)) i,
    )

    maps-end : is_pending_at w t gpa ≡ true → Means m c k (both e.page) (accepted true v at (index_at 0 gpa) e.page (w.vps.positions v)) []
    maps-end pends = ended (Clear e.page ∷ []) changes (subst (λ (y : World). Ends (Clear e.page ∷ []) changes y) (act-is true pends) maps) ((filled pends, tt), (tt, tt))

    accepted-end : Means m c k (both e.page) (accepted (is_pending_at w t gpa) v at (index_at 0 gpa) e.page (w.vps.positions v)) []
    accepted-end = by_test (is_pending_at w t gpa)
        (λ y. subst (λ (b : Bool). Means m c k (both e.page) (accepted b v at (index_at 0 gpa) e.page (w.vps.positions v)) []) (sym y) (maps-end y))
        (λ n. subst (λ (b : Bool). Means m c k (both e.page) (accepted b v at (index_at 0 gpa) e.page (w.vps.positions v)) []) (sym n) (stays-end at n))

  abbrev last : Item Reply
  last = exit_item (unless_violated Write gpa (is_pending_at w t gpa || may_read e.state))

  held-means : (at : ℕ) → HasEntry m w t z.root at gpa 0 → is_free e.state ≡ false → Means m c k (both e.page) (accept_held m v gpa at e.page) (last ∷ [])
  held-means at has full =
      let hs : List Held = both e.page in
      let named : holds (hs ++ c.kept) (OfPage (named_by e)) ≡ true = subst (λ (p : ℕ). holds (hs ++ c.kept) (OfPage p) ≡ true) (sym (named-page e full)) (holds-newest e.page Exclusive (tree ++ c.kept)) in
      entry-means m c k t in_page limit la sh fits.alive z hs gpa small at 0
      (λ f. unless_violation Write gpa (same_state f.state entry.Pending || may_read f.state) (with_position v (λ n. accepted (same_state f.state entry.Pending) v at (index_at 0 gpa) e.page n)))
      (last ∷ []) has (named-reads m c t sh fits.alive z hs (both-locks e.page) gpa at 0 small has named) (
        refl,
        λ y. refl,
        λ y. position-load m c t v la sh fits hs k (λ n. accepted (same_state e.state entry.Pending) v at (index_at 0 gpa) e.page n) []
            (accepted-end at has full),
      )

  abbrev tests : Item Reply
  tests = exit_item (unless_violated Write gpa (names_page w t gpa))

  abbrev after : List (Item Reply)
  after = Try (OfPage e.page) Exclusive ∷ last ∷ []

  lock-means : (at : ℕ) → HasEntry m w t z.root at gpa 0 → is_free e.state ≡ false → Means m c k tree (accept_named m v gpa at e.page) after
  lock-means at has full = (refl, refl, record { in_machine = named-in m w t in_page limit la fits.alive 0 (number_at 0 gpa) full; at = refl; stands = tt; allowed = inl tt }, held-means at has full)

  names-full : not (named_by e == no_page) ≡ not (same_state e.state entry.Free)
  names-full = by_test (is_free e.state)
      (λ y. ap (λ (n : ℕ). not (n == no_page)) (named-free e y) ∙ ap not (sym (same-free e.state ∙ y)))
      (λ y. (let few : e.page < m.pages = named-in m w t in_page limit la fits.alive 0 (number_at 0 gpa) y in
      let other : (e.page == no_page) ≡ false = ne_eqb e.page no_page (λ is. (absurd (omega (arith, few, limit, is)))) in
      ap (λ (n : ℕ). not (n == no_page)) (named-page e y) ∙ (ap not other ∙ ap not (sym (same-free e.state ∙ y)))))

  found-means : (at : ℕ) → HasEntry m w t z.root at gpa 0 → is_passed w t gpa 3 ≡ true → is_passed w t gpa 2 ≡ true → is_passed w t gpa 1 ≡ true → Means m c k tree (accept_found m v gpa at) (tests ∷ after)
  found-means at has a b d =
      let told : look ThePage (c.memory.words (place.Word at (index_at 0 gpa))) ≡ named_by e =
      ap (look ThePage) (said m c.memory c.state t sh fits.alive z gpa small at 0 has) ∙ ap (of_entry named_by) (packings.entry e (la.tree.entry limit t 0 (number_at 0 gpa))) in (
        (has.in_machine, split.index 0 gpa),
        inl (page-reads m c t sh fits.alive z tree locks gpa at 0 small has),
        subst (λ (p : ℕ). Means m c k tree (unless_violation Write gpa (not (p == no_page)) (accept_named m v gpa at (page_told m.pages p))) (tests ∷ after)) (sym told) (
          is-last (is_passed w t gpa 3) (is_passed w t gpa 2) (is_passed w t gpa 1) (not (same_state e.state entry.Free)) (not (named_by e == no_page)) a b d names-full,
          λ y. refl,
          λ y. (let last_is : not (same_state e.state entry.Free) ≡ true = last-of (is_passed w t gpa 3) (is_passed w t gpa 2) (is_passed w t gpa 1) (not (same_state e.state entry.Free)) y in
              let held : is_free e.state ≡ false = sym (same-free e.state) ∙ not-true (same_state e.state entry.Free) last_is in
              let back : page_told m.pages (named_by e) ≡ e.page = ap (page_told m.pages) (named-page e held) ∙ page-back m.pages e.page (named-in m w t in_page limit la fits.alive 0 (number_at 0 gpa) held) in
              subst (λ (p : ℕ). Means m c k tree (accept_named m v gpa at p) after) (sym back) (lock-means at has held)),
        ),
      )

  -- an upper entry that isn't NL_MAPPED fails the row's condition
  passed-means : (page l : ℕ) → l < 3 → HasEntry m w t z.root page gpa (suc l) → (further : ℕ → Tree) → (is_passed w t gpa (suc l) ≡ false → false ≡ names_page w t gpa)
      → ((next : ℕ) → HasEntry m w t z.root next gpa l → is_passed w t gpa (suc l) ≡ true → Means m c k tree (further next) (tests ∷ after))
      → Means m c k tree (passed_tree m.pages gpa page (suc l) further) (tests ∷ after)
  passed-means page l below has further fails h =
      entry-means m c k t in_page limit la sh fits.alive z tree gpa small page (suc l) (λ x. or_violation gpa (is_mapped_on x) (further x.page)) (tests ∷ after) has
      (upper-reads m c t sh fits.alive z tree locks gpa page l small has)
      (by_test (is_passed w t gpa (suc l))
      (λ y. (let named = la.tree.upper t l (number_at (suc l) gpa) fits.alive (not_free (entry_at w t (suc l) gpa).state y) in
      subst (λ (b : Bool). Means m c k tree (or_violation gpa b (further (entry_at w t (suc l) gpa).page)) (tests ∷ after)) (sym y)
      (h (entry_at w t (suc l) gpa).page (record { in_machine = page-in m w t (entry_at w t (suc l) gpa).page kind.Ept la named.1.page refl; node = inr (below, named.1) }) y)))
      (λ n. subst (λ (b : Bool). Means m c k tree (or_violation gpa b (further (entry_at w t (suc l) gpa).page)) (tests ∷ after)) (sym n) (fails-at (fails n))))
    where
      fails-at : false ≡ names_page w t gpa → Means m c k tree (or_violation gpa false (further (entry_at w t (suc l) gpa).page)) (tests ∷ after)
      fails-at g = (g, λ y. refl, λ y. absurd (let no : false ≡ true = g ∙ y in cc))

  walk-means : Means m c k tree (passed_walk m.pages gpa z.root (accept_found m v gpa)) (tests ∷ after)
  walk-means =
      let d : Bool = not (same_state e.state entry.Free) in
      passed-means z.root 2 (lit< tt) (record { in_machine = z.root_in; node = inl (refl, refl) }) (λ p. passed_tree m.pages gpa p 2 (λ q. passed_tree m.pages gpa q 1 (accept_found m v gpa)))
      (λ n. fails-top (is_passed w t gpa 3) (is_passed w t gpa 2) (is_passed w t gpa 1) d n)
      (λ p hp top. passed-means p 1 (lit< tt) hp (λ q. passed_tree m.pages gpa q 1 (accept_found m v gpa))
      (λ n. fails-second (is_passed w t gpa 3) (is_passed w t gpa 2) (is_passed w t gpa 1) d top n)
      (λ q hq mid. passed-means q 0 (lit< tt) hq (accept_found m v gpa)
      (λ n. fails-third (is_passed w t gpa 3) (is_passed w t gpa 2) (is_passed w t gpa 1) d top mid n)
      (λ at has low. found-means at has top mid low)))

  abbrev items : List (Item Reply)
  items = Try (OfTree t) Shared ∷ tests ∷ after

  at-means : Means m c k [] (accept_at m t v gpa z.tdcs) items
  at-means =
      tree-lock-means m c k t in_page limit la sh fits.alive z [] Shared (root_page_tree m.pages t (λ root. passed_walk m.pages gpa root (accept_found m v gpa))) (tests ∷ after) fits.tdr_held
      (root-page-means m c k t in_page limit la sh fits.alive z tree (λ root. passed_walk m.pages gpa root (accept_found m v gpa)) (tests ∷ after) locks.tdr walk-means)

  pub accept-at : Means m c k [] (accept_tree m t v gpa) items
  accept-at =
      let first : tdcs_of w t ≡ z.tdcs = ap (λ (cs : List ℕ). slice_index cs 0) z.list in
      let told : page_told m.pages (tdcs_of w t) ≡ z.tdcs = ap (page_told m.pages) first ∙ page-back m.pages z.tdcs z.tdcs_in in
      tdr-load m c k [] sh t 4 (tdcs_of w t) fits.alive.kind (la.pages.tdr t fits.alive.kind) in_page (omega arith) refl (inl (fits.tdr_held, tt)) (λ word. accept_at m t v gpa (page_told m.pages word)) items
      (subst (λ (p : ℕ). Means m c k [] (accept_at m t v gpa p) items) (sym told) at-means)

pub accept-means : AcceptMeans
accept-means p t v gpa limits small = record { means = λ c at. accept-at p.machine c t v gpa limits.pages.1 small at.lawful at.shown at.maker.1.fits at.maker.2 at.facts }
