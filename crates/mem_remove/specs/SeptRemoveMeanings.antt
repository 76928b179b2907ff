-- The leaf that removes a secure EPT page means its row.
use Rattle.std.proofs.Common.{◌≡◌, ℕ, zero, suc, ◌+◌, ◌-◌, ◌*◌, ◌%◌, ◌^◌, ◌<◌, ◌≤◌, Bool, true, false, not, ◌==◌, ◌&&◌, nat_lt, if◌then◌else◌, List, [], ◌∷◌, ◌++◌, refl, ap, sym, ◌∙◌, subst, inl, arith}
use Rattle.std.specs.Prelude.{nat_le}
use Rattle.std.proofs.lemmas.Bool.{ltb-true, leb-true, and_parts}
use Rattle.td_words.specs.declared.names.EntryState.TheVariants as entry
use Rattle.td_words.specs.declared.names.PageKind.TheVariants as kind
use Rattle.td_words.specs.declared.machines.Machine.{Machine}
use Rattle.td_words.specs.declared.refusals.Status.{Status}
use Rattle.td_words.specs.declared.refusals.Status.TheVariants.{OperandInvalid, SeptNotEmpty}
use Rattle.td_words.specs.declared.replies.Reply.{Reply}
use Rattle.td_words.specs.declared.replies.Value.TheVariants as value
use Rattle.td_words.specs.declared.replies.Reply.TheVariants.{Done}
use Rattle.td_words.specs.Limits.{IsMachine}
use Rattle.td_words.specs.Packing.{Entry}
use Rattle.td_words.specs.Place as place
use Rattle.flat_core.specs.World.{World}
use Rattle.flat_core.specs.Processor.{OfTree, Held}
use Rattle.flat_core.specs.Access.{LawfulEpochs}
use Rattle.flat_core.specs.Arguments.{level_size}
use Rattle.flat_core.specs.Row.{Item, needs}
use Rattle.flat_core.specs.Conditions.{children, blocking_ops}
use Rattle.flat_core.specs.Lawful.{Lawful, IsAlive, IsNodeOf}
use Rattle.flat_core.specs.Tracking.{tracked_page}
use Rattle.flat_core.specs.Tree.{entry_at, number_at, same_state, first_used, none_used, index_shown, is_used_below, empty_below}
use Rattle.flat_core.specs.MemRows.{named_row, remove_sept}
use Rattle.flat_core.proofs.Ranges.{sept_removed}
use Rattle.flat_core.proofs.Tests.{by_test}
use Rattle.sept_walk.specs.SecureEpt.{index_at}
use Rattle.word_rules.specs.Cells.{Shows}
use Rattle.word_rules.specs.Rules.{Whole, reads}
use Rattle.word_rules.specs.Spots.{Spot, entry_named}
use Rattle.word_rules.specs.Permissions.{MayAt, Reads}
use Rattle.lock_words.specs.Grips.{holds_alone}
use Rattle.act_rules.proofs.Rows.{unmapped}
use Rattle.leaf_engine.specs.declared.needs.Place.{Place}
use Rattle.leaf_engine.specs.Trees.{Tree, Load, End, only}
use Rattle.leaf_engine.specs.Trees as tree
use Rattle.leaf_engine.specs.Means.{Instant, Means, MeansRow, Acts, Work, work_of, OfCall, hold}
use Rattle.leaf_parts.proofs.Begun.{TwoControls}
use Rattle.leaf_parts.proofs.Checks.{checks-mean}
use Rattle.sept_parts.specs.SeptPages.{HoldsTree}
use Rattle.sept_parts.specs.SeptWords.{entry_told}
use Rattle.sept_parts.proofs.SeptLocks.{loads, count-reads}
use Rattle.sept_parts.proofs.SeptTold.{node-shown, node-spot, told-back}
use Rattle.mem_remove.specs.NamedTrees.{named_tree}
use Rattle.mem_remove.specs.NamedMeanings.{IsNamed, HoldsNamed, holds-named, named_locks, named-locks-stay, named-means}
use Rattle.mem_remove.specs.TrackedMeanings.{tracked-means}
use Rattle.mem_remove.specs.RemoveTrees.{is_used, scan_tree, remove_changes, given_tree, remove_rest, sept_remove_rest, sept_remove_task}
use Rattle.mem_remove.specs.RemoveMeanings.{owned, stands-on, children-told, may-remove}
use Rattle.mem_remove.specs.RemoveShows.{removed-shown}

-- The entries of a secure EPT page, under T alone: the first that isn't FREE, as the words tell it.
module _ (m : Machine) (c : Instant) (k : Work) (t p l n : ℕ) (hs : List Held) (in_tdr : t < m.pages) (limit : m.pages ≤ 1024) (la : Lawful m c.state.world) (sh : Shows m c.memory.words c.memory.slots c.state) (alive : IsAlive c.state.world.pages c.state.world.tds t) (x : TwoControls m c.state.world t)
    (node : IsNodeOf c.state.world.pages t p kind.Ept (suc l) n) (p_in : p < m.pages) (locks : HoldsTree (hs ++ c.kept) t) (alone : holds_alone (hs ++ c.kept) (OfTree t) ≡ true)
    (used : ℕ → Bool) (used-is : (i : ℕ) → used i ≡ not (same_state (c.state.world.tds.entries t l (512 * n + i)).state entry.Free)) where
  abbrev w : World
  w = c.state.world

  used-told : (i : ℕ) → i < 512 → is_used m.pages (c.memory.words (place.Word p i)) ≡ used i
  used-told i b = ap (λ (e : Entry). not (same_state e.state entry.Free)) (ap (entry_told m.pages) (node-shown m c.memory c.state t sh alive x p l n i node p_in b) ∙ told-back m w t in_tdr limit la alive l (512 * n + i)) ∙ sym (used-is i)

  entry-loads : (i : ℕ) → Reads (hold c hs) w (place.Word p i) Whole
  entry-loads i = subst (λ (s : Spot). MayAt (hold c hs) s (λ z. reads z Whole)) (sym (node-spot m c.memory c.state t sh alive x p l n i node)) (loads (hold c hs) w t p (entry_named w t (suc l) n i) locks.tdr locks.op locks.tree l (inl alone))

  module _ (further : Tree) (rest : List (Item Reply)) where
    abbrev none_from : (at left : ℕ) → List (Item Reply)
    none_from at left = needs (none_used (first_used used at left)) (SeptNotEmpty (index_shown (first_used used at left))) ∷ rest

    pub scan-means : (left at : ℕ) → at + left ≤ 512 → (none_used (first_used used at left) ≡ true → Means m c k hs further rest) → Means m c k hs (scan_tree m.pages p at left further) (none_from at left)
    unfolding scan_tree
    scan-means zero at fits h = (refl, λ e. refl, λ e. h refl)
    scan-means (suc left) at fits h =
        let b : at < 512 = omega (arith, fits) in (
          (p_in, b),
          inl (entry-loads at),
          subst (λ (z : Bool). Means m c k hs (if z then tree.needs false (SeptNotEmpty at) further else scan_tree m.pages p (suc at) left further) (none_from at (suc left))) (sym (used-told at b))
              (by_test (used at)
              (λ y. rw y (refl, λ e. refl, λ e. cc))
              (λ f. rw f (scan-means left (suc at) (omega (arith, fits)) (rw f at h)))),
        )

-- MEM.SEPT.REMOVE of a page whose entries are of level l
module _ (m : Machine) (c : Instant) (t gpa l : ℕ) (in_tdr : t < m.pages) (limit : m.pages ≤ 1024) (la : Lawful m c.state.world) (sh : Shows m c.memory.words c.memory.slots c.state) (epochs : LawfulEpochs c.state.world) (small : gpa < 2 ^ 47) (x : IsNamed m c.state.world t gpa (suc l) (entry.NlBlocked ∷ [])) where
  abbrev v : World
  v = c.state.world

  abbrev q : ℕ
  q = (entry_at c.state.world t (suc l) gpa).page

  abbrev work : Work
  work = work_of (OfCall (remove_sept m t gpa (suc l)))

  abbrev index : ℕ
  index = index_at (suc l) gpa

  abbrev held : List Held
  held = named_locks t q

  holds-it : HoldsNamed (held ++ c.kept) t q
  holds-it = holds-named t q c.kept x.apart

  its-act : Acts m c work held (only (Done value.Nothing)) [] (remove_changes t x.page index q (children v t))
  its-act = record {
    answers = record { reply_is = refl; cached_is = refl; enters_is = refl; notes_are = refl; tells_are = refl; bundles_are = refl };
    fills_allowed = tt;
    respects = unmapped (hold c held) v t (suc l) (number_at (suc l) gpa) x.node.page.kind x.node.page.owner (record { tdr = holds-it.tree.tdr; op = holds-it.tree.op }) holds-it.tree_alone holds-it.page_alone;
    locks_stay = named-locks-stay v (work.act v) t q refl (stands-on m c t gpa (suc l) (entry.NlBlocked ∷ []) in_tdr la sh small x v.hidden.memories);
    shows = removed-shown m c.state c.memory t gpa (suc l) q x.page sh la x.td.alive x.td.controls small x.has (owned m c t gpa (suc l) (entry.NlBlocked ∷ []) in_tdr la sh small x v.hidden.memories) x.node.page.owner x.apart v.hidden.memories;
  }

  given-means : Means m c work held (given_tree t x.page index q) []
  given-means = (
    (in_tdr, omega arith),
    inl (count-reads m c t sh x.td.alive x.td.controls held holds-it.tree la holds-it.tree_alone),
    subst (λ (n : ℕ). Means m c work held (End (only (Done value.Nothing)) [] (remove_changes t x.page index q n)) []) (sym (children-told m c t gpa (suc l) (entry.NlBlocked ∷ []) in_tdr la sh small x v.hidden.memories))
        (its-act, may-remove m c t gpa (suc l) (entry.NlBlocked ∷ []) in_tdr la sh small x v.hidden.memories),
  )

  -- TD_EPOCH has begun
  begun : 1 ≤ v.tds.epochs t
  begun = la.tds.epoch_begun t (λ o. let no = rw o at x.td.op in cc)

  untracked-means : Means m c work held (remove_rest t index (record { tdcs = x.td.controls.tdcs; page = x.page; entry = entry_at v t (suc l) gpa })) (tracked_page v t q ∷ [])
  untracked-means =
      tracked-means m c (remove_sept m t gpa (suc l)) t held la sh epochs blocking_ops x.td begun holds-it.tree.tdr holds-it.tree.op holds-it.epoch (omega (arith, limit)) q x.in_machine holds-it.page (given_tree t x.page index q) [] (λ y. given-means)

  -- the entries of the page are those one level below
  below-is : (i : ℕ) → is_used_below v t gpa (suc l) i ≡ not (same_state (v.tds.entries t l (512 * number_at (suc l) gpa + i)).state entry.Free)
  below-is i = (let one : suc l - 1 ≡ l = omega arith in ap (λ (z : ℕ). not (same_state (v.tds.entries t z (512 * number_at (suc l) gpa + i)).state entry.Free)) one)

  pub sept_remove_rest-means : Means m c work held (sept_remove_rest m.pages t index (record { tdcs = x.td.controls.tdcs; page = x.page; entry = entry_at v t (suc l) gpa })) (empty_below v t gpa (suc l) ∷ tracked_page v t q ∷ [])
  sept_remove_rest-means =
      scan-means m c work t q l (number_at (suc l) gpa) held in_tdr limit la sh x.td.alive x.td.controls x.node x.in_machine holds-it.tree holds-it.tree_alone
      (is_used_below v t gpa (suc l)) below-is (remove_rest t index (record { tdcs = x.td.controls.tdcs; page = x.page; entry = entry_at v t (suc l) gpa })) (tracked_page v t q ∷ []) 512 0 (omega arith) (λ e. untracked-means)

abbrev arguments : Machine → (t gpa level : ℕ) → List (Bool × Status)
arguments m t gpa level = (nat_lt t m.pages, OperandInvalid 1) ∷ (nat_lt gpa (2 ^ 47), OperandInvalid 2) ∷ (nat_le 1 level && nat_le level 3, OperandInvalid 3) ∷ (gpa % level_size level == 0, OperandInvalid 2) ∷ []

pub sept_remove-means : (r : Place) (t gpa level : ℕ) → IsMachine r.machine → MeansRow (sept_remove_task r t gpa level)
sept_remove-means r t gpa level limits = record {
  means = λ c at.
      (let m : Machine = r.machine in
      let w : World = c.state.world in
      let k : Work = work_of (OfCall (remove_sept m t gpa level)) in
      let rest : List (Item Reply) = empty_below w t gpa level ∷ tracked_page w t (entry_at w t level gpa).page ∷ [] in
      checks-mean m c k [] (arguments m t gpa level) (named_tree m.pages t gpa level (entry.NlBlocked ∷ []) (sept_remove_rest m.pages t (index_at level gpa))) (named_row w t gpa level (entry.NlBlocked ∷ []) rest) (λ a.
      let in_tdr : t < m.pages = ltb-true t m.pages a.0 in
      let small : gpa < 2 ^ 47 = ltb-true gpa (2 ^ 47) a.1.0 in
      let both = and_parts (nat_le 1 level) (nat_le level 3) a.1.1.0 in
      named-means m c k t in_tdr limits.pages.1 at.lawful at.shown gpa level small (leb-true level 3 both.1) (entry.NlBlocked ∷ []) (λ s h. (sept_removed s h).used) (sept_remove_rest m.pages t (index_at level gpa)) rest
      (λ x. by-level c level (leb-true 1 level both.0) in_tdr at.lawful at.shown at.facts.access.epochs small x)));
}
  where
    by-level : (c : Instant) (lv : ℕ) → 1 ≤ lv → t < r.machine.pages → Lawful r.machine c.state.world → Shows r.machine c.memory.words c.memory.slots c.state → LawfulEpochs c.state.world → gpa < 2 ^ 47 → (x : IsNamed r.machine c.state.world t gpa lv (entry.NlBlocked ∷ []))
        → Means r.machine c (work_of (OfCall (remove_sept r.machine t gpa lv))) (named_locks t (entry_at c.state.world t lv gpa).page) (sept_remove_rest r.machine.pages t (index_at lv gpa) (record { tdcs = x.td.controls.tdcs; page = x.page; entry = entry_at c.state.world t lv gpa }))
        (empty_below c.state.world t gpa lv ∷ tracked_page c.state.world t (entry_at c.state.world t lv gpa).page ∷ [])
    by-level c zero least in_tdr la sh epochs small x = absurd (omega (arith, least))
    by-level c (suc l) least in_tdr la sh epochs small x = sept_remove_rest-means r.machine c t gpa l in_tdr limits.pages.1 la sh epochs small x
