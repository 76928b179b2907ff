-- The leaf that moves a private page means its row.
use Rattle.std.proofs.Common.{◌≡◌, ◌≢◌, ℕ, ◌^◌, ◌<◌, ◌≤◌, Bool, true, false, ◌==◌, List, [], ◌∷◌, ◌++◌, refl, sym, ◌∙◌, inl, arith}
use Rattle.std.specs.List.{list_any}
use Rattle.std.proofs.lemmas.Bool.{eq-eqb, ltb-true, not-true}
use Rattle.td_words.specs.declared.names.EntryState.{EntryState}
use Rattle.td_words.specs.declared.names.EntryState.TheVariants as entry
use Rattle.td_words.specs.declared.names.OpState.TheVariants as op
use Rattle.td_words.specs.declared.names.Mode.TheVariants.{Exclusive}
use Rattle.td_words.specs.declared.machines.Machine.{Machine}
use Rattle.td_words.specs.declared.replies.Reply.{Reply}
use Rattle.td_words.specs.Limits.{IsMachine}
use Rattle.flat_core.specs.World.{World}
use Rattle.flat_core.specs.Processor.{OfPage, Held}
use Rattle.flat_core.specs.Access.{may_be_exempt}
use Rattle.flat_core.specs.Row.{Item}
use Rattle.flat_core.specs.Conditions.{is_host, page_exclusive, host_page, blocking_ops}
use Rattle.flat_core.specs.Lawful.{Lawful}
use Rattle.flat_core.specs.Tracking.{tracked_page, is_tracked}
use Rattle.flat_core.specs.Tree.{entry_at, number_at, same_state}
use Rattle.flat_core.specs.MemRows.{named_row, removed_states, another_page, move_page, relocate_page}
use Rattle.flat_core.proofs.Ranges.{page_removed}
use Rattle.flat_laws.specs.Unreached.{unchanged_in}
use Rattle.sept_walk.specs.SecureEpt.{index_at}
use Rattle.sept_walk.proofs.Meets.{split}
use Rattle.word_rules.specs.Cells.{Shows}
use Rattle.word_rules.specs.Guards.{Written}
use Rattle.word_rules.specs.Rules.{KeepsNothing}
use Rattle.lock_words.specs.Grips.{holds_alone, clear_of}
use Rattle.lock_words.specs.LockWords.{TdStands}
use Rattle.act_rules.proofs.Rows.{page-moved-on}
use Rattle.leaf_engine.specs.declared.needs.Place.{Place}
use Rattle.leaf_engine.specs.Changes.{Memory, Copy, changed}
use Rattle.leaf_engine.specs.Facts.{Facts}
use Rattle.leaf_engine.specs.Means.{Instant, Means, MeansRow, FillsAllowed, MayChangeBy, Work, work_of, OfCall, hold, grasp_of}
use Rattle.leaf_parts.proofs.Aside.{turned}
use Rattle.leaf_parts.proofs.Begun.{page_lock}
use Rattle.leaf_parts.proofs.Checks.{checks-mean, host-page-means}
use Rattle.leaf_parts.proofs.HostPages.{tdr-apart, host-fills}
use Rattle.leaf_parts.proofs.Told.{only-op}
use Rattle.sept_parts.proofs.SeptLocks.{entry-writes}
use Rattle.mem_remove.specs.declared.named_entries.Named.{Named}
use Rattle.mem_remove.specs.NamedTrees.{named_tree}
use Rattle.mem_remove.specs.NamedMeanings.{IsNamed, HoldsNamed, named_locks, named-locks-stay, named-means}
use Rattle.mem_remove.specs.TrackedTrees.{tracked_tree}
use Rattle.mem_remove.specs.TrackedMeanings.{tracked-means}
use Rattle.mem_remove.proofs.Clear.{unchanged-is-clear, private-reads}
use Rattle.relocate_core.specs.RelocateTrees.{relocate_changes, relocate_end, relocate_rest, relocate_arguments, page_relocate_task}
use Rattle.relocate_core.specs.RelocateShows.{relocated-shown}

-- an entry that can be removed lets nobody write, once its block is tracked
closed : (s : EntryState) (over exempt : Bool) → list_any (λ a. same_state a s) removed_states ≡ true → over ≡ true → unchanged_in s over exempt ≡ true
closed entry.Blocked over exempt h tracked = tracked
closed entry.PendingBlocked over exempt h tracked = refl
closed _ over exempt h tracked = cc

module _ (m : Machine) (c : Instant) (t gpa page : ℕ) (in_tdr : t < m.pages) (limit : m.pages ≤ 1024) (in_page : page < m.pages) (page-t : (page == t) ≡ false) (la : Lawful m c.state.world) (sh : Shows m c.memory.words c.memory.slots c.state)
    (facts : Facts c.state) (small : gpa < 2 ^ 47) (x : IsNamed m c.state.world t gpa 0 removed_states) where
  abbrev v : World
  v = c.state.world

  abbrev old : ℕ
  old = (entry_at c.state.world t 0 gpa).page

  abbrev k : Work
  k = work_of (OfCall (relocate_page m t gpa page))

  abbrev v' : World
  v' = move_page t (number_at 0 gpa) page c.state.world

  abbrev hs : List Held
  hs = page_lock page Exclusive ∷ named_locks t old

  abbrev named : Named
  named = record { tdcs = x.td.controls.tdcs; page = x.page; entry = entry_at c.state.world t 0 gpa }

  begun : 1 ≤ v.tds.epochs t
  begun = la.tds.epoch_begun t (λ o. let no = rw o at x.td.op in cc)

  module _ (other : (page == old) ≡ false) (host : is_host c.state.world page ≡ true) where
    itself : (a : ℕ) → (a == a) ≡ true
    itself a = eq-eqb a a refl

    locks : HoldsNamed (hs ++ c.kept) t old
    locks = record {
      tree = record { tdr = rw (page-t, x.apart, itself t) refl; op = rw (itself t) refl; tree = rw (itself t) refl };
      epoch = rw (itself t) refl;
      tree_alone = rw (itself t) refl;
      page = rw (other, itself old) refl;
      page_alone = rw (other, itself old) refl;
    }

    new-alone : holds_alone (hs ++ c.kept) (OfPage page) ≡ true
    new-alone = rw (itself page) refl

    -- the TD stays where it is
    stands-on : TdStands v t → TdStands v' t
    stands-on z = record {
      alive = record { kind = rw (tdr-apart v t page x.td.alive.kind host, turned old t x.apart) x.td.alive.kind; life = x.td.alive.life };
      has_tdcs = z.has_tdcs;
    }

    -- before the act nobody sees what is stored in the host's page, and nobody else may write to the old one, so its words are the
    -- same until the act
    fills : is_tracked v t old ≡ true → FillsAllowed m (hold c hs) (grasp_of c hs) v (Copy old page ∷ [])
    fills tracked =
        let e : EntryState = (entry_at v t 0 gpa).state in
        let clear : clear_of c.state c.me (Written old) ≡ true =
        unchanged-is-clear m c la facts t (number_at 0 gpa) x.td.alive (page_removed e x.state).used (closed e (is_tracked v t old) (may_be_exempt (v.tds.ops t)) x.state tracked) in
        let differ : old ≢ page = λ e. let no : true ≡ false = sym (eq-eqb page old (sym e)) ∙ other in cc in (
          ((x.in_machine, in_page, differ, λ i b. host-fills (hold c hs) v page i host new-alone), tt),
          (
            (λ i b. private-reads (grasp_of c hs) v t old op.Runnable x.node.page (only-op op.Runnable (v.tds.ops t) x.td.op) (inl (locks.tree.tdr, (locks.tree.op, (locks.page, (clear, tt))))) i),
            tt,
          ),
        )

    -- the act, and what comes behind it: the old page is the host's then
    changes : (mem : Memory) → MayChangeBy m (hold c hs) (hold c hs) v v' mem (relocate_changes t x.page (index_at 0 gpa) (entry_at v t 0 gpa).state old page)
    changes mem = (
      ((x.has.in_machine, split.index 0 gpa), (KeepsNothing, entry-writes m c t sh x.td.alive x.td.controls hs locks.tree gpa x.page 0 small x.has KeepsNothing locks.tree_alone, tt)),
      (
        (in_page, (KeepsNothing, inl (new-alone, tt), tt)),
        (
          (x.in_machine, λ i j. rw (turned page old other, itself old) (inl (locks.page_alone, tt))),
          ((x.in_machine, (KeepsNothing, inl (locks.page_alone, tt), tt)), tt),
        ),
      ),
    )

    ended : is_tracked v t old ≡ true → Means m c k hs (relocate_end t (index_at 0 gpa) page named) []
    ended tracked = (
      record {
        answers = record { reply_is = refl; cached_is = refl; enters_is = refl; notes_are = refl; tells_are = refl; bundles_are = refl };
        fills_allowed = fills tracked;
        respects = page-moved-on (hold c hs) v t gpa page x.node.page.kind x.node.page.owner other host (record { tdr = locks.tree.tdr; op = locks.tree.op }) locks.tree_alone locks.page_alone new-alone;
        locks_stay = ((refl, λ z. z), named-locks-stay v v' t old refl stands-on);
        shows = relocated-shown m c t gpa page in_tdr in_page la sh small x host other hs locks new-alone;
      },
      changes (changed (Copy old page) c.memory),
    )

    tracked : Means m c k hs (tracked_tree x.td.controls.tdcs old (relocate_end t (index_at 0 gpa) page named)) (tracked_page v t old ∷ [])
    tracked =
        tracked-means m c (relocate_page m t gpa page) t hs la sh facts.access.epochs blocking_ops x.td begun locks.tree.tdr locks.tree.op locks.epoch (omega (arith, limit)) old x.in_machine locks.page
        (relocate_end t (index_at 0 gpa) page named) [] ended

  pub rest-means : Means m c k (named_locks t old) (relocate_rest t (index_at 0 gpa) page named) (another_page v t gpa page ∷ page_exclusive page ∷ host_page v page ∷ tracked_page v t old ∷ [])
  rest-means = (
    refl,
    λ e. refl,
    λ differs.
        host-page-means m c k (named_locks t old) sh page in_page (tracked_tree x.td.controls.tdcs old (relocate_end t (index_at 0 gpa) page named)) (tracked_page v t old ∷ [])
        (λ host. tracked (not-true (page == old) differs) host),
  )

pub page_relocate-means : (r : Place) (t gpa page : ℕ) → IsMachine r.machine → MeansRow (page_relocate_task r t gpa page)
page_relocate-means r t gpa page limits = record {
  means = λ c at.
      (let m : Machine = r.machine in
      let w : World = c.state.world in
      let k : Work = work_of (OfCall (relocate_page m t gpa page)) in
      let rest : List (Item Reply) = another_page w t gpa page ∷ page_exclusive page ∷ host_page w page ∷ tracked_page w t (entry_at w t 0 gpa).page ∷ [] in
      checks-mean m c k [] (relocate_arguments m t gpa page) (named_tree m.pages t gpa 0 removed_states (relocate_rest t (index_at 0 gpa) page)) (named_row w t gpa 0 removed_states rest) (λ a.
      let in_tdr : t < m.pages = ltb-true t m.pages a.0 in
      let small : gpa < 2 ^ 47 = ltb-true gpa (2 ^ 47) a.1.0 in
      named-means m c k t in_tdr limits.pages.1 at.lawful at.shown gpa 0 small (omega arith) removed_states (λ s h. (page_removed s h).used) (relocate_rest t (index_at 0 gpa) page) rest
      (λ x. rest-means m c t gpa page in_tdr limits.pages.1 (ltb-true page m.pages a.1.1.0) (not-true (page == t) a.1.1.1.0) at.lawful at.shown at.facts small x)));
}
