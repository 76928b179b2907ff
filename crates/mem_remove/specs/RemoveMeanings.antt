-- The leaf that removes a private page means its row.
use Rattle.std.proofs.Common.{◌≡◌, ℕ, ◌%◌, ◌^◌, ◌<◌, ◌≤◌, Bool, false, ◌==◌, nat_lt, List, [], ◌∷◌, ◌++◌, Option, None, refl, sym, subst, inl, arith}
use Rattle.std.proofs.lemmas.Bool.{eq-eqb, ltb-true}
use Rattle.td_words.specs.declared.names.EntryState.{EntryState}
use Rattle.td_words.specs.declared.names.PageKind.{PageKind}
use Rattle.td_words.specs.declared.names.PageKind.TheVariants as kind
use Rattle.td_words.specs.declared.machines.Machine.{Machine}
use Rattle.td_words.specs.declared.places.TheConstants.{TDR_CHILDREN}
use Rattle.td_words.specs.declared.refusals.Status.{Status}
use Rattle.td_words.specs.declared.refusals.Status.TheVariants.{OperandInvalid}
use Rattle.td_words.specs.declared.replies.Reply.{Reply}
use Rattle.td_words.specs.declared.replies.Value.TheVariants as value
use Rattle.td_words.specs.declared.replies.Reply.TheVariants.{Done}
use Rattle.td_words.specs.Limits.{IsMachine}
use Rattle.td_words.specs.Place as place
use Rattle.flat_core.specs.World.{World}
use Rattle.flat_core.specs.Processor.{Held}
use Rattle.flat_core.specs.Access.{LawfulEpochs}
use Rattle.flat_core.specs.Arguments.{level_size}
use Rattle.flat_core.specs.Row.{Item}
use Rattle.flat_core.specs.Conditions.{is_host, same_kind, children, blocking_ops}
use Rattle.flat_core.specs.Effects.{unmap_page, put_in}
use Rattle.flat_core.specs.Lawful.{Lawful, IsAlive}
use Rattle.flat_core.specs.Tracking.{tracked_page}
use Rattle.flat_core.specs.Tree.{entry_at, number_at, page_of_gpa}
use Rattle.flat_core.specs.MemRows.{named_row, removed_states, remove_page}
use Rattle.flat_core.proofs.Maps.{named_owned}
use Rattle.flat_core.proofs.Ranges.{page_removed}
use Rattle.sept_walk.specs.SecureEpt.{index_at}
use Rattle.sept_walk.proofs.Meets.{split}
use Rattle.word_rules.specs.Cells.{Shows}
use Rattle.word_rules.specs.Guards.{Grip}
use Rattle.word_rules.specs.Rules.{KeepsNothing}
use Rattle.lock_words.specs.LockWords.{TdStands}
use Rattle.act_rules.proofs.Rows.{page-unmapped}
use Rattle.leaf_engine.specs.declared.needs.Place.{Place}
use Rattle.leaf_engine.specs.Trees.{End, only}
use Rattle.leaf_engine.specs.Means.{Instant, Means, MeansRow, Acts, MayChangeBy, Work, work_of, OfCall, hold}
use Rattle.leaf_parts.proofs.Aside.{turned}
use Rattle.leaf_parts.proofs.Checks.{checks-mean}
use Rattle.leaf_parts.proofs.Told.{tdr-shown}
use Rattle.sept_parts.proofs.SeptLocks.{entry-writes, count-reads, count-owes}
use Rattle.mem_remove.specs.NamedTrees.{named_tree}
use Rattle.mem_remove.specs.NamedMeanings.{IsNamed, HoldsNamed, holds-named, named_locks, named-locks-stay, named-means}
use Rattle.mem_remove.specs.TrackedMeanings.{tracked-means}
use Rattle.mem_remove.specs.RemoveTrees.{remove_changes, given_tree, remove_rest, page_remove_task}
use Rattle.mem_remove.specs.RemoveShows.{removed-shown}

-- What every removal does with the page that its entry names, whatever its guest knows then.
module _ (m : Machine) (c : Instant) (t gpa level : ℕ) (allowed : List EntryState) (in_tdr : t < m.pages) (la : Lawful m c.state.world) (sh : Shows m c.memory.words c.memory.slots c.state) (small : gpa < 2 ^ 47) (x : IsNamed m c.state.world t gpa level allowed)
    (memories : ℕ → ℕ → Option (ℕ → ℕ)) where
  abbrev w : World
  w = c.state.world

  abbrev p : ℕ
  p = (entry_at c.state.world t level gpa).page

  abbrev w' : World
  w' = unmap_page t level (number_at level gpa) (record w { hidden = record (w.hidden) { memories = memories } })

  abbrev held : List Held
  held = named_locks t p

  abbrev g : Grip
  g = hold c held

  locks : HoldsNamed (held ++ c.kept) t p
  locks = holds-named t p c.kept x.apart

  pub owned : is_host w p ≡ false
  owned = subst (λ (j : PageKind). same_kind j kind.Nda ≡ false) (sym x.node.page.kind) (named_owned level)

  t-p : (t == p) ≡ false
  t-p = turned p t x.apart

  alive' : IsAlive w'.pages w'.tds t
  alive' = record { kind = rw t-p x.td.alive.kind; life = x.td.alive.life }

  own' : w'.pages.owners t ≡ t
  own' = rw t-p x.td.own

  pub stands-on : TdStands w t → TdStands w' t
  stands-on z = record { alive = alive'; has_tdcs = z.has_tdcs }

  pub children-told : c.memory.words (place.Word t TDR_CHILDREN) ≡ children w t
  children-told = tdr-shown m c.memory.words c.memory.slots c.state sh t 2 x.td.alive.kind x.td.own in_tdr (omega arith)

  pub may-remove : MayChangeBy m g g w w' c.memory (remove_changes t x.page (index_at level gpa) p (children w t))
  may-remove = (
    ((x.has.in_machine, split.index level gpa), (KeepsNothing, entry-writes m c t sh x.td.alive x.td.controls held locks.tree gpa x.page level small x.has KeepsNothing locks.tree_alone, tt)),
    (
      (x.in_machine, λ i j. rw (eq-eqb p p refl) (inl (locks.page_alone, tt))),
      (
        (x.in_machine, (KeepsNothing, inl (locks.page_alone, tt), tt)),
        (((in_tdr, omega arith), (KeepsNothing, count-owes m c t sh x.td.alive x.td.controls held locks.tree la locks.tree_alone w' alive' own', tt)), tt),
      ),
    ),
  )

-- MEM.PAGE.REMOVE
module _ (m : Machine) (c : Instant) (t gpa : ℕ) (in_tdr : t < m.pages) (limit : m.pages ≤ 1024) (la : Lawful m c.state.world) (sh : Shows m c.memory.words c.memory.slots c.state) (epochs : LawfulEpochs c.state.world) (small : gpa < 2 ^ 47) (x : IsNamed m c.state.world t gpa 0 removed_states) where
  abbrev v : World
  v = c.state.world

  abbrev q : ℕ
  q = (entry_at c.state.world t 0 gpa).page

  abbrev k : Work
  k = work_of (OfCall (remove_page m t gpa))

  abbrev then_memories : ℕ → ℕ → Option (ℕ → ℕ)
  then_memories = put_in v.hidden.memories t (page_of_gpa gpa) None

  abbrev hs : List Held
  hs = named_locks t q

  holds-it : HoldsNamed (hs ++ c.kept) t q
  holds-it = holds-named t q c.kept x.apart

  its-act : Acts m c k hs (only (Done value.Nothing)) [] (remove_changes t x.page (index_at 0 gpa) q (children v t))
  its-act = record {
    answers = record { reply_is = refl; cached_is = refl; enters_is = refl; notes_are = refl; tells_are = refl; bundles_are = refl };
    fills_allowed = tt;
    respects = page-unmapped (hold c hs) v t gpa x.node.page.kind x.node.page.owner (record { tdr = holds-it.tree.tdr; op = holds-it.tree.op }) holds-it.tree_alone holds-it.page_alone;
    locks_stay = named-locks-stay v (k.act v) t q refl (stands-on m c t gpa 0 removed_states in_tdr la sh small x then_memories);
    shows = removed-shown m c.state c.memory t gpa 0 q x.page sh la x.td.alive x.td.controls small x.has (owned m c t gpa 0 removed_states in_tdr la sh small x then_memories) x.node.page.owner x.apart then_memories;
  }

  given-means : Means m c k hs (given_tree t x.page (index_at 0 gpa) q) []
  given-means = (
    (in_tdr, omega arith),
    inl (count-reads m c t sh x.td.alive x.td.controls hs holds-it.tree la holds-it.tree_alone),
    subst (λ (n : ℕ). Means m c k hs (End (only (Done value.Nothing)) [] (remove_changes t x.page (index_at 0 gpa) q n)) []) (sym (children-told m c t gpa 0 removed_states in_tdr la sh small x then_memories))
        (its-act, may-remove m c t gpa 0 removed_states in_tdr la sh small x then_memories),
  )

  -- TD_EPOCH has begun
  begun : 1 ≤ v.tds.epochs t
  begun = la.tds.epoch_begun t (λ o. let no = rw o at x.td.op in cc)

  pub remove_rest-means : Means m c k hs (remove_rest t (index_at 0 gpa) (record { tdcs = x.td.controls.tdcs; page = x.page; entry = entry_at v t 0 gpa })) (tracked_page v t q ∷ [])
  remove_rest-means =
      tracked-means m c (remove_page m t gpa) t hs la sh epochs blocking_ops x.td begun holds-it.tree.tdr holds-it.tree.op holds-it.epoch (omega (arith, limit)) q x.in_machine holds-it.page (given_tree t x.page (index_at 0 gpa) q) [] (λ y. given-means)

abbrev arguments : Machine → (t gpa : ℕ) → List (Bool × Status)
arguments m t gpa = (nat_lt t m.pages, OperandInvalid 1) ∷ (nat_lt gpa (2 ^ 47), OperandInvalid 2) ∷ (gpa % level_size 0 == 0, OperandInvalid 2) ∷ []

pub page_remove-means : (r : Place) (t gpa : ℕ) → IsMachine r.machine → MeansRow (page_remove_task r t gpa)
page_remove-means r t gpa limits = record {
  means = λ c at.
      (let m : Machine = r.machine in
      let w : World = c.state.world in
      let k : Work = work_of (OfCall (remove_page m t gpa)) in
      let rest : List (Item Reply) = tracked_page w t (entry_at w t 0 gpa).page ∷ [] in
      checks-mean m c k [] (arguments m t gpa) (named_tree m.pages t gpa 0 removed_states (remove_rest t (index_at 0 gpa))) (named_row w t gpa 0 removed_states rest) (λ a.
      let in_tdr : t < m.pages = ltb-true t m.pages a.0 in
      let small : gpa < 2 ^ 47 = ltb-true gpa (2 ^ 47) a.1.0 in
      named-means m c k t in_tdr limits.pages.1 at.lawful at.shown gpa 0 small (omega arith) removed_states (λ s h. (page_removed s h).used) (remove_rest t (index_at 0 gpa)) rest
      (λ x. remove_rest-means m c t gpa in_tdr limits.pages.1 at.lawful at.shown at.facts.access.epochs small x)));
}
