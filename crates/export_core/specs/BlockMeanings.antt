-- The leaf that blocks writes to a private page means its row.
use Rattle.std.proofs.Common.{◌≡◌, ℕ, ◌%◌, ◌^◌, ◌<◌, ◌≤◌, true, false, List, [], ◌∷◌, ◌++◌, refl, ap, sym, ◌∙◌, subst, inl, inr, arith}
use Rattle.std.specs.List.{list_any}
use Rattle.std.proofs.lemmas.Bool.{ltb-true}
use Rattle.td_words.specs.declared.names.EntryState.{EntryState}
use Rattle.td_words.specs.declared.names.EntryState.TheVariants as entry
use Rattle.td_words.specs.declared.names.PageKind.TheVariants as kind
use Rattle.td_words.specs.declared.names.Mode.TheVariants.{Exclusive}
use Rattle.td_words.specs.declared.machines.Machine.{Machine}
use Rattle.td_words.specs.declared.replies.Reply.{Reply}
use Rattle.td_words.specs.Limits.{IsMachine}
use Rattle.td_words.specs.Packing.{Entry, entry_word, pamt_word, is_lawful_entry}
use Rattle.td_words.specs.Place.{WordPlace}
use Rattle.td_words.specs.Place as place
use Rattle.td_words.proofs.Unpacked.{packings}
use Rattle.flat_core.specs.World.{World}
use Rattle.flat_core.specs.Processor.{OfPage, Held}
use Rattle.flat_core.specs.Row.{Item}
use Rattle.flat_core.specs.Conditions.{td_shared, tree_shared, epoch_shared}
use Rattle.flat_core.specs.Effects.{restate, block_page}
use Rattle.flat_core.specs.ExportRows.{live_ops, writable_states, write_blocked, block_write}
use Rattle.flat_core.specs.Lawful.{Lawful, is_free}
use Rattle.flat_core.specs.Tree.{entry_at, number_at, same_state, state_in, has_page, named_page, walk}
use Rattle.sept_walk.specs.SecureEpt.{index_at}
use Rattle.sept_walk.proofs.Meets.{split}
use Rattle.word_rules.specs.Guards.{Grip}
use Rattle.word_rules.specs.Rules.{ThePage, KeepsNothing, KeepsPage}
use Rattle.word_rules.specs.Views.{named_by, look, of_entry}
use Rattle.word_rules.specs.Permissions.{Respects}
use Rattle.word_rules.specs.Cells.{Shows}
use Rattle.word_rules.proofs.Conflicts.{respects-compose}
use Rattle.lock_words.specs.Grips.{holds_alone}
use Rattle.lock_words.specs.LockWords.{TdStands, put_word}
use Rattle.act_rules.proofs.Respected.{effects-respect}
use Rattle.leaf_engine.specs.declared.needs.Place.{Place}
use Rattle.leaf_engine.specs.Changes.{Memory, Change, changed_all}
use Rattle.leaf_engine.specs.Trees.{done}
use Rattle.leaf_engine.specs.Means.{Instant, Means, MeansRow, MayChange, Work, work_of, OfCall, hold}
use Rattle.leaf_parts.proofs.Checks.{checks-mean, tdcs-load}
use Rattle.sept_parts.proofs.SeptLocks.{named-writes}
use Rattle.sept_parts.proofs.SeptPut.{entry-put}
use Rattle.sept_parts.proofs.SeptTold.{said}
use Rattle.mem_remove.specs.RangeShows.{block-noted}
use Rattle.export_core.specs.OpenedMeanings.{arguments}
use Rattle.export_core.specs.SharedMeanings.{named-page, writable_locks, IsWritable, HoldsWritable, holds-writable, writable-locks-stay, writable-means}
use Rattle.export_core.specs.WriteTrees.{block_write_changes, block_write_rest, block_write_map, block_write_task}

-- an entry that is blocked names the same page, and its mark is that of its new state too
blocked-used : (s : EntryState) → list_any (λ a. same_state a s) writable_states ≡ true → is_free (write_blocked s) ≡ false
blocked-used entry.Mapped h = refl
blocked-used entry.ExportedDirty h = refl
blocked-used _ h = cc

blocked-lawful : (s : EntryState) (p mark : ℕ) → list_any (λ a. same_state a s) writable_states ≡ true → is_lawful_entry (record { state = s; page = p; mark = mark }) ≡ true → is_lawful_entry (record { state = write_blocked s; page = p; mark = mark }) ≡ true
blocked-lawful entry.Mapped p mark h l = l
blocked-lawful entry.ExportedDirty p mark h l = l
blocked-lawful _ p mark h l = cc

module _ (m : Machine) (c : Instant) (t gpa : ℕ) (limit : m.pages ≤ 1024) (la : Lawful m c.state.world) (sh : Shows m c.memory.words c.memory.slots c.state) (small : gpa < 2 ^ 47) (x : IsWritable m c.state.world t gpa live_ops writable_states) where
  abbrev w : World
  w = c.state.world

  abbrev k : Work
  k = work_of (OfCall (block_write m t gpa))

  abbrev w' : World
  w' = k.act w

  abbrev e : Entry
  e = entry_at c.state.world t 0 gpa

  abbrev hs : List Held
  hs = writable_locks t (entry_at c.state.world t 0 gpa).page

  abbrev g : Grip
  g = hold c hs

  abbrev d : ℕ
  d = x.td.controls.tdcs

  abbrev new : Entry
  new = record { state = write_blocked (entry_at c.state.world t 0 gpa).state; page = (entry_at c.state.world t 0 gpa).page; mark = (entry_at c.state.world t 0 gpa).mark }

  abbrev given : World
  given = restate t (number_at 0 gpa) (write_blocked e.state) e.mark c.state.world

  abbrev changes : List Change
  changes = block_write_changes t x.page (index_at 0 gpa) e.page e.state e.mark (w.tds.epochs t)

  held : HoldsWritable (hs ++ c.kept) t e.page
  held = holds-writable t e.page c.kept x.apart

  same-page : named_by new ≡ named_by e
  same-page = named-page new (blocked-used e.state x.state) ∙ sym (named-page e x.used)

  respects : Respects g w w'
  respects = respects-compose.both g w given w' ((effects-respect g w).entry_state t 0 (number_at 0 gpa) new same-page)
      ((effects-respect g given).leaves w' (record {
        words = record { kinds = refl; owners = refl; levels = refl; numbers = refl; tds = λ u. record { op = refl; controls = refl; epoch = refl; empty = λ b. refl; named = λ n. refl } };
        lives = refl;
        keys = λ h. refl;
      }))

  -- the words
  abbrev entry-words : WordPlace → ℕ
  entry-words = put_word c.memory.words (place.Word x.page (index_at 0 gpa)) (entry_word new)

  entry-shown : Shows m entry-words c.memory.slots (record (c.state) { world = given })
  entry-shown = entry-put m c.memory c.state t sh la x.td.alive x.td.controls gpa x.page 0 small x.has new

  abbrev after : Memory
  after = changed_all changes c.memory

  noted-word : pamt_word (record { kind = w.pages.kinds e.page; owner = w.pages.owners e.page; epoch = w.tds.epochs t }) ≡ pamt_word (record { kind = kind.Reg; owner = t; epoch = w.tds.epochs t % 2 ^ 32 })
  noted-word =
      let few : w.tds.epochs t < 2 ^ 32 = la.tds.epoch t in
      let whole : w.tds.epochs t % 2 ^ 32 ≡ w.tds.epochs t = omega (arith, few) in
      rw (x.node.page.kind, x.node.page.owner, whole) refl

  blocked-shown : Shows m after.words after.slots (record (c.state) { world = block_page t e.page given })
  blocked-shown =
      subst (λ (v : ℕ). Shows m (put_word entry-words (place.Pamt e.page) v) c.memory.slots (record (c.state) { world = block_page t e.page given })) noted-word
      (block-noted m entry-words c.memory.slots (record (c.state) { world = given }) t e.page entry-shown)

  -- its entry still names the page
  old-lawful : is_lawful_entry e ≡ true
  old-lawful = la.tree.entry limit t 0 (number_at 0 gpa)

  kept : look ThePage (entry_word new) ≡ look ThePage (c.memory.words (place.Word x.page (index_at 0 gpa)))
  kept =
      ap (of_entry named_by) (packings.entry new (blocked-lawful e.state e.page e.mark x.state old-lawful))
      ∙ (same-page ∙ sym (ap (look ThePage) (said m c.memory c.state t sh x.td.alive x.td.controls gpa small x.page 0 x.has) ∙ ap (of_entry named_by) (packings.entry e old-lawful)))

  alone : holds_alone (hs ++ c.kept) (OfPage (named_by e)) ≡ true
  alone = subst (λ (p : ℕ). holds_alone (hs ++ c.kept) (OfPage p) ≡ true) (sym (named-page e x.used)) held.page_alone

  may-change : MayChange m g w w' c.memory changes
  may-change = (
    ((x.has.in_machine, split.index 0 gpa), (KeepsPage, named-writes m c t sh x.td.alive x.td.controls hs held.tree gpa x.page small x.has alone, kept)),
    ((x.in_machine, (KeepsNothing, inl (held.page_alone, tt), tt)), tt),
  )

  stands-on : TdStands w t → TdStands w' t
  stands-on a = record { alive = record { kind = a.alive.kind; life = a.alive.life }; has_tdcs = a.has_tdcs }

  blocked : Means m c k hs (done [] changes) []
  blocked = (
    record {
      answers = record { reply_is = refl; cached_is = refl; enters_is = refl; notes_are = refl; tells_are = refl; bundles_are = refl };
      fills_allowed = tt;
      respects = respects;
      locks_stay = writable-locks-stay w w' t e.page refl stands-on;
      shows = blocked-shown;
    },
    may-change,
  )

  pub rest-means : Means m c k hs (block_write_rest t (index_at 0 gpa) (record { tdcs = d; page = x.page; entry = e })) []
  rest-means =
      tdcs-load m c k hs sh t 5 (w.tds.epochs t) x.td.alive x.td.controls (omega arith) refl (inr (inr (inl (held.tree.tdr, (held.tree.op, (held.epoch, tt))))))
      (λ epoch. done [] (block_write_changes t x.page (index_at 0 gpa) e.page e.state e.mark epoch)) [] blocked

pub block_write-means : (p : Place) (t gpa : ℕ) → IsMachine p.machine → MeansRow (block_write_task p t gpa)
block_write-means p t gpa limits = record {
  means = λ c at.
      (let m : Machine = p.machine in
      let w : World = c.state.world in
      let k : Work = work_of (OfCall (block_write m t gpa)) in
      let rest : List (Item Reply) = has_page w t gpa 0 ∷ named_page w t gpa 0 Exclusive ∷ state_in w t gpa 0 writable_states ∷ [] in
      checks-mean m c k [] (arguments m t gpa) (block_write_map m t gpa) (td_shared w t live_ops ++ tree_shared t ∷ epoch_shared t ∷ (walk w t gpa 0 ++ rest)) (λ a.
      let small : gpa < 2 ^ 47 = ltb-true gpa (2 ^ 47) a.1.0 in
      writable-means m c k t (ltb-true t m.pages a.0) limits.pages.1 at.lawful at.shown gpa small live_ops writable_states (block_write_rest t (index_at 0 gpa)) [] (λ x. rest-means m c t gpa limits.pages.1 at.lawful at.shown small x)));
}
