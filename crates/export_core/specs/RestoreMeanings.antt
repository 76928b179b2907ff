-- The leaf that restores what an export left of an entry means its row.
use Rattle.std.proofs.Common.{◌≡◌, ℕ, ◌^◌, ◌<◌, true, false, List, [], ◌∷◌, ◌++◌, refl, arith}
use Rattle.std.specs.List.{list_any}
use Rattle.std.proofs.lemmas.Bool.{ltb-true}
use Rattle.td_words.specs.declared.names.EntryState.{EntryState}
use Rattle.td_words.specs.declared.names.EntryState.TheVariants as entry
use Rattle.td_words.specs.declared.names.PageKind.TheVariants as kind
use Rattle.td_words.specs.declared.machines.Machine.{Machine}
use Rattle.td_words.specs.declared.places.TheConstants.{TDCS_UNRESTORED}
use Rattle.td_words.specs.Limits.{IsMachine}
use Rattle.td_words.specs.Packing.{Entry}
use Rattle.td_words.specs.Place as place
use Rattle.flat_core.specs.World.{World}
use Rattle.flat_core.specs.Processor.{Held}
use Rattle.flat_core.specs.Effects.{restate}
use Rattle.flat_core.specs.ExportRows.{restoring_ops, restored_states, restore, opened_row}
use Rattle.flat_core.specs.Lawful.{Lawful, IsPageOf, is_free}
use Rattle.flat_core.specs.Tree.{entry_at, number_at, same_state}
use Rattle.sept_walk.specs.SecureEpt.{index_at}
use Rattle.word_rules.specs.Guards.{Grip}
use Rattle.word_rules.specs.Rules.{KeepsNothing, Whole, owes}
use Rattle.word_rules.specs.Permissions.{Respects}
use Rattle.word_rules.specs.Cells.{Shows}
use Rattle.word_rules.proofs.Conflicts.{respects-compose}
use Rattle.lock_words.specs.LockWords.{TdStands}
use Rattle.act_rules.proofs.Respected.{effects-respect}
use Rattle.leaf_engine.specs.declared.needs.Place.{Place}
use Rattle.leaf_engine.specs.Changes.{Change}
use Rattle.leaf_engine.specs.Trees.{done, Load}
use Rattle.leaf_engine.specs.Means.{Instant, Means, MeansRow, MayChange, Work, work_of, OfCall, hold}
use Rattle.leaf_parts.proofs.Begun.{TwoControls}
use Rattle.leaf_parts.proofs.Checks.{checks-mean, at-tdcs, tdcs-load}
use Rattle.export_core.specs.CountShows.{counted-respects}
use Rattle.export_core.specs.OpenedMeanings.{opened_locks, IsOpened, HoldsOpened, opened-locks-stay, opened-means, arguments, locks, may-restate, count-reads, count-owes}
use Rattle.export_core.specs.RestoreTrees.{restore_changes, restore_rest, restore_map, restore_task}
use Rattle.export_core.specs.RestoreShows.{restored-shown}

-- an entry that is restored names a page
used : (s : EntryState) → list_any (λ a. same_state a s) restored_states ≡ true → is_free s ≡ false
used entry.BlockedW h = refl
used entry.ExportedBlockedW h = refl
used entry.ExportedDirty h = refl
used entry.ExportedDirtyBlockedW h = refl
used _ h = cc

module _ (m : Machine) (c : Instant) (t gpa : ℕ) (la : Lawful m c.state.world) (sh : Shows m c.memory.words c.memory.slots c.state) (small : gpa < 2 ^ 47) (x : IsOpened m c.state.world t gpa restoring_ops restored_states) where
  abbrev w : World
  w = c.state.world

  abbrev k : Work
  k = work_of (OfCall (restore m t gpa))

  abbrev w' : World
  w' = k.act w

  abbrev e : Entry
  e = entry_at c.state.world t 0 gpa

  abbrev hs : List Held
  hs = opened_locks t (entry_at c.state.world t 0 gpa).page

  abbrev g : Grip
  g = hold c hs

  abbrev d : ℕ
  d = x.td.controls.tdcs

  abbrev changes : List Change
  changes = restore_changes d x.page (index_at 0 gpa) e.page e.state (w.tds.dirtied t) (w.tds.unrestored t)

  stands-on : TdStands w t → TdStands w' t
  stands-on a = record { alive = record { kind = a.alive.kind; life = a.alive.life }; has_tdcs = a.has_tdcs }

  abbrev given : World
  given = restate t (number_at 0 gpa) entry.Mapped 0 c.state.world

  held : HoldsOpened (hs ++ c.kept) t
  held = locks m c t gpa restoring_ops restored_states sh small x

  respects : Respects g w w'
  respects = respects-compose.both g w given w'
      ((effects-respect g w).entry t 0 (number_at 0 gpa) (record { state = entry.Mapped; page = e.page; mark = 0 }) (record { tdr = held.tree.tdr; op = held.tree.op }) held.tree_alone)
      (counted-respects g given w'.tds.dirtied w'.tds.unrestored)

  may-change : MayChange m g w w' c.memory changes
  may-change =
      let y : TwoControls m w t = x.td.controls in
      let page : IsPageOf w'.pages t d kind.Tdcx = record { kind = y.tdcs_page.kind; owner = y.tdcs_page.owner } in
      let may = count-owes m c t gpa restoring_ops restored_states sh small x in (
        may-restate m c t gpa restoring_ops restored_states sh small x entry.Mapped 0,
        (
          ((y.tdcs_in, omega arith), (KeepsNothing, at-tdcs g w' t d 8 (y.root ∷ []) (λ z. owes z KeepsNothing) y.list page may, tt)),
          (((y.tdcs_in, omega arith), (KeepsNothing, at-tdcs g w' t d 9 (y.root ∷ []) (λ z. owes z KeepsNothing) y.list page may, tt)), tt),
        ),
      )

  restored : Means m c k hs (done [] changes) []
  restored = (
    record {
      answers = record { reply_is = refl; cached_is = refl; enters_is = refl; notes_are = refl; tells_are = refl; bundles_are = refl };
      fills_allowed = tt;
      respects = respects;
      locks_stay = opened-locks-stay w w' t e.page refl stands-on;
      shows = restored-shown m c.state c.memory t gpa x.page sh la x.td.alive x.td.controls small x.has;
    },
    may-change,
  )

  pub rest-means : Means m c k hs (restore_rest (index_at 0 gpa) (record { tdcs = d; page = x.page; entry = e })) []
  rest-means =
      let may = count-reads m c t gpa restoring_ops restored_states sh small x in
      tdcs-load m c k hs sh t 8 (w.tds.dirtied t) x.td.alive x.td.controls (omega arith) refl may (λ dirtied. Load Whole (place.Word d TDCS_UNRESTORED) (λ unrestored. done [] (restore_changes d x.page (index_at 0 gpa) e.page e.state dirtied unrestored))) []
      (tdcs-load m c k hs sh t 9 (w.tds.unrestored t) x.td.alive x.td.controls (omega arith) refl may (λ unrestored. done [] (restore_changes d x.page (index_at 0 gpa) e.page e.state (w.tds.dirtied t) unrestored)) [] restored)

pub restore-means : (p : Place) (t gpa : ℕ) → IsMachine p.machine → MeansRow (restore_task p t gpa)
restore-means p t gpa limits = record {
  means = λ c at.
      (let m : Machine = p.machine in
      let k : Work = work_of (OfCall (restore m t gpa)) in
      checks-mean m c k [] (arguments m t gpa) (restore_map m t gpa) (opened_row c.state.world t gpa restoring_ops restored_states) (λ a.
      let small : gpa < 2 ^ 47 = ltb-true gpa (2 ^ 47) a.1.0 in
      opened-means m c k t (ltb-true t m.pages a.0) limits.pages.1 at.lawful at.shown gpa small restoring_ops restored_states used (restore_rest (index_at 0 gpa)) (λ x. rest-means m c t gpa at.lawful at.shown small x)));
}
