-- The words that EXPORT.RESTORE leaves show its act.
use Rattle.std.proofs.Common.{◌≡◌, ℕ, ◌-◌, ◌^◌, ◌<◌, true, ◌==◌, if◌then◌else◌, refl}
use Rattle.std.proofs.lemmas.Bool.{eq-eqb}
use Rattle.td_words.specs.declared.names.EntryState.TheVariants as entry
use Rattle.td_words.specs.declared.machines.Machine.{Machine}
use Rattle.td_words.specs.Packing.{Entry, entry_word, is_exported}
use Rattle.td_words.specs.Place.{WordPlace}
use Rattle.td_words.specs.Place as place
use Rattle.flat_core.specs.World.{World, put}
use Rattle.flat_core.specs.Effects.{restate}
use Rattle.flat_core.specs.Event.{State}
use Rattle.flat_core.specs.Exports.{is_dirty}
use Rattle.flat_core.specs.ExportRows.{one_less, count_restored}
use Rattle.flat_core.specs.Lawful.{Lawful, IsAlive}
use Rattle.flat_core.specs.Tree.{entry_at, number_at}
use Rattle.sept_walk.specs.SecureEpt.{index_at}
use Rattle.word_rules.specs.Cells.{Shows}
use Rattle.lock_words.specs.LockWords.{put_word}
use Rattle.leaf_engine.specs.Changes.{Memory, changed_all}
use Rattle.leaf_parts.proofs.Begun.{TwoControls}
use Rattle.sept_parts.specs.SeptPages.{HasEntry}
use Rattle.sept_parts.proofs.SeptPut.{entry-put}
use Rattle.export_core.specs.CountShows.{CountWords, counted-shown, restated-controls}
use Rattle.export_core.specs.RestoreTrees.{restore_changes}

module _ (m : Machine) (s : State) (mem : Memory) (t gpa at : ℕ) (sh : Shows m mem.words mem.slots s) (la : Lawful m s.world) (alive : IsAlive s.world.pages s.world.tds t) (x : TwoControls m s.world t) (small : gpa < 2 ^ 47)
    (has : HasEntry m s.world t x.root at gpa 0) where
  abbrev w : World
  w = s.world

  abbrev e : Entry
  e = entry_at s.world t 0 gpa

  -- the entry is stored
  abbrev new : Entry
  new = record { state = entry.Mapped; page = (entry_at s.world t 0 gpa).page; mark = 0 }

  abbrev given : World
  given = restate t (number_at 0 gpa) entry.Mapped 0 s.world

  abbrev entry-words : WordPlace → ℕ
  entry-words = put_word mem.words (place.Word at (index_at 0 gpa)) (entry_word new)

  entry-shown : Shows m entry-words mem.slots (record s { world = given })
  entry-shown = entry-put m mem s t sh la alive x gpa at 0 small has new

  -- then it is counted
  abbrev dirtied : ℕ → ℕ
  dirtied = put w.tds.dirtied t (if is_dirty e.state then w.tds.dirtied t - 1 else w.tds.dirtied t)

  abbrev unrestored : ℕ → ℕ
  unrestored = put w.tds.unrestored t (if is_exported e.state then one_less (w.tds.unrestored t) else w.tds.unrestored t)

  abbrev after : Memory
  after = changed_all (restore_changes x.tdcs at (index_at 0 gpa) e.page e.state (w.tds.dirtied t) (w.tds.unrestored t)) mem

  itself : (x.tdcs == x.tdcs) ≡ true
  itself = eq-eqb x.tdcs x.tdcs refl

  its-td : (t == t) ≡ true
  its-td = eq-eqb t t refl

  count-words : CountWords x.tdcs entry-words after.words (dirtied t) (unrestored t)
  count-words = record {
    lock = λ p. refl;
    pamt = λ p. refl;
    key = λ k. refl;
    page = λ p i o. rw o refl;
    line = λ i a b. rw (itself, a, b) refl;
    dirtied = rw (itself, its-td) refl;
    unrestored = rw (itself, its-td) refl;
  }

  pub restored-shown : Shows m after.words after.slots (record s { world = count_restored t e.state given })
  restored-shown =
      counted-shown m entry-words after.words mem.slots (record s { world = given }) t entry-shown (record { kind = alive.kind; life = alive.life }) (restated-controls m w t (number_at 0 gpa) new x) dirtied unrestored
      (λ u n. (rw n refl, rw n refl)) count-words
