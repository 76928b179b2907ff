-- The words that the blocking and unblocking of writes leave show their acts.
use Rattle.std.proofs.Common.{◌≡◌, ℕ, ◌+◌, ◌^◌, ◌<◌, Bool, true, false, ◌==◌, if◌then◌else◌, [], ◌∷◌, refl, arith}
use Rattle.std.proofs.lemmas.Bool.{eq-eqb}
use Rattle.td_words.specs.declared.machines.Machine.{Machine}
use Rattle.td_words.specs.Packing.{Entry, entry_word}
use Rattle.td_words.specs.Place.{WordPlace}
use Rattle.td_words.specs.Place as place
use Rattle.flat_core.specs.World.{World, put}
use Rattle.flat_core.specs.Effects.{restate}
use Rattle.flat_core.specs.Event.{State}
use Rattle.flat_core.specs.ExportRows.{write_unblocked, is_first_dirt, count_dirt}
use Rattle.flat_core.specs.Lawful.{Lawful, IsAlive}
use Rattle.flat_core.specs.Tree.{entry_at, number_at}
use Rattle.sept_walk.specs.SecureEpt.{index_at}
use Rattle.word_rules.specs.Cells.{Shows}
use Rattle.lock_words.specs.LockWords.{put_word}
use Rattle.leaf_engine.specs.Changes.{Memory, changed_all}
use Rattle.leaf_parts.proofs.Begun.{TwoControls}
use Rattle.leaf_parts.proofs.Told.{tdcs-shown}
use Rattle.sept_parts.specs.SeptPages.{HasEntry}
use Rattle.sept_parts.proofs.SeptPut.{entry-put}
use Rattle.export_core.specs.CountShows.{CountWords, counted-shown, restated-controls}
use Rattle.export_core.specs.WriteTrees.{dirtied_word, unblock_write_changes}

-- one more that fits its word
counts-dirt : (first : Bool) (n : ℕ) → n + 1 < 2 ^ 64 → dirtied_word first n ≡ (if first then n + 1 else n)
counts-dirt true n few = omega (arith, few)
counts-dirt false n few = refl

module _ (m : Machine) (s : State) (mem : Memory) (t gpa at : ℕ) (sh : Shows m mem.words mem.slots s) (la : Lawful m s.world) (alive : IsAlive s.world.pages s.world.tds t) (x : TwoControls m s.world t) (small : gpa < 2 ^ 47)
    (has : HasEntry m s.world t x.root at gpa 0) where
  abbrev w : World
  w = s.world

  abbrev e : Entry
  e = entry_at s.world t 0 gpa

  module _ (few : s.world.tds.dirtied t + 1 < 2 ^ 64) where
    -- the entry is stored
    abbrev new : Entry
    new = record { state = write_unblocked (entry_at s.world t 0 gpa).state; page = (entry_at s.world t 0 gpa).page; mark = (entry_at s.world t 0 gpa).mark }

    abbrev given : World
    given = restate t (number_at 0 gpa) (write_unblocked (entry_at s.world t 0 gpa).state) (entry_at s.world t 0 gpa).mark s.world

    abbrev entry-words : WordPlace → ℕ
    entry-words = put_word mem.words (place.Word at (index_at 0 gpa)) (entry_word new)

    entry-shown : Shows m entry-words mem.slots (record s { world = given })
    entry-shown = entry-put m mem s t sh la alive x gpa at 0 small has new

    -- then pages dirtied are counted
    abbrev first : Bool
    first = is_first_dirt (entry_at s.world t 0 gpa).state

    abbrev dirtied : ℕ → ℕ
    dirtied = put w.tds.dirtied t (if first then w.tds.dirtied t + 1 else w.tds.dirtied t)

    abbrev after : Memory
    after = changed_all (unblock_write_changes x.tdcs at (index_at 0 gpa) e.page e.state e.mark (w.tds.dirtied t)) mem

    itself : (x.tdcs == x.tdcs) ≡ true
    itself = eq-eqb x.tdcs x.tdcs refl

    its-td : (t == t) ≡ true
    its-td = eq-eqb t t refl

    unrestored-word : entry-words (place.Word x.tdcs 9) ≡ w.tds.unrestored t
    unrestored-word = tdcs-shown m entry-words mem.slots (record s { world = given }) entry-shown t 9 x.tdcs (x.root ∷ []) x.list (record { kind = x.tdcs_page.kind; owner = x.tdcs_page.owner }) alive.life x.tdcs_in (omega arith)

    count-words : CountWords x.tdcs entry-words after.words (dirtied t) (w.tds.unrestored t)
    count-words = record {
      lock = λ p. refl;
      pamt = λ p. refl;
      key = λ k. refl;
      page = λ p i o. rw o refl;
      line = λ i a b. rw (itself, a) refl;
      dirtied = rw (itself, its-td) (counts-dirt first (w.tds.dirtied t) few);
      unrestored = rw itself unrestored-word;
    }

    pub unblocked-shown : Shows m after.words after.slots (record s { world = count_dirt t first given })
    unblocked-shown =
        counted-shown m entry-words after.words mem.slots (record s { world = given }) t entry-shown (record { kind = alive.kind; life = alive.life }) (restated-controls m w t (number_at 0 gpa) new x) dirtied w.tds.unrestored
        (λ u n. (rw n refl, refl)) count-words
