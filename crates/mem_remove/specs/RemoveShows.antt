-- The words that a removal leaves show its act: the entry is FREE, and the page that it named is cleared and given back.
use Rattle.std.proofs.Common.{◌≡◌, ℕ, ◌^◌, ◌<◌, true, false, ◌==◌, Option, refl}
use Rattle.std.proofs.lemmas.Bool.{eq-eqb}
use Rattle.td_words.specs.declared.machines.Machine.{Machine}
use Rattle.td_words.specs.Packing.{entry_word}
use Rattle.td_words.specs.Place.{WordPlace}
use Rattle.td_words.specs.Place as place
use Rattle.flat_core.specs.World.{World, free_entry}
use Rattle.flat_core.specs.Conditions.{is_host, children}
use Rattle.flat_core.specs.Effects.{clear_page, give_back, set_entry}
use Rattle.flat_core.specs.Lawful.{Lawful, IsAlive}
use Rattle.flat_core.specs.Tree.{number_at}
use Rattle.flat_core.specs.Event.{State}
use Rattle.word_rules.specs.Cells.{Shows}
use Rattle.lock_words.specs.LockWords.{put_word}
use Rattle.leaf_engine.specs.Changes.{Memory, changed_all}
use Rattle.leaf_parts.proofs.Aside.{ShowsBut, aside, back, words-but, untold, given-but}
use Rattle.leaf_parts.proofs.Begun.{TwoControls}
use Rattle.sept_walk.specs.SecureEpt.{index_at}
use Rattle.sept_parts.specs.SeptPages.{HasEntry}
use Rattle.sept_parts.proofs.SeptPut.{entry-put}
use Rattle.mem_remove.specs.RemoveTrees.{remove_changes}

module _ (m : Machine) (s : State) (mem : Memory) (t gpa level p at : ℕ) (sh : Shows m mem.words mem.slots s) (la : Lawful m s.world) (alive : IsAlive s.world.pages s.world.tds t) (x : TwoControls m s.world t)
    (small : gpa < 2 ^ 47) (has : HasEntry m s.world t x.root at gpa level) (owned : is_host s.world p ≡ false) (its : s.world.pages.owners p ≡ t) (apart : (p == t) ≡ false) where
  abbrev w : World
  w = s.world

  -- the entry is stored
  abbrev named : State
  named = record s { world = set_entry t level (number_at level gpa) free_entry w }

  abbrev entry-words : WordPlace → ℕ
  entry-words = put_word mem.words (place.Word at (index_at level gpa)) (entry_word free_entry)

  entry-shown : Shows m entry-words mem.slots named
  entry-shown = entry-put m mem s t sh la alive x gpa at level small has free_entry

  abbrev after : Memory
  after = changed_all (remove_changes t at (index_at level gpa) p (children w t)) mem

  -- whatever its guest knows, the page is cleared, and is the host's
  module _ (memories : ℕ → ℕ → Option (ℕ → ℕ)) where
    abbrev told : World
    told = record (named.world) { hidden = record (named.world.hidden) { memories = memories } }

    abbrev w' : World
    w' = give_back p told

    abbrev cleared : State
    cleared = record s { world = clear_page p told }

    cleared-but : ShowsBut p m entry-words cleared
    cleared-but = words-but (aside p m entry-words (record s { world = told }) (untold m entry-words named w.tds.measured memories entry-shown.word)) cleared.world.words (λ q i o. rw o refl)

    itself : (p == p) ≡ true
    itself = eq-eqb p p refl

    pub removed-shown : Shows m after.words after.slots (record s { world = w' })
    removed-shown = record {
      word = back (given-but t cleared-but la.size la.pages alive.kind owned its apart) after.words (λ r. refl) (λ r. refl) (λ k. refl) (λ r i o. rw o refl) (λ i b. rw (itself, apart) (rw itself refl));
      hasher = entry-shown.hasher;
    }
