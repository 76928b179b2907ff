-- The words that blocking and unblocking leave show their acts.
use Rattle.std.proofs.Common.{◌≡◌, ℕ, zero, suc, ◌%◌, ◌^◌, ◌<◌, ◌==◌, List, Option, refl, sym, subst, arith}
use Rattle.std.proofs.lemmas.Bool.{eq-eqb, eqb-true}
use Rattle.td_words.specs.declared.names.EntryState.{EntryState}
use Rattle.td_words.specs.declared.machines.Machine.{Machine}
use Rattle.td_words.specs.Packing.{Entry, pamt_word, entry_word}
use Rattle.td_words.specs.Place.{WordPlace, IsIn}
use Rattle.td_words.specs.Place as place
use Rattle.flat_core.specs.World.{World, Pages}
use Rattle.flat_core.specs.Conditions.{owned_below}
use Rattle.flat_core.specs.Effects.{block_page, set_state}
use Rattle.flat_core.specs.Event.{State}
use Rattle.flat_core.specs.Lawful.{Lawful, IsAlive, IsNodeOf}
use Rattle.flat_core.specs.MemRows.{blocked_state}
use Rattle.flat_core.specs.Tree.{entry_at, number_at}
use Rattle.flat_core.proofs.Maps.{kind_named}
use Rattle.flat_core.proofs.Tests.{by_test}
use Rattle.sept_walk.specs.SecureEpt.{index_at}
use Rattle.word_rules.specs.Cells.{Shows, IsAs, cell}
use Rattle.lock_words.specs.LockWords.{put_word}
use Rattle.leaf_engine.specs.Changes.{Memory, changed_all}
use Rattle.leaf_parts.proofs.Aside.{page-kept, control-kept}
use Rattle.leaf_parts.proofs.Begun.{TwoControls}
use Rattle.sept_parts.specs.SeptPages.{HasEntry}
use Rattle.sept_parts.proofs.SeptPut.{entry-put}
use Rattle.mem_remove.specs.RangeTrees.{kind_below, block_changes}

-- the epoch of a block isn't counted
children-kept : (pages : Pages) (noted : ℕ → ℕ) (t n : ℕ) → owned_below (record pages { blocked = noted }) t n ≡ owned_below pages t n
children-kept pages noted t zero = refl
children-kept pages noted t (suc n) = rw (children-kept pages noted t n) refl

-- Words that show a state show the one where a page's block is noted, once its PAMT word was stored.
module _ (m : Machine) (words : WordPlace → ℕ) (slots : ℕ → Option (List ℕ)) (s : State) (t p : ℕ) (sh : Shows m words slots s) where
  abbrev w : World
  w = s.world

  abbrev w' : World
  w' = block_page t p s.world

  abbrev after : State
  after = record s { world = w' }

  abbrev word : ℕ
  word = pamt_word (record { kind = s.world.pages.kinds p; owner = s.world.pages.owners p; epoch = s.world.tds.epochs t })

  abbrev noted : WordPlace → ℕ
  noted = put_word words (place.Pamt p) word

  pub block-noted : Shows m noted slots after
  block-noted = record { word = at; hasher = sh.hasher }
    where
      at : (q : WordPlace) → IsIn m q → IsAs (cell after q) (noted q)
      at (place.Lock q) b = sh.word (place.Lock q) b
      at (place.Pamt q) b = by_test (q == p)
          (λ y. subst (λ (x : ℕ). IsAs (cell after (place.Pamt x)) (noted (place.Pamt x))) (sym (eqb-true q p y)) (rw (eq-eqb p p refl) refl))
          (λ n. rw n (sh.word (place.Pamt q) b))
      at (place.Key k) b = sh.word (place.Key k) b
      at (place.Word q i) b = page-kept s w' q i (words (place.Word q i)) (record {
        words = λ j. refl;
        tdr = λ is j. rw (children-kept w.pages w'.pages.blocked (w.pages.owners q) w.size) refl;
        owned = λ h. record { stands = λ n. n; level = refl; number = refl; entries = λ l n. refl; vp = λ j. refl; stream = λ j. refl; control = λ is n. control-kept refl (λ l n. refl) (λ f j. refl) };
      }) refl refl (sh.word (place.Word q i) b)

kinds-agree : (level : ℕ) → kind_below level ≡ kind_named level
kinds-agree zero = refl
kinds-agree (suc level) = refl

-- the entry of a level that maps a GPA gets another state
module _ (m : Machine) (s : State) (mem : Memory) (t gpa level at : ℕ) (sh : Shows m mem.words mem.slots s) (la : Lawful m s.world) (alive : IsAlive s.world.pages s.world.tds t) (x : TwoControls m s.world t) (small : gpa < 2 ^ 47)
    (has : HasEntry m s.world t x.root at gpa level) where
  abbrev before : World
  before = s.world

  abbrev page : ℕ
  page = (entry_at s.world t level gpa).page

  module _ (new : EntryState) where
    abbrev restated : World
    restated = set_state t level (number_at level gpa) new s.world

    abbrev entry : Entry
    entry = record { state = new; page = (entry_at s.world t level gpa).page; mark = 0 }

    abbrev entry-words : WordPlace → ℕ
    entry-words = put_word mem.words (place.Word at (index_at level gpa)) (entry_word entry)

    pub restated-shown : Shows m entry-words mem.slots (record s { world = restated })
    restated-shown = entry-put m mem s t sh la alive x gpa at level small has entry

  module _ (node : IsNodeOf s.world.pages t (entry_at s.world t level gpa).page (kind_named level) level (number_at level gpa)) (old : EntryState) where
    abbrev blocked : World
    blocked = block_page t page (restated (blocked_state old))

    abbrev changed : Memory
    changed = changed_all (block_changes t level at (index_at level gpa) page old (before.tds.epochs t)) mem

    noted-word : pamt_word (record { kind = before.pages.kinds page; owner = before.pages.owners page; epoch = before.tds.epochs t }) ≡ pamt_word (record { kind = kind_below level; owner = t; epoch = before.tds.epochs t % 2 ^ 32 })
    noted-word =
        let few : before.tds.epochs t < 2 ^ 32 = la.tds.epoch t in
        let whole : before.tds.epochs t % 2 ^ 32 ≡ before.tds.epochs t = omega (arith, few) in
        rw (node.page.kind, node.page.owner, kinds-agree level, whole) refl

    pub blocked-shown : Shows m changed.words changed.slots (record s { world = blocked })
    blocked-shown =
        subst (λ (v : ℕ). Shows m (put_word (entry-words (blocked_state old)) (place.Pamt page) v) mem.slots (record s { world = blocked })) noted-word
        (block-noted m (entry-words (blocked_state old)) mem.slots (record s { world = restated (blocked_state old) }) t page (restated-shown (blocked_state old)))
