-- The words that the import of a page leaves show its act.
use Rattle.std.proofs.Common.{◌≡◌, ◌⊎◌, ℕ, zero, suc, ◌+◌, ◌<◌, ◌≤◌, true, false, ◌==◌, refl, ap, sym, ◌∙◌, subst, inl, inr, arith}
use Rattle.std.proofs.lemmas.Bool.{eq-eqb, eqb-true, ne_eqb, cases_lt}
use Rattle.td_words.specs.declared.names.PageKind.TheVariants as kind
use Rattle.td_words.specs.declared.names.LifeState.TheVariants as life
use Rattle.td_words.specs.declared.machines.Machine.{Machine}
use Rattle.td_words.specs.NameNumber.{life_number}
use Rattle.td_words.specs.Place.{WordPlace}
use Rattle.td_words.specs.Place as place
use Rattle.flat_core.specs.World.{World, put}
use Rattle.flat_core.specs.Effects.{set_page}
use Rattle.flat_core.specs.Event.{State}
use Rattle.flat_core.specs.Lawful.{IsPageOf}
use Rattle.flat_core.specs.Sessions.{stream_page, stream_counter, count_bundle}
use Rattle.flat_core.proofs.Tests.{by_test}
use Rattle.word_rules.specs.Cells.{Shows, IsAs, cell, page_cell, lock_word}
use Rattle.leaf_engine.specs.Changes.{Hand, Memory, Put, changed, changed_all}
use Rattle.leaf_parts.proofs.Aside.{AllShown, IsOff, aside, back, words-but}
use Rattle.stream_parts.proofs.Counted.{stream-stored}
use Rattle.stream_parts.specs.declared.rooms.Room.{Room}
use Rattle.import_pages.specs.PageImportTrees.{word_puts, counter_changes}

-- the words of a page are stored one after another
module _ (p : ℕ) (ws : ℕ → ℕ) where
  abbrev stored : (from left : ℕ) → Memory → Memory
  stored from left mem = changed_all (word_puts p ws from left) mem

  abbrev next : ℕ → Memory → Memory
  next from mem = changed (Put (place.Word p from) (ws from)) mem

  same-slots : (from left : ℕ) (mem : Memory) → (stored from left mem).slots ≡ mem.slots
  unfolding word_puts
  same-slots from zero mem = refl
  same-slots from (suc left) mem = same-slots (suc from) left (next from mem)

  off-page : (from left : ℕ) (mem : Memory) (q : WordPlace) → IsOff p q → (stored from left mem).words q ≡ mem.words q
  unfolding word_puts
  off-page from zero mem q o = refl
  off-page from (suc left) mem q o = off-page (suc from) left (next from mem) q o ∙ off-one from mem q o
    where
      off-one : (from : ℕ) (mem : Memory) (q : WordPlace) → IsOff p q → (next from mem).words q ≡ mem.words q
      off-one from mem (place.Lock r) o = refl
      off-one from mem (place.Pamt r) o = refl
      off-one from mem (place.Key k) o = refl
      off-one from mem (place.Word r i) o = rw o refl

  one-else : (from : ℕ) (mem : Memory) (i : ℕ) → (i == from) ≡ false → (next from mem).words (place.Word p i) ≡ mem.words (place.Word p i)
  one-else from mem i n = rw (eq-eqb p p refl, n) refl

  one-word : (from : ℕ) (mem : Memory) (i : ℕ) → (i == from) ≡ true → (next from mem).words (place.Word p i) ≡ ws i
  one-word from mem i e = rw (eq-eqb p p refl, e) (ap ws (sym (eqb-true i from e)))

  before : (from left : ℕ) (mem : Memory) (i : ℕ) → i < from → (stored from left mem).words (place.Word p i) ≡ mem.words (place.Word p i)
  unfolding word_puts
  before from zero mem i b = refl
  before from (suc left) mem i b = before (suc from) left (next from mem) i (omega (arith, b)) ∙ one-else from mem i (ne_eqb i from (λ e. absurd (omega (arith, b, e))))

  within : (from left : ℕ) (mem : Memory) (i : ℕ) → from ≤ i → i < from + left → (stored from left mem).words (place.Word p i) ≡ ws i
  unfolding word_puts
  within from zero mem i a b = absurd (omega (arith, a, b))
  within from (suc left) mem i a b = by_test (i == from)
      (λ e. (let here : i ≡ from = eqb-true i from e in before (suc from) left (next from mem) i (omega (arith, here)) ∙ one-word from mem i e))
      (λ n. within (suc from) left (next from mem) i (above n (cases_lt from i)) (omega (arith, b)))
    where
      above : (i == from) ≡ false → (from < i) ⊎ (i ≤ from) → suc from ≤ i
      above n (inl h) = h
      above n (inr h) = (let same : i ≡ from = omega (arith, a, h) in let no : true ≡ false = sym (eq-eqb i from same) ∙ n in cc)

  pub all-within : (mem : Memory) (i : ℕ) → i < 512 → (changed_all (word_puts p ws 0 512) mem).words (place.Word p i) ≡ ws i
  all-within mem i b = within 0 512 mem i (omega arith) (omega (arith, b))

  -- words that show a state show it with the page's words replaced, where the page is one whose words are shown
  module _ (m : Machine) (s : State) (mem : Memory) (sh : Shows m mem.words mem.slots s) (content : (i : ℕ) → IsAs (page_cell (set_page p ws s.world) (lock_word s.lps s.lp_count) (s.world.pages.owners p) p (s.world.pages.kinds p) i) (ws i)) where
    abbrev filled : World
    filled = set_page p ws s.world

    abbrev after : Memory
    after = changed_all (word_puts p ws 0 512) mem

    filled-words : AllShown m after.words (record s { world = filled })
    filled-words = back (words-but (aside p m mem.words s sh.word) (put s.world.words p ws) (λ q i o. rw o refl)) after.words
        (λ r. off-page 0 512 mem (place.Lock r) tt) (λ r. off-page 0 512 mem (place.Pamt r) tt) (λ k. off-page 0 512 mem (place.Key k) tt) (λ r i o. off-page 0 512 mem (place.Word r i) o)
        (λ i b. subst (λ (v : ℕ). IsAs (cell (record s { world = filled }) (place.Word p i)) v) (sym (all-within mem i b)) (content i))

    pub words-stored : Shows m after.words after.slots (record s { world = filled })
    words-stored = subst (λ (f : ℕ → Hand). Shows m after.words f (record s { world = filled })) (sym (same-slots 0 512 mem)) (record { word = filled-words; hasher = sh.hasher })

-- and where the stream counts the bundle
module _ (m : Machine) (s : State) (mem : Memory) (t k : ℕ) (sh : Shows m mem.words mem.slots s) (alive : (life_number (s.world.tds.lives t) == life_number life.Teardown) ≡ false)
    (its : IsPageOf s.world.pages t (stream_page s.world t k) kind.Migsc) (in_page : stream_page s.world t k < m.pages) where
  abbrev room : Room
  room = record { page = stream_page s.world t k; counter = stream_counter s.world t k }

  abbrev counted : Memory
  counted = changed_all (counter_changes room) mem

  abbrev later : World
  later = count_bundle t k s.world

  its-own : (stream_page s.world t k == stream_page s.world t k) ≡ true
  its-own = eq-eqb (stream_page s.world t k) (stream_page s.world t k) refl

  pub counted-shown : Shows m counted.words counted.slots (record s { world = later })
  counted-shown = stream-stored m s mem.words mem.slots t (stream_page s.world t k) sh alive its in_page later.streams later.outgoing 0 (stream_counter s.world t k + 1) (rw its-own refl) (λ i n. rw n refl) (λ q i o. rw o refl)
