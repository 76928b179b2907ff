-- The leaf that writes the caches back means its row.
use Rattle.std.proofs.Common.{◌≡◌, ℕ, suc, zero, ◌+◌, ◌-◌, ◌*◌, ◌%◌, ◌<◌, ◌≤◌, true, false, ◌==◌, nat_lt, List, [], ◌∷◌, ◌++◌, Option, refl, ap, sym, ◌∙◌, subst, inl, arith}
use Rattle.std.proofs.lemmas.Bool.{eqb-true, ne_eqb, ltb-true}
use Rattle.std.proofs.lemmas.Bool.Decides.{nat_tests}
use Rattle.td_words.specs.declared.machines.Machine.{Machine}
use Rattle.td_words.specs.declared.calls.Call.TheVariants as call
use Rattle.td_words.specs.Packing.{Key, Unassigned, AssignedTo, FlushedOf, key_word}
use Rattle.td_words.specs.Place.{WordPlace, IsIn}
use Rattle.td_words.specs.Place as place
use Rattle.flat_core.specs.Processor.{OfKeys}
use Rattle.flat_core.specs.Effects.{write_back, written_back}
use Rattle.flat_core.specs.KeyRows.{write_caches_back}
use Rattle.flat_core.specs.Lawful.{Lawful, key_owner}
use Rattle.flat_core.specs.Event.{State}
use Rattle.flat_core.proofs.Tests.{by_test}
use Rattle.word_rules.specs.Rules.{KeepsNothing}
use Rattle.word_rules.specs.Permissions.{Respects}
use Rattle.word_rules.specs.Cells.{Shows, IsAs, cell, key_cell, lock_word, hasher_cell}
use Rattle.act_rules.proofs.Rows.{rows-respect}
use Rattle.leaf_engine.specs.declared.needs.Place.{Place}
use Rattle.leaf_engine.specs.Changes.{Memory, Change, Put, changed, changed_all}
use Rattle.leaf_engine.specs.Means.{Instant, Means, Work, work_of, OfCall, MeansRow, MayChange, MayOweAll, hold}
use Rattle.leaf_parts.proofs.Acted.{opening}
use Rattle.leaf_parts.proofs.Aside.{page-kept, control-kept}
use Rattle.leaf_parts.proofs.Begun.{keys_lock}
use Rattle.key_table.specs.Words.{marked}
use Rattle.key_table.specs.CacheTrees.{mark_keys, cache_task}

-- the stores of so many HKIDs' words from that number on
abbrev all_marks : (WordPlace → ℕ) → (number left : ℕ) → List Change
all_marks words number zero = []
all_marks words number (suc left) = Put (place.Key number) (marked (words (place.Key number))) ∷ all_marks words (suc number) left

-- a marked word is that of the marked key
marks_key : (k : Key) → marked (key_word k) ≡ key_word (written_back k)
marks_key Unassigned = refl
marks_key (AssignedTo t) = (let low : (1 + 16 * t) % 16 ≡ 1 = omega arith in rw low refl)
marks_key (FlushedOf t true) = (let low : (2 + 4 + 16 * t) % 16 ≡ 6 = omega arith in rw low refl)
marks_key (FlushedOf t false) = (let low : (2 + 16 * t) % 16 ≡ 2 = omega arith in let sum : 2 + 16 * t + 4 ≡ 2 + 4 + 16 * t = omega arith in rw low sum)

same_owner : (k : Key) → key_owner (written_back k) ≡ key_owner k
same_owner Unassigned = refl
same_owner (AssignedTo t) = refl
same_owner (FlushedOf t b) = refl

-- what the stores leave, and what they store

before : (words : WordPlace → ℕ) (number left j : ℕ) (mem : Memory) → j < number → (changed_all (all_marks words number left) mem).words (place.Key j) ≡ mem.words (place.Key j)
before words number zero j mem b = refl
before words number (suc left) j mem b =
    let apart : (j == number) ≡ false = ne_eqb j number (λ e. (let is : j ≡ number = e in absurd (omega arith))) in
    before words (suc number) left j (changed (Put (place.Key number) (marked (words (place.Key number)))) mem) (omega arith) ∙ rw apart refl

at_key : (words : WordPlace → ℕ) (number left j : ℕ) (mem : Memory) → number ≤ j → j < number + left → (changed_all (all_marks words number left) mem).words (place.Key j) ≡ marked (words (place.Key j))
at_key words number zero j mem a b = absurd (omega arith)
at_key words number (suc left) j mem a b =
    let next : Memory = changed (Put (place.Key number) (marked (words (place.Key number)))) mem in
    by_test (j == number)
    (λ e. (let is : j ≡ number = eqb-true j number e in
    before words (suc number) left j next (omega arith) ∙ rw e (ap (λ (i : ℕ). marked (words (place.Key i))) (sym is))))
    (λ e. (let more : suc number ≤ j = grind (arith, nat_tests) in at_key words (suc number) left j next more (omega arith)))

module _ (words : WordPlace → ℕ) where
  slots_stay : (number left : ℕ) (mem : Memory) → (changed_all (all_marks words number left) mem).slots ≡ mem.slots
  slots_stay number zero mem = refl
  slots_stay number (suc left) mem = slots_stay (suc number) left (changed (Put (place.Key number) (marked (words (place.Key number)))) mem)

  lock_stays : (number left p : ℕ) (mem : Memory) → (changed_all (all_marks words number left) mem).words (place.Lock p) ≡ mem.words (place.Lock p)
  lock_stays number zero p mem = refl
  lock_stays number (suc left) p mem = lock_stays (suc number) left p (changed (Put (place.Key number) (marked (words (place.Key number)))) mem)

  pamt_stays : (number left p : ℕ) (mem : Memory) → (changed_all (all_marks words number left) mem).words (place.Pamt p) ≡ mem.words (place.Pamt p)
  pamt_stays number zero p mem = refl
  pamt_stays number (suc left) p mem = pamt_stays (suc number) left p (changed (Put (place.Key number) (marked (words (place.Key number)))) mem)

  word_stays : (number left p i : ℕ) (mem : Memory) → (changed_all (all_marks words number left) mem).words (place.Word p i) ≡ mem.words (place.Word p i)
  word_stays number zero p i mem = refl
  word_stays number (suc left) p i mem = word_stays (suc number) left p i (changed (Put (place.Key number) (marked (words (place.Key number)))) mem)

-- the words after it
module _ (m : Machine) (s : State) (mem : Memory) (sh : Shows m mem.words mem.slots s) where
  abbrev after : Memory
  after = changed_all (all_marks mem.words 3 m.hkids) mem

  abbrev s' : State
  s' = record s { world = write_back s.world }

  low_kept : (lock j : ℕ) → j < 3 → key_cell (write_back s.world) lock j ≡ key_cell s.world lock j
  low_kept lock j b =
      by_test (j == 0) (λ e. rw e refl)
      (λ x. by_test (j == 1) (λ e. rw (x, e) refl)
      (λ y. by_test (j == 2) (λ e. rw (x, y, e) refl)
      (λ z. absurd (grind (arith, nat_tests)))))

  key_marked : (j : ℕ) → IsIn m (place.Key j) → IsAs (cell s' (place.Key j)) (after.words (place.Key j))
  key_marked j b =
      let was : IsAs (cell s (place.Key j)) (mem.words (place.Key j)) = sh.word (place.Key j) b in
      by_test (nat_lt j 3)
      (λ e. (let low : j < 3 = ltb-true j 3 e in
      rw (before mem.words 3 m.hkids j mem low) (subst (λ (x : Option ℕ). IsAs x (mem.words (place.Key j))) (sym (low_kept (lock_word s.lps s.lp_count OfKeys) j low)) was)))
      (λ e. (let from : 3 ≤ j = grind (arith, nat_tests) in
      let x : (j == 0) ≡ false = grind (arith, nat_tests) in
      let y : (j == 1) ≡ false = grind (arith, nat_tests) in
      let z : (j == 2) ≡ false = grind (arith, nat_tests) in
      let now : mem.words (place.Key j) ≡ key_word (s.world.key_table.keys (suc (j - 3))) = rw (x, y, z) at was in
      rw (at_key mem.words 3 m.hkids j mem from b, now, x, y, z) (marks_key (s.world.key_table.keys (suc (j - 3))))))

  pub marked_shown : Shows m after.words after.slots s'
  marked_shown = record { word = at; hasher = slot }
    where
      at : (q : WordPlace) → IsIn m q → IsAs (cell s' q) (after.words q)
      at (place.Lock p) b = rw (lock_stays mem.words 3 m.hkids p mem) (sh.word (place.Lock p) b)
      at (place.Pamt p) b = rw (pamt_stays mem.words 3 m.hkids p mem) (sh.word (place.Pamt p) b)
      at (place.Key j) b = key_marked j b
      at (place.Word p i) b = rw (word_stays mem.words 3 m.hkids p i mem) (page-kept s s'.world p i (mem.words (place.Word p i)) (record {
        words = λ j. refl;
        tdr = λ is j. refl;
        owned = λ o. record { stands = λ z. z; level = refl; number = refl; entries = λ l e. refl; vp = λ j. refl; stream = λ j. refl; control = λ is z. control-kept refl (λ l e. refl) (λ f j. refl) };
      }) refl refl (sh.word (place.Word p i) b))

      slot : (h : ℕ) → IsAs (hasher_cell s'.world h) (after.slots h)
      slot h = rw (slots_stay mem.words 3 m.hkids mem, same_owner (s.world.key_table.keys h)) (sh.hasher h)

abbrev the_work : Work
the_work = work_of (OfCall write_caches_back)

-- every store is allowed
owed : (m : Machine) (c : Instant) (words : WordPlace → ℕ) (number left : ℕ) (mem : Memory) → 1 ≤ number → number + left ≤ 3 + m.hkids → MayOweAll m (hold c (keys_lock ∷ [])) (write_back c.state.world) mem (all_marks words number left)
owed m c words number zero mem a b = tt
owed m c words number (suc left) mem a b =
    let no : (number == 0) ≡ false = grind (arith, nat_tests) in (
      (omega arith, (KeepsNothing, rw no (inl (refl, tt)), tt)),
      owed m c words (suc number) left (changed (Put (place.Key number) (marked (words (place.Key number)))) mem) (omega arith) (omega arith),
    )

allowed : (m : Machine) (c : Instant) (left : ℕ) → 3 + left ≤ 3 + m.hkids → MayChange m (hold c (keys_lock ∷ [])) c.state.world (write_back c.state.world) c.memory (all_marks c.memory.words 3 left)
allowed m c zero b = tt
allowed m c (suc left) b = (
  (omega arith, (KeepsNothing, inl (refl, tt), tt)),
  owed m c c.memory.words 4 left (changed (Put (place.Key 3) (marked (c.memory.words (place.Key 3)))) c.memory) (omega arith) (omega arith),
)

-- the loads, one after the other
assoc : (cs : List Change) (c : Change) (ds : List Change) → (cs ++ c ∷ []) ++ ds ≡ cs ++ c ∷ ds
assoc [] c ds = refl
assoc (b ∷ cs) c ds = ap (λ (xs : List Change). b ∷ xs) (assoc cs c ds)

unit : (cs : List Change) → cs ++ [] ≡ cs
unit [] = refl
unit (c ∷ cs) = ap (λ (xs : List Change). c ∷ xs) (unit cs)

loads : (m : Machine) (c : Instant) (number left : ℕ) (cs : List Change) → 1 ≤ number → number + left ≤ 3 + m.hkids
    → Means m c the_work (keys_lock ∷ []) (mark_keys 0 zero (cs ++ all_marks c.memory.words number left)) [] → Means m c the_work (keys_lock ∷ []) (mark_keys number left cs) []
loads m c number zero cs a b end = subst (λ (xs : List Change). Means m c the_work (keys_lock ∷ []) (mark_keys 0 zero xs) []) (unit cs) end
loads m c number (suc left) cs a b end =
    let no : (number == 0) ≡ false = grind (arith, nat_tests) in
    let store : Change = Put (place.Key number) (marked (c.memory.words (place.Key number))) in (
      omega arith,
      inl (rw no (inl (refl, tt))),
      loads m c (suc number) left (cs ++ store ∷ []) (omega arith) (omega arith)
          (subst (λ (xs : List Change). Means m c the_work (keys_lock ∷ []) (mark_keys 0 zero xs) []) (sym (assoc cs store (all_marks c.memory.words (suc number) left))) end),
    )

back_respects : (m : Machine) (c : Instant) → Lawful m c.state.world → Respects (hold c (keys_lock ∷ [])) c.state.world (write_back c.state.world)
back_respects m c la = rows-respect (opening m) 0 call.PhymemCacheWb (hold c (keys_lock ∷ [])) c.state.world la tt ((refl, refl), tt)

pub cache-means : (p : Place) → MeansRow (cache_task p)
cache-means p = record {
  means = λ c at. (
    refl,
    refl,
    record { in_machine = omega arith; at = refl; stands = tt; allowed = inl tt },
    loads p.machine c 3 p.machine.hkids [] (omega arith) (omega arith) (
      record {
        answers = record { reply_is = refl; cached_is = refl; enters_is = refl; notes_are = refl; tells_are = refl; bundles_are = refl };
        fills_allowed = tt;
        respects = back_respects p.machine c at.lawful;
        locks_stay = ((refl, λ x. x), tt);
        shows = marked_shown p.machine c.state c.memory at.shown;
      },
      allowed p.machine c p.machine.hkids (omega arith),
    ),
  );
}
