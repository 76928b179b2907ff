-- The words that IMPORT.STATE.IMMUTABLE leaves show its act.
use Rattle.std.proofs.Common.{◌≡◌, ℕ, zero, suc, ◌+◌, ◌-◌, ◌<◌, ◌≤◌, Bool, true, false, ◌==◌, ◌&&◌, [], ◌∷◌, Option, Some, None, refl, ap, sym, ◌∙◌, subst, arith}
use Rattle.std.specs.Prelude.{nat_le, nat_lt}
use Rattle.std.proofs.lemmas.Bool.{eq-eqb, eqb-true, ltb-true}
use Rattle.std.proofs.lemmas.Bool.Decides.{nat_tests}
use Rattle.td_words.specs.declared.names.PageKind.TheVariants as kind
use Rattle.td_words.specs.declared.machines.Machine.{Machine}
use Rattle.td_words.specs.Place.{WordPlace, IsIn}
use Rattle.td_words.specs.Place as place
use Rattle.flat_core.specs.World.{World}
use Rattle.flat_core.specs.Processor.{LockId}
use Rattle.flat_core.specs.Lawful.{IsPageOf, key_owner}
use Rattle.flat_core.specs.Sessions.{stream_page, stream_counter, count_bundle}
use Rattle.flat_core.specs.Inputs.{Input}
use Rattle.flat_core.specs.ImportRows.{first_ops, begin_import}
use Rattle.flat_core.specs.Event.{State}
use Rattle.flat_core.proofs.Tests.{by_test}
use Rattle.word_rules.specs.Lines.{in_lines}
use Rattle.word_rules.specs.Cells.{Shows, IsAs, cell, lock_word, td_lock_lines, tdcs_lines, built_hasher}
use Rattle.word_rules.specs.Rules.{TdcsWord}
use Rattle.word_rules.specs.Spots.{or_unused, tdcs_classes}
use Rattle.leaf_engine.specs.Changes.{Hand, Memory, Put, changed, changed_all}
use Rattle.leaf_parts.proofs.Aside.{apart, KeepsPage, page-kept, tdcs-but}
use Rattle.leaf_parts.proofs.Begun.{IsTd}
use Rattle.leaf_parts.proofs.Told.{tdcs-shown}
use Rattle.stream_parts.proofs.Counted.{input-counted}
use Rattle.import_parts.proofs.WordPuts.{puts-lock, puts-pamt, puts-key, puts-off, puts-before, puts-behind, puts-at}
use Rattle.import_states.specs.declared.sessions.Begun.{Begun}
use Rattle.import_states.specs.BeginImportTrees.{begin_import_changes}

-- the lines of MRTD
pub mrtd-line : (w : World) (locks : LockId → ℕ) (t k : ℕ) → k < 6 → in_lines (td_lock_lines locks t (tdcs_lines w t)) (64 + k) ≡ Some (w.tds.mrtds t k)
mrtd-line w locks t zero b = refl
mrtd-line w locks t (suc zero) b = refl
mrtd-line w locks t (suc (suc zero)) b = refl
mrtd-line w locks t (suc (suc (suc zero))) b = refl
mrtd-line w locks t (suc (suc (suc (suc zero)))) b = refl
mrtd-line w locks t (suc (suc (suc (suc (suc zero))))) b = refl
mrtd-line w locks t (suc (suc (suc (suc (suc (suc k)))))) b = absurd (omega (arith, b))

pub mrtd-class : (current empty : ℕ → Bool) (k : ℕ) → k < 6 → or_unused (in_lines (tdcs_classes current empty) (64 + k)) ≡ TdcsWord
mrtd-class current empty zero b = refl
mrtd-class current empty (suc zero) b = refl
mrtd-class current empty (suc (suc zero)) b = refl
mrtd-class current empty (suc (suc (suc zero))) b = refl
mrtd-class current empty (suc (suc (suc (suc zero)))) b = refl
mrtd-class current empty (suc (suc (suc (suc (suc zero))))) b = refl
mrtd-class current empty (suc (suc (suc (suc (suc (suc k)))))) b = absurd (omega (arith, b))

module _ (m : Machine) (s : State) (mem : Memory) (t : ℕ) (x : Input) (sh : Shows m mem.words mem.slots s) (y : IsTd m s.world t first_ops)
    (stream : IsPageOf s.world.pages t (stream_page s.world t 0) kind.Migsc) (stream_in : stream_page s.world t 0 < m.pages) (none : stream_counter s.world t 0 ≡ 0) where
  abbrev w : World
  w = s.world

  abbrev d : ℕ
  d = y.controls.tdcs

  abbrev p : ℕ
  p = stream_page s.world t 0

  abbrev w' : World
  w' = count_bundle t 0 (begin_import t x s.world)

  abbrev now : State
  now = record s { world = w' }

  abbrev g : Begun
  g = record { tdcs = y.controls.tdcs; page = stream_page s.world t 0 }

  abbrev after : Memory
  after = changed_all (begin_import_changes x g) mem

  abbrev locks : LockId → ℕ
  locks = lock_word s.lps s.lp_count

  -- before MRTD is stored; and once its stream has counted the bundle alone
  abbrev later : Memory
  later =
      changed_all (Put (place.Word d 4) 6 ∷ Put (place.Word d 5) 1 ∷ Put (place.Word d 10) 1 ∷ Put (place.Word d 11) x.header.session ∷ Put (place.Word d 14) x.header.info
      ∷ Put (place.Key 2) x.header.session ∷ Put (place.Word p 0) 1 ∷ []) mem

  abbrev between : Memory
  between = changed (Put (place.Word p 0) (stream_counter s.world t 0 + 1)) mem

  abbrev counted_state : State
  counted_state = record s { world = count_bundle t 0 s.world }

  counted : Shows m between.words between.slots counted_state
  counted = input-counted m s mem t 0 sh y.alive.life stream stream_in

  itself : (d == d) ≡ true
  itself = eq-eqb d d refl

  its-td : (t == t) ≡ true
  its-td = eq-eqb t t refl

  other : (d == p) ≡ false
  other = apart s.world.pages.kinds d p kind.Tdcx kind.Migsc y.controls.tdcs_page.kind stream.kind (λ e. cc)

  -- the words of TDCS
  abbrev Line : ℕ → Type 0
  Line i = IsAs (in_lines (td_lock_lines locks t (tdcs_lines w' t)) i) (after.words (place.Word d i))

  of-mrtd : (n : ℕ) → n < 6 → Line (64 + n)
  of-mrtd n b =
      let line : in_lines (td_lock_lines locks t (tdcs_lines w' t)) (64 + n) ≡ Some (x.words n) = mrtd-line w' locks t n b ∙ ap Some (rw its-td refl) in
      subst (λ (o : Option ℕ). IsAs o (after.words (place.Word d (64 + n)))) (sym line) (puts-at d 64 x.words 0 6 later n (omega arith) (omega (arith, b)))

  no-mrtd : (i : ℕ) → (nat_le 64 i && nat_lt i 70) ≡ false → after.words (place.Word d i) ≡ later.words (place.Word d i)
  no-mrtd i o = by_test (nat_lt i 64)
      (λ a. puts-before d 64 x.words 0 6 later i (let b = ltb-true i 64 a in omega (arith, b)))
      (λ a. (let b : 64 + 0 + 6 ≤ i = grind (arith, nat_tests) in puts-behind d 64 x.words 0 6 later i b))

  the-op : Line 4
  the-op = (let word : later.words (place.Word d 4) ≡ 6 = rw (other, itself) refl in rw its-td (puts-before d 64 x.words 0 6 later 4 (omega arith) ∙ word))

  the-epoch : Line 5
  the-epoch = (let word : later.words (place.Word d 5) ≡ 1 = rw (other, itself) refl in rw its-td (puts-before d 64 x.words 0 6 later 5 (omega arith) ∙ word))

  the-mig-epoch : Line 10
  the-mig-epoch = (let word : later.words (place.Word d 10) ≡ 1 = rw (other, itself) refl in rw its-td (puts-before d 64 x.words 0 6 later 10 (omega arith) ∙ word))

  the-session : Line 11
  the-session = (let word : later.words (place.Word d 11) ≡ x.header.session = rw (other, itself) refl in rw its-td (puts-before d 64 x.words 0 6 later 11 (omega arith) ∙ word))

  the-number : Line 14
  the-number = (let word : later.words (place.Word d 14) ≡ x.header.info = rw (other, itself) refl in rw its-td (puts-before d 64 x.words 0 6 later 14 (omega arith) ∙ word))

  the-rest : (i : ℕ) → i < 512 → (nat_le 64 i && nat_lt i 70) ≡ false → (i == 4) ≡ false → (i == 5) ≡ false → (i == 10) ≡ false → (i == 11) ≡ false → (i == 14) ≡ false → Line i
  the-rest i b o e0 e1 e2 e3 e4 =
      let was : IsAs (in_lines (td_lock_lines locks t (tdcs_lines w t)) i) (mem.words (place.Word d i)) = tdcs-shown m mem.words mem.slots s sh t i d (y.controls.root ∷ []) y.controls.list y.controls.tdcs_page y.alive.life y.controls.tdcs_in b in
      let line : in_lines (td_lock_lines locks t (tdcs_lines w' t)) i ≡ in_lines (td_lock_lines locks t (tdcs_lines w t)) i = rw (e0, e1, e2, e3, e4, o) refl in
      let word : later.words (place.Word d i) ≡ mem.words (place.Word d i) = rw (other, itself, e0, e1, e2, e3, e4) refl in
      subst (λ (n : ℕ). IsAs (in_lines (td_lock_lines locks t (tdcs_lines w' t)) i) n) (sym (no-mrtd i o ∙ word)) (subst (λ (z : Option ℕ). IsAs z (mem.words (place.Word d i))) (sym line) was)

  a-line : (i : ℕ) → i < 512 → Line i
  a-line i b = by_test (nat_le 64 i && nat_lt i 70)
      (λ r. (let few : i - 64 < 6 = grind (arith, nat_tests) in let is : 64 + (i - 64) ≡ i = grind (arith, nat_tests) in subst Line is (of-mrtd (i - 64) few)))
      (λ o. by_test (i == 4) (λ e. subst Line (sym (eqb-true i 4 e)) the-op)
      (λ e0. by_test (i == 5) (λ e. subst Line (sym (eqb-true i 5 e)) the-epoch)
      (λ e1. by_test (i == 10) (λ e. subst Line (sym (eqb-true i 10 e)) the-mig-epoch)
      (λ e2. by_test (i == 11) (λ e. subst Line (sym (eqb-true i 11 e)) the-session)
      (λ e3. by_test (i == 14) (λ e. subst Line (sym (eqb-true i 14 e)) the-number)
      (λ e4. the-rest i b o e0 e1 e2 e3 e4))))))

  tdcs-word : (i : ℕ) → i < 512 → IsAs (cell now (place.Word d i)) (after.words (place.Word d i))
  tdcs-word i b =
      let line : cell now (place.Word d i) ≡ in_lines (td_lock_lines locks t (tdcs_lines w' t)) i = rw (y.controls.tdcs_page.kind, y.controls.tdcs_page.owner, y.alive.life, y.controls.list, itself) refl in
      subst (λ (o : Option ℕ). IsAs o (after.words (place.Word d i))) (sym line) (a-line i b)

  -- those of all other pages
  rest-kept : (q : ℕ) → (q == d) ≡ false → KeepsPage (count_bundle t 0 w) w' locks (w.pages.owners q) q
  rest-kept q o = record {
    words = λ i. refl;
    tdr = λ is i. refl;
    owned = λ own. record { stands = λ z. z; level = refl; number = refl; entries = λ l e. refl; vp = λ i. refl; stream = λ i. refl; control = λ is z. tdcs-but refl (λ l e. refl) t d (y.controls.root ∷ []) y.controls.list o (λ u i. rw u refl) };
  }

  rest-word : (q i : ℕ) → IsIn m (place.Word q i) → (q == d) ≡ false → IsAs (cell now (place.Word q i)) (after.words (place.Word q i))
  rest-word q i b o =
      let still : later.words (place.Word q i) ≡ between.words (place.Word q i) = rw (o, none) refl in
      subst (λ (v : ℕ). IsAs (cell now (place.Word q i)) v) (sym (puts-off d 64 x.words 0 6 later q i o ∙ still)) (page-kept counted_state w' q i (between.words (place.Word q i)) (rest-kept q o) refl refl (counted.word (place.Word q i) b))

  key-word : (k : ℕ) → IsIn m (place.Key k) → IsAs (cell now (place.Key k)) (later.words (place.Key k))
  key-word k b = by_test (k == 2)
      (λ e. subst (λ (j : ℕ). IsAs (cell now (place.Key j)) (later.words (place.Key j))) (sym (eqb-true k 2 e)) refl)
      (λ n. rw n (rw n at (sh.word (place.Key k) b)))

  each-word : (q : WordPlace) → IsIn m q → IsAs (cell now q) (after.words q)
  each-word (place.Lock r) b = subst (λ (v : ℕ). IsAs (cell now (place.Lock r)) v) (sym (puts-lock d 64 x.words 0 6 later r)) (sh.word (place.Lock r) b)
  each-word (place.Pamt r) b = subst (λ (v : ℕ). IsAs (cell now (place.Pamt r)) v) (sym (puts-pamt d 64 x.words 0 6 later r)) (sh.word (place.Pamt r) b)
  each-word (place.Key k) b = subst (λ (v : ℕ). IsAs (cell now (place.Key k)) v) (sym (puts-key d 64 x.words 0 6 later k)) (key-word k b)
  each-word (place.Word q i) b = by_test (q == d)
      (λ e. subst (λ (r : ℕ). IsAs (cell now (place.Word r i)) (after.words (place.Word r i))) (sym (eqb-true q d e)) (tdcs-word i b.1))
      (λ o. rest-word q i b o)

  -- nothing is measured
  built-same : (o : Option ℕ) (hand : Hand) → IsAs (built_hasher w o) hand → IsAs (built_hasher w' o) hand
  built-same None hand a = tt
  built-same (Some u) hand a = by_test (u == t) (λ e. rw (eqb-true u t e, y.configured, its-td) tt) (λ n. rw n a)

  pub import-begun : Shows m after.words after.slots now
  import-begun = record { word = each-word; hasher = λ h. built-same (key_owner (w.key_table.keys h)) (mem.slots h) (sh.hasher h) }
