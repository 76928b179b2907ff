-- The words that IMPORT.STATE.TD leaves show its act.
use Rattle.std.proofs.Common.{◌≡◌, ℕ, zero, suc, ◌+◌, ◌-◌, ◌<◌, ◌≤◌, true, false, ◌==◌, ◌&&◌, [], ◌∷◌, Option, Some, None, refl, ap, sym, ◌∙◌, subst, arith}
use Rattle.std.specs.Prelude.{nat_le, nat_lt}
use Rattle.std.proofs.lemmas.Bool.{eq-eqb, eqb-true, ltb-true}
use Rattle.std.proofs.lemmas.Bool.Decides.{nat_tests}
use Rattle.td_words.specs.declared.names.PageKind.TheVariants as kind
use Rattle.td_words.specs.declared.names.OpState.TheVariants as op
use Rattle.td_words.specs.declared.machines.Machine.{Machine}
use Rattle.td_words.specs.Place as place
use Rattle.flat_core.specs.World.{World}
use Rattle.flat_core.specs.Processor.{LockId}
use Rattle.flat_core.specs.Effects.{set_op}
use Rattle.flat_core.specs.Lawful.{IsPageOf, key_owner}
use Rattle.flat_core.specs.Sessions.{stream_page, stream_counter, count_bundle}
use Rattle.flat_core.specs.Inputs.{Input}
use Rattle.flat_core.specs.ImportRows.{td_state_ops, give_rtmrs}
use Rattle.flat_core.specs.Event.{State}
use Rattle.flat_core.proofs.Tests.{by_test}
use Rattle.word_rules.specs.Lines.{in_lines}
use Rattle.word_rules.specs.Cells.{Shows, IsAs, cell, lock_word, td_lock_lines, tdcs_lines, built_hasher}
use Rattle.leaf_engine.specs.Changes.{Hand, Memory, Put, changed, changed_all}
use Rattle.leaf_parts.proofs.Aside.{apart, aside, back, kept-but, tdcs-but}
use Rattle.leaf_parts.proofs.Begun.{IsTd}
use Rattle.leaf_parts.proofs.Told.{tdcs-shown}
use Rattle.access_core.specs.RtmrShows.{rtmr-line}
use Rattle.stream_parts.proofs.Counted.{input-counted}
use Rattle.import_parts.proofs.WordPuts.{puts-lock, puts-pamt, puts-key, puts-off, puts-before, puts-behind, puts-at}
use Rattle.import_states.specs.declared.sessions.Begun.{Begun}
use Rattle.import_states.specs.TdImportTrees.{td_import_changes}

module _ (m : Machine) (s : State) (mem : Memory) (t : ℕ) (x : Input) (sh : Shows m mem.words mem.slots s) (y : IsTd m s.world t td_state_ops)
    (stream : IsPageOf s.world.pages t (stream_page s.world t 0) kind.Migsc) (stream_in : stream_page s.world t 0 < m.pages) (counter : x.header.counter ≡ stream_counter s.world t 0) where
  abbrev w : World
  w = s.world

  abbrev d : ℕ
  d = y.controls.tdcs

  abbrev p : ℕ
  p = stream_page s.world t 0

  abbrev w' : World
  w' = count_bundle t 0 (set_op t op.StateImport (give_rtmrs t x.words s.world))

  abbrev now : State
  now = record s { world = w' }

  abbrev g : Begun
  g = record { tdcs = y.controls.tdcs; page = stream_page s.world t 0 }

  abbrev after : Memory
  after = changed_all (td_import_changes x g) mem

  abbrev locks : LockId → ℕ
  locks = lock_word s.lps s.lp_count

  -- before the other words of the RTMRs are stored; and once its stream has counted the bundle alone
  abbrev later : Memory
  later = changed_all (Put (place.Word d 16) (x.words 0) ∷ Put (place.Word d 4) 7 ∷ Put (place.Word p 0) (x.header.counter + 1) ∷ []) mem

  abbrev between : Memory
  between = changed (Put (place.Word p 0) (stream_counter s.world t 0 + 1)) mem

  abbrev counted_state : State
  counted_state = record s { world = count_bundle t 0 s.world }

  counted : Shows m between.words between.slots counted_state
  counted = input-counted m s mem t 0 sh y.alive.life stream stream_in

  itself : (d == d) ≡ true
  itself = eq-eqb d d refl

  its-td : (t == t) ≡ true
  its-td = eq-eqb t t refl

  other : (d == p) ≡ false
  other = apart s.world.pages.kinds d p kind.Tdcx kind.Migsc y.controls.tdcs_page.kind stream.kind (λ e. cc)

  -- the words of TDCS
  abbrev Line : ℕ → Type 0
  Line i = IsAs (in_lines (td_lock_lines locks t (tdcs_lines w' t)) i) (after.words (place.Word d i))

  stored : (n : ℕ) → n < 24 → after.words (place.Word d (16 + n)) ≡ x.words n
  stored zero b = (let word : later.words (place.Word d 16) ≡ x.words 0 = rw (other, itself) refl in puts-before d 16 x.words 1 23 later 16 (omega arith) ∙ word)
  stored (suc n) b = puts-at d 16 x.words 1 23 later (suc n) (omega arith) (omega (arith, b))

  of-rtmrs : (n : ℕ) → n < 24 → Line (16 + n)
  of-rtmrs n b =
      let line : in_lines (td_lock_lines locks t (tdcs_lines w' t)) (16 + n) ≡ Some (x.words n) = rtmr-line w' locks t n b ∙ ap Some (rw its-td refl) in
      subst (λ (o : Option ℕ). IsAs o (after.words (place.Word d (16 + n)))) (sym line) (stored n b)

  no-rtmr : (i : ℕ) → (nat_le 16 i && nat_lt i 40) ≡ false → after.words (place.Word d i) ≡ later.words (place.Word d i)
  no-rtmr i o = by_test (nat_lt i 16)
      (λ a. puts-before d 16 x.words 1 23 later i (let b = ltb-true i 16 a in omega (arith, b)))
      (λ a. (let b : 16 + 1 + 23 ≤ i = grind (arith, nat_tests) in puts-behind d 16 x.words 1 23 later i b))

  the-op : Line 4
  the-op = (let word : later.words (place.Word d 4) ≡ 7 = rw (other, itself) refl in rw its-td (puts-before d 16 x.words 1 23 later 4 (omega arith) ∙ word))

  the-rest : (i : ℕ) → i < 512 → (nat_le 16 i && nat_lt i 40) ≡ false → (i == 4) ≡ false → Line i
  the-rest i b o four =
      let was : IsAs (in_lines (td_lock_lines locks t (tdcs_lines w t)) i) (mem.words (place.Word d i)) = tdcs-shown m mem.words mem.slots s sh t i d (y.controls.root ∷ []) y.controls.list y.controls.tdcs_page y.alive.life y.controls.tdcs_in b in
      let line : in_lines (td_lock_lines locks t (tdcs_lines w' t)) i ≡ in_lines (td_lock_lines locks t (tdcs_lines w t)) i = rw (four, o) refl in
      let first : (i == 16) ≡ false = grind (arith, nat_tests) in
      let word : later.words (place.Word d i) ≡ mem.words (place.Word d i) = rw (other, itself, four, first) refl in
      subst (λ (n : ℕ). IsAs (in_lines (td_lock_lines locks t (tdcs_lines w' t)) i) n) (sym (no-rtmr i o ∙ word)) (subst (λ (z : Option ℕ). IsAs z (mem.words (place.Word d i))) (sym line) was)

  a-line : (i : ℕ) → i < 512 → Line i
  a-line i b = by_test (nat_le 16 i && nat_lt i 40)
      (λ r. (let few : i - 16 < 24 = grind (arith, nat_tests) in let is : 16 + (i - 16) ≡ i = grind (arith, nat_tests) in subst Line is (of-rtmrs (i - 16) few)))
      (λ o. by_test (i == 4) (λ e. subst Line (sym (eqb-true i 4 e)) the-op) (λ four. the-rest i b o four))

  tdcs-word : (i : ℕ) → i < 512 → IsAs (cell now (place.Word d i)) (after.words (place.Word d i))
  tdcs-word i b =
      let line : cell now (place.Word d i) ≡ in_lines (td_lock_lines locks t (tdcs_lines w' t)) i = rw (y.controls.tdcs_page.kind, y.controls.tdcs_page.owner, y.alive.life, y.controls.list, itself) refl in
      subst (λ (o : Option ℕ). IsAs o (after.words (place.Word d i))) (sym line) (a-line i b)

  -- nothing is measured
  built-same : (o : Option ℕ) (hand : Hand) → IsAs (built_hasher w o) hand → IsAs (built_hasher w' o) hand
  built-same None hand a = tt
  built-same (Some u) hand a = by_test (u == t) (λ e. rw (eqb-true u t e, y.configured, its-td) tt) (λ n. rw n a)

  pub td-imported : Shows m after.words after.slots now
  td-imported = record {
    word = back (kept-but w' (aside d m between.words counted_state counted.word) (record {
      kinds = refl;
      owners = refl;
      blocked = refl;
      key_table = refl;
      page = λ q o n. record {
        words = λ i. refl;
        tdr = λ is i. refl;
        owned = λ own. record { stands = λ z. z; level = refl; number = refl; entries = λ l e. refl; vp = λ i. refl; stream = λ i. refl; control = λ is z. tdcs-but refl (λ l e. refl) t d (y.controls.root ∷ []) y.controls.list o (λ u i. rw u refl) };
      };
    })) after.words (λ r. puts-lock d 16 x.words 1 23 later r) (λ r. puts-pamt d 16 x.words 1 23 later r) (λ r. puts-key d 16 x.words 1 23 later r)
        (λ r i o. (let same : later.words (place.Word r i) ≡ between.words (place.Word r i) = rw (o, counter) refl in puts-off d 16 x.words 1 23 later r i o ∙ same)) tdcs-word;
    hasher = λ h. built-same (key_owner (w.key_table.keys h)) (mem.slots h) (sh.hasher h);
  }
