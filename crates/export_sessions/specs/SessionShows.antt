-- The words that EXPORT.STATE.IMMUTABLE leaves show its act.
use Rattle.std.proofs.Common.{◌≡◌, ℕ, ◌+◌, ◌<◌, true, false, ◌==◌, List, [], ◌∷◌, length, Option, Some, None, refl, sym, ◌∙◌, subst}
use Rattle.std.specs.List.{list_any}
use Rattle.std.proofs.lemmas.Bool.{eq-eqb, eqb-true}
use Rattle.td_words.specs.declared.names.PageKind.TheVariants as kind
use Rattle.td_words.specs.declared.machines.Machine.{Machine}
use Rattle.td_words.specs.declared.places.TheConstants.{KEY_LAST_EXPORTED}
use Rattle.td_words.specs.Place.{WordPlace, IsIn}
use Rattle.td_words.specs.Place as place
use Rattle.flat_core.specs.World.{World}
use Rattle.flat_core.specs.Processor.{LockId}
use Rattle.flat_core.specs.BundleRows.{session_ops, export_immutable}
use Rattle.flat_core.specs.Lawful.{Lawful, IsPageOf, key_owner}
use Rattle.flat_core.specs.Event.{State}
use Rattle.flat_core.proofs.Tests.{by_test}
use Rattle.flat_core.proofs.Streams.{page_among}
use Rattle.word_rules.specs.Lines.{in_lines}
use Rattle.word_rules.specs.Cells.{Shows, IsAs, cell, lock_word, td_lock_lines, tdcs_lines, stream_lines, built_hasher, hasher_cell}
use Rattle.leaf_engine.specs.Changes.{Hand, Memory, Put, changed_all}
use Rattle.leaf_parts.proofs.Aside.{KeepsPage, page-kept, tdcs-but}
use Rattle.leaf_parts.proofs.Begun.{IsTd}
use Rattle.leaf_parts.proofs.Told.{tdcs-shown}
use Rattle.export_sessions.specs.SessionTrees.{td_puts, stream_changes}
use Rattle.export_sessions.specs.StreamStores.{lock-kept, pamt-kept, key-kept, slots-kept, page-kept-off, each-stored, counted-here, counted-there}

module _ (m : Machine) (slot : ℕ) (s : State) (mem : Memory) (t : ℕ) (sh : Shows m mem.words mem.slots s) (la : Lawful m s.world) (x : IsTd m s.world t session_ops) (some : 0 < length (s.world.tds.streams t)) where
  abbrev w : World
  w = s.world

  abbrev w' : World
  w' = (export_immutable m t slot).act s.world

  abbrev ps : List ℕ
  ps = s.world.tds.streams t

  abbrev d : ℕ
  d = x.controls.tdcs

  abbrev number : ℕ
  number = s.world.key_table.last_exported + 1

  abbrev locks : LockId → ℕ
  locks = lock_word s.lps s.lp_count

  abbrev now : State
  now = record s { world = w' }

  -- once the words of the key table and of the TD are stored, and then those of its streams
  abbrev between : Memory
  between = changed_all (td_puts d number) (changed_all (Put (place.Key KEY_LAST_EXPORTED) number ∷ []) mem)

  abbrev after : Memory
  after = changed_all (stream_changes 1 ps) between

  itself : (d == d) ≡ true
  itself = eq-eqb d d refl

  its-td : (t == t) ≡ true
  its-td = eq-eqb t t refl

  -- the TD's TDCS, which is none of its streams
  stream-page : (q : ℕ) → list_any (λ p. p == q) ps ≡ true → IsPageOf w.pages t q kind.Migsc
  stream-page q h = page_among w.pages t kind.Migsc ps q (la.tds.streams t x.alive) h

  no-stream : list_any (λ p. p == d) ps ≡ false
  no-stream = by_test (list_any (λ p. p == d) ps)
      (λ h. absurd (let page : IsPageOf w.pages t d kind.Migsc = stream-page d h in let one : kind.Migsc ≡ kind.Tdcx = sym page.kind ∙ x.controls.tdcs_page.kind in cc))
      (λ n. n)

  abbrev Line : ℕ → Type 0
  Line i = IsAs (in_lines (td_lock_lines locks t (tdcs_lines w' t)) i) (between.words (place.Word d i))

  other-line : (i : ℕ) → i < 512 → (i == 4) ≡ false → (i == 8) ≡ false → (i == 9) ≡ false → (i == 10) ≡ false → (i == 11) ≡ false → (i == 12) ≡ false → (i == 13) ≡ false → Line i
  other-line i b e0 e1 e2 e3 e4 e5 e6 =
      let was : IsAs (in_lines (td_lock_lines locks t (tdcs_lines w t)) i) (mem.words (place.Word d i)) = tdcs-shown m mem.words mem.slots s sh t i d (x.controls.root ∷ []) x.controls.list x.controls.tdcs_page x.alive.life x.controls.tdcs_in b in
      let same : in_lines (td_lock_lines locks t (tdcs_lines w' t)) i ≡ in_lines (td_lock_lines locks t (tdcs_lines w t)) i = rw (e0, e1, e2, e3, e4, e5, e6) refl in
      let word : between.words (place.Word d i) ≡ mem.words (place.Word d i) = rw (itself, e0, e1, e2, e3, e4, e5, e6) refl in
      rw (same, word) was

  a-line : (i : ℕ) → i < 512 → Line i
  a-line i b = by_test (i == 4) (λ e. subst Line (sym (eqb-true i 4 e)) (rw (itself, its-td) refl))
      (λ e0. by_test (i == 8) (λ e. subst Line (sym (eqb-true i 8 e)) (rw (itself, its-td) refl))
      (λ e1. by_test (i == 9) (λ e. subst Line (sym (eqb-true i 9 e)) (rw (itself, its-td) refl))
      (λ e2. by_test (i == 10) (λ e. subst Line (sym (eqb-true i 10 e)) (rw (itself, its-td) refl))
      (λ e3. by_test (i == 11) (λ e. subst Line (sym (eqb-true i 11 e)) (rw (itself, its-td) refl))
      (λ e4. by_test (i == 12) (λ e. subst Line (sym (eqb-true i 12 e)) (rw (itself, its-td) refl))
      (λ e5. by_test (i == 13) (λ e. subst Line (sym (eqb-true i 13 e)) (rw (itself, its-td) refl))
      (λ e6. other-line i b e0 e1 e2 e3 e4 e5 e6)))))))

  tdcs-word : (i : ℕ) → i < 512 → IsAs (cell now (place.Word d i)) (after.words (place.Word d i))
  tdcs-word i b = rw (x.controls.tdcs_page.kind, x.controls.tdcs_page.owner, x.alive.life, x.controls.list, itself) (subst (λ (v : ℕ). IsAs (in_lines (td_lock_lines locks t (tdcs_lines w' t)) i) v) (sym (page-kept-off 1 ps between d i no-stream)) (a-line i b))

  -- its streams
  stream-word : (q i : ℕ) → list_any (λ p. p == q) ps ≡ true → IsAs (cell now (place.Word q i)) (after.words (place.Word q i))
  stream-word q i h =
      let page : IsPageOf w.pages t q kind.Migsc = stream-page q h in
      let stored : IsAs (in_lines (stream_lines w' q) i) (after.words (place.Word q i)) = each-stored ps between q i (w'.streams.counters q) (w'.streams.cleaned q) (w'.streams.first_exports q) some (la.tds.streams_differ t) h (counted-here w.streams.counters ps q some h) (rw h refl) (rw h refl) in
      rw (page.kind, page.owner, x.alive.life) stored

  -- all other pages
  rest-kept : (q : ℕ) → (q == d) ≡ false → list_any (λ p. p == q) ps ≡ false → KeepsPage w w' locks (w.pages.owners q) q
  rest-kept q o n = record {
    words = λ i. refl;
    tdr = λ is i. refl;
    owned = λ own. record {
      stands = λ z. z;
      level = refl;
      number = refl;
      entries = λ l e. refl;
      vp = λ i. refl;
      stream = λ i. rw (counted-there w.streams.counters ps q some n, n) refl;
      control = λ is z. tdcs-but refl (λ l e. refl) t d (x.controls.root ∷ []) x.controls.list o (λ u i. rw u refl);
    };
  }

  rest-word : (q i : ℕ) → IsIn m (place.Word q i) → (q == d) ≡ false → list_any (λ p. p == q) ps ≡ false → IsAs (cell now (place.Word q i)) (after.words (place.Word q i))
  rest-word q i b o n =
      let still : between.words (place.Word q i) ≡ mem.words (place.Word q i) = rw o refl in
      subst (λ (v : ℕ). IsAs (cell now (place.Word q i)) v) (sym (page-kept-off 1 ps between q i n ∙ still)) (page-kept s w' q i (mem.words (place.Word q i)) (rest-kept q o n) refl refl (sh.word (place.Word q i) b))

  key-word : (k : ℕ) → IsIn m (place.Key k) → IsAs (cell now (place.Key k)) (between.words (place.Key k))
  key-word k b = by_test (k == 1)
      (λ e. subst (λ (j : ℕ). IsAs (cell now (place.Key j)) (between.words (place.Key j))) (sym (eqb-true k 1 e)) refl)
      (λ n. rw n (rw n at (sh.word (place.Key k) b)))

  each-word : (q : WordPlace) → IsIn m q → IsAs (cell now q) (after.words q)
  each-word (place.Lock r) b = subst (λ (v : ℕ). IsAs (cell now (place.Lock r)) v) (sym (lock-kept 1 ps between r)) (sh.word (place.Lock r) b)
  each-word (place.Pamt r) b = subst (λ (v : ℕ). IsAs (cell now (place.Pamt r)) v) (sym (pamt-kept 1 ps between r)) (sh.word (place.Pamt r) b)
  each-word (place.Key k) b = subst (λ (v : ℕ). IsAs (cell now (place.Key k)) v) (sym (key-kept 1 ps between k)) (key-word k b)
  each-word (place.Word q i) b = by_test (q == d)
      (λ y. subst (λ (r : ℕ). IsAs (cell now (place.Word r i)) (after.words (place.Word r i))) (sym (eqb-true q d y)) (tdcs-word i b.1))
      (λ o. by_test (list_any (λ p. p == q) ps) (λ h. stream-word q i h) (λ n. rest-word q i b o n))

  -- nothing is measured
  built-same : (o : Option ℕ) (hand : Hand) → IsAs (built_hasher w o) hand → IsAs (built_hasher w' o) hand
  built-same None hand a = tt
  built-same (Some u) hand a = by_test (u == t) (λ y. rw (eqb-true u t y, x.configured, its-td) tt) (λ n. rw n a)

  pub session-shown : Shows m after.words after.slots now
  session-shown = record {
    word = each-word;
    hasher = λ h. subst (λ (f : ℕ → Hand). IsAs (hasher_cell w' h) (f h)) (sym (slots-kept 1 ps between)) (built-same (key_owner (w.key_table.keys h)) (mem.slots h) (sh.hasher h));
  }
