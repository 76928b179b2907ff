-- The words that IMPORT.STATE.VP leaves show its act.
use Rattle.std.proofs.Common.{◌≡◌, ℕ, ◌+◌, ◌-◌, ◌<◌, ◌≤◌, true, false, ◌==◌, ◌&&◌, [], ◌∷◌, Option, Some, refl, ap, sym, ◌∙◌, subst, arith}
use Rattle.std.specs.Prelude.{nat_le, nat_lt}
use Rattle.std.proofs.lemmas.Bool.{eq-eqb, eqb-true, ltb-true}
use Rattle.std.proofs.lemmas.Bool.Decides.{nat_tests}
use Rattle.td_words.specs.declared.names.PageKind.TheVariants as kind
use Rattle.td_words.specs.declared.machines.Machine.{Machine}
use Rattle.td_words.specs.Place as place
use Rattle.flat_core.specs.World.{World}
use Rattle.flat_core.specs.Lawful.{IsAlive, IsPageOf}
use Rattle.flat_core.specs.Sessions.{stream_page, stream_counter, count_bundle}
use Rattle.flat_core.specs.Inputs.{Input}
use Rattle.flat_core.specs.ImportRows.{give_vp_state}
use Rattle.flat_core.specs.Event.{State}
use Rattle.flat_core.proofs.Tests.{by_test}
use Rattle.word_rules.specs.Lines.{in_lines}
use Rattle.word_rules.specs.Cells.{Shows, IsAs, vp_lines}
use Rattle.leaf_engine.specs.Changes.{Memory, Put, changed, changed_all}
use Rattle.leaf_parts.proofs.Aside.{apart, aside, back, kept-but, control-kept}
use Rattle.leaf_parts.proofs.Vps.{vp-shown}
use Rattle.access_core.specs.VpShows.{register-line}
use Rattle.stream_parts.proofs.Counted.{input-counted}
use Rattle.import_parts.proofs.WordPuts.{puts-lock, puts-pamt, puts-key, puts-off, puts-before, puts-behind, puts-at}
use Rattle.import_states.specs.VpImportTrees.{vp_import_changes}

module _ (m : Machine) (s : State) (mem : Memory) (t v : ℕ) (x : Input) (sh : Shows m mem.words mem.slots s) (alive : IsAlive s.world.pages s.world.tds t) (its : IsPageOf s.world.pages t v kind.Tdvpr) (in_page : v < m.pages)
    (stream : IsPageOf s.world.pages t (stream_page s.world t 0) kind.Migsc) (stream_in : stream_page s.world t 0 < m.pages) (counter : x.header.counter ≡ stream_counter s.world t 0) where
  abbrev p : ℕ
  p = stream_page s.world t 0

  abbrev w' : World
  w' = count_bundle t 0 (give_vp_state v x.header.info x.words s.world)

  abbrev after : Memory
  after = changed_all (vp_import_changes v x p) mem

  -- before the registers are stored; and once its stream has counted the bundle alone
  abbrev later : Memory
  later = changed_all (Put (place.Word v 1) 1 ∷ Put (place.Word v 4) x.header.info ∷ Put (place.Word p 0) (x.header.counter + 1) ∷ []) mem

  abbrev between : Memory
  between = changed (Put (place.Word p 0) (stream_counter s.world t 0 + 1)) mem

  counted : Shows m between.words between.slots (record s { world = count_bundle t 0 s.world })
  counted = input-counted m s mem t 0 sh alive.life stream stream_in

  itself : (v == v) ≡ true
  itself = eq-eqb v v refl

  other : (v == p) ≡ false
  other = apart s.world.pages.kinds v p kind.Tdvpr kind.Migsc its.kind stream.kind (λ e. cc)

  abbrev Line : ℕ → Type 0
  Line i = IsAs (in_lines (vp_lines w' v) i) (after.words (place.Word v i))

  -- a register, the state, the position, and any other word
  a-register : (n : ℕ) → n < 8 → Line (8 + n)
  a-register n b =
      let line : in_lines (vp_lines w' v) (8 + n) ≡ Some (x.words n) = register-line w' v n b ∙ ap Some (rw itself refl) in
      subst (λ (o : Option ℕ). IsAs o (after.words (place.Word v (8 + n)))) (sym line) (puts-at v 8 x.words 0 8 later n (omega arith) (omega (arith, b)))

  no-register : (i : ℕ) → (nat_le 8 i && nat_lt i 16) ≡ false → after.words (place.Word v i) ≡ later.words (place.Word v i)
  no-register i o = by_test (nat_lt i 8)
      (λ y. puts-before v 8 x.words 0 8 later i (let b = ltb-true i 8 y in omega (arith, b)))
      (λ y. (let b : 8 + 0 + 8 ≤ i = grind (arith, nat_tests) in puts-behind v 8 x.words 0 8 later i b))

  the-state : Line 1
  the-state =
      let word : later.words (place.Word v 1) ≡ 1 = rw (other, itself) refl in
      let line : in_lines (vp_lines w' v) 1 ≡ Some 1 = rw itself refl in
      subst (λ (o : Option ℕ). IsAs o (after.words (place.Word v 1))) (sym line) (puts-before v 8 x.words 0 8 later 1 (omega arith) ∙ word)

  the-position : Line 4
  the-position =
      let word : later.words (place.Word v 4) ≡ x.header.info = rw (other, itself) refl in
      let line : in_lines (vp_lines w' v) 4 ≡ Some x.header.info = rw itself refl in
      subst (λ (o : Option ℕ). IsAs o (after.words (place.Word v 4))) (sym line) (puts-before v 8 x.words 0 8 later 4 (omega arith) ∙ word)

  the-rest : (i : ℕ) → i < 512 → (nat_le 8 i && nat_lt i 16) ≡ false → (i == 1) ≡ false → (i == 4) ≡ false → Line i
  the-rest i b o one four =
      let was : IsAs (in_lines (vp_lines s.world v) i) (mem.words (place.Word v i)) = vp-shown m mem.words mem.slots s sh t alive.life v i its in_page b in
      let line : in_lines (vp_lines w' v) i ≡ in_lines (vp_lines s.world v) i = rw (one, four, o) refl in
      let word : later.words (place.Word v i) ≡ mem.words (place.Word v i) = rw (other, itself, one, four) refl in
      subst (λ (n : ℕ). IsAs (in_lines (vp_lines w' v) i) n) (sym (no-register i o ∙ word)) (subst (λ (z : Option ℕ). IsAs z (mem.words (place.Word v i))) (sym line) was)

  vp-word : (i : ℕ) → i < 512 → Line i
  vp-word i b = by_test (nat_le 8 i && nat_lt i 16)
      (λ y. (let few : i - 8 < 8 = grind (arith, nat_tests) in let is : 8 + (i - 8) ≡ i = grind (arith, nat_tests) in subst Line is (a-register (i - 8) few)))
      (λ o. by_test (i == 1)
      (λ e. subst Line (sym (eqb-true i 1 e)) the-state)
      (λ one. by_test (i == 4)
      (λ e. subst Line (sym (eqb-true i 4 e)) the-position)
      (λ four. the-rest i b o one four)))

  pub vp-imported : Shows m after.words after.slots (record s { world = w' })
  vp-imported = record {
    word = back (kept-but w' (aside v m between.words (record s { world = count_bundle t 0 s.world }) counted.word) (record {
      kinds = refl;
      owners = refl;
      blocked = refl;
      key_table = refl;
      page = λ q o n. record {
        words = λ i. refl;
        tdr = λ is i. refl;
        owned = λ h. record { stands = λ z. z; level = refl; number = refl; entries = λ l e. refl; vp = λ i. rw o refl; stream = λ i. refl; control = λ is z. control-kept refl (λ l e. refl) (λ f i. refl) };
      };
    })) after.words (λ r. puts-lock v 8 x.words 0 8 later r) (λ r. puts-pamt v 8 x.words 0 8 later r) (λ r. puts-key v 8 x.words 0 8 later r)
        (λ r i o. (let same : later.words (place.Word r i) ≡ between.words (place.Word r i) = rw (o, counter) refl in puts-off v 8 x.words 0 8 later r i o ∙ same))
        (λ i b. rw (its.kind, its.owner, alive.life) (vp-word i b));
    hasher = counted.hasher;
  }
