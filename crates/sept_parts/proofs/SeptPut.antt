-- Words that show a state show the one with another entry in a TD's map, once that entry's word was stored at its place.
use Rattle.std.proofs.Common.{◌≡◌, ◌⊎◌, ℕ, zero, suc, ◌+◌, ◌*◌, ◌^◌, ◌<◌, ◌≤◌, true, false, ◌==◌, ◌&&◌, List, [], ◌∷◌, refl, ap, sym, ◌∙◌, subst, inl, inr, arith}
use Rattle.std.proofs.lemmas.Bool.{eq-eqb, eqb-true}
use Rattle.td_words.specs.declared.names.PageKind.{PageKind}
use Rattle.td_words.specs.declared.names.PageKind.TheVariants as kind
use Rattle.td_words.specs.declared.machines.Machine.{Machine}
use Rattle.td_words.specs.Packing.{Entry, entry_word}
use Rattle.td_words.specs.Place.{WordPlace, IsIn}
use Rattle.td_words.specs.Place as place
use Rattle.flat_core.specs.World.{World}
use Rattle.flat_core.specs.Processor.{LockId}
use Rattle.flat_core.specs.Effects.{set_entry}
use Rattle.flat_core.specs.Lawful.{Lawful, LawfulTree, IsAlive, IsNodeOf, is_named_kind}
use Rattle.flat_core.specs.Tree.{number_at}
use Rattle.flat_core.specs.Event.{State}
use Rattle.flat_core.proofs.Tests.{by_test}
use Rattle.sept_walk.specs.SecureEpt.{index_at}
use Rattle.sept_walk.proofs.Meets.{split}
use Rattle.word_rules.specs.Lines.{in_lines}
use Rattle.word_rules.specs.Cells.{Shows, IsAs, cell, page_cell, entry_cell, control_cell, td_lock_lines, tdcs_lines, lock_word}
use Rattle.lock_words.specs.LockWords.{put_word}
use Rattle.leaf_engine.specs.Changes.{Memory}
use Rattle.leaf_parts.proofs.Begun.{TwoControls}
use Rattle.sept_parts.specs.SeptPages.{HasEntry}
use Rattle.sept_parts.proofs.SeptTold.{root-shown, node-shown}

-- plain numbers

not_both : (a a' b b' : ℕ) → (a ≡ a' → b ≡ b' → ⊥) → (a == a' && b == b') ≡ false
not_both a a' b b' n = by_test (a == a') (λ y. by_test (b == b') (λ z. absurd (n (eqb-true a a' y) (eqb-true b b' z))) (λ z. rw (y, z) refl)) (λ y. rw y refl)

both_alike : (a a' b b' c c' d d' : ℕ) → (a ≡ a' → b ≡ b' → (c ≡ c') × (d ≡ d')) → (c ≡ c' → d ≡ d' → (a ≡ a') × (b ≡ b')) → (a == a' && b == b') ≡ (c == c' && d == d')
both_alike a a' b b' c c' d d' f g = by_test (c == c')
    (λ y. by_test (d == d')
    (λ z. (let h : (a ≡ a') × (b ≡ b') = g (eqb-true c c' y) (eqb-true d d' z) in rw (y, z, eq-eqb a a' h.0, eq-eqb b b' h.1) refl))
    (λ z. rw (y, z) (not_both a a' b b' (λ p q. (let no : true ≡ false = sym (eq-eqb d d' (f p q).1) ∙ z in cc)))))
    (λ y. rw y (not_both a a' b b' (λ p q. (let no : true ≡ false = sym (eq-eqb c c' (f p q).0) ∙ y in cc))))

one_split : (k n i j : ℕ) → i < 512 → j < 512 → 512 * k + i ≡ 512 * n + j → (k ≡ n) × (i ≡ j)
one_split k n i j a b e = (omega (arith, a, b, e), omega (arith, a, b, e))

is_first : (i : ℕ) → 512 * 0 + i ≡ i
is_first i = omega arith

not_top : (l level : ℕ) → l ≡ 3 → l ≡ level → level < 3 → ⊥
not_top l level a b h = omega (arith, a, b, h)

not_above : (l level : ℕ) → l ≡ level → level ≡ 3 → suc l ≤ 3 → ⊥
not_above l level a b h = omega (arith, a, b, h)

one_less : (k l : ℕ) → suc k ≡ suc l → k ≡ l
one_less k l e = omega (arith, e)

module _ (m : Machine) (mem : Memory) (s : State) (t : ℕ) (sh : Shows m mem.words mem.slots s) (tree : LawfulTree m.pages s.world.pages s.world.tds) (alive : IsAlive s.world.pages s.world.tds t) (x : TwoControls m s.world t)
    (gpa page level : ℕ) (small : gpa < 2 ^ 47) (has : HasEntry m s.world t x.root page gpa level) (e : Entry) where
  abbrev w : World
  w = s.world

  abbrev after : World
  after = set_entry t level (number_at level gpa) e w

  abbrev words : WordPlace → ℕ
  words = put_word mem.words (place.Word page (index_at level gpa)) (entry_word e)

  abbrev locks : LockId → ℕ
  locks = lock_word s.lps s.lp_count

  -- a secure EPT page is the one that the entry at its node names
  node_named : (q l n : ℕ) → IsNodeOf w.pages t q kind.Ept l n → ((w.tds.entries t l n).page ≡ q) × (l ≤ 3)
  node_named q l n node =
      let its : IsAlive w.pages w.tds (w.pages.owners q) = subst (λ (u : ℕ). IsAlive w.pages w.tds u) (sym node.page.owner) alive in
      let h = rw (node.page.owner, node.level_is, node.number_is) at (tree.named q (ap is_named_kind node.page.kind) its) in (h.1, h.2)

  pub one-node : (p q l n : ℕ) → IsNodeOf w.pages t p kind.Ept l n → IsNodeOf w.pages t q kind.Ept l n → p ≡ q
  one-node p q l n a b = sym (node_named p l n a).0 ∙ (node_named q l n b).0

  -- a word in which the entry of a level and a number stands
  abbrev Stands : (q i l n : ℕ) → Type 0
  Stands q i l n = ((l ≡ 3) × (q ≡ x.root) × (n ≡ 512 * 0 + i)) ⊎ ((k : ℕ) × IsNodeOf w.pages t q kind.Ept (suc l) k × (n ≡ 512 * k + i))

  abbrev Node : Type 0
  Node = ((level ≡ 3) × (page ≡ x.root)) ⊎ ((level < 3) × IsNodeOf w.pages t page kind.Ept (suc level) (number_at (suc level) gpa))

  at_root : level ≡ 3 → number_at level gpa ≡ index_at level gpa
  at_root top = subst (λ (l : ℕ). number_at l gpa ≡ index_at l gpa) (sym top) (split.root gpa small)

  here : (q i l n : ℕ) → i < 512 → Stands q i l n → Node → l ≡ level → n ≡ number_at level gpa → (q ≡ page) × (i ≡ index_at level gpa)
  here q i l n few (inl a) (inl b) f g = (a.1 ∙ sym b.1, sym (is_first i) ∙ (sym a.2 ∙ (g ∙ at_root b.0)))
  here q i l n few (inl a) (inr b) f g = absurd (not_top l level a.0 f b.0)
  here q i l n few (inr a) (inl b) f g = absurd (not_above l level f b.0 (node_named q (suc l) a.0 a.1).1)
  here q i l n few (inr a) (inr b) f g =
      let same : (a.0 ≡ number_at (suc level) gpa) × (i ≡ index_at level gpa) =
      one_split a.0 (number_at (suc level) gpa) i (index_at level gpa) few (split.index level gpa) (sym a.2 ∙ (g ∙ split.below level gpa b.0)) in
      let node : IsNodeOf w.pages t q kind.Ept (suc level) (number_at (suc level) gpa) =
      subst (λ (k : ℕ). IsNodeOf w.pages t q kind.Ept (suc level) k) same.0 (subst (λ (k : ℕ). IsNodeOf w.pages t q kind.Ept (suc k) a.0) f a.1) in
      (one-node q page (suc level) (number_at (suc level) gpa) node b.1, same.1)

  there : (q i l n : ℕ) → Stands q i l n → Node → q ≡ page → i ≡ index_at level gpa → (l ≡ level) × (n ≡ number_at level gpa)
  there q i l n (inl a) (inl b) f g = (a.0 ∙ sym b.0, a.2 ∙ (is_first i ∙ (g ∙ sym (at_root b.0))))
  there q i l n (inl a) (inr b) f g = absurd (let no : kind.Tdcx ≡ kind.Ept = sym x.root_page.kind ∙ (ap w.pages.kinds (sym a.1 ∙ f) ∙ b.1.page.kind) in cc)
  there q i l n (inr a) (inl b) f g = absurd (let no : kind.Ept ≡ kind.Tdcx = sym a.1.page.kind ∙ (ap w.pages.kinds (f ∙ b.1) ∙ x.root_page.kind) in cc)
  there q i l n (inr a) (inr b) f g =
      let up : a.0 ≡ number_at (suc level) gpa = sym a.1.number_is ∙ (ap w.pages.numbers f ∙ b.1.number_is) in (
        one_less l level (sym a.1.level_is ∙ (ap w.pages.levels f ∙ b.1.level_is)),
        a.2 ∙ ((λ j. 512 * up j + g j) ∙ sym (split.below level gpa b.0)),
      )

  -- the entry is the one that is stored exactly where the word is
  alike : (q i l n : ℕ) → i < 512 → Stands q i l n → (l == level && n == number_at level gpa) ≡ (q == page && i == index_at level gpa)
  alike q i l n few at = both_alike l level n (number_at level gpa) q page i (index_at level gpa) (here q i l n few at has.node) (there q i l n at has.node)

  entry_word-at : (q i l n : ℕ) → i < 512 → Stands q i l n → mem.words (place.Word q i) ≡ entry_word (w.tds.entries t l n) → words (place.Word q i) ≡ entry_word (after.tds.entries t l n)
  entry_word-at q i l n few at was = by_test (q == page && i == index_at level gpa)
      (λ y. (let same : (l == level && n == number_at level gpa) ≡ true = alike q i l n few at ∙ y in rw (eq-eqb t t refl, same, y) refl))
      (λ y. (let same : (l == level && n == number_at level gpa) ≡ false = alike q i l n few at ∙ y in rw (eq-eqb t t refl, same, y) was))

  -- pages without that entry
  page_owner : Node → w.pages.owners page ≡ t
  page_owner (inl b) = ap w.pages.owners b.1 ∙ x.root_page.owner
  page_owner (inr b) = b.1.page.owner

  page_kind : Node → (w.pages.kinds page ≡ kind.Tdcx) ⊎ (w.pages.kinds page ≡ kind.Ept)
  page_kind (inl b) = inl (ap w.pages.kinds b.1 ∙ x.root_page.kind)
  page_kind (inr b) = inr b.1.page.kind

  module _ (q i : ℕ) (inside : IsIn m (place.Word q i)) where
    away : (q ≡ page → ⊥) → words (place.Word q i) ≡ mem.words (place.Word q i)
    away n = by_test (q == page) (λ y. absurd (n (eqb-true q page y))) (λ y. rw y refl)

    was : (k : PageKind) → w.pages.kinds q ≡ k → IsAs (page_cell w locks (w.pages.owners q) q k i) (mem.words (place.Word q i))
    was k is = subst (λ (z : PageKind). IsAs (page_cell w locks (w.pages.owners q) q z i) (mem.words (place.Word q i))) is (sh.word (place.Word q i) inside)

    -- one of another kind, or of another TD
    other-kind : (k : PageKind) → w.pages.kinds q ≡ k → (k ≡ kind.Tdcx → ⊥) → (k ≡ kind.Ept → ⊥) → q ≡ page → ⊥
    other-kind k is a b f = elim (page_kind has.node) [ inl z ↦ a (sym is ∙ (ap w.pages.kinds f ∙ z)) | inr z ↦ b (sym is ∙ (ap w.pages.kinds f ∙ z)) ]

    other-td : (w.pages.owners q == t) ≡ false → q ≡ page → ⊥
    other-td n f = (let no : true ≡ false = sym (eq-eqb (w.pages.owners q) t (ap w.pages.owners f ∙ page_owner has.node)) ∙ n in cc)

    stays : (k : PageKind) → w.pages.kinds q ≡ k → (q ≡ page → ⊥) → IsAs (page_cell w locks (w.pages.owners q) q k i) (words (place.Word q i))
    stays k is n = subst (λ (v : ℕ). IsAs (page_cell w locks (w.pages.owners q) q k i) v) (sym (away n)) (was k is)

    -- a TDCX page
    control-same : (u : ℕ) (cs : List ℕ) → (u == t) ≡ false → control_cell after locks u q cs i ≡ control_cell w locks u q cs i
    control-same u [] n = refl
    control-same u (c ∷ []) n = refl
    control-same u (c ∷ r ∷ rest) n = rw n refl

    entry-same : (u l n : ℕ) → (u == t) ≡ false → entry_cell after u l n i ≡ entry_cell w u l n i
    entry-same u zero n o = refl
    entry-same u (suc l) n o = rw o refl

    control-own : w.pages.kinds q ≡ kind.Tdcx → w.pages.owners q ≡ t → IsAs (control_cell after locks t q (x.tdcs ∷ x.root ∷ []) i) (words (place.Word q i))
    control-own is own = by_test (x.tdcs == q)
        (λ y. rw y (subst (λ (v : ℕ). IsAs (in_lines (td_lock_lines locks t (tdcs_lines w t)) i) v) (sym (away (not-page (eqb-true x.tdcs q y) has.node))) (rw (own, alive.life, x.list, y) at (was kind.Tdcx is))))
        (λ y. rw y (by_test (x.root == q)
        (λ z. rw z (let at : x.root ≡ q = eqb-true x.root q z in
        entry_word-at q i 3 (512 * 0 + i) inside.1 (inl (refl, sym at, refl)) (subst (λ (p : ℕ). mem.words (place.Word p i) ≡ entry_word (w.tds.entries t 3 (512 * 0 + i))) at (root-shown m mem s t sh alive x i inside.1))))
        (λ z. rw z tt)))
      where
        not-page : x.tdcs ≡ q → Node → q ≡ page → ⊥
        not-page at (inl b) f = (let no : true ≡ false = sym (eq-eqb x.tdcs x.root (at ∙ (f ∙ b.1))) ∙ x.differ in cc)
        not-page at (inr b) f = (let no : kind.Tdcx ≡ kind.Ept = sym is ∙ (ap w.pages.kinds f ∙ b.1.page.kind) in cc)

    node-own : w.pages.kinds q ≡ kind.Ept → w.pages.owners q ≡ t → (l : ℕ) → w.pages.levels q ≡ l → IsAs (entry_cell after t l (w.pages.numbers q) i) (words (place.Word q i))
    node-own is own zero at = tt
    node-own is own (suc l) at =
        let node : IsNodeOf w.pages t q kind.Ept (suc l) (w.pages.numbers q) = record { page = record { kind = is; owner = own }; level_is = at; number_is = refl } in
        entry_word-at q i l (512 * w.pages.numbers q + i) inside.1 (inr (w.pages.numbers q, node, refl)) (node-shown m mem s t sh alive x q l (w.pages.numbers q) i node inside.0 inside.1)

    by-kind : (k : PageKind) → w.pages.kinds q ≡ k → IsAs (page_cell after locks (w.pages.owners q) q k i) (words (place.Word q i))
    by-kind kind.Nda is = stays kind.Nda is (other-kind kind.Nda is (λ e. cc) (λ e. cc))
    by-kind kind.Reg is = stays kind.Reg is (other-kind kind.Reg is (λ e. cc) (λ e. cc))
    by-kind kind.Tdr is = stays kind.Tdr is (other-kind kind.Tdr is (λ e. cc) (λ e. cc))
    by-kind kind.Tdvpr is = stays kind.Tdvpr is (other-kind kind.Tdvpr is (λ e. cc) (λ e. cc))
    by-kind kind.Migsc is = stays kind.Migsc is (other-kind kind.Migsc is (λ e. cc) (λ e. cc))
    by-kind kind.Tdcx is = by_test (w.pages.owners q == t)
        (λ y. (let own : w.pages.owners q ≡ t = eqb-true (w.pages.owners q) t y in rw (own, alive.life, x.list) (control-own is own)))
        (λ n. rw (control-same (w.pages.owners q) (w.tds.controls (w.pages.owners q)) n) (stays kind.Tdcx is (other-td n)))
    by-kind kind.Ept is = by_test (w.pages.owners q == t)
        (λ y. (let own : w.pages.owners q ≡ t = eqb-true (w.pages.owners q) t y in rw (own, alive.life) (node-own is own (w.pages.levels q) refl)))
        (λ n. rw (entry-same (w.pages.owners q) (w.pages.levels q) (w.pages.numbers q) n) (stays kind.Ept is (other-td n)))

  pub tree-put : Shows m words mem.slots (record s { world = after })
  tree-put = record { word = at; hasher = sh.hasher }
    where
      at : (q : WordPlace) → IsIn m q → IsAs (cell (record s { world = after }) q) (words q)
      at (place.Lock q) b = sh.word (place.Lock q) b
      at (place.Pamt q) b = sh.word (place.Pamt q) b
      at (place.Key k) b = sh.word (place.Key k) b
      at (place.Word q i) b = by-kind q i b (w.pages.kinds q) refl

-- its tree is lawful where the whole state is
pub entry-put : (m : Machine) (mem : Memory) (s : State) (t : ℕ) → Shows m mem.words mem.slots s → Lawful m s.world → IsAlive s.world.pages s.world.tds t → (x : TwoControls m s.world t) (gpa page level : ℕ) → gpa < 2 ^ 47
    → HasEntry m s.world t x.root page gpa level → (e : Entry)
    → Shows m (put_word mem.words (place.Word page (index_at level gpa)) (entry_word e)) mem.slots (record s { world = set_entry t level (number_at level gpa) e s.world })
entry-put m mem s t sh la = tree-put m mem s t sh la.tree
