-- The entries of a secure EPT, node by node.
use Rattle.std.proofs.Common.{Option, Some, None, ◌≡◌, refl, sym, ◌∙◌, ap, ℕ, zero, suc, ◌+◌, ◌-◌, ◌*◌, ◌<◌, ◌≤◌, ◌^◌, List, ◌++◌, append-nil, append_assoc, arith}
use Rattle.td_words.specs.Packing.{Entry}
use Rattle.flat_core.specs.Arguments.{level_size}
use Rattle.field_lines.specs.declared.lines.Form.{Form}
use Rattle.state_lines.specs.Lines.{texts_below, entry_line, entry_lines}
use Rattle.state_lines.specs.WordText.{used_entry, entry_read, table_read}

-- an entry begins in its node, and ends there
in-node : (l s i g : ℕ) → l < 4 → s ≡ level_size l → i < 512 → g + level_size (suc l) ≤ 2 ^ 48 → (s * i < 2 ^ 48) × (g + s * i + level_size l ≤ 2 ^ 48)
in-node zero s i g less e short inside = rw e (omega (arith, short), omega (arith, short, inside))
in-node (suc zero) s i g less e short inside = rw e (omega (arith, short), omega (arith, short, inside))
in-node (suc (suc zero)) s i g less e short inside = rw e (omega (arith, short), omega (arith, short, inside))
in-node (suc (suc (suc zero))) s i g less e short inside = rw e (omega (arith, short), omega (arith, short, inside))
in-node (suc (suc (suc (suc l)))) s i g less e short inside = absurd (omega (arith, less))

-- so neither its offset nor its GPA is too large, and its own node is inside too
pub record IsInside (node size index base : ℕ) : Type 0 where
  pub offset : size * index < 2 ^ 64
  pub gpa : base + size * index < 2 ^ 64
  pub within : base + size * index + level_size (node - 1) ≤ 2 ^ 48

pub inside : (n s i g : ℕ) → n ≤ 4 → (n ≡ 0 → ⊥) → s ≡ level_size (n - 1) → i < 512 → g + level_size n ≤ 2 ^ 48 → IsInside n s i g
inside zero s i g few some e short h = absurd (some refl)
inside (suc l) s i g few some e short h =
    let same : suc l - 1 ≡ l = omega arith in
    let got = in-node l s i g (omega (arith, few)) (e ∙ ap level_size same) short h in
    record { offset = omega (arith, got.0); gpa = omega (arith, got.1); within = rw same got.1 }

module _ (f : Form) (words : List ℕ) (t p g : ℕ) where
  pub none-below : (n : ℕ) (xs : List ℕ) → n ≡ 0 → xs ≡ xs ++ table_read f words t n p g
  unfolding table_read
  none-below zero xs e = sym (append-nil xs)
  none-below (suc n) xs e = absurd (omega (arith, e))

  node-read : (n : ℕ) → (n ≡ 0 → ⊥) → texts_below (entry_read f words (λ q at. table_read f words t (n - 1) q at) t (n - 1) p g) 512 ≡ table_read f words t n p g
  unfolding table_read
  node-read zero some = absurd (some refl)
  node-read (suc l) some = (let same : suc l - 1 ≡ l = omega arith in ap (λ (k : ℕ). texts_below (entry_read f words (λ q at. table_read f words t k q at) t k p g) 512) same)

  -- all entries of a node
  pub all-read : (n m : ℕ) (start text : List ℕ) → (n ≡ 0 → ⊥) → m ≡ 512
      → text ≡ start ++ texts_below (entry_read f words (λ q at. table_read f words t (n - 1) q at) t (n - 1) p g) m → text ≡ start ++ table_read f words t n p g
  all-read n m start text some all e =
      e
      ∙ (ap (λ (k : ℕ). start ++ texts_below (entry_read f words (λ q at. table_read f words t (n - 1) q at) t (n - 1) p g) k) all
      ∙ ap (λ (xs : List ℕ). start ++ xs) (node-read n some))

  module _ (l i s : ℕ) (start last : List ℕ) where
    -- an entry that is used, with those below it
    pub some-read : (e : Entry) (mid : List ℕ) → used_entry words p i ≡ Some e → s ≡ level_size l → mid ≡ start ++ entry_line f t l (g + s * i) e → last ≡ mid ++ table_read f words t l e.page (g + s * i)
        → last ≡ start ++ entry_read f words (λ q at. table_read f words t l q at) t l p g i
    some-read e mid used size first rest =
        rest
        ∙ (ap (λ (xs : List ℕ). xs ++ table_read f words t l e.page (g + s * i)) first
        ∙ (append_assoc start (entry_line f t l (g + s * i) e) (table_read f words t l e.page (g + s * i))
        ∙ (ap (λ (o : Option Entry). start ++ entry_lines f t l (g + s * i) (λ d. table_read f words t l d.page (g + s * i)) o) (sym used)
        ∙ ap (λ (z : ℕ). start ++ entry_lines f t l (g + z * i) (λ d. table_read f words t l d.page (g + z * i)) (used_entry words p i)) size)))

    -- and one that isn't
    pub none-read : used_entry words p i ≡ None → last ≡ start → last ≡ start ++ entry_read f words (λ q at. table_read f words t l q at) t l p g i
    none-read used same =
        same ∙ (sym (append-nil start) ∙ ap (λ (o : Option Entry). start ++ entry_lines f t l (g + level_size l * i) (λ d. table_read f words t l d.page (g + level_size l * i)) o) (sym used))
