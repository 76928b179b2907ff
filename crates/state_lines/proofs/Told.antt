-- Lines that are added to a text, some of which are told in one of two ways.
use Rattle.std.proofs.Common.{◌≡◌, ◌∙◌, refl, sym, ap, ℕ, ◌==◌, if◌then◌else◌, List, [], ◌∷◌, ◌++◌, Result, Ok, Err, OnOk, codes, append_assoc}
use Rattle.std.proofs.lemmas.Bool.{eq-eqb, ne_eqb}
use Rattle.td_words.specs.declared.names.LifeState.{LifeState}
use Rattle.td_words.specs.declared.names.LifeState.TheVariants as life
use Rattle.td_words.specs.Packing.{Pamt, Entry}
use Rattle.field_lines.specs.declared.lines.Form.{Form}
use Rattle.field_lines.specs.Fields.{Number, field, line_text}
use Rattle.state_lines.specs.Lines.{page_fields, page_line, life_fields, children_fields, life_line, entry_fields, entry_line}

pub as-told : {E : Type 0} (r : Result (Unit {0}) E) (old new x y : List ℕ) → OnOk r (new ≡ old ++ x) → x ≡ y → OnOk r (new ≡ old ++ y)
as-told (Ok t) old new x y h e = h ∙ ap (λ z. old ++ z) e
as-told (Err z) old new x y h e = tt

-- the second text where it was added, after the first
pub second-told : {E : Type 0} (r : Result (Unit {0}) E) (old mid new x y z : List ℕ) → mid ≡ old ++ x → y ≡ z → OnOk r (new ≡ mid ++ y) → OnOk r (new ≡ old ++ (x ++ z))
second-told (Ok t) old mid new x y z e same h = h ∙ (ap (λ w. w ++ y) e ∙ (append_assoc old x y ∙ ap (λ w. old ++ (x ++ w)) same))
second-told (Err w) old mid new x y z e same h = tt

-- by a number that is 0, or isn't
at-zero : (n : ℕ) (x y : List ℕ) → n ≡ 0 → x ≡ (if n == 0 then x else y)
at-zero n x y is = rw (eq-eqb n 0 is) refl

at-other : (n : ℕ) (x y : List ℕ) → (n ≡ 0 → ⊥) → y ≡ (if n == 0 then x else y)
at-other n x y other = rw (ne_eqb n 0 other) refl

module _ (f : Form) where
  -- a page with BEPOCH
  pub with-bepoch : (p : ℕ) (m n : Pamt) → m ≡ n → (m.epoch ≡ 0 → ⊥) → line_text f (codes "page") (page_fields p m ++ field (codes " BEPOCH ") (codes "bepoch") (Number m.epoch) ∷ []) ≡ page_line f p n
  with-bepoch p m n same other =
      at-other m.epoch (line_text f (codes "page") (page_fields p m)) (line_text f (codes "page") (page_fields p m ++ field (codes " BEPOCH ") (codes "bepoch") (Number m.epoch) ∷ [])) other
      ∙ ap (page_line f p) same

  -- an entry that was never exported, and one that was
  pub unmarked : (t l g : ℕ) (e d : Entry) → e ≡ d → e.mark ≡ 0 → line_text f (codes "entry") (entry_fields t l g e) ≡ entry_line f t l g d
  unmarked t l g e d same is =
      at-zero e.mark (line_text f (codes "entry") (entry_fields t l g e)) (line_text f (codes "entry") (entry_fields t l g e ++ field (codes " mark ") (codes "mark") (Number e.mark) ∷ [])) is
      ∙ ap (entry_line f t l g) same

  pub marked : (t l g : ℕ) (e d : Entry) → e ≡ d → (e.mark ≡ 0 → ⊥) → line_text f (codes "entry") (entry_fields t l g e ++ field (codes " mark ") (codes "mark") (Number e.mark) ∷ []) ≡ entry_line f t l g d
  marked t l g e d same other =
      at-other e.mark (line_text f (codes "entry") (entry_fields t l g e)) (line_text f (codes "entry") (entry_fields t l g e ++ field (codes " mark ") (codes "mark") (Number e.mark) ∷ [])) other
      ∙ ap (entry_line f t l g) same

  -- a TD in TD_TEARDOWN, and one that isn't
  module _ (t hkid children : ℕ) where
    pub torn-down : (l : LifeState) → l ≡ life.Teardown → line_text f (codes "td") (life_fields t l ++ children_fields children) ≡ life_line f t l hkid children
    torn-down l e = ap (λ (z : LifeState). line_text f (codes "td") (life_fields t z ++ children_fields children)) e ∙ sym (ap (λ (z : LifeState). life_line f t z hkid children) e)

    pub standing : (l : LifeState) → (l ≡ life.Teardown → ⊥) → line_text f (codes "td") (life_fields t l ++ field (codes " HKID ") (codes "hkid") (Number hkid) ∷ children_fields children) ≡ life_line f t l hkid children
    standing life.HkidAssigned other = refl
    standing life.KeysConfigured other = refl
    standing life.Blocked other = refl
    standing life.Teardown other = absurd (other refl)
