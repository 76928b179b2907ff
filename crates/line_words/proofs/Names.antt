-- A word and a name, a text and the name that it begins with.
use Rattle.std.proofs.Common.{◌≡◌, ◌≢◌, ℕ, ◌+◌, ◌-◌, ◌<◌, List, [], ◌∷◌, ◌++◌, length, take, drop, get_or, Bool, true, false, not, eqb, ◌==◌, refl, ap, sym, ◌∙◌, arith}
use Rattle.std.specs.List.{list_all, slice_split, starts_with}
use Rattle.std.specs.Str.{bytes_eq}
use Rattle.std.proofs.Math.Seq.{get_or-append_seam, take-append_seam}
use Rattle.std.proofs.lemmas.List.{length-append, take_all, take_rest, take-append-drop, drop_more, get_or-take}
use Rattle.std.proofs.lemmas.Slice.Eq.{bytes_eq-Decides}
use Rattle.line_words.specs.Words.{words}
use Rattle.line_words.proofs.NextWords.{one_kept}
use Rattle.line_words.proofs.Texts.{cut_at}

turned : (a b : List ℕ) → bytes_eq a b ≡ bytes_eq b a
turned [] [] = refl
turned [] (y ∷ ys) = refl
turned (x ∷ xs) [] = refl
turned (x ∷ xs) (y ∷ ys) =
    let e : eqb x y ≡ eqb y x = grind arith in
    rw (e, turned xs ys) refl

pub same_length : (word name : List ℕ) → length word ≡ length name → starts_with eqb word name ≡ bytes_eq word name
same_length word name h = ap (λ (front : List ℕ). bytes_eq name front) (take_all (length name) word (omega (arith, h))) ∙ turned name word

unequal : (b : Bool) → (b ≡ true → ⊥) → b ≡ false
unequal true h = absurd (h refl)
unequal false h = refl

pub other_length : (word name : List ℕ) → length word ≢ length name → bytes_eq word name ≡ false
other_length word name h = unequal (bytes_eq word name) (λ e. h (ap (λ (xs : List ℕ). length xs) ((bytes_eq-Decides word name).0 e)))

-- of a text no shorter than a name

pub same_front : (text name : List ℕ) → take (length name) text ≡ take (length name) name → starts_with eqb text name ≡ true
same_front text name h = (bytes_eq-Decides name (take (length name) text)).1 (sym (h ∙ take_all (length name) name (omega arith)))

pub other_front : (text name : List ℕ) (i : ℕ) → i < length name → get_or text i 0 ≢ get_or name i 0 → starts_with eqb text name ≡ false
other_front text name i below apart =
    unequal (starts_with eqb text name)
    (λ e. apart (sym (ap (λ (xs : List ℕ). get_or xs i 0) ((bytes_eq-Decides name (take (length name) text)).0 e) ∙ get_or-take (length name) text i 0 below)))

pub name_before : (text name : List ℕ) → length name < length text → starts_with eqb text name ≡ true → get_or text (length name) 0 ≡ 32
    → text ≡ name ++ 32 ∷ take (length text - (length name + 1)) (drop (length name + 1) text)
name_before text name below front space =
    let e : name ≡ take (length name) text = (bytes_eq-Decides name (take (length name) text)).0 front in
    let rest : drop (length name) text ≡ 32 ∷ drop (length name + 1) text = drop_more text (length name) 0 below ∙ ap (λ (b : ℕ). b ∷ drop (length name + 1) text) space in
    rw (take_rest text (length name + 1))
    (sym (take-append-drop (length name) text) ∙ ap (λ (xs : List ℕ). xs ++ drop (length name) text) (sym e) ∙ ap (λ (xs : List ℕ). name ++ xs) rest)

-- what holds of a text that begins with a name and a space
pub record Begins (text name : List ℕ) : Type 0 where
  pub below : length name < length text
  pub front : starts_with eqb text name ≡ true
  pub space : get_or text (length name) 0 ≡ 32

pub begins : (text name rest : List ℕ) → text ≡ name ++ 32 ∷ rest → Begins text name
begins text name rest h =
    let front : take (length name) (name ++ 32 ∷ rest) ≡ name = take-append_seam name (32 ∷ rest) in
    rw h
    (record {
      below = grind (arith, length-append name (32 ∷ rest));
      front = rw front ((bytes_eq-Decides name name).1 refl);
      space = get_or-append_seam name 32 rest 0;
    })

-- what stands before a space is the first word
pub words_behind : (w rest : List ℕ) → list_all (λ b. not (b == 32)) w ≡ true → 0 < length w → words (w ++ 32 ∷ rest) ≡ w ∷ words rest
words_behind w rest unspaced some = rw (cut_at (λ b. b == 32) w 32 rest unspaced refl) (one_kept w (slice_split (λ b. b == 32) rest) some)
