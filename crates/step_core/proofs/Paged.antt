-- Clearing and copying change one page alone.
use Rattle.std.proofs.Common.{◌≡◌, ◌≢◌, refl, ◌∙◌, ap, ℕ, zero, suc, ◌+◌, ◌-◌, ◌<◌, ◌≤◌, Bool, true, false, ◌&&◌, ◌==◌, nat_lt, nat_le, if◌then◌else◌, List, [], ◌∷◌, ◌++◌, length, arith}
use Rattle.std.proofs.lemmas.Bool.{eqb-true}
use Rattle.std.proofs.lemmas.Bool.Decides.{nat_tests}
use Rattle.td_words.specs.Address.{word_at}
use Rattle.step_core.specs.declared.steps.WordStep.TheVariants.{Store}
use Rattle.step_core.specs.Words.{Words, with_word, after_step}
use Rattle.step_core.specs.Items.{Table, PlaysTo, with_slot}
use Rattle.step_core.specs.declared.items.Taken.{Taken}
use Rattle.step_core.specs.declared.items.Taken.TheVariants.{Stepped, Swapped, Missed}
use Rattle.step_core.specs.Pages.{clearing, copying}
use Rattle.step_core.specs.Laws.{PagesChangeAlone}

-- items in two parts are played over a table in the middle
pub record Parts (t v : Table) (xs ys : List Taken) : Type 0 where
  pub middle : Table
  pub first : PlaysTo t xs middle
  pub second : PlaysTo middle ys v

pub parts : (t v : Table) (xs ys : List Taken) → PlaysTo t (xs ++ ys) v → Parts t v xs ys
parts t v [] ys p = record { middle = t; first = (refl, refl); second = p }
parts t v (Stepped s a ∷ xs) ys p =
    let r = parts (record t { words = after_step t.words s }) v xs ys p.1 in
    record { middle = r.middle; first = (p.0, r.first); second = r.second }
parts t v (Swapped k put taken ∷ xs) ys p =
    let r = parts (record t { slots = with_slot t.slots k put }) v xs ys p.1 in
    record { middle = r.middle; first = (p.0, r.first); second = r.second }
parts t v (Missed k ∷ xs) ys p = absurd p

-- whether a word of a page, from one index to below another, stands at an address
abbrev between : ℕ → ℕ → ℕ → ℕ → Bool
between page i m n = nat_le (word_at page i) n && nat_lt n (word_at page m)

-- changes a page's words from one index to below another
record Part (t u : Table) (page i m : ℕ) (becomes : ℕ → ℕ) : Type 0 where
  words : (n : ℕ) → u.words n ≡ (if between page i m n then becomes (n - word_at page 0) else t.words n)
  slots : u.slots ≡ t.slots

none_between : (page i n : ℕ) → between page i i n ≡ false
none_between page i n = grind (arith, nat_tests)

one_more : (W V U page k n : ℕ) → V ≡ (if between page 0 k n then 0 else W) → U ≡ (if n == word_at page k then 0 else V) → U ≡ (if between page 0 (suc k) n then 0 else W)
one_more W V U page k n a b = grind (arith, nat_tests)

cleared_first : (t u : Table) (page k : ℕ) → PlaysTo t (clearing page k) u → Part t u page 0 k (λ i. 0)
unfolding clearing
cleared_first t u page zero p = record { words = λ n. rw (none_between page 0 n) (ap (λ (w : Words). w n) p.0); slots = p.1 }
cleared_first t u page (suc k) p =
    let r = parts t u (clearing page k) (Stepped (Store (word_at page k) 0) 0 ∷ []) p in
    let before = cleared_first t r.middle page k r.first in
    record {
      words = λ n. one_more (t.words n) (r.middle.words n) (u.words n) page k n (before.words n) (ap (λ (w : Words). w n) r.second.1.0);
      slots = r.second.1.1 ∙ before.slots;
    }

apart : (from to i n : ℕ) → from ≢ to → i < 512 → n < word_at to 512 → word_at to 0 ≤ n → (word_at from (n - word_at to 0) == word_at to i) ≡ false
apart from to i n differ a b c = by (word_at from (n - word_at to 0) == word_at to i) refl
  where
    by : (b : Bool) → (word_at from (n - word_at to 0) == word_at to i) ≡ b → b ≡ false
    by false e = refl
    by true e =
        let same : word_at from (n - word_at to 0) ≡ word_at to i = eqb-true _ _ e in
        let page : from ≡ to = omega arith in
        absurd (differ page)

-- the word that a pair of a load and a store copied, and the words that later pairs copy
copied_word : (w : Words) (from to i m n v U : ℕ) → from ≢ to → i < m → m ≤ 512 → v ≡ w (word_at from i)
    → U ≡ (if between to (i + 1) m n then with_word w (word_at to i) v (word_at from (n - word_at to 0)) else with_word w (word_at to i) v n)
    → U ≡ (if between to i m n then w (word_at from (n - word_at to 0)) else w n)
copied_word w from to i m n v U differ a b e is = by (between to (i + 1) m n) refl (n == word_at to i) refl
  where
    by : (later : Bool) → between to (i + 1) m n ≡ later → (here : Bool) → (n == word_at to i) ≡ here → U ≡ (if between to i m n then w (word_at from (n - word_at to 0)) else w n)
    by true l here h =
        let low : word_at to (i + 1) ≤ n = grind (arith, nat_tests) in
        let high : n < word_at to m = grind (arith, nat_tests) in
        let inside : between to i m n ≡ true = grind (arith, nat_tests) in
        let other = apart from to i n differ (omega arith) (omega arith) (omega arith) in
        rw inside (rw (l, other) at is)
    by false l true h =
        let place : n ≡ word_at to i = eqb-true n (word_at to i) h in
        let inside : between to i m n ≡ true = grind (arith, nat_tests) in
        let index : n - word_at to 0 ≡ i = omega arith in
        rw (inside, index) ((rw (l, h) at is) ∙ e)
    by false l false h =
        let outside : between to i m n ≡ false = grind (arith, nat_tests) in
        rw outside (rw (l, h) at is)

copied_first : (t u : Table) (from to i : ℕ) (seen : List ℕ) → from ≢ to → i + length seen ≤ 512 → PlaysTo t (copying from to i seen) u → Part t u to i (i + length seen) (λ k. t.words (word_at from k))
copied_first t u from to i [] differ fits p =
    let e : i + 0 ≡ i = omega arith in
    record { words = λ n. rw (e, none_between to i n) (ap (λ (w : Words). w n) p.0); slots = p.1 }
copied_first t u from to i (v ∷ vs) differ fits p =
    let after : Table = record t { words = with_word t.words (word_at to i) v } in
    let rest = copied_first after u from to (i + 1) vs differ (omega arith) p.1.1 in
    let e : i + 1 + length vs ≡ i + length (v ∷ vs) = omega arith in
    record {
      words = λ n. copied_word t.words from to i (i + length (v ∷ vs)) n v (u.words n) differ (omega arith) fits p.0 (rw e at (rest.words n));
      slots = rest.slots;
    }

pub paged : PagesChangeAlone
paged = record {
  cleared = λ t u page p. let c = cleared_first t u page 512 p in record { words = c.words; slots = c.slots };
  copied = λ t u from to seen differ count p.
      let c = rw count at (copied_first t u from to 0 seen differ (omega arith) p) in
      record { words = c.words; slots = c.slots };
}
