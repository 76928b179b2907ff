-- Words that are stored one after another in a page: the writes that these stores are, what words are after them, and that they
-- may come after an act.
use Rattle.std.proofs.Common.{◌≡◌, ℕ, zero, suc, ◌+◌, ◌*◌, ◌<◌, ◌≤◌, true, false, ◌==◌, Option, Some, None, refl, ap, sym, ◌∙◌, subst, arith}
use Rattle.std.proofs.lemmas.Bool.{eq-eqb, eqb-true, ne_eqb}
use Rattle.std.proofs.lemmas.Bool.Decides.{nat_tests}
use Rattle.td_words.specs.declared.machines.Machine.{Machine}
use Rattle.td_words.specs.Address.{word_at}
use Rattle.td_words.specs.Place as place
use Rattle.flat_core.specs.World.{World}
use Rattle.flat_core.proofs.Tests.{by_test}
use Rattle.mrtd_measure.specs.declared.measures.Measure.{Measure}
use Rattle.step_core.specs.declared.steps.WordStep.TheVariants as step
use Rattle.word_rules.specs.Guards.{Grip}
use Rattle.word_rules.specs.Rules.{KeepsNothing}
use Rattle.word_rules.specs.Permissions.{Owes}
use Rattle.leaf_engine.specs.declared.needs.Write.TheVariants as write
use Rattle.leaf_engine.specs.Changes.{Memory, Put, changed, changed_all}
use Rattle.leaf_engine.specs.Decides.{HandsAt}
use Rattle.leaf_engine.specs.Means.{MayOweAll}
use Rattle.import_parts.specs.WordPuts.{put_words}

-- the write of a number
pub puts-none : (m : Machine) (p at : ℕ) (ws : ℕ → ℕ) (from left number : ℕ) (h : Option Measure) → left ≤ number → HandsAt m (put_words p at ws from left) number h h None
puts-none m p at ws from zero number h b = (refl, refl)
puts-none m p at ws from (suc left) zero h b = absurd (omega (arith, b))
puts-none m p at ws from (suc left) (suc number) h b = puts-none m p at ws (from + 1) left number h (omega (arith, b))

pub puts-some : (m : Machine) (p at : ℕ) (ws : ℕ → ℕ) (from left number : ℕ) (h : Option Measure) (i a x : ℕ) → p < m.pages → at + from + left ≤ 512 → number < left → i ≡ from + number → a ≡ 514 * p + 2 + (at + i) → x ≡ ws i
    → HandsAt m (put_words p at ws from left) number h h (Some (write.Word (step.Store a x)))
puts-some m p at ws from zero number h i a x in_page few b is where_ what = absurd (omega (arith, b))
puts-some m p at ws from (suc left) zero h i a x in_page few b is where_ what =
    let here : i ≡ from = omega (arith, is) in
    let there : a ≡ word_at p (at + from) = omega (arith, where_, here) in
    let word : x ≡ ws from = what ∙ ap ws here in
    rw (there, word) (omega (arith, in_page, few), λ hand is_hand. (refl, is_hand))
puts-some m p at ws from (suc left) (suc number) h i a x in_page few b is where_ what = puts-some m p at ws (from + 1) left number h i a x in_page (omega (arith, few)) (omega (arith, b)) (omega (arith, is)) where_ what

-- what words are after them
module _ (p at : ℕ) (ws : ℕ → ℕ) where
  abbrev next : (from : ℕ) → Memory → Memory
  next from mem = changed (Put (place.Word p (at + from)) (ws from)) mem

  abbrev after : (from left : ℕ) → Memory → Memory
  after from left mem = changed_all (put_words p at ws from left) mem

  itself : (p == p) ≡ true
  itself = eq-eqb p p refl

  pub puts-lock : (from left : ℕ) (mem : Memory) (r : ℕ) → (after from left mem).words (place.Lock r) ≡ mem.words (place.Lock r)
  puts-lock from zero mem r = refl
  puts-lock from (suc left) mem r = puts-lock (from + 1) left (next from mem) r

  pub puts-pamt : (from left : ℕ) (mem : Memory) (r : ℕ) → (after from left mem).words (place.Pamt r) ≡ mem.words (place.Pamt r)
  puts-pamt from zero mem r = refl
  puts-pamt from (suc left) mem r = puts-pamt (from + 1) left (next from mem) r

  pub puts-key : (from left : ℕ) (mem : Memory) (r : ℕ) → (after from left mem).words (place.Key r) ≡ mem.words (place.Key r)
  puts-key from zero mem r = refl
  puts-key from (suc left) mem r = puts-key (from + 1) left (next from mem) r

  -- those of other pages
  pub puts-off : (from left : ℕ) (mem : Memory) (r i : ℕ) → (r == p) ≡ false → (after from left mem).words (place.Word r i) ≡ mem.words (place.Word r i)
  puts-off from zero mem r i o = refl
  puts-off from (suc left) mem r i o =
      let here : (next from mem).words (place.Word r i) ≡ mem.words (place.Word r i) = rw o refl in
      puts-off (from + 1) left (next from mem) r i o ∙ here

  -- those before the first, and behind the last
  pub puts-before : (from left : ℕ) (mem : Memory) (i : ℕ) → i < at + from → (after from left mem).words (place.Word p i) ≡ mem.words (place.Word p i)
  puts-before from zero mem i b = refl
  puts-before from (suc left) mem i b =
      let differ : (i == at + from) ≡ false = ne_eqb i (at + from) (λ e. omega (arith, b, e)) in
      let here : (next from mem).words (place.Word p i) ≡ mem.words (place.Word p i) = rw (itself, differ) refl in
      puts-before (from + 1) left (next from mem) i (omega (arith, b)) ∙ here

  pub puts-behind : (from left : ℕ) (mem : Memory) (i : ℕ) → at + from + left ≤ i → (after from left mem).words (place.Word p i) ≡ mem.words (place.Word p i)
  puts-behind from zero mem i b = refl
  puts-behind from (suc left) mem i b =
      let differ : (i == at + from) ≡ false = ne_eqb i (at + from) (λ e. omega (arith, b, e)) in
      let here : (next from mem).words (place.Word p i) ≡ mem.words (place.Word p i) = rw (itself, differ) refl in
      puts-behind (from + 1) left (next from mem) i (omega (arith, b)) ∙ here

  -- and they themselves
  first-put : (from : ℕ) (mem : Memory) → (next from mem).words (place.Word p (at + from)) ≡ ws from
  first-put from mem = (let there : (at + from == at + from) ≡ true = eq-eqb (at + from) (at + from) refl in rw (itself, there) refl)

  pub puts-at : (from left : ℕ) (mem : Memory) (n : ℕ) → from ≤ n → n < from + left → (after from left mem).words (place.Word p (at + n)) ≡ ws n
  puts-at from zero mem n a b = absurd (omega (arith, a, b))
  puts-at from (suc left) mem n a b = by_test (n == from)
      (λ e. (let is : n ≡ from = eqb-true n from e in
      puts-before (from + 1) left (next from mem) (at + n) (omega (arith, is))
      ∙ subst (λ (k : ℕ). (next from mem).words (place.Word p (at + k)) ≡ ws k) (sym is) (first-put from mem)))
      (λ o. (let later : from + 1 ≤ n = grind (arith, nat_tests) in puts-at (from + 1) left (next from mem) n later (omega (arith, b))))

-- they may come after an act, where each may
pub puts-owed : (m : Machine) (g : Grip) (w : World) (p at : ℕ) (ws : ℕ → ℕ) (from left : ℕ) (mem : Memory) → p < m.pages → at + from + left ≤ 512
    → ((n : ℕ) → from ≤ n → n < from + left → Owes g w (place.Word p (at + n)) KeepsNothing) → MayOweAll m g w mem (put_words p at ws from left)
puts-owed m g w p at ws from zero mem in_page few may = tt
puts-owed m g w p at ws from (suc left) mem in_page few may = (
  ((in_page, omega (arith, few)), (KeepsNothing, may from (omega arith) (omega arith), tt)),
  puts-owed m g w p at ws (from + 1) left (changed (Put (place.Word p (at + from)) (ws from)) mem) in_page (omega (arith, few)) (λ n a b. may n (omega (arith, a)) (omega (arith, b))),
)
