-- At the close the lists of the first pass, which has no bench out, have a merge.
use Rattle.std.proofs.Common.{◌≡◌, ◌⊎◌, ⊎_elim, sym, ◌∙◌, ap, ℕ, zero, suc, ◌+◌, ◌<◌, true, List, [], ◌∷◌, ◌++◌, ◌-◌, length, take, drop, Option, None, arith, slice_index}
use Rattle.std.proofs.lemmas.List.{get_or-drop, length-drop, take_more}
use mathlib.Core.Option.{some, some-injective, some-ne-none}
use lib.ListN.{get_elem?}
use Rattle.td_words.specs.declared.machines.Machine.{Machine}
use Rattle.step_core.specs.Words.{word_count}
use Rattle.step_core.specs.Items.{Table}
use Rattle.step_core.specs.declared.items.Taken.{Taken}
use Rattle.step_core.specs.declared.items.Taken.TheVariants.{Stepped, Swapped, Missed}
use Rattle.trace_table.specs.declared.told.Told.{Told}
use Rattle.trace_table.specs.Merges.{Made, part, IsMergeOf, TakenFits, taken_after, MergePlays, no_table, MergesTo}
use Rattle.trace_table.specs.Views.{guards}
use Rattle.trace_table.specs.Kept.{Fits, Plays, TableState, Kept}
use Rattle.trace_table.proofs.Lists.{none-some, none-due, looked-up}

looked : (ls : List ℕ) (i x : ℕ) → get_elem? ls i ≡ some x → slice_index ls i ≡ x
looked [] i x e = absurd (some-ne-none x (sym e))
looked (l ∷ ls) zero x e = some-injective l x e
looked (l ∷ ls) (suc i) x e = looked ls i x e

-- a word more was copied
pub one-more : (items copied : List ℕ) (at x : ℕ) → copied ≡ take at (drop guards items) → get_elem? items (guards + at) ≡ some x → guards + at < length items
    → copied ++ x ∷ [] ≡ take (at + 1) (drop guards items)
one-more items copied at x so-far e inside =
    let long : length (drop guards items) ≡ length items - guards = length-drop guards items in
    let here : slice_index (drop guards items) at ≡ x = get_or-drop guards items at 0 ∙ looked items (guards + at) x e in
    ap (λ (xs : List ℕ). xs ++ x ∷ []) so-far ∙ (ap (λ (y : ℕ). take at (drop guards items) ++ y ∷ []) (sym here) ∙ sym (take_more (drop guards items) at 0 (let l = long in omega (arith, l, inside))))

-- where no list has a slot out, what was told is all
module _ (due : ℕ → Option ℕ) (none-out : (p : ℕ) → due p ≡ None) where
  fits-all : (behind : List Made) (t : Table) (p : ℕ) (x : Taken) → Fits due behind t p x → TakenFits behind t p x
  fits-all behind t p (Stepped s a) g = g
  fits-all behind t p (Swapped k put taken) g = g
  fits-all behind t p (Missed k) g = record { list = g.list; other = g.other; swaps = ⊎_elim (λ s. s) (λ e. absurd (none-some k (sym (none-out g.list) ∙ e.1))) g.swaps }

  pub plays-all : (ms : List Made) (t u : Table) → Plays due t ms u → MergePlays t ms u
  plays-all [] t u h = (ap (λ (z : Table). z.words) h, ap (λ (z : Table). z.slots) h)
  plays-all (m ∷ ms) t u h = (fits-all ms t m.list m.taken h.0, plays-all ms (taken_after t m.taken) u h.1)

pub closes : (m : Machine) (s : TableState) → Kept m s → (id : ℕ) (v : Told) → get_elem? s.views id ≡ some v → v.first ≡ true → v.out ≡ 0 → v.under_way ≡ None
    → (words : List ℕ) → length words ≡ word_count m → ((n : ℕ) → n < length words → slice_index words n ≡ slice_index s.words (guards + n)) → MergesTo m v.lists words
closes m s k id v at is-first none-out idle words count are = record {
  made = k.made;
  merge = parts;
  table = k.table;
  plays = plays-all k.holders.due nothing-due k.made no_table k.table k.plays;
  count = count;
  words_are = λ n lt. are n (omega (arith, count, lt)) ∙ k.words n lt;
}
  where
    f : (k.holders.base id ≡ 0) × (k.holders.kept ≡ length v.lists) × (k.holders.total ≡ length v.lists + v.out)
    f = (k.views id v at).first is-first

    total : k.holders.total ≡ length v.lists
    total = let a = f.2 in omega (arith, a, none-out)

    at-list : (p : ℕ) → k.holders.base id + p ≡ p
    at-list p = let a = f.0 in omega (arith, a)

    parts : IsMergeOf v.lists k.made
    parts p = ⊎_elim
        (λ t. ap (λ (z : ℕ). part z k.made) (sym (at-list p)) ∙ (((k.views id v at).lists p t.0 t.1).is ∙ sym t.2))
        (λ t. (k.nothing_else p (let a = t.0 in omega (arith, a, total))).0 ∙ sym t.1)
        (looked-up v.lists p)

    nothing-due : (p : ℕ) → k.holders.due p ≡ None
    nothing-due p = ⊎_elim
        (λ t. ap k.holders.due (sym (at-list p)) ∙ (((k.views id v at).lists p t.0 t.1).due_is ∙ none-due v.under_way p idle))
        (λ t. (k.nothing_else p (let a = t.0 in omega (arith, a, total))).1)
        (looked-up v.lists p)
