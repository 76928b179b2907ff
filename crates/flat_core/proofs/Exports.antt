-- How many entries of a TD are dirty, and how many are exported: what keeps it.
use Rattle.std.proofs.Common.{lit≤, ◌≡◌, refl, sym, ◌∙◌, ap, ℕ, zero, suc, ◌+◌, ◌%◌, ◌^◌, ◌<◌, ◌≤◌, List, Bool, true, false, ◌==◌, ◌&&◌, arith}
use Rattle.std.specs.List.{sum_by}
use Rattle.std.proofs.lemmas.Bool.{eqb-true, eqb-false, ne_eqb, and_left, and_right}
use Rattle.td_words.specs.declared.names.PageKind.{PageKind}
use Rattle.td_words.specs.declared.names.PageKind.TheVariants as kind
use Rattle.td_words.specs.declared.names.EntryState.{EntryState}
use Rattle.td_words.specs.declared.names.EntryState.TheVariants as entry
use Rattle.td_words.specs.Packing.{Entry, is_exported}
use Rattle.flat_core.specs.World.{Pages, Tds, Streams, free_entry}
use Rattle.flat_core.specs.Locks.{one_if, sum_below}
use Rattle.flat_core.specs.Conditions.{same_kind}
use Rattle.flat_core.specs.Exports.{is_dirty, is_page_where, entries_where}
use Rattle.flat_core.specs.Lawful.{IsAlive, IsNew, LawfulPages, LawfulCounts, is_free}
use Rattle.flat_core.proofs.Tests.{by_test}
use Rattle.flat_core.proofs.Pages.{taken}

-- f holds of exported states alone
abbrev pub IsOfExported : (EntryState → Bool) → Type 0
IsOfExported f = (s : EntryState) → is_exported s ≡ false → f s ≡ false

pub dirty_exported : IsOfExported is_dirty
dirty_exported entry.ExportedDirty h = cc
dirty_exported entry.ExportedDirtyBlockedW h = cc
dirty_exported _ h = refl

pub free_unmarked : (s : EntryState) → is_free s ≡ true → is_exported s ≡ false
free_unmarked entry.Free h = refl
free_unmarked _ h = cc

same_sum : (g h : ℕ → ℕ) → ((p : ℕ) → g p ≡ h p) → (n : ℕ) → sum_below g n ≡ sum_below h n
same_sum g h e zero = refl
same_sum g h e (suc n) = rw (e n, same_sum g h e n) refl

-- a sum that changes at one place alone
same_below : (g h : ℕ → ℕ) (p : ℕ) → ((q : ℕ) → (q == p) ≡ false → g q ≡ h q) → (n : ℕ) → n ≤ p → sum_below g n ≡ sum_below h n
same_below g h p e zero low = refl
same_below g h p e (suc n) low = rw (e n (ne_eqb n p (λ same. omega (arith, low, same))), same_below g h p e n (omega (arith, low))) refl

pub sum_moved : (g h : ℕ → ℕ) (p : ℕ) → ((q : ℕ) → (q == p) ≡ false → g q ≡ h q) → (n : ℕ) → p < n → sum_below g n + h p ≡ sum_below h n + g p
sum_moved g h p e zero few = absurd (omega (arith, few))
sum_moved g h p e (suc n) few = by_test (n == p)
    (λ y. (let here : n ≡ p = eqb-true n p y in let below = same_below g h p e n (omega (arith, here)) in let was = ap h here in let is = ap g here in omega (arith, below, was, is)))
    (λ y. (let apart = eqb-false n p y in let rest = sum_moved g h p e n (omega (arith, few, apart)) in let same = e n y in omega (arith, rest, same)))

no_sum : (g : ℕ → ℕ) → ((p : ℕ) → g p ≡ 0) → (n : ℕ) → sum_below g n ≡ 0
no_sum g e zero = refl
no_sum g e (suc n) = rw (e n, no_sum g e n) refl

-- what the counts of a TD are compared with
pub record Tallies : Type 0 where
  pub dirtied : ℕ
  pub unrestored : ℕ
  pub streams : List ℕ

abbrev pub tallies : Tds → ℕ → Tallies
tallies tds t = record { dirtied = tds.dirtied t; unrestored = tds.unrestored t; streams = tds.streams t }

-- and that they agree
abbrev pub IsCounted : ℕ → Pages → Tds → Streams → ℕ → Type 0
IsCounted count pages tds streams t =
    (entries_where is_dirty count pages tds t + sum_by streams.cleaned (tds.streams t) ≡ tds.dirtied t)
    × (entries_where is_exported count pages tds t ≡ (tds.unrestored t + sum_by streams.first_exports (tds.streams t)) % 2 ^ 64)

pub counts_of : (count : ℕ) (pages : Pages) (tds : Tds) (streams : Streams) → ((t : ℕ) → IsAlive pages tds t → IsCounted count pages tds streams t) → LawfulCounts count pages tds streams
counts_of count pages tds streams h = record { dirtied = λ t a. (h t a).0; unrestored = λ t a. (h t a).1 }

-- a TD that is new has no exported entry
none_where : (f : EntryState → Bool) → IsOfExported f → (count : ℕ) (pages : Pages) (tds : Tds) (t : ℕ) → ((n : ℕ) → tds.entries t 0 n ≡ free_entry) → entries_where f count pages tds t ≡ 0
none_where f of count pages tds t free =
    no_sum (λ p. one_if (is_page_where f pages t (tds.entries t 0) p))
    (λ p. ap one_if (and_right (same_kind (pages.kinds p) kind.Reg) _ (and_right (pages.owners p == t) _ (ap (λ (e : Entry). f e.state) (free (pages.numbers p)) ∙ of entry.Free refl)))) count

pub new_counted : (count : ℕ) (pages : Pages) (tds : Tds) (streams : Streams) (rtmrs : ℕ → ℕ → ℕ) (t : ℕ) → IsNew tds rtmrs t → IsCounted count pages tds streams t
new_counted count pages tds streams rtmrs t new = (
  ap (λ (n : ℕ). n + sum_by streams.cleaned (tds.streams t)) (none_where is_dirty dirty_exported count pages tds t (new.entries 0))
      ∙ (ap (λ (ss : List ℕ). 0 + sum_by streams.cleaned ss) new.streams ∙ sym new.dirtied),
  none_where is_exported (λ s h. h) count pages tds t (new.entries 0)
      ∙ sym (ap (λ (n : ℕ). (n + sum_by streams.first_exports (tds.streams t)) % 2 ^ 64) new.unrestored ∙ ap (λ (ss : List ℕ). (0 + sum_by streams.first_exports ss) % 2 ^ 64) new.streams),
)

-- a TD where as many pages count as before, and all else is as it was
module _ (count : ℕ) (old new : Pages) (tds tds' : Tds) (streams : Streams) where
  abbrev pub AsMany : ℕ → Type 0
  AsMany t = (f : EntryState → Bool) → IsOfExported f → (p : ℕ) → is_page_where f new t (tds'.entries t 0) p ≡ is_page_where f old t (tds.entries t 0) p

  as_many : (t : ℕ) (f : EntryState → Bool) → IsOfExported f → AsMany t → entries_where f count new tds' t ≡ entries_where f count old tds t
  as_many t f of many =
      same_sum (λ p. one_if (is_page_where f new t (tds'.entries t 0) p)) (λ p. one_if (is_page_where f old t (tds.entries t 0) p)) (λ p. ap one_if (many f of p)) count

  pub counted_still : (t : ℕ) → tallies tds' t ≡ tallies tds t → AsMany t → IsCounted count old tds streams t → IsCounted count new tds' streams t
  counted_still t same many h = (
    ap (λ (n : ℕ). n + sum_by streams.cleaned (tds'.streams t)) (as_many t is_dirty dirty_exported many)
        ∙ (ap (λ (x : Tallies). entries_where is_dirty count old tds t + sum_by streams.cleaned x.streams) same ∙ (h.0 ∙ ap (λ (x : Tallies). x.dirtied) (sym same))),
    as_many t is_exported (λ s h. h) many ∙ (h.1 ∙ ap (λ (x : Tallies). (x.unrestored + sum_by streams.first_exports x.streams) % 2 ^ 64) (sym same)),
  )

  pub counts_kept : ((t : ℕ) → IsAlive new tds' t → IsAlive old tds t) → ((t : ℕ) → tallies tds' t ≡ tallies tds t) → ((t : ℕ) → IsAlive new tds' t → AsMany t)
      → LawfulCounts count old tds streams → LawfulCounts count new tds' streams
  counts_kept back same many l = counts_of count new tds' streams (λ t a. counted_still t (same t) (many t a) (l.dirtied t (back t a), l.unrestored t (back t a)))

-- and one where the same is counted on all its streams
pub counted_on : (count : ℕ) (pages : Pages) (tds : Tds) (streams streams' : Streams) (t : ℕ) → sum_by streams'.cleaned (tds.streams t) ≡ sum_by streams.cleaned (tds.streams t)
    → sum_by streams'.first_exports (tds.streams t) ≡ sum_by streams.first_exports (tds.streams t) → IsCounted count pages tds streams t → IsCounted count pages tds streams' t
counted_on count pages tds streams streams' t cleaned first h = (
  ap (λ (n : ℕ). entries_where is_dirty count pages tds t + n) cleaned ∙ h.0,
  h.1 ∙ ap (λ (n : ℕ). (tds.unrestored t + n) % 2 ^ 64) (sym first),
)

-- where no entry is exported none is dirty
fewer_below : (g h : ℕ → ℕ) → ((p : ℕ) → g p ≤ h p) → (n : ℕ) → sum_below g n ≤ sum_below h n
fewer_below g h e zero = lit≤ tt
fewer_below g h e (suc n) = let here = e n in let rest = fewer_below g h e n in omega (arith, here, rest)

pub none_dirty_of : (count : ℕ) (pages : Pages) (tds : Tds) (t : ℕ) → entries_where is_exported count pages tds t ≡ 0 → entries_where is_dirty count pages tds t ≡ 0
none_dirty_of count pages tds t none =
    let few = fewer_below (λ p. one_if (is_page_where is_dirty pages t (tds.entries t 0) p)) (λ p. one_if (is_page_where is_exported pages t (tds.entries t 0) p)) fewer count in omega (arith, few, none)
  where
    of : (s : EntryState) → one_if (is_dirty s) ≤ one_if (is_exported s)
    of entry.ExportedDirty = lit≤ tt
    of entry.ExportedDirtyBlockedW = lit≤ tt
    of entry.ExportedBlockedW = lit≤ tt
    of _ = lit≤ tt

    fewer : (p : ℕ) → one_if (is_page_where is_dirty pages t (tds.entries t 0) p) ≤ one_if (is_page_where is_exported pages t (tds.entries t 0) p)
    fewer p = by_test (same_kind (pages.kinds p) kind.Reg)
        (λ y. by_test (pages.owners p == t) (λ z. rw (y, z) (of (tds.entries t 0 (pages.numbers p)).state)) (λ z. rw (y, z) (lit≤ tt)))
        (λ y. rw y (lit≤ tt))

-- a host page that is taken, where the entry that names it, if one does, isn't exported
pub taken_where : (count : ℕ) (old : Pages) (p : ℕ) (k : PageKind) (t level number : ℕ) (host : old.kinds p ≡ kind.Nda) (lawful : LawfulPages count old) (f : EntryState → Bool) (x : ℕ) (before after : ℕ → Entry)
    → ((n : ℕ) → f (after n).state ≡ f (before n).state) → (same_kind k kind.Reg && (t == x && f (after number).state)) ≡ false
    → (q : ℕ) → is_page_where f (taken count old p k t level number host lawful) x after q ≡ is_page_where f old x before q
taken_where count old p k t level number host lawful f x before after same none q = by_test (q == p)
    (λ y. rw y (none ∙ sym (and_left (same_kind (old.kinds q) kind.Reg) _ (ap (λ (j : PageKind). same_kind j kind.Reg) (ap old.kinds (eqb-true q p y) ∙ host)))))
    (λ n. rw n (ap (λ (b : Bool). same_kind (old.kinds q) kind.Reg && (old.owners q == x && b)) (same (old.numbers q))))
