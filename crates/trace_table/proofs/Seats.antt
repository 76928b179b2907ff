-- The first seat, which makes others and takes them in, keeps the rule of the table.
use Rattle.std.proofs.Common.{◌≡◌, ◌≢◌, ◌⊎◌, inl, inr, ⊎_elim, refl, sym, ◌∙◌, ap, subst, ℕ, zero, suc, ◌+◌, ◌<◌, ◌≤◌, ◌==◌, if◌then◌else◌, true, false, Bool, List, [], ◌∷◌, ◌++◌, length, Option, Some, None, arith, slice_set}
use Rattle.std.proofs.lemmas.Bool.{ne_eqb, eq-eqb, cases_lt}
use Rattle.std.proofs.lemmas.Bool.Decides.{eqb_tells}
use Rattle.std.proofs.lemmas.List.{length-append}
use Rattle.std.proofs.Math.ListN.{length-set}
use mathlib.Core.Option.{some, some-injective, some-ne-none}
use lib.ListN.{get_elem?}
use Rattle.atomic_table.specs.Table.{Splits, Joins}
use Rattle.atomic_table.proofs.Lists.{at_set, set_else, at_longer}
use Rattle.td_words.specs.declared.machines.Machine.{Machine}
use Rattle.step_core.specs.declared.items.Taken.{Taken}
use Rattle.trace_table.specs.declared.told.Told.{Told}
use Rattle.trace_table.specs.Merges.{part, no_table}
use Rattle.trace_table.specs.Views.{new_told, spent_told, one_more_out, joined_told}
use Rattle.trace_table.specs.Kept.{TableState, Holders, IsSlot, IsList, IsTrue, Kept, slot_of, due_at}
use Rattle.trace_table.proofs.Merging.{turned, turned-second, turned-else, turned-again, renumbered, part-renumbered, plays-renumbered}
use Rattle.trace_table.proofs.Lists.{none-some, own_of, own-there, at-inside, in-two, at-end, none-due}
use Rattle.trace_table.proofs.Openings.{true-false}
use Rattle.trace_table.proofs.Steps.{mine}

-- who has a slot out is another seat than one that has no swap under way
idle-taker : (s : TableState) (h : Holders) (id : ℕ) (v : Told) → get_elem? s.views id ≡ some v → v.under_way ≡ None → (j : ℕ) (u : Told) → get_elem? s.views (h.taker j) ≡ some u → slot_of u.under_way ≡ Some j → h.taker j ≢ id
idle-taker s h id v at idle j u there busy e =
    let same : u ≡ v = some-injective u v (sym there ∙ (ap (get_elem? s.views) e ∙ at)) in
    absurd (none-some j (sym (ap slot_of idle) ∙ (sym (ap (λ (z : Told). slot_of z.under_way) same) ∙ busy)))

above : (a b : ℕ) → a ≤ b → a ≢ b → a + 1 ≤ b
above a b le ne = by (cases_lt a b)
  where
    by : (a < b) ⊎ (b ≤ a) → a + 1 ≤ b
    by (inl lt) = omega (arith, lt)
    by (inr ge) = absurd (ne (omega (arith, le, ge)))

pub splits : (m : Machine) (id : ℕ) (v : Told) → v.first ≡ true → 0 < length v.lists → v.under_way ≡ None → Splits (Kept m) id v (one_more_out v) new_told
splits m id v is-first own idle s k at = record {
  narrow = k.narrow;
  made = k.made;
  table = k.table;
  holders = h';
  plays = k.plays;
  wide = k.wide;
  words = k.words;
  slots = slots-are;
  views = λ j v' e. ⊎_elim (before j v') (behind j v') (at-end (slice_set s.views id (one_more_out v)) new_told v' j e);
  nothing_else = λ p h. k.nothing_else p (omega (arith, h));
}
  where
    h' : Holders
    h' = record k.holders { base = λ i. if i == length s.views then k.holders.total else k.holders.base i; owner = λ p. if p == k.holders.total then length s.views else k.holders.owner p; total = k.holders.total + 1 }

    next_state : TableState
    next_state = record { words = s.words; homes = s.homes; views = slice_set s.views id (one_more_out v) ++ new_told ∷ [] }

    f : (k.holders.base id ≡ 0) × (k.holders.kept ≡ length v.lists) × (k.holders.total ≡ length v.lists + v.out)
    f = (k.views id v at).first is-first

    slots-are : (j : ℕ) → j < m.hkids → IsSlot next_state k.table h' j
    slots-are j lt = (
      (k.slots j lt).0,
      (λ nz.
          let old = (k.slots j lt).1 nz in
          (old.0, at_longer (slice_set s.views id (one_more_out v)) (new_told ∷ []) (k.holders.taker j) old.0 (set_else s.views id (k.holders.taker j) (one_more_out v) (idle-taker s k.holders id v at idle j old.0 old.1 old.2) ∙ old.1), old.2)),
    )

    base-else : (j : ℕ) → j < length s.views → h'.base j ≡ k.holders.base j
    base-else j lt = rw (ne_eqb j (length s.views) (λ e. absurd (omega (arith, e, lt)))) refl

    -- a list of before
    stays : (j p : ℕ) (xs : List Taken) (d : Option ℕ) → IsList k.made k.holders j p xs d → IsList k.made h' j p xs d
    stays j p xs d o = record {
      owner = ap (λ (b : Bool). if b then length s.views else k.holders.owner p) (ne_eqb p k.holders.total (λ e. absurd (let l = o.inside in omega (arith, e, l)))) ∙ o.owner;
      is = o.is;
      due_is = o.due_is;
      inside = let l = o.inside in omega (arith, l);
    }

    listed : (j : ℕ) (v' : Told) (q : ℕ) (xs : List Taken) → j < length s.views → IsList k.made k.holders j (k.holders.base j + q) xs (due_at v'.under_way q) → IsList k.made h' j (h'.base j + q) xs (due_at v'.under_way q)
    listed j v' q xs lt o = subst (λ (b : ℕ). IsList k.made h' j (b + q) xs (due_at v'.under_way q)) (sym (base-else j lt)) (stays j (k.holders.base j + q) xs (due_at v'.under_way q) o)

    first-true : IsTrue m next_state k.made k.table h' id (one_more_out v)
    first-true = record {
      lists = λ q xs e. listed id v q xs (at-inside s.views id v at) ((k.views id v at).lists q xs e);
      first = λ e. (base-else id (at-inside s.views id v at) ∙ f.0, f.1, (let t = f.2 in omega (arith, t)));
      other = λ e. absurd (true-false (sym is-first ∙ e));
      busy = λ x b. absurd (none-some x (sym idle ∙ b));
    }

    other-true : (j : ℕ) (v' : Told) → j ≢ id → get_elem? s.views j ≡ some v' → IsTrue m next_state k.made k.table h' j v'
    other-true j v' ne at' =
        let lt = at-inside s.views j v' at' in
        let them = k.views j v' at' in
        record {
          lists = λ q xs e. listed j v' q xs lt (them.lists q xs e);
          first = λ e. absurd (ne (twice (them.first e)));
          other = λ e. let o = them.other e in (o.0, (λ h. subst (λ (b : ℕ). k.holders.kept ≤ b) (sym (base-else j lt)) (o.1 h)));
          busy = λ x b. let o = them.busy x b in record { inside = o.inside; mine = o.mine; guarded = o.guarded; knows = o.knows; own = o.own };
        }
      where
        -- there is one first seat
        twice : (k.holders.base j ≡ 0) × (k.holders.kept ≡ length v'.lists) × (k.holders.total ≡ length v'.lists + v'.out) → j ≡ id
        twice g =
            let some-list : 0 < length v'.lists = subst (λ (n : ℕ). 0 < n) (sym f.1 ∙ g.1) own in
            sym (mine m s k j v' at' some-list).owner ∙ (ap k.holders.owner (g.0 ∙ sym f.0) ∙ (mine m s k id v at own).owner)

    before : (j : ℕ) (v' : Told) → get_elem? (slice_set s.views id (one_more_out v)) j ≡ some v' → IsTrue m next_state k.made k.table h' j v'
    before j v' e = ⊎_elim
        (λ t. subst (λ (z : ℕ). IsTrue m next_state k.made k.table h' z v') (sym t.0) (subst (λ (z : Told). IsTrue m next_state k.made k.table h' id z) t.1 first-true))
        (λ t. other-true j v' t.0 t.1)
        (at_set s.views id j (one_more_out v) v' e)

    base-here : h'.base (length s.views) ≡ k.holders.total
    base-here = rw (eq-eqb (length s.views) (length s.views) refl) refl

    new-list : (q : ℕ) (xs : List Taken) → get_elem? new_told.lists q ≡ some xs → IsList k.made h' (length s.views) (h'.base (length s.views) + q) xs (due_at None q)
    new-list zero xs e = subst (λ (p : ℕ). IsList k.made h' (length s.views) p xs None) (sym base-here ∙ omega arith) (record {
      owner = rw (eq-eqb k.holders.total k.holders.total refl) refl;
      is = (k.nothing_else k.holders.total (omega arith)).0 ∙ some-injective [] xs e;
      due_is = (k.nothing_else k.holders.total (omega arith)).1;
      inside = omega arith;
    })
    new-list (suc q) xs e = absurd (some-ne-none xs (sym e))

    new-true : IsTrue m next_state k.made k.table h' (length s.views) new_told
    new-true = record {
      lists = new-list;
      first = λ e. absurd (true-false (sym e));
      other = λ e. (omega arith, (λ h. subst (λ (b : ℕ). k.holders.kept ≤ b) (sym base-here) (let a = f.1 in let b = f.2 in omega (arith, a, b))));
      busy = λ x b. absurd (none-some x b);
    }

    behind : (j : ℕ) (v' : Told) → (j ≡ length (slice_set s.views id (one_more_out v))) × (new_told ≡ v') → IsTrue m next_state k.made k.table h' j v'
    behind j v' t = subst (λ (z : Told). IsTrue m next_state k.made k.table h' j z) t.1 (subst (λ (z : ℕ). IsTrue m next_state k.made k.table h' z new_told) (sym (t.0 ∙ length-set s.views id (one_more_out v))) new-true)

-- The list that is taken in changes its number with the one behind those that the first seat keeps.
pub joins : (m : Machine) (id : ℕ) (v : Told) (other : ℕ) (w : Told) → v.first ≡ true → 0 < length v.lists → v.under_way ≡ None → w.first ≡ false → length w.lists ≡ 1 → w.under_way ≡ None → Joins (Kept m) id v other w (joined_told v w) spent_told
joins m id v other w is-first own idle is-other one idle' s k at ne at2 = record {
  narrow = k.narrow;
  made = renumbered turn k.made;
  table = k.table;
  holders = h';
  plays = plays-renumbered turn again k.holders.due k.made no_table k.table k.plays;
  wide = k.wide;
  words = k.words;
  slots = slots-are;
  views = views-are;
  nothing_else = λ p h.
      let e : turn p ≡ p = turned-else q n p (λ z. absurd (omega (arith, z, h, q-inside))) (λ z. absurd (omega (arith, z, h, q-inside, n-first))) in
      (part-turned p ∙ (ap (λ (z : ℕ). part z k.made) e ∙ (k.nothing_else p h).0), ap k.holders.due e ∙ (k.nothing_else p h).1);
}
  where
    there : get_elem? s.views other ≡ some w
    there = sym (set_else s.views id other (joined_told v w) ne) ∙ at2

    some-w : 0 < length w.lists
    some-w = omega (arith, one)

    theirs : IsList k.made k.holders other (k.holders.base other) (own_of w.lists) (slot_of w.under_way)
    theirs = mine m s k other w there some-w

    f : (k.holders.base id ≡ 0) × (k.holders.kept ≡ length v.lists) × (k.holders.total ≡ length v.lists + v.out)
    f = (k.views id v at).first is-first

    -- the number of the list that is taken in, and the number that it gets
    q : ℕ
    q = k.holders.base other

    n : ℕ
    n = k.holders.kept

    q-inside : q < k.holders.total
    q-inside = theirs.inside

    n-first : n ≤ q
    n-first = ((k.views other w there).other is-other).1 some-w

    turn : ℕ → ℕ
    turn = turned q n

    again : (p : ℕ) → turn (turn p) ≡ p
    again = turned-again q n

    part-turned : (p : ℕ) → part p (renumbered turn k.made) ≡ part (turn p) k.made
    part-turned p = part-renumbered turn again p k.made

    h' : Holders
    h' = record k.holders { base = λ i. turn (k.holders.base i); owner = λ p. if p == n then id else k.holders.owner (turn p); due = λ p. k.holders.due (turn p); kept = n + 1 }

    next_state : TableState
    next_state = record { words = s.words; homes = s.homes; views = slice_set (slice_set s.views id (joined_told v w)) other spent_told }

    slots-are : (j : ℕ) → j < m.hkids → IsSlot next_state k.table h' j
    slots-are j lt = (
      (k.slots j lt).0,
      (λ nz.
          let old = (k.slots j lt).1 nz in (
            old.0,
            set_else (slice_set s.views id (joined_told v w)) other (k.holders.taker j) spent_told (idle-taker s k.holders other w there idle' j old.0 old.1 old.2)
                ∙ (set_else s.views id (k.holders.taker j) (joined_told v w) (idle-taker s k.holders id v at idle j old.0 old.1 old.2) ∙ old.1),
            old.2,
          )),
    )

    -- a list of another number than that of the list that is taken in
    moves : (j p : ℕ) (xs : List Taken) (d : Option ℕ) → p ≢ q → IsList k.made k.holders j p xs d → IsList (renumbered turn k.made) h' j (turn p) xs d
    moves j p xs d np o = record {
      owner = ap (λ (b : Bool). if b then id else k.holders.owner (turn (turn p))) (ne_eqb (turn p) n (λ e. np (sym (again p) ∙ (ap turn e ∙ turned-second q n)))) ∙ (ap k.holders.owner (again p) ∙ o.owner);
      is = part-turned (turn p) ∙ (ap (λ (z : ℕ). part z k.made) (again p) ∙ o.is);
      due_is = ap k.holders.due (again p) ∙ o.due_is;
      inside = turn-inside;
    }
      where
        turn-inside : turn p < k.holders.total
        turn-inside = by (eqb_tells p n)
          where
            by : (((p == n) ≡ true) × (p ≡ n)) ⊎ (((p == n) ≡ false) × (p ≢ n)) → turn p < k.holders.total
            by (inl t) = subst (λ (z : ℕ). z < k.holders.total) (sym (ap turn t.1 ∙ turned-second q n)) q-inside
            by (inr u) = subst (λ (z : ℕ). z < k.holders.total) (sym (turned-else q n p np u.1)) o.inside

    base-first : h'.base id ≡ 0
    base-first = ap turn f.0 ∙ turned-else q n 0 (λ e. absurd (let a = f.1 in omega (arith, e, n-first, a, own))) (λ e. absurd (let a = f.1 in omega (arith, e, a, own)))

    -- those that the first seat keeps have their numbers
    kept-list : (r : ℕ) (xs : List Taken) → get_elem? v.lists r ≡ some xs → IsList (renumbered turn k.made) h' id r xs None
    kept-list r xs e =
        let lt : r < n = (let a = f.1 in let b = at-inside v.lists r xs e in omega (arith, a, b)) in
        let o = (k.views id v at).lists r xs e in
        let at-r : k.holders.base id + r ≡ r = (let z = f.0 in omega (arith, z)) in
        let old : IsList k.made k.holders id r xs None = subst (λ (d : Option ℕ). IsList k.made k.holders id r xs d) (none-due v.under_way r idle) (subst (λ (p : ℕ). IsList k.made k.holders id p xs (due_at v.under_way r)) at-r o) in
        subst (λ (p : ℕ). IsList (renumbered turn k.made) h' id p xs None) (turned-else q n r (λ z. absurd (omega (arith, z, lt, n-first))) (λ z. absurd (omega (arith, z, lt))))
        (moves id r xs None (λ z. absurd (omega (arith, z, lt, n-first))) old)

    taken-in : IsList (renumbered turn k.made) h' id n (own_of w.lists) None
    taken-in = record {
      owner = ap (λ (b : Bool). if b then id else k.holders.owner (turn n)) (eq-eqb n n refl);
      is = part-turned n ∙ (ap (λ (z : ℕ). part z k.made) (turned-second q n) ∙ theirs.is);
      due_is = ap k.holders.due (turned-second q n) ∙ (theirs.due_is ∙ ap slot_of idle');
      inside = omega (arith, n-first, q-inside);
    }

    both-list : (r : ℕ) (xs : List Taken) → get_elem? (v.lists ++ w.lists) r ≡ some xs → IsList (renumbered turn k.made) h' id (h'.base id + r) xs (due_at v.under_way r)
    both-list r xs e = subst (λ (d : Option ℕ). IsList (renumbered turn k.made) h' id (h'.base id + r) xs d) (sym (none-due v.under_way r idle))
        (subst (λ (p : ℕ). IsList (renumbered turn k.made) h' id p xs None) (let z = base-first in omega (arith, z)) (⊎_elim (kept-list r xs) last (in-two v.lists w.lists r xs e)))
      where
        last : (z : ℕ) × (r ≡ length v.lists + z) × (get_elem? w.lists z ≡ some xs) → IsList (renumbered turn k.made) h' id r xs None
        last t =
            let z0 : t.0 ≡ 0 = (let a = at-inside w.lists t.0 xs t.2 in omega (arith, a, one)) in
            let r-n : n ≡ r = (let a = t.1 in let b = f.1 in omega (arith, a, b, z0)) in
            let same : own_of w.lists ≡ xs = some-injective (own_of w.lists) xs (sym (own-there w.lists some-w) ∙ (ap (get_elem? w.lists) (sym z0) ∙ t.2)) in
            subst (λ (p : ℕ). IsList (renumbered turn k.made) h' id p xs None) r-n (subst (λ (ys : List Taken). IsList (renumbered turn k.made) h' id n ys None) same taken-in)

    both-true : IsTrue m next_state (renumbered turn k.made) k.table h' id (joined_told v w)
    both-true = record {
      lists = both-list;
      first = λ e. (
        base-first,
        (let a = f.1 in omega (arith, a, one, length-append v.lists w.lists)),
        (let a = f.1 in let b = f.2 in omega (arith, a, b, one, n-first, q-inside, length-append v.lists w.lists)),
      );
      other = λ e. absurd (true-false (sym is-first ∙ e));
      busy = λ x b. absurd (none-some x (sym idle ∙ b));
    }

    spent-true : IsTrue m next_state (renumbered turn k.made) k.table h' other spent_told
    spent-true = record {
      lists = λ r xs e. absurd (some-ne-none xs (sym e));
      first = λ e. absurd (true-false (sym e));
      other = λ e. (omega arith, (λ h. absurd (omega (arith, h))));
      busy = λ x b. absurd (none-some x b);
    }

    further-true : (j : ℕ) (v' : Told) → j ≢ id → j ≢ other → get_elem? s.views j ≡ some v' → IsTrue m next_state (renumbered turn k.made) k.table h' j v'
    further-true j v' nid not at' = record {
      lists = listed;
      first = λ e. absurd (nid (twice (them.first e)));
      other = λ e. ((them.other e).0, (λ h. numbered e h));
      busy = λ x b. let o = them.busy x b in record { inside = o.inside; mine = o.mine; guarded = o.guarded; knows = o.knows; own = o.own };
    }
      where
        them : IsTrue m s k.made k.table k.holders j v'
        them = k.views j v' at'

        -- there is one first seat
        twice : (k.holders.base j ≡ 0) × (k.holders.kept ≡ length v'.lists) × (k.holders.total ≡ length v'.lists + v'.out) → j ≡ id
        twice g =
            let some-list : 0 < length v'.lists = subst (λ (i : ℕ). 0 < i) (sym f.1 ∙ g.1) own in
            sym (mine m s k j v' at' some-list).owner ∙ (ap k.holders.owner (g.0 ∙ sym f.0) ∙ (mine m s k id v at own).owner)

        apart : 0 < length v'.lists → k.holders.base j ≢ q
        apart h e = not (sym (mine m s k j v' at' h).owner ∙ (ap k.holders.owner e ∙ theirs.owner))

        listed : (r : ℕ) (xs : List Taken) → get_elem? v'.lists r ≡ some xs → IsList (renumbered turn k.made) h' j (turn (k.holders.base j) + r) xs (due_at v'.under_way r)
        listed r xs e = by v'.first refl
          where
            by : (b : Bool) → v'.first ≡ b → IsList (renumbered turn k.made) h' j (turn (k.holders.base j) + r) xs (due_at v'.under_way r)
            by true t = absurd (nid (twice (them.first t)))
            by false t =
                let inside = at-inside v'.lists r xs e in
                let r0 : r ≡ 0 = (let a = (them.other t).0 in omega (arith, a, inside)) in
                let some-list : 0 < length v'.lists = omega (arith, inside) in
                let old : IsList k.made k.holders j (k.holders.base j) xs (due_at v'.under_way r) = subst (λ (p : ℕ). IsList k.made k.holders j p xs (due_at v'.under_way r)) (omega (arith, r0)) (them.lists r xs e) in
                subst (λ (p : ℕ). IsList (renumbered turn k.made) h' j p xs (due_at v'.under_way r)) (omega (arith, r0)) (moves j (k.holders.base j) xs (due_at v'.under_way r) (apart some-list) old)

        numbered : v'.first ≡ false → 0 < length v'.lists → n + 1 ≤ turn (k.holders.base j)
        numbered e h = by (eqb_tells (k.holders.base j) n)
          where
            low : n ≤ k.holders.base j
            low = (them.other e).1 h

            by : (((k.holders.base j == n) ≡ true) × (k.holders.base j ≡ n)) ⊎ (((k.holders.base j == n) ≡ false) × (k.holders.base j ≢ n)) → n + 1 ≤ turn (k.holders.base j)
            by (inl t) = subst (λ (z : ℕ). n + 1 ≤ z) (sym (ap turn t.1 ∙ turned-second q n)) (above n q n-first (λ z. apart h (t.1 ∙ z)))
            by (inr u) = subst (λ (z : ℕ). n + 1 ≤ z) (sym (turned-else q n (k.holders.base j) (apart h) u.1)) (above n (k.holders.base j) low (λ z. u.1 (sym z)))

    views-are : (j : ℕ) (v' : Told) → get_elem? (slice_set (slice_set s.views id (joined_told v w)) other spent_told) j ≡ some v' → IsTrue m next_state (renumbered turn k.made) k.table h' j v'
    views-are j v' e = ⊎_elim
        (λ t. subst (λ (z : ℕ). IsTrue m next_state (renumbered turn k.made) k.table h' z v') (sym t.0) (subst (λ (z : Told). IsTrue m next_state (renumbered turn k.made) k.table h' other z) t.1 spent-true))
        (λ t. ⊎_elim
        (λ a. subst (λ (z : ℕ). IsTrue m next_state (renumbered turn k.made) k.table h' z v') (sym a.0) (subst (λ (z : Told). IsTrue m next_state (renumbered turn k.made) k.table h' id z) a.1 both-true))
        (λ a. further-true j v' a.0 t.0 a.1)
        (at_set s.views id j (joined_told v w) v' t.1))
        (at_set (slice_set s.views id (joined_told v w)) other j spent_told v' e)
