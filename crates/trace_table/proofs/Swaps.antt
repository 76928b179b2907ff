-- The two steps of a swap keep the rule of the table, and so does one that finds another swap under way.
use Rattle.std.proofs.Common.{◌≡◌, ◌≢◌, ◌⊎◌, inl, inr, ⊎_elim, refl, sym, ◌∙◌, ap, subst, ℕ, zero, suc, ◌+◌, ◌<◌, ◌==◌, if◌then◌else◌, true, false, Bool, List, [], ◌∷◌, ◌++◌, length, Option, Some, None, arith, slice_index, slice_set}
use Rattle.std.proofs.lemmas.Bool.{ne_eqb, eq-eqb}
use Rattle.std.proofs.lemmas.Bool.Decides.{eqb_tells}
use Rattle.std.proofs.lemmas.List.{set-get_or, get_or-set_other, get_or-set_same}
use Rattle.std.proofs.Math.ListN.{length-set}
use mathlib.Core.Option.{some, none, some-injective}
use lib.ListN.{get_elem?}
use prog.Atomic.{either}
use Rattle.atomic_table.specs.Table.{Act, keeps, takes, gives, Allows, Valid, stepped, step, rest, put_back, carried_after}
use Rattle.atomic_table.proofs.Lists.{at_set, set_here, set_else}
use Rattle.td_words.specs.declared.machines.Machine.{Machine}
use Rattle.mrtd_measure.specs.declared.measures.Measure.{Measure}
use Rattle.step_core.specs.Items.{Table, with_slot}
use Rattle.step_core.specs.declared.items.Taken.{Taken}
use Rattle.step_core.specs.declared.items.Taken.TheVariants.{Swapped, Missed}
use Rattle.trace_table.specs.declared.told.Swap.{Swap}
use Rattle.trace_table.specs.declared.told.Told.{Told}
use Rattle.trace_table.specs.declared.benches.SharedBench.{SharedBench}
use Rattle.trace_table.specs.Merges.{no_table}
use Rattle.trace_table.specs.Views.{guards, grown}
use Rattle.trace_table.specs.Kept.{IsDue, TableState, Holders, IsSlot, IsTaker, IsList, IsTrue, Kept, slot_of, due_at}
use Rattle.trace_table.specs.Tells.{Seated, took, gave, carried, taken_of}
use Rattle.trace_table.proofs.Merging.{made_by, IsNext, plays-more, plays-due}
use Rattle.trace_table.proofs.Lists.{none-some, some-same, at-inside, under-way}
use Rattle.trace_table.proofs.Steps.{here, mine, others-list, not-taker, lists-more, lists-others, nothing-more, first-more, other-more, grows}

-- a swap that took y out of a slot
abbrev pub swap-of : ℕ → Option Measure → Swap
swap-of k y = record { slot = k; taken = y }

abbrev pub busy-with : Told → ℕ → Option Measure → Told
busy-with v k y = record v { under_way = Some (swap-of k y) }

module _ (m : Machine) (s : TableState) (k : Kept m s) (id : ℕ) (v : Told) (at : get_elem? s.views id ≡ some v) (own : 0 < length v.lists) (slot : ℕ) (inside : slot < m.hkids) where
  abbrev home : ℕ
  home = here m s k id v at own

  wide-enough : slot < length s.words
  wide-enough = let a = k.wide in let b = k.narrow in omega (arith, a, b, inside)

  -- the slot is at home, and is taken
  module _ (idle : v.under_way ≡ None) (free : slice_index s.words slot ≡ 0) where
    abbrev w : Told
    w = busy-with v slot (k.table.slots slot)

    abbrev h' : Holders
    h' = record k.holders { taker = λ j. if j == slot then id else k.holders.taker j; due = λ p. if p == home then Some slot else k.holders.due p }

    abbrev next_state : TableState
    next_state = record { words = slice_set s.words slot 1; homes = slice_set s.homes slot none; views = slice_set s.views id w }

    word-here : slice_index next_state.words slot ≡ 1
    word-here = get_or-set_same s.words slot 1 0 wide-enough

    word-else : (j : ℕ) → j ≢ slot → slice_index next_state.words j ≡ slice_index s.words j
    word-else j ne = get_or-set_other s.words slot j 1 0 ne

    taker-here : h'.taker slot ≡ id
    taker-here = rw (eq-eqb slot slot refl) refl

    taker-else : (j : ℕ) → j ≢ slot → h'.taker j ≡ k.holders.taker j
    taker-else j ne = rw (ne_eqb j slot ne) refl

    due-here : h'.due home ≡ Some slot
    due-here = rw (eq-eqb home home refl) refl

    due-else : (p : ℕ) → p ≢ home → h'.due p ≡ k.holders.due p
    due-else p ne = rw (ne_eqb p home ne) refl

    slots-are : (j : ℕ) → j < m.hkids → IsSlot next_state k.table h' j
    slots-are j lt = by (eqb_tells j slot)
      where
        by : (((j == slot) ≡ true) × (j ≡ slot)) ⊎ (((j == slot) ≡ false) × (j ≢ slot)) → IsSlot next_state k.table h' j
        by (inl t) = subst (IsSlot next_state k.table h') (sym t.1) (
          (λ z. absurd (let n : 1 ≡ 0 = sym word-here ∙ z in omega (arith, n))),
          (λ nz. (w, ap (get_elem? next_state.views) taker-here ∙ set_here s.views id w (at-inside s.views id v at), refl)),
        )
        by (inr f) = (
          (λ z. set_else s.homes slot j none f.1 ∙ (k.slots j lt).0 (sym (word-else j f.1) ∙ z)),
          (λ nz.
              let old = (k.slots j lt).1 (λ z. nz (word-else j f.1 ∙ z)) in (
                old.0,
                ap (get_elem? next_state.views) (taker-else j f.1) ∙ (set_else s.views id (k.holders.taker j) w (not-taker m s k id v at own idle j old.0 old.1 old.2) ∙ old.1),
                old.2,
              )),
        )

    own-lists : (q : ℕ) (xs : List Taken) → get_elem? v.lists q ≡ some xs → IsList k.made h' id (home + q) xs (due_at w.under_way q)
    own-lists zero xs e = let o = (k.views id v at).lists 0 xs e in record { owner = o.owner; is = o.is; due_is = ap h'.due (omega arith) ∙ due-here; inside = o.inside }
    own-lists (suc q) xs e =
        let o = (k.views id v at).lists (suc q) xs e in
        record { owner = o.owner; is = o.is; due_is = due-else (home + suc q) (λ n. absurd (omega (arith, n))) ∙ o.due_is; inside = o.inside }

    own-true : IsTrue m next_state k.made k.table h' id w
    own-true = record { lists = own-lists; first = (k.views id v at).first; other = (k.views id v at).other; busy = busy-is }
      where
        busy-is : (y : Swap) → w.under_way ≡ Some y → IsTaker m next_state k.table h' id w y
        busy-is y e = subst (IsTaker m next_state k.table h' id w) (some-same (swap-of slot (k.table.slots slot)) y e)
            (record { inside = inside; mine = taker-here; guarded = λ z. absurd (let n : 1 ≡ 0 = sym word-here ∙ z in omega (arith, n)); knows = refl; own = own })

    other-true : (id' : ℕ) (v' : Told) → id' ≢ id → get_elem? s.views id' ≡ some v' → IsTrue m next_state k.made k.table h' id' v'
    other-true id' v' ne at' = record {
      lists = λ q xs e.
          let o = (k.views id' v' at').lists q xs e in
          record { owner = o.owner; is = o.is; due_is = due-else (k.holders.base id' + q) (λ n. others-list m s k id v at own id' v' ne at' q xs e (sym n)) ∙ o.due_is; inside = o.inside };
      first = (k.views id' v' at').first;
      other = (k.views id' v' at').other;
      busy = λ y b.
          let old = (k.views id' v' at').busy y b in
          let apart : y.slot ≢ slot = λ e. old.guarded (ap (slice_index s.words) e ∙ free) in
          record { inside = old.inside; mine = taker-else y.slot apart ∙ old.mine; guarded = λ z. old.guarded (sym (word-else y.slot apart) ∙ z); knows = old.knows; own = old.own };
    }

    more-due : (q j : ℕ) → k.holders.due q ≡ Some j → h'.due q ≡ Some j
    more-due q j e = due-else q (λ n. absurd (none-some j (sym ((mine m s k id v at own).due_is ∙ ap slot_of idle) ∙ (ap k.holders.due (sym n) ∙ e)))) ∙ e

    pub takes-kept : Kept m next_state
    takes-kept = record {
      narrow = k.narrow;
      made = k.made;
      table = k.table;
      holders = h';
      plays = plays-due k.holders.due h'.due k.made no_table k.table more-due k.plays;
      wide = length-set s.words slot 1 ∙ k.wide;
      words = λ n lt. word-else (guards + n) (λ e. absurd (let b = k.narrow in omega (arith, e, b, inside))) ∙ k.words n lt;
      slots = slots-are;
      views = λ id' v' e. ⊎_elim
          (λ t. subst (λ (z : ℕ). IsTrue m next_state k.made k.table h' z v') (sym t.0) (subst (λ (z : Told). IsTrue m next_state k.made k.table h' id z) t.1 own-true))
          (λ t. other-true id' v' t.0 t.1)
          (at_set s.views id id' w v' e);
      nothing_else = λ p h. ((k.nothing_else p h).0, due-else p (λ q. absurd (let l = (mine m s k id v at own).inside in omega (arith, q, l, h))) ∙ (k.nothing_else p h).1);
    }

  -- the slot is out: another swap on it is under way
  pub misses-kept : v.under_way ≡ None → slice_index s.words slot ≢ 0 → Kept m (record { words = s.words; homes = s.homes; views = slice_set s.views id (grown v (Missed slot ∷ [])) })
  misses-kept idle out =
      let old = (k.slots slot inside).1 out in
      let them = k.views (k.holders.taker slot) old.0 old.1 in
      let swap = under-way old.0.under_way slot old.2 in
      let taker = them.busy swap.0 swap.1 in
      let theirs = mine m s k (k.holders.taker slot) old.0 old.1 taker.own in
      let apart : k.holders.taker slot ≢ id = not-taker m s k id v at own idle slot old.0 old.1 old.2 in
      let due : IsDue k.holders.due [] home slot = record {
        list = k.holders.base (k.holders.taker slot);
        other = λ e. apart (sym theirs.owner ∙ (ap k.holders.owner e ∙ (mine m s k id v at own).owner));
        swaps = inr (refl, theirs.due_is ∙ old.2);
      } in
      grows m s k id v at own idle (Missed slot) s.words due (λ j. refl) refl (λ j lt. refl) (λ n lt. k.words n lt)

  -- the slot is given back
  module _ (y : Option Measure) (busy : v.under_way ≡ Some (swap-of slot y)) (put : Option Measure) (deep : length s.homes ≡ m.hkids) where
    abbrev x : Taken
    x = Swapped slot put y

    abbrev w' : Told
    w' = record (grown v (x ∷ [])) { under_way = None }

    abbrev t' : Table
    t' = record k.table { slots = with_slot k.table.slots slot put }

    abbrev g' : Holders
    g' = record k.holders { due = λ p. if p == home then None else k.holders.due p }

    abbrev next_state' : TableState
    next_state' = record { words = slice_set s.words slot 0; homes = slice_set s.homes slot (some put); views = slice_set s.views id w' }

    me : IsTaker m s k.table k.holders id v (swap-of slot y)
    me = (k.views id v at).busy (swap-of slot y) busy

    word-else' : (j : ℕ) → j ≢ slot → slice_index next_state'.words j ≡ slice_index s.words j
    word-else' j ne = get_or-set_other s.words slot j 0 0 ne

    word-here' : slice_index next_state'.words slot ≡ 0
    word-here' = get_or-set_same s.words slot 0 0 wide-enough

    slot-here : t'.slots slot ≡ put
    slot-here = rw (eq-eqb slot slot refl) refl

    slot-else : (j : ℕ) → j ≢ slot → t'.slots j ≡ k.table.slots j
    slot-else j ne = rw (ne_eqb j slot ne) refl

    due-here' : g'.due home ≡ None
    due-here' = rw (eq-eqb home home refl) refl

    due-else' : (p : ℕ) → p ≢ home → g'.due p ≡ k.holders.due p
    due-else' p ne = rw (ne_eqb p home ne) refl

    slots-are' : (j : ℕ) → j < m.hkids → IsSlot next_state' t' g' j
    slots-are' j lt = by (eqb_tells j slot)
      where
        by : (((j == slot) ≡ true) × (j ≡ slot)) ⊎ (((j == slot) ≡ false) × (j ≢ slot)) → IsSlot next_state' t' g' j
        by (inl t) = subst (IsSlot next_state' t' g') (sym t.1) (
          (λ z. set_here s.homes slot (some put) (subst (λ (n : ℕ). slot < n) (sym deep) inside) ∙ ap (λ (h : Option Measure). some (some h)) (sym slot-here)),
          (λ nz. absurd (nz word-here')),
        )
        by (inr f) = (
          (λ z. set_else s.homes slot j (some put) f.1 ∙ ((k.slots j lt).0 (sym (word-else' j f.1) ∙ z) ∙ ap (λ (h : Option Measure). some (some h)) (sym (slot-else j f.1)))),
          (λ nz.
              let old = (k.slots j lt).1 (λ z. nz (word-else' j f.1 ∙ z)) in
              let ne : k.holders.taker j ≢ id = λ e.
              let same : old.0 ≡ v = some-injective old.0 v (sym old.1 ∙ (ap (get_elem? s.views) e ∙ at)) in
              f.1 (some-same j slot (sym old.2 ∙ (ap (λ (z : Told). slot_of z.under_way) same ∙ ap slot_of busy))) in
              (old.0, set_else s.views id (k.holders.taker j) w' ne ∙ old.1, old.2)),
        )

    next : IsNext k.holders.due g'.due home x
    next = record {
      given = λ j e.
          let n : slot ≡ j = some-same slot j (sym ((mine m s k id v at own).due_is ∙ ap slot_of busy) ∙ e) in
          record { put = put; taken = y; further = []; is = ap (λ (i : ℕ). Swapped i put y ∷ []) n };
      others = due-else';
    }

    own-lists' : (q : ℕ) (xs : List Taken) → get_elem? w'.lists q ≡ some xs → IsList (k.made ++ made_by home x ∷ []) g' id (home + q) xs (due_at None q)
    own-lists' zero xs e = let o = lists-more m s k id v at own x 0 xs e in record { owner = o.owner; is = o.is; due_is = ap g'.due (omega arith) ∙ due-here'; inside = o.inside }
    own-lists' (suc q) xs e =
        let o = lists-more m s k id v at own x (suc q) xs e in
        record { owner = o.owner; is = o.is; due_is = due-else' (home + suc q) (λ n. absurd (omega (arith, n))) ∙ o.due_is; inside = o.inside }

    own-true' : IsTrue m next_state' (k.made ++ made_by home x ∷ []) t' g' id w'
    own-true' = record { lists = own-lists'; first = first-more m s k id v at own x; other = other-more m s k id v at own x; busy = λ z b. absurd (none-some z b) }

    other-true' : (id' : ℕ) (v' : Told) → id' ≢ id → get_elem? s.views id' ≡ some v' → IsTrue m next_state' (k.made ++ made_by home x ∷ []) t' g' id' v'
    other-true' id' v' ne at' = record {
      lists = λ q xs e.
          let o = lists-others m s k id v at own x id' v' ne at' q xs e in
          record { owner = o.owner; is = o.is; due_is = due-else' (k.holders.base id' + q) (λ n. others-list m s k id v at own id' v' ne at' q xs e (sym n)) ∙ o.due_is; inside = o.inside };
      first = (k.views id' v' at').first;
      other = (k.views id' v' at').other;
      busy = λ z b.
          let old = (k.views id' v' at').busy z b in
          let apart : z.slot ≢ slot = λ e. ne (sym old.mine ∙ (ap k.holders.taker e ∙ me.mine)) in
          record { inside = old.inside; mine = old.mine; guarded = λ n. old.guarded (sym (word-else' z.slot apart) ∙ n); knows = slot-else z.slot apart ∙ old.knows; own = old.own };
    }

    pub gives-kept : Kept m next_state'
    gives-kept = record {
      narrow = k.narrow;
      made = k.made ++ made_by home x ∷ [];
      table = t';
      holders = g';
      plays = plays-more k.holders.due g'.due k.made no_table k.table home x next k.plays (sym me.knows);
      wide = length-set s.words slot 0 ∙ k.wide;
      words = λ n lt. word-else' (guards + n) (λ e. absurd (let b = k.narrow in omega (arith, e, b, inside))) ∙ k.words n lt;
      slots = slots-are';
      views = λ id' v' e. ⊎_elim
          (λ t. subst (λ (z : ℕ). IsTrue m next_state' (k.made ++ made_by home x ∷ []) t' g' z v') (sym t.0) (subst (λ (z : Told). IsTrue m next_state' (k.made ++ made_by home x ∷ []) t' g' id z) t.1 own-true'))
          (λ t. other-true' id' v' t.0 t.1)
          (at_set s.views id id' w' v' e);
      nothing_else = λ p h. let f = nothing-more m s k id v at own x p h in (f.0, due-else' p (λ q. absurd (let l = (mine m s k id v at own).inside in omega (arith, q, l, h))) ∙ f.1);
    }

-- what a bench owes where it takes a slot
pub take-allowed : (b : SharedBench) (slot : ℕ) → slot < b.machine.hkids
    → (b.seat.table_id ≡ b.table.now.table_id) × (slot < b.table.now.table_id.words)
    × Allows (Kept b.table.now.key) b.table.now.table_id.slots b.seat.id b.seat.me slot (λ n. either (n == 0) 1 n) (took (step b.table.now.table_id.slots slot 0 1 none) b.seat.me)
take-allowed b slot inside = (b.at_table, (let a = b.wide in let c = b.few in omega (arith, a, c, inside)), allowed)
  where
    lt : slot < b.table.now.key.hkids
    lt = subst (λ (z : Machine). slot < z.hkids) (sym b.key) inside

    allowed : Allows (Kept b.table.now.key) b.table.now.table_id.slots b.seat.id b.seat.me slot (λ n. either (n == 0) 1 n) (took (step b.table.now.table_id.slots slot 0 1 none) b.seat.me)
    allowed s k len at small = by (eqb_tells (slice_index s.words slot) 0)
      where
        by : (((slice_index s.words slot == 0) ≡ true) × (slice_index s.words slot ≡ 0)) ⊎ (((slice_index s.words slot == 0) ≡ false) × (slice_index s.words slot ≢ 0))
            → (w : Told) × (a : Act (Option Measure)) × Valid s.homes b.seat.me.1 a
            × Kept b.table.now.key (stepped s slot (either (slice_index s.words slot == 0) 1 (slice_index s.words slot)) b.seat.id b.seat.me.1 w a)
            × took (step b.table.now.table_id.slots slot 0 1 none) b.seat.me (slice_index s.words slot) (w, carried_after b.seat.me.1 a)
        by (inl t) =
            let y = k.table.slots slot in
            let w = busy-with b.seat.me.0 slot y in (
              w,
              takes slot y,
              (k.slots slot lt).0 t.1,
              subst (λ (n : ℕ). Kept b.table.now.key (record { words = slice_set s.words slot n; homes = slice_set s.homes slot none; views = slice_set s.views b.seat.id w }))
                  (sym (ap (λ (c : Bool). either c 1 (slice_index s.words slot)) t.0)) (takes-kept b.table.now.key s k b.seat.id b.seat.me.0 at b.rest.own slot lt b.rest.idle t.1),
              ((λ e. (y, refl)), (λ ne. absurd (ne t.1))),
            )
        by (inr f) =
            let w = grown b.seat.me.0 (Missed slot ∷ []) in (
              w,
              keeps,
              tt,
              subst (λ (ws : List ℕ). Kept b.table.now.key (record { words = ws; homes = s.homes; views = slice_set s.views b.seat.id w }))
                  (sym (ap (λ (c : Bool). slice_set s.words slot (either c 1 (slice_index s.words slot))) f.0 ∙ set-get_or s.words slot 0)) (misses-kept b.table.now.key s k b.seat.id b.seat.me.0 at b.rest.own slot lt b.rest.idle f.1),
              ((λ e. absurd (f.1 e)), (λ ne. refl)),
            )

-- and where it gives it back
pub give-allowed : (m : Machine) (slots id : ℕ) (me : Seated) (slot : ℕ) → slot < m.hkids → slots ≡ m.hkids → 0 < length me.0.lists → (y : Option Measure) → me.0.under_way ≡ Some (swap-of slot y) → (put : Option Measure) (more : List (ℕ × Option Measure)) → me.1 ≡ (slot, put) ∷ more
    → Allows (Kept m) slots id me slot (λ _. 0) (λ _. gave (step slots slot 0 0 none) me 0)
give-allowed m slots id me slot inside deep own y busy put more held s k len at small =
    let w : Option Measure → Option Measure → Told = λ h z. record (grown me.0 (Swapped slot h z ∷ [])) { under_way = None } in (
      w (carried me.1) (taken_of me.0.under_way),
      gives,
      tt,
      subst (λ (z : List (ℕ × Option Measure)). Kept m (record { words = slice_set s.words slot 0; homes = put_back s.homes z; views = slice_set s.views id (w (carried z) (taken_of me.0.under_way)) })) (sym held)
          (subst (λ (z : Option Measure). Kept m (record { words = slice_set s.words slot 0; homes = slice_set s.homes slot (some put); views = slice_set s.views id (w put z) })) (sym (ap taken_of busy))
          (gives-kept m s k id me.0 at own slot inside y busy put (len ∙ deep))),
      refl,
    )

pub give-again : (b : SharedBench) (slot : ℕ) (put y : Option Measure) → slot < b.machine.hkids → (id : ℕ) (me : Seated) → me.0 ≡ busy-with b.seat.me.0 slot y → (more : List (ℕ × Option Measure)) → me.1 ≡ (slot, put) ∷ more
    → Allows (Kept b.table.now.key) b.table.now.table_id.slots id me slot (λ _. 0) (λ _. gave (step b.table.now.table_id.slots slot 0 0 none) me 0)
give-again b slot put y inside id me same more held =
    give-allowed b.table.now.key b.table.now.table_id.slots id me slot (subst (λ (z : Machine). slot < z.hkids) (sym b.key) inside) (b.deep ∙ ap (λ (z : Machine). z.hkids) (sym b.key))
    (subst (λ (z : Told). 0 < length z.lists) (sym same) b.rest.own) y (ap (λ (z : Told). z.under_way) same) put more held

pub after-give : (b : SharedBench) (slot : ℕ) (put y : Option Measure) (me me' : Seated) → me.0 ≡ busy-with b.seat.me.0 slot y → me.1 ≡ (slot, put) ∷ b.seat.me.1
    → me' ≡ (record (grown me.0 (Swapped slot (carried me.1) (taken_of me.0.under_way) ∷ [])) { under_way = None }, rest me.1) → me' ≡ (grown b.seat.me.0 (Swapped slot put y ∷ []), b.seat.me.1)
after-give b slot put y me me' same held is =
    is ∙ (ap {B = Seated} (λ (z : Told). (record (grown z (Swapped slot (carried me.1) (taken_of z.under_way) ∷ [])) { under_way = None }, rest me.1)) same
    ∙ (ap {B = Seated} (λ (z : List (ℕ × Option Measure)). (record (grown (busy-with b.seat.me.0 slot y) (Swapped slot (carried z) y ∷ [])) { under_way = None }, rest z)) held
    ∙ ap {B = Seated} (λ (h : Option Swap). (record (grown b.seat.me.0 (Swapped slot put y ∷ [])) { under_way = h }, b.seat.me.1)) (sym b.rest.idle)))
