-- A step on a word keeps the rule of the table.
use Rattle.std.proofs.Common.{◌≡◌, ◌≢◌, ◌⊎◌, inl, inr, ⊎_elim, refl, sym, ◌∙◌, ap, subst, ℕ, ◌+◌, ◌-◌, ◌%◌, ◌^◌, ◌<◌, ◌≤◌, ◌==◌, if◌then◌else◌, true, false, Bool, List, [], ◌∷◌, ◌++◌, length, Option, Some, None, arith, slice_index, slice_set}
use Rattle.std.proofs.lemmas.Bool.{ne_eqb, eq-eqb}
use Rattle.std.proofs.lemmas.Bool.Decides.{eqb_tells}
use Rattle.std.proofs.lemmas.List.{get_or-set_other}
use Rattle.std.proofs.lemmas.Grind.{get_or-set_at}
use Rattle.std.proofs.Math.ListN.{length-set}
use mathlib.Core.Option.{some, none, some-injective}
use lib.ListN.{get_elem?}
use prog.Atomic.{either}
use Rattle.atomic_table.specs.Table.{State, Me, Step, Act, keeps, Allows}
use Rattle.atomic_table.specs.declared.shared.Seat.{Seat}
use Rattle.atomic_table.proofs.Lists.{at_set, set_else}
use Rattle.td_words.specs.declared.machines.Machine.{Machine}
use Rattle.mrtd_measure.specs.declared.measures.Measure.{Measure}
use Rattle.step_core.specs.Words.{Words, word_count, address_of, answer_of, after_step}
use Rattle.step_core.specs.Items.{Table}
use Rattle.step_core.specs.declared.steps.WordStep.{WordStep}
use Rattle.step_core.specs.declared.steps.WordStep.TheVariants.{Load, Store, Add, Sub, Exchange}
use Rattle.step_core.specs.declared.items.Taken.{Taken}
use Rattle.step_core.specs.declared.items.Taken.TheVariants.{Stepped}
use Rattle.trace_table.specs.declared.told.Told.{Told}
use Rattle.trace_table.specs.declared.benches.SharedBench.{SharedBench}
use Rattle.trace_table.specs.Merges.{Made, part, taken_after, no_table}
use Rattle.trace_table.specs.Views.{guards, grown, grown_in, IsAtRest}
use Rattle.trace_table.specs.Kept.{Fits, TableState, IsSlot, IsList, IsTrue, Kept, slot_of, due_at}
use Rattle.trace_table.specs.Tells.{Seated, loaded, stored, added, taken_off, exchanged}
use Rattle.trace_table.proofs.Merging.{made_by, part-own, part-other, plays-more}
use Rattle.trace_table.proofs.Lists.{none-some, own_of, own-there, grown-length, grown-there}

after-elsewhere : (w : Words) (s : WordStep) (n : ℕ) → n ≢ address_of s → after_step w s n ≡ w n
after-elsewhere w (Load at) n ne = refl
after-elsewhere w (Store at v) n ne = rw (ne_eqb n at ne) refl
after-elsewhere w (Add at v) n ne = rw (ne_eqb n at ne) refl
after-elsewhere w (Sub at v) n ne = rw (ne_eqb n at ne) refl
after-elsewhere w (Exchange at old new) n ne = rw (ne_eqb n at ne) refl

module _ (m : Machine) (s : TableState) (k : Kept m s) (id : ℕ) (v : Told) (at : get_elem? s.views id ≡ some v) (own : 0 < length v.lists) where
  -- the number of the seat's own list
  abbrev pub here : ℕ
  here = k.holders.base id

  pub mine : IsList k.made k.holders id here (own_of v.lists) (slot_of v.under_way)
  mine = subst (λ (p : ℕ). IsList k.made k.holders id p (own_of v.lists) (slot_of v.under_way)) (omega arith) ((k.views id v at).lists 0 (own_of v.lists) (own-there v.lists own))

  -- no other seat's list has that number
  pub others-list : (id' : ℕ) (v' : Told) → id' ≢ id → get_elem? s.views id' ≡ some v' → (q : ℕ) (xs : List Taken) → get_elem? v'.lists q ≡ some xs → here ≢ k.holders.base id' + q
  others-list id' v' ne at' q xs e n = ne (sym ((k.views id' v' at').lists q xs e).owner ∙ (ap k.holders.owner (sym n) ∙ mine.owner))

  -- who has a slot out is another seat, where this one has none
  pub not-taker : v.under_way ≡ None → (j : ℕ) (u : Told) → get_elem? s.views (k.holders.taker j) ≡ some u → slot_of u.under_way ≡ Some j → k.holders.taker j ≢ id
  not-taker idle j u there busy e =
      let same : u ≡ v = some-injective u v (sym there ∙ (ap (get_elem? s.views) e ∙ at)) in
      absurd (none-some j (sym (ap slot_of idle) ∙ (sym (ap (λ (z : Told). slot_of z.under_way) same) ∙ busy)))

  -- what the lists are when this seat's own has an item more
  pub lists-more : (x : Taken) (q : ℕ) (xs : List Taken) → get_elem? (grown_in v.lists (x ∷ [])) q ≡ some xs → IsList (k.made ++ made_by here x ∷ []) k.holders id (here + q) xs (due_at v.under_way q)
  lists-more x q xs e = ⊎_elim first further (grown-there v.lists (x ∷ []) q xs e)
    where
      first : (q ≡ 0) × (own_of v.lists ++ x ∷ [] ≡ xs) → IsList (k.made ++ made_by here x ∷ []) k.holders id (here + q) xs (due_at v.under_way q)
      first t =
          let at-here : here ≡ here + q = (let z = t.0 in omega (arith, z)) in
          subst (λ (p : ℕ). IsList (k.made ++ made_by here x ∷ []) k.holders id p xs (due_at v.under_way q)) at-here
          (record { owner = mine.owner; is = part-own here k.made x ∙ (ap (λ (zs : List Taken). zs ++ x ∷ []) mine.is ∙ t.1); due_is = mine.due_is ∙ ap (due_at v.under_way) (sym t.0); inside = mine.inside })

      further : (q ≢ 0) × (get_elem? v.lists q ≡ some xs) → IsList (k.made ++ made_by here x ∷ []) k.holders id (here + q) xs (due_at v.under_way q)
      further t =
          let o = (k.views id v at).lists q xs t.1 in
          record { owner = o.owner; is = part-other here (here + q) k.made x (λ n. t.0 (omega (arith, n))) ∙ o.is; due_is = o.due_is; inside = o.inside }

  pub lists-others : (x : Taken) (id' : ℕ) (v' : Told) → id' ≢ id → get_elem? s.views id' ≡ some v' → (q : ℕ) (xs : List Taken) → get_elem? v'.lists q ≡ some xs
      → IsList (k.made ++ made_by here x ∷ []) k.holders id' (k.holders.base id' + q) xs (due_at v'.under_way q)
  lists-others x id' v' ne at' q xs e =
      let o = (k.views id' v' at').lists q xs e in
      record { owner = o.owner; is = part-other here (k.holders.base id' + q) k.made x (others-list id' v' ne at' q xs e) ∙ o.is; due_is = o.due_is; inside = o.inside }

  pub nothing-more : (x : Taken) (p : ℕ) → k.holders.total ≤ p → (part p (k.made ++ made_by here x ∷ []) ≡ []) × (k.holders.due p ≡ None)
  nothing-more x p h = (part-other here p k.made x (λ q. absurd (let l = mine.inside in omega (arith, q, l, h))) ∙ (k.nothing_else p h).0, (k.nothing_else p h).1)

  -- what else the seat knows doesn't depend on how long its own list is
  pub first-more : (x : Taken) → v.first ≡ true → (k.holders.base id ≡ 0) × (k.holders.kept ≡ length (grown_in v.lists (x ∷ []))) × (k.holders.total ≡ length (grown_in v.lists (x ∷ [])) + v.out)
  first-more x e = let f = (k.views id v at).first e in (f.0, f.1 ∙ sym (grown-length v.lists (x ∷ [])), f.2 ∙ ap (λ (n : ℕ). n + v.out) (sym (grown-length v.lists (x ∷ []))))

  pub other-more : (x : Taken) → v.first ≡ false → (length (grown_in v.lists (x ∷ [])) ≤ 1) × (0 < length (grown_in v.lists (x ∷ [])) → k.holders.kept ≤ k.holders.base id)
  other-more x e = let f = (k.views id v at).other e in (subst (λ (n : ℕ). n ≤ 1) (sym (grown-length v.lists (x ∷ []))) f.0, (λ h. f.1 own))

  -- an item that takes no slot
  pub grows : v.under_way ≡ None → (x : Taken) (ws : List ℕ) → Fits k.holders.due [] k.table here x → ((j : ℕ) → (taken_after k.table x).slots j ≡ k.table.slots j) → length ws ≡ length s.words
      → ((j : ℕ) → j < m.hkids → slice_index ws j ≡ slice_index s.words j) → ((n : ℕ) → n < word_count m → slice_index ws (guards + n) ≡ (taken_after k.table x).words n)
      → Kept m (record { words = ws; homes = s.homes; views = slice_set s.views id (grown v (x ∷ [])) })
  grows idle x ws fits slots' len guards' words' = record {
    narrow = k.narrow;
    made = made';
    table = t';
    holders = k.holders;
    plays = plays-more k.holders.due k.holders.due k.made no_table k.table here x (record { given = λ j e. absurd (none-some j (sym (mine.due_is ∙ ap slot_of idle) ∙ e)); others = λ q ne. refl }) k.plays fits;
    wide = len ∙ k.wide;
    words = words';
    slots = slots-are;
    views = views-are;
    nothing_else = nothing-more x;
  }
    where
      made' : List Made
      made' = k.made ++ made_by here x ∷ []

      t' : Table
      t' = taken_after k.table x

      w : Told
      w = grown v (x ∷ [])

      next_state : TableState
      next_state = record { words = ws; homes = s.homes; views = slice_set s.views id w }

      slots-are : (j : ℕ) → j < m.hkids → IsSlot next_state t' k.holders j
      slots-are j lt = (
        (λ z. subst (λ (y : Option Measure). get_elem? s.homes j ≡ some (some y)) (sym (slots' j)) ((k.slots j lt).0 (sym (guards' j lt) ∙ z))),
        (λ nz.
            let old = (k.slots j lt).1 (λ z. nz (guards' j lt ∙ z)) in
            (old.0, set_else s.views id (k.holders.taker j) w (not-taker idle j old.0 old.1 old.2) ∙ old.1, old.2)),
      )

      own-true : IsTrue m next_state made' t' k.holders id w
      own-true = record { lists = lists-more x; first = first-more x; other = other-more x; busy = λ y e. absurd (none-some y (sym idle ∙ e)) }

      other-true : (id' : ℕ) (v' : Told) → id' ≢ id → get_elem? s.views id' ≡ some v' → IsTrue m next_state made' t' k.holders id' v'
      other-true id' v' ne at' = record {
        lists = lists-others x id' v' ne at';
        first = (k.views id' v' at').first;
        other = (k.views id' v' at').other;
        busy = λ y b.
            let old = (k.views id' v' at').busy y b in
            record {
              inside = old.inside;
              mine = old.mine;
              guarded = λ z. old.guarded (sym (guards' y.slot old.inside) ∙ z);
              knows = slots' y.slot ∙ old.knows;
              own = old.own;
            };
      }

      views-are : (id' : ℕ) (v' : Told) → get_elem? (slice_set s.views id w) id' ≡ some v' → IsTrue m next_state made' t' k.holders id' v'
      views-are id' v' e = ⊎_elim
          (λ t. subst (λ (z : ℕ). IsTrue m next_state made' t' k.holders z v') (sym t.0) (subst (λ (z : Told). IsTrue m next_state made' t' k.holders id z) t.1 own-true))
          (λ t. other-true id' v' t.0 t.1)
          (at_set s.views id id' w v' e)

  pub word-grows : v.under_way ≡ None → (n : ℕ) → n < word_count m → (st : WordStep) → address_of st ≡ n → (x : ℕ) → x ≡ after_step k.table.words st n → (answer : ℕ) → answer ≡ answer_of k.table.words st
      → Kept m (record { words = slice_set s.words (guards + n) x; homes = s.homes; views = slice_set s.views id (grown v (Stepped st answer ∷ [])) })
  word-grows idle n lt st adr x is answer ans =
      grows idle (Stepped st answer) (slice_set s.words (guards + n) x) ans (λ j. refl) (length-set s.words (guards + n) x)
      (λ j small. get_or-set_other s.words (guards + n) j x 0 (λ e. absurd (let h = k.narrow in omega (arith, e, h, small)))) words-are
    where
      words-are : (n' : ℕ) → n' < word_count m → slice_index (slice_set s.words (guards + n) x) (guards + n') ≡ after_step k.table.words st n'
      words-are n' lt' = by (eqb_tells n' n)
        where
          by : (((n' == n) ≡ true) × (n' ≡ n)) ⊎ (((n' == n) ≡ false) × (n' ≢ n)) → slice_index (slice_set s.words (guards + n) x) (guards + n') ≡ after_step k.table.words st n'
          by (inl t) = get_or-set_at s.words (guards + n) (guards + n') x 0 (ap (λ (z : ℕ). guards + z) t.1) (let h = k.wide in omega (arith, h, lt)) ∙ (is ∙ ap (after_step k.table.words st) (sym t.1))
          by (inr f) = get_or-set_other s.words (guards + n) (guards + n') x 0 (λ e. f.1 (omega (arith, e))) ∙ (k.words n' lt' ∙ sym (after-elsewhere k.table.words st n' (λ e. f.1 (e ∙ adr))))

-- a step on a word is allowed
pub word-allowed : (m : Machine) (slots id : ℕ) (me : Seated) (n : ℕ) → n < word_count m → (st : WordStep) → address_of st ≡ n → (f answer : ℕ → ℕ) → ((w : Words) → f (w n) ≡ after_step w st n) → ((w : Words) → answer (w n) ≡ answer_of w st)
    → 0 < length me.0.lists → me.0.under_way ≡ None → (tells : ℕ → Seated → Type 0) → ((found : ℕ) → tells found (grown me.0 (Stepped st (answer found) ∷ []), me.1)) → Allows (Kept m) slots id me (guards + n) f tells
word-allowed m slots id me n lt st adr f answer becomes answers own idle tells told s k len at small =
    let found : ℕ = slice_index s.words (guards + n) in (
      grown me.0 (Stepped st (answer found) ∷ []),
      keeps,
      tt,
      word-grows m s k id me.0 at own idle n lt st adr (f found) (ap f (k.words n lt) ∙ becomes k.table.words) (answer found) (ap answer (k.words n lt) ∙ answers k.table.words),
      told found,
    )

minus : (n : ℕ) → n ≡ guards + n - guards
minus n = omega arith

-- what a bench owes at a step on a word
pub perform-allowed : (b : SharedBench) (step st : WordStep) (n : ℕ) → step ≡ st → address_of st ≡ n → address_of step < word_count b.machine → (f answer : ℕ → ℕ) → ((w : Words) → f (w n) ≡ after_step w st n) → ((w : Words) → answer (w n) ≡ answer_of w st)
    → (tells : ℕ → Seated → Type 0) → ((found : ℕ) → tells found (grown b.seat.me.0 (Stepped st (answer found) ∷ []), b.seat.me.1))
    → (b.seat.table_id ≡ b.table.now.table_id) × (guards + n < b.table.now.table_id.words) × Allows (Kept b.table.now.key) b.table.now.table_id.slots b.seat.id b.seat.me (guards + n) f tells
perform-allowed b step st n is adr inside f answer becomes answers tells told =
    let lt : n < word_count b.machine = subst (λ (z : ℕ). z < word_count b.machine) (ap address_of is ∙ adr) inside in (
      b.at_table,
      (let h = b.wide in omega (arith, h, lt)),
      word-allowed b.table.now.key b.table.now.table_id.slots b.seat.id b.seat.me n (subst (λ (z : Machine). n < word_count z) (sym b.key) lt) st adr f answer becomes answers b.rest.own b.rest.idle tells told,
    )

if-either : (b : Bool) (x y : ℕ) → either b x y ≡ (if b then x else y)
if-either true x y = refl
if-either false x y = refl

pub load-allowed : (b : SharedBench) (step : WordStep) (n slots : ℕ) → step ≡ Load n → address_of step < word_count b.machine
    → (b.seat.table_id ≡ b.table.now.table_id) × (guards + n < b.table.now.table_id.words)
    × Allows (Kept b.table.now.key) b.table.now.table_id.slots b.seat.id b.seat.me (guards + n) (λ x. x) (loaded (Rattle.atomic_table.specs.Table.step slots (guards + n) 0 0 none) b.seat.me)
load-allowed b step n slots is inside =
    perform-allowed b step (Load n) n is refl inside (λ x. x) (λ x. x) (λ w. refl) (λ w. refl) (loaded (Rattle.atomic_table.specs.Table.step slots (guards + n) 0 0 none) b.seat.me)
    (λ found. ap {B = Seated} (λ (z : ℕ). (grown b.seat.me.0 (Stepped (Load z) found ∷ []), b.seat.me.1)) (minus n))

pub store-allowed : (b : SharedBench) (step : WordStep) (n v slots : ℕ) → step ≡ Store n v → address_of step < word_count b.machine
    → (b.seat.table_id ≡ b.table.now.table_id) × (guards + n < b.table.now.table_id.words)
    × Allows (Kept b.table.now.key) b.table.now.table_id.slots b.seat.id b.seat.me (guards + n) (λ x. v) (λ x. stored (Rattle.atomic_table.specs.Table.step slots (guards + n) v 0 none) b.seat.me v)
store-allowed b step n v slots is inside =
    perform-allowed b step (Store n v) n is refl inside (λ x. v) (λ x. 0) (λ w. rw (eq-eqb n n refl) refl) (λ w. refl) (λ x. stored (Rattle.atomic_table.specs.Table.step slots (guards + n) v 0 none) b.seat.me v)
    (λ found. ap {B = Seated} (λ (z : ℕ). (grown b.seat.me.0 (Stepped (Store z v) 0 ∷ []), b.seat.me.1)) (minus n))

pub add-allowed : (b : SharedBench) (step : WordStep) (n v slots : ℕ) → step ≡ Add n v → address_of step < word_count b.machine
    → (b.seat.table_id ≡ b.table.now.table_id) × (guards + n < b.table.now.table_id.words)
    × Allows (Kept b.table.now.key) b.table.now.table_id.slots b.seat.id b.seat.me (guards + n) (λ x. (x + v) % 2 ^ 64) (added (Rattle.atomic_table.specs.Table.step slots (guards + n) v 0 none) b.seat.me)
add-allowed b step n v slots is inside =
    perform-allowed b step (Add n v) n is refl inside (λ x. (x + v) % 2 ^ 64) (λ x. x) (λ w. rw (eq-eqb n n refl) refl) (λ w. refl) (added (Rattle.atomic_table.specs.Table.step slots (guards + n) v 0 none) b.seat.me)
    (λ found. ap {B = Seated} (λ (z : ℕ). (grown b.seat.me.0 (Stepped (Add z v) found ∷ []), b.seat.me.1)) (minus n))

pub sub-allowed : (b : SharedBench) (step : WordStep) (n v slots : ℕ) → step ≡ Sub n v → address_of step < word_count b.machine
    → (b.seat.table_id ≡ b.table.now.table_id) × (guards + n < b.table.now.table_id.words)
    × Allows (Kept b.table.now.key) b.table.now.table_id.slots b.seat.id b.seat.me (guards + n) (λ x. (x + (2 ^ 64 - v)) % 2 ^ 64) (taken_off (Rattle.atomic_table.specs.Table.step slots (guards + n) v 0 none) b.seat.me)
sub-allowed b step n v slots is inside =
    perform-allowed b step (Sub n v) n is refl inside (λ x. (x + (2 ^ 64 - v)) % 2 ^ 64) (λ x. x) (λ w. rw (eq-eqb n n refl) refl) (λ w. refl) (taken_off (Rattle.atomic_table.specs.Table.step slots (guards + n) v 0 none) b.seat.me)
    (λ found. ap {B = Seated} (λ (z : ℕ). (grown b.seat.me.0 (Stepped (Sub z v) found ∷ []), b.seat.me.1)) (minus n))

pub exchange-allowed : (b : SharedBench) (step : WordStep) (n old new slots : ℕ) → step ≡ Exchange n old new → address_of step < word_count b.machine
    → (b.seat.table_id ≡ b.table.now.table_id) × (guards + n < b.table.now.table_id.words)
    × Allows (Kept b.table.now.key) b.table.now.table_id.slots b.seat.id b.seat.me (guards + n) (λ x. either (x == old) new x) (exchanged (Rattle.atomic_table.specs.Table.step slots (guards + n) old new none) b.seat.me)
exchange-allowed b step n old new slots is inside =
    perform-allowed b step (Exchange n old new) n is refl inside (λ x. either (x == old) new x) (λ x. x) (λ w. rw (eq-eqb n n refl) (if-either (w n == old) new (w n))) (λ w. refl) (exchanged (Rattle.atomic_table.specs.Table.step slots (guards + n) old new none) b.seat.me)
    (λ found. ap {B = Seated} (λ (z : ℕ). (grown b.seat.me.0 (Stepped (Exchange z old new) found ∷ []), b.seat.me.1)) (minus n))

-- a seat whose own list has an item more is at rest as before
pub rests : (s s' : Seat (Option Measure) Told) (x : Taken) → IsAtRest s → s'.me ≡ (grown s.me.0 (x ∷ []), s.me.1) → IsAtRest s'
rests s s' x r is = record {
  holds_none = ap (λ (z : Seated). z.1) is ∙ r.holds_none;
  idle = ap (λ (z : Seated). z.0.under_way) is ∙ r.idle;
  own = subst (λ (n : ℕ). 0 < n) (sym (ap (λ (z : Seated). length z.0.lists) is ∙ grown-length s.me.0.lists (x ∷ []))) r.own;
  alone = λ e.
      let a = r.alone (sym (ap (λ (z : Seated). z.0.first) is) ∙ e) in
      (ap (λ (z : Seated). length z.0.lists) is ∙ (grown-length s.me.0.lists (x ∷ []) ∙ a.0), ap (λ (z : Seated). z.0.out) is ∙ a.1);
}
