-- Where the lists of items that processors took merge, so do the lists of their pieces.
use Rattle.std.proofs.Common.{◌≡◌, ◌≢◌, ◌⊎◌, inl, inr, refl, sym, ◌∙◌, ap, subst, ℕ, zero, suc, ◌<◌, ◌≤◌, ◌==◌, if◌then◌else◌, true, false, Bool, List, [], ◌∷◌, ◌++◌, arith, append-nil, append_assoc}
use Rattle.std.proofs.lemmas.Bool.{ne_eqb, eq-eqb}
use Rattle.std.proofs.lemmas.Bool.Decides.{eqb_tells}
use Rattle.flat_core.specs.World.{put}
use Rattle.step_core.specs.Items.{Table}
use Rattle.step_core.specs.declared.items.Taken.{Taken}
use Rattle.step_core.specs.declared.items.Taken.TheVariants.{Stepped, Swapped, Missed}
use Rattle.leaf_engine.specs.OwnLists.{Piece, Unmarked, Marked, Wordless, taken_in}
use Rattle.leaf_engine.specs.Merges.{Item, part, IsMerge}
use Rattle.trace_table.specs.Merges as lists
use Rattle.merge_laws.specs.Merge.{BeginsInSwap, TakenFits, PieceFits, taken_after, table_after, MergePlays}

-- the pieces without a word step in front, and those behind
abbrev wordless : List Piece → List Piece
wordless [] = []
wordless (Wordless ∷ ps) = Wordless ∷ wordless ps
wordless (Unmarked x ∷ ps) = []
wordless (Marked x ∷ ps) = []

abbrev beyond : List Piece → List Piece
beyond [] = []
beyond (Wordless ∷ ps) = beyond ps
beyond (Unmarked x ∷ ps) = Unmarked x ∷ ps
beyond (Marked x ∷ ps) = Marked x ∷ ps

whole : (ps : List Piece) → wordless ps ++ beyond ps ≡ ps
whole [] = refl
whole (Wordless ∷ ps) = ap (λ (zs : List Piece). Wordless ∷ zs) (whole ps)
whole (Unmarked x ∷ ps) = refl
whole (Marked x ∷ ps) = refl

taken-beyond : (ps : List Piece) → taken_in (beyond ps) ≡ taken_in ps
taken-beyond [] = refl
taken-beyond (Wordless ∷ ps) = taken-beyond ps
taken-beyond (Unmarked x ∷ ps) = refl
taken-beyond (Marked x ∷ ps) = refl

-- no piece without a word step in front
abbrev IsSettled : List Piece → Type 0
IsSettled [] = Unit {0}
IsSettled (Wordless ∷ ps) = ⊥
IsSettled (Unmarked x ∷ ps) = Unit {0}
IsSettled (Marked x ∷ ps) = Unit {0}

settled : (ps : List Piece) → IsSettled (beyond ps)
settled [] = tt
settled (Wordless ∷ ps) = settled ps
settled (Unmarked x ∷ ps) = tt
settled (Marked x ∷ ps) = tt

nothing-left : (ps : List Piece) → IsSettled ps → taken_in ps ≡ [] → ps ≡ []
nothing-left [] s e = refl
nothing-left (Wordless ∷ ps) s e = absurd s
nothing-left (Unmarked x ∷ ps) s e = cc
nothing-left (Marked x ∷ ps) s e = cc

-- items of one processor
abbrev made_by : ℕ → List Piece → List Item
made_by p [] = []
made_by p (x ∷ xs) = record { lp = p; piece = x } ∷ made_by p xs

part-append : (q : ℕ) (is js : List Item) → part q (is ++ js) ≡ part q is ++ part q js
part-append q [] js = refl
part-append q (i ∷ is) js = by (i.lp == q) (part-append q is js)
  where
    by : (b : Bool) → part q (is ++ js) ≡ part q is ++ part q js → (if b then i.piece ∷ part q (is ++ js) else part q (is ++ js)) ≡ (if b then i.piece ∷ part q is else part q is) ++ part q js
    by true e = ap (λ zs. i.piece ∷ zs) e
    by false e = e

part-own : (p : ℕ) (xs : List Piece) → part p (made_by p xs) ≡ xs
part-own p [] = refl
part-own p (x ∷ xs) = rw (eq-eqb p p refl) (ap (λ zs. x ∷ zs) (part-own p xs))

part-other : (p q : ℕ) (xs : List Piece) → p ≢ q → part q (made_by p xs) ≡ []
part-other p q [] ne = refl
part-other p q (x ∷ xs) ne = rw (ne_eqb p q ne) (part-other p q xs ne)

-- pieces without word steps change nothing
wordless-plays : (p : ℕ) (ps : List Piece) (is : List Item) (t u : Table) → MergePlays t is u → MergePlays t (made_by p (wordless ps) ++ is) u
wordless-plays p [] is t u h = h
wordless-plays p (Wordless ∷ ps) is t u h = (tt, wordless-plays p ps is t u h)
wordless-plays p (Unmarked x ∷ ps) is t u h = h
wordless-plays p (Marked x ∷ ps) is t u h = h

-- a swap that is the first item is the first piece
begins : (k : ℕ) (ps : List Piece) → IsSettled ps → lists.BeginsInSwap k (taken_in ps) → BeginsInSwap k ps
begins k [] s h = (let e = h.is in cc)
begins k (Wordless ∷ ps) s h = absurd s
begins k (Unmarked (Stepped w a) ∷ ps) s h = (let e = h.is in cc)
begins k (Unmarked (Missed j) ∷ ps) s h = (let e = h.is in cc)
begins k (Unmarked (Swapped j p y) ∷ ps) s h = record { put = p; taken = y; further = ps; is = inl (let e : j ≡ k = (let q = h.is in cc) in ap (λ (i : ℕ). Unmarked (Swapped i p y) ∷ ps) e) }
begins k (Marked (Stepped w a) ∷ ps) s h = (let e = h.is in cc)
begins k (Marked (Missed j) ∷ ps) s h = (let e = h.is in cc)
begins k (Marked (Swapped j p y) ∷ ps) s h = record { put = p; taken = y; further = ps; is = inr (let e : j ≡ k = (let q = h.is in cc) in ap (λ (i : ℕ). Marked (Swapped i p y) ∷ ps) e) }

part-here : (m : lists.Made) (ms : List lists.Made) → lists.part m.list (m ∷ ms) ≡ m.taken ∷ lists.part m.list ms
part-here m ms = rw (eq-eqb m.list m.list refl) refl

part-there : (m : lists.Made) (ms : List lists.Made) (q : ℕ) → m.list ≢ q → lists.part q (m ∷ ms) ≡ lists.part q ms
part-there m ms q ne = rw (ne_eqb m.list q ne) refl

put-own : {A : Type 0} (f : ℕ → A) (p q : ℕ) (x : A) → q ≡ p → put f p x q ≡ x
put-own f p q x e = rw (eq-eqb q p e) refl

put-other : {A : Type 0} (f : ℕ → A) (p q : ℕ) (x : A) → q ≢ p → put f p x q ≡ f q
put-other f p q x ne = rw (ne_eqb q p ne) refl

same-table : (t : Table) (x : Taken) → lists.taken_after t x ≡ taken_after t x
same-table t (Stepped s a) = refl
same-table t (Swapped k put taken) = refl
same-table t (Missed k) = refl

pub record Lifted (n : ℕ) (own : ℕ → List Piece) (t u : Table) : Type 0 where
  pub is : List Item
  pub merge : IsMerge n own is
  pub plays : MergePlays t is u

-- the numbers of the processors' lists
module _ (n : ℕ) (number : ℕ → ℕ) (apart : (p q : ℕ) → p < n → q < n → number p ≡ number q → p ≡ q) where
  -- the processor of a list, among the first
  whose : (m k : ℕ) → ((p : ℕ) × ((p < m) × (number p ≡ k))) ⊎ ((p : ℕ) → p < m → number p ≢ k)
  whose zero k = inr (λ p lt. absurd (omega (arith, lt)))
  whose (suc m) k = by (eqb_tells (number m) k) (whose m k)
    where
      by : (((number m == k) ≡ true) × (number m ≡ k)) ⊎ (((number m == k) ≡ false) × (number m ≢ k)) → ((p : ℕ) × ((p < m) × (number p ≡ k))) ⊎ ((p : ℕ) → p < m → number p ≢ k)
          → ((p : ℕ) × ((p < suc m) × (number p ≡ k))) ⊎ ((p : ℕ) → p < suc m → number p ≢ k)
      by (inl t) r = inl (m, (omega arith, t.1))
      by (inr f) (inl r) = inl (r.0, (let lt = r.1.0 in omega (arith, lt), r.1.1))
      by (inr f) (inr g) = inr (λ p lt. at p lt (eqb_tells p m))
        where
          at : (p : ℕ) → p < suc m → (((p == m) ≡ true) × (p ≡ m)) ⊎ (((p == m) ≡ false) × (p ≢ m)) → number p ≢ k
          at p lt (inl t) = subst (λ (z : ℕ). number z ≢ k) (sym t.1) f.1
          at p lt (inr h) = g p (let ne = h.1 in omega (arith, lt, ne))

  -- how far it is: what is left of each processor's pieces has the items that are left of its list
  record Fits (left : ℕ → List Piece) (made : List lists.Made) : Type 0 where
    each : (p : ℕ) → p < n → lists.part (number p) made ≡ taken_in (left p)
    none : (k : ℕ) → ((p : ℕ) → p < n → number p ≢ k) → lists.part k made ≡ []
    all_settled : (p : ℕ) → IsSettled (left p)

  -- the first piece of a processor, and those without a word step behind it, are put in front
  module _ (left : ℕ → List Piece) (m : lists.Made) (ms : List lists.Made) (fits : Fits left (m ∷ ms)) (p : ℕ) (inside : p < n) (here : number p ≡ m.list) (piece : Piece) (x : Taken) (further : List Piece)
      (is-left : left p ≡ piece ∷ further) (taken-as : taken_in (piece ∷ further) ≡ x ∷ taken_in further) where
    abbrev left' : ℕ → List Piece
    left' = put left p (beyond further)

    both-taken : m.taken ∷ lists.part m.list ms ≡ x ∷ taken_in further
    both-taken = sym (part-here m ms) ∙ (ap (λ (z : ℕ). lists.part z (m ∷ ms)) (sym here) ∙ (fits.each p inside ∙ (ap taken_in is-left ∙ taken-as)))

    taken-is : m.taken ≡ x
    taken-is = (let e = both-taken in cc)

    rest-is : lists.part m.list ms ≡ taken_in further
    rest-is = (let e = both-taken in cc)

    fits' : Fits left' ms
    fits' = record {
      each = λ q lt. by-each q lt (eqb_tells q p);
      none = λ k out. sym (part-there m ms k (λ e. out p inside (here ∙ e))) ∙ fits.none k out;
      all_settled = λ q. by-settled q (eqb_tells q p);
    }
      where
        by-each : (q : ℕ) → q < n → (((q == p) ≡ true) × (q ≡ p)) ⊎ (((q == p) ≡ false) × (q ≢ p)) → lists.part (number q) ms ≡ taken_in (left' q)
        by-each q lt (inl t) = ap (λ (z : ℕ). lists.part z ms) (ap number t.1 ∙ here) ∙ (rest-is ∙ (sym (taken-beyond further) ∙ ap taken_in (sym (put-own left p q (beyond further) t.1))))
        by-each q lt (inr f) = sym (part-there m ms (number q) (λ e. f.1 (sym (apart p q inside lt (here ∙ e))))) ∙ (fits.each q lt ∙ ap taken_in (sym (put-other left p q (beyond further) f.1)))

        by-settled : (q : ℕ) → (((q == p) ≡ true) × (q ≡ p)) ⊎ (((q == p) ≡ false) × (q ≢ p)) → IsSettled (left' q)
        by-settled q (inl t) = subst IsSettled (sym (put-own left p q (beyond further) t.1)) (settled further)
        by-settled q (inr f) = subst IsSettled (sym (put-other left p q (beyond further) f.1)) (fits.all_settled q)

    module _ (t u : Table) (fit : lists.TakenFits ms t m.list m.taken) (rest : Lifted n left' (lists.taken_after t m.taken) u) where
      abbrev behind : List Item
      behind = made_by p (wordless further) ++ rest.is

      behind-other : (q : ℕ) → q ≢ p → part q behind ≡ part q rest.is
      behind-other q ne = part-append q (made_by p (wordless further)) rest.is ∙ ap (λ (zs : List Piece). zs ++ part q rest.is) (part-other p q (wordless further) (λ e. ne (sym e)))

      taken-fits : (y : Taken) → lists.TakenFits ms t m.list y → TakenFits behind t p y
      taken-fits (Stepped s a) g = g
      taken-fits (Swapped k put taken) g = g
      taken-fits (Missed k) g = by (whose n g.list)
        where
          there : lists.part g.list (m ∷ ms) ≡ lists.part g.list ms
          there = part-there m ms g.list (λ e. g.other (sym e))

          by : ((q : ℕ) × ((q < n) × (number q ≡ g.list))) ⊎ ((q : ℕ) → q < n → number q ≢ g.list) → TakenFits behind t p (Missed k)
          by (inl w) =
              let q : ℕ = w.0 in
              let ne : q ≢ p = λ e. g.other (sym w.1.1 ∙ (ap number e ∙ here)) in
              let same : lists.part g.list ms ≡ taken_in (left q) = sym there ∙ (ap (λ (z : ℕ). lists.part z (m ∷ ms)) (sym w.1.1) ∙ fits.each q w.1.0) in
              let own : part q behind ≡ left q = behind-other q ne ∙ (rest.merge.each q w.1.0 ∙ put-other left p q (beyond further) ne) in
              record { lp = q; other = ne; swaps = subst (BeginsInSwap k) (sym own) (begins k (left q) (fits.all_settled q) (subst (lists.BeginsInSwap k) same g.swaps)) }
          by (inr out) = (let a = g.swaps.is in let b = sym there ∙ fits.none g.list out in cc)

      lifted-more : ((b : List Item) → TakenFits b t p x → PieceFits b t p piece) → ((b : List Item) → MergePlays (taken_after t x) b u → MergePlays (table_after t piece) b u) → Lifted n left t u
      lifted-more as-piece as-table = record {
        is = record { lp = p; piece = piece } ∷ behind;
        merge = record { each = λ q lt. by-each q lt (eqb_tells q p); nothing_else = λ q ge. none-else q ge };
        plays = (
          as-piece behind (subst (TakenFits behind t p) taken-is (taken-fits m.taken fit)),
          as-table behind (subst (λ (z : Table). MergePlays z behind u) (ap (lists.taken_after t) taken-is ∙ same-table t x) (wordless-plays p further rest.is (lists.taken_after t m.taken) u rest.plays)),
        );
      }
        where
          by-each : (q : ℕ) → q < n → (((q == p) ≡ true) × (q ≡ p)) ⊎ (((q == p) ≡ false) × (q ≢ p)) → part q (record { lp = p; piece = piece } ∷ behind) ≡ left q
          by-each q lt (inl e) =
              let own : part p behind ≡ further =
              part-append p (made_by p (wordless further)) rest.is
              ∙ (ap (λ (zs : List Piece). zs ++ part p rest.is) (part-own p (wordless further))
              ∙ (ap (λ (zs : List Piece). wordless further ++ zs) (rest.merge.each p inside ∙ put-own left p p (beyond further) refl) ∙ whole further)) in
              let all : part p (record { lp = p; piece = piece } ∷ behind) ≡ left p = rw (eq-eqb p p refl) (ap (λ (zs : List Piece). piece ∷ zs) own ∙ sym is-left) in
              subst (λ (z : ℕ). part z (record { lp = p; piece = piece } ∷ behind) ≡ left z) (sym e.1) all
          by-each q lt (inr f) = rw (ne_eqb p q (λ e. f.1 (sym e))) (behind-other q f.1 ∙ (rest.merge.each q lt ∙ put-other left p q (beyond further) f.1))

          none-else : (q : ℕ) → n ≤ q → part q (record { lp = p; piece = piece } ∷ behind) ≡ []
          none-else q ge = rw (ne_eqb p q (λ e. absurd (omega (arith, e, inside, ge)))) (behind-other q (λ e. absurd (omega (arith, e, inside, ge))) ∙ rest.merge.nothing_else q ge)

  -- from items to pieces, once nothing without a word step is in front
  lifts : (made : List lists.Made) (left : ℕ → List Piece) (t u : Table) → Fits left made → lists.MergePlays t made u → Lifted n left t u
  lifts [] left t u fits h = record { is = []; merge = record { each = λ p lt. sym (nothing-left (left p) (fits.all_settled p) (sym (fits.each p lt))); nothing_else = λ p ge. refl }; plays = h }
  lifts (m ∷ ms) left t u fits h = at (whose n m.list) (λ left' f. lifts ms left' (lists.taken_after t m.taken) u f h.1)
    where
      at : ((p : ℕ) × ((p < n) × (number p ≡ m.list))) ⊎ ((p : ℕ) → p < n → number p ≢ m.list) → ((left' : ℕ → List Piece) → Fits left' ms → Lifted n left' (lists.taken_after t m.taken) u) → Lifted n left t u
      at (inr out) go = (let a = sym (part-here m ms) ∙ fits.none m.list out in cc)
      at (inl w) go = by (left w.0) refl
        where
          by : (ps : List Piece) → left w.0 ≡ ps → Lifted n left t u
          by [] e = (let a = sym (part-here m ms) ∙ (ap (λ (z : ℕ). lists.part z (m ∷ ms)) (sym w.1.1) ∙ (fits.each w.0 w.1.0 ∙ ap taken_in e)) in cc)
          by (Wordless ∷ ps) e = absurd (subst IsSettled e (fits.all_settled w.0))
          by (Unmarked x ∷ ps) e =
              lifted-more left m ms fits w.0 w.1.0 w.1.1 (Unmarked x) x ps e refl t u h.0 (go (put left w.0 (beyond ps)) (fits' left m ms fits w.0 w.1.0 w.1.1 (Unmarked x) x ps e refl)) (λ b g. g) (λ b g. g)
          by (Marked x ∷ ps) e =
              lifted-more left m ms fits w.0 w.1.0 w.1.1 (Marked x) x ps e refl t u h.0 (go (put left w.0 (beyond ps)) (fits' left m ms fits w.0 w.1.0 w.1.1 (Marked x) x ps e refl)) (λ b g. g) (λ b g. g)

-- what stands in front: the pieces without a word step with which own lists begin
module _ (own : ℕ → List Piece) where
  abbrev front : ℕ → List Item
  front zero = []
  front (suc k) = front k ++ made_by k (wordless (own k))

  front-none : (k q : ℕ) → k ≤ q → part q (front k) ≡ []
  front-none zero q h = refl
  front-none (suc k) q h =
      part-append q (front k) (made_by k (wordless (own k))) ∙ (ap (λ (zs : List Piece). zs ++ part q (made_by k (wordless (own k)))) (front-none k q (omega (arith, h))) ∙ part-other k q (wordless (own k)) (λ e. absurd (omega (arith, e, h))))

  front-own : (k q : ℕ) → q < k → part q (front k) ≡ wordless (own q)
  front-own zero q h = absurd (omega (arith, h))
  front-own (suc k) q h = by (eqb_tells q k) (λ lt. front-own k q lt)
    where
      by : (((q == k) ≡ true) × (q ≡ k)) ⊎ (((q == k) ≡ false) × (q ≢ k)) → (q < k → part q (front k) ≡ wordless (own q)) → part q (front (suc k)) ≡ wordless (own q)
      by (inl t) go =
          part-append q (front k) (made_by k (wordless (own k))) ∙ (ap (λ (zs : List Piece). zs ++ part q (made_by k (wordless (own k)))) (front-none k q (let e = t.1 in omega (arith, e)))
          ∙ subst (λ (z : ℕ). part z (made_by k (wordless (own k))) ≡ wordless (own z)) (sym t.1) (part-own k (wordless (own k))))
      by (inr f) go =
          part-append q (front k) (made_by k (wordless (own k))) ∙ (ap (λ (zs : List Piece). part q (front k) ++ zs) (part-other k q (wordless (own k)) (λ e. f.1 (sym e)))
          ∙ (append-nil (part q (front k)) ∙ go (let ne = f.1 in omega (arith, h, ne))))

  front-plays : (k : ℕ) (is : List Item) (t u : Table) → MergePlays t is u → MergePlays t (front k ++ is) u
  front-plays zero is t u h = h
  front-plays (suc k) is t u h =
      subst (λ (zs : List Item). MergePlays t zs u) (sym (append_assoc (front k) (made_by k (wordless (own k))) is)) (front-plays k (made_by k (wordless (own k)) ++ is) t u (wordless-plays k (own k) is t u h))

-- a merge of lists of items is one of lists of pieces that have just these items
pub lift : (n : ℕ) (number : ℕ → ℕ) (made : List lists.Made) (own : ℕ → List Piece) (t u : Table) → ((p q : ℕ) → p < n → q < n → number p ≡ number q → p ≡ q)
    → ((p : ℕ) → p < n → lists.part (number p) made ≡ taken_in (own p)) → ((k : ℕ) → ((p : ℕ) → p < n → number p ≢ k) → lists.part k made ≡ []) → lists.MergePlays t made u → Lifted n own t u
lift n number made own t u apart each none h =
    let l = lifts n number apart made (λ p. beyond (own p)) t u (record { each = λ p lt. each p lt ∙ sym (taken-beyond (own p)); none = none; all_settled = λ p. settled (own p) }) h in
    record {
      is = front own n ++ l.is;
      merge = record {
        each = λ q lt. part-append q (front own n) l.is ∙ (ap (λ (zs : List Piece). zs ++ part q l.is) (front-own own n q lt) ∙ (ap (λ (zs : List Piece). wordless (own q) ++ zs) (l.merge.each q lt) ∙ whole (own q)));
        nothing_else = λ q ge. part-append q (front own n) l.is ∙ (ap (λ (zs : List Piece). zs ++ part q l.is) (front-none own n q ge) ∙ l.merge.nothing_else q ge);
      };
      plays = front-plays own n l.is t u l.plays;
    }
