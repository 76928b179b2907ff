-- Stores that are due: what processors have still to store, or what they would put back, laid over memory.
use Rattle.std.proofs.Common.{◌≡◌, ℕ, zero, suc, ◌+◌, ◌%◌, ◌^◌, ◌<◌, Bool, true, false, ◌==◌, if◌then◌else◌, List, [], ◌∷◌, ◌++◌, Option, Some, None, refl, ap, sym, ◌∙◌, subst, arith}
use Rattle.std.proofs.lemmas.Bool.{eqb-true, eqb-false, eq-eqb, ne_eqb, and_right}
use Rattle.td_words.specs.declared.machines.Machine.{Machine}
use Rattle.td_words.specs.Address.{word_at}
use Rattle.td_words.specs.Place.{WordPlace, Lock, Pamt, Word, Key, IsIn, address, same_place}
use Rattle.td_words.specs.Laws.{PlacesInjective}
use Rattle.mrtd_measure.specs.declared.measures.Measure.{Measure}
use Rattle.flat_core.specs.World.{World}
use Rattle.word_rules.specs.Guards.{Grip}
use Rattle.word_rules.specs.Rules.{View, Grade, KeepsNothing}
use Rattle.word_rules.specs.Views.{look, IsKept}
use Rattle.word_rules.specs.Permissions.{Owes, Fills}
use Rattle.lock_words.specs.LockWords.{put_word}
use Rattle.step_core.specs.declared.steps.WordStep.TheVariants as step
use Rattle.step_core.specs.declared.items.Taken.{Taken}
use Rattle.step_core.specs.declared.items.Taken.TheVariants.{Stepped, Swapped, Missed}
use Rattle.step_core.specs.Pages.{clearing}
use Rattle.leaf_engine.specs.Changes.{Memory, Change, Put, PutHash, Raise, Clear, Copy, Swap, put_page, changed, changed_all}
use Rattle.leaf_engine.specs.Means.{MayFillAll, MayOweAll}
use Rattle.leaf_engine.specs.Decides.{IsHand}

pub record Due : Type 0 where
  pub at : WordPlace
  pub word : ℕ

abbrev pub due : WordPlace → ℕ → Due
due q x = record { at = q; word = x }

abbrev pub later : {A : Type 0} → Option A → Option A → Option A
later (Some x) earlier = Some x
later None earlier = earlier

-- what a list of stores leaves at a place, if it stores there
abbrev pub last_at : List Due → WordPlace → Option ℕ
last_at [] r = None
last_at (d ∷ ds) r = later (last_at ds r) (if same_place r d.at then Some d.word else None)

abbrev pub or_else : {A : Type 0} → Option A → A → A
or_else (Some x) y = x
or_else None y = y

-- what stands at a place with what each of the first n processors has due there laid over it
abbrev pub over : {A : Type 0} → ℕ → (ℕ → Option A) → A → A
over zero f x = x
over (suc n) f x = or_else (f n) (over n f x)

-- memory with their stores laid over it
abbrev pub laid : ℕ → (ℕ → List Due) → (WordPlace → ℕ) → WordPlace → ℕ
laid n pend a r = over n (λ q. last_at (pend q) r) (a r)

-- each store is at a place of that kind
abbrev pub EachDue : (WordPlace → Type 0) → List Due → Type 0
EachDue P [] = Unit {0}
EachDue P (d ∷ ds) = P d.at × EachDue P ds

-- the stores that changes are made in
unfoldable pub words_from : ℕ → ℕ → (ℕ → ℕ) → List Due
words_from p zero xs = []
words_from p (suc n) xs = words_from p n xs ++ due (Word p n) (xs n) ∷ []

abbrev pub stores_of : Change → Memory → List Due
stores_of (Put q x) mem = due q x ∷ []
stores_of (PutHash q x) mem = due q (x mem.hand) ∷ []
stores_of (Raise q more) mem = due q ((mem.words q + more) % 2 ^ 64) ∷ []
stores_of (Clear p) mem = words_from p 512 (λ i. 0)
stores_of (Copy p q) mem = words_from q 512 (λ i. mem.words (Word p i))
stores_of (Swap h made) mem = []

abbrev pub all_stores : List Change → Memory → List Due
all_stores [] mem = []
all_stores (c ∷ cs) mem = stores_of c mem ++ all_stores cs (changed c mem)

-- items that are these stores, in order
abbrev pub AreStores : ℕ → List Taken → List Due → Type 0
AreStores n [] [] = Unit {0}
AreStores n (Stepped s a ∷ xs) (d ∷ ds) = (s ≡ step.Store (address n d.at) d.word) × AreStores n xs ds
AreStores n _ _ = ⊥

-- laid over memory

pub over-none : {A : Type 0} (n : ℕ) (f : ℕ → Option A) (x : A) → ((q : ℕ) → q < n → f q ≡ None) → over n f x ≡ x
over-none zero f x h = refl
over-none (suc n) f x h = rw (h n (omega arith)) (over-none n f x (λ q l. h q (omega arith)))

pub over-one : {A : Type 0} (n p : ℕ) (f : ℕ → Option A) (x : A) → p < n → ((q : ℕ) → q < n → (q == p) ≡ false → f q ≡ None) → over n f x ≡ or_else (f p) x
over-one zero p f x b h = absurd (omega arith)
over-one {A} (suc n) p f x b h = by (n == p) refl (λ l k. over-one n p f x l k)
  where
    by : (t : Bool) → (n == p) ≡ t → (p < n → ((q : ℕ) → q < n → (q == p) ≡ false → f q ≡ None) → over n f x ≡ or_else (f p) x) → over (suc n) f x ≡ or_else (f p) x
    by true e below =
        let s : n ≡ p = eqb-true n p e in
        ap (λ (y : A). or_else (f n) y) (over-none n f x (λ q l. h q (omega arith) (ne_eqb q p (λ z. omega arith)))) ∙ ap (λ (k : ℕ). or_else (f k) x) s
    by false e below =
        let s : n ≡ p → ⊥ = eqb-false n p e in
        rw (h n (omega arith) e) (below (omega arith) (λ q l. h q (omega arith)))

pub over-same : {A : Type 0} (n : ℕ) (f g : ℕ → Option A) (x y : A) → ((q : ℕ) → q < n → f q ≡ g q) → x ≡ y → over n f x ≡ over n g y
over-same zero f g x y h e = e
over-same (suc n) f g x y h e = rw (h n (omega arith), over-same n f g x y (λ q l. h q (omega arith)) e) refl

pub laid-none : (n : ℕ) (pend : ℕ → List Due) (a : WordPlace → ℕ) (r : WordPlace) → ((q : ℕ) → q < n → last_at (pend q) r ≡ None) → laid n pend a r ≡ a r
laid-none n pend a r h = over-none n (λ q. last_at (pend q) r) (a r) h

pub laid-one : (n p : ℕ) (pend : ℕ → List Due) (a : WordPlace → ℕ) (r : WordPlace) → p < n → ((q : ℕ) → q < n → (q == p) ≡ false → last_at (pend q) r ≡ None)
    → laid n pend a r ≡ or_else (last_at (pend p) r) (a r)
laid-one n p pend a r b h = over-one n p (λ q. last_at (pend q) r) (a r) b h

pub laid-same : (n : ℕ) (pend pend' : ℕ → List Due) (a b : WordPlace → ℕ) (r : WordPlace) → ((q : ℕ) → q < n → last_at (pend q) r ≡ last_at (pend' q) r) → a r ≡ b r
    → laid n pend a r ≡ laid n pend' b r
laid-same n pend pend' a b r h e = over-same n (λ q. last_at (pend q) r) (λ q. last_at (pend' q) r) (a r) (b r) h e

pub later-none : {A : Type 0} (x : Option A) → later x None ≡ x
later-none (Some x) = refl
later-none None = refl

pub later-later : {A : Type 0} (x y z : Option A) → later (later x y) z ≡ later x (later y z)
later-later (Some x) y z = refl
later-later None y z = refl

-- what comes first of a list, at its place and elsewhere
pub first-at : {A : Type 0} (x : Option A) (b : Bool) (w y : A) → b ≡ true → or_else (later x (if b then Some w else None)) y ≡ or_else x w
first-at (Some z) b w y f = refl
first-at None true w y f = refl
first-at None false w y f = cc

pub not-at : {A : Type 0} (x : Option A) (b : Bool) (w : A) → b ≡ false → later x (if b then Some w else None) ≡ x
not-at (Some y) b w f = refl
not-at None false w f = refl
not-at None true w f = cc

pub last-append : (xs ys : List Due) (r : WordPlace) → last_at (xs ++ ys) r ≡ later (last_at ys r) (last_at xs r)
last-append [] ys r = sym (later-none (last_at ys r))
last-append (d ∷ xs) ys r = rw (last-append xs ys r) (later-later (last_at ys r) (last_at xs r) (if same_place r d.at then Some d.word else None))

-- a list of stores at a place of each of which P holds
pub last-each : PlacesInjective → (P : WordPlace → Type 0) (ds : List Due) (r : WordPlace) (x : ℕ) → EachDue P ds → last_at ds r ≡ Some x → P r
last-each inj P [] r x e h = cc
last-each inj P (d ∷ ds) r x e h = by (last_at ds r) refl (same_place r d.at) refl (λ y f. last-each inj P ds r y e.1 f)
  where
    by : (o : Option ℕ) → last_at ds r ≡ o → (t : Bool) → same_place r d.at ≡ t → ((y : ℕ) → last_at ds r ≡ Some y → P r) → P r
    by (Some y) f t g further = further y f
    by None f true g further = subst P (sym ((inj.same r d.at).0 g)) e.0
    by None f false g further =
        let k : last_at (d ∷ ds) r ≡ None = rw (f, g) refl in
        cc

pub each-append : (P : WordPlace → Type 0) (xs ys : List Due) → EachDue P xs → EachDue P ys → EachDue P (xs ++ ys)
each-append P [] ys a b = b
each-append P (d ∷ xs) ys a b = (a.0, each-append P xs ys a.1 b)

-- the words of a page

words-at : (p n : ℕ) (xs : ℕ → ℕ) (i : ℕ) → i < n → last_at (words_from p n xs) (Word p i) ≡ Some (xs i)
unfolding words_from
words-at p zero xs i l = absurd (omega arith)
words-at p (suc n) xs i l = last-append (words_from p n xs) (due (Word p n) (xs n) ∷ []) (Word p i) ∙ by (i == n) refl (λ k. words-at p n xs i k)
  where
    by : (t : Bool) → (i == n) ≡ t → (i < n → last_at (words_from p n xs) (Word p i) ≡ Some (xs i))
        → later (last_at (due (Word p n) (xs n) ∷ []) (Word p i)) (last_at (words_from p n xs) (Word p i)) ≡ Some (xs i)
    by true e further =
        let s : i ≡ n = eqb-true i n e in
        rw (e, eq-eqb p p refl) (ap (λ (k : ℕ). Some (xs k)) (sym s))
    by false e further =
        let s : i ≡ n → ⊥ = eqb-false i n e in
        rw (e, and_right (p == p) false refl) (further (omega arith))

pub words-else : (p n : ℕ) (xs : ℕ → ℕ) (r : WordPlace) → ((i : ℕ) → i < n → same_place r (Word p i) ≡ false) → last_at (words_from p n xs) r ≡ None
unfolding words_from
words-else p zero xs r h = refl
words-else p (suc n) xs r h = last-append (words_from p n xs) (due (Word p n) (xs n) ∷ []) r ∙ rw (h n (omega arith)) (words-else p n xs r (λ i l. h i (omega arith)))

pub words-each : (P : WordPlace → Type 0) (p n : ℕ) (xs : ℕ → ℕ) → ((i : ℕ) → i < n → P (Word p i)) → EachDue P (words_from p n xs)
unfolding words_from
words-each P p zero xs h = tt
words-each P p (suc n) xs h = each-append P (words_from p n xs) (due (Word p n) (xs n) ∷ []) (words-each P p n xs (λ i l. h i (omega arith))) (h n (omega arith), tt)

-- a page's new words are their stores laid over memory
page-is : (m : Machine) (words : WordPlace → ℕ) (p : ℕ) (xs : ℕ → ℕ) (r : WordPlace) → IsIn m r → put_page words p xs r ≡ or_else (last_at (words_from p 512 xs) r) (words r)
page-is m words p xs (Lock q) i = rw (words-else p 512 xs (Lock q) (λ j l. refl)) refl
page-is m words p xs (Pamt q) i = rw (words-else p 512 xs (Pamt q) (λ j l. refl)) refl
page-is m words p xs (Key k) i = rw (words-else p 512 xs (Key k) (λ j l. refl)) refl
page-is m words p xs (Word q j) i = by (q == p) refl
  where
    by : (t : Bool) → (q == p) ≡ t → put_page words p xs (Word q j) ≡ or_else (last_at (words_from p 512 xs) (Word q j)) (words (Word q j))
    by true e =
        let s : q ≡ p = eqb-true q p e in
        let w : last_at (words_from p 512 xs) (Word q j) ≡ Some (xs j) = ap (λ (k : ℕ). last_at (words_from p 512 xs) (Word k j)) s ∙ words-at p 512 xs j i.1 in
        rw (e, w) refl
    by false e = rw (e, words-else p 512 xs (Word q j) (λ k l. rw e refl)) refl

pub or-test : {A : Type 0} (b : Bool) (x y : A) → (if b then x else y) ≡ or_else (if b then Some x else None) y
or-test true x y = refl
or-test false x y = refl

-- what one change makes of memory
pub one-is : (m : Machine) (c : Change) (mem : Memory) (r : WordPlace) → IsIn m r → (changed c mem).words r ≡ or_else (last_at (stores_of c mem) r) (mem.words r)
one-is m (Put q x) mem r i = or-test (same_place r q) x (mem.words r)
one-is m (PutHash q x) mem r i = or-test (same_place r q) (x mem.hand) (mem.words r)
one-is m (Raise q more) mem r i = or-test (same_place r q) ((mem.words q + more) % 2 ^ 64) (mem.words r)
one-is m (Clear p) mem r i = page-is m mem.words p (λ j. 0) r i
one-is m (Copy p q) mem r i = page-is m mem.words q (λ j. mem.words (Word p j)) r i
one-is m (Swap h made) mem r i = refl

pub or-later : {A : Type 0} (a b : Option A) (y : A) → or_else (later a b) y ≡ or_else a (or_else b y)
or-later (Some x) b y = refl
or-later None b y = refl

-- what changes make of memory is their stores laid over it
pub changed-is : PlacesInjective → (m : Machine) (cs : List Change) (mem : Memory) (r : WordPlace) → IsIn m r → (changed_all cs mem).words r ≡ or_else (last_at (all_stores cs mem) r) (mem.words r)
changed-is inj m [] mem r i = refl
changed-is inj m (c ∷ cs) mem r i =
    let after : Option ℕ = last_at (all_stores cs (changed c mem)) r in
    changed-is inj m cs (changed c mem) r i
    ∙ (ap (λ (y : ℕ). or_else after y) (one-is m c mem r i)
    ∙ (sym (or-later after (last_at (stores_of c mem) r) (mem.words r))
    ∙ ap (λ (o : Option ℕ). or_else o (mem.words r)) (sym (last-append (stores_of c mem) (all_stores cs (changed c mem)) r))))

-- stores that are allowed, each at its place
abbrev pub OwesAt : Machine → Grip → World → WordPlace → Type 0
OwesAt m g w q = IsIn m q × ((k : Grade) × Owes g w q k)

abbrev pub FillsAt : Machine → Grip → World → WordPlace → Type 0
FillsAt m g w q = IsIn m q × Fills g w q

pub filled-stores : (m : Machine) (g : Grip) (w : World) (mem : Memory) (fs : List Change) → MayFillAll m g w fs → EachDue (FillsAt m g w) (all_stores fs mem)
filled-stores m g w mem [] may = tt
filled-stores m g w mem (Put q x ∷ fs) may = (may.0, filled-stores m g w (changed (Put q x) mem) fs may.1)
filled-stores m g w mem (PutHash q x ∷ fs) may = absurd may.0
filled-stores m g w mem (Raise q more ∷ fs) may = absurd may.0
filled-stores m g w mem (Clear p ∷ fs) may = each-append (FillsAt m g w) (words_from p 512 (λ i. 0)) (all_stores fs (changed (Clear p) mem))
    (words-each (FillsAt m g w) p 512 (λ i. 0) (λ i l. ((may.0.0, l), may.0.1 i l)))
    (filled-stores m g w (changed (Clear p) mem) fs may.1)
filled-stores m g w mem (Copy p q ∷ fs) may = each-append (FillsAt m g w) (words_from q 512 (λ i. mem.words (Word p i))) (all_stores fs (changed (Copy p q) mem))
    (words-each (FillsAt m g w) q 512 (λ i. mem.words (Word p i)) (λ i l. ((may.0.1, l), may.0.3 i l)))
    (filled-stores m g w (changed (Copy p q) mem) fs may.1)
filled-stores m g w mem (Swap h made ∷ fs) may = absurd may.0

are-append : (n : ℕ) (xs ys : List Taken) (ds es : List Due) → AreStores n xs ds → AreStores n ys es → AreStores n (xs ++ ys) (ds ++ es)
are-append n [] ys [] es a b = b
are-append n [] ys (d ∷ ds) es a b = absurd a
are-append n (Stepped s z ∷ xs) ys [] es a b = absurd a
are-append n (Stepped s z ∷ xs) ys (d ∷ ds) es a b = (a.0, are-append n xs ys ds es a.1 b)
are-append n (Swapped k put taken ∷ xs) ys ds es a b = absurd a
are-append n (Missed k ∷ xs) ys ds es a b = absurd a

pub clears-are : (pages p n : ℕ) → AreStores pages (clearing p n) (words_from p n (λ i. 0))
unfolding clearing words_from
clears-are pages p zero = tt
clears-are pages p (suc n) =
    are-append pages (clearing p n) (Stepped (step.Store (word_at p n) 0) 0 ∷ []) (words_from p n (λ i. 0)) (due (Word p n) 0 ∷ []) (clears-are pages p n) (refl, tt)

pub none-is : (h : Option Measure) → IsHand h None → h ≡ None
none-is None i = refl
none-is (Some h) i = absurd i

-- a page of new words, where each of their stores leaves what is looked at
page-looks : (m : Machine) (v : View) (words : WordPlace → ℕ) (p : ℕ) (xs : ℕ → ℕ) (r : WordPlace) → IsIn m r
    → ((i x : ℕ) → i < 512 → look v (put_word words (Word p i) x r) ≡ look v (words r)) → look v (put_page words p xs r) ≡ look v (words r)
page-looks m v words p xs (Lock q) i keeps = refl
page-looks m v words p xs (Pamt q) i keeps = refl
page-looks m v words p xs (Key k) i keeps = refl
page-looks m v words p xs (Word q j) i keeps = by (q == p) refl
  where
    by : (t : Bool) → (q == p) ≡ t → look v (put_page words p xs (Word q j)) ≡ look v (words (Word q j))
    by true e =
        let same : put_word words (Word p j) (xs j) (Word q j) ≡ xs j = rw (e, eq-eqb j j refl) refl in
        rw e (ap (look v) (sym same) ∙ keeps j (xs j) i.1)
    by false e = rw e refl

-- what a load looks at stays through changes that are owed, and through fills, where it stays through each of their stores
pub looks-owed : PlacesInjective → (m : Machine) (g : Grip) (w : World) (mem : Memory) (cs : List Change) (r : WordPlace) (v : View) → IsIn m r → MayOweAll m g w mem cs
    → ((words : WordPlace → ℕ) (q : WordPlace) (x : ℕ) (k : Grade) → Owes g w q k → IsKept k (words q) x → look v (put_word words q x r) ≡ look v (words r))
    → look v ((changed_all cs mem).words r) ≡ look v (mem.words r)
looks-owed inj m g w mem [] r v i may keeps = refl
looks-owed inj m g w mem (Put q x ∷ cs) r v i may keeps =
    looks-owed inj m g w (changed (Put q x) mem) cs r v i may.1 keeps ∙ keeps mem.words q x may.0.1.0 may.0.1.1 may.0.1.2
looks-owed inj m g w mem (PutHash q x ∷ cs) r v i may keeps = looks-owed inj m g w (changed (PutHash q x) mem) cs r v i may.1 keeps ∙ keeps mem.words q (x mem.hand) KeepsNothing may.0.1 tt
looks-owed inj m g w mem (Raise q more ∷ cs) r v i may keeps = absurd may.0
looks-owed inj m g w mem (Clear p ∷ cs) r v i may keeps =
    looks-owed inj m g w (changed (Clear p) mem) cs r v i may.1 keeps
    ∙ page-looks m v mem.words p (λ j. 0) r i (λ j x l. keeps mem.words (Word p j) x KeepsNothing (may.0.1 j l) tt)
looks-owed inj m g w mem (Copy p q ∷ cs) r v i may keeps = absurd may.0
looks-owed inj m g w mem (Swap h made ∷ cs) r v i may keeps = looks-owed inj m g w (changed (Swap h made) mem) cs r v i may.1 keeps

pub looks-filled : PlacesInjective → (m : Machine) (g : Grip) (w : World) (mem : Memory) (fs : List Change) (r : WordPlace) (v : View) → IsIn m r → MayFillAll m g w fs
    → ((words : WordPlace → ℕ) (q : WordPlace) (x : ℕ) → Fills g w q → look v (put_word words q x r) ≡ look v (words r))
    → look v ((changed_all fs mem).words r) ≡ look v (mem.words r)
looks-filled inj m g w mem [] r v i may keeps = refl
looks-filled inj m g w mem (Put q x ∷ fs) r v i may keeps =
    looks-filled inj m g w (changed (Put q x) mem) fs r v i may.1 keeps ∙ keeps mem.words q x may.0.1
looks-filled inj m g w mem (PutHash q x ∷ fs) r v i may keeps = absurd may.0
looks-filled inj m g w mem (Raise q more ∷ fs) r v i may keeps = absurd may.0
looks-filled inj m g w mem (Clear p ∷ fs) r v i may keeps =
    looks-filled inj m g w (changed (Clear p) mem) fs r v i may.1 keeps
    ∙ page-looks m v mem.words p (λ j. 0) r i (λ j x l. keeps mem.words (Word p j) x (may.0.1 j l))
looks-filled inj m g w mem (Copy p q ∷ fs) r v i may keeps =
    looks-filled inj m g w (changed (Copy p q) mem) fs r v i may.1 keeps
    ∙ page-looks m v mem.words q (λ j. mem.words (Word p j)) r i (λ j x l. keeps mem.words (Word q j) x (may.0.3 j l))
looks-filled inj m g w mem (Swap h made ∷ fs) r v i may keeps = absurd may.0
