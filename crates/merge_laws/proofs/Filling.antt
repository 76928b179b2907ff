-- Stores before an act: what a leaf that fills has still to do, store by store.
use Rattle.std.proofs.Common.{◌≡◌, ℕ, zero, suc, ◌+◌, ◌<◌, Bool, true, false, ◌==◌, if◌then◌else◌, List, [], ◌∷◌, ◌++◌, map, length, Option, None, refl, ap, sym, ◌∙◌, subst, arith}
use Rattle.std.proofs.lemmas.Bool.{ne_eqb}
use Rattle.td_words.specs.declared.machines.Machine.{Machine}
use Rattle.td_words.specs.Address.{word_at}
use Rattle.td_words.specs.Place.{WordPlace, Word, IsIn, address, same_place}
use Rattle.td_words.specs.Laws.{PlacesInjective}
use Rattle.mrtd_measure.specs.declared.measures.Measure.{Measure}
use Rattle.flat_core.specs.World.{World}
use Rattle.word_rules.specs.Guards.{Grip}
use Rattle.word_rules.specs.Rules.{Whole}
use Rattle.word_rules.specs.Permissions.{Reads, Fills}
use Rattle.lock_words.specs.LockWords.{put_word}
use Rattle.step_core.specs.declared.steps.WordStep.TheVariants as step
use Rattle.step_core.specs.declared.items.Taken.{Taken}
use Rattle.step_core.specs.declared.items.Taken.TheVariants.{Stepped, Swapped, Missed}
use Rattle.step_core.specs.Pages.{clearing, copying}
use Rattle.leaf_engine.specs.Changes.{Memory, Change, Put, PutHash, Raise, Clear, Copy, Swap, changed, is_plain}
use Rattle.leaf_engine.specs.declared.needs.Write.{Write}
use Rattle.leaf_engine.specs.Decides.{write_of, hand_for, IsHand}
use Rattle.leaf_engine.specs.Means.{MayFill, MayFillAll, MayTakeAll}
use Rattle.leaf_engine.specs.Items.{IsWritten, IsChanged, AreChanged}
use Rattle.leaf_engine.specs.OwnLists.{Piece, Unmarked, items_of, items_in, marked_behind}
use Rattle.merge_laws.proofs.Stores.{Due, due, or_else, words_from, words-else, stores_of, all_stores, one-is, none-is}
use Rattle.merge_laws.proofs.Keeping.{stored, stored-is}

-- a store, or a word that is taken from one place and stored at another
pub data Todo : Type 0 where
  Puts : (d : Due) → Todo
  Takes : (from at : WordPlace) → Todo

unfoldable pub zeros_to : ℕ → ℕ → List Todo
zeros_to p zero = []
zeros_to p (suc n) = zeros_to p n ++ Puts (due (Word p n) 0) ∷ []

unfoldable pub takes_from : ℕ → ℕ → ℕ → ℕ → List Todo
takes_from p q i zero = []
takes_from p q i (suc n) = Takes (Word p i) (Word q i) ∷ takes_from p q (i + 1) n

abbrev pub todos_of : Change → List Todo
todos_of (Put q x) = Puts (due q x) ∷ []
todos_of (Clear p) = zeros_to p 512
todos_of (Copy p q) = takes_from p q 0 512
todos_of _ = []

abbrev pub all_todos : List Change → List Todo
all_todos [] = []
all_todos (c ∷ cs) = todos_of c ++ all_todos cs

-- the items that they are made in
abbrev pub AreTodos : ℕ → List Taken → List Todo → Type 0
AreTodos n [] [] = Unit {0}
AreTodos n (Stepped s a ∷ xs) (Puts d ∷ ts) = (s ≡ step.Store (address n d.at) d.word) × AreTodos n xs ts
AreTodos n (Stepped s v ∷ Stepped s' b ∷ xs) (Takes f q ∷ ts) = (s ≡ step.Load (address n f)) × (s' ≡ step.Store (address n q) v) × AreTodos n xs ts
AreTodos n _ _ = ⊥

-- the stores that they make of memory
abbrev pub dues_of : List Todo → (WordPlace → ℕ) → List Due
dues_of [] a = []
dues_of (Puts d ∷ ts) a = d ∷ dues_of ts (put_word a d.at d.word)
dues_of (Takes f q ∷ ts) a = due q (a f) ∷ dues_of ts (put_word a q (a f))

-- each is allowed
abbrev pub EachTodo : Machine → Grip → World → List Todo → Type 0
EachTodo m g w [] = Unit {0}
EachTodo m g w (Puts d ∷ ts) = (IsIn m d.at × Fills g w d.at) × EachTodo m g w ts
EachTodo m g w (Takes f q ∷ ts) = (IsIn m f × IsIn m q × Fills g w q) × EachTodo m g w ts

-- what each word is that is copied
abbrev pub EachTaken : (WordPlace → Type 0) → List Todo → Type 0
EachTaken P [] = Unit {0}
EachTaken P (Puts d ∷ ts) = EachTaken P ts
EachTaken P (Takes f q ∷ ts) = P f × EachTaken P ts

any-taken : (ts : List Todo) → EachTaken (λ q. Unit {0}) ts
any-taken [] = tt
any-taken (Puts d ∷ ts) = any-taken ts
any-taken (Takes f q ∷ ts) = (tt, any-taken ts)

both_same : (t : Bool) {x y z u : ℕ} → x ≡ y → z ≡ u → (if t then x else z) ≡ (if t then y else u)
both_same true e f = e
both_same false e f = f

-- they make the same stores of memories that are the same where they read
pub dues-same : (m : Machine) (g : Grip) (w : World) (P : WordPlace → Type 0) (ts : List Todo) (a b : WordPlace → ℕ) → EachTodo m g w ts → EachTaken P ts → ((q : WordPlace) → IsIn m q → P q → a q ≡ b q) → dues_of ts a ≡ dues_of ts b
dues-same m g w P [] a b e k same = refl
dues-same m g w P (Puts d ∷ ts) a b e k same =
    ap (λ (ds : List Due). d ∷ ds)
    (dues-same m g w P ts (put_word a d.at d.word) (put_word b d.at d.word) e.1 k (λ r i reads. both_same (same_place r d.at) refl (same r i reads)))
dues-same m g w P (Takes f q ∷ ts) a b e k same =
    let taken : a f ≡ b f = same f e.0.0 k.0 in
    let rest = dues-same m g w P ts (put_word a q (a f)) (put_word b q (b f)) e.1 k.1 (λ r i reads. both_same (same_place r q) taken (same r i reads)) in
    ap (λ (x : ℕ). due q x ∷ dues_of ts (put_word a q (a f))) taken ∙ ap (λ (ds : List Due). due q (b f) ∷ ds) rest

-- and of memories that are the same
pub dues-alike : (m : Machine) (g : Grip) (w : World) (ts : List Todo) (a b : WordPlace → ℕ) → EachTodo m g w ts → ((q : WordPlace) → IsIn m q → a q ≡ b q) → dues_of ts a ≡ dues_of ts b
dues-alike m g w ts a b e same = dues-same m g w (λ q. Unit {0}) ts a b e (any-taken ts) (λ q i u. same q i)

each-append : (m : Machine) (g : Grip) (w : World) (ts us : List Todo) → EachTodo m g w ts → EachTodo m g w us → EachTodo m g w (ts ++ us)
each-append m g w [] us a b = b
each-append m g w (Puts d ∷ ts) us a b = (a.0, each-append m g w ts us a.1 b)
each-append m g w (Takes f q ∷ ts) us a b = (a.0, each-append m g w ts us a.1 b)

each-zeros : (m : Machine) (g : Grip) (w : World) (p n : ℕ) → ((i : ℕ) → i < n → IsIn m (Word p i) × Fills g w (Word p i)) → EachTodo m g w (zeros_to p n)
unfolding zeros_to
each-zeros m g w p zero h = tt
each-zeros m g w p (suc n) h = each-append m g w (zeros_to p n) (Puts (due (Word p n) 0) ∷ []) (each-zeros m g w p n (λ i l. h i (omega arith))) (h n (omega arith), tt)

each-takes : (m : Machine) (g : Grip) (w : World) (p q i n : ℕ) → ((j : ℕ) → j < i + n → IsIn m (Word p j) × IsIn m (Word q j) × Fills g w (Word q j))
    → EachTodo m g w (takes_from p q i n)
unfolding takes_from
each-takes m g w p q i zero h = tt
each-takes m g w p q i (suc n) h = (h i (omega arith), each-takes m g w p q (i + 1) n (λ j l. h j (omega arith)))

-- those of a leaf's fills
pub fills-todo : (m : Machine) (g : Grip) (w : World) (fs : List Change) → MayFillAll m g w fs → EachTodo m g w (all_todos fs)
fills-todo m g w [] may = tt
fills-todo m g w (Put q x ∷ fs) may = (may.0, fills-todo m g w fs may.1)
fills-todo m g w (PutHash q x ∷ fs) may = absurd may.0
fills-todo m g w (Raise q more ∷ fs) may = absurd may.0
fills-todo m g w (Clear p ∷ fs) may =
    each-append m g w (zeros_to p 512) (all_todos fs) (each-zeros m g w p 512 (λ i l. ((may.0.0, l), may.0.1 i l))) (fills-todo m g w fs may.1)
fills-todo m g w (Copy p q ∷ fs) may =
    each-append m g w (takes_from p q 0 512) (all_todos fs)
    (each-takes m g w p q 0 512 (λ j l. ((may.0.0, l), (may.0.1, l), may.0.3 j l))) (fills-todo m g w fs may.1)
fills-todo m g w (Swap h made ∷ fs) may = absurd may.0

-- and what it copies

taken-append : (P : WordPlace → Type 0) (ts us : List Todo) → EachTaken P ts → EachTaken P us → EachTaken P (ts ++ us)
taken-append P [] us a b = b
taken-append P (Puts d ∷ ts) us a b = taken-append P ts us a b
taken-append P (Takes f q ∷ ts) us a b = (a.0, taken-append P ts us a.1 b)

taken-zeros : (P : WordPlace → Type 0) (p n : ℕ) → EachTaken P (zeros_to p n)
unfolding zeros_to
taken-zeros P p zero = tt
taken-zeros P p (suc n) = taken-append P (zeros_to p n) (Puts (due (Word p n) 0) ∷ []) (taken-zeros P p n) tt

taken-words : (P : WordPlace → Type 0) (p q i n : ℕ) → ((j : ℕ) → j < i + n → P (Word p j)) → EachTaken P (takes_from p q i n)
unfolding takes_from
taken-words P p q i zero h = tt
taken-words P p q i (suc n) h = (h i (omega arith), taken-words P p q (i + 1) n (λ j l. h j (omega arith)))

pub fills-taken : (h : Grip) (w : World) (fs : List Change) → MayTakeAll h w fs → EachTaken (λ q. Reads h w q Whole) (all_todos fs)
fills-taken h w [] may = tt
fills-taken h w (Put q x ∷ fs) may = fills-taken h w fs may.1
fills-taken h w (PutHash q x ∷ fs) may = fills-taken h w fs may.1
fills-taken h w (Raise q more ∷ fs) may = fills-taken h w fs may.1
fills-taken h w (Clear p ∷ fs) may = taken-append (λ q. Reads h w q Whole) (zeros_to p 512) (all_todos fs) (taken-zeros (λ q. Reads h w q Whole) p 512) (fills-taken h w fs may.1)
fills-taken h w (Copy p q ∷ fs) may = taken-append (λ q. Reads h w q Whole) (takes_from p q 0 512) (all_todos fs) (taken-words (λ q. Reads h w q Whole) p q 0 512 may.0) (fills-taken h w fs may.1)
fills-taken h w (Swap k made ∷ fs) may = fills-taken h w fs may.1

-- the stores that a page's words are put by

dues-append : (ts us : List Todo) (a : WordPlace → ℕ) → dues_of (ts ++ us) a ≡ dues_of ts a ++ dues_of us (stored (dues_of ts a) a)
dues-append [] us a = refl
dues-append (Puts d ∷ ts) us a = ap (λ (ds : List Due). d ∷ ds) (dues-append ts us (put_word a d.at d.word))
dues-append (Takes f q ∷ ts) us a = ap (λ (ds : List Due). due q (a f) ∷ ds) (dues-append ts us (put_word a q (a f)))

zeros-due : (p n : ℕ) (a : WordPlace → ℕ) → dues_of (zeros_to p n) a ≡ words_from p n (λ i. 0)
unfolding zeros_to words_from
zeros-due p zero a = refl
zeros-due p (suc n) a =
    dues-append (zeros_to p n) (Puts (due (Word p n) 0) ∷ []) a ∙ ap (λ (ds : List Due). ds ++ due (Word p n) 0 ∷ []) (zeros-due p n a)

takes-last : (p q i n : ℕ) → takes_from p q i (suc n) ≡ takes_from p q i n ++ Takes (Word p (i + n)) (Word q (i + n)) ∷ []
unfolding takes_from
takes-last p q i zero =
    let e : i + 0 ≡ i = omega arith in
    ap (λ (k : ℕ). Takes (Word p k) (Word q k) ∷ []) (sym e)
takes-last p q i (suc n) =
    let e : i + 1 + n ≡ i + suc n = omega arith in
    ap (λ (ts : List Todo). Takes (Word p i) (Word q i) ∷ ts)
    (takes-last p q (i + 1) n ∙ ap (λ (k : ℕ). takes_from p q (i + 1) n ++ Takes (Word p k) (Word q k) ∷ []) e)

takes-due : (p q n : ℕ) (a : WordPlace → ℕ) → (p == q) ≡ false → dues_of (takes_from p q 0 n) a ≡ words_from q n (λ i. a (Word p i))
unfolding words_from takes_from
takes-due p q zero a apart = refl
takes-due p q (suc n) a apart =
    let xs : ℕ → ℕ = λ i. a (Word p i) in
    let before : dues_of (takes_from p q 0 n) a ≡ words_from q n xs = takes-due p q n a apart in
    let read : stored (words_from q n xs) a (Word p n) ≡ a (Word p n) =
    stored-is (words_from q n xs) a (Word p n)
    ∙ ap (λ (o : Option ℕ). or_else o (a (Word p n))) (words-else q n xs (Word p n) (λ i l. rw apart refl)) in
    let count : 0 + n ≡ n = omega arith in
    ap (λ (ts : List Todo). dues_of ts a) (takes-last p q 0 n ∙ ap (λ (k : ℕ). takes_from p q 0 n ++ Takes (Word p k) (Word q k) ∷ []) count)
    ∙ (dues-append (takes_from p q 0 n) (Takes (Word p n) (Word q n) ∷ []) a
    ∙ (ap (λ (ds : List Due). ds ++ due (Word q n) (stored ds a (Word p n)) ∷ []) before
    ∙ ap (λ (x : ℕ). words_from q n xs ++ due (Word q n) x ∷ []) read))

-- those of one change, and of the others behind it
change-due : PlacesInjective → (m : Machine) (g : Grip) (w : World) (c : Change) (fs : List Change) (mem : Memory) → is_plain c ≡ true → EachTodo m g w (all_todos fs)
    → dues_of (todos_of c) mem.words ≡ stores_of c mem → dues_of (all_todos fs) (changed c mem).words ≡ all_stores fs (changed c mem)
    → dues_of (all_todos (c ∷ fs)) mem.words ≡ all_stores (c ∷ fs) mem
change-due inj m g w c fs mem pl each one rest =
    dues-append (todos_of c) (all_todos fs) mem.words
    ∙ (ap (λ (ds : List Due). ds ++ dues_of (all_todos fs) (stored ds mem.words)) one
    ∙ ap (λ (ds : List Due). stores_of c mem ++ ds)
    (dues-alike m g w (all_todos fs) (stored (stores_of c mem) mem.words) (changed c mem).words each
    (λ r i. stored-is (stores_of c mem) mem.words r ∙ sym (one-is m c mem r i)) ∙ rest))

pub fills-due : PlacesInjective → (m : Machine) (g : Grip) (w : World) (fs : List Change) (mem : Memory) → MayFillAll m g w fs → dues_of (all_todos fs) mem.words ≡ all_stores fs mem
fills-due inj m g w [] mem may = refl
fills-due inj m g w (Put q x ∷ fs) mem may = ap (λ (ds : List Due). due q x ∷ ds) (fills-due inj m g w fs (changed (Put q x) mem) may.1)
fills-due inj m g w (PutHash q x ∷ fs) mem may = absurd may.0
fills-due inj m g w (Raise q more ∷ fs) mem may = absurd may.0
fills-due inj m g w (Clear p ∷ fs) mem may =
    change-due inj m g w (Clear p) fs mem refl (fills-todo m g w fs may.1) (zeros-due p 512 mem.words) (fills-due inj m g w fs (changed (Clear p) mem) may.1)
fills-due inj m g w (Copy p q ∷ fs) mem may =
    change-due inj m g w (Copy p q) fs mem refl (fills-todo m g w fs may.1) (takes-due p q 512 mem.words (ne_eqb p q may.0.2))
    (fills-due inj m g w fs (changed (Copy p q) mem) may.1)
fills-due inj m g w (Swap h made ∷ fs) mem may = absurd may.0

-- the items of one fill

todos-append : (n : ℕ) (xs ys : List Taken) (ts us : List Todo) → AreTodos n xs ts → AreTodos n ys us → AreTodos n (xs ++ ys) (ts ++ us)
todos-append n [] ys [] us a b = b
todos-append n [] ys (t ∷ ts) us a b = absurd a
todos-append n (Stepped s v ∷ xs) ys [] us a b = absurd a
todos-append n (Stepped s v ∷ xs) ys (Puts d ∷ ts) us a b = (a.0, todos-append n xs ys ts us a.1 b)
todos-append n (Stepped s v ∷ []) ys (Takes f q ∷ ts) us a b = absurd a
todos-append n (Stepped s v ∷ Stepped s' z ∷ xs) ys (Takes f q ∷ ts) us a b = (a.0, a.1, todos-append n xs ys ts us a.2 b)
todos-append n (Stepped s v ∷ Swapped k put taken ∷ xs) ys (Takes f q ∷ ts) us a b = absurd a
todos-append n (Stepped s v ∷ Missed k ∷ xs) ys (Takes f q ∷ ts) us a b = absurd a
todos-append n (Swapped k put taken ∷ xs) ys ts us a b = absurd a
todos-append n (Missed k ∷ xs) ys ts us a b = absurd a

zeros-are : (pages p n : ℕ) → AreTodos pages (clearing p n) (zeros_to p n)
unfolding clearing zeros_to
zeros-are pages p zero = tt
zeros-are pages p (suc n) =
    todos-append pages (clearing p n) (Stepped (step.Store (word_at p n) 0) 0 ∷ []) (zeros_to p n) (Puts (due (Word p n) 0) ∷ []) (zeros-are pages p n) (refl, tt)

length-append : (xs ys : List Taken) → length (xs ++ ys) ≡ length xs + length ys
length-append [] ys = omega arith
length-append (x ∷ xs) ys =
    let e : suc (length xs + length ys) ≡ suc (length xs) + length ys = omega arith in
    ap (λ (k : ℕ). suc k) (length-append xs ys) ∙ e

clearing-length : (p n : ℕ) → length (clearing p n) ≡ n
unfolding clearing
clearing-length p zero = refl
clearing-length p (suc n) =
    let e : n + 1 ≡ suc n = omega arith in
    length-append (clearing p n) (Stepped (step.Store (word_at p n) 0) 0 ∷ []) ∙ (ap (λ (k : ℕ). k + 1) (clearing-length p n) ∙ e)

copying-length : (p q i : ℕ) (seen : List ℕ) → length (copying p q i seen) ≡ length seen + length seen
copying-length p q i [] = refl
copying-length p q i (v ∷ vs) =
    let e : suc (suc (length vs + length vs)) ≡ suc (length vs) + suc (length vs) = omega arith in
    ap (λ (k : ℕ). suc (suc k)) (copying-length p q (i + 1) vs) ∙ e

takes-are : (pages p q i n : ℕ) (seen : List ℕ) → length seen ≡ n → AreTodos pages (copying p q i seen) (takes_from p q i n)
unfolding takes_from
takes-are pages p q i zero [] e = tt
takes-are pages p q i zero (v ∷ vs) e = cc
takes-are pages p q i (suc n) [] e = cc
takes-are pages p q i (suc n) (v ∷ vs) e = (refl, refl, takes-are pages p q (i + 1) n vs (omega (arith, e)))

-- a change that uses no hasher is handed out as this write
one-written : (m : Machine) (c : Change) (h' : Option Measure) (xs : List Taken) → is_plain c ≡ true → IsChanged m c None xs h'
    → (between : Option Measure) × (between ≡ None) × IsWritten (write_of m.pages None c) between xs h'
one-written m c h' xs pl ch =
    let handed = ch.handed None tt in
    (ch.between, none-is ch.between (plain-hand c pl handed.1), subst (λ (z : Write). IsWritten z ch.between xs h') handed.0 ch.written)
  where
    plain-hand : (c : Change) → is_plain c ≡ true → IsHand ch.between (hand_for None c) → IsHand ch.between None
    plain-hand (Put q x) pl i = i
    plain-hand (PutHash q x) pl i = i
    plain-hand (Raise q more) pl i = i
    plain-hand (Clear p) pl i = i
    plain-hand (Copy p q) pl i = i
    plain-hand (Swap h made) pl i = cc

one-fill : (m : Machine) (g : Grip) (w : World) (c : Change) (h' : Option Measure) (xs : List Taken) → MayFill m g w c → IsChanged m c None xs h'
    → (h' ≡ None) × AreTodos m.pages xs (todos_of c) × (length xs ≡ items_of c)
one-fill m g w (Put q x) h' xs may ch =
    let one = one-written m (Put q x) h' xs refl ch in
    (one.2.0 ∙ one.1, subst (λ (z : List Taken). AreTodos m.pages z (Puts (due q x) ∷ [])) (sym one.2.1.1) (refl, tt), ap (λ (z : List Taken). length z) one.2.1.1)
one-fill m g w (PutHash q x) h' xs may ch = absurd may
one-fill m g w (Raise q more) h' xs may ch = absurd may
one-fill m g w (Clear p) h' xs may ch =
    let one = one-written m (Clear p) h' xs refl ch in (
      one.2.0 ∙ one.1,
      subst (λ (z : List Taken). AreTodos m.pages z (zeros_to p 512)) (sym one.2.1) (zeros-are m.pages p 512),
      ap (λ (z : List Taken). length z) one.2.1 ∙ clearing-length p 512,
    )
one-fill m g w (Copy p q) h' xs may ch =
    let one = one-written m (Copy p q) h' xs refl ch in
    let seen : List ℕ = one.2.1.0 in
    let many : length seen ≡ 512 = one.2.1.1 in (
      one.2.0 ∙ one.1,
      subst (λ (z : List Taken). AreTodos m.pages z (takes_from p q 0 512)) (sym one.2.1.2) (takes-are m.pages p q 0 512 seen many),
      ap (λ (z : List Taken). length z) one.2.1.2 ∙ (copying-length p q 0 seen ∙ ap (λ (k : ℕ). k + k) many),
    )
one-fill m g w (Swap k made) h' xs may ch = absurd may

fills-made : (m : Machine) (g : Grip) (w : World) (fs : List Change) (h h' : Option Measure) (xs : List Taken) → MayFillAll m g w fs → AreChanged m fs h xs h' → h ≡ None
    → (h' ≡ None) × AreTodos m.pages xs (all_todos fs) × (length xs ≡ items_in fs)
fills-made m g w [] h h' xs may ch none = (ch.0 ∙ none, subst (λ (z : List Taken). AreTodos m.pages z []) (sym ch.1) tt, ap (λ (z : List Taken). length z) ch.1)
fills-made m g w (c ∷ fs) h h' xs may ch none =
    let between : Option Measure = ch.0 in
    let ys : List Taken = ch.1.0 in
    let zs : List Taken = ch.1.1.0 in
    let one = one-fill m g w c between ys may.0 (subst (λ (z : Option Measure). IsChanged m c z ys between) none ch.1.1.2) in
    let rest = fills-made m g w fs between h' zs may.1 ch.1.1.3 one.0 in (
      rest.0,
      subst (λ (z : List Taken). AreTodos m.pages z (all_todos (c ∷ fs))) (sym ch.1.1.1) (todos-append m.pages ys zs (todos_of c) (all_todos fs) one.1 rest.1),
      ap (λ (z : List Taken). length z) ch.1.1.1
          ∙ (length-append ys zs ∙ (ap (λ (k : ℕ). k + length zs) one.2 ∙ ap (λ (k : ℕ). items_of c + k) rest.2)),
    )

pub fills-items : (m : Machine) (g : Grip) (w : World) (fs : List Change) (h h' : Option Measure) (xs : List Taken) → MayFillAll m g w fs → AreChanged m fs h xs h' → h ≡ None → (h' ≡ None) × AreTodos m.pages xs (all_todos fs)
fills-items m g w fs h h' xs may ch none =
    let all = fills-made m g w fs h h' xs may ch none in
    (all.0, all.1)

-- changes one after another
pub record TwoParts (m : Machine) (fs cs : List Change) (h : Option Measure) (xs : List Taken) (h' : Option Measure) : Type 0 where
  pub between : Option Measure
  pub first : List Taken
  pub second : List Taken
  pub items : xs ≡ first ++ second
  pub filled : AreChanged m fs h first between
  pub changed : AreChanged m cs between second h'

append-append : (xs ys zs : List Taken) → (xs ++ ys) ++ zs ≡ xs ++ (ys ++ zs)
append-append [] ys zs = refl
append-append (x ∷ xs) ys zs = ap (λ (l : List Taken). x ∷ l) (append-append xs ys zs)

pub two-parts : (m : Machine) (fs cs : List Change) (h h' : Option Measure) (xs : List Taken) → AreChanged m (fs ++ cs) h xs h' → TwoParts m fs cs h xs h'
two-parts m [] cs h h' xs ch = record { between = h; first = []; second = xs; items = refl; filled = (refl, refl); changed = ch }
two-parts m (f ∷ fs) cs h h' xs ch =
    let middle : Option Measure = ch.0 in
    let ys : List Taken = ch.1.0 in
    let zs : List Taken = ch.1.1.0 in
    let rest = two-parts m fs cs middle h' zs ch.1.1.3 in
    record {
      between = rest.between;
      first = ys ++ rest.first;
      second = rest.second;
      items = ch.1.1.1 ∙ (ap (λ (l : List Taken). ys ++ l) rest.items ∙ sym (append-append ys rest.first rest.second));
      filled = (middle, (ys, (rest.first, refl, ch.1.1.2, rest.filled)));
      changed = rest.changed;
    }

behind-many : (n : ℕ) (xs ys : List Taken) → length xs ≡ n → marked_behind n (xs ++ ys) ≡ map Unmarked xs ++ marked_behind 0 ys
behind-many zero [] ys e = refl
behind-many zero (x ∷ xs) ys e = cc
behind-many (suc n) [] ys e = cc
behind-many (suc n) (x ∷ xs) ys e = ap (λ (ps : List Piece). Unmarked x ∷ ps) (behind-many n xs ys (omega (arith, e)))

-- the event of an act that fills first comes behind its fills
pub behind-fills : (m : Machine) (g : Grip) (w : World) (fs : List Change) (h h' : Option Measure) (xs ys : List Taken) → MayFillAll m g w fs → AreChanged m fs h xs h' → h ≡ None
    → marked_behind (items_in fs) (xs ++ ys) ≡ map Unmarked xs ++ marked_behind 0 ys
behind-fills m g w fs h h' xs ys may ch none =
    let all = fills-made m g w fs h h' xs may ch none in
    behind-many (items_in fs) xs ys all.2
