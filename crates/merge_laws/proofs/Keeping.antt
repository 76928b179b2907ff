-- Stores that are due, each of which keeps what its grade says of the word that stands there.
use Rattle.std.proofs.Common.{◌≡◌, ◌⊎◌, ℕ, zero, suc, ◌<◌, Bool, true, false, if◌then◌else◌, List, [], ◌∷◌, ◌++◌, Option, Some, None, refl, ap, sym, ◌∙◌, subst, inl, inr, arith}
use Rattle.td_words.specs.declared.machines.Machine.{Machine}
use Rattle.td_words.specs.Place.{WordPlace, Word, IsIn, same_place}
use Rattle.td_words.specs.Laws.{PlacesInjective}
use Rattle.flat_core.specs.World.{World}
use Rattle.word_rules.specs.Guards.{Grip}
use Rattle.word_rules.specs.Rules.{View, Grade, KeepsNothing, spares}
use Rattle.word_rules.specs.Views.{look, IsKept, ViewsAreKept}
use Rattle.word_rules.specs.Permissions.{Owes}
use Rattle.lock_words.specs.LockWords.{put_word}
use Rattle.leaf_engine.specs.Changes.{Memory, Change, Put, PutHash, Raise, Clear, Copy, Swap, changed}
use Rattle.leaf_engine.specs.Means.{MayOwe, MayOweAll}
use Rattle.merge_laws.proofs.Stores.{Due, due, last_at, later, or_else, laid, EachDue, words_from, stores_of, all_stores, one-is, OwesAt}

-- stores that are owed over memory, in order
abbrev pub Keeps : Machine → Grip → World → (WordPlace → ℕ) → List Due → Type 0
Keeps m g w a [] = Unit {0}
Keeps m g w a (d ∷ ds) = (IsIn m d.at × ((k : Grade) × Owes g w d.at k × IsKept k (a d.at) d.word)) × Keeps m g w (put_word a d.at d.word) ds

pub keeps-each : (m : Machine) (g : Grip) (w : World) (a : WordPlace → ℕ) (ds : List Due) → Keeps m g w a ds → EachDue (OwesAt m g w) ds
keeps-each m g w a [] k = tt
keeps-each m g w a (d ∷ ds) k = ((k.0.0, (k.0.1.0, k.0.1.1)), keeps-each m g w (put_word a d.at d.word) ds k.1)

-- over memory that is the same where something may be owed
pub keeps-same : (m : Machine) (g h : Grip) (w w' : World) (a b : WordPlace → ℕ) (ds : List Due) → ((q : WordPlace) (k : Grade) → Owes g w q k → Owes h w' q k) → ((q : WordPlace) (k : Grade) → IsIn m q → Owes g w q k → a q ≡ b q)
    → Keeps m g w a ds → Keeps m h w' b ds
keeps-same m g h w w' a b [] o f k = tt
keeps-same m g h w w' a b (d ∷ ds) o f k = (
  (k.0.0, (k.0.1.0, o d.at k.0.1.0 k.0.1.1, subst (λ (x : ℕ). IsKept k.0.1.0 x d.word) (f d.at k.0.1.0 k.0.0 k.0.1.1) k.0.1.2)),
  keeps-same m g h w w' (put_word a d.at d.word) (put_word b d.at d.word) ds o (λ q j in_q owes. both (same_place q d.at) d.word (f q j in_q owes)) k.1,
)
  where
    both : (t : Bool) (x : ℕ) {y z : ℕ} → y ≡ z → (if t then x else y) ≡ (if t then x else z)
    both true x e = refl
    both false x e = e

-- memory after stores
abbrev pub stored : List Due → (WordPlace → ℕ) → WordPlace → ℕ
stored [] a = a
stored (d ∷ ds) a = stored ds (put_word a d.at d.word)

pub stored-is : (ds : List Due) (a : WordPlace → ℕ) (r : WordPlace) → stored ds a r ≡ or_else (last_at ds r) (a r)
stored-is [] a r = refl
stored-is (d ∷ ds) a r = stored-is ds (put_word a d.at d.word) r ∙ by (last_at ds r) (same_place r d.at)
  where
    by : (x : Option ℕ) (b : Bool) → or_else x (if b then d.word else a r) ≡ or_else (later x (if b then Some d.word else None)) (a r)
    by (Some y) b = refl
    by None true = refl
    by None false = refl

keeps-append : (m : Machine) (g : Grip) (w : World) (a : WordPlace → ℕ) (xs ys : List Due) → Keeps m g w a xs → Keeps m g w (stored xs a) ys → Keeps m g w a (xs ++ ys)
keeps-append m g w a [] ys k l = l
keeps-append m g w a (d ∷ xs) ys k l = (k.0, keeps-append m g w (put_word a d.at d.word) xs ys k.1 l)

keeps-page : (m : Machine) (g : Grip) (w : World) (a : WordPlace → ℕ) (p n : ℕ) (xs : ℕ → ℕ) → ((i : ℕ) → i < n → IsIn m (Word p i) × Owes g w (Word p i) KeepsNothing) → Keeps m g w a (words_from p n xs)
unfolding words_from
keeps-page m g w a p zero xs h = tt
keeps-page m g w a p (suc n) xs h =
    let one = h n (omega arith) in
    keeps-append m g w a (words_from p n xs) (due (Word p n) (xs n) ∷ []) (keeps-page m g w a p n xs (λ i l. h i (omega arith))) ((one.0, (KeepsNothing, one.1, tt)), tt)

one-keeps : (m : Machine) (g : Grip) (w : World) (mem : Memory) (c : Change) → MayOwe m g w mem c → Keeps m g w mem.words (stores_of c mem)
one-keeps m g w mem (Put q x) may = ((may.0, (may.1.0, may.1.1, may.1.2)), tt)
one-keeps m g w mem (PutHash q x) may = ((may.0, (KeepsNothing, may.1, tt)), tt)
one-keeps m g w mem (Raise q more) may = absurd may
one-keeps m g w mem (Clear p) may = keeps-page m g w mem.words p 512 (λ i. 0) (λ i l. ((may.0, l), may.1 i l))
one-keeps m g w mem (Copy p q) may = absurd may
one-keeps m g w mem (Swap h made) may = tt

pub owed-keeps : (m : Machine) (g : Grip) (w : World) (mem : Memory) (cs : List Change) → MayOweAll m g w mem cs → Keeps m g w mem.words (all_stores cs mem)
owed-keeps m g w mem [] may = tt
owed-keeps m g w mem (c ∷ cs) may =
    let rest = owed-keeps m g w (changed c mem) cs may.1 in
    keeps-append m g w mem.words (stores_of c mem) (all_stores cs (changed c mem)) (one-keeps m g w mem c may.0)
    (keeps-same m g g w w (changed c mem).words (stored (stores_of c mem) mem.words) (all_stores cs (changed c mem)) (λ q k o. o)
    (λ q k in_q o. one-is m c mem q in_q ∙ sym (stored-is (stores_of c mem) mem.words q)) rest)

-- what is looked at is the same before and after them
stays-looked : ViewsAreKept → PlacesInjective → (m : Machine) (g : Grip) (w : World) (a : WordPlace → ℕ) (ds : List Due) (q : WordPlace) (v : View) → Keeps m g w a ds → ((k : Grade) → Owes g w q k → spares k v ≡ false → ⊥)
    → look v (stored ds a q) ≡ look v (a q)
stays-looked views inj m g w a [] q v k never = refl
stays-looked views inj m g w a (d ∷ ds) q v k never = stays-looked views inj m g w (put_word a d.at d.word) ds q v k.1 never ∙ by (same_place q d.at) refl
  where
    sparing : (b : Bool) → spares k.0.1.0 v ≡ b → Owes g w q k.0.1.0 → spares k.0.1.0 v ≡ true
    sparing true e o = e
    sparing false e o = absurd (never k.0.1.0 o e)

    by : (b : Bool) → same_place q d.at ≡ b → look v (put_word a d.at d.word q) ≡ look v (a q)
    by false e = rw e refl
    by true e =
        let at : q ≡ d.at = (inj.same q d.at).0 e in
        let spared : spares k.0.1.0 v ≡ true = sparing (spares k.0.1.0 v) refl (subst (λ (z : WordPlace). Owes g w z k.0.1.0) (sym at) k.0.1.1) in
        rw e (views.kept k.0.1.0 v (a q) d.word spared (subst (λ (z : WordPlace). IsKept k.0.1.0 (a z) d.word) (sym at) k.0.1.2))

-- so memory with all that is due laid over it looks as memory does
pub laid-looks : ViewsAreKept → PlacesInjective → (m : Machine) (n : ℕ) (pend : ℕ → List Due) (a : WordPlace → ℕ) (q : WordPlace) (v : View)
    → ((p : ℕ) → p < n → (last_at (pend p) q ≡ None) ⊎ ((g : Grip) × (w : World) × Keeps m g w a (pend p) × ((k : Grade) → Owes g w q k → spares k v ≡ false → ⊥)))
    → look v (laid n pend a q) ≡ look v (a q)
laid-looks views inj m zero pend a q v h = refl
laid-looks views inj m (suc n) pend a q v h = by (last_at (pend n) q) refl (h n (omega arith)) (laid-looks views inj m n pend a q v (λ p l. h p (omega arith)))
  where
    by : (x : Option ℕ) → last_at (pend n) q ≡ x → (last_at (pend n) q ≡ None) ⊎ ((g : Grip) × (w : World) × Keeps m g w a (pend n) × ((k : Grade) → Owes g w q k → spares k v ≡ false → ⊥))
        → look v (laid n pend a q) ≡ look v (a q) → look v (or_else (last_at (pend n) q) (laid n pend a q)) ≡ look v (a q)
    by None e c further = rw e further
    by (Some x) e (inl none) further = cc
    by (Some x) e (inr c) further =
        let kept = stays-looked views inj m c.0 c.1 a (pend n) q v c.2 c.3 in
        let at : stored (pend n) a q ≡ x = stored-is (pend n) a q ∙ ap (λ (o : Option ℕ). or_else o (a q)) e in
        ap (λ (o : Option ℕ). look v (or_else o (laid n pend a q))) e ∙ (ap (look v) (sym at) ∙ kept)
