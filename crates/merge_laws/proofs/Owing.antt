-- What a processor owes after its act, item by item. What an item stores or puts into a slot may depend on the hasher in
-- hand, and which one it takes out of a slot shows only when it is made: so each says of the next only what holds while the
-- hasher in hand is the one expected.
use Rattle.std.proofs.Common.{◌≡◌, ◌⊎◌, ℕ, ◌-◌, List, [], ◌∷◌, ◌++◌, Option, refl, ap, sym, ◌∙◌, subst, inl, inr}
use Rattle.td_words.specs.declared.machines.Machine.{Machine}
use Rattle.td_words.specs.Place.{address}
use Rattle.mrtd_measure.specs.declared.measures.Measure.{Measure}
use Rattle.flat_core.specs.World.{World}
use Rattle.word_rules.specs.Guards.{Grip}
use Rattle.step_core.specs.declared.steps.WordStep.{WordStep}
use Rattle.step_core.specs.declared.steps.WordStep.TheVariants as step
use Rattle.step_core.specs.declared.items.Taken.{Taken}
use Rattle.step_core.specs.declared.items.Taken.TheVariants.{Stepped, Swapped, Missed}
use Rattle.leaf_engine.specs.Changes.{Hand, Memory, Change, Put, PutHash, Raise, Clear, Copy, Swap, changed}
use Rattle.leaf_engine.specs.Means.{MayOwe, MayOweAll}
use Rattle.leaf_engine.specs.declared.needs.Write.{Write}
use Rattle.leaf_engine.specs.declared.needs.Write.TheVariants as write
use Rattle.leaf_engine.specs.Decides.{IsHand}
use Rattle.leaf_engine.specs.Items.{IsWritten, IsChanged, AreChanged}
use Rattle.merge_laws.proofs.Stores.{Due, words_from, stores_of, all_stores, AreStores, clears-are}
use Rattle.merge_laws.proofs.Swaps.{SwapDue, swaps_of, all_swaps}

-- a store, or a swap
pub data Owed : Type 0 where
  Stores : (due : Due) → Owed
  Swaps : (due : SwapDue) → Owed

abbrev pub stores_in : List Owed → List Due
stores_in [] = []
stores_in (Stores d ∷ os) = d ∷ stores_in os
stores_in (Swaps d ∷ os) = stores_in os

abbrev pub swaps_in : List Owed → List SwapDue
swaps_in [] = []
swaps_in (Stores d ∷ os) = swaps_in os
swaps_in (Swaps d ∷ os) = d ∷ swaps_in os

-- the item is this store, and the others are what is left
pub record FirstStores (n : ℕ) (xs : List Taken) (d : Due) (rest : List Taken → Type 0) : Type 0 where
  pub answer : ℕ
  pub further : List Taken
  pub items : xs ≡ Stepped (step.Store (address n d.at) d.word) answer ∷ further
  pub then_ : rest further

-- it is this swap, or it misses
pub record FirstSwaps (xs : List Taken) (d : SwapDue) (rest : Option Measure → List Taken → Type 0) : Type 0 where
  pub put : Option Measure
  pub taken : Option Measure
  pub further : List Taken
  pub items : xs ≡ Swapped (d.hkid - 1) put taken ∷ further
  pub is_put : IsHand put d.put
  pub then_ : rest taken further

pub record FirstMisses (xs : List Taken) (d : SwapDue) : Type 0 where
  pub further : List Taken
  pub items : xs ≡ Missed (d.hkid - 1) ∷ further

-- items that are these, in order, with the hasher in hand before and at their end
abbrev pub AreOwed : ℕ → Option Measure → Hand → List Taken → List Owed → Option Measure → Type 0
AreOwed n h hand xs [] last = IsHand h hand → (xs ≡ []) × IsHand last hand
AreOwed n h hand xs (Stores d ∷ os) last = IsHand h hand → FirstStores n xs d (λ ys. AreOwed n h hand ys os last)
AreOwed n h hand xs (Swaps d ∷ os) last = IsHand h hand → FirstSwaps xs d (λ k ys. AreOwed n k d.taken ys os last) ⊎ FirstMisses xs d

-- those of changes

abbrev pub as_stores : List Due → List Owed
as_stores [] = []
as_stores (d ∷ ds) = Stores d ∷ as_stores ds

abbrev pub as_swaps : List SwapDue → List Owed
as_swaps [] = []
as_swaps (d ∷ ds) = Swaps d ∷ as_swaps ds

abbrev pub owed_of : Change → Memory → List Owed
owed_of c mem = as_stores (stores_of c mem) ++ as_swaps (swaps_of c mem)

abbrev pub all_owed : List Change → Memory → List Owed
all_owed [] mem = []
all_owed (c ∷ cs) mem = owed_of c mem ++ all_owed cs (changed c mem)

stores-append : (os ps : List Owed) → stores_in (os ++ ps) ≡ stores_in os ++ stores_in ps
stores-append [] ps = refl
stores-append (Stores d ∷ os) ps = ap (λ (z : List Due). d ∷ z) (stores-append os ps)
stores-append (Swaps d ∷ os) ps = stores-append os ps

swaps-append : (os ps : List Owed) → swaps_in (os ++ ps) ≡ swaps_in os ++ swaps_in ps
swaps-append [] ps = refl
swaps-append (Stores d ∷ os) ps = swaps-append os ps
swaps-append (Swaps d ∷ os) ps = ap (λ (z : List SwapDue). d ∷ z) (swaps-append os ps)

as-stores : (ds : List Due) (es : List SwapDue) → stores_in (as_stores ds ++ as_swaps es) ≡ ds
as-stores [] [] = refl
as-stores [] (e ∷ es) = as-stores [] es
as-stores (d ∷ ds) es = ap (λ (z : List Due). d ∷ z) (as-stores ds es)

as-swaps : (ds : List Due) (es : List SwapDue) → swaps_in (as_stores ds ++ as_swaps es) ≡ es
as-swaps [] [] = refl
as-swaps [] (e ∷ es) = ap (λ (z : List SwapDue). e ∷ z) (as-swaps [] es)
as-swaps (d ∷ ds) es = as-swaps ds es

pub stores-are : (cs : List Change) (mem : Memory) → stores_in (all_owed cs mem) ≡ all_stores cs mem
stores-are [] mem = refl
stores-are (c ∷ cs) mem =
    stores-append (owed_of c mem) (all_owed cs (changed c mem))
    ∙ (ap (λ (z : List Due). z ++ stores_in (all_owed cs (changed c mem))) (as-stores (stores_of c mem) (swaps_of c mem))
    ∙ ap (λ (z : List Due). stores_of c mem ++ z) (stores-are cs (changed c mem)))

pub swaps-are : (cs : List Change) (mem : Memory) → swaps_in (all_owed cs mem) ≡ all_swaps cs mem
swaps-are [] mem = refl
swaps-are (c ∷ cs) mem =
    swaps-append (owed_of c mem) (all_owed cs (changed c mem))
    ∙ (ap (λ (z : List SwapDue). z ++ swaps_in (all_owed cs (changed c mem))) (as-swaps (stores_of c mem) (swaps_of c mem))
    ∙ ap (λ (z : List SwapDue). swaps_of c mem ++ z) (swaps-are cs (changed c mem)))

-- the hasher that is expected in hand behind them
abbrev hand_behind : Hand → List Owed → Hand
hand_behind hand [] = hand
hand_behind hand (Stores d ∷ os) = hand_behind hand os
hand_behind hand (Swaps d ∷ os) = hand_behind d.taken os

while-in-hand : (n : ℕ) (h : Option Measure) (hand : Hand) (xs : List Taken) (os : List Owed) (last : Option Measure) → (IsHand h hand → AreOwed n h hand xs os last) → AreOwed n h hand xs os last
while-in-hand n h hand xs [] last f = λ i. f i i
while-in-hand n h hand xs (Stores d ∷ os) last f = λ i. f i i
while-in-hand n h hand xs (Swaps d ∷ os) last f = λ i. f i i

-- with another hasher that holds the same
with-other : (n : ℕ) (h k : Option Measure) (hand : Hand) (xs : List Taken) (os : List Owed) (last : Option Measure) → IsHand k hand → AreOwed n k hand xs os last → AreOwed n h hand xs os last
with-other n h k hand xs [] last i a = λ j. a i
with-other n h k hand xs (Stores d ∷ os) last i a = λ j. (let r = a i in record { answer = r.answer; further = r.further; items = r.items; then_ = with-other n h k hand r.further os last i r.then_ })
with-other n h k hand xs (Swaps d ∷ os) last i a = λ j. a i

owed-append : (n : ℕ) (h : Option Measure) (hand : Hand) (xs : List Taken) (os : List Owed) (between : Option Measure) (ys : List Taken) (ps : List Owed) (last : Option Measure) → AreOwed n h hand xs os between
    → AreOwed n between (hand_behind hand os) ys ps last → AreOwed n h hand (xs ++ ys) (os ++ ps) last
owed-append n h hand xs [] between ys ps last a b =
    while-in-hand n h hand (xs ++ ys) ps last (λ i.
    (let r = a i in subst (λ (z : List Taken). AreOwed n h hand (z ++ ys) ps last) (sym r.0) (with-other n h between hand ys ps last r.1 b)))
owed-append n h hand xs (Stores d ∷ os) between ys ps last a b = λ i.
    (let r = a i in
    record { answer = r.answer; further = r.further ++ ys; items = ap (λ (z : List Taken). z ++ ys) r.items; then_ = owed-append n h hand r.further os between ys ps last r.then_ b })
owed-append n h hand xs (Swaps d ∷ os) between ys ps last a b = λ i. by (a i) (λ k zs r. owed-append n k d.taken zs os between ys ps last r b)
  where
    by : FirstSwaps xs d (λ k zs. AreOwed n k d.taken zs os between) ⊎ FirstMisses xs d → ((k : Option Measure) (zs : List Taken) → AreOwed n k d.taken zs os between → AreOwed n k d.taken (zs ++ ys) (os ++ ps) last)
        → FirstSwaps (xs ++ ys) d (λ k zs. AreOwed n k d.taken zs (os ++ ps) last) ⊎ FirstMisses (xs ++ ys) d
    by (inl r) further = inl (record {
      put = r.put;
      taken = r.taken;
      further = r.further ++ ys;
      items = ap (λ (z : List Taken). z ++ ys) r.items;
      is_put = r.is_put;
      then_ = further r.taken r.further r.then_;
    })
    by (inr r) further = inr (record { further = r.further ++ ys; items = ap (λ (z : List Taken). z ++ ys) r.items })

stores-owed : (n : ℕ) (h : Option Measure) (hand : Hand) (xs : List Taken) (ds : List Due) (last : Option Measure) → AreStores n xs ds → IsHand last hand → AreOwed n h hand xs (as_stores ds) last
stores-owed n h hand [] [] last a i = λ j. (refl, i)
stores-owed n h hand [] (d ∷ ds) last a i = absurd a
stores-owed n h hand (Stepped s x ∷ xs) [] last a i = absurd a
stores-owed n h hand (Stepped s x ∷ xs) (d ∷ ds) last a i = λ j.
    record { answer = x; further = xs; items = ap (λ (z : WordStep). Stepped z x ∷ xs) a.0; then_ = stores-owed n h hand xs ds last a.1 i }
stores-owed n h hand (Swapped k put taken ∷ xs) ds last a i = absurd a
stores-owed n h hand (Missed k ∷ xs) ds last a i = absurd a

no-swap : (os : List Owed) → os ++ [] ≡ os
no-swap [] = refl
no-swap (o ∷ os) = ap (λ (z : List Owed). o ∷ z) (no-swap os)

-- the items of one change, and of all that are owed
one-owed : (m : Machine) (g : Grip) (w : World) (mem : Memory) (c : Change) (h h' : Option Measure) (xs : List Taken) → MayOwe m g w mem c → IsChanged m c h xs h' → AreOwed m.pages h mem.hand xs (owed_of c mem) h'
one-owed m g w mem (Put q x) h h' xs may ch = λ i.
    (let handed = ch.handed mem.hand i in
    let written : IsWritten (write.Word (step.Store (address m.pages q) x)) ch.between xs h' = subst (λ (z : Write). IsWritten z ch.between xs h') handed.0 ch.written in
    record { answer = written.1.0; further = []; items = written.1.1; then_ = λ j. (refl, subst (λ (z : Option Measure). IsHand z mem.hand) (sym written.0) handed.1) })
one-owed m g w mem (PutHash q x) h h' xs may ch = λ i.
    (let handed = ch.handed mem.hand i in
    let written : IsWritten (write.Word (step.Store (address m.pages q) (x mem.hand))) ch.between xs h' = subst (λ (z : Write). IsWritten z ch.between xs h') handed.0 ch.written in
    record { answer = written.1.0; further = []; items = written.1.1; then_ = λ j. (refl, subst (λ (z : Option Measure). IsHand z mem.hand) (sym written.0) handed.1) })
one-owed m g w mem (Raise q more) h h' xs may ch = absurd may
one-owed m g w mem (Clear p) h h' xs may ch =
    subst (λ (z : List Owed). AreOwed m.pages h mem.hand xs z h') (sym (no-swap (as_stores (words_from p 512 (λ k. 0)))))
    (while-in-hand m.pages h mem.hand xs (as_stores (words_from p 512 (λ k. 0))) h' (λ i.
    (let handed = ch.handed mem.hand i in
    let written : IsWritten (write.Zero p) ch.between xs h' = subst (λ (z : Write). IsWritten z ch.between xs h') handed.0 ch.written in
    stores-owed m.pages h mem.hand xs (words_from p 512 (λ k. 0)) h' (subst (λ (z : List Taken). AreStores m.pages z (words_from p 512 (λ k. 0))) (sym written.1) (clears-are m.pages p 512))
    (subst (λ (z : Option Measure). IsHand z mem.hand) (sym written.0) handed.1))))
one-owed m g w mem (Copy p q) h h' xs may ch = absurd may
one-owed m g w mem (Swap k made) h h' xs may ch = λ i.
    (let handed = ch.handed mem.hand i in by handed.1 (subst (λ (z : Write). IsWritten z ch.between xs h') handed.0 ch.written))
  where
    due : SwapDue
    due = record { hkid = k; put = made mem.hand; taken = mem.slots k }

    by : IsHand ch.between (made mem.hand) → IsWritten (write.Swap (k - 1)) ch.between xs h' → FirstSwaps xs due (λ l ys. AreOwed m.pages l due.taken ys [] h') ⊎ FirstMisses xs due
    by i (inl e) = inl (record { put = ch.between; taken = h'; further = []; items = e; is_put = i; then_ = λ j. (refl, j) })
    by i (inr e) = inr (record { further = []; items = e.1 })

stores-behind : (hand : Hand) (ds : List Due) → hand_behind hand (as_stores ds ++ []) ≡ hand
stores-behind hand [] = refl
stores-behind hand (d ∷ ds) = stores-behind hand ds

one-behind : (m : Machine) (g : Grip) (w : World) (c : Change) (mem : Memory) → MayOwe m g w mem c → hand_behind mem.hand (owed_of c mem) ≡ (changed c mem).hand
one-behind m g w (Put q x) mem may = refl
one-behind m g w (PutHash q x) mem may = refl
one-behind m g w (Raise q more) mem may = absurd may
one-behind m g w (Clear p) mem may = stores-behind mem.hand (words_from p 512 (λ k. 0))
one-behind m g w (Copy p q) mem may = absurd may
one-behind m g w (Swap k made) mem may = refl

pub owed-items : (m : Machine) (g : Grip) (w : World) (mem : Memory) (cs : List Change) (h h' : Option Measure) (xs : List Taken) → MayOweAll m g w mem cs → AreChanged m cs h xs h' → AreOwed m.pages h mem.hand xs (all_owed cs mem) h'
owed-items m g w mem [] h h' xs may ch = λ i. (ch.1, subst (λ (z : Option Measure). IsHand z mem.hand) (sym ch.0) i)
owed-items m g w mem (c ∷ cs) h h' xs may ch =
    let between : Option Measure = ch.0 in
    let ys : List Taken = ch.1.0 in
    let zs : List Taken = ch.1.1.0 in
    subst (λ (z : List Taken). AreOwed m.pages h mem.hand z (all_owed (c ∷ cs) mem) h') (sym ch.1.1.1)
    (owed-append m.pages h mem.hand ys (owed_of c mem) between zs (all_owed cs (changed c mem)) h' (one-owed m g w mem c h between ys may.0 ch.1.1.2)
    (subst (λ (z : Hand). AreOwed m.pages between z zs (all_owed cs (changed c mem)) h') (sym (one-behind m g w c mem may.0)) (owed-items m g w (changed c mem) cs between h' zs may.1 ch.1.1.3)))
