-- Swaps that are due: the hashers that processors have still to put into slots, laid over the slots.
use Rattle.std.proofs.Common.{◌≡◌, ℕ, Bool, true, false, ◌==◌, if◌then◌else◌, List, [], ◌∷◌, ◌++◌, Option, Some, None, refl, ap, sym, ◌∙◌, subst}
use Rattle.std.proofs.lemmas.Bool.{eqb-true}
use Rattle.td_words.specs.declared.machines.Machine.{Machine}
use Rattle.flat_core.specs.World.{World}
use Rattle.word_rules.specs.Guards.{Grip}
use Rattle.word_rules.specs.Permissions.{SwapsOwed}
use Rattle.leaf_engine.specs.Changes.{Hand, Memory, Change, Put, PutHash, Raise, Clear, Copy, Swap, put_slot, changed, changed_all}
use Rattle.leaf_engine.specs.Means.{IsHkid, MayOweAll}
use Rattle.merge_laws.proofs.Stores.{later, or_else, over, later-none, later-later, or-test, or-later}

-- what is put into the slot of an HKID, and what is taken out of it
pub record SwapDue : Type 0 where
  pub hkid : ℕ
  pub put : Hand
  pub taken : Hand

-- what a list of swaps leaves in a slot, if it swaps there
abbrev pub last_put : List SwapDue → ℕ → Option Hand
last_put [] k = None
last_put (d ∷ ds) k = later (last_put ds k) (if k == d.hkid then Some d.put else None)

-- slots with the swaps that each of the first n processors has due laid over them
abbrev pub slots_laid : ℕ → (ℕ → List SwapDue) → (ℕ → Hand) → ℕ → Hand
slots_laid n pend a k = over n (λ q. last_put (pend q) k) (a k)

-- the swaps that changes are made in
abbrev pub swaps_of : Change → Memory → List SwapDue
swaps_of (Swap h made) mem = record { hkid = h; put = made mem.hand; taken = mem.slots h } ∷ []
swaps_of _ mem = []

abbrev pub all_swaps : List Change → Memory → List SwapDue
all_swaps [] mem = []
all_swaps (c ∷ cs) mem = swaps_of c mem ++ all_swaps cs (changed c mem)

-- swaps that are owed over these slots, in order: each takes what is in its slot then
abbrev pub SwapsMay : Machine → Grip → World → (ℕ → Hand) → List SwapDue → Type 0
SwapsMay m g w a [] = Unit {0}
SwapsMay m g w a (d ∷ ds) = (IsHkid m d.hkid × SwapsOwed g w d.hkid × (d.taken ≡ a d.hkid)) × SwapsMay m g w (put_slot a d.hkid d.put) ds

-- a slot where one is due
pub swap-at : (m : Machine) (g : Grip) (w : World) (a : ℕ → Hand) (ds : List SwapDue) (k : ℕ) (x : Hand) → SwapsMay m g w a ds → last_put ds k ≡ Some x → SwapsOwed g w k
swap-at m g w a [] k x may e = cc
swap-at m g w a (d ∷ ds) k x may e = by (last_put ds k) refl (k == d.hkid) refl (λ y f. swap-at m g w (put_slot a d.hkid d.put) ds k y may.1 f)
  where
    by : (o : Option Hand) → last_put ds k ≡ o → (t : Bool) → (k == d.hkid) ≡ t → ((y : Hand) → last_put ds k ≡ Some y → SwapsOwed g w k) → SwapsOwed g w k
    by (Some y) f t h further = further y f
    by None f true h further = (let k-is : k ≡ d.hkid = eqb-true k d.hkid h in subst (λ (z : ℕ). SwapsOwed g w z) (sym k-is) may.0.1)
    by None f false h further =
        let none : last_put (d ∷ ds) k ≡ None = rw (f, h) refl in
        cc

-- over slots that are the same where one may be owed
pub swaps-same : (m : Machine) (g h : Grip) (w w' : World) (a b : ℕ → Hand) (ds : List SwapDue) → ((k : ℕ) → SwapsOwed g w k → SwapsOwed h w' k) → ((k : ℕ) → IsHkid m k → SwapsOwed g w k → a k ≡ b k) → SwapsMay m g w a ds → SwapsMay m h w' b ds
swaps-same m g h w w' a b [] o f may = tt
swaps-same m g h w w' a b (d ∷ ds) o f may = (
  (may.0.0, o d.hkid may.0.1, may.0.2 ∙ f d.hkid may.0.0 may.0.1),
  swaps-same m g h w w' (put_slot a d.hkid d.put) (put_slot b d.hkid d.put) ds o (λ k i owes. both (k == d.hkid) d.put (f k i owes)) may.1,
)
  where
    both : (t : Bool) (x : Hand) {y z : Hand} → y ≡ z → (if t then x else y) ≡ (if t then x else z)
    both true x e = refl
    both false x e = e

pub put-append : (xs ys : List SwapDue) (k : ℕ) → last_put (xs ++ ys) k ≡ later (last_put ys k) (last_put xs k)
put-append [] ys k = sym (later-none (last_put ys k))
put-append (d ∷ xs) ys k = rw (put-append xs ys k) (later-later (last_put ys k) (last_put xs k) (if k == d.hkid then Some d.put else None))

-- what changes make of slots is their swaps laid over them
pub one-slot : (c : Change) (mem : Memory) (k : ℕ) → (changed c mem).slots k ≡ or_else (last_put (swaps_of c mem) k) (mem.slots k)
one-slot (Put q x) mem k = refl
one-slot (PutHash q x) mem k = refl
one-slot (Raise q more) mem k = refl
one-slot (Clear p) mem k = refl
one-slot (Copy p q) mem k = refl
one-slot (Swap h made) mem k = or-test (k == h) (made mem.hand) (mem.slots k)

pub changed-slots : (cs : List Change) (mem : Memory) (k : ℕ) → (changed_all cs mem).slots k ≡ or_else (last_put (all_swaps cs mem) k) (mem.slots k)
changed-slots [] mem k = refl
changed-slots (c ∷ cs) mem k =
    let after : Option Hand = last_put (all_swaps cs (changed c mem)) k in
    changed-slots cs (changed c mem) k
    ∙ (ap (λ (y : Hand). or_else after y) (one-slot c mem k)
    ∙ (sym (or-later after (last_put (swaps_of c mem) k) (mem.slots k))
    ∙ ap (λ (o : Option Hand). or_else o (mem.slots k)) (sym (put-append (swaps_of c mem) (all_swaps cs (changed c mem)) k))))

-- the swaps of changes that are owed
pub owed-swaps : (m : Machine) (g : Grip) (w : World) (mem : Memory) (cs : List Change) → MayOweAll m g w mem cs → SwapsMay m g w mem.slots (all_swaps cs mem)
owed-swaps m g w mem [] may = tt
owed-swaps m g w mem (Put q x ∷ cs) may = owed-swaps m g w (changed (Put q x) mem) cs may.1
owed-swaps m g w mem (PutHash q x ∷ cs) may = owed-swaps m g w (changed (PutHash q x) mem) cs may.1
owed-swaps m g w mem (Raise q more ∷ cs) may = absurd may.0
owed-swaps m g w mem (Clear p ∷ cs) may = owed-swaps m g w (changed (Clear p) mem) cs may.1
owed-swaps m g w mem (Copy p q ∷ cs) may = absurd may.0
owed-swaps m g w mem (Swap h made ∷ cs) may = ((may.0.0, may.0.1, refl), owed-swaps m g w (changed (Swap h made) mem) cs may.1)
