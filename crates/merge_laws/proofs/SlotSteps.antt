-- What pieces of a merge make of slots, and of the swaps that are due there.
use Rattle.std.proofs.Common.{◌≡◌, ◌≢◌, ℕ, ◌-◌, ◌<◌, Bool, true, false, ◌==◌, if◌then◌else◌, List, [], ◌∷◌, length, Option, Some, None, refl, ap, sym, ◌∙◌, subst}
use Rattle.std.proofs.lemmas.Bool.{eqb-true, eq-eqb}
use Rattle.td_words.specs.declared.machines.Machine.{Machine}
use Rattle.mrtd_measure.specs.declared.measures.Measure.{Measure}
use Rattle.flat_core.specs.World.{World, put}
use Rattle.flat_core.specs.Processor.{Lp}
use Rattle.flat_core.specs.Opening.{Opening}
use Rattle.flat_core.specs.Event.{State, event}
use Rattle.flat_core.proofs.Tests.{put_here}
use Rattle.word_rules.specs.Guards.{Grip, Apart}
use Rattle.word_rules.specs.Permissions.{SwapsAct, SwapsOwed, Respects}
use Rattle.step_core.specs.Items.{Table, with_slot}
use Rattle.leaf_engine.specs.Changes.{Hand, Memory, put_slot}
use Rattle.leaf_engine.specs.Means.{IsHkid}
use Rattle.leaf_engine.specs.Decides.{IsHand}
use Rattle.leaf_engine.proofs.Changing.{slot_put}
use Rattle.merge_laws.proofs.Stores.{or_else, first-at, not-at, over-none, over-one, over-same}
use Rattle.merge_laws.proofs.Swaps.{SwapDue, last_put, slots_laid, SwapsMay, swap-at, swaps-same}
use Rattle.lock_words.specs.Grips.{grip_of}
use Rattle.merge_laws.proofs.Holding.{bare, locks_at, lock_grip_of, IsPart, locks-part, part-meets, turned-round}
use Rattle.merge_laws.proofs.Standing.{Laws, Trees, Known, Position, Slots, Stands}
use Rattle.merge_laws.proofs.Own.{at-other, apart-from}

-- its own swaps stay as they are
pub slots-stay : (o : Opening) (s : State) (shown : ℕ → Hand) (table : ℕ → Option Measure) (pos : ℕ → Position) (p : ℕ) (now : Position) → Slots o s shown table pos → now.swaps ≡ (pos p).swaps → Slots o s shown table (put pos p now)
slots-stay o s shown table pos p now sl e = record {
  now = sl.now;
  there = sl.there;
  laid_is = λ h i. sl.laid_is h i ∙ over-same (length o.calls) (λ k. last_put (pos k).swaps h) (λ k. last_put (put pos p now k).swaps h) (sl.now h) (sl.now h) (λ k j. ap (λ (z : List SwapDue). last_put z h) (sym (same k))) refl;
  may = λ k j. subst (λ (z : List SwapDue). SwapsMay o.machine (lock_grip_of s k) s.world sl.now z) (sym (same k)) (sl.may k j);
}
  where
    same : (k : ℕ) → (put pos p now k).swaps ≡ (pos k).swaps
    same k = by (k == p) refl
      where
        by : (b : Bool) → (k == p) ≡ b → (put pos p now k).swaps ≡ (pos k).swaps
        by true f = (let k-is : k ≡ p = eqb-true k p f in subst (λ (z : ℕ). (put pos p now z).swaps ≡ (pos z).swaps) (sym k-is) (ap (λ (z : Position). z.swaps) (put_here pos p now) ∙ e))
        by false f = ap (λ (z : Position). z.swaps) (at-other pos p k now f)

-- nobody else may owe a swap there
pub no-other : (ls : Laws) (o : Opening) (trees : Trees) (s : State) (mem : Memory) (t : Table) (pos : ℕ → Position) (p h : ℕ) (g' : Grip) → IsPart g' (grip_of s p) → Known o s → Stands o trees s mem t pos → p < length o.calls
    → ((k : ℕ) → Apart (lock_grip_of s k) g' → SwapsOwed (lock_grip_of s k) s.world h → ⊥) → (k : ℕ) → k < length o.calls → (k == p) ≡ false → last_put (pos k).swaps h ≡ None
no-other ls o trees s mem t pos p h g' part known sd i never k j e = by (last_put (pos k).swaps h) refl
  where
    by : (x : Option Hand) → last_put (pos k).swaps h ≡ x → last_put (pos k).swaps h ≡ None
    by None f = f
    by (Some x) f = absurd (never k (apart-from ls o s p k g' known i j e part) (swap-at o.machine (lock_grip_of s k) s.world sd.slots.now (pos k).swaps h x (sd.slots.may k j) f))

-- where neither others nor it owe a swap, the slot is as it is shown
pub slot-shown : (ls : Laws) (o : Opening) (trees : Trees) (s : State) (mem : Memory) (t : Table) (pos : ℕ → Position) (p h : ℕ) (g' : Grip) → IsPart g' (grip_of s p) → Known o s → (sd : Stands o trees s mem t pos) → p < length o.calls → (pos p).swaps ≡ [] → IsHkid o.machine h
    → ((k : ℕ) → Apart (lock_grip_of s k) g' → SwapsOwed (lock_grip_of s k) s.world h → ⊥) → mem.slots h ≡ sd.slots.now h
slot-shown ls o trees s mem t pos p h g' part known sd i none in_h never = sd.slots.laid_is h in_h ∙ over-none (length o.calls) (λ k. last_put (pos k).swaps h) (sd.slots.now h) (λ k j. by k j (k == p) refl)
  where
    by : (k : ℕ) → k < length o.calls → (b : Bool) → (k == p) ≡ b → last_put (pos k).swaps h ≡ None
    by k j true e = (let k-is : k ≡ p = eqb-true k p e in ap (λ (z : ℕ). last_put (pos z).swaps h) k-is ∙ ap (λ (z : List SwapDue). last_put z h) none)
    by k j false e = no-other ls o trees s mem t pos p h g' part known sd i never k j e

-- an event: what its item puts into slots, and the swaps that are owed then
pub record EventSwaps (m : Machine) (g act g' : Grip) (w w' : World) (before after now : ℕ → Hand) (table : ℕ → Option Measure) (first owed : List SwapDue) : Type 0 where
  pub respects : Respects act w w'
  pub there : (h : ℕ) → IsHkid m h → IsHand (table (h - 1)) (or_else (last_put first h) (now h))
  pub makes : (h : ℕ) → IsHkid m h → after h ≡ or_else (last_put owed h) (or_else (last_put first h) (before h))
  pub written : (h : ℕ) (x : Hand) → last_put first h ≡ Some x → SwapsAct act w h
  pub may : SwapsMay m g w' (λ h. or_else (last_put first h) (before h)) owed
  pub held : SwapsMay m g w' (λ h. or_else (last_put first h) (now h)) owed → SwapsMay m g' w' (λ h. or_else (last_put first h) (now h)) owed

pub slots-event : (ls : Laws) (o : Opening) (trees : Trees) (s : State) (mem : Memory) (t : Table) (table : ℕ → Option Measure) (pos : ℕ → Position) (p : ℕ) (after : ℕ → Hand) (first : List SwapDue) (now : Position) (act : Grip) → IsPart act (grip_of s p) → IsPart (lock_grip_of s p) act → Known o s → (sd : Stands o trees s mem t pos) → p < length o.calls
    → (pos p).swaps ≡ [] → EventSwaps o.machine (lock_grip_of s p) act (lock_grip_of (event o s p) p) s.world (event o s p).world mem.slots after sd.slots.now table first now.swaps
    → Slots o (event o s p) after table (put pos p now)
slots-event ls o trees s mem t table pos p after first now act part mine-part known sd i none ev = record {
  now = base;
  there = ev.there;
  laid_is = λ h in_h. ev.makes h in_h ∙ laid-after h in_h (last_put now.swaps h) (last_put first h) refl refl;
  may = λ k j. may k j (k == p) refl;
}
  where
    mine : Grip
    mine = lock_grip_of s p

    w' : World
    w' = (event o s p).world

    base : ℕ → Hand
    base h = or_else (last_put first h) (sd.slots.now h)

    own : (h : ℕ) → last_put (put pos p now p).swaps h ≡ last_put now.swaps h
    own h = ap (λ (z : Position). last_put z.swaps h) (put_here pos p now)

    other : (k h : ℕ) → (k == p) ≡ false → last_put (put pos p now k).swaps h ≡ last_put (pos k).swaps h
    other k h e = ap (λ (z : Position). last_put z.swaps h) (at-other pos p k now e)

    owed-alone : (h : ℕ) → SwapsOwed mine w' h → (k : ℕ) → Apart (lock_grip_of s k) act → SwapsOwed (lock_grip_of s k) s.world h → ⊥
    owed-alone h may k apart owes = (ls.acts (lock_grip_of s k) act s.world w' apart ev.respects).owed_swaps_later h owes (part-meets mine act _ _ mine-part may)

    first-alone : (h : ℕ) (x : Hand) → last_put first h ≡ Some x → (k : ℕ) → Apart (lock_grip_of s k) act → SwapsOwed (lock_grip_of s k) s.world h → ⊥
    first-alone h x e k apart owes = (ls.words act (lock_grip_of s k) s.world (turned-round (lock_grip_of s k) act apart)).swaps_owed h (ev.written h x e) owes

    lay : ℕ → Hand
    lay h = slots_laid (length o.calls) (λ k. (put pos p now k).swaps) base h

    lay-alone : (h : ℕ) → ((k : ℕ) → Apart (lock_grip_of s k) act → SwapsOwed (lock_grip_of s k) s.world h → ⊥) → lay h ≡ or_else (last_put now.swaps h) (base h)
    lay-alone h never =
        over-one (length o.calls) p (λ k. last_put (put pos p now k).swaps h) (base h) i (λ k j e. other k h e ∙ no-other ls o trees s mem t pos p h act part known sd i never k j e)
        ∙ ap (λ (z : Option Hand). or_else z (base h)) (own h)

    shown-now : (h : ℕ) → IsHkid o.machine h → ((k : ℕ) → Apart (lock_grip_of s k) act → SwapsOwed (lock_grip_of s k) s.world h → ⊥) → mem.slots h ≡ sd.slots.now h
    shown-now h in_h never = slot-shown ls o trees s mem t pos p h act part known sd i none in_h never

    laid-after : (h : ℕ) → IsHkid o.machine h → (x y : Option Hand) → last_put now.swaps h ≡ x → last_put first h ≡ y → or_else (last_put now.swaps h) (or_else (last_put first h) (mem.slots h)) ≡ lay h
    laid-after h in_h (Some x) y ex ey =
        let never = owed-alone h (swap-at o.machine mine w' (λ k. or_else (last_put first k) (mem.slots k)) now.swaps h x ev.may ex) in
        ap (λ (z : Hand). or_else (last_put now.swaps h) (or_else (last_put first h) z)) (shown-now h in_h never) ∙ sym (lay-alone h never)
    laid-after h in_h None (Some y) ex ey =
        let never = first-alone h y ey in
        ap (λ (z : Hand). or_else (last_put now.swaps h) (or_else (last_put first h) z)) (shown-now h in_h never) ∙ sym (lay-alone h never)
    laid-after h in_h None None ex ey =
        ap (λ (z : Option Hand). or_else z (or_else (last_put first h) (mem.slots h))) ex
        ∙ (ap (λ (z : Option Hand). or_else z (mem.slots h)) ey
        ∙ (sd.slots.laid_is h in_h
        ∙ over-same (length o.calls) (λ k. last_put (pos k).swaps h) (λ k. last_put (put pos p now k).swaps h) (sd.slots.now h) (base h) (λ k j. same k (k == p) refl)
        (sym (ap (λ (z : Option Hand). or_else z (sd.slots.now h)) ey))))
      where
        same : (k : ℕ) → (b : Bool) → (k == p) ≡ b → last_put (pos k).swaps h ≡ last_put (put pos p now k).swaps h
        same k true e =
            let k-is : k ≡ p = eqb-true k p e in
            subst (λ (z : ℕ). last_put (pos z).swaps h ≡ last_put (put pos p now z).swaps h) (sym k-is) (ap (λ (z : List SwapDue). last_put z h) none ∙ sym (own h ∙ ex))
        same k false e = sym (other k h e)

    may : (k : ℕ) → k < length o.calls → (b : Bool) → (k == p) ≡ b → SwapsMay o.machine (lock_grip_of (event o s p) k) w' base (put pos p now k).swaps
    may k j true e =
        let p-is : p ≡ k = sym (eqb-true k p e) in
        subst (λ (z : ℕ). SwapsMay o.machine (lock_grip_of (event o s p) z) w' base (put pos p now z).swaps) p-is
        (subst (λ (z : Position). SwapsMay o.machine (lock_grip_of (event o s p) p) w' base z.swaps) (sym (put_here pos p now))
        (ev.held (swaps-same o.machine mine mine w' w' (λ h. or_else (last_put first h) (mem.slots h)) base now.swaps (λ h x. x)
        (λ h in_h owes. ap (or_else (last_put first h)) (shown-now h in_h (owed-alone h owes))) ev.may)))
    may k j false e =
        let apart = apart-from ls o s p k act known i j e part in
        let not-p : k ≢ p = λ z. (let bad : (k == p) ≡ true = eq-eqb k p z in cc) in
        subst (λ (z : Position). SwapsMay o.machine (lock_grip_of (event o s p) k) w' base z.swaps) (sym (at-other pos p k now e))
        (subst (λ (z : Lp). SwapsMay o.machine (bare (locks_at z)) w' base (pos k).swaps) (sym (ls.others o s p k not-p))
        (swaps-same o.machine (lock_grip_of s k) (lock_grip_of s k) s.world w' sd.slots.now base (pos k).swaps
        (ls.acts (lock_grip_of s k) act s.world w' apart ev.respects).owed_swaps_kept
        (λ h in_h owes. still h (last_put first h) refl (λ x f. first-alone h x f k apart owes)) (sd.slots.may k j)))
      where
        still : (h : ℕ) (x : Option Hand) → last_put first h ≡ x → ((x : Hand) → last_put first h ≡ Some x → ⊥) → sd.slots.now h ≡ base h
        still h None f never = sym (ap (λ (z : Option Hand). or_else z (sd.slots.now h)) f)
        still h (Some x) f never = absurd (never x f)

-- the first swap that is owed is made
pub slots-swap : (ls : Laws) (o : Opening) (trees : Trees) (s : State) (mem : Memory) (t : Table) (pos : ℕ → Position) (p : ℕ) (d : SwapDue) (ds : List SwapDue) (made : Option Measure) (now : Position) → Known o s → (sd : Stands o trees s mem t pos) → p < length o.calls
    → (pos p).swaps ≡ d ∷ ds → now.swaps ≡ ds → IsHand made d.put → Slots o s mem.slots (with_slot t.slots (d.hkid - 1) made) (put pos p now)
slots-swap ls o trees s mem t pos p d ds made now known sd i is left put_is = record {
  now = base;
  there = slot_put o.machine t.slots (with_slot t.slots (d.hkid - 1) made) sd.slots.now d.hkid made d.put may-first.0.0 refl put_is sd.slots.there;
  laid_is = λ h in_h. laid-after h in_h (h == d.hkid) refl;
  may = λ k j. may k j (k == p) refl;
}
  where
    mine : Grip
    mine = lock_grip_of s p

    base : ℕ → Hand
    base = put_slot sd.slots.now d.hkid d.put

    may-first : SwapsMay o.machine mine s.world sd.slots.now (d ∷ ds)
    may-first = subst (λ (z : List SwapDue). SwapsMay o.machine mine s.world sd.slots.now z) is (sd.slots.may p i)

    never : (k : ℕ) → Apart (lock_grip_of s k) mine → SwapsOwed (lock_grip_of s k) s.world d.hkid → ⊥
    never k apart owes = (ls.words (lock_grip_of s k) mine s.world apart).owed_swaps d.hkid owes may-first.0.1

    own : (h : ℕ) → last_put (put pos p now p).swaps h ≡ last_put ds h
    own h = ap (λ (z : Position). last_put z.swaps h) (put_here pos p now) ∙ ap (λ (z : List SwapDue). last_put z h) left

    other : (k h : ℕ) → (k == p) ≡ false → last_put (put pos p now k).swaps h ≡ last_put (pos k).swaps h
    other k h e = ap (λ (z : Position). last_put z.swaps h) (at-other pos p k now e)

    none-else : (h : ℕ) → h ≡ d.hkid → (k : ℕ) → k < length o.calls → (k == p) ≡ false → last_put (pos k).swaps h ≡ None
    none-else h e k j f = no-other ls o trees s mem t pos p h mine (locks-part s p) known sd i (λ l apart owes. never l apart (subst (λ (z : ℕ). SwapsOwed (lock_grip_of s l) s.world z) e owes)) k j f

    laid-after : (h : ℕ) → IsHkid o.machine h → (b : Bool) → (h == d.hkid) ≡ b → mem.slots h ≡ slots_laid (length o.calls) (λ k. (put pos p now k).swaps) base h
    laid-after h in_h true e =
        let h-is : h ≡ d.hkid = eqb-true h d.hkid e in
        sd.slots.laid_is h in_h
        ∙ (over-one (length o.calls) p (λ k. last_put (pos k).swaps h) (sd.slots.now h) i (none-else h h-is)
        ∙ (ap (λ (z : List SwapDue). or_else (last_put z h) (sd.slots.now h)) is
        ∙ (first-at (last_put ds h) (h == d.hkid) d.put (sd.slots.now h) e
        ∙ (ap (λ (b : Bool). or_else (last_put ds h) (if b then d.put else sd.slots.now h)) (sym e)
        ∙ sym (over-one (length o.calls) p (λ k. last_put (put pos p now k).swaps h) (base h) i (λ k j f. other k h f ∙ none-else h h-is k j f) ∙ ap (λ (z : Option Hand). or_else z (base h)) (own h))))))
    laid-after h in_h false e =
        sd.slots.laid_is h in_h
        ∙ over-same (length o.calls) (λ k. last_put (pos k).swaps h) (λ k. last_put (put pos p now k).swaps h) (sd.slots.now h) (base h) (λ k j. same k (k == p) refl) (sym (ap (λ (b : Bool). if b then d.put else sd.slots.now h) e))
      where
        same : (k : ℕ) → (b : Bool) → (k == p) ≡ b → last_put (pos k).swaps h ≡ last_put (put pos p now k).swaps h
        same k true f =
            let k-is : k ≡ p = eqb-true k p f in
            subst (λ (z : ℕ). last_put (pos z).swaps h ≡ last_put (put pos p now z).swaps h) (sym k-is)
            (ap (λ (z : List SwapDue). last_put z h) is ∙ (not-at (last_put ds h) (h == d.hkid) d.put e ∙ sym (own h)))
        same k false f = sym (other k h f)

    may : (k : ℕ) → k < length o.calls → (b : Bool) → (k == p) ≡ b → SwapsMay o.machine (lock_grip_of s k) s.world base (put pos p now k).swaps
    may k j true e =
        let p-is : p ≡ k = sym (eqb-true k p e) in
        subst (λ (z : ℕ). SwapsMay o.machine (lock_grip_of s z) s.world base (put pos p now z).swaps) p-is
        (subst (λ (z : Position). SwapsMay o.machine mine s.world base z.swaps) (sym (put_here pos p now))
        (subst (λ (z : List SwapDue). SwapsMay o.machine mine s.world base z) (sym left) may-first.1))
    may k j false e =
        let apart = apart-from ls o s p k mine known i j e (locks-part s p) in
        subst (λ (z : Position). SwapsMay o.machine (lock_grip_of s k) s.world base z.swaps) (sym (at-other pos p k now e))
        (swaps-same o.machine (lock_grip_of s k) (lock_grip_of s k) s.world s.world sd.slots.now base (pos k).swaps (λ h x. x)
        (λ h in_h owes. elsewhere h (h == d.hkid) refl (λ f. never k apart (subst (λ (z : ℕ). SwapsOwed (lock_grip_of s k) s.world z) (eqb-true h d.hkid f) owes))) (sd.slots.may k j))
      where
        elsewhere : (h : ℕ) → (b : Bool) → (h == d.hkid) ≡ b → ((h == d.hkid) ≡ true → ⊥) → sd.slots.now h ≡ base h
        elsewhere h true f not = absurd (not f)
        elsewhere h false f not = sym (ap (λ (b : Bool). if b then d.put else sd.slots.now h) f)
