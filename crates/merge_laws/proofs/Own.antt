-- What an event of a processor makes of all of them together.
use Rattle.std.proofs.Common.{◌≡◌, ◌≢◌, ◌⊎◌, ℕ, ◌<◌, ◌≤◌, Bool, true, false, ◌==◌, cond, List, [], ◌∷◌, ◌++◌, length, Option, Some, None, refl, ap, sym, ◌∙◌, subst, inl, inr, arith}
use Rattle.std.proofs.lemmas.Bool.{eq-eqb, eqb-true}
use Rattle.td_words.specs.declared.machines.Machine.{Machine}
use Rattle.td_words.specs.Place.{WordPlace, IsIn}
use Rattle.flat_core.specs.World.{World, Made, put}
use Rattle.flat_core.specs.Processor.{Lp}
use Rattle.flat_core.specs.Opening.{Opening}
use Rattle.flat_core.specs.Event.{State, event}
use Rattle.flat_core.specs.Run.{bundles_in}
use Rattle.flat_core.proofs.Tests.{put_here}
use Rattle.lock_words.specs.Grips.{grip_of}
use Rattle.word_rules.specs.Guards.{Grip, Apart}
use Rattle.word_rules.specs.Rules.{View, Grade}
use Rattle.word_rules.specs.Views.{look}
use Rattle.word_rules.specs.Permissions.{Reads, Owes, Fills, Respects}
use Rattle.word_rules.specs.Cells.{Shows}
use Rattle.step_core.specs.Items.{Table}
use Rattle.leaf_engine.specs.Changes.{Memory}
use Rattle.merge_laws.specs.Laws.{AreMerged, more_made, AreBundlesOf}
use Rattle.leaf_engine.specs.Trees.{added}
use Rattle.merge_laws.proofs.Stores.{last_at, laid, last-each, OwesAt, FillsAt}
use Rattle.merge_laws.proofs.Keeping.{keeps-each}
use Rattle.merge_laws.proofs.Holding.{lock_grip_of, IsPart, locks-part}
use Rattle.merge_laws.proofs.Standing.{Laws, Trees, AreTrees, Known, DoesHere, act_grip, Grows, on_table, Fill, Position, back, Pending, Holds, Slots, Stands}
use Rattle.lock_words.specs.LockWords.{HeldStand}
use Rattle.flat_core.proofs.Induction.{count_stays}
use Rattle.merge_laws.proofs.Staying.{guest-stays}
use Rattle.merge_laws.proofs.Lines.{does-here}
use Rattle.merge_laws.proofs.Others.{grips-apart, act-part, fill-may, Leaves, others-stay}

-- all of them together

pub at-other : {A : Type 0} (f : ℕ → A) (p k : ℕ) (x : A) → (k == p) ≡ false → put f p x k ≡ f k
at-other f p k x e = ap (λ (b : Bool). cond b x (f k)) e

not-same : (k p : ℕ) → (k == p) ≡ false → k ≢ p
not-same k p e h = (let t : (k == p) ≡ true = eq-eqb k p h in cc)

pub grown : (n : ℕ) (pos : ℕ → Position) (p : ℕ) (now : Position) (before after : List Made) → (g : Grows before after (pos p).at.beside.bundles now.at.beside.bundles) → (length g.more ≡ 0) ⊎ (p < n) → AreBundlesOf n (λ k. (pos k).at) before → AreBundlesOf n (λ k. (put pos p now k).at) after
grown n pos p now before after g inside a = by g.more inside g.all g.own
  where
    mine : (k : ℕ) (x : List Made) → (k == p) ≡ true → x ≡ now.at.beside.bundles → x ≡ (put pos p now k).at.beside.bundles
    mine k x e h =
        let q : p ≡ k = sym (eqb-true k p e) in
        h ∙ subst (λ (z : ℕ). now.at.beside.bundles ≡ (put pos p now z).at.beside.bundles) q (sym (ap (λ (z : Position). z.at.beside.bundles) (put_here pos p now)))

    theirs : (k : ℕ) → k < n → (k == p) ≡ false → a.own k ≡ (put pos p now k).at.beside.bundles
    theirs k j e = a.each k j ∙ sym (ap (λ (z : Position). z.at.beside.bundles) (at-other pos p k now e))

    was : (k : ℕ) → k < n → (k == p) ≡ true → a.own p ≡ (pos p).at.beside.bundles
    was k j e = a.each p (subst (λ (z : ℕ). z < n) (eqb-true k p e) j)

    by : (more : List Made) → (length more ≡ 0) ⊎ (p < n) → after ≡ added before more → now.at.beside.bundles ≡ added (pos p).at.beside.bundles more → AreBundlesOf n (λ k. (put pos p now k).at) after
    by [] i q r = record { own = a.own; each = λ k j. each k j (k == p) refl; none_else = a.none_else; merged = subst (λ (z : List Made). AreMerged a.own z) (sym q) a.merged }
      where
        each : (k : ℕ) → k < n → (b : Bool) → (k == p) ≡ b → a.own k ≡ (put pos p now k).at.beside.bundles
        each k j true e = mine k (a.own k) e (subst (λ (z : ℕ). a.own z ≡ now.at.beside.bundles) (sym (eqb-true k p e)) (was k j e ∙ sym r))
        each k j false e = theirs k j e
    by (m ∷ ms) (inl none) q r = absurd (omega (arith, none))
    by (m ∷ ms) (inr i) q r = record { own = own'; each = λ k j. each k j (k == p) refl; none_else = λ k j. beyond k j (k == p) refl; merged = subst (λ (z : List Made). AreMerged own' z) (sym q) (more_made a.own before p (m ∷ ms) a.merged) }
      where
        own' : ℕ → List Made
        own' = put a.own p (a.own p ++ m ∷ ms)

        each : (k : ℕ) → k < n → (b : Bool) → (k == p) ≡ b → own' k ≡ (put pos p now k).at.beside.bundles
        each k j true e =
            mine k (own' k) e
            (subst (λ (z : ℕ). own' z ≡ now.at.beside.bundles) (sym (eqb-true k p e)) (put_here a.own p (a.own p ++ m ∷ ms) ∙ (ap (λ (z : List Made). z ++ m ∷ ms) (was k j e) ∙ sym r)))
        each k j false e = at-other a.own p k (a.own p ++ m ∷ ms) e ∙ theirs k j e

        beyond : (k : ℕ) → n ≤ k → (b : Bool) → (k == p) ≡ b → own' k ≡ []
        beyond k j true e = let q : k ≡ p = eqb-true k p e in absurd (omega (arith, i, j, q))
        beyond k j false e = at-other a.own p k (a.own p ++ m ∷ ms) e ∙ a.none_else k j

-- what an event leaves of memory, as far as others look
pub record Spares (m : Machine) (s : State) (g' : Grip) (w' : World) (words words' a a' : WordPlace → ℕ) : Type 0 where
  pub respects : Respects g' s.world w'
  pub looks : (g : Grip) (v : View) (r : WordPlace) → Apart g g' → IsIn m r → Reads g s.world r v → look v (words' r) ≡ look v (words r)
  pub still : (g : Grip) (q : WordPlace) (k : Grade) → Apart g g' → IsIn m q → Owes g s.world q k → a q ≡ a' q
  pub filled : (g : Grip) (q : WordPlace) → Apart g g' → IsIn m q → Fills g s.world q → (a q ≡ a' q) × (words' q ≡ words q)

pub gathered : (ls : Laws) (o : Opening) (trees : Trees) (s : State) (mem mem' : Memory) (t t' : Table) (pos : ℕ → Position) (p : ℕ) (now : Position) (g' : Grip) → IsPart g' (grip_of s p) → AreTrees o trees → Known o s → Stands o trees s mem t pos → p < length o.calls
    → Spares o.machine s g' (event o s p).world mem.words mem'.words (on_table o.machine t) (on_table o.machine t') → Shows o.machine mem'.words mem'.slots (event o s p) → mem'.hand ≡ None
    → Slots o (event o s p) mem'.slots t'.slots (put pos p now) → Grows (bundles_in s) (bundles_in (event o s p)) (pos p).at.beside.bundles now.at.beside.bundles
    → Holds o trees p (event o s p).world mem'.words (on_table o.machine t') ((event o s p).lps p) now
    → ((r : WordPlace) → IsIn o.machine r → mem'.words r ≡ laid (length o.calls) (λ k. (put pos p now k).owes) (on_table o.machine t') r)
    → Stands o trees (event o s p) mem' t' (put pos p now)
gathered ls o trees s mem mem' t t' pos p now g' part are known st i sp shows hand slots grows own laid_is = record {
  shows = shows;
  hand = hand;
  slots = slots;
  bundles = grown (length o.calls) pos p now (bundles_in s) (bundles_in (event o s p)) grows (inr i) st.bundles;
  holds = holds;
  laid_is = laid_is;
}
  where
    other : (k : ℕ) → (k == p) ≡ false → (event o s p).lps k ≡ s.lps k
    other k e = ls.others o s p k (not-same k p e)

    holds : (k : ℕ) → k < length o.calls → Holds o trees k (event o s p).world mem'.words (on_table o.machine t') ((event o s p).lps k) (put pos p now k)
    holds k j = by (k == p) refl
      where
        by : (b : Bool) → (k == p) ≡ b → Holds o trees k (event o s p).world mem'.words (on_table o.machine t') ((event o s p).lps k) (put pos p now k)
        by true e =
            let q : p ≡ k = sym (eqb-true k p e) in
            subst (λ (z : ℕ). Holds o trees z (event o s p).world mem'.words (on_table o.machine t') ((event o s p).lps z) (put pos p now z)) q
            (subst (λ (z : Position). Holds o trees p (event o s p).world mem'.words (on_table o.machine t') ((event o s p).lps p) z) (sym (put_here pos p now)) own)
        by false e =
            let apart : (g : Grip) → IsPart g (grip_of s k) → Apart g g' = λ g mine. grips-apart ls o s k p g g' known j i e mine part in
            let lv : Leaves o.machine s k g' (event o s p).world mem.words mem'.words (on_table o.machine t) (on_table o.machine t') = record {
              apart = apart;
              respects = sp.respects;
              looks = λ g v r mine in_r reads. sp.looks g v r (apart g mine) in_r reads;
              still = λ q g in_q owes. sp.still (lock_grip_of s k) q g (apart (lock_grip_of s k) (locks-part s k)) in_q owes;
              filled = λ g q mine in_q fills. sp.filled g q (apart g mine) in_q fills;
            } in
            let stand : HeldStand (event o s p).world (s.lps k).call.held = subst (λ (z : Lp). HeldStand (event o s p).world z.call.held) (other k e) ((known.later p).stand k (subst (λ (n : ℕ). k < n) (sym (count_stays o s p ∙ known.count)) j)).0 in
            let there = others-stay ls o trees s mem t pos k (event o s p).world mem'.words (on_table o.machine t') g' are known st j (λ g is. guest-stays ls.spare o s k p g known.guarded.timely is (λ same. not-same k p e (sym same))) stand lv in
            subst (λ (z : Position). Holds o trees k (event o s p).world mem'.words (on_table o.machine t') ((event o s p).lps k) z) (sym (at-other pos p k now e))
            (subst (λ (z : Lp). Holds o trees k (event o s p).world mem'.words (on_table o.machine t') z (pos k)) (sym (other k e)) there)

-- another's grip is apart from a part of this one's
pub apart-from : (ls : Laws) (o : Opening) (s : State) (p k : ℕ) (g' : Grip) → Known o s → p < length o.calls → k < length o.calls → (k == p) ≡ false → IsPart g' (grip_of s p) → Apart (lock_grip_of s k) g'
apart-from ls o s p k g' known i j e part = grips-apart ls o s k p (lock_grip_of s k) g' known j i e (locks-part s k) part

-- a word that a processor fills
pub record FillsThere (m : Machine) (s : State) (k : ℕ) (r : WordPlace) : Type 0 where
  pub grip : Grip
  pub part : IsPart grip (grip_of s k)
  pub fills : FillsAt m grip s.world r

-- a store that is due is at a place where one may be owed, or filled
pub due-at : (ls : Laws) (o : Opening) (trees : Trees) (s : State) (mem : Memory) (t : Table) (pos : ℕ → Position) (k : ℕ) (r : WordPlace) (x : ℕ) → AreTrees o trees → Known o s → Stands o trees s mem t pos → k < length o.calls → last_at (pos k).owes r ≡ Some x
    → OwesAt o.machine (lock_grip_of s k) s.world r ⊎ FillsThere o.machine s k r
due-at ls o trees s mem t pos k r x are known st j e = by (pos k).fill (st.holds k j).due
  where
    by : (f : Option Fill) → Pending o trees k s.world mem.words (on_table o.machine t) (s.lps k) (pos k).at (pos k).owes f → OwesAt o.machine (lock_grip_of s k) s.world r ⊎ FillsThere o.machine s k r
    by None pe = inl (last-each ls.places (OwesAt o.machine (lock_grip_of s k) s.world) (pos k).owes r x (keeps-each o.machine (lock_grip_of s k) s.world (on_table o.machine t) (pos k).owes pe) e)
    by (Some f) pe =
        let here : DoesHere o s k f.does = does-here o trees s k f.does (pos k).at mem.words are known j (st.holds k j).stands pe.is in
        let may = fill-may o trees s mem t pos k f known st here (on_table o.machine t) (pos k).at (pos k).owes pe in
        inr (record { grip = act_grip s mem k f.does; part = act-part o s mem k f.does here; fills = made here may (last_at f.made r) refl })
      where
        made : DoesHere o s k f.does → Rattle.merge_laws.proofs.Others.FillMay o.machine (act_grip s mem k f.does) s.world mem.words f → (y : Option ℕ) → last_at f.made r ≡ y → FillsAt o.machine (act_grip s mem k f.does) s.world r
        made here may None h = (let none : last_at (pos k).owes r ≡ None = pe.undo r ∙ ap (λ (z : Option ℕ). back z (mem.words r)) h in cc)
        made here may (Some y) h = last-each ls.places (FillsAt o.machine (act_grip s mem k f.does) s.world) f.made r y may.made h

-- nobody else may owe a store there, or fill it
pub record NobodyElse (g : Grip) (w : World) (r : WordPlace) : Type 0 where
  pub owes : (h : Grip) (k : Grade) → Apart h g → Owes h w r k → ⊥
  pub fills : (h : Grip) → Apart h g → Fills h w r → ⊥

-- so nothing of others is due there
pub none-due : (ls : Laws) (o : Opening) (trees : Trees) (s : State) (mem : Memory) (t : Table) (pos : ℕ → Position) (p : ℕ) (r : WordPlace) (g' : Grip) → IsPart g' (grip_of s p) → AreTrees o trees → Known o s → Stands o trees s mem t pos → p < length o.calls
    → NobodyElse g' s.world r → (k : ℕ) → k < length o.calls → (k == p) ≡ false → last_at (pos k).owes r ≡ None
none-due ls o trees s mem t pos p r g' part are known st i never k j e = by (last_at (pos k).owes r) refl
  where
    at : OwesAt o.machine (lock_grip_of s k) s.world r ⊎ FillsThere o.machine s k r → last_at (pos k).owes r ≡ None
    at (inl owed) = absurd (never.owes (lock_grip_of s k) owed.1.0 (apart-from ls o s p k g' known i j e part) owed.1.1)
    at (inr filled) = absurd (never.fills filled.grip (grips-apart ls o s k p filled.grip g' known j i e filled.part part) filled.fills.1)

    by : (x : Option ℕ) → last_at (pos k).owes r ≡ x → last_at (pos k).owes r ≡ None
    by None h = h
    by (Some x) h = at (due-at ls o trees s mem t pos k r x are known st j h)
