-- One turn of one processor, where all stand.
use Rattle.std.proofs.Common.{◌≡◌, ◌≢◌, ◌⊎◌, inl, inr, refl, sym, ◌∙◌, subst, ℕ, ◌<◌, ◌≤◌, List, [], ◌∷◌, length, Option, None, true, false, ◌==◌, append-nil, arith}
use Rattle.std.proofs.lemmas.Bool.{eq-eqb, ne_eqb}
use Rattle.std.proofs.lemmas.Bool.Decides.{eqb_tells}
use Rattle.flat_core.specs.World.{put}
use Rattle.flat_core.specs.Opening.{Opening, Incoming}
use Rattle.flat_core.specs.Event.{State, start, calls_of, event}
use Rattle.flat_core.specs.Run.{play}
use Rattle.flat_core.specs.Laws.{with_bundles}
use Rattle.step_core.specs.Items.{Table, PlaysTo}
use Rattle.leaf_engine.specs.declared.events.Event.{Event}
use Rattle.leaf_engine.specs.Facts.{EventsKeepFacts}
use Rattle.leaf_engine.specs.OwnLists.{Piece, taken_in, LeafTable, WordLp, first_lp, LpTurns}
use Rattle.leaf_engine.specs.Merges.{part, order, no_table, AreLeaves, AreCodes}
use Rattle.leaf_engine.specs.Calls.{no_memory}
use Rattle.merge_laws.specs.Laws.AreMerged.{nothing_made}
use Rattle.merge_laws.proofs.Standing.{Laws, Trees, table_for, RestOf}
use Rattle.merge_laws.proofs.Merged.{Through, through}
use Rattle.merge_laws.proofs.Runs.{trees_of, table-is, trees-are}
use Rattle.explore_turns.proofs.Turning.{made_by, order-more, part-own, part-other, plays-own, one-event}
use Rattle.turn_laws.specs.Turns.{IsKnown, AllStand}
use Rattle.turn_laws.proofs.Known.{known-tells}
use Rattle.turn_laws.proofs.Standing.{at_rest, stands-from, rest-at, stands-again}

put-own : {A : Type 0} (f : ℕ → A) (p q : ℕ) (x : A) → q ≡ p → put f p x q ≡ x
put-own f p q x e = rw (eq-eqb q p e) refl

put-other : {A : Type 0} (f : ℕ → A) (p q : ℕ) (x : A) → q ≢ p → put f p x q ≡ f q
put-other f p q x ne = rw (ne_eqb q p ne) refl

-- a table of leaves is one by its trees
by-trees : (o : Opening) (leaf : ℕ → LeafTable) → AreLeaves o leaf → leaf ≡ table_for o (trees_of leaf)
by-trees o leaf are = λ i. λ p. table-is o leaf are p i

module _ (ls : Laws) (facts : EventsKeepFacts) (o : Opening) (bundles : ℕ → Option Incoming) (leaf : ℕ → LeafTable) (now : ℕ → WordLp) (s : State) (t u : Table) (p : ℕ) (e : Event) (ps : List Piece) (after : WordLp)
    (few : length o.calls ≤ 8) (are : AreLeaves (with_bundles o bundles) leaf) (codes : AreCodes o) (known : IsKnown o s) (all : AllStand (with_bundles o bundles) leaf now s t) (inside : p < length o.calls)
    (turn : LpTurns (leaf p) o.machine (now p) e ps after) (did : PlaysTo t (taken_in ps) u) where
  abbrev o' : Opening
  o' = with_bundles o bundles

  abbrev trees : Trees
  trees = trees_of leaf

  abbrev ends : ℕ → WordLp
  ends = put now p after

  by-its-trees : AllStand o' (table_for o' trees) now s t
  by-its-trees = subst (λ (l : ℕ → LeafTable). AllStand o' l now s t) (by-trees o' leaf are) all

  its-turn : LpTurns (table_for o' trees p) o.machine (now p) e ps after
  its-turn = subst (λ (l : LeafTable). LpTurns l o.machine (now p) e ps after) (table-is o' leaf are p) turn

  are-codes : AreCodes o'
  are-codes = record { few = codes.few; each = codes.each }

  rest : (q : ℕ) → q < length o.calls → RestOf o' trees q (at_rest now q) (part q (made_by p ps)) (ends q)
  rest q i = by (eqb_tells q p)
    where
      by : (((q == p) ≡ true) × (q ≡ p)) ⊎ (((q == p) ≡ false) × (q ≢ p)) → RestOf o' trees q (at_rest now q) (part q (made_by p ps)) (ends q)
      by (inl same) =
          let its : RestOf o' trees p (at_rest now p) (part p (made_by p ps)) after =
          rest-at o' trees now s t by-its-trees p inside (part p (made_by p ps)) (ps ∷ []) after (part-own p ps ∙ sym (append-nil ps)) (e, (after, its-turn, refl)) in
          subst (λ (k : ℕ). RestOf o' trees k (at_rest now k) (part k (made_by p ps)) (ends k)) (sym same.1)
          (subst (λ (x : WordLp). RestOf o' trees p (at_rest now p) (part p (made_by p ps)) x) (sym (put-own now p p after refl)) its)
      by (inr other) =
          rest-at o' trees now s t by-its-trees q i (part q (made_by p ps)) [] (ends q) (part-other p q ps (λ z. other.1 (sym z))) (sym (put-other now p q after other.1))

  nothing-else : (q : ℕ) → length o.calls ≤ q → part q (made_by p ps) ≡ []
  nothing-else q h = part-other p q ps (λ z. absurd (omega (arith, z)))

  its-order : order (made_by p ps) ≡ p ∷ []
  its-order = sym (append-nil (order (made_by p ps))) ∙ order-more [] p ps [] (one-event ls.one (leaf p) o.machine (now p) after e ps turn)

  pub turn-keeps : AllStand o' leaf ends (event o' s p) u
  turn-keeps =
      let went = through ls o' trees (IsKnown o) (known-tells ls facts o bundles few) (made_by p ps) s by-its-trees.memory t u (at_rest now) ends (trees-are o' leaf are are-codes) known (stands-from o' trees now s t by-its-trees) rest nothing-else (plays-own p ps t u did) in
      let there : Through o' trees (event o' s p) u ends = subst (λ (xs : List ℕ). Through o' trees (play o' xs s) u ends) its-order went.1 in
      subst (λ (l : ℕ → LeafTable). AllStand o' l ends (event o' s p) u) (sym (by-trees o' leaf are)) (stands-again ls o' trees (event o' s p) u ends there)

-- at the start
pub all-first : (ls : Laws) (o : Opening) (leaf : ℕ → LeafTable) → AllStand o leaf (λ p. first_lp (calls_of o.calls p)) (start o None) no_table
all-first ls o leaf = record {
  memory = no_memory;
  is = record { words = λ q in_q. refl; slots = λ h in_h. tt; hand = tt };
  shows = ls.start o None;
  each = λ p i. record { hand = None; in_hand = tt; stands = record { lines = refl; replies = refl; beside = refl; run = record { call = refl; guest = refl } } };
  bundles = record { own = λ p. []; each = λ p i. refl; none_else = λ p i. refl; merged = nothing_made };
}
