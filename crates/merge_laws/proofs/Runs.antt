-- A merge is a run of the flat machine, and none of its swaps misses.
use Rattle.std.proofs.Common.{◌≡◌, ◌⊎◌, ℕ, zero, suc, Bool, true, false, ◌-◌, ◌<◌, ◌≤◌, List, [], ◌∷◌, ◌++◌, map, length, drop, Option, Some, None, refl, ap, sym, ◌∙◌, subst, inl, inr, arith}
use Rattle.std.proofs.lemmas.Bool.{cases_lt}
use Rattle.td_words.specs.declared.calls.Call.{Call}
use Rattle.td_words.specs.Place.{WordPlace, address}
use Rattle.mrtd_measure.specs.declared.measures.Measure.{Measure}
use Rattle.flat_core.specs.World.{World}
use Rattle.flat_core.specs.Processor.{Lp}
use Rattle.flat_core.specs.Opening.{Opening}
use Rattle.flat_core.specs.Event.{State, start, event, next_event, after_event, event_for, lines_left, calls_of}
use Rattle.flat_core.specs.Run.{play, run, to_the_end}
use Rattle.flat_core.proofs.Induction.{play_append}
use Rattle.step_core.specs.Words.{Words}
use Rattle.step_core.specs.Items.{Table, PlaysTo}
use Rattle.step_core.specs.declared.items.Taken.{Taken}
use Rattle.leaf_engine.specs.declared.events.Event.{Event as RunEvent}
use Rattle.leaf_engine.specs.Besides.{beside_of}
use Rattle.leaf_engine.specs.Means.{MeansRow}
use Rattle.leaf_engine.specs.Changes.{Hand}
use Rattle.leaf_engine.specs.Decides.{IsHand}
use Rattle.leaf_engine.specs.Turns.{Standing}
use Rattle.leaf_engine.specs.Calls.{no_memory}
use Rattle.leaf_engine.specs.OwnLists.{Piece, Unmarked, joined, marked_behind, running, LeafTable, WordLp, first_lp, step_leaf, EnteredTurn, LineTurn, LinesTurn, OwnTurns}
use Rattle.leaf_engine.specs.Merges.{Item, part, steps_taken, order, no_table, AreLeaves, AreCodes}
use Rattle.leaf_engine.specs.Guests.{WordGuest, gives_epoch_back}
use Rattle.leaf_engine.specs.Standing.{RunStands, LpStands}
use Rattle.leaf_engine.specs.Following.{run_in, run_at, hasher_of, hasher_at, StandsOn}
use Rattle.merge_laws.specs.Merge.{Merge}
use Rattle.merge_laws.specs.Laws.{nothing_made, IsShownBy, IsWhere, MergesAreRuns}
use Rattle.merge_laws.proofs.Stores.{Due, over-none, laid-none}
use Rattle.merge_laws.proofs.Swaps.{SwapDue, last_put}
use Rattle.merge_laws.proofs.Owing.{Owed, Stores, Swaps, stores_in, swaps_in, FirstSwaps, FirstMisses, AreOwed}
use Rattle.merge_laws.proofs.Standing.{Trees, table_for, Trees, Laws, leaf_for, AreTrees, on_table, HandKnown, guest_run, HasInHand, RunAt, StandsAt, Fill, Position, Rest, RestBy, RestOf, Stands}
use Rattle.merge_laws.proofs.Merged.{IsReached, runs-tell, Through, through}

-- leaves by their trees

abbrev pub trees_of : (ℕ → LeafTable) → Trees
trees_of leaf = record {
  call = λ p c. ((leaf p).call c).tree;
  step = λ p t v line step. ((leaf p).step t v line step).tree;
  means = λ p t v line step. ((leaf p).step t v line step).meaning;
}

pub table-is : (o : Opening) (leaf : ℕ → LeafTable) → AreLeaves o leaf → (p : ℕ) → leaf p ≡ table_for o (trees_of leaf) p
table-is o leaf are p = λ i. record {
  call = λ c. record { place = record { machine = are.machine p c i; lp = are.processor p c i }; tree = ((leaf p).call c).tree; meaning = are.row p c i };
  step = λ t v line step. record {
    place = record { machine = are.step_machine p t v line step i; lp = are.step_processor p t v line step i };
    tree = ((leaf p).step t v line step).tree;
    meaning = ((leaf p).step t v line step).meaning;
  };
  codes = λ t x. are.codes p t x i;
}

pub trees-are : (o : Opening) (leaf : ℕ → LeafTable) → AreLeaves o leaf → AreCodes o → AreTrees o (trees_of leaf)
trees-are o leaf are codes = record {
  means = λ p c. subst (λ (t : LeafTable). MeansRow (t.call c)) (table-is o leaf are p) (are.means p c);
  steps = are.step_row;
  steps_mean = λ p t v line step in_range. subst (λ (x : LeafTable). MeansRow (x.step t v line step)) (table-is o leaf are p) (are.step_means p t v line step in_range);
  codes = codes;
}

-- the start

first_position : Opening → ℕ → Position
first_position o p = record { at = first_lp (calls_of o.calls p); owes = []; swaps = []; fill = None }

starts : (ls : Laws) (o : Opening) (trees : Trees) → Stands o trees (start o None) no_memory no_table (first_position o)
unfolding first_position
starts ls o trees = record {
  shows = ls.start o None;
  hand = refl;
  slots = record {
    now = λ h. None;
    there = λ h in_h. tt;
    laid_is = λ h in_h. sym (over-none (length o.calls) (λ p. None) None (λ q l. refl));
    may = λ p i. tt;
  };
  bundles = record { own = λ p. []; each = λ p i. refl; none_else = λ p i. refl; merged = nothing_made };
  holds = λ p i. record { stands = record { lines = refl; replies = refl; beside = refl; run = record { call = refl; guest = refl } }; due = tt };
  laid_is = λ r in_r. sym (laid-none (length o.calls) (λ p. []) (λ q. 0) r (λ q l. refl));
}

-- the end

-- what hasher a processor has in hand is known
pub record HasKnown (at : WordLp) : Type 0 where
  pub hasher : Option Measure
  pub has : HasInHand at hasher
  pub hand : Hand
  pub is : IsHand hasher hand

pub nothing-left : (ls : Laws) (o : Opening) (trees : Trees) (p : ℕ) (pos : Position) (end_ : WordLp) → RestOf o trees p pos [] end_ → (pos.owes ≡ []) × (pos.swaps ≡ []) × (pos.at ≡ end_) × HasKnown pos.at
nothing-left ls o trees p pos end_ rest = by-fill pos.fill rest
  where
    line : (c : Call) (cs : List Call) (r : Option Standing) (g : Option WordGuest) (e : RunEvent) (after : WordLp) → LineTurn (leaf_for o trees p) o.machine c cs r g pos.at.replies pos.at.beside e [] after → ⊥
    line c cs r g e after lt = (let one = ls.one.one o.machine (running (leaf_for o trees p c) r) lt.stands [] e lt.turn in cc)

    step : (c : Call) (cs : List Call) (r : Standing) (x : WordGuest) (e : RunEvent) (after : WordLp) (b : Bool) → EnteredTurn (table_for o trees p) o.machine c cs r x pos.at.replies pos.at.beside e [] after b → ⊥
    step c cs r x e after true lt = line c cs (Some r) (Some x) e after lt
    step c cs r x e after false lt = (let one = ls.one.one o.machine (running (step_leaf (table_for o trees p) x pos.at.replies pos.at.beside) x.run) lt.stands [] e lt.turn in cc)

    turn : (cs : List Call) (r : Option Standing) (g : Option WordGuest) (e : RunEvent) (after : WordLp) → LinesTurn (table_for o trees p) o.machine cs r g pos.at.replies pos.at.beside e [] after → ⊥
    turn [] r g e after lt = lt
    turn (c ∷ cs) r None e after lt = line c cs r None e after lt
    turn (c ∷ cs) None (Some x) e after lt = lt
    turn (c ∷ cs) (Some r) (Some x) e after lt = step c cs r x e after (gives_epoch_back r.held) lt

    turns : (tps : List (List Piece)) → [] ≡ joined tps → OwnTurns (table_for o trees p) o.machine pos.at tps end_ → pos.at ≡ end_
    turns [] e own = own
    turns ([] ∷ tps) e own = absurd (turn pos.at.lines pos.at.run pos.at.guest own.0 own.1.0 own.1.1)
    turns ((x ∷ tp) ∷ tps) e own = cc

    no-items : (xs : List Taken) (ps : List Piece) → [] ≡ map Unmarked xs ++ ps → (xs ≡ []) × ([] ≡ ps)
    no-items [] ps e = (refl, e)
    no-items (x ∷ xs) ps e = cc

    by : (re : Rest o trees p pos.at pos.owes pos.swaps [] end_) → (os : List Owed) → re.owed ≡ os → AreOwed o.machine.pages re.hasher re.hand re.items os re.last → (pos.owes ≡ []) × (pos.swaps ≡ []) × (pos.at ≡ end_) × HasKnown pos.at
    by re [] q of = (re.owes_are ∙ ap stores_in q, re.swaps_are ∙ ap swaps_in q, turns re.turns (no-items re.items (joined re.turns) re.pieces).1 re.own, record { hasher = re.last; has = re.last_is; hand = re.hand; is = (of re.in_hand).1 })
    by re (Stores d ∷ os) q of = (let r = of re.in_hand in let bad = sym (no-items re.items (joined re.turns) re.pieces).0 ∙ r.items in cc)
    by re (Swaps d ∷ os) q of = absurd (no-swap (of re.in_hand))
      where
        no-swap : FirstSwaps re.items d (λ k ys. AreOwed o.machine.pages k d.taken ys os re.last) ⊎ FirstMisses re.items d → ⊥
        no-swap (inl r) = (let bad = sym (no-items re.items (joined re.turns) re.pieces).0 ∙ r.items in cc)
        no-swap (inr r) = (let bad = sym (no-items re.items (joined re.turns) re.pieces).0 ∙ r.items in cc)

    -- an act is still to come
    act-left : (stores act : List Taken) (ps : List Piece) → [] ≡ map Unmarked stores ++ (marked_behind 0 act ++ ps) → ⊥
    act-left [] [] ps e = cc
    act-left [] (x ∷ xs) ps e = cc
    act-left (x ∷ xs) act ps e = cc

    by-fill : (f : Option Fill) → RestBy o trees p pos [] end_ f → (pos.owes ≡ []) × (pos.swaps ≡ []) × (pos.at ≡ end_) × HasKnown pos.at
    by-fill None re = by re re.owed refl re.are
    by-fill (Some f) re = absurd (act-left re.stores re.act (joined re.turns) re.pieces)

pub ends-so : (ls : Laws) (o : Opening) (trees : Trees) (s : State) (u : Table) (ends : ℕ → WordLp) → Through o trees s u ends → IsShownBy o.machine u s × IsWhere o ends s
ends-so ls o trees s u ends th =
    let left : (p : ℕ) → p < length o.calls → ((th.pos p).owes ≡ []) × ((th.pos p).swaps ≡ []) × ((th.pos p).at ≡ ends p) × HasKnown (th.pos p).at = λ p i. nothing-left ls o trees p (th.pos p) (ends p) (th.rest p i) in (
      record {
        memory = th.memory;
        is = record {
          words = λ q in_q.
              ap (λ (w : Words). w (address o.machine.pages q)) th.words
              ∙ sym (th.stands.laid_is q in_q
              ∙ laid-none (length o.calls) (λ p. (th.pos p).owes) (on_table o.machine th.table) q (λ p i. ap (λ (ds : List Due). Rattle.merge_laws.proofs.Stores.last_at ds q) (left p i).0));
          slots = λ h in_h.
              subst (λ (f : ℕ → Option Measure). IsHand (f (h - 1)) (th.memory.slots h)) (sym th.slots)
              (subst (λ (x : Hand). IsHand (th.table.slots (h - 1)) x)
              (sym (th.stands.slots.laid_is h in_h ∙ over-none (length o.calls) (λ p. last_put (th.pos p).swaps h) (th.stands.slots.now h) (λ p i. ap (λ (ds : List SwapDue). last_put ds h) (left p i).1)))
              (th.stands.slots.there h in_h));
          hand = subst (λ z. IsHand None z) (sym th.stands.hand) tt;
        };
        shows = th.stands.shows;
      },
      record {
        lines = λ p i. (th.stands.holds p i).stands.lines ∙ ap (λ (w : WordLp). w.lines) (left p i).2;
        replies = λ p i. (th.stands.holds p i).stands.replies ∙ ap (λ (w : WordLp). w.replies) (left p i).2;
        beside = λ p i. subst (λ (w : WordLp). beside_of (s.lps p) w.beside.bundles ≡ w.beside) (left p i).2 (th.stands.holds p i).stands.beside;
        bundles = record {
          own = th.stands.bundles.own;
          each = λ p i. th.stands.bundles.each p i ∙ ap (λ (w : WordLp). w.beside.bundles) (left p i).2;
          none_else = th.stands.bundles.none_else;
          merged = th.stands.bundles.merged;
        };
      },
    )

-- each stands where the state has it, with what its run has in hand

line-hand : (r : Standing) (h : Option Measure) (k : Hand) → IsHand h k → (r.hasher ≡ h) ⊎ ((x : Hand) × IsHand r.hasher x) → (x : Hand) × IsHand r.hasher x
line-hand r h k is (inl e) = (k, subst (λ (z : Option Measure). IsHand z k) (sym e) is)
line-hand r h k is (inr known) = known

pub stands-so : (o : Opening) (trees : Trees) (p : ℕ) (w : World) (words : WordPlace → ℕ) (lp : Lp) (at : WordLp) → StandsAt o trees p w words lp at → HasKnown at → LpStands o (table_for o trees p) p w words lp at
stands-so o trees p w words lp at st known = record { lines = st.lines; replies = st.replies; beside = st.beside; run = by at.lines at.run at.guest st.lines st.run known.has.0 }
  where
    by : (cs : List Call) (r : Option Standing) (g : Option WordGuest) → lines_left o p lp ≡ cs → RunAt o trees p w words lp cs r g at.replies at.beside → HandKnown r known.hasher
        → RunStands o (table_for o trees p) p w words lp cs r g at.replies at.beside
    by cs None None e run hand = run
    by [] None (Some x) e run hand = absurd run
    by [] (Some r) None e run hand = absurd run
    by [] (Some r) (Some x) e run hand = absurd run
    by (c ∷ cs) None (Some x) e run hand = absurd run
    by (c ∷ cs) (Some r) None e run hand = record {
      at = record {
        line = record { call = c; further = cs; lines = e; row_is = refl };
        guest = run.guest;
        stage = run.runs.at.stage;
        held = run.runs.at.held;
        told = run.runs.at.told;
      };
      waits = run.runs.trying;
    }
    by (c ∷ cs) (Some r) (Some x) e run hand =
        let mine = line-hand r known.hasher known.hand known.is hand in
        record {
          line_is = record { call = c; further = cs; lines = e; row_is = refl };
          guest = run.guest;
          is_in = run.is_in;
          reply = run.reply;
          answered = run.answered;
          held = run.held;
          at = run.at;
          fresh = run.waits;
          hand = mine.0;
          in_hand = mine.1;
        }

run-hand : (h : Option Measure) (k : Hand) → IsHand h k → (r : Option Standing) → HandKnown r h → (x : Hand) × IsHand (hasher_of r) x
run-hand h k is None known = (None, tt)
run-hand h k is (Some r) known = line-hand r h k is known

pub hand-at : (at : WordLp) → HasKnown at → (x : Hand) × IsHand (hasher_at at) x
hand-at at known = by at.guest at.run known.has.0 known.has.1
  where
    in-guest : (x : WordGuest) (line : Standing) → HandKnown (Some line) known.hasher → HandKnown x.run known.hasher → (give : Bool) → (k : Hand) × IsHand (hasher_of (run_in x line give)) k
    in-guest x line a b true = run-hand known.hasher known.hand known.is (Some line) a
    in-guest x line a b false = run-hand known.hasher known.hand known.is x.run b

    by : (g : Option WordGuest) (r : Option Standing) → HandKnown r known.hasher → HandKnown (guest_run g) known.hasher → (k : Hand) × IsHand (hasher_of (run_at g r)) k
    by None r a b = run-hand known.hasher known.hand known.is r a
    by (Some x) None a b = (None, tt)
    by (Some x) (Some line) a b = in-guest x line a b (gives_epoch_back line.held)

all-stand : (ls : Laws) (o : Opening) (trees : Trees) (s : State) (u : Table) (ends : ℕ → WordLp) → Through o trees s u ends → (p : ℕ) → p < length o.calls → StandsOn o (table_for o trees p) p s u (ends p)
unfolding ends-so
all-stand ls o trees s u ends th p i =
    let left = nothing-left ls o trees p (th.pos p) (ends p) (th.rest p i) in
    let shown : IsShownBy o.machine u s = (ends-so ls o trees s u ends th).0 in
    subst (λ (x : WordLp). StandsOn o (table_for o trees p) p s u x) left.2
    (let has = hand-at (th.pos p).at left.3 in
    record {
      memory = record (th.memory) { hand = has.0 };
      is = record { words = shown.is.words; slots = shown.is.slots; hand = has.1 };
      shows = th.stands.shows;
      stands = stands-so o trees p s.world th.memory.words (s.lps p) (th.pos p).at (th.stands.holds p i).stands left.3;
    })

merges : (ls : Laws) (o : Opening) (leaf : ℕ → LeafTable) (is : List Item) (now : ℕ → WordLp) (u : Table) → length o.calls ≤ 8 → AreLeaves o leaf → AreCodes o → Merge o leaf is now u
    → let s = play o (order is) (start o None) in PlaysTo no_table (steps_taken is) u × (IsShownBy o.machine u s × IsWhere o now s) × ((p : ℕ) → p < length o.calls → StandsOn o (leaf p) p s u (now p))
unfolding first_position
merges ls o leaf is now u most are codes merge =
    let trees = trees_of leaf in
    let first : IsReached o (start o None) = record { schedule = []; is = refl; count = refl; nothing_to_tell = refl } in
    let own : (p : ℕ) → p < length o.calls → OwnTurns (table_for o trees p) o.machine (first_lp (calls_of o.calls p)) (merge.own p) (now p) =
    λ p i. subst (λ (t : LeafTable). OwnTurns t o.machine (first_lp (calls_of o.calls p)) (merge.own p) (now p)) (table-is o leaf are p) (merge.turns p i) in
    let went =
    through ls o trees (IsReached o) (runs-tell ls o most) is (start o None) no_memory no_table u (first_position o) now (trees-are o leaf are codes) first (starts ls o trees)
    (λ p i. rest-first p (part p is) (merge.own p) (merge.merge.each p i) (own p i)) merge.merge.nothing_else merge.plays in (
      went.0,
      ends-so ls o trees (play o (order is) (start o None)) u now went.1,
      λ p i. subst (λ (t : LeafTable). StandsOn o t p (play o (order is) (start o None)) u (now p)) (sym (table-is o leaf are p)) (all-stand ls o trees (play o (order is) (start o None)) u now went.1 p i),
    )
  where
    rest-first : (p : ℕ) (ps : List Piece) (tps : List (List Piece)) → ps ≡ joined tps → OwnTurns (table_for o (trees_of leaf) p) o.machine (first_lp (calls_of o.calls p)) tps (now p) → RestOf o (trees_of leaf) p (first_position o p) ps (now p)
    rest-first p ps tps e own = record {
      owed = [];
      owes_are = refl;
      swaps_are = refl;
      hasher = None;
      hand = None;
      in_hand = tt;
      items = [];
      last = None;
      are = λ i. (refl, i);
      last_is = (tt, tt);
      turns = tps;
      pieces = e;
      own = own;
    }

-- a state in which no processor has a line left

drop-none : (n : ℕ) → drop {A = Call} n [] ≡ []
drop-none zero = refl
drop-none (suc n) = refl

calls-none : (css : List (List Call)) (p : ℕ) → length css ≤ p → calls_of css p ≡ []
calls-none [] p h = refl
calls-none (cs ∷ css) zero h = absurd (omega (arith, h))
calls-none (cs ∷ css) (suc p) h = calls-none css p (omega (arith, h))

stays : (o : Opening) (ps : List ℕ) (s : State) → ((p : ℕ) → next_event o s p ≡ None) → play o ps s ≡ s
stays o [] s none = refl
stays o (p ∷ ps) s none =
    let same : event o s p ≡ s = ap (after_event p s) (none p) in
    ap (play o ps) same ∙ stays o ps s none

no-event : (o : Opening) (s : State) (p : ℕ) → lines_left o p (s.lps p) ≡ [] → next_event o s p ≡ None
no-event o s p e = ap (λ (cs : List Call). event_for o s.world p (s.lps p) cs) e

pub merges-are-runs : Laws → MergesAreRuns
merges-are-runs ls = record {
  none_misses = λ o leaf is now u most are codes merge. (merges ls o leaf is now u most are codes merge).0;
  turns = λ o leaf is now u most are codes merge. (merges ls o leaf is now u most are codes merge).1;
  stand = λ o leaf is now u most are codes merge. (merges ls o leaf is now u most are codes merge).2;
  ended = λ o leaf is now u most are codes merge over.
      let got = (merges ls o leaf is now u most are codes merge).1 in
      let s : State = play o (order is) (start o None) in
      let none : (p : ℕ) → next_event o s p ≡ None = λ p. by o now s got.1 over p (cases_lt p (length o.calls)) in
      let same : run o (order is) ≡ s = play_append o (order is) (to_the_end 0 o.calls) (start o None) ∙ stays o (to_the_end 0 o.calls) s none in
      subst (λ (z : State). IsShownBy o.machine u z × IsWhere o now z) (sym same) got;
}
  where
    by : (o : Opening) (now : ℕ → WordLp) (s : State) → IsWhere o now s → ((p : ℕ) → p < length o.calls → (now p).lines ≡ []) → (p : ℕ) → (p < length o.calls) ⊎ (length o.calls ≤ p) → next_event o s p ≡ None
    by o now s w over p (inl i) = no-event o s p (w.lines p i ∙ over p i)
    by o now s w over p (inr out) = no-event o s p (ap (drop (length (s.lps p).replies)) (calls-none o.calls p out) ∙ drop-none (length (s.lps p).replies))
