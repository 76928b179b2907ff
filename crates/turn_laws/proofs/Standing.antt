-- All processors stand between turns, as they do while a merge is gone through where nothing is owed.
use Rattle.std.proofs.Common.{◌≡◌, ℕ, ◌-◌, ◌<◌, Bool, true, false, List, [], ◌∷◌, length, Option, Some, None, refl, ap, sym, ◌∙◌, subst, inl, inr}
use Rattle.td_words.specs.Place.{WordPlace, address}
use Rattle.td_words.specs.declared.calls.Call.{Call}
use Rattle.mrtd_measure.specs.declared.measures.Measure.{Measure}
use Rattle.flat_core.specs.World.{World}
use Rattle.flat_core.specs.Processor.{Lp}
use Rattle.flat_core.specs.Opening.{Opening}
use Rattle.flat_core.specs.Event.{State}
use Rattle.step_core.specs.Words.{Words}
use Rattle.step_core.specs.Items.{Table}
use Rattle.leaf_engine.specs.Changes.{Hand}
use Rattle.leaf_engine.specs.Decides.{IsHand}
use Rattle.leaf_engine.specs.Turns.{Standing}
use Rattle.leaf_engine.specs.OwnLists.{Piece, joined, LeafTable, WordLp, OwnTurns}
use Rattle.leaf_engine.specs.Guests.{WordGuest, gives_epoch_back}
use Rattle.leaf_engine.specs.Standing.{RunStands, GuestStands, LpStands}
use Rattle.leaf_engine.specs.Following.{run_in, run_at, hasher_of, hasher_at}
use Rattle.merge_laws.proofs.Stores.{Due, last_at, over-none, laid-none}
use Rattle.merge_laws.proofs.Swaps.{SwapDue, last_put}
use Rattle.merge_laws.proofs.Standing.{Laws, Trees, table_for, on_table, HandKnown, guest_run, RunAt, StandsAt, Position, RestOf, Stands}
use Rattle.merge_laws.proofs.Merged.{Through}
use Rattle.merge_laws.proofs.Runs.{HasKnown, nothing-left, stands-so, hand-at}
use Rattle.turn_laws.specs.Turns.{StandsBy, AllStand}

-- where it owes nothing
abbrev pub at_rest : (ℕ → WordLp) → ℕ → Position
at_rest now p = record { at = now p; owes = []; swaps = []; fill = None }

empty-hand : (h : Hand) → IsHand None h → h ≡ None
empty-hand None x = refl
empty-hand (Some bytes) x = absurd x

stands-back : (o : Opening) (trees : Trees) (p : ℕ) (w : World) (words : WordPlace → ℕ) (lp : Lp) (at : WordLp) → LpStands o (table_for o trees p) p w words lp at → StandsAt o trees p w words lp at
stands-back o trees p w words lp at st = record { lines = st.lines; replies = st.replies; beside = st.beside; run = by at.lines at.run at.guest st.run }
  where
    by : (cs : List Call) (r : Option Standing) (g : Option WordGuest) → RunStands o (table_for o trees p) p w words lp cs r g at.replies at.beside → RunAt o trees p w words lp cs r g at.replies at.beside
    by cs None None run = run
    by [] None (Some x) run = absurd run
    by [] (Some r) None run = absurd run
    by [] (Some r) (Some x) run = absurd run
    by (c ∷ cs) None (Some x) run = absurd run
    by (c ∷ cs) (Some r) None run = record {
      guest = run.at.guest;
      runs = record { at = record { stage = run.at.stage; held = run.at.held; told = run.at.told }; trying = run.waits };
    }
    by (c ∷ cs) (Some r) (Some x) run = record {
      guest = run.guest;
      is_in = run.is_in;
      at = run.at;
      reply = run.reply;
      answered = run.answered;
      held = run.held;
      waits = run.fresh;
    }

own-hand : (r : Option Standing) → HandKnown r (hasher_of r)
own-hand None = tt
own-hand (Some r) = inl refl

hand-known : (o : Opening) (t : LeafTable) (p : ℕ) (s : State) (words : WordPlace → ℕ) (at : WordLp) → StandsBy o t p s words at → HasKnown at
hand-known o t p s words at st = record { hasher = hasher_at at; has = by at.lines at.run at.guest st.stands.run; hand = st.hand; is = st.in_hand }
  where
    in-guest : (c : Call) (line : Standing) (x : WordGuest) → GuestStands o t p c s.world words (s.lps p) line x at.replies at.beside → (give : Bool) → gives_epoch_back line.held ≡ give
        → HandKnown (Some line) (hasher_of (run_in x line give)) × HandKnown x.run (hasher_of (run_in x line give))
    in-guest c line x g true e = (inl refl, subst (λ (r : Option Standing). HandKnown r line.hasher) (sym (g.fresh e)) tt)
    in-guest c line x g false e = (inr (g.hand, g.in_hand), own-hand x.run)

    by : (cs : List Call) (r : Option Standing) (g : Option WordGuest) → RunStands o t p s.world words (s.lps p) cs r g at.replies at.beside → HandKnown r (hasher_of (run_at g r)) × HandKnown (guest_run g) (hasher_of (run_at g r))
    by cs r None run = (own-hand r, tt)
    by [] None (Some x) run = absurd run
    by [] (Some r) (Some x) run = absurd run
    by (c ∷ cs) None (Some x) run = absurd run
    by (c ∷ cs) (Some r) (Some x) run = in-guest c r x run (gives_epoch_back r.held) refl

module _ (o : Opening) (trees : Trees) (now : ℕ → WordLp) (s : State) (u : Table) (all : AllStand o (table_for o trees) now s u) where
  pub stands-from : Stands o trees s all.memory u (at_rest now)
  stands-from = record {
    shows = all.shows;
    hand = empty-hand all.memory.hand all.is.hand;
    slots = record {
      now = all.memory.slots;
      there = all.is.slots;
      laid_is = λ h in_h. sym (over-none (length o.calls) (λ p. None) (all.memory.slots h) (λ q l. refl));
      may = λ p i. tt;
    };
    bundles = record { own = all.bundles.own; each = all.bundles.each; none_else = all.bundles.none_else; merged = all.bundles.merged };
    holds = λ p i. record { stands = stands-back o trees p s.world all.memory.words (s.lps p) (now p) (all.each p i).stands; due = tt };
    laid_is = λ r in_r. sym (all.is.words r in_r) ∙ sym (laid-none (length o.calls) (λ p. []) (on_table o.machine u) r (λ q l. refl));
  }

  -- its further turns
  pub rest-at : (q : ℕ) → q < length o.calls → (pieces : List Piece) (turns : List (List Piece)) (end_ : WordLp) → pieces ≡ joined turns → OwnTurns (table_for o trees q) o.machine (now q) turns end_ → RestOf o trees q (at_rest now q) pieces end_
  rest-at q i pieces turns end_ e own =
      let k : HasKnown (now q) = hand-known o (table_for o trees q) q s all.memory.words (now q) (all.each q i) in
      record {
        owed = [];
        owes_are = refl;
        swaps_are = refl;
        hasher = k.hasher;
        hand = k.hand;
        in_hand = k.is;
        items = [];
        last = k.hasher;
        are = λ h. (refl, h);
        last_is = k.has;
        turns = turns;
        pieces = e;
        own = own;
      }

-- where nothing is left, all stand again
pub stands-again : (ls : Laws) (o : Opening) (trees : Trees) (s : State) (u : Table) (ends : ℕ → WordLp) → Through o trees s u ends → AllStand o (table_for o trees) ends s u
stands-again ls o trees s u ends th =
    let left : (p : ℕ) → p < length o.calls → ((th.pos p).owes ≡ []) × ((th.pos p).swaps ≡ []) × ((th.pos p).at ≡ ends p) × HasKnown (th.pos p).at = λ p i. nothing-left ls o trees p (th.pos p) (ends p) (th.rest p i) in
    record {
      memory = th.memory;
      is = record {
        words = λ q in_q.
            ap (λ (w : Words). w (address o.machine.pages q)) th.words
            ∙ sym (th.stands.laid_is q in_q ∙ laid-none (length o.calls) (λ p. (th.pos p).owes) (on_table o.machine th.table) q (λ p i. ap (λ (ds : List Due). last_at ds q) (left p i).0));
        slots = λ h in_h.
            subst (λ (f : ℕ → Option Measure). IsHand (f (h - 1)) (th.memory.slots h)) (sym th.slots)
            (subst (λ (x : Hand). IsHand (th.table.slots (h - 1)) x)
            (sym (th.stands.slots.laid_is h in_h ∙ over-none (length o.calls) (λ p. last_put (th.pos p).swaps h) (th.stands.slots.now h) (λ p i. ap (λ (ds : List SwapDue). last_put ds h) (left p i).1)))
            (th.stands.slots.there h in_h));
        hand = subst (λ z. IsHand None z) (sym th.stands.hand) tt;
      };
      shows = th.stands.shows;
      each = λ p i.
          subst (λ (x : WordLp). StandsBy o (table_for o trees p) p s th.memory.words x) (left p i).2
          (let has = hand-at (th.pos p).at (left p i).3 in
          record { hand = has.0; in_hand = has.1; stands = stands-so o trees p s.world th.memory.words (s.lps p) (th.pos p).at (th.stands.holds p i).stands (left p i).3 });
      bundles = record {
        own = th.stands.bundles.own;
        each = λ p i. th.stands.bundles.each p i ∙ ap (λ (w : WordLp). w.beside.bundles) (left p i).2;
        none_else = th.stands.bundles.none_else;
        merged = th.stands.bundles.merged;
      };
    }
