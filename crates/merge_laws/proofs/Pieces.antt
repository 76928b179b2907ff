-- One piece of a merge: what it makes of the state, the table, and where its processor is.
use Rattle.std.proofs.Common.{◌≡◌, ℕ, ◌<◌, Bool, true, false, length, sym, ap, inl, inr, List, [], ◌∷◌, ◌++◌, Option, Some, None, refl, ◌∙◌, subst}
use Rattle.td_words.specs.declared.calls.Call.{Call}
use Rattle.td_words.specs.declared.replies.Outcome.{Outcome}
use Rattle.td_words.specs.Place.{WordPlace}
use Rattle.flat_core.specs.World.{World, put}
use Rattle.flat_core.specs.Processor.{Answered, Progress, nothing_yet}
use Rattle.flat_core.specs.Opening.{Opening}
use Rattle.flat_core.specs.Table.{row_of}
use Rattle.flat_core.specs.Event.{State, lines_left, event}
use Rattle.step_core.specs.Words.{answer_of}
use Rattle.step_core.specs.Items.{Table, PlaysTo}
use Rattle.step_core.specs.declared.items.Taken.{Taken}
use Rattle.step_core.specs.declared.items.Taken.TheVariants.{Stepped, Swapped, Missed}
use Rattle.mrtd_measure.specs.declared.measures.Measure.{Measure}
use Rattle.flat_core.specs.Laws.{IsBetween}
use Rattle.leaf_engine.specs.declared.events.Event.{Event as RunEvent}
use Rattle.leaf_engine.specs.declared.events.Stage.{Stage}
use Rattle.leaf_engine.specs.Changes.{Hand, Memory}
use Rattle.leaf_engine.specs.Decides.{IsHand}
use Rattle.leaf_engine.specs.Turns.{Standing, has_ended}
use Rattle.leaf_engine.specs.Guests.{WordGuest, gives_epoch_back}
use Rattle.leaf_engine.specs.OwnLists.{Piece, Unmarked, Marked, Wordless, behind, TurnIn, WordLp, running, step_leaf, LineTurn, GuestTurn, EnteredTurn, LinesTurn, LpTurns}
use Rattle.leaf_engine.specs.Merges.{Item, step_before}
use Rattle.leaf_engine.specs.Means.{Task}
use Rattle.leaf_engine.specs.Standing.{HasNoHasher, position_in, position_at, RunOfStep, IsStepRun}
use Rattle.leaf_engine.proofs.GuestThen.{position_of}
use Rattle.leaf_engine.proofs.Processing.{stage-position}
use Rattle.leaf_engine.proofs.Showing.{current-end, granted-end, not-acted-end}
use Rattle.leaf_engine.proofs.Beginning.{calls-begin}
use Rattle.merge_laws.specs.Merge.{IsUnderWay, PieceFits, table_after}
use Rattle.merge_laws.proofs.Standing.{Trees, leaf_for, table_for, AreTrees, Known, HandOf, Does, task_for, RunsAt, OnCall, InGuestAt, RunAt, StandsAt, line_does, call_does, step_does, guest_run, DoesHere, HandKnown, HasInHand, Leads, Fill, FillHolds, on_table, Position, RestOf, Stands}
use Rattle.merge_laws.proofs.Lines.{call-here, call-leads, does-here, does-leads}
use Rattle.merge_laws.proofs.Inside.{seen-is, step-here}
use Rattle.merge_laws.proofs.Stepping.{step-leads}
use Rattle.merge_laws.proofs.GivingBack.{back-here, back-runs, back-leads}

abbrev pub state_after : Opening → State → ℕ → Piece → State
state_after o s p (Unmarked x) = s
state_after o s p (Marked x) = event o s p
state_after o s p Wordless = event o s p

abbrev pub Answers : Table → Taken → Type 0
Answers t (Stepped s a) = a ≡ answer_of t.words s
Answers t (Swapped k put taken) = taken ≡ t.slots k
Answers t (Missed k) = ⊥

abbrev pub PieceAnswers : Table → Piece → Type 0
PieceAnswers t (Unmarked x) = Answers t x
PieceAnswers t (Marked x) = Answers t x
PieceAnswers t Wordless = Unit {0}

-- it is a swap on that slot, which was made or missed
abbrev pub SwapsOn : ℕ → Piece → Type 0
SwapsOn k (Unmarked (Swapped j put taken)) = j ≡ k
SwapsOn k (Unmarked (Missed j)) = j ≡ k
SwapsOn k (Marked (Swapped j put taken)) = j ≡ k
SwapsOn k (Marked (Missed j)) = j ≡ k
SwapsOn k _ = ⊥

-- it didn't miss, where no other swap is under way
pub fits-answers : (is : List Item) (t : Table) (p : ℕ) (piece : Piece) → ((k : ℕ) → SwapsOn k piece → IsUnderWay is p k → ⊥) → PieceFits is t p piece → PieceAnswers t piece
fits-answers is t p (Unmarked (Stepped s a)) never f = f
fits-answers is t p (Unmarked (Swapped k put taken)) never f = f
fits-answers is t p (Unmarked (Missed k)) never f = never k refl f
fits-answers is t p (Marked (Stepped s a)) never f = f
fits-answers is t p (Marked (Swapped k put taken)) never f = f
fits-answers is t p (Marked (Missed k)) never f = never k refl f
fits-answers is t p Wordless never f = tt

-- a piece is played, and then the others
pub plays-piece : (t u : Table) (piece : Piece) (xs : List Taken) → PieceAnswers t piece → PlaysTo (table_after t piece) xs u → PlaysTo t (step_before piece xs) u
plays-piece t u (Unmarked (Stepped s a)) xs f p = (f, p)
plays-piece t u (Unmarked (Swapped k put taken)) xs f p = (f, p)
plays-piece t u (Unmarked (Missed k)) xs f p = absurd f
plays-piece t u (Marked (Stepped s a)) xs f p = (f, p)
plays-piece t u (Marked (Swapped k put taken)) xs f p = (f, p)
plays-piece t u (Marked (Missed k)) xs f p = absurd f
plays-piece t u Wordless xs f p = p

-- what came of it
pub record Came (o : Opening) (trees : Trees) (p : ℕ) (s : State) (t : Table) (pos : ℕ → Position) (piece : Piece) (ps : List Piece) (end_ : WordLp) : Type 0 where
  pub memory : Memory
  pub now : Position
  pub stands : Stands o trees (state_after o s p piece) memory (table_after t piece) (put pos p now)
  pub rest : RestOf o trees p now ps end_

-- it is this piece, and these are left
pub came-as : (o : Opening) (trees : Trees) (p : ℕ) (s : State) (t : Table) (pos : ℕ → Position) (piece piece' : Piece) (ps ps' : List Piece) (end_ : WordLp) → piece ∷ ps ≡ piece' ∷ ps' → Came o trees p s t pos piece ps end_
    → Came o trees p s t pos piece' ps' end_
came-as o trees p s t pos piece piece' ps ps' end_ e c =
    let a : piece ≡ piece' = cc in
    let b : ps ≡ ps' = cc in
    subst (λ (z : Piece). Came o trees p s t pos z ps' end_) a (subst (λ (z : List Piece). Came o trees p s t pos piece z end_) b c)

pub answers-as : (t : Table) (piece piece' : Piece) (ps ps' : List Piece) → piece ∷ ps ≡ piece' ∷ ps' → PieceAnswers t piece' → PieceAnswers t piece
answers-as t piece piece' ps ps' e a = (let q : piece' ≡ piece = cc in subst (λ (z : Piece). PieceAnswers t z) q a)

pub behind-append : (xs ys : List Taken) → behind xs (xs ++ ys) ≡ ys
behind-append [] ys = refl
behind-append (x ∷ xs) ys = behind-append xs ys

-- a processor at a turn of what it does
pub record AtTurn (o : Opening) (trees : Trees) (s : State) (mem : Memory) (t : Table) (pos : ℕ → Position) (p : ℕ) (d : Does) (run : Standing) : Type 0 where
  pub are : AreTrees o trees
  pub known : Known o s
  pub all : Stands o trees s mem t pos
  pub inside : p < length o.calls
  pub here : DoesHere o s p d
  pub leads : Leads o trees s p d
  pub bundles : d.bundles ≡ (pos p).at.beside.bundles
  pub runs : RunsAt (task_for o p d) d.far s.world mem.words run
  pub hand : HandOf run
  pub no_swaps : (pos p).swaps ≡ []
  pub going : has_ended run.stage run.held ≡ false

-- the hasher that a run has in hand
known-hand : (r : Standing) (last : Option Measure) (hand : Hand) → HandKnown (Some r) last → IsHand last hand → HasNoHasher r → HandOf r
known-hand r last hand (inl e) is none = record { hand = hand; is = subst (λ (z : Option Measure). IsHand z hand) (sym e) is; trying = none }
known-hand r last hand (inr x) is none = record { hand = x.0; is = x.1; trying = none }

line-hand : (r : Standing) (last : Option Measure) (hand : Hand) → HandKnown (Some r) last → IsHand last hand → (x : Hand) × IsHand r.hasher x
line-hand r last hand (inl e) is = (hand, subst (λ (z : Option Measure). IsHand z hand) (sym e) is)
line-hand r last hand (inr x) is = x

-- a guest's step that hasn't begun begins now
far-now : (task : Task) (w : World) (words : WordPlace → ℕ) (run : Option Standing) (y : Progress (Option Outcome)) → IsStepRun task w words run y → RunOfStep task w words (running task run) y
far-now task w words (Some r) y f = f
far-now task w words None y f = record {
  own = nothing_yet;
  is = sym f;
  at = record { stage = tt; held = refl; told = λ z. record { told = []; current = current-end words task.tree; waits = not-acted-end task.tree; rest = refl; locks = granted-end task.tree [] } };
  waits = λ z. refl;
  single = inr refl;
  answers = tt;
}

run-position : (task : Task) (n : ℕ) (run : Option Standing) → position_at n run ≡ position_in n (running task run).stage
run-position task n None = refl
run-position task n (Some r) = refl

hand-now : (task : Task) (run : Option Standing) (last : Option Measure) (hand : Hand) → HandKnown run last → IsHand last hand → HasNoHasher (running task run) → HandOf (running task run)
hand-now task None last hand h is none = record { hand = None; is = tt; trying = none }
hand-now task (Some r) last hand h is none = known-hand r last hand h is none

-- the turn that it makes next
pub record NextTurn (o : Opening) (trees : Trees) (s : State) (mem : Memory) (t : Table) (pos : ℕ → Position) (p : ℕ) (e : RunEvent) (tp : List Piece) (after : WordLp) : Type 0 where
  pub does : Does
  pub run : Standing
  pub stands : Standing
  pub at : AtTurn o trees s mem t pos p does run
  pub turn : TurnIn run.stage o.machine run tp stands e
  pub after_is : after ≡ does.after e stands

pub next-turn : (o : Opening) (trees : Trees) (s : State) (mem : Memory) (t : Table) (pos : ℕ → Position) (p : ℕ) (last : Option Measure) (hand : Hand) (e : RunEvent) (tp : List Piece) (after : WordLp) → AreTrees o trees → Known o s → Stands o trees s mem t pos → p < length o.calls
    → (pos p).swaps ≡ [] → HasInHand (pos p).at last → IsHand last hand → LpTurns (table_for o trees p) o.machine (pos p).at e tp after → NextTurn o trees s mem t pos p e tp after
next-turn o trees s mem t pos p last hand e tp after are known sd i no-swaps has in-hand turn = by (pos p).at.lines (pos p).at.run (pos p).at.guest refl (sd.holds p i).stands.run has.0 has.1 turn
  where
    st : StandsAt o trees p s.world mem.words (s.lps p) (pos p).at
    st = (sd.holds p i).stands

    its : Call → List Call → Does
    its c cs = call_does o trees p (s.lps p) c cs (pos p).at.replies (pos p).at.beside

    at-turn : (c : Call) (cs : List Call) (run : Standing) → lines_left o p (s.lps p) ≡ c ∷ cs → OnCall o trees p c s.world mem.words (s.lps p) run → HandOf run → has_ended run.stage run.held ≡ false → AtTurn o trees s mem t pos p (its c cs) run
    at-turn c cs run l on h going = record {
      are = are;
      known = known;
      all = sd;
      inside = i;
      here = call-here o trees s p c cs (pos p).at.replies (pos p).at.beside are known i l on.guest;
      leads = call-leads o trees s p c cs (pos p).at.replies (pos p).at.beside are known i l on.guest st.replies st.beside;
      bundles = refl;
      runs = on.runs;
      hand = h;
      no_swaps = no-swaps;
      going = going;
    }

    begun : (c : Call) (cs : List Call) → lines_left o p (s.lps p) ≡ c ∷ cs → IsBetween (s.lps p) → OnCall o trees p c s.world mem.words (s.lps p) (running (leaf_for o trees p c) None)
    begun c cs l between =
        let ca = calls-begin o (leaf_for o trees p c) (row_of o p c) s.world mem.words (s.lps p) (record { call = c; further = cs; lines = l; row_is = refl }) between in
        record { guest = between.guest; runs = record { at = record { stage = ca.stage; held = ca.held; told = ca.told }; trying = λ z. refl } }

    -- in a guest: VP.ENTER gives E back, or the guest's step is at its turn
    back-turn : (c : Call) (cs : List Call) (line : Standing) (x : WordGuest) → lines_left o p (s.lps p) ≡ c ∷ cs → (a : InGuestAt o trees p s.world mem.words (s.lps p) line x (pos p).at.replies (pos p).at.beside) → HandKnown (Some line) last → gives_epoch_back line.held ≡ true
        → LineTurn (leaf_for o trees p) o.machine c cs (Some line) (Some x) (pos p).at.replies (pos p).at.beside e tp after → NextTurn o trees s mem t pos p e tp after
    back-turn c cs line x l a h gives lt =
        let runs = back-runs o trees s p c cs line x (pos p).at.replies (pos p).at.beside are known i l st.replies st.beside mem.words a gives in
        record {
          does = line_does o trees p (record { phase = Answered a.reply; held = (s.lps p).call.held }) c cs (Some x) (pos p).at.replies (pos p).at.beside;
          run = line;
          stands = lt.stands;
          at = record {
            are = are;
            known = known;
            all = sd;
            inside = i;
            here = back-here o trees s p c cs line x (pos p).at.replies (pos p).at.beside are known i l st.replies st.beside mem.words a gives;
            leads = back-leads o trees s p c cs line x (pos p).at.replies (pos p).at.beside are known i l st.replies st.beside mem.words a gives;
            bundles = refl;
            runs = runs;
            hand = known-hand line last hand h in-hand runs.trying;
            no_swaps = no-swaps;
            going = lt.going;
          };
          turn = lt.turn;
          after_is = lt.after_is;
        }

    step-turn : (c : Call) (cs : List Call) (line : Standing) (x : WordGuest) → (pos p).at.lines ≡ c ∷ cs → (a : InGuestAt o trees p s.world mem.words (s.lps p) line x (pos p).at.replies (pos p).at.beside) → HandKnown (Some line) last → HandKnown x.run last
        → gives_epoch_back line.held ≡ false → GuestTurn (table_for o trees p) o.machine c cs line x (pos p).at.replies (pos p).at.beside e tp after → NextTurn o trees s mem t pos p e tp after
    step-turn c cs line x ls a h hg freed lt =
        let task : Task = step_leaf (table_for o trees p) x (pos p).at.replies (pos p).at.beside in
        let f : RunOfStep task s.world mem.words (running task x.run) a.guest.operation = far-now task s.world mem.words x.run a.guest.operation a.at.operation in
        let runs : RunsAt task f.own s.world mem.words (running task x.run) = record { at = f.at; trying = f.waits } in
        let d : Does = step_does o trees p (s.lps p) f.own c cs line x (pos p).at.replies (pos p).at.beside in
        let x-is = seen-is task s.world mem.words a.guest x x.run a.at in
        let place : s.world.vps.positions a.guest.vp ≡ position_of x.position f.own.phase =
        ap s.world.vps.positions a.at.vp ∙ (a.at.position ∙ (run-position task x.position x.run ∙ stage-position o.machine s.world x.position (running task x.run).stage f.own.phase f.at.stage)) in
        record {
          does = d;
          run = running task x.run;
          stands = lt.stands;
          at = record {
            are = are;
            known = known;
            all = sd;
            inside = i;
            here = step-here o trees s p c cs line x (pos p).at.replies (pos p).at.beside a.guest f.own are known i (st.lines ∙ ls) st.replies st.beside a.is_in x-is f.is place f.single a.held freed (running task x.run) f.at.stage;
            leads =
                step-leads o trees s p c cs line x (pos p).at.replies (pos p).at.beside a.guest f.own are known i (st.lines ∙ ls) st.replies st.beside a.is_in x-is f.is place f.single f.answers a.held freed (line-hand line last hand h in-hand) a.reply a.answered;
            bundles = refl;
            runs = runs;
            hand = hand-now task x.run last hand hg in-hand runs.trying;
            no_swaps = no-swaps;
            going = lt.going;
          };
          turn = lt.turn;
          after_is = lt.after_is;
        }

    in-guest-turn : (c : Call) (cs : List Call) (line : Standing) (x : WordGuest) → (pos p).at.lines ≡ c ∷ cs → InGuestAt o trees p s.world mem.words (s.lps p) line x (pos p).at.replies (pos p).at.beside → HandKnown (Some line) last → HandKnown x.run last
        → (give : Bool) → gives_epoch_back line.held ≡ give → EnteredTurn (table_for o trees p) o.machine c cs line x (pos p).at.replies (pos p).at.beside e tp after give → NextTurn o trees s mem t pos p e tp after
    in-guest-turn c cs line x ls a h hg true gives lt = back-turn c cs line x (st.lines ∙ ls) a h gives lt
    in-guest-turn c cs line x ls a h hg false gives lt = step-turn c cs line x ls a h hg gives lt

    by : (cs : List Call) (r : Option Standing) (g : Option WordGuest) → (pos p).at.lines ≡ cs → RunAt o trees p s.world mem.words (s.lps p) cs r g (pos p).at.replies (pos p).at.beside → HandKnown r last → HandKnown (guest_run g) last
        → LinesTurn (table_for o trees p) o.machine cs r g (pos p).at.replies (pos p).at.beside e tp after → NextTurn o trees s mem t pos p e tp after
    by [] r g ls a h hg lt = absurd lt
    by (c ∷ cs) None (Some x) ls a h hg lt = absurd a
    by (c ∷ cs) (Some line) (Some x) ls a h hg lt = in-guest-turn c cs line x ls a h hg (gives_epoch_back line.held) refl lt
    by (c ∷ cs) None None ls a h hg lt =
        let l = st.lines ∙ ls in
        let run : Standing = running (leaf_for o trees p c) None in
        record { does = its c cs; run = run; stands = lt.stands; at = at-turn c cs run l (begun c cs l a) (record { hand = None; is = tt; trying = λ z. refl }) lt.going; turn = lt.turn; after_is = lt.after_is }
    by (c ∷ cs) (Some r) None ls a h hg lt = record {
      does = its c cs;
      run = r;
      stands = lt.stands;
      at = at-turn c cs r (st.lines ∙ ls) a (known-hand r last hand h in-hand a.runs.trying) lt.going;
      turn = lt.turn;
      after_is = lt.after_is;
    }

-- a processor that fills
pub fill-turn : (o : Opening) (trees : Trees) (s : State) (mem : Memory) (t : Table) (pos : ℕ → Position) (p : ℕ) (f : Fill) → AreTrees o trees → Known o s → Stands o trees s mem t pos → p < length o.calls → (pos p).swaps ≡ []
    → FillHolds o trees p s.world mem.words (on_table o.machine t) (s.lps p) (pos p).at (pos p).owes f → AtTurn o trees s mem t pos p f.does f.run
fill-turn o trees s mem t pos p f are known sd i no-swaps h =
    let leads = does-leads o trees s p f.does (pos p).at mem.words are known i (sd.holds p i).stands h.is in
    record {
      are = are;
      known = known;
      all = sd;
      inside = i;
      here = does-here o trees s p f.does (pos p).at mem.words are known i (sd.holds p i).stands h.is;
      leads = leads;
      bundles = sym (leads.within_bundles f.run) ∙ ap (λ (w : WordLp). w.beside.bundles) (sym h.at_is);
      runs = h.runs;
      hand = record { hand = None; is = subst (λ (z : Option Measure). IsHand z None) (sym (h.runs.trying h.trying)) tt; trying = h.runs.trying };
      no_swaps = no-swaps;
      going = ap (λ (z : Stage). has_ended z f.run.held) h.trying;
    }
