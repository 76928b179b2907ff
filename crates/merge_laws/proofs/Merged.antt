-- A merge, gone through piece by piece.
use Rattle.std.proofs.Common.{◌≡◌, ◌≢◌, ◌⊎◌, ℕ, ◌+◌, ◌-◌, ◌^◌, ◌<◌, ◌≤◌, Bool, true, false, ◌==◌, if◌then◌else◌, List, [], ◌∷◌, ◌++◌, map, length, Option, Some, None, refl, ap, sym, ◌∙◌, subst, inl, inr}
use Rattle.std.proofs.lemmas.Bool.{eq-eqb, eqb-true, ne_eqb, cases_lt}
use Rattle.td_words.specs.Place.{address}
use Rattle.flat_core.specs.World.{put}
use Rattle.flat_core.specs.Locks.{sharers, refusals}
use Rattle.flat_core.specs.Lawful.{Lawful}
use Rattle.flat_core.specs.Opening.{Opening}
use Rattle.flat_core.specs.Event.{State, Event, next_event, start, event}
use Rattle.flat_core.specs.AccessLaw.{IsGuarded}
use Rattle.flat_core.proofs.Always.{always_guarded}
use Rattle.lock_words.specs.LockWords.{IsNext}
use Rattle.flat_core.specs.Run.{play, run}
use Rattle.flat_core.proofs.Tests.{put_here}
use Rattle.flat_core.proofs.Induction.{count_stays, play_append}
use Rattle.lock_words.specs.Grips.{IsExclusive}
use Rattle.leaf_engine.specs.Facts.{Facts}
use Rattle.mrtd_measure.specs.declared.measures.Measure.{Measure}
use Rattle.step_core.specs.declared.steps.WordStep.TheVariants as step
use Rattle.step_core.specs.Locks.{weight_of}
use Rattle.step_core.specs.Items.{Table, PlaysTo}
use Rattle.step_core.specs.declared.items.Taken.{Taken}
use Rattle.step_core.specs.declared.items.Taken.TheVariants.{Stepped, Swapped, Missed}
use Rattle.leaf_engine.specs.declared.events.Event.{Event as RunEvent}
use Rattle.leaf_engine.specs.declared.events.Stage.{Stage}
use Rattle.leaf_engine.specs.declared.events.Stage.TheVariants as stages
use Rattle.leaf_engine.specs.declared.needs.Need.{Need}
use Rattle.leaf_engine.specs.declared.needs.Need.TheVariants as need
use Rattle.leaf_engine.specs.Changes.{Hand, Memory}
use Rattle.leaf_engine.specs.Trees.{settle, passed}
use Rattle.leaf_engine.specs.Decides.{Wants, IsHand}
use Rattle.leaf_engine.specs.Turns.{Standing, Comes as TurnComes, TurnBy, TakesBack, GivesBack}
use Rattle.leaf_engine.specs.OwnLists.{Piece, Unmarked, Marked, Wordless, joined, last_marked, pieces_for, behind, GoesIn, TurnIn, WordLp}
use Rattle.leaf_engine.specs.Merges.{Item, part, steps_taken, order, event_before}
use Rattle.merge_laws.specs.Merge.{IsUnderWay, MergePlays, table_after}
use Rattle.merge_laws.proofs.Owing.{Owed, Stores, Swaps, stores_in, swaps_in, FirstSwaps, FirstMisses, AreOwed}
use Rattle.merge_laws.proofs.Holding.{lock_grip_of}
use Rattle.merge_laws.proofs.Standing.{FillHolds, Trees, Does, TurnsTo, Laws, AreTrees, Known, Fill, Position, Pending, HasInHand, Rest, RestFilling, RestBy, RestOf, on_table, Holds, Stands}
use Rattle.merge_laws.proofs.Own.{at-other}
use Rattle.merge_laws.proofs.Swaps.{SwapDue, SwapsMay}
use Rattle.merge_laws.proofs.QuietSteps.{owed-step, swap-step}
use Rattle.merge_laws.proofs.Pieces.{state_after, PieceAnswers, SwapsOn, fits-answers, plays-piece, Came, came-as, answers-as, AtTurn, next-turn, fill-turn}
use Rattle.merge_laws.proofs.LockPieces.{undo-piece, free-piece}
use Rattle.merge_laws.proofs.Turns.{Heads, lock-turn}
use Rattle.merge_laws.proofs.FillSteps.{fill-piece}
use Rattle.merge_laws.proofs.Verdicts.{verdict-turn}
use Rattle.merge_laws.proofs.Misses.{may-swap, two-never}

-- the next piece of a turn
turn-piece : (ls : Laws) (o : Opening) (trees : Trees) (s : State) (mem : Memory) (t : Table) (pos : ℕ → Position) (p : ℕ) (d : Does) (run run' : Standing) (e : RunEvent) (tp : List Piece) (tps : List (List Piece)) (end_ : WordLp)
    (piece : Piece) (ps : List Piece) → AtTurn o trees s mem t pos p d run → (pos p).owes ≡ [] → TurnIn run.stage o.machine run tp run' e
    → TurnsTo o trees p (d.after e run') tps end_
    → Heads tp tps piece ps → PieceAnswers t piece → Came o trees p s t pos piece ps end_
turn-piece ls o trees s mem t pos p d run run' e tp tps end_ piece ps a none tn own h an = by run.stage refl tn
  where
    by-need : (gi : GoesIn o.machine run tp run' e) → run.stage ≡ stages.Trying → (x : Need) → Wants o.machine.pages (settle gi.goes.tree) x → TurnComes o.machine run (passed (settle gi.goes.tree)) gi.goes.loads gi.items x run' e
        → tp ≡ pieces_for x (passed (settle gi.goes.tree)) gi.goes.loads gi.items (behind gi.goes.loads gi.items) → Came o trees p s t pos piece ps end_
    by-need gi st (need.Lock name at mode) g co q =
        lock-turn ls o trees s mem t pos p d run run' e gi.goes.loads gi.items gi.goes.tree name at mode tps end_ piece ps a none st gi.goes.loaded g co own (ap (λ (z : List Piece). z ++ joined tps) (sym q) ∙ h) an
    by-need gi st (need.Load at) g co q = absurd co
    by-need gi st (need.Verdict reply) g co q =
        verdict-turn ls o trees s mem t pos p d run run' e gi.goes.loads gi.items gi.goes.tree reply tps end_ piece ps a none st gi.goes.loaded g co own (ap (λ (z : List Piece). z ++ joined tps) (sym q) ∙ h) an

    by : (st : Stage) → run.stage ≡ st → TurnIn st o.machine run tp run' e → Came o trees p s t pos piece ps end_
    by stages.Trying st gi = by-need gi st gi.goes.need gi.goes.gives gi.goes.comes gi.pieces
    by (stages.Undoing name at) st si =
        let tb : TakesBack run name at si.items run' e = subst (λ (z : Stage). TurnBy z o.machine run si.items run' e) st si.turn in
        let x : Taken = Stepped (step.Sub at 1) tb.items.0 in
        let h' : Marked x ∷ joined tps ≡ piece ∷ ps = ap (λ (z : List Taken). last_marked z ++ joined tps) (sym tb.items.1) ∙ (ap (λ (z : List Piece). z ++ joined tps) (sym si.pieces) ∙ h) in
        came-as o trees p s t pos (Marked x) piece (joined tps) ps end_ h'
        (undo-piece ls o trees s mem t pos p d run run' si.items e name at tps end_ a none st si.turn tb (answers-as t (Marked x) piece (joined tps) ps h' an) own)
    by (stages.Answered r) st si =
        let both : GivesBack run.held si.items run'.held e × (run' ≡ record run { held = run'.held }) = subst (λ (z : Stage). TurnBy z o.machine run si.items run' e) st si.turn in
        let x : Taken = Stepped (step.Sub both.0.newest.at (weight_of both.0.newest.mode)) both.0.items.0 in
        let h' : Marked x ∷ joined tps ≡ piece ∷ ps = ap (λ (z : List Taken). last_marked z ++ joined tps) (sym both.0.items.1) ∙ (ap (λ (z : List Piece). z ++ joined tps) (sym si.pieces) ∙ h) in
        came-as o trees p s t pos (Marked x) piece (joined tps) ps end_ h'
        (free-piece ls o trees s mem t pos p d run run' si.items e r tps end_ a none st si.turn both.0 both.1 (answers-as t (Marked x) piece (joined tps) ps h' an) own)

-- a processor, and the next piece of what it has still to do
module _ (ls : Laws) (o : Opening) (trees : Trees) (s : State) (mem : Memory) (t : Table) (pos : ℕ → Position) (p : ℕ) (end_ : WordLp) (piece : Piece) (ps : List Piece) (are : AreTrees o trees) (known : Known o s) (sd : Stands o trees s mem t pos)
    (i : p < length o.calls) (an : PieceAnswers t piece) where
  -- how the processor stands
  processor-stands : Holds o trees p s.world mem.words (on_table o.machine t) (s.lps p) (pos p)
  processor-stands = sd.holds p i

  -- the next piece of these turns
  next-of-turns : (pos p).owes ≡ [] → (pos p).swaps ≡ [] → (last : Option Measure) (hand : Hand) → HasInHand (pos p).at last → IsHand last hand → (turns : List (List Piece)) → TurnsTo o trees p (pos p).at turns end_ → joined turns ≡ piece ∷ ps
      → Came o trees p s t pos piece ps end_
  next-of-turns q no-swaps last hand has k [] own f = cc
  next-of-turns q no-swaps last hand has k (tp ∷ tps) own f =
      let next = next-turn o trees s mem t pos p last hand own.0 tp own.1.0 are known sd i no-swaps has k own.1.1 in
      turn-piece ls o trees s mem t pos p next.does next.run next.stands own.0 tp tps end_ piece ps next.at q next.turn
      (subst (λ (z : WordLp). TurnsTo o trees p z tps end_) next.after_is own.1.2) f an

  -- the next piece of what is owed: a store, a swap, or a turn once nothing is
  next-of-owed : (pos p).fill ≡ None → (re : Rest o trees p (pos p).at (pos p).owes (pos p).swaps (piece ∷ ps) end_) → (os : List Owed) → re.owed ≡ os → AreOwed o.machine.pages re.hasher re.hand re.items os re.last → Came o trees p s t pos piece ps end_
  next-of-owed n re [] q of =
      let r = of re.in_hand in
      next-of-turns (re.owes_are ∙ ap stores_in q) (re.swaps_are ∙ ap swaps_in q) re.last re.hand re.last_is r.1 re.turns re.own
      (ap (λ (z : List Taken). map Unmarked z ++ joined re.turns) (sym r.0) ∙ sym re.pieces)
  next-of-owed n re (Stores d ∷ os) q of =
      let r = of re.in_hand in
      let y : Taken = Stepped (step.Store (address o.machine.pages d.at) d.word) r.answer in
      let h' : Unmarked y ∷ (map Unmarked r.further ++ joined re.turns) ≡ piece ∷ ps = ap (λ (z : List Taken). map Unmarked z ++ joined re.turns) (sym r.items) ∙ sym re.pieces in
      came-as o trees p s t pos (Unmarked y) piece (map Unmarked r.further ++ joined re.turns) ps end_ h'
      (record {
        memory = mem;
        now = record { at = (pos p).at; owes = stores_in os; swaps = (pos p).swaps; fill = None };
        stands = owed-step ls o trees s mem t pos p d (stores_in os) are known sd i (re.owes_are ∙ ap stores_in q) n;
        rest = record {
          owed = os;
          owes_are = refl;
          swaps_are = re.swaps_are ∙ ap swaps_in q;
          hasher = re.hasher;
          hand = re.hand;
          in_hand = re.in_hand;
          items = r.further;
          last = re.last;
          are = r.then_;
          last_is = re.last_is;
          turns = re.turns;
          pieces = refl;
          own = re.own;
        };
      })
  next-of-owed n re (Swaps d ∷ os) q of = by (of re.in_hand)
    where
      left : (pos p).swaps ≡ d ∷ swaps_in os
      left = re.swaps_are ∙ ap swaps_in q

      may : SwapsMay o.machine (lock_grip_of s p) s.world sd.slots.now (d ∷ swaps_in os)
      may = subst (λ (z : List SwapDue). SwapsMay o.machine (lock_grip_of s p) s.world sd.slots.now z) left (sd.slots.may p i)

      by : FirstSwaps re.items d (λ k ys. AreOwed o.machine.pages k d.taken ys os re.last) ⊎ FirstMisses re.items d → Came o trees p s t pos piece ps end_
      by (inr r) =
          let y : Taken = Missed (d.hkid - 1) in
          let h' : Unmarked y ∷ (map Unmarked r.further ++ joined re.turns) ≡ piece ∷ ps = ap (λ (z : List Taken). map Unmarked z ++ joined re.turns) (sym r.items) ∙ sym re.pieces in
          absurd (answers-as t (Unmarked y) piece (map Unmarked r.further ++ joined re.turns) ps h' an)
      by (inl r) =
          let y : Taken = Swapped (d.hkid - 1) r.put r.taken in
          let h' : Unmarked y ∷ (map Unmarked r.further ++ joined re.turns) ≡ piece ∷ ps = ap (λ (z : List Taken). map Unmarked z ++ joined re.turns) (sym r.items) ∙ sym re.pieces in
          let took : r.taken ≡ t.slots (d.hkid - 1) = answers-as t (Unmarked y) piece (map Unmarked r.further ++ joined re.turns) ps h' an in
          came-as o trees p s t pos (Unmarked y) piece (map Unmarked r.further ++ joined re.turns) ps end_ h'
          (record {
            memory = mem;
            now = record { at = (pos p).at; owes = (pos p).owes; swaps = swaps_in os; fill = None };
            stands = swap-step ls o trees s mem t pos p d (swaps_in os) r.put are known sd i left n r.is_put;
            rest = record {
              owed = os;
              owes_are = re.owes_are ∙ ap stores_in q;
              swaps_are = refl;
              hasher = r.taken;
              hand = d.taken;
              in_hand = subst (λ (z : Option Measure). IsHand z d.taken) (sym took) (subst (λ (z : Hand). IsHand (t.slots (d.hkid - 1)) z) (sym may.0.2) (sd.slots.there d.hkid may.0.0));
              items = r.further;
              last = re.last;
              are = r.then_;
              last_is = re.last_is;
              turns = re.turns;
              pieces = refl;
              own = re.own;
            };
          })

  -- the next piece of a fill that goes on
  next-of-fill : (f : Fill) → (pos p).fill ≡ Some f → RestFilling o trees p (pos p).swaps f (piece ∷ ps) end_ → Came o trees p s t pos piece ps end_
  next-of-fill f n re =
      let due : FillHolds o trees p s.world mem.words (on_table o.machine t) (s.lps p) (pos p).at (pos p).owes f =
      subst (λ (z : Option Fill). Pending o trees p s.world mem.words (on_table o.machine t) (s.lps p) (pos p).at (pos p).owes z) n processor-stands.due in
      fill-piece ls o trees s mem t pos p f end_ piece ps (fill-turn o trees s mem t pos p f are known sd i re.no_swaps due)
      (subst (λ (z : WordLp). FillHolds o trees p s.world mem.words (on_table o.machine t) (s.lps p) z (pos p).owes f) due.at_is due) re an

  -- the next piece, whether a fill goes on or not
  next-by-fill : (f : Option Fill) → (pos p).fill ≡ f → RestBy o trees p (pos p) (piece ∷ ps) end_ f → Came o trees p s t pos piece ps end_
  next-by-fill None n re = next-of-owed n re re.owed refl re.are
  next-by-fill (Some f) n re = next-of-fill f n re

  -- the next piece comes of what is left
  next-piece : RestOf o trees p (pos p) (piece ∷ ps) end_ → Came o trees p s t pos piece ps end_
  next-piece rest = next-by-fill (pos p).fill refl rest

-- what is known of each state of a run

pub known-of : (ls : Laws) (o : Opening) (schedule : List ℕ) (s : State) → length o.calls ≤ 8 → s ≡ play o schedule (start o None) → s.lp_count ≡ length o.calls → s.world.outgoing.to_tell ≡ None → Known o s
known-of ls o schedule s most is count tell = record {
  count = count;
  lawful = subst (λ (z : State). Lawful o.machine z.world) (sym is) (ls.lawful o None schedule);
  exclusive = subst (λ (z : State). IsExclusive z) (sym is) (λ l. ls.exclude o None schedule l);
  few = λ l. subst (λ (z : State). sharers z.lps z.lp_count l + refusals z.lps z.lp_count l + 1 < 2 ^ 63) (sym is) (ls.runs.few o None schedule l most);
  nothing_to_tell = tell;
  facts = subst (λ (z : State). Facts z) (sym is) (ls.facts o schedule);
  guarded = subst (λ (z : State). IsGuarded o z) (sym is) (always_guarded o None schedule);
  next = subst (λ (z : State). (p : ℕ) (e : Event) → next_event o z p ≡ Some e → IsNext o z p e) (sym is) (λ p e h. ls.runs.next o None schedule p e h);
  later = λ p. subst (λ (z : State). Facts (event o z p)) (sym is) (subst (λ (z : State). Facts z) (play_append o schedule (p ∷ []) (start o None)) (ls.facts o (schedule ++ p ∷ [])));
}

-- What is known of each state of which this is so, and so after each event.
pub record Tells (o : Opening) (So : State → Type 0) : Type 0 where
  pub known : (s : State) → So s → Known o s
  pub next : (s : State) (p : ℕ) → So s → So (event o s p)

-- a run has reached it
pub record IsReached (o : Opening) (s : State) : Type 0 where
  pub schedule : List ℕ
  pub is : s ≡ play o schedule (start o None)
  pub count : s.lp_count ≡ length o.calls
  pub nothing_to_tell : s.world.outgoing.to_tell ≡ None

pub runs-tell : (ls : Laws) (o : Opening) → length o.calls ≤ 8 → Tells o (IsReached o)
runs-tell ls o most = record {
  known = λ s h. known-of ls o h.schedule s most h.is h.count h.nothing_to_tell;
  next = λ s p h. record {
    schedule = h.schedule ++ p ∷ [];
    is = ap (λ (z : State). event o z p) h.is ∙ sym (play_append o h.schedule (p ∷ []) (start o None));
    count = count_stays o s p ∙ h.count;
    nothing_to_tell = ls.tell o s p h.nothing_to_tell;
  };
}

so-after : (o : Opening) (So : State → Type 0) → Tells o So → (s : State) (p : ℕ) (piece : Piece) → So s → So (state_after o s p piece)
so-after o So tells s p (Unmarked x) so = so
so-after o So tells s p (Marked x) so = tells.next s p so
so-after o So tells s p Wordless so = tells.next s p so

-- after all pieces
pub record Through (o : Opening) (trees : Trees) (s : State) (u : Table) (ends : ℕ → WordLp) : Type 0 where
  pub memory : Memory
  pub table : Table
  pub pos : ℕ → Position
  pub stands : Stands o trees s memory table pos
  pub words : u.words ≡ table.words
  pub slots : u.slots ≡ table.slots
  pub rest : (p : ℕ) → p < length o.calls → RestOf o trees p (pos p) [] (ends p)

order-plays : (o : Opening) (piece : Piece) (p : ℕ) (ps : List ℕ) (s : State) → play o (event_before piece p ps) s ≡ play o ps (state_after o s p piece)
order-plays o (Unmarked x) p ps s = refl
order-plays o (Marked x) p ps s = refl
order-plays o Wordless p ps s = refl

part-own : (i : Item) (is : List Item) → part i.lp (i ∷ is) ≡ i.piece ∷ part i.lp is
part-own i is = ap (λ (b : Bool). if b then i.piece ∷ part i.lp is else part i.lp is) (eq-eqb i.lp i.lp refl)

part-other : (i : Item) (is : List Item) (k : ℕ) → (k == i.lp) ≡ false → part k (i ∷ is) ≡ part k is
part-other i is k e = ap (λ (b : Bool). if b then i.piece ∷ part k is else part k is) (by (i.lp == k) refl)
  where
    by : (b : Bool) → (i.lp == k) ≡ b → (i.lp == k) ≡ false
    by false f = f
    by true f = (let t : (k == i.lp) ≡ true = eq-eqb k i.lp (sym (eqb-true i.lp k f)) in cc)

-- a merge is gone through, piece by piece: its items play, since no swap misses
pub through : (ls : Laws) (o : Opening) (trees : Trees) (So : State → Type 0) → Tells o So → (is : List Item) (s : State) (mem : Memory) (t u : Table) (pos : ℕ → Position) (ends : ℕ → WordLp) → AreTrees o trees → So s → Stands o trees s mem t pos
    → ((p : ℕ) → p < length o.calls → RestOf o trees p (pos p) (part p is) (ends p)) → ((p : ℕ) → length o.calls ≤ p → part p is ≡ []) → MergePlays t is u
    → PlaysTo t (steps_taken is) u × Through o trees (play o (order is) s) u ends
through ls o trees So tells [] s mem t u pos ends are so sd rests others plays =
    (plays, record { memory = mem; table = t; pos = pos; stands = sd; words = plays.0; slots = plays.1; rest = rests })
through ls o trees So tells (i ∷ is) s mem t u pos ends are so sd rests others plays =
    by (cases_lt i.lp (length o.calls)) (λ s' mem' t' pos' k d r x y. through ls o trees So tells is s' mem' t' u pos' ends are k d r x y)
  where
    known : Known o s
    known = tells.known s so

    by : (i.lp < length o.calls) ⊎ (length o.calls ≤ i.lp)
        → ((s' : State) (mem' : Memory) (t' : Table) (pos' : ℕ → Position) → So s' → Stands o trees s' mem' t' pos' → ((p : ℕ) → p < length o.calls → RestOf o trees p (pos' p) (part p is) (ends p)) → ((p : ℕ) → length o.calls ≤ p → part p is ≡ [])
        → MergePlays t' is u → PlaysTo t' (steps_taken is) u × Through o trees (play o (order is) s') u ends)
        → PlaysTo t (steps_taken (i ∷ is)) u × Through o trees (play o (order (i ∷ is)) s) u ends
    by (inr out) further = (let none : i.piece ∷ part i.lp is ≡ [] = sym (part-own i is) ∙ others i.lp out in cc)
    by (inl inside) further =
        let p = i.lp in
        let mine = subst (λ (z : List Piece). RestOf o trees p (pos p) z (ends p)) (part-own i is) (rests p inside) in
        let answers = fits-answers is t p i.piece (λ k sw way. never k sw way mine (cases_lt way.lp (length o.calls))) plays.0 in
        let came = next-piece ls o trees s mem t pos p (ends p) i.piece (part p is) are known sd inside answers mine in
        let left =
        further (state_after o s p i.piece) came.memory (table_after t i.piece) (put pos p came.now) (so-after o So tells s p i.piece so) came.stands
        (λ k j. rest k j came (k == p) refl)
        (λ k out. no-part k out (k == p) refl) plays.1 in (
          plays-piece t u i.piece (steps_taken is) answers left.0,
          subst (λ (z : State). Through o trees z u ends) (sym (order-plays o i.piece p (order is) s)) left.1,
        )
      where
        theirs : (q : ℕ) → q ≢ i.lp → part q (i ∷ is) ≡ part q is
        theirs q ne = part-other i is q (ne_eqb q i.lp ne)

        -- no other processor has a swap on this slot under way
        never : (k : ℕ) → SwapsOn k i.piece → (way : IsUnderWay is i.lp k) → RestOf o trees i.lp (pos i.lp) (i.piece ∷ part i.lp is) (ends i.lp) → (way.lp < length o.calls) ⊎ (length o.calls ≤ way.lp) → ⊥
        never k sw way mine (inr out) = none way.swaps.is
          where
            none : (part way.lp is ≡ Unmarked (Swapped k way.swaps.put way.swaps.taken) ∷ way.swaps.further) ⊎ (part way.lp is ≡ Marked (Swapped k way.swaps.put way.swaps.taken) ∷ way.swaps.further) → ⊥
            none (inl e) = (let no = sym e ∙ (sym (theirs way.lp way.other) ∙ others way.lp out) in cc)
            none (inr e) = (let no = sym e ∙ (sym (theirs way.lp way.other) ∙ others way.lp out) in cc)
        never k sw way mine (inl lt) = two way.swaps.is
          where
            both : (x : Piece) → SwapsOn k x → part way.lp is ≡ x ∷ way.swaps.further → ⊥
            both x on e =
                two-never ls o s i.lp way.lp k known inside lt way.other (may-swap ls o trees s mem t pos i.lp (ends i.lp) i.piece (part i.lp is) are known sd inside k sw mine)
                (may-swap ls o trees s mem t pos way.lp (ends way.lp) x way.swaps.further are known sd lt k on
                (subst (λ (z : List Piece). RestOf o trees way.lp (pos way.lp) z (ends way.lp)) (theirs way.lp way.other ∙ e) (rests way.lp lt)))

            two : (part way.lp is ≡ Unmarked (Swapped k way.swaps.put way.swaps.taken) ∷ way.swaps.further) ⊎ (part way.lp is ≡ Marked (Swapped k way.swaps.put way.swaps.taken) ∷ way.swaps.further) → ⊥
            two (inl e) = both (Unmarked (Swapped k way.swaps.put way.swaps.taken)) refl e
            two (inr e) = both (Marked (Swapped k way.swaps.put way.swaps.taken)) refl e

        rest : (k : ℕ) → k < length o.calls → (came : Came o trees i.lp s t pos i.piece (part i.lp is) (ends i.lp)) → (b : Bool) → (k == i.lp) ≡ b → RestOf o trees k (put pos i.lp came.now k) (part k is) (ends k)
        rest k j came true e =
            let q : i.lp ≡ k = sym (eqb-true k i.lp e) in
            subst (λ (z : ℕ). RestOf o trees z (put pos i.lp came.now z) (part z is) (ends z)) q (subst (λ (z : Position). RestOf o trees i.lp z (part i.lp is) (ends i.lp)) (sym (put_here pos i.lp came.now)) came.rest)
        rest k j came false e =
            subst (λ (z : Position). RestOf o trees k z (part k is) (ends k)) (sym (at-other pos i.lp k came.now e))
            (subst (λ (z : List Piece). RestOf o trees k (pos k) z (ends k)) (part-other i is k e) (rests k j))

        no-part : (k : ℕ) → length o.calls ≤ k → (b : Bool) → (k == i.lp) ≡ b → part k is ≡ []
        no-part k out true e =
            let q : k ≡ i.lp = eqb-true k i.lp e in
            let none : i.piece ∷ part i.lp is ≡ [] = sym (part-own i is) ∙ (ap (λ (z : ℕ). part z (i ∷ is)) (sym q) ∙ others k out) in
            cc
        no-part k out false e = sym (part-other i is k e) ∙ others k out
