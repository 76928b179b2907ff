-- What a processor at a call line does, and where that leads.
use Rattle.mrtd_measure.specs.declared.measures.Measure.{Measure}
use Rattle.std.proofs.Common.{◌≡◌, ℕ, ◌<◌, List, [], ◌∷◌, ◌++◌, length, Option, Some, None, refl, ap, sym, ◌∙◌, subst, inl, inr}
use Rattle.std.proofs.lemmas.List.{append-nil}
use Rattle.td_words.specs.declared.calls.Call.{Call}
use Rattle.td_words.specs.declared.replies.Reply.{Reply}
use Rattle.td_words.specs.Place.{WordPlace}
use Rattle.flat_core.specs.World.{World}
use Rattle.flat_core.specs.Processor.{Held, Phase, Trying, Undoing, Answered, Guest, Entering, Lp}
use Rattle.td_words.specs.declared.replies.Reply.TheVariants.{Done}
use Rattle.flat_core.specs.Opening.{Opening}
use Rattle.flat_core.specs.Row.{Row, Move, Attempts, Undoes, Refuses, Succeeds, Releases, Rests, next_in}
use Rattle.flat_core.specs.Table.{row_of}
use Rattle.flat_core.specs.Event.{State, OfCall, next_event, lines_left, event, call_lp, succeeded, settle, settled, is_granted}
use Rattle.lock_words.specs.Grips.{HoldTdrs, UndoTdr, operation_locks}
use Rattle.step_core.specs.Items.{Table}
use Rattle.leaf_engine.specs.declared.events.Event.{Event as RunEvent}
use Rattle.leaf_engine.specs.declared.events.RunTurn.{RunTurn}
use Rattle.leaf_engine.specs.Guests.{WordGuest, guest_after}
use Rattle.leaf_engine.specs.Besides.{Beside, beside_of, beside_after, bundles_made}
use Rattle.leaf_engine.specs.Turns.{Standing, last_reply}
use Rattle.leaf_engine.specs.Calls.{IsLine, After}
use Rattle.leaf_engine.specs.Doing.{LeafAfter}
use Rattle.leaf_engine.specs.OwnLists.{WordLp, after_turn}
use Rattle.leaf_engine.proofs.Calling.{next-is, is-next, event-is, lp-now}
use Rattle.leaf_engine.proofs.Making.{own-bundles}
use Rattle.leaf_engine.proofs.Turning.{leaf-after}
use Rattle.leaf_engine.specs.Standing.{LpStands}
use Rattle.leaf_engine.proofs.Processing.{outside-then}
use Rattle.lock_words.specs.LockWords.{HeldStand}
use Rattle.merge_laws.proofs.Holding.{locks_at}
use Rattle.merge_laws.proofs.Staying.{GuestStays}
use Rattle.merge_laws.proofs.GuestsStay.{in-guest-stays}
use Rattle.merge_laws.proofs.InStep.{in-step-here, in-step-leads}
use Rattle.merge_laws.proofs.LineStands.{turned-beside, after-no-run, in-hand-after, turned-stands}
use Rattle.merge_laws.proofs.Standing.{Trees, leaf_for, table_for, AreTrees, Known, Does, task_for, RunsAt, RunAt, StandsAt, call_does, IsDoes, DoesHere, with_hasher, IsAct, Leads}

-- its record after an event of its call
lp-of-event : (o : Opening) (s : State) (p : ℕ) (row : Row) (mv : Move Reply) → next_event o s p ≡ Some (OfCall row mv)
    → (event o s p).lps p ≡ settled (call_lp s.world (is_granted s (OfCall row mv)) row mv (s.lps p))
lp-of-event o s p row mv e = ap (λ (z : State). z.lps p) (event-is o s p row mv e) ∙ lp-now s p _

-- the locks held stay through an act, also where it enters a guest
act-locks : (o : Opening) (s : State) (p : ℕ) (row : Row) (mv : Move Reply) → next_event o s p ≡ Some (OfCall row mv) → (s.lps p).guest ≡ None → IsAct mv → locks_at ((event o s p).lps p) ≡ locks_at (s.lps p)
act-locks o s p row mv e none a = ap locks_at (lp-of-event o s p row mv e) ∙ by mv a
  where
    settled-locks : (ph : Phase Reply) (hs : List Held) (lp : Lp) → lp.call.held ≡ hs → locks_at (settle ph hs lp) ≡ locks_at lp
    settled-locks (Answered r) [] lp h = ap (λ (z : List Held). operation_locks lp.guest ++ z) (sym h)
    settled-locks (Answered r) (x ∷ hs) lp h = refl
    settled-locks Trying hs lp h = refl
    settled-locks (Undoing l) hs lp h = refl

    entered-locks : (x : Option Entering) → locks_at (settled (succeeded s.world row x (s.lps p))) ≡ locks_at (s.lps p)
    entered-locks None = settled-locks (Answered (Done (row.value s.world))) (s.lps p).call.held _ refl
    entered-locks (Some en) = settled-locks (s.lps p).call.phase (s.lps p).call.held _ refl ∙ sym (ap (λ (g : Option Guest). operation_locks g ++ (s.lps p).call.held) none)

    by : (mv : Move Reply) → IsAct mv → locks_at (settled (call_lp s.world (is_granted s (OfCall row mv)) row mv (s.lps p))) ≡ locks_at (s.lps p)
    by (Refuses r) a = settled-locks (Answered r) (s.lps p).call.held _ refl
    by Succeeds a = entered-locks row.enters
    by (Attempts l m) a = absurd a
    by (Undoes l) a = absurd a
    by (Releases h) a = absurd a
    by Rests a = absurd a

-- a call

module _ (o : Opening) (trees : Trees) (s : State) (p : ℕ) (c : Call) (cs : List Call) (rs : List Reply) (b : Beside) (are : AreTrees o trees) (known : Known o s) (i : p < length o.calls) (lines : lines_left o p (s.lps p) ≡ c ∷ cs)
    (guest : (s.lps p).guest ≡ None) where
  abbrev lp : Lp
  lp = s.lps p

  abbrev row : Row
  row = row_of o p c

  abbrev its_call : Does
  its_call = call_does o trees p lp c cs rs b

  line : IsLine o p row lp
  line = record { call = c; further = cs; lines = lines; row_is = refl }

  due : next_event o s p ≡ Some (OfCall row (next_in (row.items s.world) lp.call.phase lp.call.held))
  due = next-is o s p row lp.call.phase lp.call.held line guest refl refl

  locks-are : locks_at lp ≡ lp.call.held
  locks-are = ap (λ (g : Option Guest). operation_locks g ++ lp.call.held) guest

  pub call-here : DoesHere o s p its_call
  call-here = record {
    means = are.means p c;
    doing = λ mem. record {
      next = is-next o s p row (next_in (row.items s.world) lp.call.phase lp.call.held) (subst (λ (n : ℕ). p < n) (sym known.count) i) due;
      single = inl tt;
      maker = λ t. (guest, refl);
    };
    locks = append-nil lp.call.held ∙ sym locks-are;
    held_tdrs = subst (λ (z : List Held). HoldTdrs z) (sym locks-are) (known.facts.tdrs p).0.0;
    undo_tdr = subst (λ (z : List Held). UndoTdr lp.call.phase z) (sym locks-are) (known.facts.tdrs p).0.1;
  }

  abbrev result : RunEvent → Standing → RunTurn
  result e run' = record { event = e; reply = last_reply run'.stage run'.held }

  after-of : (u : Table) (run' : Standing) (h : Option Measure) (e : RunEvent) → LeafAfter o (task_for o p its_call) s lp.call u (with_hasher run' h) e → After o (leaf_for o trees p c) row s (event o s p) u (with_hasher run' h) (result e run')
  after-of u run' h e la = leaf-after o (record { machine = o.machine; lp = p }) (trees.call p c) row s (with_hasher run' h) (result e run') line guest refl u due la

  pub call-leads : lp.replies ≡ rs → beside_of lp b.bundles ≡ b → Leads o trees s p its_call
  unfolding after-of
  call-leads replies beside = record {
    within_stands = λ words run ra trying. record { lines = lines; replies = replies; beside = beside; run = record { guest = guest; runs = ra } };
    within_bundles = λ run. refl;
    within_is = λ words run ra trying. inl (record { call = c; further = cs; lines_are = refl; outside = refl; guest = guest; is = refl });
    within_run = λ words run h ra trying e. (inl e, tt);
    turns = λ words run run' e tp ra trying tn going. record { stands = run'; turn = tn; going = going; after_is = refl };
    after_stands = λ u run' h e la none.
        let reply = last_reply run'.stage run'.held in
        let g = guest_after e run'.rest None in
        subst (λ (z : List Reply). StandsAt o trees p (event o s p).world la.mem.words ((event o s p).lps p) (after_turn c cs g z (beside_after e run'.rest b) run' reply)) replies
        (turned-stands o trees p (event o s p).world la.mem.words ((event o s p).lps p) c cs g lp.replies (beside_after e run'.rest b) run' h reply none
        (subst (λ (z : Beside). LpStands o (table_for o trees p) p (event o s p).world la.mem.words ((event o s p).lps p) (after_turn c cs g lp.replies (beside_after e run'.rest z) (with_hasher run' h) reply)) beside
        (outside-then o p s la.mem c cs (trees.call p) (trees.step p) (trees.means p) b.bundles known.guarded.timely lines u e (with_hasher run' h) guest la)));
    after_grows = λ u run' h e la. record {
      more = bundles_made e run'.rest;
      all = (after-of u run' h e la).bundles;
      own = ap (λ (z : Beside). z.bundles) (turned-beside c cs (guest_after e run'.rest None) rs (beside_after e run'.rest b) run' (last_reply run'.stage run'.held)) ∙ own-bundles e run'.rest b;
    };
    after_run = λ e run' h f. in-hand-after c cs (guest_after e run'.rest None) rs (beside_after e run'.rest b) run' (last_reply run'.stage run'.held) h (after-no-run e run'.rest None refl) f;
    locks_stay = λ mv act next. act-locks o s p row mv next.next guest act;
  }

-- what a processor does in a state, and where it leads

pub does-here : (o : Opening) (trees : Trees) (s : State) (p : ℕ) (d : Does) (at : WordLp) (words : WordPlace → ℕ) → AreTrees o trees → Known o s → p < length o.calls → StandsAt o trees p s.world words (s.lps p) at → IsDoes o trees p (s.lps p) at d
    → DoesHere o s p d
does-here o trees s p d at words are known i st (inl is) =
    subst (λ (z : Does). DoesHere o s p z) (sym is.is) (call-here o trees s p is.call is.further at.replies at.beside are known i (st.lines ∙ is.lines_are) is.guest)
does-here o trees s p d at words are known i st (inr is) = in-step-here o trees s p d at words are known i st is

pub does-leads : (o : Opening) (trees : Trees) (s : State) (p : ℕ) (d : Does) (at : WordLp) (words : WordPlace → ℕ) → AreTrees o trees → Known o s → p < length o.calls → StandsAt o trees p s.world words (s.lps p) at → IsDoes o trees p (s.lps p) at d
    → Leads o trees s p d
does-leads o trees s p d at words are known i st (inl is) =
    subst (λ (z : Does). Leads o trees s p z) (sym is.is) (call-leads o trees s p is.call is.further at.replies at.beside are known i (st.lines ∙ is.lines_are) is.guest st.replies st.beside)
does-leads o trees s p d at words are known i st (inr is) = in-step-leads o trees s p d at words are known i st is

-- a processor stays where it is, as its leaf does
pub stands-stay : (o : Opening) (trees : Trees) (s : State) (p : ℕ) (at : WordLp) (w' : World) (words words' : WordPlace → ℕ) → AreTrees o trees → Known o s → p < length o.calls
    → ((g : Guest) → (s.lps p).guest ≡ Some g → GuestStays s.world w' g.tdr g.vp) → HeldStand w' (s.lps p).call.held
    → ((d : Does) (run : Standing) → DoesHere o s p d → RunsAt (task_for o p d) d.far s.world words run → RunsAt (task_for o p d) d.far w' words' run)
    → StandsAt o trees p s.world words (s.lps p) at → StandsAt o trees p w' words' (s.lps p) at
stands-stay o trees s p at w' words words' are known i guest-stays stand stays st = record { lines = st.lines; replies = st.replies; beside = st.beside; run = by at.lines at.run at.guest st.lines st.run }
  where
    by : (cs : List Call) (r : Option Standing) (g : Option WordGuest) → lines_left o p (s.lps p) ≡ cs → RunAt o trees p s.world words (s.lps p) cs r g at.replies at.beside → RunAt o trees p w' words' (s.lps p) cs r g at.replies at.beside
    by cs None None l a = a
    by [] None (Some g) l a = absurd a
    by (c ∷ cs) None (Some g) l a = absurd a
    by [] (Some r) None l a = absurd a
    by [] (Some r) (Some g) l a = absurd a
    by (c ∷ cs) (Some r) (Some x) l a =
        in-guest-stays o trees s p c cs r x at.replies at.beside are known i l st.replies st.beside w' words words' a (guest-stays a.guest a.is_in) stand stays
    by (c ∷ cs) (Some r) None l a =
        let d : Does = call_does o trees p (s.lps p) c cs at.replies at.beside in
        record { guest = a.guest; runs = stays d r (call-here o trees s p c cs at.replies at.beside are known i l a.guest) a.runs }
