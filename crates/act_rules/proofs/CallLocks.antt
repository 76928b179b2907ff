-- A call holds at its act all that its row tries; so each event of a run changes what words are only as the rules say.
use Rattle.std.proofs.Common.{◌≡◌, refl, sym, ◌∙◌, ℕ, List, ◌∷◌, Option, Some, None, true}
use Rattle.td_words.specs.declared.calls.Call.{Call}
use Rattle.td_words.specs.declared.replies.Reply.{Reply}
use Rattle.flat_core.specs.World.{World}
use Rattle.flat_core.specs.Processor.{Guest, Lp}
use Rattle.flat_core.specs.Opening.{Opening}
use Rattle.flat_core.specs.Row.{Row, Move, Attempts, Undoes, Refuses, Succeeds, Releases, Rests, next, next_in}
use Rattle.flat_core.specs.Table.{row_of}
use Rattle.flat_core.specs.Event.{State, Event, OfCall, next_event, lines_left, world_after, call_world}
use Rattle.flat_core.specs.AccessLaw.{IsGuarded}
use Rattle.flat_core.specs.Laws.{reached}
use Rattle.flat_core.proofs.Induction.{in_runs_of}
use Rattle.flat_core.proofs.Due.{Due, calls, frees, leaves, stops, fills, operates, walks, reaches, undoes, gives_back, due_event_is}
use Rattle.flat_core.proofs.Enter.{passed}
use Rattle.flat_core.proofs.Always.{always_guarded}
use Rattle.flat_core.proofs.Tries.{rows_try_lists}
use Rattle.word_rules.specs.Guards.{Grip}
use Rattle.word_rules.specs.Permissions.{Respects, ActsNeverConflict}
use Rattle.word_rules.proofs.Conflicts.{respects-compose}
use Rattle.lock_words.specs.Grips.{operation_locks, locks_of, grip_of, GripsStayApart}
use Rattle.act_rules.specs.CallLocks.{CallsHoldTheirs, CallsHoldApart, GuardedEventsRespect, EveryEventRespects, EventsSpareOthers}
use Rattle.act_rules.proofs.Tried.{held-before, alone-before, IsWithin, tries-held}
use Rattle.act_rules.proofs.Rows.{rows-respect}
use Rattle.act_rules.proofs.CallHolds.{first, act-tries, call-locks-kept}
use Rattle.act_rules.proofs.GuestActs.{guarded-guests-respect}

module _ (o : Opening) (s : State) (all : IsGuarded o s) (theirs : CallsHoldTheirs o s) (p : ℕ) where
  abbrev w : World
  w = s.world

  abbrev lp : Lp
  lp = s.lps p

  abbrev grip : Grip
  grip = grip_of s p

  moved : (row : Row) (mv : Move Reply) → (mv ≡ Succeeds → Respects grip w (row.act w)) → Respects grip w (call_world row mv w)
  moved row Succeeds h = h refl
  moved row (Attempts l m) h = respects-compose.same grip w
  moved row (Undoes l) h = respects-compose.same grip w
  moved row (Refuses r) h = respects-compose.same grip w
  moved row (Releases x) h = respects-compose.same grip w
  moved row Rests h = respects-compose.same grip w

  module _ (c : Call) (cs : List Call) (line : lines_left o p lp ≡ c ∷ cs) (none : lp.guest ≡ None) where
    within : IsWithin lp.call.held (locks_of lp)
    within = record { held = held-before lp.call.held (operation_locks lp.guest); alone = alone-before lp.call.held (operation_locks lp.guest) }

    succeeds : next_in ((row_of o p c).items w) lp.call.phase lp.call.held ≡ Succeeds → Respects grip w ((row_of o p c).act w)
    succeeds e =
        let at = act-tries ((row_of o p c).items w) lp.call.phase lp.call.held e in
        let x = first o p w true lp (theirs p) c cs line none at.0 in
        rows-respect o p c grip w all.timely.lawful (passed ((row_of o p c).items w) lp.call.phase lp.call.held e)
        (tries-held grip (locks_of lp) (λ l h. h) (λ l h. h) ((row_of o p c).items w) lp.call.held x.0 within (rows_try_lists o p c w ∙ x.1) at.1)

    call-respects : Respects grip w (world_after (OfCall (row_of o p c) (next_in ((row_of o p c).items w) lp.call.phase lp.call.held)) w)
    call-respects = moved (row_of o p c) (next_in ((row_of o p c).items w) lp.call.phase lp.call.held) succeeds

  other-guest : {A : Type 0} (g : Guest) → lp.guest ≡ None → lp.guest ≡ Some g → A
  other-guest g none is = absurd (let no : None ≡ Some g = sym none ∙ is in cc)

  outside : lp.guest ≡ None → (e : Event) → Due o w p lp e → Respects grip w (world_after e w)
  outside at e (calls c cs line none) = call-respects c cs line none
  outside at e (frees c cs g h hs line guest held epoch) = other-guest g at guest
  outside at e (leaves c cs g out i l) = other-guest g at i.guest
  outside at e (stops c cs g i l t d) = other-guest g at i.guest
  outside at e (fills c cs g op i l t d m) = other-guest g at i.guest
  outside at e (operates c cs g op row i way is) = other-guest g at i.guest
  outside at e (walks c cs g op access r gpa i way is lost) = other-guest g at i.guest
  outside at e (reaches c cs g op access r gpa page i way is found) = other-guest g at i.guest
  outside at e (undoes c cs g l i st h) = other-guest g at i.guest
  outside at e (gives_back c cs g out i st h) = other-guest g at i.guest

  each-event : (e : Event) → next_event o s p ≡ Some e → Respects grip w (world_after e w)
  each-event e is = by lp.guest refl
    where
      by : (x : Option Guest) → lp.guest ≡ x → Respects grip w (world_after e w)
      by None at = outside at e (due_event_is o s p e is)
      by (Some g) at = (guarded-guests-respect o s all).event p g e at is

pub guarded-events-respect : GuardedEventsRespect
guarded-events-respect o s all theirs = each-event o s all theirs

pub every-event-respects : EveryEventRespects
every-event-respects o ws schedule = guarded-events-respect o (reached o ws schedule) (always_guarded o ws schedule) (in_runs_of CallsHoldApart call-locks-kept o ws schedule).each

pub events-spare-others : GripsStayApart → ActsNeverConflict → EventsSpareOthers
events-spare-others apart never o ws schedule p q e in-p in-q differ next =
    let s : State = reached o ws schedule in
    never (grip_of s q) (grip_of s p) s.world (world_after e s.world) (apart o ws schedule q p in-q in-p differ) (every-event-respects o ws schedule p e next)
