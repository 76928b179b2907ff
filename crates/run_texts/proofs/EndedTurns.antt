-- A turn of a processor keeps that of the bundles that it made it shows those that none of its lines left names.
use Rattle.std.proofs.Common.{◌≡◌, ◌≢◌, ◌⊎◌, inl, inr, refl, sym, ◌∙◌, ap, subst, ℕ, zero, suc, ◌+◌, ◌-◌, ◌≤◌, List, [], ◌∷◌, ◌++◌, length, take, Option, Some, None, Bool, true, false, not, arith, length-append, append-nil, take_all}
use Rattle.std.specs.Prelude.{AllPairs}
use Rattle.std.proofs.lemmas.List.Elements.{filter-append}
use Rattle.td_words.specs.declared.machines.Machine.{Machine}
use Rattle.td_words.specs.declared.names.Mode.{Mode}
use Rattle.td_words.specs.declared.names.Mode.TheVariants.{Shared, Exclusive}
use Rattle.td_words.specs.declared.names.LockName.{LockName}
use Rattle.td_words.specs.declared.calls.Call.{Call}
use Rattle.td_words.specs.declared.replies.Reply.{Reply}
use Rattle.td_words.specs.declared.replies.Reply.TheVariants.{Done, Refused, Exited}
use Rattle.td_words.specs.Place.{WordPlace}
use Rattle.td_words.specs.Slots.{output_slots}
use Rattle.flat_core.specs.World.{World, Made}
use Rattle.flat_core.specs.Processor.{Phase, Trying, Undoing, Answered, Guest, Lp}
use Rattle.flat_core.specs.Opening.{Opening}
use Rattle.flat_core.specs.Event.{State, calls_of, event}
use Rattle.flat_core.specs.Laws.{IsBetween}
use Rattle.flat_core.specs.Run.{bundles_in}
use Rattle.flat_bundles.specs.Bundles.{answered}
use Rattle.flat_bundles.specs.Ended.{is_named, has_ended, ended_of, own_of}
use Rattle.flat_bundles.proofs.Steps.{IsDone, IsAnswered}
use Rattle.flat_bundles.proofs.OwnEnded.{MakesOwn, IsExit}
use Rattle.step_core.specs.declared.items.Taken.{Taken}
use Rattle.leaf_engine.specs.declared.events.Event.{Event}
use Rattle.leaf_engine.specs.declared.events.Event.TheVariants as event
use Rattle.leaf_engine.specs.declared.events.HeldLock.{HeldLock}
use Rattle.leaf_engine.specs.declared.events.Stage.{Stage}
use Rattle.leaf_engine.specs.declared.events.Stage.TheVariants as stage
use Rattle.leaf_engine.specs.declared.needs.Need.{Need}
use Rattle.leaf_engine.specs.declared.needs.Need.TheVariants as need
use Rattle.leaf_engine.specs.Besides.{Beside, beside_after}
use Rattle.leaf_engine.specs.Calls.{IsStage}
use Rattle.leaf_engine.specs.Guests.{WordGuest, guest_after, Step, Operates, Accesses, Loads, Leaves, step_of, stepped, gives_epoch_back}
use Rattle.leaf_engine.specs.OwnLists.{Piece, GoesIn, StepsIn, TurnIn, LeafTable, WordLp, running, after_turn, LineTurn, line_after, after_step, step_leaf, GuestTurn, EnteredTurn, CallTurn, LinesTurn, LpTurns}
use Rattle.leaf_engine.specs.Standing.{RunStands, LpStands}
use Rattle.leaf_engine.specs.Trees.{Tree, answer_of, added, settle, passed}
use Rattle.leaf_engine.specs.Turns.{Standing, standing, last_reply, tried, busy, Comes, TurnBy, grants}
use Rattle.leaf_dispatch.specs.Ended.{made_at, made_by_run, made_under_way, ended_in}

-- those that it shows are those of its own that have ended
abbrev pub ShowsEnded : WordLp → Type 0
ShowsEnded at = ended_in at ≡ ended_of at.lines at.beside.bundles

-- what the flat machine's event tells of a processor's turn
pub record Around (s s' : State) (p : ℕ) (at after : WordLp) : Type 0 where
  pub was_idle : answered (s.lps p).call.phase ≡ 0 → ended_of at.lines at.beside.bundles ≡ at.beside.bundles
  pub idle : answered (s'.lps p).call.phase ≡ 0 → ended_of after.lines after.beside.bundles ≡ after.beside.bundles
  pub makes : (after.beside.bundles ≡ at.beside.bundles)
      ⊎ ((b : Made) × (after.beside.bundles ≡ at.beside.bundles ++ b ∷ []) × (is_named at.lines b ≡ true) × IsAnswered (s.lps p) (s'.lps p))
  pub exits : (g : Guest) → (s.lps p).guest ≡ Some g → (s'.lps p).guest ≡ None → IsExit (s'.lps p).call.phase
  pub unanswered : (g : Guest) → (s.lps p).guest ≡ Some g → answered (s.lps p).call.phase ≡ 0

-- What a turn makes of the bundles of the call under way: all is as before; the call has none; or it has acted, and has those
-- of its answer.
data Changes (none_yet : Type 0) (run : Option Standing) (before : List Made) (stands : Standing) (after : List Made) : Type 0 where
  as_before : after ≡ before → made_by_run (Some stands) ≡ made_by_run run → Changes none_yet run before stands after
  none_made : none_yet → after ≡ before → made_by_run (Some stands) ≡ 0 → Changes none_yet run before stands after
  has_acted : none_yet → (reply : Reply) → stands.stage ≡ stage.Answered reply → after ≡ added before (answer_of stands.rest).bundles → Changes none_yet run before stands after

first-of : (xs ys : List Made) → take (length xs) (xs ++ ys) ≡ xs
first-of [] ys = refl
first-of (x ∷ xs) ys = ap (λ (zs : List Made). x ∷ zs) (first-of xs ys)

none-added : (xs ys : List Made) → added xs ys ≡ xs → length ys ≡ 0
none-added xs [] e = refl
none-added xs (y ∷ ys) e = (let n = ap (λ (zs : List Made). length zs) e in omega (arith, n, length-append xs (y ∷ ys)))

one-added : (xs ys : List Made) (y : Made) → added xs ys ≡ xs ++ y ∷ [] → length ys ≡ 1
one-added xs [] y e = (let n = ap (λ (zs : List Made). length zs) e in omega (arith, n, length-append xs (y ∷ [])))
one-added xs (z ∷ zs) y e = (let n = ap (λ (ws : List Made). length ws) e in omega (arith, n, length-append xs (y ∷ []), length-append xs (z ∷ zs)))

not-done : (reply : Reply) (t : Tree) → length (answer_of t).bundles ≡ 0 → made_at (stage.Answered reply) t ≡ 0
not-done (Done value) t none = none
not-done (Refused status) t none = refl
not-done (Exited out) t none = refl

-- once a call is answered, its reply says that it has acted
done-made : (reply : Reply) (phase : Phase Reply) (m : Machine) (w : World) (t : Tree) → IsStage m w (stage.Answered reply) phase → IsDone phase → made_at (stage.Answered reply) t ≡ length (answer_of t).bundles
done-made (Done value) phase m w t same done = refl
done-made (Refused status) (Answered (Done value)) m w t same done = cc
done-made (Refused status) (Answered (Refused other)) m w t same done = absurd done
done-made (Refused status) (Answered (Exited out)) m w t same done = absurd done
done-made (Refused status) Trying m w t same done = absurd same
done-made (Refused status) (Undoing l) m w t same done = absurd same
done-made (Exited out) (Answered (Done value)) m w t same done = cc
done-made (Exited out) (Answered (Refused other)) m w t same done = absurd done
done-made (Exited out) (Answered (Exited other)) m w t same done = absurd done
done-made (Exited out) Trying m w t same done = absurd same
done-made (Exited out) (Undoing l) m w t same done = absurd same

-- and after an exit that it hasn't
exit-makes : (reply : Reply) (phase : Phase Reply) (m : Machine) (w : World) (t : Tree) → IsStage m w (stage.Answered reply) phase → IsExit phase → made_at (stage.Answered reply) t ≡ 0
exit-makes (Refused status) phase m w t same exit = refl
exit-makes (Exited out) phase m w t same exit = refl
exit-makes (Done value) (Answered (Exited out)) m w t same exit = cc
exit-makes (Done value) (Answered (Done other)) m w t same exit = absurd exit
exit-makes (Done value) (Answered (Refused status)) m w t same exit = absurd exit
exit-makes (Done value) Trying m w t same exit = absurd same
exit-makes (Done value) (Undoing l) m w t same exit = absurd same

-- a run that isn't answered is of a call that isn't
abbrev NotYet : Stage → Type 0 → Type 0
NotYet (stage.Answered reply) none_yet = Unit {0}
NotYet _ none_yet = none_yet

not-yet : (st : Stage) (phase : Phase Reply) (m : Machine) (w : World) → IsStage m w st phase → NotYet st (answered phase ≡ 0)
not-yet stage.Trying Trying m w h = refl
not-yet stage.Trying (Undoing l) m w h = absurd h
not-yet stage.Trying (Answered r) m w h = absurd h
not-yet (stage.Undoing name at) Trying m w h = absurd h
not-yet (stage.Undoing name at) (Undoing l) m w h = refl
not-yet (stage.Undoing name at) (Answered r) m w h = absurd h
not-yet (stage.Answered reply) phase m w h = tt

trying-not : (reply : Reply) → stage.Trying ≡ stage.Answered reply → ⊥
trying-not reply e = cc

-- the turn of a run

tried-makes : (s : Standing) (t : Tree) (name : LockName) (at : ℕ) (mode : Mode) (granted : Bool) → s.stage ≡ stage.Trying → made_by_run (Some (tried s t name at mode granted)) ≡ 0
tried-makes s t name at mode true trying = ap (λ (x : Stage). made_at x t) trying
tried-makes s t name at Shared false trying = refl
tried-makes s t name at Exclusive false trying = refl

run-changes : (none_yet : Type 0) (m : Machine) (run : Option Standing) (s : Standing) (b : Beside) (ps : List Piece) (stands : Standing) (e : Event) (st : Stage) → s.stage ≡ st → NotYet st none_yet
    → ((reply : Reply) → st ≡ stage.Answered reply → made_at s.stage s.rest ≡ made_by_run run) → TurnIn st m s ps stands e → Changes none_yet run b.bundles stands (beside_after e stands.rest b).bundles
run-changes none_yet m run s b ps stands e stage.Trying is none same turn = by turn.goes.need turn.goes.comes
  where
    by : (n : Need) → Comes m s (passed (settle turn.goes.tree)) turn.goes.loads turn.items n stands e → Changes none_yet run b.bundles stands (beside_after e stands.rest b).bundles
    by (need.Lock name at mode) co =
        none_made none (ap (λ (z : Event). (beside_after z stands.rest b).bundles) co.event)
        (ap (λ (x : Standing). made_by_run (Some x)) co.after ∙ tried-makes s (passed (settle turn.goes.tree)) name at mode (grants mode co.seen) is)
    by (need.Load at) co = absurd co
    by (need.Verdict reply) co = has_acted none reply (ap (λ (x : Standing). x.stage) co.after) (ap (λ (z : Event). (beside_after z stands.rest b).bundles) co.event)
run-changes none_yet m run s b ps stands e (stage.Undoing name at) is none same turn =
    let t = subst (λ (x : Stage). TurnBy x m s turn.items stands e) is turn.turn in
    none_made none (ap (λ (z : Event). (beside_after z stands.rest b).bundles) t.event) (ap (λ (x : Standing). made_by_run (Some x)) t.after)
run-changes none_yet m run s b ps stands e (stage.Answered reply) is none same turn =
    let t = subst (λ (x : Stage). TurnBy x m s turn.items stands e) is turn.turn in
    as_before (ap (λ (z : Event). (beside_after z stands.rest b).bundles) t.0.event) (ap (λ (x : Standing). made_by_run (Some x)) t.1 ∙ same reply refl)

module _ (o : Opening) (t : LeafTable) (m : Machine) (p : ℕ) (s s' : State) (words words' : WordPlace → ℕ) (c : Call) (cs : List Call) (run : Option Standing) (g : Option WordGuest) (rs : List Reply) (b : Beside) (shows : ShowsEnded (record { lines = c ∷ cs; run = run; guest = g; replies = rs; beside = b })) where
  abbrev at : WordLp
  at = record { lines = c ∷ cs; run = run; guest = g; replies = rs; beside = b }

  abbrev NoneYet : Type 0
  NoneYet = answered (s.lps p).call.phase ≡ 0

  abbrev Stands : WordLp → Type 0
  Stands x = RunStands o t p s'.world words' (s'.lps p) x.lines x.run x.guest x.replies x.beside

  -- where its call goes on
  module _ (stands : Standing) (g' : Option WordGuest) (b' : Beside) where
    abbrev on : WordLp
    on = record { lines = c ∷ cs; run = Some stands; guest = g'; replies = rs; beside = b' }

    none-shows : Around s s' p at on → NoneYet → b'.bundles ≡ b.bundles → made_by_run (Some stands) ≡ 0 → ShowsEnded on
    none-shows a none same count =
        (λ i. take (length (same i) - count i) (same i))
        ∙ (take_all (length b.bundles - 0) b.bundles (omega arith) ∙ (sym (a.was_idle none) ∙ sym (ap (ended_of (c ∷ cs)) same)))

    -- a call that has acted answers so
    answered-done : (x : Option WordGuest) → RunStands o t p s'.world words' (s'.lps p) (c ∷ cs) (Some stands) x rs b' → IsAnswered (s.lps p) (s'.lps p) → (reply : Reply) → stands.stage ≡ stage.Answered reply
        → made_by_run (Some stands) ≡ length (answer_of stands.rest).bundles
    answered-done (Some x) h is reply e = absurd (let no : None ≡ Some h.guest = sym is.stays_out ∙ h.is_in in cc)
    answered-done None h is reply e =
        ap (λ (x : Stage). made_at x stands.rest) e
        ∙ done-made reply (s'.lps p).call.phase (t.call c).place.machine s'.world stands.rest (subst (λ (x : Stage). IsStage (t.call c).place.machine s'.world x (s'.lps p).call.phase) e h.at.stage) is.done

    on-shows : Around s s' p at on → Stands on → Changes NoneYet run b.bundles stands b'.bundles → ShowsEnded on
    on-shows a h (as_before same count) = (λ i. take (length (same i) - count i) (same i)) ∙ (shows ∙ sym (ap (ended_of (c ∷ cs)) same))
    on-shows a h (none_made none same count) = none-shows a none same count
    on-shows a h (has_acted none reply is same) = by a.makes
      where
        by : (b'.bundles ≡ b.bundles) ⊎ ((x : Made) × (b'.bundles ≡ b.bundles ++ x ∷ []) × (is_named (c ∷ cs) x ≡ true) × IsAnswered (s.lps p) (s'.lps p)) → ShowsEnded on
        by (inl e) = none-shows a none e (ap (λ (x : Stage). made_at x stands.rest) is ∙ not-done reply stands.rest (none-added b.bundles (answer_of stands.rest).bundles (sym same ∙ e)))
        by (inr made) =
            let new : List Made = made.0 ∷ [] in
            let count : made_by_run (Some stands) ≡ 1 = answered-done g' h made.3 reply is ∙ one-added b.bundles (answer_of stands.rest).bundles made.0 (sym same ∙ made.1) in
            let few : length (b.bundles ++ new) - 1 ≡ length b.bundles = omega (arith, length-append b.bundles new) in
            let named = made.2 in
            let last : ended_of (c ∷ cs) new ≡ [] = rw named refl in
            let all : ended_of (c ∷ cs) (b.bundles ++ new) ≡ b.bundles =
            filter-append (has_ended (c ∷ cs)) b.bundles new ∙ ((λ i. a.was_idle none i ++ last i) ∙ append-nil b.bundles) in
            (λ i. take (length (made.1 i) - count i) (made.1 i))
            ∙ (ap (λ (n : ℕ). take n (b.bundles ++ new)) few ∙ (first-of b.bundles new ∙ (sym all ∙ sym (ap (ended_of (c ∷ cs)) made.1))))

  -- or is over
  between : (x : Lp) → IsBetween x → answered x.call.phase ≡ 0
  between x h = ap (λ y. answered y.phase) h.call

  over-shows : (ls : List Call) (rs' : List Reply) (b' : Beside) → let x : WordLp = record { lines = ls; run = None; guest = None; replies = rs'; beside = b' } in Around s s' p at x → Stands x → ShowsEnded x
  over-shows [] rs' b' a h = take_all (length b'.bundles - 0) b'.bundles (omega arith) ∙ sym (a.idle (between (s'.lps p) h))
  over-shows (d ∷ ds) rs' b' a h = take_all (length b'.bundles - 0) b'.bundles (omega arith) ∙ sym (a.idle (between (s'.lps p) h))

  -- after the turn of its call
  called-shows : (stands : Standing) (g' : Option WordGuest) (b' : Beside) (reply : Option Reply) → let x : WordLp = after_turn c cs g' rs b' stands reply in
      Around s s' p at x → Stands x → Changes NoneYet run b.bundles stands b'.bundles → ShowsEnded x
  called-shows stands g' b' None a h change = on-shows stands g' b' a h change
  called-shows stands g' b' (Some r) a h change = over-shows cs (rs ++ r ∷ []) b' a h

  line-shows : (e : Event) (ps : List Piece) (after : WordLp) (st : Stage) → (running (t.call c) run).stage ≡ st → NotYet st NoneYet
      → ((reply : Reply) → st ≡ stage.Answered reply → made_at (running (t.call c) run).stage (running (t.call c) run).rest ≡ made_by_run run)
      → LineTurn t.call m c cs run g rs b e ps after → Around s s' p at after → Stands after → ShowsEnded after
  line-shows e ps after st is none same turn a h =
      let x : WordLp = after_turn c cs (guest_after e turn.stands.rest g) rs (beside_after e turn.stands.rest b) turn.stands (last_reply turn.stands.stage turn.stands.held) in
      let change = run-changes NoneYet m run (running (t.call c) run) b ps turn.stands e st is none same (subst (λ (y : Stage). TurnIn y m (running (t.call c) run) ps turn.stands e) is turn.turn) in
      subst ShowsEnded (sym turn.after_is)
      (called-shows turn.stands (guest_after e turn.stands.rest g) (beside_after e turn.stands.rest b) (last_reply turn.stands.stage turn.stands.held) (subst (Around s s' p at) turn.after_is a) (subst Stands turn.after_is h) change)

  -- and after the turn of its guest
  module _ (line : Standing) (ran : run ≡ Some line) (guest : Guest) (inside : (s.lps p).guest ≡ Some guest) where
    quiet : (after : WordLp) → Around s s' p at after → after.beside.bundles ≡ b.bundles
    quiet after a = by a.makes
      where
        by : (after.beside.bundles ≡ b.bundles) ⊎ ((x : Made) × (after.beside.bundles ≡ b.bundles ++ x ∷ []) × (is_named (c ∷ cs) x ≡ true) × IsAnswered (s.lps p) (s'.lps p)) → after.beside.bundles ≡ b.bundles
        by (inl same) = same
        by (inr made) = absurd (let no : None ≡ Some guest = sym made.3.outside ∙ inside in cc)

    stays-shows : (g' : Option WordGuest) (b' : Beside) → Around s s' p at (on line g' b') → Stands (on line g' b') → ShowsEnded (on line g' b')
    stays-shows g' b' a h = on-shows line g' b' a h (as_before (quiet (on line g' b') a) (sym (ap made_by_run ran)))

    step-shows : (step : Step) (x : WordGuest) (b' : Beside) (stands : Standing) (reply : Option Reply) → let y : WordLp = after_step c cs line x rs b' step stands reply in Around s s' p at y → Stands y → ShowsEnded y
    step-shows step x b' stands None a h = stays-shows (Some (record x { run = Some stands })) b' a h
    step-shows (Operates op) x b' stands (Some r) a h = stays-shows (stepped (Operates op) r x) b' a h
    step-shows (Accesses access register gpa page) x b' stands (Some r) a h = stays-shows (stepped (Accesses access register gpa page) r x) b' a h
    step-shows (Loads access gpa level page) x b' stands (Some r) a h = stays-shows (stepped (Loads access gpa level page) r x) b' a h
    step-shows (Leaves out) x b' stands (Some r) a h =
        let left : Standing = record line { stage = stage.Answered r } in
        on-shows left None b' a h
        (none_made (a.unanswered guest inside) (quiet (on left None b') a) (exit-makes r (s'.lps p).call.phase (t.call c).place.machine s'.world line.rest h.at.stage (a.exits guest inside h.at.guest)))

    guest-shows : (x : WordGuest) (e : Event) (ps : List Piece) (after : WordLp) → GuestTurn t m c cs line x rs b e ps after → Around s s' p at after → Stands after → ShowsEnded after
    guest-shows x e ps after turn a h =
        subst ShowsEnded (sym turn.after_is)
        (step-shows (step_of t.codes b.cached x) x (beside_after e turn.stands.rest b) turn.stands (last_reply turn.stands.stage turn.stands.held) (subst (Around s s' p at) turn.after_is a) (subst Stands turn.after_is h))

module _ (o : Opening) (t : LeafTable) (m : Machine) (p : ℕ) (s s' : State) (words words' : WordPlace → ℕ) where
  shows-after : (ls : List Call) (run : Option Standing) (g : Option WordGuest) (rs : List Reply) (b : Beside) (e : Event) (ps : List Piece) (after : WordLp) → let at : WordLp = record { lines = ls; run = run; guest = g; replies = rs; beside = b } in
      ShowsEnded at → RunStands o t p s.world words (s.lps p) ls run g rs b → LinesTurn t m ls run g rs b e ps after → Around s s' p at after
      → RunStands o t p s'.world words' (s'.lps p) after.lines after.run after.guest after.replies after.beside → ShowsEnded after
  shows-after [] run g rs b e ps after shows stands turn a h = absurd turn
  shows-after (c ∷ cs) None (Some x) rs b e ps after shows stands turn a h = absurd turn
  shows-after (c ∷ cs) None None rs b e ps after shows stands turn a h =
      line-shows o t m p s s' words words' c cs None None rs b shows e ps after stage.Trying refl (ap (λ y. answered y.phase) stands.call) (λ reply no. absurd (trying-not reply no)) turn a h
  shows-after (c ∷ cs) (Some r) None rs b e ps after shows stands turn a h =
      line-shows o t m p s s' words words' c cs (Some r) None rs b shows e ps after r.stage refl (not-yet r.stage (s.lps p).call.phase (t.call c).place.machine s.world stands.at.stage) (λ reply is. refl) turn a h
  shows-after (c ∷ cs) (Some line) (Some x) rs b e ps after shows stands turn a h = by (gives_epoch_back line.held) turn
    where
      by : (gives : Bool) → EnteredTurn t m c cs line x rs b e ps after gives → ShowsEnded after
      by true turn = line-shows o t m p s s' words words' c cs (Some line) (Some x) rs b shows e ps after (stage.Answered stands.reply) stands.answered tt (λ reply is. refl) turn a h
      by false turn = guest-shows o t m p s s' words words' c cs (Some line) (Some x) rs b shows line refl stands.guest stands.is_in x e ps after turn a h

  -- So each turn keeps it.
  pub turn-shows : (at after : WordLp) (e : Event) (ps : List Piece) → ShowsEnded at → LpStands o t p s.world words (s.lps p) at → LpTurns t m at e ps after → Around s s' p at after → LpStands o t p s'.world words' (s'.lps p) after → ShowsEnded after
  turn-shows at after e ps shows stands turn a h = shows-after at.lines at.run at.guest at.replies at.beside e ps after shows stands.run turn a h.run
