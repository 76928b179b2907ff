-- In every state that a run reaches, locks of a TD are held over P of its TDR page, and the locks that are held stand.
-- An act of a call ends a TD only where the call holds P of its TDR page alone, and an event of a guest leaves TDs as they are.
use Rattle.std.proofs.Common.{◌≡◌, refl, sym, ◌∙◌, ap, subst, inl, inr, ℕ, zero, suc, ◌<◌, Bool, true, false, ◌==◌, ◌&&◌, ◌||◌, List, [], ◌∷◌, ◌++◌, length, drop, ◌+◌, Option, Some, None, arith}
use Rattle.std.specs.List.{list_any}
use Rattle.std.proofs.lemmas.Bool.{eq-eqb, eqb-true, eqb-false, ne_eqb}
use Rattle.td_words.specs.declared.names.Mode.{Mode}
use Rattle.td_words.specs.declared.names.Mode.TheVariants.{Shared, Exclusive}
use Rattle.td_words.specs.declared.names.Access.{Access}
use Rattle.td_words.specs.declared.names.Access.TheVariants.{Read, Write}
use Rattle.td_words.specs.declared.names.LifeState.{LifeState}
use Rattle.td_words.specs.declared.names.LifeState.TheVariants as life
use Rattle.td_words.specs.NameNumber.{life_number}
use Rattle.td_words.specs.declared.calls.Call.{Call}
use Rattle.td_words.specs.declared.calls.GuestOp.{GuestOp}
use Rattle.td_words.specs.declared.replies.Outcome.{Outcome}
use Rattle.td_words.specs.declared.replies.Outcome.TheVariants.{Stop, Max}
use Rattle.td_words.specs.declared.replies.Reply.{Reply}
use Rattle.td_words.specs.declared.replies.Reply.TheVariants.{Done}
use Rattle.flat_core.specs.World.{World, Pages}
use Rattle.flat_core.specs.Processor.{LockId, OfPage, OfOp, OfTree, OfEpoch, OfRtmr, OfKeys, Held, Phase, Trying, Undoing, Answered, Progress, Guest, new_guest, Entering, Lp}
use Rattle.flat_core.specs.Locks.{same_lock, is_alone}
use Rattle.flat_core.specs.Opening.{Opening, Incoming}
use Rattle.flat_core.specs.Row.{Item, Check, Try, Row, OperationRow, Move, Attempts, Undoes, Refuses, Succeeds, Releases, Rests, next, next_in, but_newest}
use Rattle.flat_core.specs.Table.{row_of}
use Rattle.flat_core.specs.Lawful.{Lawful}
use Rattle.flat_core.specs.Event.{State, Event, OfCall, OfOperation, Walks, Reaches, Leaves, next_event, lines_left, calls_of, event, after_event, world_after, call_world, operation_world, nothing_more, lp_after, call_lp, call_busy, succeeded, settle, settled, is_granted}
use Rattle.flat_core.specs.Tries.{tries_of}
use Rattle.flat_core.specs.Inside.{InGuest, LineAt, StandsAt}
use Rattle.flat_core.specs.Order.{IsOfGuest, AreOfGuest, undo_of, IsOrderlyInside, IsOrderlyIn, IsOrderlyAt}
use Rattle.flat_core.specs.Guest.{ByRow, operation_of, reach, is_pending_at}
use Rattle.flat_core.specs.Effects.{tell_words, leave_guest, pass_operation}
use Rattle.flat_core.specs.Guests.{guest_locks, entry_locks}
use Rattle.flat_core.specs.Laws.{reached, with_bundles}
use Rattle.flat_core.proofs.Tests.{by_test, put_here}
use Rattle.flat_core.proofs.Induction.{count_stays, in_runs}
use Rattle.flat_core.proofs.TreeLock.{order_kept}
use Rattle.flat_core.proofs.Operations.{operation_row, accepted}
use Rattle.flat_core.proofs.Due.{Due, calls, frees, leaves, stops, fills, operates, walks, reaches, undoes, gives_back, due_event_is}
use Rattle.flat_core.proofs.Ends.{next_is, timeliness_kept, timely_rebundled}
use Rattle.word_rules.specs.Guards.{Locked}
use Rattle.lock_words.specs.Grips.{holds, operation_locks, HoldsTdr, HoldTdrs, UndoTdr, GuestTdrs}
use Rattle.lock_words.specs.LockWords.{TdStands, Stands, HeldStand, UndoStands, GuestStands}
use Rattle.lock_words.specs.Reached.{oldest, first_tried, held_as, IsOver, AreOver, UndoOver, IsFirst, IsFirstOf, IsOverTdrs, StandIn, AreSound, SoundnessIsKept, tried_in, tried_by, SoundStand, SoundLocksStand, EveryTdrIsHeld, EveryLockStands, EveryTryStands}
use Rattle.lock_words.proofs.Apart.{grips-apart}
use Rattle.lock_words.proofs.Tried.{first_try, first_at, rows-fit, first-listed, first-same, next-fits, next-first, none-tried, all-pass}
use Rattle.lock_words.proofs.Acted.{acts-go-on}
use Rattle.lock_words.proofs.Runs.{has-line}

-- a processor's locks are in order, and stand in that world
record IsSound (its_calls : List Call) (w : World) (lp : Lp) : Type 0 where
  order : IsOverTdrs its_calls lp
  stand : StandIn w lp

-- what the oldest lock is, one of them is

or-true : (a : Bool) → (a || true) ≡ true
or-true true = refl
or-true false = refl

oldest-any : (f : Held → Bool) (hs : List Held) (h : Held) → oldest hs ≡ Some h → f h ≡ true → list_any f hs ≡ true
oldest-any f [] h e t = cc
oldest-any f (x ∷ []) h e t = (let same : x ≡ h = cc in rw (ap f same, t) refl)
oldest-any f (x ∷ y ∷ hs) h e t = rw (oldest-any f (y ∷ hs) h e t) (or-true (f x))

any-more : (f : Held → Bool) (hs more : List Held) → list_any f hs ≡ true → list_any f (hs ++ more) ≡ true
any-more f [] more h = cc
any-more f (x ∷ hs) more h = by (f x) (list_any f hs) (list_any f (hs ++ more)) (any-more f hs more) h
  where
    by : (a b c : Bool) → (b ≡ true → c ≡ true) → (a || b) ≡ true → (a || c) ≡ true
    by true b c k h = refl
    by false b c k h = k h

oldest-more : (x : Held) (hs : List Held) (h : Held) → oldest hs ≡ Some h → oldest (x ∷ hs) ≡ Some h
oldest-more x [] h e = cc
oldest-more x (y ∷ hs) h e = e

holds-page : (hs : List Held) (t : ℕ) → oldest hs ≡ held_as t Shared → holds hs (OfPage t) ≡ true
holds-page hs t e = oldest-any (λ h. same_lock h.lock (OfPage t)) hs _ e (eq-eqb t t refl)

over-holds : (hs : List Held) (l : LockId) → IsOver (oldest hs) l → HoldsTdr hs l
over-holds hs (OfPage p) h = tt
over-holds hs (OfOp t) h = holds-page hs t h
over-holds hs (OfTree t) h = holds-page hs t h
over-holds hs (OfEpoch t) h = holds-page hs t h
over-holds hs (OfRtmr t) h = holds-page hs t h
over-holds hs OfKeys h = tt

over-tdrs : (hs : List Held) → AreOver hs → HoldTdrs hs
over-tdrs [] h = tt
over-tdrs (x ∷ hs) h = (over-holds hs x.lock h.0, over-tdrs hs h.1)

undo-tdr : (phase : Phase Reply) (hs : List Held) → UndoOver phase hs → UndoTdr phase hs
undo-tdr Trying hs h = tt
undo-tdr (Undoing l) hs h = over-holds hs l h
undo-tdr (Answered r) hs h = tt

-- a world in which the TDs go on to stand whose TDR page was taken first and is shared
abbrev KeepsOver : World → World → List Held → Type 0
KeepsOver w w' hs = (t : ℕ) → oldest hs ≡ held_as t Shared → TdStands w t → TdStands w' t

lock-stands : (w w' : World) (hs : List Held) (l : LockId) → KeepsOver w w' hs → IsOver (oldest hs) l → Stands w l → Stands w' l
lock-stands w w' hs (OfPage p) k h st = tt
lock-stands w w' hs (OfOp t) k h st = k t h st
lock-stands w w' hs (OfTree t) k h st = k t h st
lock-stands w w' hs (OfEpoch t) k h st = k t h st
lock-stands w w' hs (OfRtmr t) k h st = k t h st
lock-stands w w' hs OfKeys k h st = tt

held-stand : (w w' : World) (hs : List Held) → KeepsOver w w' hs → AreOver hs → HeldStand w hs → HeldStand w' hs
held-stand w w' [] k h st = tt
held-stand w w' (x ∷ hs) k h st =
    let below : KeepsOver w w' hs = λ t e. k t (oldest-more x hs _ e) in
    (lock-stands w w' hs x.lock below h.0 st.0, held-stand w w' hs below h.1 st.1)

undo-stands : (w w' : World) (phase : Phase Reply) (hs : List Held) → KeepsOver w w' hs → UndoOver phase hs → UndoStands w phase → UndoStands w' phase
undo-stands w w' Trying hs k h st = tt
undo-stands w w' (Undoing l) hs k h st = lock-stands w w' hs l k h st
undo-stands w w' (Answered r) hs k h st = tt

all-stand : (its_calls : List Call) (w w' : World) (lp : Lp) → KeepsOver w w' lp.call.held → IsOverTdrs its_calls lp → StandIn w lp → StandIn w' lp
all-stand its_calls w w' lp k ordered st = record { held = held-stand w w' lp.call.held k ordered.over st.held; undo = undo-stands w w' lp.call.phase lp.call.held k ordered.undo st.undo }

-- the world stays but where a call's act comes
call-stands : (its_calls : List Call) (w : World) (row : Row) (mv : Move Reply) (lp : Lp) → (mv ≡ Succeeds → KeepsOver w (row.act w) lp.call.held) → IsOverTdrs its_calls lp → StandIn w lp → StandIn (call_world row mv w) lp
call-stands its_calls w row Succeeds lp k ordered st = all-stand its_calls w (row.act w) lp (k refl) ordered st
call-stands its_calls w row (Attempts l m) lp k ordered st = st
call-stands its_calls w row (Undoes l) lp k ordered st = st
call-stands its_calls w row (Refuses r) lp k ordered st = st
call-stands its_calls w row (Releases h) lp k ordered st = st
call-stands its_calls w row Rests lp k ordered st = st

-- the first try and those after it

first-none : (its_calls : List Call) → IsFirstOf its_calls []
first-none [] = tt
first-none (c ∷ cs) = λ q w. tt

first-below : (items : List (Item Reply)) (hs : List Held) → IsFirst (first_try items) hs → first_at None (length hs) items ≡ oldest hs
first-below items [] f = refl
first-below items (h ∷ hs) f = sym f

first-with : (o q : Opening) (p : ℕ) (c : Call) (w v : World) (l : LockId) (m : Mode) (hs : List Held) → next ((row_of o p c).items w) (length hs) ≡ Attempts l m → IsFirst (first_tried (tries_of q c v)) hs
    → IsFirst (first_tried (tries_of q c v)) (record { lock = l; mode = m } ∷ hs)
first-with o q p c w v l m [] e f = sym (first-same c q o v w ∙ (first-listed o p c w ∙ next-first ((row_of o p c).items w) l m e))
first-with o q p c w v l m (h ∷ hs) e f = f

first-is : (items : List (Item Reply)) (hs : List Held) → IsFirst (first_try items) hs → next items (length hs) ≡ Succeeds → oldest hs ≡ first_try items
first-is items [] f e = sym (none-tried items e)
first-is items (h ∷ hs) f e = f

-- a call's act comes while it is on its way
on-way : (items : List (Item Reply)) (phase : Phase Reply) (hs : List Held) → next_in items phase hs ≡ Succeeds → phase ≡ Trying
on-way items Trying hs e = refl
on-way items (Undoing l) hs e = cc
on-way items (Answered r) [] e = cc
on-way items (Answered r) (h ∷ hs) e = cc

trying : (items : List (Item Reply)) (phase : Phase Reply) (hs : List Held) (l : LockId) (m : Mode) → next_in items phase hs ≡ Attempts l m → phase ≡ Trying
trying items Trying hs l m e = refl
trying items (Undoing k) hs l m e = cc
trying items (Answered r) [] l m e = cc
trying items (Answered r) (h ∷ hs) l m e = cc

abbrev mode-of : Option Held → Mode
mode-of None = Shared
mode-of (Some h) = h.mode

not-both : (t : ℕ) → held_as t Shared ≡ held_as t Exclusive → ⊥
not-both t e = (let m : Shared ≡ Exclusive = ap mode-of e in cc)

-- a call's own event
module _ (o : Opening) (p : ℕ) (c : Call) (cs : List Call) (w : World) (lawful : Lawful o.machine w) where
  abbrev row : Row
  row = row_of o p c

  abbrev its_calls : List Call
  its_calls = calls_of o.calls p

  -- an answered call goes on, or is done
  answered : (w' : World) (lp : Lp) (r : Reply) (hs : List Held) → AreOver hs → HeldStand w' hs → IsSound its_calls w' (settle (Answered r) hs (record lp { call = record { phase = Answered r; held = hs } }))
  answered w' lp r [] over st = record {
    order = record { over = tt; undo = tt; first = λ e. first-none (lines_left o p (record lp { replies = lp.replies ++ r ∷ [] })) };
    stand = record { held = tt; undo = tt };
  }
  answered w' lp r (h ∷ hs) over st = record {
    order = record { over = over; undo = tt; first = λ e. cc };
    stand = record { held = st; undo = tt };
  }

  -- an act leaves the locks of its own call
  act-keeps : (hs : List Held) → IsFirst (first_try (row.items w)) hs → next (row.items w) (length hs) ≡ Succeeds → KeepsOver w (row.act w) hs
  act-keeps hs f e t is st =
      elim (acts-go-on o p c w t lawful (all-pass (row.items w) (length hs) e) st) [
        | inl k ↦ k
        | inr alone ↦ absurd (not-both t (sym is ∙ (first-is (row.items w) hs f e ∙ alone)))
      ]

  module _ (lp : Lp) (lines : lines_left o p lp ≡ c ∷ cs) (ordered : IsOverTdrs its_calls lp) (stand : StandIn w lp) where
    abbrev held : List Held
    held = lp.call.held

    on-first : lp.call.phase ≡ Trying → (q : Opening) (v : World) → IsFirst (first_tried (tries_of q c v)) held
    on-first t = subst (λ (x : List Call). IsFirstOf x held) lines (ordered.first t)

    first-here : lp.call.phase ≡ Trying → IsFirst (first_try (row.items w)) held
    first-here t = subst (λ (x : Option Held). IsFirst x held) (first-listed o p c w) (on-first t o w)

    -- a try
    attempted : (b : Bool) (l : LockId) (m : Mode) → lp.call.phase ≡ Trying → next (row.items w) (length held) ≡ Attempts l m → IsSound its_calls w (settled (call_lp w b row (Attempts l m) lp))
    attempted b l m t e = by b m refl
      where
        fits : IsOver (oldest held) l × Stands w l
        fits =
            subst (λ (x : Option Held). IsOver x l × Stands w l) (first-below (row.items w) held (first-here t))
            (next-fits w None (row.items w) (length held) l m (rows-fit o p c w) e)

        by : (b : Bool) (n : Mode) → m ≡ n → IsSound its_calls w (settled (call_lp w b row (Attempts l n) lp))
        by true n same = record {
          order = record {
            over = (fits.0, ordered.over);
            undo = tt;
            first = λ x. subst (λ (y : List Call). IsFirstOf y (record { lock = l; mode = n } ∷ held)) (sym lines)
                (λ q v. subst (λ (y : Mode). IsFirst (first_tried (tries_of q c v)) (record { lock = l; mode = y } ∷ held)) same (first-with o q p c w v l m held e (on-first t q v)));
          };
          stand = record { held = (fits.1, stand.held); undo = tt };
        }
        by false Shared same = record {
          order = record { over = ordered.over; undo = fits.0; first = λ x. cc };
          stand = record { held = stand.held; undo = fits.1 };
        }
        by false Exclusive same = answered w lp (call_busy _) held ordered.over stand.held

    -- its act
    acted : (b : Bool) → lp.call.phase ≡ Trying → next (row.items w) (length held) ≡ Succeeds → IsSound its_calls (row.act w) (settled (call_lp w b row Succeeds lp))
    acted b t e = by row.enters
      where
        after-held : HeldStand (row.act w) held
        after-held = held-stand w (row.act w) held (act-keeps held (first-here t) e) ordered.over stand.held

        by : (x : Option Entering) → IsSound its_calls (row.act w) (settled (succeeded w row x lp))
        by None = answered (row.act w) (record lp { cached = row.cached w lp.cached }) (Done (row.value w)) held ordered.over after-held
        by (Some y) =
            let lp1 : Lp = record lp { guest = Some (new_guest y); cached = row.cached w lp.cached } in
            subst (λ (x : Phase Reply). IsSound its_calls (row.act w) (settle x held lp1)) (sym t) (record {
              order = record { over = ordered.over; undo = subst (λ (x : Phase Reply). UndoOver x held) (sym t) tt; first = λ x. ordered.first t };
              stand = record { held = after-held; undo = subst (λ (x : Phase Reply). UndoStands (row.act w) x) (sym t) tt };
            })

    abbrev Made : (Move Reply → Bool) → Move Reply → Type 0
    Made b mv = IsSound its_calls (call_world row mv w) (settled (call_lp w (b mv) row mv lp))

    by-phase : (b : Move Reply → Bool) (phase : Phase Reply) (hs : List Held) → lp.call.phase ≡ phase → held ≡ hs → Made b (next_in (row.items w) phase hs)
    by-phase b Trying hs t same =
        next_is (λ mv. next (row.items w) (length hs) ≡ mv → Made b mv) (row.items w) (length hs)
        (λ r e. answered w lp r held ordered.over stand.held)
        (λ e. acted (b Succeeds) t (ap (λ (x : List Held). next (row.items w) (length x)) same ∙ e))
        (λ l m few e. attempted (b (Attempts l m)) l m t (ap (λ (x : List Held). next (row.items w) (length x)) same ∙ e))
        refl
    by-phase b (Undoing l) hs t same = answered w lp (call_busy _) held ordered.over stand.held
    by-phase b (Answered r) [] t same =
        subst (λ (x : Phase Reply). IsSound its_calls w (settle x held lp)) (sym t) (subst (λ (x : List Held). IsSound its_calls w (settle (Answered r) x lp)) (sym same) (answered w lp r [] tt tt))
    by-phase b (Answered r) (h ∷ hs) t same =
        let over : AreOver (h ∷ hs) = subst (λ (x : List Held). AreOver x) same ordered.over in
        let st : HeldStand w (h ∷ hs) = subst (λ (x : List Held). HeldStand w x) same stand.held in
        released over st
      where
        released : AreOver (h ∷ hs) → HeldStand w (h ∷ hs) → Made b (Releases h)
        released over st = rw (t, same) (answered w lp r hs over.1 st.1)

-- an event of a guest leaves TDs as they are
module _ (w : World) where
  abbrev SameTds : World → Type 0
  SameTds w' = (t : ℕ) → TdStands w t → TdStands w' t

  same-tds : (w' : World) → w'.pages ≡ w.pages → w'.tds.lives ≡ w.tds.lives → w'.tds.controls ≡ w.tds.controls → SameTds w'
  same-tds w' a b c t st = record {
    alive = record { kind = ap (λ (z : Pages). z.kinds t) a ∙ st.alive.kind; life = ap (λ (f : ℕ → LifeState). life_number (f t) == life_number life.Teardown) b ∙ st.alive.life };
    has_tdcs = ap (λ (f : ℕ → List ℕ). length (f t) == 0) c ∙ st.has_tdcs;
  }

  operation-tds : (o : Opening) (t v line : ℕ) (op : GuestOp) (row : OperationRow) (mv : Move (Option Outcome)) → operation_of o t v line op ≡ ByRow row → SameTds (operation_world row mv w)
  operation-tds o t v line op x Succeeds e =
      operation_row o t v line (λ y. SameTds (tell_words (y.tells w) (y.act w)))
      (λ r x. same-tds _ refl refl refl) (λ r s. same-tds _ refl refl refl) (λ r gpa. same-tds _ refl refl refl) (λ r gpa. same-tds _ refl refl refl)
      (λ gpa. accepted (λ z. SameTds (tell_words [] (pass_operation v z))) (is_pending_at w t gpa) t gpa w (λ pends. same-tds _ refl refl refl) (λ stays. same-tds _ refl refl refl))
      (λ i. same-tds _ refl refl refl) (same-tds _ refl refl refl) (λ r. same-tds _ refl refl refl) op x e
  operation-tds o t v line op x (Attempts l m) e = λ u st. st
  operation-tds o t v line op x (Undoes l) e = λ u st. st
  operation-tds o t v line op x (Refuses r) e = λ u st. st
  operation-tds o t v line op x (Releases h) e = λ u st. st
  operation-tds o t v line op x Rests e = λ u st. st

  ending-tds : (out : Option Outcome) (hs : List Held) → SameTds (operation_world nothing_more (next_in [] (Answered out) hs) w)
  ending-tds out [] = λ u st. st
  ending-tds out (h ∷ hs) = λ u st. st

  reach-tds : (t v : ℕ) (access : Access) (r gpa page : ℕ) → SameTds (reach t v access r gpa page w)
  reach-tds t v Read r gpa page = same-tds _ refl refl refl
  reach-tds t v Write r gpa page = same-tds _ refl refl refl

-- a guest's operation tries locks of its own TD, and pages

abbrev TriesOf : ℕ → List (Item (Option Outcome)) → Type 0
TriesOf t [] = Unit {0}
TriesOf t (Check b r ∷ items) = TriesOf t items
TriesOf t (Try l m ∷ items) = IsOfGuest t l × TriesOf t items

operation-tries : (o : Opening) (t v line : ℕ) (op : GuestOp) (row : OperationRow) (w : World) → operation_of o t v line op ≡ ByRow row → TriesOf t (row.items w)
operation-tries o t v line op y w is =
    operation_row o t v line (λ x. TriesOf t (x.items w))
    (λ r x. tt) (λ r s. tt) (λ r gpa. (tt, tt)) (λ r gpa. (tt, tt)) (λ gpa. (refl, (tt, tt))) (λ i. (refl, tt)) (refl, tt) (λ r. tt) op y is

next-of-guest : (t : ℕ) (items : List (Item (Option Outcome))) (k : ℕ) (l : LockId) → TriesOf t items → tried_in (next items k) ≡ Some l → IsOfGuest t l
next-of-guest t [] k l h e = cc
next-of-guest t (Check true r ∷ items) k l h e = next-of-guest t items k l h e
next-of-guest t (Check false r ∷ items) k l h e = cc
next-of-guest t (Try a b ∷ items) zero l h e = let same : a ≡ l = cc in subst (λ (x : LockId). IsOfGuest t x) same h.0
next-of-guest t (Try a b ∷ items) (suc k) l h e = next-of-guest t items k l h.1 e

-- which are over P of its TDR page, held by its call, and stand

any-behind : (f : Held → Bool) (more hs : List Held) → list_any f hs ≡ true → list_any f (more ++ hs) ≡ true
any-behind f [] hs h = h
any-behind f (x ∷ more) hs h = rw (any-behind f more hs h) (or-true (f x))

module _ (t : ℕ) (hs : List Held) (is : holds hs (OfPage t) ≡ true) where
  guest-holds : (more : List Held) (l : LockId) → IsOfGuest t l → HoldsTdr (more ++ hs) l
  guest-holds more (OfPage q) h = tt
  guest-holds more (OfTree q) h = subst (λ (x : ℕ). holds (more ++ hs) (OfPage x) ≡ true) (sym h) (any-behind (λ y. same_lock y.lock (OfPage t)) more hs is)
  guest-holds more (OfRtmr q) h = subst (λ (x : ℕ). holds (more ++ hs) (OfPage x) ≡ true) (sym h) (any-behind (λ y. same_lock y.lock (OfPage t)) more hs is)
  guest-holds more (OfOp q) h = absurd h
  guest-holds more (OfEpoch q) h = absurd h
  guest-holds more OfKeys h = absurd h

  guest-hold : (more : List Held) → HoldTdrs hs → AreOfGuest t more → HoldTdrs (more ++ hs)
  guest-hold [] below h = below
  guest-hold (x ∷ more) below h = (guest-holds more x.lock h.0, guest-hold more below h.1)

  guest-tdrs : (phase : Phase (Option Outcome)) (more : List Held) → HoldTdrs hs → AreOfGuest t (undo_of phase ++ more) → HoldTdrs (more ++ hs) × UndoTdr phase (more ++ hs)
  guest-tdrs Trying more below h = (guest-hold more below h, tt)
  guest-tdrs (Undoing l) more below h = (guest-hold more below h.1, guest-holds more l h.0)
  guest-tdrs (Answered out) more below h = (guest-hold more below h, tt)

module _ (w : World) (t : ℕ) (st : TdStands w t) where
  guest-lock-stands : (l : LockId) → IsOfGuest t l → Stands w l
  guest-lock-stands (OfPage q) h = tt
  guest-lock-stands (OfTree q) h = subst (λ (x : ℕ). TdStands w x) (sym h) st
  guest-lock-stands (OfRtmr q) h = subst (λ (x : ℕ). TdStands w x) (sym h) st
  guest-lock-stands (OfOp q) h = absurd h
  guest-lock-stands (OfEpoch q) h = absurd h
  guest-lock-stands OfKeys h = absurd h

  guest-locks-stand : (hs : List Held) → AreOfGuest t hs → HeldStand w hs
  guest-locks-stand [] h = tt
  guest-locks-stand (x ∷ hs) h = (guest-lock-stands x.lock h.0, guest-locks-stand hs h.1)

  guest-stands : (phase : Phase (Option Outcome)) (hs : List Held) → AreOfGuest t (undo_of phase ++ hs) → HeldStand w hs × UndoStands w phase
  guest-stands Trying hs h = (guest-locks-stand hs h, tt)
  guest-stands (Undoing l) hs h = (guest-locks-stand hs h.1, guest-lock-stands l h.0)
  guest-stands (Answered out) hs h = (guest-locks-stand hs h, tt)

-- all processors together
module _ (o : Opening) (s : State) (sound : AreSound o s) where
  -- the guest of a processor: its call holds what VP.ENTER left it, and its operation's locks are its TD's
  record HasGuest (q : ℕ) (g : Guest) : Type 0 where
    page : holds (s.lps q).call.held (OfPage g.tdr) ≡ true
    td : HeldStand s.world (s.lps q).call.held → TdStands s.world g.tdr
    operation : AreOfGuest g.tdr (undo_of g.operation.phase ++ g.operation.held)

  has-guest : (q : ℕ) (g : Guest) → (s.lps q).guest ≡ Some g → HasGuest q g
  has-guest q g is = by (lines_left o q (s.lps q)) (sound.timely.each q) (sound.in_order.orderly q)
    where
      held : (c : Call) → InGuest o s.world q c (s.lps q) g → IsOrderlyInside c (s.lps q) g → HasGuest q g
      held c at ordered = elim at.locks [
        | inl e ↦ record {
          page = subst (λ (x : List Held). holds x (OfPage g.tdr) ≡ true) (sym e) (holds-page (guest_locks g.tdr g.vp) g.tdr refl);
          td = λ h. (subst (λ (x : List Held). HeldStand s.world x) e h).1.0;
          operation = ordered.operation;
        }
        | inr e ↦ record {
          page = subst (λ (x : List Held). holds x (OfPage g.tdr) ≡ true) (sym e.0) (holds-page (entry_locks g.tdr g.vp) g.tdr refl);
          td = λ h. (subst (λ (x : List Held). HeldStand s.world x) e.0 h).0;
          operation = ordered.operation;
        }
      ]

      by : (cs : List Call) → StandsAt o s.world q cs (s.lps q) → IsOrderlyAt cs (s.lps q) → HasGuest q g
      by [] at ordered = absurd (let none : Some g ≡ None = sym is ∙ at.0 in cc)
      by (c ∷ cs) at ordered =
          held c (subst (λ (x : Option Guest). LineAt o s.world q c (s.lps q) x) is at) (subst (λ (x : Option Guest). IsOrderlyIn c (s.lps q) x) is ordered)

  module _ (p : ℕ) where
    abbrev lp : Lp
    lp = s.lps p

    abbrev After : Event → Type 0
    After e = ((q : ℕ) → IsOverTdrs (calls_of o.calls q) ((after_event p s (Some e)).lps q)) × ((q : ℕ) → q < s.lp_count → StandIn (world_after e s.world) ((after_event p s (Some e)).lps q))

    -- an event after which its own processor and all others are so
    after-all : (e : Event) → IsSound (calls_of o.calls p) (world_after e s.world) (lp_after s.world (is_granted s e) e lp)
        → ((q : ℕ) → (p == q) ≡ false → q < s.lp_count → StandIn (world_after e s.world) (s.lps q)) → After e
    after-all e own others =
        let x : Lp = lp_after s.world (is_granted s e) e lp in
        let here : (after_event p s (Some e)).lps p ≡ x = put_here s.lps p x in
        let lps' : ℕ → Lp = (after_event p s (Some e)).lps in (
          λ q. by_test (q == p)
              (λ y. subst (λ (i : ℕ). IsOverTdrs (calls_of o.calls i) (lps' i)) (sym (eqb-true q p y)) (subst (λ (z : Lp). IsOverTdrs (calls_of o.calls p) z) (sym here) own.order))
              (λ n. rw n (sound.over q)),
          λ q below. by_test (q == p)
              (λ y. subst (λ (i : ℕ). StandIn (world_after e s.world) (lps' i)) (sym (eqb-true q p y)) (subst (λ (z : Lp). StandIn (world_after e s.world) z) (sym here) own.stand))
              (λ n. rw n (others q (ne_eqb p q (λ e. eqb-false q p n (sym e))) below)),
        )

    small : (e : Event) → Due o s.world p lp e → p < s.lp_count
    small e due = let b = has-line o s.world p lp e due in let c = sound.in_order.count in omega (arith, b, c)

    -- an event of a call
    module _ (c : Call) (cs : List Call) (line : lines_left o p lp ≡ c ∷ cs) (below-count : p < s.lp_count) where
      abbrev move : Move Reply
      move = next_in ((row_of o p c).items s.world) lp.call.phase lp.call.held

      abbrev its_event : Event
      its_event = OfCall (row_of o p c) move

      first-of : lp.call.phase ≡ Trying → IsFirst (first_try ((row_of o p c).items s.world)) lp.call.held
      first-of = first-here o p c cs s.world sound.timely.lawful lp line (sound.over p) (sound.stand p below-count)

      -- where a call's act ends a TD, nobody else has a lock of it
      others-keep : (q : ℕ) → (p == q) ≡ false → q < s.lp_count → move ≡ Succeeds → KeepsOver s.world ((row_of o p c).act s.world) (s.lps q).call.held
      others-keep q n below e t is st =
          let items : List (Item Reply) = (row_of o p c).items s.world in
          let hs : List Held = lp.call.held in
          let way : lp.call.phase ≡ Trying = on-way items lp.call.phase hs e in
          let due : next items (length hs) ≡ Succeeds = ap (λ (x : Phase Reply). next_in items x hs) (sym way) ∙ e in
          elim (acts-go-on o p c s.world t sound.timely.lawful (all-pass items (length hs) due) st) [
            | inl k ↦ k
            | inr alone ↦ absurd ((grips-apart s p q sound.in_order.exclusive below-count below n).there.sole (Locked (OfPage t))
                (any-more (λ h. is_alone h.mode && same_lock h.lock (OfPage t)) hs (operation_locks lp.guest)
                (oldest-any (λ h. is_alone h.mode && same_lock h.lock (OfPage t)) hs _ (first-is items hs (first-of way) due ∙ alone) (eq-eqb t t refl)))
                (any-more (λ h. same_lock h.lock (OfPage t)) (s.lps q).call.held (operation_locks (s.lps q).guest) (holds-page (s.lps q).call.held t is)))
          ]

      call-after : After its_event
      call-after = after-all its_event
          (by-phase o p c cs s.world sound.timely.lawful lp line (sound.over p) (sound.stand p below-count) (λ m. is_granted s (OfCall (row_of o p c) m)) lp.call.phase lp.call.held refl refl)
          (λ q n below. call-stands (calls_of o.calls q) s.world (row_of o p c) move (s.lps q) (others-keep q n below) (sound.over q) (sound.stand q below))

      -- a call's try
      call-tried : (l : LockId) → tried_in move ≡ Some l → IsOver (oldest lp.call.held) l × Stands s.world l
      call-tried l e = by move refl e
        where
          items : List (Item Reply)
          items = (row_of o p c).items s.world

          fits : (k : LockId) (m : Mode) → move ≡ Attempts k m → IsOver (oldest lp.call.held) k × Stands s.world k
          fits k m is =
              let way : lp.call.phase ≡ Trying = trying items lp.call.phase lp.call.held k m is in
              let due : next items (length lp.call.held) ≡ Attempts k m = ap (λ (x : Phase Reply). next_in items x lp.call.held) (sym way) ∙ is in
              subst (λ (x : Option Held). IsOver x k × Stands s.world k) (first-below items lp.call.held (first-of way)) (next-fits s.world None items (length lp.call.held) k m (rows-fit o p c s.world) due)

          by : (mv : Move Reply) → move ≡ mv → tried_in mv ≡ Some l → IsOver (oldest lp.call.held) l × Stands s.world l
          by (Attempts k m) is e = (let same : k ≡ l = cc in subst (λ (x : LockId). IsOver (oldest lp.call.held) x × Stands s.world x) same (fits k m is))
          by (Undoes k) is e = cc
          by (Refuses r) is e = cc
          by Succeeds is e = cc
          by (Releases h) is e = cc
          by Rests is e = cc

    -- an event of a guest: it leaves TDs as they are, and its call's locks but for E
    guest-after : (e : Event) → SameTds s.world (world_after e s.world) → IsSound (calls_of o.calls p) s.world (lp_after s.world (is_granted s e) e lp) → After e
    guest-after e same own =
        let lp' : Lp = lp_after s.world (is_granted s e) e lp in
        after-all e (record { order = own.order; stand = all-stand (calls_of o.calls p) s.world (world_after e s.world) lp' (λ t is. same t) own.order own.stand })
        (λ q apart below. all-stand (calls_of o.calls q) s.world (world_after e s.world) (s.lps q) (λ t is. same t) (sound.over q) (sound.stand q below))

    -- the record changes in the guest alone
    same-call : p < s.lp_count → (lp' : Lp) → lp'.call ≡ lp.call → lp'.replies ≡ lp.replies → IsSound (calls_of o.calls p) s.world lp'
    same-call below lp' a b =
        let x = sound.over p in let st = sound.stand p below in
        record {
          order = record {
            over = subst (λ (y : Progress Reply). AreOver y.held) (sym a) x.over;
            undo = subst (λ (y : Progress Reply). UndoOver y.phase y.held) (sym a) x.undo;
            first = λ t. subst (λ (y : List Reply). IsFirstOf (drop (length y) (calls_of o.calls p)) lp'.call.held) (sym b)
                (subst (λ (y : Progress Reply). IsFirstOf (lines_left o p lp) y.held) (sym a) (x.first (ap (λ (y : Progress Reply). y.phase) (sym a) ∙ t)));
          };
          stand = record { held = subst (λ (y : Progress Reply). HeldStand s.world y.held) (sym a) st.held; undo = subst (λ (y : Progress Reply). UndoStands s.world y.phase) (sym a) st.undo };
        }

    leave-after : (v : ℕ) (out : Outcome) → p < s.lp_count → After (Leaves v out)
    leave-after v out below = guest-after (Leaves v out) (same-tds s.world (leave_guest v s.world) refl refl refl)
        (record { order = record { over = (sound.over p).over; undo = tt; first = λ t. cc }; stand = record { held = (sound.stand p below).held; undo = tt } })

    less : (first : Option Held) (h : Held) (hs : List Held) → IsFirst first (h ∷ hs) → IsFirst first hs
    less first h [] f = tt
    less first h (x ∷ hs) f = f

    first-less : (xs : List Call) (h : Held) (hs : List Held) → IsFirstOf xs (h ∷ hs) → IsFirstOf xs hs
    first-less [] h hs f = tt
    first-less (c ∷ cs) h hs f = λ q w. less _ h hs (f q w)

    free-after : (c : Call) (cs : List Call) (g : Guest) (h : Held) (hs : List Held) → lines_left o p lp ≡ c ∷ cs → lp.guest ≡ Some g → lp.call.held ≡ h ∷ hs → p < s.lp_count
        → After (OfCall (row_of o p c) (Releases h))
    free-after c cs g h hs line guest held below =
        let e : Event = OfCall (row_of o p c) (Releases h) in
        let at : InGuest o s.world p c lp g = subst (λ (x : Option Guest). LineAt o s.world p c lp x) guest (subst (λ (x : List Call). StandsAt o s.world p x lp) line (sound.timely.each p)) in
        let lp1 : Lp = record lp { call = record { phase = Trying; held = hs } } in
        let same : lp_after s.world (is_granted s e) e lp ≡ lp1 =
        ap (λ (x : Phase Reply). settle x (but_newest lp.call.held) (record lp { call = record { phase = x; held = but_newest lp.call.held } })) at.trying
        ∙ ap (λ (x : List Held). record lp { call = record { phase = Trying; held = but_newest x } }) held in
        let over : AreOver (h ∷ hs) = subst (λ (x : List Held). AreOver x) held (sound.over p).over in
        let st : HeldStand s.world (h ∷ hs) = subst (λ (x : List Held). HeldStand s.world x) held (sound.stand p below).held in
        let first : IsFirstOf (lines_left o p lp) (h ∷ hs) = subst (λ (x : List Held). IsFirstOf (lines_left o p lp) x) held ((sound.over p).first at.trying) in
        guest-after e (λ t st. st)
        (subst (λ (x : Lp). IsSound (calls_of o.calls p) s.world x) (sym same)
        (record { order = record { over = over.1; undo = tt; first = λ t. first-less (lines_left o p lp) h hs first }; stand = record { held = st.1; undo = tt } }))

    by-due : (e : Event) → Due o s.world p lp e → p < s.lp_count → After e
    by-due e (calls c cs line none) below = call-after c cs line below
    by-due e (frees c cs g h hs line guest held epoch) below = free-after c cs g h hs line guest held below
    by-due e (leaves c cs g out i l) below = leave-after g.vp out below
    by-due e (stops c cs g i l t d) below = leave-after g.vp Stop below
    by-due e (fills c cs g op i l t d m) below = leave-after g.vp Max below
    by-due e (operates c cs g op row i way is) below =
        let mv : Move (Option Outcome) = next (row.items s.world) (length g.operation.held) in
        guest-after (OfOperation row mv) (operation-tds s.world o g.tdr g.vp (length lp.replies + 1) op row mv is) (same-call below _ refl refl)
    by-due e (walks c cs g op access r gpa i way is lost) below = guest-after (Walks access gpa) (λ t st. st) (same-call below _ refl refl)
    by-due e (reaches c cs g op access r gpa page i way is found) below =
        guest-after (Reaches g.tdr g.vp access r gpa page) (reach-tds s.world g.tdr g.vp access r gpa page) (same-call below _ refl refl)
    by-due e (undoes c cs g l i st h) below = guest-after (OfOperation nothing_more (Undoes l)) (λ t st. st) (same-call below _ refl refl)
    by-due e (gives_back c cs g out i st h) below =
        guest-after (OfOperation nothing_more (next_in [] (Answered out) g.operation.held)) (ending-tds s.world out g.operation.held) (same-call below _ refl refl)

    event-after : (x : Option Event) → next_event o s p ≡ x → let s' = after_event p s x in
        ((q : ℕ) → IsOverTdrs (calls_of o.calls q) (s'.lps q)) × ((q : ℕ) → q < s.lp_count → StandIn s'.world (s'.lps q))
    event-after None e = (sound.over, sound.stand)
    event-after (Some x) e = let due = due_event_is o s p x e in by-due x due (small x due)

    -- a lock that is tried

    abbrev Tried : LockId → Type 0
    Tried l = HoldsTdr lp.call.held l × Stands s.world l

    guest-tried : (g : Guest) → lp.guest ≡ Some g → p < s.lp_count → (l : LockId) → IsOfGuest g.tdr l → Tried l
    guest-tried g is below l h =
        let has = has-guest p g is in
        (guest-holds g.tdr lp.call.held has.page [] l h, guest-lock-stands s.world g.tdr (has.td (sound.stand p below).held) l h)

    nothing-tried : (out : Option Outcome) (hs : List Held) (l : LockId) → tried_in (next_in {R = Option Outcome} [] (Answered out) hs) ≡ Some l → ⊥
    nothing-tried out [] l e = cc
    nothing-tried out (h ∷ hs) l e = cc

    due-tried : (e : Event) → Due o s.world p lp e → (l : LockId) → tried_by e ≡ Some l → p < s.lp_count → Tried l
    due-tried e (calls c cs line none) l is below = (let both = call-tried c cs line below l is in (over-holds lp.call.held l both.0, both.1))
    due-tried e (frees c cs g h hs line guest held epoch) l is below = cc
    due-tried e (leaves c cs g out i x) l is below = cc
    due-tried e (stops c cs g i x t d) l is below = cc
    due-tried e (fills c cs g op i x t d y) l is below = cc
    due-tried e (operates c cs g op row i way x) l is below =
        guest-tried g i.guest below l (next-of-guest g.tdr (row.items s.world) (length g.operation.held) l (operation-tries o g.tdr g.vp (length lp.replies + 1) op row s.world x) is)
    due-tried e (walks c cs g op access r gpa i way x lost) l is below = cc
    due-tried e (reaches c cs g op access r gpa page i way x found) l is below = cc
    due-tried e (undoes c cs g k i st h) l is below = cc
    due-tried e (gives_back c cs g out i st h) l is below = absurd (nothing-tried out g.operation.held l is)

  -- what it comes to

  tdrs-held : (q : ℕ) (x : Option Guest) → (s.lps q).guest ≡ x → GuestTdrs (s.lps q).call.held x
  tdrs-held q None is = tt
  tdrs-held q (Some g) is =
      let has = has-guest q g is in
      guest-tdrs g.tdr (s.lps q).call.held has.page g.operation.phase g.operation.held (over-tdrs (s.lps q).call.held (sound.over q).over) has.operation

  operation-stands : (q : ℕ) → q < s.lp_count → (x : Option Guest) → (s.lps q).guest ≡ x → GuestStands s.world x
  operation-stands q below None is = tt
  operation-stands q below (Some g) is =
      let has = has-guest q g is in
      guest-stands s.world g.tdr (has.td (sound.stand q below).held) g.operation.phase g.operation.held has.operation

  sound-stand : SoundStand o s
  sound-stand = record {
    tdrs = λ q. (let ordered = sound.over q in (
      (over-tdrs (s.lps q).call.held ordered.over, undo-tdr (s.lps q).call.phase (s.lps q).call.held ordered.undo),
      tdrs-held q (s.lps q).guest refl,
    ));
    stand = λ q below. (let st = sound.stand q below in (st.held, st.undo, operation-stands q below (s.lps q).guest refl));
    tried = λ p e l next is. (let due = due_event_is o s p e next in due-tried p e due l is (small p e due));
  }

-- of an opening with other bundles
other-bundles : (o : Opening) (bundles : ℕ → Option Incoming) (s : State) → AreSound o s → AreSound (with_bundles o bundles) s
other-bundles o bundles s sound = record {
  timely = timely_rebundled o bundles s sound.timely;
  in_order = record { orderly = sound.in_order.orderly; exclusive = sound.in_order.exclusive; count = sound.in_order.count };
  over = sound.over;
  stand = sound.stand;
}

one-event : (o : Opening) (bundles : ℕ → Option Incoming) (s : State) (p : ℕ) → AreSound o s → AreSound o (event (with_bundles o bundles) s p)
one-event o bundles s p sound =
    let q : Opening = with_bundles o bundles in
    let after = event-after q s (other-bundles o bundles s sound) p (next_event q s p) refl in
    let same : (event q s p).lp_count ≡ s.lp_count = count_stays q s p in
    record {
      timely = timeliness_kept.event o bundles s p sound.timely;
      in_order = order_kept.event o bundles s p sound.in_order;
      over = after.0;
      stand = λ i below. after.1 i (subst (λ (n : ℕ). i < n) same below);
    }

pub soundness-kept : SoundnessIsKept
soundness-kept = record {
  start = λ o ws. record {
    timely = timeliness_kept.start o ws;
    in_order = order_kept.start o ws;
    over = λ q. record { over = tt; undo = tt; first = λ e. first-none (calls_of o.calls q) };
    stand = λ q below. record { held = tt; undo = tt };
  };
  event = one-event;
}

pub sound-locks-stand : SoundLocksStand
sound-locks-stand o bundles s sound = sound-stand (with_bundles o bundles) s (other-bundles o bundles s sound)

all-stand-so : (o : Opening) (ws : Option (List ℕ)) (schedule : List ℕ) → SoundStand o (reached o ws schedule)
all-stand-so o ws schedule = sound-stand o (reached o ws schedule) (in_runs AreSound soundness-kept o ws schedule)

pub every-tdr-held : EveryTdrIsHeld
every-tdr-held o ws schedule = (all-stand-so o ws schedule).tdrs

pub every-lock-stands : EveryLockStands
every-lock-stands o ws schedule = (all-stand-so o ws schedule).stand

pub every-try-stands : EveryTryStands
every-try-stands o ws schedule = (all-stand-so o ws schedule).tried
