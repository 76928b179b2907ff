-- How many events VP.ENTER has before its guest's first operation, and from the count step on.
use Rattle.std.proofs.Common.{◌≡◌, refl, sym, ◌∙◌, subst, ap, ℕ, suc, ◌+◌, ◌≤◌, List, [], ◌∷◌, length, drop, Option, Some, None, option_map, Bool, true, false, not, arith}
use Rattle.td_words.specs.declared.names.Mode.{Mode}
use Rattle.td_words.specs.declared.names.Mode.TheVariants.{Shared, Exclusive}
use Rattle.td_words.specs.declared.calls.Call.{Call}
use Rattle.td_words.specs.declared.calls.Call.TheVariants as call
use Rattle.td_words.specs.declared.replies.Outcome.{Outcome}
use Rattle.td_words.specs.declared.replies.Outcome.TheVariants.{Stop, Max}
use Rattle.td_words.specs.declared.replies.Reply.{Reply}
use Rattle.td_words.specs.declared.replies.Reply.TheVariants.{Exited}
use Rattle.flat_core.specs.World.{World}
use Rattle.flat_core.specs.Processor.{LockId, name_of, Held, Phase, Trying, Undoing, Answered, Progress, Guest, new_guest, Lp}
use Rattle.flat_core.specs.Opening.{Opening}
use Rattle.flat_core.specs.Row.{Row, Move, Attempts, Undoes, Succeeds, Releases, next, next_in, but_newest}
use Rattle.flat_core.specs.Table.{row_of}
use Rattle.flat_core.specs.Guest.{walk_step, answered as with_answer}
use Rattle.flat_core.specs.Guests.{guest_locks, entry_locks}
use Rattle.flat_core.specs.Inside.{LocksFit, InGuest, LineAt, StandsAt, IsTimely}
use Rattle.flat_core.specs.Event.{State, Event, OfCall, OfOperation, Walks, Reaches, Leaves, next_event, event_for, lines_left, calls_of, event, after_event, lp_after, call_lp, settled, settle, call_busy, is_granted, is_epoch_lock, operation_guest, settled_guest, nothing_more}
use Rattle.flat_core.specs.Run.{play}
use Rattle.flat_core.specs.Laws.{AnswersNext, own_items}
use Rattle.flat_core.specs.Entries.{IsNew, IsEntering, EntriesHaveTheirEvents}
use Rattle.flat_core.proofs.Tests.{same_self}
use Rattle.flat_core.proofs.Due.{no_epoch, Due, IsInside, calls, frees, leaves, stops, fills, operates, walks, reaches, undoes, gives_back, due_event_is}
use Rattle.flat_core.proofs.Enter.{fits_first, fits_more, enter_held}
use Rattle.flat_core.proofs.Ends.{next_is, freed_locks}
use Rattle.flat_core.proofs.Refused.{after_here}
use Rattle.flat_core.proofs.Counts.{Comes, goes_on, is_done, counted, answered_after}

nobody : {A : Type 0} (lp : Lp) (g : Guest) → lp.guest ≡ None → lp.guest ≡ Some g → A
nobody lp g none is = absurd (let no : None ≡ Some g = sym none ∙ is in cc)

abbrev Any : ℕ → Reply → Type 0
Any k r = Unit {0}

module _ (tdr vp most : ℕ) where
  abbrev enter : Call
  enter = call.VpEnter tdr vp most

  abbrev first : Guest
  first = new_guest (record { tdr = tdr; vp = vp; most = most })

  -- where the processor of VP.ENTER stands after k events of it: its guest comes in with the fifth, and E is given back with the
  -- sixth
  data IsAt (k : ℕ) (lp : Lp) : Type 0 where
    is_trying : lp.guest ≡ None → lp.call.phase ≡ Trying → k ≡ length lp.call.held → LocksFit enter Trying lp.call.held → IsAt k lp
    has_entered : k ≡ 5 → lp.guest ≡ Some first → lp.call.phase ≡ Trying → lp.call.held ≡ entry_locks tdr vp → IsAt k lp
    is_inside : (g : Guest) → 6 ≤ k → (k ≡ 6 → g ≡ first) → lp.guest ≡ Some g → lp.call.phase ≡ Trying → lp.call.held ≡ guest_locks tdr vp → IsAt k lp
    has_ended : lp.guest ≡ None → (lp.call.phase ≡ Trying → ⊥) → IsAt k lp

  abbrev Goes : ℕ → List Reply → Lp → Type 0
  Goes k base lp = Comes IsAt Any k base lp

  ends : (k : ℕ) (lp : Lp) (r : Reply) (hs : List Held) → lp.guest ≡ None → Goes k lp.replies (settle (Answered r) hs (record lp { call = record { phase = Answered r; held = hs } }))
  ends k lp r [] g = is_done r refl tt
  ends k lp r (h ∷ hs) g = goes_on refl (has_ended g (λ e. cc))

  module _ (o : Opening) (p : ℕ) (w : World) (b : Event → Bool) where
    abbrev row : Row
    row = row_of o p enter

    abbrev After : Event → Lp → Lp
    After e lp = lp_after w (b e) e lp

    -- its tries
    module _ (k : ℕ) (lp : Lp) (hs : List Held) (g : lp.guest ≡ None) (so_far : k ≡ length hs) (fits : LocksFit enter Trying hs) where
      abbrev now : Lp
      now = record lp { call = record { phase = Trying; held = hs } }

      attempted : (x : Bool) (l : LockId) (m : Mode) → next (row.items w) (length hs) ≡ Attempts l m → Goes (suc k) lp.replies (settled (call_lp w x row (Attempts l m) now))
      attempted true l m is = goes_on refl (is_trying g refl (omega (arith, so_far)) (fits_more o p enter w hs l m is fits))
      attempted false l Shared is = goes_on refl (has_ended g (λ e. cc))
      attempted false l Exclusive is = ends (suc k) now (call_busy (name_of l)) hs g

      acted : next (row.items w) (length hs) ≡ Succeeds → Goes (suc k) lp.replies (settled (call_lp w (b (OfCall row Succeeds)) row Succeeds now))
      acted is =
          let held : hs ≡ entry_locks tdr vp = enter_held o p tdr vp most w hs is fits in
          let long : length hs ≡ 4 = ap length held in
          goes_on refl (has_entered (omega (arith, so_far, long)) refl refl held)

      trying : let move = next (row.items w) (length hs) in Goes (suc k) lp.replies (After (OfCall row move) now)
      trying =
          next_is (λ x. next (row.items w) (length hs) ≡ x → Goes (suc k) lp.replies (After (OfCall row x) now)) (row.items w) (length hs)
          (λ r is. ends (suc k) now r hs g) acted (λ l m room is. attempted (b (OfCall row (Attempts l m))) l m is) refl

    -- its undo and its releases
    ending : (k : ℕ) (lp : Lp) (phase : Phase Reply) (hs : List Held) → lp.guest ≡ None → (phase ≡ Trying → ⊥)
        → let move = next_in (row.items w) phase hs in Goes (suc k) lp.replies (After (OfCall row move) (record lp { call = record { phase = phase; held = hs } }))
    ending k lp Trying hs g n = absurd (n refl)
    ending k lp (Undoing l) hs g n = ends (suc k) (record lp { call = record { phase = Undoing l; held = hs } }) (call_busy (name_of l)) hs g
    ending k lp (Answered r) [] g n = is_done r refl tt
    ending k lp (Answered r) (h ∷ hs) g n = ends (suc k) (record lp { call = record { phase = Answered r; held = h ∷ hs } }) r hs g

    of_call : (k : ℕ) (lp : Lp) → lp.guest ≡ None → IsAt k lp → let move = next_in (row.items w) lp.call.phase lp.call.held in Goes (suc k) lp.replies (After (OfCall row move) lp)
    of_call k lp g (is_trying none t so_far fits) =
        subst (λ (x : Phase Reply). let move = next_in (row.items w) x lp.call.held in Goes (suc k) lp.replies (After (OfCall row move) (record lp { call = record { phase = x; held = lp.call.held } }))) (sym t)
        (trying k lp lp.call.held g so_far fits)
    of_call k lp g (has_entered five is t held) = nobody lp first g is
    of_call k lp g (is_inside x six new is t held) = nobody lp x g is
    of_call k lp g (has_ended none n) = ending k lp lp.call.phase lp.call.held g n

    -- E is given back
    freed : (c : Call) (h : Held) (lp : Lp) → lp.call.phase ≡ Trying → lp.call.held ≡ entry_locks tdr vp → let e : Event = OfCall (row_of o p c) (Releases h) in
        ((After e lp).replies ≡ lp.replies) × ((After e lp).guest ≡ lp.guest) × ((After e lp).call.phase ≡ Trying) × ((After e lp).call.held ≡ guest_locks tdr vp)
    freed c h lp t held =
        let Q : Phase Reply → Type 0 = λ x. let lp1 = settle x (but_newest lp.call.held) (record lp { call = record { phase = x; held = but_newest lp.call.held } }) in
        (lp1.replies ≡ lp.replies) × (lp1.guest ≡ lp.guest) × (lp1.call.phase ≡ Trying) × (lp1.call.held ≡ guest_locks tdr vp) in
        subst Q (sym t) (refl, refl, refl, ap but_newest held)

    -- with a guest in E is held only behind the fifth
    no_e : (lp : Lp) → lp.call.held ≡ entry_locks tdr vp → no_epoch lp.call.held ≡ true → ⊥
    no_e lp held free = let no : false ≡ true = rw held at free in cc

    stays_inside : (k : ℕ) (lp lp' : Lp) (g g' : Guest) → no_epoch lp.call.held ≡ true → lp.guest ≡ Some g → IsAt k lp → lp'.replies ≡ lp.replies → lp'.call ≡ lp.call → lp'.guest ≡ Some g' → Goes (suc k) lp.replies lp'
    stays_inside k lp lp' g g' free here (is_trying none t so_far fits) rs cl gs = nobody lp g none here
    stays_inside k lp lp' g g' free here (has_entered five is t held) rs cl gs = absurd (no_e lp held free)
    stays_inside k lp lp' g g' free here (is_inside x six new is t held) rs cl gs =
        goes_on rs (is_inside g' (omega (arith, six)) (λ e. absurd (omega (arith, e, six))) gs (ap (λ (y : Progress Reply). y.phase) cl ∙ t) (ap (λ (y : Progress Reply). y.held) cl ∙ held))
    stays_inside k lp lp' g g' free here (has_ended none n) rs cl gs = nobody lp g none here

    frees_inside : (k : ℕ) (lp : Lp) (c : Call) (g : Guest) (h : Held) (hs : List Held) → lp.guest ≡ Some g → lp.call.held ≡ h ∷ hs → is_epoch_lock h.lock ≡ true → IsAt k lp
        → Goes (suc k) lp.replies (After (OfCall (row_of o p c) (Releases h)) lp)
    frees_inside k lp c g h hs here holds epoch (is_trying none t so_far fits) = nobody lp g none here
    frees_inside k lp c g h hs here holds epoch (has_entered five is t held) =
        let f = freed c h lp t held in goes_on f.0 (is_inside first (omega (arith, five)) (λ e. refl) (f.1 ∙ is) f.2 f.3)
    frees_inside k lp c g h hs here holds epoch (is_inside x six new is t held) =
        absurd (let same : guest_locks tdr vp ≡ h ∷ hs = sym held ∙ holds in let no : no_epoch (h ∷ hs) ≡ true = ap no_epoch (sym same) in let bad : not true ≡ true = rw epoch at no in cc)
    frees_inside k lp c g h hs here holds epoch (has_ended none n) = nobody lp g none here

    left : (k : ℕ) (lp : Lp) (v : ℕ) (out : Outcome) → Goes (suc k) lp.replies (After (Leaves v out) lp)
    left k lp v out = goes_on refl (has_ended refl (λ e. cc))

    module _ (lp : Lp) (cs : List Call) (line : lines_left o p lp ≡ enter ∷ cs) where
      by_due : (k : ℕ) (e : Event) → Due o w p lp e → IsAt k lp → Goes (suc k) lp.replies (After e lp)
      by_due k e (calls c ds here g) at =
          let same : enter ≡ c = (let x : enter ∷ cs ≡ c ∷ ds = sym line ∙ here in cc) in
          subst (λ (x : Call). let move = next_in ((row_of o p x).items w) lp.call.phase lp.call.held in Goes (suc k) lp.replies (After (OfCall (row_of o p x) move) lp)) same (of_call k lp g at)
      by_due k e (frees c ds g h hs here guest holds epoch) at = frees_inside k lp c g h hs guest holds epoch at
      by_due k e (leaves c ds g out i l) at = left k lp g.vp out
      by_due k e (stops c ds g i l t d) at = left k lp g.vp Stop
      by_due k e (fills c ds g op i l t d m) at = left k lp g.vp Max
      by_due k e (operates c ds g op r i way is) at =
          let x : Event = OfOperation r (next (r.items w) (length g.operation.held)) in
          stays_inside k lp (After x lp) g (operation_guest w (b x) r (next (r.items w) (length g.operation.held)) g) i.freed i.guest at refl refl
          (ap (λ (y : Option Guest). option_map (operation_guest w (b x) r (next (r.items w) (length g.operation.held))) y) i.guest)
      by_due k e (walks c ds g op access r gpa i way is lost) at =
          stays_inside k lp (After (Walks access gpa) lp) g (settled_guest (walk_step w g access gpa)) i.freed i.guest at refl refl (ap (λ (y : Option Guest). option_map (λ z. settled_guest (walk_step w z access gpa)) y) i.guest)
      by_due k e (reaches c ds g op access r gpa page i way is found) at =
          stays_inside k lp (After (Reaches g.tdr g.vp access r gpa page) lp) g (settled_guest (with_answer None g)) i.freed i.guest at refl refl (ap (λ (y : Option Guest). option_map (λ z. settled_guest (with_answer None z)) y) i.guest)
      by_due k e (undoes c ds g l i st h) at =
          let x : Event = OfOperation nothing_more (Undoes l) in
          stays_inside k lp (After x lp) g (operation_guest w (b x) nothing_more (Undoes l) g) i.freed i.guest at refl refl (ap (λ (y : Option Guest). option_map (operation_guest w (b x) nothing_more (Undoes l)) y) i.guest)
      by_due k e (gives_back c ds g out i st h) at =
          let mv = next_in [] (Answered out) g.operation.held in
          let x : Event = OfOperation nothing_more mv in
          stays_inside k lp (After x lp) g (operation_guest w (b x) nothing_more mv g) i.freed i.guest at refl refl (ap (λ (y : Option Guest). option_map (operation_guest w (b x) nothing_more mv) y) i.guest)

      -- the sixth
      sixth : (e : Event) → Due o w p lp e → lp.guest ≡ Some first → lp.call.phase ≡ Trying → lp.call.held ≡ entry_locks tdr vp → IsNew tdr vp most (guest_locks tdr vp) (After e lp)
      sixth e (calls c ds here g) is t held = nobody lp first g is
      sixth e (frees c ds g h hs here guest holds epoch) is t held = let f = freed c h lp t held in record { guest = f.1 ∙ is; held = f.3 }
      sixth e (leaves c ds g out i l) is t held = absurd (no_e lp held i.freed)
      sixth e (stops c ds g i l k d) is t held = absurd (no_e lp held i.freed)
      sixth e (fills c ds g op i l k d m) is t held = absurd (no_e lp held i.freed)
      sixth e (operates c ds g op r i way x) is t held = absurd (no_e lp held i.freed)
      sixth e (walks c ds g op access r gpa i way x lost) is t held = absurd (no_e lp held i.freed)
      sixth e (reaches c ds g op access r gpa page i way x found) is t held = absurd (no_e lp held i.freed)
      sixth e (undoes c ds g l i st h) is t held = absurd (no_e lp held i.freed)
      sixth e (gives_back c ds g out i st h) is t held = absurd (no_e lp held i.freed)

-- a processor with a line left has an event
some_event : (o : Opening) (s : State) (p : ℕ) (c : Call) (cs : List Call) → lines_left o p (s.lps p) ≡ c ∷ cs → next_event o s p ≡ None → ⊥
some_event o s p c cs line is = let no : event_for o s.world p (s.lps p) (c ∷ cs) ≡ None = subst (λ (x : List Call). event_for o s.world p (s.lps p) x ≡ None) line is in cc

module _ (o : Opening) (p tdr vp most : ℕ) (base : List Reply) (cs : List Call) (line : drop (length base) (calls_of o.calls p) ≡ call.VpEnter tdr vp most ∷ cs) where
  line_of : (s : State) → (s.lps p).replies ≡ base → lines_left o p (s.lps p) ≡ call.VpEnter tdr vp most ∷ cs
  line_of s so_far = ap (λ (rs : List Reply). drop (length rs) (calls_of o.calls p)) so_far ∙ line

  own : (s : State) (k : ℕ) → (s.lps p).replies ≡ base → IsAt tdr vp most k (s.lps p) → Goes tdr vp most (suc k) base ((event o s p).lps p)
  own s k so_far at = subst (λ (rs : List Reply). Goes tdr vp most (suc k) rs ((event o s p).lps p)) so_far (by (next_event o s p) refl)
    where
      by : (x : Option Event) → next_event o s p ≡ x → Goes tdr vp most (suc k) (s.lps p).replies ((after_event p s x).lps p)
      by None is = absurd (some_event o s p (call.VpEnter tdr vp most) cs (line_of s so_far) is)
      by (Some e) is =
          subst (λ (x : Lp). Goes tdr vp most (suc k) (s.lps p).replies x) (sym (after_here p s e))
          (by_due tdr vp most o p s.world (is_granted s) (s.lps p) cs (line_of s so_far) k e (due_event_is o s p e is) at)

  sixth_event : (s : State) → (s.lps p).replies ≡ base → (s.lps p).guest ≡ Some (first tdr vp most) → (s.lps p).call.phase ≡ Trying → (s.lps p).call.held ≡ entry_locks tdr vp
      → IsNew tdr vp most (guest_locks tdr vp) ((event o s p).lps p)
  sixth_event s so_far is t held = by (next_event o s p) refl
    where
      by : (x : Option Event) → next_event o s p ≡ x → IsNew tdr vp most (guest_locks tdr vp) ((after_event p s x).lps p)
      by None e = absurd (some_event o s p (call.VpEnter tdr vp most) cs (line_of s so_far) e)
      by (Some x) e =
          subst (λ (y : Lp). IsNew tdr vp most (guest_locks tdr vp) y) (sym (after_here p s x))
          (sixth tdr vp most o p s.world (is_granted s) (s.lps p) cs (line_of s so_far) x (due_event_is o s p x e) is t held)

module _ (o : Opening) (s : State) (p : ℕ) (schedule : List ℕ) (tdr vp most : ℕ) (g : Guest) (h : IsEntering o s p schedule tdr vp most g) where
  abbrev last : Lp
  last = (play o schedule s).lps p

  abbrev count : ℕ
  count = own_items p schedule + 0

  at_first : IsAt tdr vp most 0 (s.lps p)
  at_first =
      is_trying h.between.guest (ap (λ (x : Progress Reply). x.phase) h.between.call) (ap (λ (x : Progress Reply). length x.held) (sym h.between.call))
      (subst (λ (x : Progress Reply). LocksFit (call.VpEnter tdr vp most) Trying x.held) (sym h.between.call) (fits_first (call.VpEnter tdr vp most)))

  at_last : IsAt tdr vp most count last
  at_last = counted o p (s.lps p).replies (IsAt tdr vp most) Any (own o p tdr vp most (s.lps p).replies h.rest h.line) schedule s 0 refl at_first h.none_yet

  begins_next : last.call.held ≡ entry_locks tdr vp → (own_items p schedule + 1 ≡ 6) × IsNew tdr vp most (guest_locks tdr vp) ((event o (play o schedule s) p).lps p)
  begins_next waits = by at_last
    where
      by : IsAt tdr vp most count last → (own_items p schedule + 1 ≡ 6) × IsNew tdr vp most (guest_locks tdr vp) ((event o (play o schedule s) p).lps p)
      by (is_trying none t so_far fits) = nobody last g none h.guest
      by (has_entered five is t held) = (omega (arith, five), sixth_event o p tdr vp most (s.lps p).replies h.rest h.line (play o schedule s) h.none_yet is t held)
      by (is_inside x six new is t held) = absurd (let same : entry_locks tdr vp ≡ guest_locks tdr vp = sym waits ∙ held in let long : 4 ≡ 3 = ap length same in omega (arith, long))
      by (has_ended none n) = nobody last g none h.guest

  is_ready : own_items p schedule ≡ 6 → IsNew tdr vp most (guest_locks tdr vp) last
  is_ready six_is = by at_last
    where
      by : IsAt tdr vp most count last → IsNew tdr vp most (guest_locks tdr vp) last
      by (is_trying none t so_far fits) = nobody last g none h.guest
      by (has_entered five is t held) = absurd (omega (arith, five, six_is))
      by (is_inside x six new is t held) = record { guest = is ∙ ap Some (new (omega (arith, six_is))); held = held }
      by (has_ended none n) = nobody last g none h.guest

-- From the count step on

module _ (out : Outcome) where
  -- it is answered, and so many locks are left
  record IsLeft (k : ℕ) (lp : Lp) : Type 0 where
    guest : lp.guest ≡ None
    phase : lp.call.phase ≡ Answered (Exited out)
    many : k + length lp.call.held ≡ 4
    some : 1 ≤ length lp.call.held

  abbrev IsFourth : ℕ → Reply → Type 0
  IsFourth k r = (r ≡ Exited out) × (k ≡ 4)

  gives : (w : World) (b : Move Reply → Bool) (row : Row) (k : ℕ) (lp : Lp) (hs : List Held) → lp.guest ≡ None → k + length hs ≡ 4 → 1 ≤ length hs
      → let move = next_in (row.items w) (Answered (Exited out)) hs in Comes IsLeft IsFourth (suc k) lp.replies (settled (call_lp w (b move) row move (record lp { call = record { phase = Answered (Exited out); held = hs } })))
  gives w b row k lp [] g many some = absurd (omega (arith, some))
  gives w b row k lp (h ∷ []) g many some = is_done (Exited out) refl (refl, omega (arith, many))
  gives w b row k lp (h ∷ x ∷ hs) g many some = goes_on refl (record { guest = g; phase = refl; many = omega (arith, many); some = omega arith })

  gives_now : (w : World) (b : Move Reply → Bool) (row : Row) (k : ℕ) (lp : Lp) → IsLeft k lp → let move = next_in (row.items w) lp.call.phase lp.call.held in Comes IsLeft IsFourth (suc k) lp.replies (settled (call_lp w (b move) row move lp))
  gives_now w b row k lp h =
      subst (λ (x : Phase Reply). let move = next_in (row.items w) x lp.call.held in Comes IsLeft IsFourth (suc k) lp.replies (settled (call_lp w (b move) row move (record lp { call = record { phase = x; held = lp.call.held } })))) (sym h.phase)
      (gives w b row k lp lp.call.held h.guest h.many h.some)

  gives_due : (o : Opening) (w : World) (p : ℕ) (b : Event → Bool) (k : ℕ) (lp : Lp) (e : Event) → Due o w p lp e → IsLeft k lp → Comes IsLeft IsFourth (suc k) lp.replies (lp_after w (b e) e lp)
  gives_due o w p b k lp e (calls c cs line g) h = gives_now w (λ m. b (OfCall (row_of o p c) m)) (row_of o p c) k lp h
  gives_due o w p b k lp e (frees c cs g x hs line guest held epoch) h = nobody lp g h.guest guest
  gives_due o w p b k lp e (leaves c cs g x i l) h = nobody lp g h.guest i.guest
  gives_due o w p b k lp e (stops c cs g i l t d) h = nobody lp g h.guest i.guest
  gives_due o w p b k lp e (fills c cs g op i l t d m) h = nobody lp g h.guest i.guest
  gives_due o w p b k lp e (operates c cs g op _ i way is) h = nobody lp g h.guest i.guest
  gives_due o w p b k lp e (walks c cs g op access r gpa i way is lost) h = nobody lp g h.guest i.guest
  gives_due o w p b k lp e (reaches c cs g op access r gpa page i way is found) h = nobody lp g h.guest i.guest
  gives_due o w p b k lp e (undoes c cs g l i st x) h = nobody lp g h.guest i.guest
  gives_due o w p b k lp e (gives_back c cs g x i st y) h = nobody lp g h.guest i.guest

  gives_own : (o : Opening) (p : ℕ) (base : List Reply) (c : Call) (cs : List Call) → drop (length base) (calls_of o.calls p) ≡ c ∷ cs → (s : State) (k : ℕ) → (s.lps p).replies ≡ base → IsLeft k (s.lps p)
      → Comes IsLeft IsFourth (suc k) base ((event o s p).lps p)
  gives_own o p base c cs line s k so_far h = subst (λ (rs : List Reply). Comes IsLeft IsFourth (suc k) rs ((event o s p).lps p)) so_far (by (next_event o s p) refl)
    where
      by : (x : Option Event) → next_event o s p ≡ x → Comes IsLeft IsFourth (suc k) (s.lps p).replies ((after_event p s x).lps p)
      by None is = absurd (some_event o s p c cs (ap (λ (rs : List Reply). drop (length rs) (calls_of o.calls p)) so_far ∙ line) is)
      by (Some e) is = subst (λ (x : Lp). Comes IsLeft IsFourth (suc k) (s.lps p).replies x) (sym (after_here p s e)) (gives_due o s.world p (is_granted s) k (s.lps p) e (due_event_is o s p e is) h)

-- where a guest is left its call holds three locks
record IsLeaving (o : Opening) (p : ℕ) (lp : Lp) : Type 0 where
  call_line : Call
  rest : List Call
  line : lines_left o p lp ≡ call_line ∷ rest
  three : length lp.call.held ≡ 3

leaving_at : (o : Opening) (w : World) (p : ℕ) (lp : Lp) → IsTimely o w p (calls_of o.calls p) lp → (c : Call) (cs : List Call) (g : Guest) → IsInside o p lp c cs g → IsLeaving o p lp
leaving_at o w p lp timely c cs g i =
    let at : InGuest o w p c lp g = subst (λ (y : Option Guest). LineAt o w p c lp y) i.guest (subst (λ (y : List Call). StandsAt o w p y lp) i.line timely) in
    record { call_line = c; rest = cs; line = i.line; three = ap length (freed_locks o p c cs w lp g i at) }

leaving_due : (o : Opening) (w : World) (p : ℕ) (lp : Lp) → IsTimely o w p (calls_of o.calls p) lp → (e : Event) → Due o w p lp e → (v : ℕ) (out : Outcome) → e ≡ Leaves v out → IsLeaving o p lp
leaving_due o w p lp timely e (calls c cs line g) v out same = cc
leaving_due o w p lp timely e (frees c cs g x hs line guest held epoch) v out same = cc
leaving_due o w p lp timely e (leaves c cs g x i l) v out same = leaving_at o w p lp timely c cs g i
leaving_due o w p lp timely e (stops c cs g i l t d) v out same = leaving_at o w p lp timely c cs g i
leaving_due o w p lp timely e (fills c cs g op i l t d m) v out same = leaving_at o w p lp timely c cs g i
leaving_due o w p lp timely e (operates c cs g op _ i way is) v out same = cc
leaving_due o w p lp timely e (walks c cs g op access r gpa i way is lost) v out same = cc
leaving_due o w p lp timely e (reaches c cs g op access r gpa page i way is found) v out same = cc
leaving_due o w p lp timely e (undoes c cs g l i st x) v out same = cc
leaving_due o w p lp timely e (gives_back c cs g x i st y) v out same = cc

leaves_in_four : (o : Opening) (s : State) (p : ℕ) (schedule : List ℕ) (vp : ℕ) (out : Outcome) (r : Reply) → IsTimely o s.world p (calls_of o.calls p) (s.lps p) → next_event o s p ≡ Some (Leaves vp out)
    → AnswersNext o s p (p ∷ schedule) r → (r ≡ Exited out) × (own_items p (p ∷ schedule) + 1 ≡ 4)
leaves_in_four o s p schedule vp out r timely is h =
    let e : Event = Leaves vp out in
    let x = leaving_due o s.world p (s.lps p) timely e (due_event_is o s p e is) vp out refl in
    let long = x.three in
    let made : (event o s p).lps p ≡ lp_after s.world (is_granted s e) e (s.lps p) = ap (λ (y : Option Event). (after_event p s y).lps p) is ∙ after_here p s e in
    let one : IsLeft out 1 (lp_after s.world (is_granted s e) e (s.lps p)) = record { guest = refl; phase = refl; many = omega (arith, long); some = omega (arith, long) } in
    let at : IsLeft out 1 ((event o s p).lps p) = subst (λ (y : Lp). IsLeft out 1 y) (sym made) one in
    let base : List Reply = (s.lps p).replies in
    let so_far : ((event o s p).lps p).replies ≡ base = ap (λ (y : Lp). y.replies) made in
    let four = answered_after o p base (IsLeft out) (IsFourth out) (gives_own out o p base x.call_line x.rest x.line) schedule (event o s p) 1 r so_far at h.none_yet h.last in
    let here = same_self p in
    let many : own_items p (p ∷ schedule) ≡ 1 + own_items p schedule = rw here refl in
    let k = four.1 in
    (four.0, omega (arith, k, many))

pub entries_have_their_events : EntriesHaveTheirEvents
entries_have_their_events = record {
  begins = λ o s p schedule tdr vp most g h waits. begins_next o s p schedule tdr vp most g h waits;
  ready = λ o s p schedule tdr vp most g h six. is_ready o s p schedule tdr vp most g h six;
  leaves = λ o s p schedule vp out r timely is h. leaves_in_four o s p schedule vp out r timely is h;
}
