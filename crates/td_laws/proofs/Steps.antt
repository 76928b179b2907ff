-- What is so of a state of TDs by its table of calls, whatever state it is.
use Rattle.std.proofs.Common.{◌≡◌, refl, sym, subst, ℕ, ◌+◌, List, [], ◌∷◌, length, Option, Some, None, Bool, true, false, ◌==◌}
use Rattle.std.specs.List.{list_all}
use Rattle.std.proofs.lemmas.Bool.{eqb-true, and_parts}
use Rattle.td_words.specs.declared.names.Access.{Access}
use Rattle.td_words.specs.declared.names.Access.TheVariants.{Read, Write}
use Rattle.td_words.specs.declared.calls.Call.{Call}
use Rattle.td_words.specs.declared.calls.GuestOp.{GuestOp}
use Rattle.td_words.specs.declared.replies.Outcome.{Outcome}
use Rattle.td_words.specs.declared.replies.Reply.{Reply}
use Rattle.td_words.specs.Packing.{Entry}
use Rattle.flat_core.specs.World.{World, Tds, put}
use Rattle.flat_core.specs.Processor.{Answered, Held, Lp}
use Rattle.flat_core.specs.Opening.{Opening}
use Rattle.flat_core.specs.Row.{OperationRow, Passes, Move, Attempts, Undoes, Refuses, Succeeds, Releases, Rests, next, next_in}
use Rattle.flat_core.specs.Conditions.{is_host_in}
use Rattle.flat_core.specs.Effects.{tell_words, leave_guest}
use Rattle.flat_core.specs.Table.{row_of}
use Rattle.flat_core.specs.Guest.{ByRow, operation_of, is_pending_at, reach}
use Rattle.flat_core.specs.Event.{State, Event, OfCall, OfOperation, lines_left, next_event, nothing_more, world_after, after_event, event}
use Rattle.flat_core.proofs.Tests.{by_test, same_self}
use Rattle.flat_core.proofs.Acts.{event_world}
use Rattle.flat_core.proofs.Operations.{operation_row, accepted}
use Rattle.flat_core.proofs.Due.{Due, calls, frees, leaves, stops, fills, operates, walks, reaches, undoes, gives_back, due_event_is}
use Rattle.td_laws.specs.Steps.{Step, is_among, led_to, values_after, by_acts, ComesIn, EventsLead, may_move, EventsMove}

-- What acts of calls alone change.
module _ {A : Type 0} (after : Call → World → A) (now : World → A) (o : Opening) (w : World) (p : ℕ) (lp : Lp)
    (rows : (c : Call) → now ((row_of o p c).act w) ≡ after c w)
    (operations : (u v line : ℕ) (op : GuestOp) (row : OperationRow) → operation_of o u v line op ≡ ByRow row → now (tell_words (row.tells w) (row.act w)) ≡ now w)
    (accesses : (u v : ℕ) (access : Access) (r gpa page : ℕ) → now (reach u v access r gpa page w) ≡ now w)
    (exits : (v : ℕ) → now (leave_guest v w) ≡ now w) where
  abbrev Leads : List Call → Event → Type 0
  Leads cs e = now (world_after e w) ≡ by_acts after now cs (Some e) w

  call_led : (c : Call) (cs : List Call) (move : Move Reply) → Leads (c ∷ cs) (OfCall (row_of o p c) move)
  call_led c cs (Attempts l m) = refl
  call_led c cs (Undoes l) = refl
  call_led c cs (Refuses r) = refl
  call_led c cs Succeeds = rows c
  call_led c cs (Releases x) = refl
  call_led c cs Rests = refl

  operation_led : (u v line : ℕ) (op : GuestOp) (c : Call) (cs : List Call) (row : OperationRow) (move : Move (Option Outcome)) → operation_of o u v line op ≡ ByRow row → Leads (c ∷ cs) (OfOperation row move)
  operation_led u v line op c cs row (Attempts l m) e = refl
  operation_led u v line op c cs row (Undoes l) e = refl
  operation_led u v line op c cs row (Refuses r) e = refl
  operation_led u v line op c cs row Succeeds e = operations u v line op row e
  operation_led u v line op c cs row (Releases x) e = refl
  operation_led u v line op c cs row Rests e = refl

  ending_led : (c : Call) (cs : List Call) (out : Option Outcome) (hs : List Held) → Leads (c ∷ cs) (OfOperation nothing_more (next_in [] (Answered out) hs))
  ending_led c cs out [] = refl
  ending_led c cs out (h ∷ hs) = refl

  due_led : (e : Event) → Due o w p lp e → Leads (lines_left o p lp) e
  due_led e (calls c cs line g) = rw line (call_led c cs (next_in ((row_of o p c).items w) lp.call.phase lp.call.held))
  due_led e (frees c cs g h hs line guest held epoch) = rw line refl
  due_led e (leaves c cs g out i l) = rw (i.line) (exits g.vp)
  due_led e (stops c cs g i l t d) = rw (i.line) (exits g.vp)
  due_led e (fills c cs g op i l t d m) = rw (i.line) (exits g.vp)
  due_led e (operates c cs g op row i way is) = rw (i.line) (operation_led g.tdr g.vp (length lp.replies + 1) op c cs row (next (row.items w) (length g.operation.held)) is)
  due_led e (walks c cs g op access r gpa i way is lost) = rw (i.line) refl
  due_led e (reaches c cs g op access r gpa page i way is found) = rw (i.line) (accesses g.tdr g.vp access r gpa page)
  due_led e (undoes c cs g l i s h) = rw (i.line) refl
  due_led e (gives_back c cs g out i s h) = rw (i.line) (ending_led c cs out g.operation.held)

  none_led : (cs : List Call) → now w ≡ by_acts after now cs None w
  none_led [] = refl
  none_led (c ∷ cs) = refl

pub acts_lead : {A : Type 0} (after : Call → World → A) (now : World → A) (o : Opening) (s : State) (p : ℕ) → ((c : Call) → now ((row_of o p c).act s.world) ≡ after c s.world)
    → ((u v line : ℕ) (op : GuestOp) (row : OperationRow) → operation_of o u v line op ≡ ByRow row → now (tell_words (row.tells s.world) (row.act s.world)) ≡ now s.world)
    → ((u v : ℕ) (access : Access) (r gpa page : ℕ) → now (reach u v access r gpa page s.world) ≡ now s.world) → ((v : ℕ) → now (leave_guest v s.world) ≡ now s.world)
    → now (event o s p).world ≡ by_acts after now (lines_left o p (s.lps p)) (next_event o s p) s.world
acts_lead {A} after now o s p rows operations accesses exits = by (next_event o s p) refl
  where
    by : (x : Option Event) → next_event o s p ≡ x → now (after_event p s x).world ≡ by_acts after now (lines_left o p (s.lps p)) x s.world
    by None e = none_led after now o s.world p (s.lps p) rows operations accesses exits (lines_left o p (s.lps p))
    by (Some x) e = due_led after now o s.world p (s.lps p) rows operations accesses exits x (due_event_is o s p x e)

-- Operations and accesses leave a value of TDs that doesn't go by their entries.
module _ {A : Type 0} (values : Tds → ℕ → A) (same : (tds : Tds) (entries : ℕ → ℕ → ℕ → Entry) (t : ℕ) → values (record tds { entries = entries }) t ≡ values tds t) (o : Opening) (w : World) (t : ℕ) where
  act_leaves : (u v line : ℕ) (op : GuestOp) (row : OperationRow) → operation_of o u v line op ≡ ByRow row → values (tell_words (row.tells w) (row.act w)).tds t ≡ values w.tds t
  act_leaves u v line op row e = operation_row o u v line (λ x. values (x.act w).tds t ≡ values w.tds t)
      (λ r x. refl)
      (λ r s. refl)
      (λ r gpa. refl)
      (λ r gpa. refl)
      (λ gpa. accepted (λ (x : World). values x.tds t ≡ values w.tds t) (is_pending_at w u gpa) u gpa w (λ y. same w.tds _ t) (λ y. refl))
      (λ i. refl)
      refl
      (λ r. refl) op row e

  reach_leaves : (u v : ℕ) (access : Access) (r gpa page : ℕ) → values (reach u v access r gpa page w).tds t ≡ values w.tds t
  reach_leaves u v Read r gpa page = refl
  reach_leaves u v Write r gpa page = refl

module _ {A : Type 0} (values : Tds → ℕ → A) (same : (tds : Tds) (entries : ℕ → ℕ → ℕ → Entry) (t : ℕ) → values (record tds { entries = entries }) t ≡ values tds t) (table : Opening → Call → Option (Step A))
    (rows : (o : Opening) (me : ℕ) (w : World) (t : ℕ) (c : Call) → values ((row_of o me c).act w).tds t ≡ values_after (table o c) (values w.tds) t) where
  pub events_lead : EventsLead values table
  events_lead o s p t =
      acts_lead (λ c w. values_after (table o c) (values w.tds) t) (λ w. values w.tds t) o s p (rows o p s.world t) (act_leaves values same o s.world t) (reach_leaves values same o s.world t) (λ v. refl)

-- a line of a table goes along the state machine
module _ {A : Type 0} (number : A → ℕ) (next : A → List A) where
  abbrev pub fits_to : List A → Option A → Bool
  fits_to from None = true
  fits_to from (Some s) = list_all (λ a. may_move number next a s) from

  abbrev pub is_fit : Option (Step A) → Bool
  is_fit None = true
  is_fit (Some step) = fits_to step.from step.to

-- so what it leads to is next
module _ {A : Type 0} (number : A → ℕ) (known : (a b : A) → number a ≡ number b → a ≡ b) (next : A → List A) where
  pub may_stay : (s : A) → may_move number next s s ≡ true
  may_stay s = rw (same_self (number s)) refl

  -- what is so of each of these is so of one among them
  pub all_at : (f : A → Bool) (s : A) (allowed : List A) → is_among number s allowed ≡ true → list_all f allowed ≡ true → f s ≡ true
  all_at f s [] e h = cc
  all_at f s (a ∷ allowed) e h = by_test (number a == number s)
      (λ y. subst (λ (x : A). f x ≡ true) (known a s (eqb-true (number a) (number s) y)) (and_parts (f a) (list_all f allowed) h).0)
      (λ y. all_at f s allowed (rw y at e) (and_parts (f a) (list_all f allowed) h).1)

  module _ (values : ℕ → A) (t : ℕ) where
    put_there : (tdr : ℕ) (s : A) → (t == tdr) ≡ true → put values tdr s t ≡ s
    put_there tdr s y = rw y refl

    pub put_elsewhere : (tdr : ℕ) (s : A) → (t == tdr) ≡ false → may_move number next (values t) (put values tdr s t) ≡ true
    put_elsewhere tdr s n = let stays : put values tdr s t ≡ values t = rw n refl in subst (λ (x : A). may_move number next (values t) x ≡ true) (sym stays) (may_stay (values t))

    moves_to : (tdr : ℕ) (from : List A) (to : Option A) → fits_to number next from to ≡ true → is_among number (values tdr) from ≡ true → may_move number next (values t) (led_to tdr to values t) ≡ true
    moves_to tdr from None fit among = may_stay (values t)
    moves_to tdr from (Some s) fit among = by_test (t == tdr)
        (λ y. subst (λ (x : A). may_move number next (values t) x ≡ true) (sym (put_there tdr s y))
        (subst (λ (z : ℕ). may_move number next (values z) s ≡ true) (sym (eqb-true t tdr y)) (all_at (λ a. may_move number next a s) (values tdr) from among fit)))
        (put_elsewhere tdr s)

    pub moves : (x : Option (Step A)) → is_fit number next x ≡ true → ComesIn number values x → may_move number next (values t) (values_after x values t) ≡ true
    moves None fit come = may_stay (values t)
    moves (Some step) fit come = moves_to step.tdr step.from step.to fit come

  module _ (values : Tds → ℕ → A) (same : (tds : Tds) (entries : ℕ → ℕ → ℕ → Entry) (t : ℕ) → values (record tds { entries = entries }) t ≡ values tds t) (table : Opening → Call → Option (Step A))
      (rows : (o : Opening) (me : ℕ) (w : World) (t : ℕ) (c : Call) → values ((row_of o me c).act w).tds t ≡ values_after (table o c) (values w.tds) t)
      (fits : (o : Opening) (me : ℕ) (w : World) (t : ℕ) → is_host_in w.pages t ≡ false → (c : Call) → Passes ((row_of o me c).items w) → may_move number next (values w.tds t) (values_after (table o c) (values w.tds) t) ≡ true) where
    pub events_move : EventsMove number values next
    events_move o s p t owned =
        let old : A = values s.world.tds t in
        let moved : A → Type 0 = λ x. may_move number next old x ≡ true in
        event_world o s p (λ u. moved (values u.tds t)) (may_stay old)
        (λ c cs line none ps. subst moved (sym (rows o p s.world t c)) (fits o p s.world t owned c ps))
        (λ c cs g op row i is ps. subst moved (sym (act_leaves values same o s.world t g.tdr g.vp (length (s.lps p).replies + 1) op row is)) (may_stay old))
        (λ c cs g op access r gpa page i is found. subst moved (sym (reach_leaves values same o s.world t g.tdr g.vp access r gpa page)) (may_stay old))
        (λ c cs g i. may_stay old)
