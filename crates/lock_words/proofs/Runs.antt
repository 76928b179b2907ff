-- In every state that a run reaches each processor holds few locks, and its next event is one that lock words follow.
use Rattle.std.proofs.Common.{◌≡◌, refl, sym, ap, subst, inl, inr, ℕ, zero, suc, ◌+◌, ◌*◌, ◌^◌, ◌<◌, ◌≤◌, true, List, [], ◌∷◌, length, length-append, arith}
use Rattle.std.specs.Prelude.{Option, Some, None, nat_le}
use Rattle.std.proofs.lemmas.Bool.{leb-true}
use Rattle.td_words.specs.declared.calls.Call.{Call}
use Rattle.td_words.specs.declared.calls.Call.TheVariants as call
use Rattle.td_words.specs.declared.calls.GuestOp.{GuestOp}
use Rattle.td_words.specs.declared.replies.Outcome.{Outcome}
use Rattle.td_words.specs.declared.replies.Outcome.TheVariants.{Stop, Max}
use Rattle.td_words.specs.declared.replies.Reply.{Reply}
use Rattle.flat_core.specs.World.{World}
use Rattle.flat_core.specs.Processor.{LockId, Held, Phase, Trying, Undoing, Answered, Progress, nothing_yet, Guest, Lp}
use Rattle.flat_core.specs.Locks.{sharers, refusals}
use Rattle.flat_core.specs.Opening.{Opening}
use Rattle.flat_core.specs.Table.{most_tries}
use Rattle.flat_core.specs.Guest.{Operation, ByRow, Private, operation_of}
use Rattle.flat_core.specs.Inside.{OperationAt, DueAt, PhaseAt, GuestAt, InGuest, LineAt, StandsAt, IsTimely}
use Rattle.flat_core.specs.Event.{State, Event, Leaves, start, lines_left, calls_of, operation_due}
use Rattle.flat_core.specs.Run.{play}
use Rattle.flat_core.proofs.Induction.{counts_stay}
use Rattle.flat_core.proofs.Due.{Due, IsInside, calls, frees, leaves, stops, fills, operates, walks, reaches, undoes, gives_back, due_event_is}
use Rattle.flat_core.proofs.Ends.{below_calls, always_timely}
use Rattle.lock_words.specs.Grips.{operation_locks, locks_of}
use Rattle.lock_words.specs.LockWords.{LetsGo, has_let_go, locks_held, RunsFollow}
use Rattle.lock_words.proofs.Follow.{lock-words-follow}

-- more locks than any call, and the guest that it enters, try
abbrev most_locks : ℕ
most_locks = 64

few-tries : (c : Call) → most_tries c ≤ 32
few-tries (call.HostRead page i) = omega arith
few-tries _ = omega arith

-- a guest's operation holds at most two
operation-few : (o : Opening) (w : World) (lp : Lp) (g : Guest) (leaving : Option Outcome) → GuestAt o w lp g leaving → length g.operation.held ≤ 2
operation-few o w lp g (Some out) e = (let none : length g.operation.held ≡ 0 = ap (λ (x : Progress (Option Outcome)). length x.held) e in omega (arith, none))
operation-few o w lp g None h = by g.operation.phase h
  where
    kind-few : (x : Operation) → OperationAt g x → length g.operation.held ≤ 2
    kind-few (ByRow row) h = h.0
    kind-few (Private access r gpa) h = (let none : length g.operation.held ≡ 0 = ap length h.0 in omega (arith, none))

    due-few : (x : Option GuestOp) → DueAt o lp g x → length g.operation.held ≤ 2
    due-few None h = (let none : length g.operation.held ≡ 0 = ap length h in omega (arith, none))
    due-few (Some op) h = kind-few (operation_of o g.tdr g.vp (length lp.replies + 1) op) h

    by : (phase : Phase (Option Outcome)) → PhaseAt o w lp g phase → length g.operation.held ≤ 2
    by Trying h = due-few (operation_due o w g) h
    by (Undoing l) h = (let one = h.0 in omega (arith, one))
    by (Answered out) h = h.1

locks-few : (o : Opening) (w : World) (p : ℕ) (lp : Lp) → IsTimely o w p (calls_of o.calls p) lp → length (locks_of lp) ≤ most_locks
locks-few o w p lp timely = by-lines (lines_left o p lp) timely
  where
    by-guest : (c : Call) (g : Option Guest) → LineAt o w p c lp g → length (lp.call.held) + length (operation_locks g) ≤ most_locks
    by-guest c None h = (let few = h.0 in let tries = few-tries c in omega (arith, few, tries))
    by-guest c (Some g) h =
        let own = operation-few o w lp g g.leaving h.operation in
        elim h.locks [
          | inl e ↦ (let n : length lp.call.held ≡ 3 = ap length e in omega (arith, n, own))
          | inr e ↦ (let n : length lp.call.held ≡ 4 = ap length e.0 in omega (arith, n, own))
        ]

    by-lines : (cs : List Call) → StandsAt o w p cs lp → length (locks_of lp) ≤ most_locks
    by-lines [] h =
        let a = length-append lp.call.held (operation_locks lp.guest) in
        let b : length (operation_locks lp.guest) ≡ 0 = ap (λ (x : Option Guest). length (operation_locks x)) h.0 in
        let c : length lp.call.held ≡ 0 = ap (λ (x : Progress Reply). length x.held) h.1 in omega (arith, a, b, c)
    by-lines (c ∷ cs) h = (let a = length-append lp.call.held (operation_locks lp.guest) in let b = by-guest c lp.guest h in omega (arith, a, b))

sum-few : (lps : ℕ → Lp) (n : ℕ) → ((q : ℕ) → length (locks_of (lps q)) ≤ most_locks) → locks_held lps n ≤ (most_locks + 2) * n
sum-few lps zero f = omega arith
sum-few lps (suc n) f = let k = sum-few lps n f in let a = f n in omega (arith, k, a)

small : (x n : ℕ) → n ≤ 8 → x ≤ (most_locks + 2) * n → x + 1 < 2 ^ 63
small x n h k = omega (arith, h, k)

low-bits : (o : Opening) (ws : Option (List ℕ)) (ps : List ℕ) (l : LockId) → length o.calls ≤ 8 → let s = play o ps (start o ws) in sharers s.lps s.lp_count l + refusals s.lps s.lp_count l + 1 < 2 ^ 63
low-bits o ws ps l most =
    let s : State = play o ps (start o ws) in
    let f = always_timely o ws ps in
    let a = lock-words-follow.few s l in
    let b = sum-few s.lps s.lp_count (λ q. locks-few o s.world q (s.lps q) (f.each q)) in
    let c : s.lp_count ≡ length o.calls = counts_stay o ps (start o ws) in
    small (sharers s.lps s.lp_count l + refusals s.lps s.lp_count l) s.lp_count (omega (arith, most, c)) (omega (arith, a, b))

fewer : (x : ℕ) → x + 1 < 2 ^ 63 → x < 2 ^ 63
fewer x h = omega (arith, h)

-- a guest is left where it holds nothing of its own
module _ (o : Opening) (s : State) (p : ℕ) (timely : IsTimely o s.world p (calls_of o.calls p) (s.lps p)) where
  abbrev lp : Lp
  lp = s.lps p

  pub in-guest : (c : Call) (cs : List Call) (g : Guest) → IsInside o p lp c cs g → InGuest o s.world p c lp g
  in-guest c cs g i = subst (λ (x : Option Guest). LineAt o s.world p c lp x) i.guest (subst (λ (x : List Call). StandsAt o s.world p x lp) i.line timely)

  let-go : (c : Call) (cs : List Call) (g : Guest) (out : Outcome) (i : IsInside o p lp c cs g) → g.operation ≡ nothing_yet → LetsGo lp (Leaves g.vp out)
  let-go c cs g out i e = ((in-guest c cs g i).trying, subst (λ (x : Option Guest). has_let_go x) (sym i.guest) e)

  nothing-held : (g : Guest) → g.operation.phase ≡ Trying → g.operation.held ≡ [] → g.operation ≡ nothing_yet
  nothing-held g t h = λ j. record { phase = t j; held = h j }

  at-trying : (c : Call) (cs : List Call) (g : Guest) (i : IsInside o p lp c cs g) → g.leaving ≡ None → g.operation.phase ≡ Trying → DueAt o lp g (operation_due o s.world g)
  at-trying c cs g i l t = subst (λ (x : Phase (Option Outcome)). PhaseAt o s.world lp g x) t (subst (λ (x : Option Outcome). GuestAt o s.world lp g x) l (in-guest c cs g i).operation)

  none-full : (g : Guest) (x : Operation) → OperationAt g x → nat_le g.most g.completed ≡ true → g.operation.held ≡ []
  none-full g (Private access r gpa) h m = h.0
  none-full g (ByRow row) h m = by g.operation.held h.1
    where
      by : (hs : List Held) → (1 ≤ length hs → g.completed < g.most) → hs ≡ []
      by [] k = refl
      by (y ∷ ys) k = absurd (let a = leb-true g.most g.completed m in let b = k (omega arith) in omega (arith, a, b))

  pub lets-go : (e : Event) → Due o s.world p lp e → LetsGo lp e
  lets-go e (calls c cs line g) = tt
  lets-go e (frees c cs g h hs line guest held epoch) = tt
  lets-go e (leaves c cs g out i l) = let-go c cs g out i (subst (λ (x : Option Outcome). GuestAt o s.world lp g x) l (in-guest c cs g i).operation)
  lets-go e (stops c cs g i l t d) = let-go c cs g Stop i (nothing-held g t (subst (λ (x : Option GuestOp). DueAt o lp g x) d (at-trying c cs g i l t)))
  lets-go e (fills c cs g op i l t d m) =
      let-go c cs g Max i (nothing-held g t (none-full g (operation_of o g.tdr g.vp (length lp.replies + 1) op) (subst (λ (x : Option GuestOp). DueAt o lp g x) d (at-trying c cs g i l t)) m))
  lets-go e (operates c cs g op row i way is) = tt
  lets-go e (walks c cs g op access r gpa i way is lost) = tt
  lets-go e (reaches c cs g op access r gpa page i way is found) = tt
  lets-go e (undoes c cs g l i st h) = tt
  lets-go e (gives_back c cs g out i st h) = tt

-- a processor with an event is one of the machine
module _ (o : Opening) (w : World) (p : ℕ) (lp : Lp) where
  of-line : (c : Call) (cs : List Call) → lines_left o p lp ≡ c ∷ cs → p < length o.calls
  of-line c cs line = below_calls o.calls p (length lp.replies) c cs line

  pub has-line : (e : Event) → Due o w p lp e → p < length o.calls
  has-line e (calls c cs line g) = of-line c cs line
  has-line e (frees c cs g h hs line guest held epoch) = of-line c cs line
  has-line e (leaves c cs g out i l) = of-line c cs i.line
  has-line e (stops c cs g i l t d) = of-line c cs i.line
  has-line e (fills c cs g op i l t d m) = of-line c cs i.line
  has-line e (operates c cs g op row i way is) = of-line c cs i.line
  has-line e (walks c cs g op access r gpa i way is lost) = of-line c cs i.line
  has-line e (reaches c cs g op access r gpa page i way is found) = of-line c cs i.line
  has-line e (undoes c cs g l i st h) = of-line c cs i.line
  has-line e (gives_back c cs g out i st h) = of-line c cs i.line

pub runs-follow : RunsFollow
runs-follow = record {
  few = low-bits;
  told = λ o ws ps l most. lock-words-follow.shared (play o ps (start o ws)) l (fewer (sharers (play o ps (start o ws)).lps (play o ps (start o ws)).lp_count l + refusals (play o ps (start o ws)).lps (play o ps (start o ws)).lp_count l) (low-bits o ws ps l most));
  next = λ o ws ps p e h.
      let s : State = play o ps (start o ws) in
      let f = (always_timely o ws ps).each p in
      let d = due_event_is o s p e h in
      let c : s.lp_count ≡ length o.calls = counts_stay o ps (start o ws) in
      let b = has-line o s.world p (s.lps p) e d in
      record { processor = omega (arith, b, c); next = h; lets_go = lets-go o s p f e d };
}
