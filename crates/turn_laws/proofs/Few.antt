-- How many locks processors hold that stand as they do in runs. (lock_words says so of runs of one opening.)
use Rattle.std.proofs.Common.{◌≡◌, ap, inl, inr, ℕ, zero, suc, ◌+◌, ◌*◌, ◌^◌, ◌<◌, ◌≤◌, List, [], ◌∷◌, length, length-append, arith}
use Rattle.std.specs.Prelude.{Option, Some, None}
use Rattle.td_words.specs.declared.calls.Call.{Call}
use Rattle.td_words.specs.declared.calls.Call.TheVariants as call
use Rattle.td_words.specs.declared.calls.GuestOp.{GuestOp}
use Rattle.td_words.specs.declared.replies.Outcome.{Outcome}
use Rattle.td_words.specs.declared.replies.Reply.{Reply}
use Rattle.flat_core.specs.World.{World}
use Rattle.flat_core.specs.Processor.{LockId, Phase, Trying, Undoing, Answered, Progress, Guest, Lp}
use Rattle.flat_core.specs.Locks.{sharers, refusals}
use Rattle.flat_core.specs.Opening.{Opening}
use Rattle.flat_core.specs.Table.{most_tries}
use Rattle.flat_core.specs.Guest.{Operation, ByRow, Private, operation_of}
use Rattle.flat_core.specs.Inside.{AreTimely, OperationAt, DueAt, PhaseAt, GuestAt, LineAt, StandsAt, IsTimely}
use Rattle.flat_core.specs.Event.{State, lines_left, calls_of, operation_due}
use Rattle.lock_words.specs.Grips.{operation_locks, locks_of}
use Rattle.lock_words.specs.LockWords.{LockWordsFollow, locks_held}

-- more locks than any call, and the guest that it enters, try
abbrev most_locks : ℕ
most_locks = 64

few-tries : (c : Call) → most_tries c ≤ 32
few-tries (call.HostRead page i) = omega arith
few-tries _ = omega arith

-- a guest's operation holds at most two
operation-few : (o : Opening) (w : World) (lp : Lp) (g : Guest) (leaving : Option Outcome) → GuestAt o w lp g leaving → length g.operation.held ≤ 2
operation-few o w lp g (Some out) e = (let none : length g.operation.held ≡ 0 = ap (λ (x : Progress (Option Outcome)). length x.held) e in omega (arith, none))
operation-few o w lp g None h = by g.operation.phase h
  where
    kind-few : (x : Operation) → OperationAt g x → length g.operation.held ≤ 2
    kind-few (ByRow row) h = h.0
    kind-few (Private access r gpa) h = (let none : length g.operation.held ≡ 0 = ap length h.0 in omega (arith, none))

    due-few : (x : Option GuestOp) → DueAt o lp g x → length g.operation.held ≤ 2
    due-few None h = (let none : length g.operation.held ≡ 0 = ap length h in omega (arith, none))
    due-few (Some op) h = kind-few (operation_of o g.tdr g.vp (length lp.replies + 1) op) h

    by : (phase : Phase (Option Outcome)) → PhaseAt o w lp g phase → length g.operation.held ≤ 2
    by Trying h = due-few (operation_due o w g) h
    by (Undoing l) h = (let one = h.0 in omega (arith, one))
    by (Answered out) h = h.1

locks-few : (o : Opening) (w : World) (p : ℕ) (lp : Lp) → IsTimely o w p (calls_of o.calls p) lp → length (locks_of lp) ≤ most_locks
locks-few o w p lp timely = by-lines (lines_left o p lp) timely
  where
    by-guest : (c : Call) (g : Option Guest) → LineAt o w p c lp g → length (lp.call.held) + length (operation_locks g) ≤ most_locks
    by-guest c None h = (let few = h.0 in let tries = few-tries c in omega (arith, few, tries))
    by-guest c (Some g) h =
        let own = operation-few o w lp g g.leaving h.operation in
        elim h.locks [
          | inl e ↦ (let n : length lp.call.held ≡ 3 = ap length e in omega (arith, n, own))
          | inr e ↦ (let n : length lp.call.held ≡ 4 = ap length e.0 in omega (arith, n, own))
        ]

    by-lines : (cs : List Call) → StandsAt o w p cs lp → length (locks_of lp) ≤ most_locks
    by-lines [] h =
        let a = length-append lp.call.held (operation_locks lp.guest) in
        let b : length (operation_locks lp.guest) ≡ 0 = ap (λ (x : Option Guest). length (operation_locks x)) h.0 in
        let c : length lp.call.held ≡ 0 = ap (λ (x : Progress Reply). length x.held) h.1 in omega (arith, a, b, c)
    by-lines (c ∷ cs) h = (let a = length-append lp.call.held (operation_locks lp.guest) in let b = by-guest c lp.guest h in omega (arith, a, b))

sum-few : (lps : ℕ → Lp) (n : ℕ) → ((q : ℕ) → length (locks_of (lps q)) ≤ most_locks) → locks_held lps n ≤ (most_locks + 2) * n
sum-few lps zero f = omega arith
sum-few lps (suc n) f = let k = sum-few lps n f in let a = f n in omega (arith, k, a)

small : (x n : ℕ) → n ≤ 8 → x ≤ (most_locks + 2) * n → x + 1 < 2 ^ 63
small x n h k = omega (arith, h, k)

pub low-bits : LockWordsFollow → (o : Opening) (s : State) → AreTimely o s → length o.calls ≤ 8 → (l : LockId) → sharers s.lps s.lp_count l + refusals s.lps s.lp_count l + 1 < 2 ^ 63
low-bits follow o s f most l =
    let a = follow.few s l in
    let b = sum-few s.lps s.lp_count (λ q. locks-few o s.world q (s.lps q) (f.each q)) in
    let c = f.count in
    small (sharers s.lps s.lp_count l + refusals s.lps s.lp_count l) s.lp_count (omega (arith, most, c)) (omega (arith, a, b))
