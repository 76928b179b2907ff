-- Each lock's word follows each event.
use Rattle.std.proofs.Common.{◌≡◌, refl, sym, subst, ℕ, zero, suc, ◌+◌, ◌*◌, ◌^◌, ◌<◌, ◌≤◌, Bool, true, false, ◌==◌, ◌&&◌, not, nat_lt, List, [], ◌∷◌, ◌++◌, length, length-append, arith}
use Rattle.std.specs.Prelude.{Option, Some, None, nat_le}
use Rattle.std.proofs.lemmas.Bool.Decides.{nat_tests}
use Rattle.td_words.specs.declared.names.LockName.{LockName}
use Rattle.td_words.specs.declared.names.Mode.{Mode}
use Rattle.td_words.specs.declared.names.Mode.TheVariants.{Shared, Exclusive}
use Rattle.td_words.specs.declared.names.Access.{Access}
use Rattle.td_words.specs.declared.calls.Call.{Call}
use Rattle.td_words.specs.declared.calls.GuestOp.{GuestOp}
use Rattle.td_words.specs.declared.replies.Outcome.{Outcome}
use Rattle.td_words.specs.declared.replies.Outcome.TheVariants.{Stop, Max}
use Rattle.td_words.specs.declared.replies.Reply.{Reply}
use Rattle.td_words.specs.declared.replies.Reply.TheVariants.{Done}
use Rattle.flat_core.specs.World.{World, put}
use Rattle.flat_core.specs.Processor.{LockId, Held, Phase, Trying, Undoing, Answered, Progress, Guest, Entering, Lp}
use Rattle.flat_core.specs.Locks.{same_lock, is_alone, one_if, alone_in, shared_in, refused_in, alone_of, shared_of, refused_of, guest_alone, guest_shared, guest_refused, holders, sharers, refusals, grants}
use Rattle.flat_core.specs.Opening.{Opening}
use Rattle.flat_core.specs.Row.{Item, Check, Try, Row, OperationRow, Move, Attempts, Undoes, Refuses, Succeeds, Releases, Rests, next, next_in, after_move}
use Rattle.flat_core.specs.Guest.{Operation, ByRow, Private, operation_of, walk_step, walked_on, goes_on, walk_level, walked_entry, answered}
use Rattle.td_words.specs.Packing.{Entry}
use Rattle.flat_core.specs.Table.{row_of}
use Rattle.flat_core.specs.Event.{State, Event, OfCall, OfOperation, Walks, Reaches, Leaves, event_for, line_event, entered_event, epoch_event, is_epoch_lock, guest_event, staying_event, due_event, max_event, operation_event, private_event, operation_due, nothing_more, lines_left, lp_after, call_lp, succeeded, settle, settled, settle_operation, settled_guest, call_busy, operation_busy, is_granted, event}
use Rattle.word_rules.specs.Cells.{lock_word}
use Rattle.lock_words.specs.LockWords.{weight_at, move_adds, move_takes_off, adds, takes_off, LetsGo, has_let_go, locks_held, IsNext, LockWordsFollow}
use Rattle.lock_words.specs.Grips.{operation_locks, locks_of}
use Rattle.flat_core.proofs.Tests.{by_test}
use Rattle.lock_words.proofs.Sums.{sum-put}

-- what a call's or an operation's progress adds to a lock's word
abbrev part_in : {R : Type 0} → LockId → Progress R → ℕ
part_in l p = 2 ^ 63 * alone_in l p.held + (shared_in l p.held + refused_in l p.phase)

one-held : (k l : LockId) (m : Mode) → 2 ^ 63 * one_if (is_alone m && same_lock k l) + one_if (not (is_alone m) && same_lock k l) ≡ weight_at k l m
one-held k l Shared = by_test (same_lock k l) (λ e. rw e refl) (λ e. rw e refl)
one-held k l Exclusive = by_test (same_lock k l) (λ e. rw e refl) (λ e. rw e refl)

one-refused : (k l : LockId) → one_if (same_lock k l) ≡ weight_at k l Shared
one-refused k l = by_test (same_lock k l) (λ e. rw e refl) (λ e. rw e refl)

abbrev Follows : {R : Type 0} → (LockName → R) → Bool → R → LockId → Move R → Progress R → Type 0
Follows busy granted done l move p = part_in l (after_move busy granted done move p) + move_takes_off move l ≡ part_in l p + move_adds move granted l

-- a move of a call or an operation that is on its way
attempted : {R : Type 0} (busy : LockName → R) (granted : Bool) (done : R) (l k : LockId) (m : Mode) (hs : List Held) → Follows busy granted done l (Attempts k m) (record { phase = Trying; held = hs })
attempted busy true done l k m hs = let e = one-held k l m in omega (arith, e)
attempted busy false done l k Shared hs = let e = one-refused k l in omega (arith, e)
attempted busy false done l k Exclusive hs = refl

on-its-way : {R : Type 0} (busy : LockName → R) (granted : Bool) (done : R) (l : LockId) (items : List (Item R)) (n : ℕ) (hs : List Held) → Follows busy granted done l (next items n) (record { phase = Trying; held = hs })
on-its-way busy granted done l [] n hs = refl
on-its-way busy granted done l (Check true r ∷ items) n hs = on-its-way busy granted done l items n hs
on-its-way busy granted done l (Check false r ∷ items) n hs = refl
on-its-way busy granted done l (Try k m ∷ items) zero hs = attempted busy granted done l k m hs
on-its-way busy granted done l (Try k m ∷ items) (suc n) hs = on-its-way busy granted done l items n hs

released : {R : Type 0} (busy : LockName → R) (granted : Bool) (done : R) (l : LockId) (h : Held) (hs : List Held) (phase : Phase R) → Follows busy granted done l (Releases h) (record { phase = phase; held = h ∷ hs })
released busy granted done l h hs phase = let e = one-held h.lock l h.mode in omega (arith, e)

moved : {R : Type 0} (busy : LockName → R) (granted : Bool) (done : R) (l : LockId) (items : List (Item R)) (phase : Phase R) (hs : List Held) → Follows busy granted done l (next_in items phase hs) (record { phase = phase; held = hs })
moved busy granted done l items Trying hs = on-its-way busy granted done l items (length hs) hs
moved busy granted done l items (Undoing k) hs = let e = one-refused k l in omega (arith, e)
moved busy granted done l items (Answered r) [] = refl
moved busy granted done l items (Answered r) (h ∷ hs) = released busy granted done l h hs (Answered r)

-- a processor
abbrev guest_part : LockId → Option Guest → ℕ
guest_part l None = 0
guest_part l (Some g) = part_in l g.operation

abbrev lp_part : LockId → Lp → ℕ
lp_part l lp = part_in l lp.call + guest_part l lp.guest

lp-counts : (l : LockId) (lp : Lp) → 2 ^ 63 * alone_of l lp + (shared_of l lp + refused_of l lp) ≡ lp_part l lp
lp-counts l lp = by lp.guest
  where
    by : (g : Option Guest) → 2 ^ 63 * (alone_in l lp.call.held + guest_alone l g) + ((shared_in l lp.call.held + guest_shared l g) + (refused_in l lp.call.phase + guest_refused l g)) ≡ part_in l lp.call + guest_part l g
    by None = omega arith
    by (Some g) = omega arith

settle-part : (l : LockId) (phase : Phase Reply) (hs : List Held) (lp : Lp) → lp.call.phase ≡ phase → lp.call.held ≡ hs → lp_part l (settle phase hs lp) ≡ lp_part l lp
settle-part l (Answered r) [] lp e f = rw (e, f) refl
settle-part l (Answered r) (h ∷ hs) lp e f = refl
settle-part l Trying hs lp e f = refl
settle-part l (Undoing k) hs lp e f = refl

settle-guest-part : (l : LockId) (phase : Phase (Option Outcome)) (hs : List Held) (g : Guest) → g.operation.phase ≡ phase → g.operation.held ≡ hs → part_in l (settle_operation phase hs g).operation ≡ part_in l g.operation
settle-guest-part l (Answered None) [] g e f = rw (e, f) refl
settle-guest-part l (Answered (Some out)) [] g e f = rw (e, f) refl
settle-guest-part l (Answered None) (h ∷ hs) g e f = refl
settle-guest-part l (Answered (Some out)) (h ∷ hs) g e f = refl
settle-guest-part l Trying hs g e f = refl
settle-guest-part l (Undoing k) hs g e f = refl

abbrev LpFollows : LockId → World → Bool → Event → Lp → Type 0
LpFollows l w granted e lp = lp_part l (lp_after w granted e lp) + takes_off e l ≡ lp_part l lp + adds e granted l

entered-part : (l : LockId) (w : World) (row : Row) (lp : Lp) (e : Option Entering) → lp.call.phase ≡ Trying → lp.guest ≡ None → lp_part l (succeeded w row e lp) ≡ lp_part l lp
entered-part l w row lp None t g = rw (t, g) refl
entered-part l w row lp (Some e) t g = rw g refl

call-part : (l : LockId) (w : World) (granted : Bool) (row : Row) (move : Move Reply) (lp : Lp) → Follows call_busy granted (Done (row.value w)) l move lp.call
    → lp_part l (record lp { call = after_move call_busy granted (Done (row.value w)) move lp.call }) + move_takes_off move l ≡ lp_part l lp + move_adds move granted l
call-part l w granted row move lp f = omega (arith, f)

settled-part : (l : LockId) (x : Lp) → lp_part l (settled x) ≡ lp_part l x
settled-part l x = settle-part l x.call.phase x.call.held x refl refl

-- a call's own event, where it enters no guest, or where it does
of-call : (l : LockId) (w : World) (granted : Bool) (row : Row) (move : Move Reply) (lp : Lp) → Follows call_busy granted (Done (row.value w)) l move lp.call → (move ≡ Succeeds → (lp.call.phase ≡ Trying) × (lp.guest ≡ None)) → LpFollows l w granted (OfCall row move) lp
of-call l w granted row Succeeds lp f t =
    let a = settled-part l (succeeded w row row.enters lp) in let b = entered-part l w row lp row.enters (t refl).0 (t refl).1 in omega (arith, a, b)
of-call l w granted row (Attempts k m) lp f t =
    let a = settled-part l (call_lp w granted row (Attempts k m) lp) in let b = call-part l w granted row (Attempts k m) lp f in omega (arith, a, b)
of-call l w granted row (Undoes k) lp f t =
    let a = settled-part l (call_lp w granted row (Undoes k) lp) in let b = call-part l w granted row (Undoes k) lp f in omega (arith, a, b)
of-call l w granted row (Refuses r) lp f t =
    let a = settled-part l (call_lp w granted row (Refuses r) lp) in let b = call-part l w granted row (Refuses r) lp f in omega (arith, a, b)
of-call l w granted row (Releases h) lp f t =
    let a = settled-part l (call_lp w granted row (Releases h) lp) in let b = call-part l w granted row (Releases h) lp f in omega (arith, a, b)
of-call l w granted row Rests lp f t =
    let a = settled-part l (call_lp w granted row Rests lp) in let b = call-part l w granted row Rests lp f in omega (arith, a, b)

-- success comes on the way alone
succeeds-on-its-way : {R : Type 0} (items : List (Item R)) (phase : Phase R) (hs : List Held) → next_in items phase hs ≡ Succeeds → phase ≡ Trying
succeeds-on-its-way items Trying hs e = refl
succeeds-on-its-way items (Undoing k) hs e = cc
succeeds-on-its-way items (Answered r) [] e = cc
succeeds-on-its-way items (Answered r) (h ∷ hs) e = cc

settled-guest-part : (l : LockId) (x : Guest) → part_in l (settled_guest x).operation ≡ part_in l x.operation
settled-guest-part l x = settle-guest-part l x.operation.phase x.operation.held x refl refl

of-operation : (l : LockId) (w : World) (granted : Bool) (row : OperationRow) (move : Move (Option Outcome)) (lp : Lp) (g : Guest) → lp.guest ≡ Some g
    → Follows operation_busy granted (row.answer w) l move g.operation → LpFollows l w granted (OfOperation row move) lp
of-operation l w granted row move lp g e f =
    let x : Guest = record g { operation = after_move operation_busy granted (row.answer w) move g.operation } in
    let a = settled-guest-part l x in
    rw e (omega (arith, a, f))

walked-part : (l : LockId) (access : Access) (gpa : ℕ) (b : Bool) (level : ℕ) (e : Entry) (g : Guest) → g.operation.phase ≡ Trying → part_in l (walked_on access gpa b level e g).operation ≡ part_in l g.operation
walked-part l access gpa true zero e g t = refl
walked-part l access gpa true (suc level) e g t = refl
walked-part l access gpa false level e g t = rw t refl

of-walk : (l : LockId) (w : World) (granted : Bool) (access : Access) (gpa : ℕ) (lp : Lp) (g : Guest) → lp.guest ≡ Some g → g.operation.phase ≡ Trying → LpFollows l w granted (Walks access gpa) lp
of-walk l w granted access gpa lp g e t =
    let a = settled-guest-part l (walk_step w g access gpa) in
    let b = walked-part l access gpa (goes_on access (walk_level g.walk) (walked_entry w g gpa)) (walk_level g.walk) (walked_entry w g gpa) g t in
    rw e (omega (arith, a, b))

answered-part : (l : LockId) (out : Option Outcome) (g : Guest) → g.operation.phase ≡ Trying → part_in l (answered out g).operation ≡ part_in l g.operation
answered-part l out g t = rw t refl

of-reach : (l : LockId) (w : World) (granted : Bool) (t v : ℕ) (access : Access) (r gpa page : ℕ) (lp : Lp) (g : Guest) → lp.guest ≡ Some g → g.operation.phase ≡ Trying → LpFollows l w granted (Reaches t v access r gpa page) lp
of-reach l w granted t v access r gpa page lp g e h =
    let a = settled-guest-part l (answered None g) in
    let b = answered-part l None g h in
    rw e (omega (arith, a, b))

of-exit : (l : LockId) (w : World) (granted : Bool) (v : ℕ) (out : Outcome) (lp : Lp) → LetsGo lp (Leaves v out) → LpFollows l w granted (Leaves v out) lp
of-exit l w granted v out lp k = by lp.guest k.1
  where
    by : (g : Option Guest) → has_let_go g → (2 ^ 63 * alone_in l lp.call.held + (shared_in l lp.call.held + 0) + 0) + 0 ≡ (2 ^ 63 * alone_in l lp.call.held + (shared_in l lp.call.held + refused_in l lp.call.phase) + guest_part l g) + 0
    by None h = rw k.0 refl
    by (Some g) h = rw (k.0, h) refl

-- the events of a guest
module _ (o : Opening) (l : LockId) (w : World) (granted : Bool) (lp : Lp) (g : Guest) (is : lp.guest ≡ Some g) where
  private_follows : (access : Access) (r gpa : ℕ) (page : Option ℕ) → g.operation.phase ≡ Trying → LpFollows l w granted (private_event g access r gpa page) lp
  private_follows access r gpa None t = of-walk l w granted access gpa lp g is t
  private_follows access r gpa (Some page) t = of-reach l w granted g.tdr g.vp access r gpa page lp g is t

  operation_follows : (op : Operation) → g.operation.phase ≡ Trying → LpFollows l w granted (operation_event w lp g op) lp
  operation_follows (ByRow row) t = of-operation l w granted row _ lp g is (moved operation_busy granted (row.answer w) l (row.items w) g.operation.phase g.operation.held)
  operation_follows (Private access r gpa) t = private_follows access r gpa _ t

  due_follows : (op : Option GuestOp) → g.operation.phase ≡ Trying → LetsGo lp (due_event o w lp g op) → LpFollows l w granted (due_event o w lp g op) lp
  due_follows None t k = of-exit l w granted g.vp Stop lp k
  due_follows (Some op) t k = by (nat_le g.most g.completed) k
    where
      by : (b : Bool) → LetsGo lp (max_event o w lp g op b) → LpFollows l w granted (max_event o w lp g op b) lp
      by true k = of-exit l w granted g.vp Max lp k
      by false k = operation_follows (operation_of o g.tdr g.vp (length lp.replies + 1) op) t

  staying_follows : (phase : Phase (Option Outcome)) → g.operation.phase ≡ phase → LetsGo lp (staying_event o w lp g phase) → LpFollows l w granted (staying_event o w lp g phase) lp
  staying_follows Trying e k = due_follows (operation_due o w g) e k
  staying_follows (Undoing i) e k =
      of-operation l w granted nothing_more (Undoes i) lp g is (subst (λ (z : Phase (Option Outcome)). Follows operation_busy granted (nothing_more.answer w) l (Undoes i) (record { phase = z; held = g.operation.held })) (sym e) (moved operation_busy granted (nothing_more.answer w) l [] (Undoing i) g.operation.held))
  staying_follows (Answered out) e k =
      of-operation l w granted nothing_more _ lp g is (subst (λ (z : Phase (Option Outcome)). Follows operation_busy granted (nothing_more.answer w) l (next_in [] (Answered out) g.operation.held) (record { phase = z; held = g.operation.held })) (sym e) (moved operation_busy granted (nothing_more.answer w) l [] (Answered out) g.operation.held))

  guest_follows : (leaving : Option Outcome) → LetsGo lp (guest_event o w lp g leaving) → LpFollows l w granted (guest_event o w lp g leaving) lp
  guest_follows None k = staying_follows g.operation.phase refl k
  guest_follows (Some out) k = of-exit l w granted g.vp out lp k

  epoch_follows : (row : Row) (h : Held) (hs : List Held) (b : Bool) → lp.call.held ≡ h ∷ hs → LetsGo lp (epoch_event o w lp row g h b) → LpFollows l w granted (epoch_event o w lp row g h b) lp
  epoch_follows row h hs true e k = of-call l w granted row (Releases h) lp
      (subst (λ (z : List Held). Follows call_busy granted (Done (row.value w)) l (Releases h) (record { phase = lp.call.phase; held = z })) (sym e) (released call_busy granted (Done (row.value w)) l h hs lp.call.phase))
      (λ x. cc)
  epoch_follows row h hs false e k = guest_follows g.leaving k

  entered_follows : (row : Row) (hs : List Held) → lp.call.held ≡ hs → LetsGo lp (entered_event o w lp row g hs) → LpFollows l w granted (entered_event o w lp row g hs) lp
  entered_follows row [] e k = guest_follows g.leaving k
  entered_follows row (h ∷ hs) e k = epoch_follows row h hs (is_epoch_lock h.lock) e k

line-follows : (o : Opening) (l : LockId) (w : World) (granted : Bool) (lp : Lp) (row : Row) (g : Option Guest) → lp.guest ≡ g → LetsGo lp (line_event o w lp row g) → LpFollows l w granted (line_event o w lp row g) lp
line-follows o l w granted lp row None e k = of-call l w granted row _ lp (moved call_busy granted (Done (row.value w)) l (row.items w) lp.call.phase lp.call.held)
    (λ x. (succeeds-on-its-way (row.items w) lp.call.phase lp.call.held x, e))
line-follows o l w granted lp row (Some g) e k = entered_follows o l w granted lp g e row lp.call.held refl k

next-follows : (o : Opening) (l : LockId) (w : World) (granted : Bool) (p : ℕ) (lp : Lp) (cs : List Call) (e : Event) → event_for o w p lp cs ≡ Some e → LetsGo lp e → LpFollows l w granted e lp
next-follows o l w granted p lp [] e h k = cc
next-follows o l w granted p lp (c ∷ cs) e h k =
    let is : line_event o w lp (row_of o p c) lp.guest ≡ e = cc in
    subst (λ (x : Event). LetsGo lp x → LpFollows l w granted x lp) is (line-follows o l w granted lp (row_of o p c) lp.guest refl) k

-- over all processors
put-word : (lps : ℕ → Lp) (n p : ℕ) (x : Lp) (l : LockId) → p < n → lock_word (put lps p x) n l + lp_part l (lps p) ≡ lock_word lps n l + lp_part l x
put-word lps n p x l h =
    let a = sum-put (alone_of l) lps p x n h in
    let b = sum-put (shared_of l) lps p x n h in
    let c = sum-put (refused_of l) lps p x n h in
    let d = lp-counts l (lps p) in let e = lp-counts l x in
    omega (arith, a, b, c, d, e)

follows : (o : Opening) (s : State) (p : ℕ) (e : Event) → IsNext o s p e → (l : LockId) → let s' = event o s p in
    lock_word s'.lps s'.lp_count l + takes_off e l ≡ lock_word s.lps s.lp_count l + adds e (is_granted s e) l
follows o s p e n l =
    rw n.next (let x : Lp = lp_after s.world (is_granted s e) e (s.lps p) in
    let a = put-word s.lps s.lp_count p x l n.processor in
    let b = next-follows o l s.world (is_granted s e) p (s.lps p) (lines_left o p (s.lps p)) e n.next n.lets_go in omega (arith, a, b))

exclusive : (s : State) (l : LockId) → grants s.lps s.lp_count l Exclusive ≡ (lock_word s.lps s.lp_count l == 0)
exclusive s l = go (holders s.lps s.lp_count l) (sharers s.lps s.lp_count l + refusals s.lps s.lp_count l)
  where
    go : (a b : ℕ) → (a + b == 0) ≡ (2 ^ 63 * a + b == 0)
    go a b = grind (arith, nat_tests)

shared : (s : State) (l : LockId) → sharers s.lps s.lp_count l + refusals s.lps s.lp_count l < 2 ^ 63 → grants s.lps s.lp_count l Shared ≡ nat_lt (lock_word s.lps s.lp_count l) (2 ^ 63)
shared s l h = go (holders s.lps s.lp_count l) (sharers s.lps s.lp_count l + refusals s.lps s.lp_count l) h
  where
    go : (a b : ℕ) → b < 2 ^ 63 → (a == 0) ≡ nat_lt (2 ^ 63 * a + b) (2 ^ 63)
    go a b h = grind (arith, nat_tests)

-- the low bits

shared-few : (l : LockId) (hs : List Held) → shared_in l hs ≤ length hs
shared-few l [] = omega arith
shared-few l (h ∷ hs) = let k = shared-few l hs in let b = one-most (not (is_alone h.mode) && same_lock h.lock l) in omega (arith, k, b)
  where
    one-most : (b : Bool) → one_if b ≤ 1
    one-most true = omega arith
    one-most false = omega arith

refused-few : {R : Type 0} (l : LockId) (phase : Phase R) → refused_in l phase ≤ 1
refused-few l Trying = omega arith
refused-few l (Undoing k) = by_test (same_lock k l) (λ y. rw y (omega arith)) (λ y. rw y (omega arith))
refused-few l (Answered r) = omega arith

lp-few : (l : LockId) (lp : Lp) → shared_of l lp + refused_of l lp ≤ length (locks_of lp) + 2
lp-few l lp = by lp.guest
  where
    by : (g : Option Guest) → (shared_in l lp.call.held + guest_shared l g) + (refused_in l lp.call.phase + guest_refused l g) ≤ length (lp.call.held ++ operation_locks g) + 2
    by None = let a = shared-few l lp.call.held in let b = refused-few l lp.call.phase in let c = length-append lp.call.held (operation_locks None) in omega (arith, a, b, c)
    by (Some g) =
        let a = shared-few l lp.call.held in let b = refused-few l lp.call.phase in
        let d = shared-few l g.operation.held in let e = refused-few l g.operation.phase in
        let c = length-append lp.call.held g.operation.held in omega (arith, a, b, c, d, e)

few : (lps : ℕ → Lp) (n : ℕ) (l : LockId) → sharers lps n l + refusals lps n l ≤ locks_held lps n
few lps zero l = omega arith
few lps (suc n) l = let k = few lps n l in let a = lp-few l (lps n) in omega (arith, k, a)

pub lock-words-follow : LockWordsFollow
lock-words-follow = record { event = follows; exclusive = exclusive; shared = shared; few = λ s l. few s.lps s.lp_count l }
