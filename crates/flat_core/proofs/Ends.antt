-- Every call ends, and so does every run.
use Rattle.std.proofs.Common.{◌≡◌, ◌≢◌, inl, inr, refl, sym, ◌∙◌, subst, ap, ℕ, zero, suc, ◌+◌, ◌-◌, ◌*◌, ◌<◌, ◌≤◌, List, [], ◌∷◌, ◌++◌, length, drop, replicate, Option, Some, None, option_map, Bool, true, false, ◌==◌, arith, length-append}
use Rattle.std.specs.List.{list_any}
use Rattle.std.specs.Prelude.{nat_le, slice_get, IfSome}
use Rattle.std.proofs.lemmas.Bool.{eq-eqb, eqb-true, eqb-false, ne_eqb}
use Rattle.std.proofs.lemmas.Bool.Decides.{nat_tests}
use Rattle.td_words.specs.declared.names.Mode.{Mode}
use Rattle.td_words.specs.declared.names.Mode.TheVariants.{Shared, Exclusive}
use Rattle.td_words.specs.declared.names.Access.{Access}
use Rattle.td_words.specs.declared.names.Access.TheVariants.{Read, Write}
use Rattle.td_words.specs.declared.calls.Call.{Call}
use Rattle.td_words.specs.declared.calls.Call.TheVariants as call
use Rattle.td_words.specs.declared.calls.GuestOp.{GuestOp}
use Rattle.td_words.specs.declared.replies.Outcome.{Outcome}
use Rattle.td_words.specs.declared.replies.Outcome.TheVariants.{EptViolation, Stop, Max}
use Rattle.td_words.specs.declared.replies.Reply.{Reply}
use Rattle.td_words.specs.declared.replies.Reply.TheVariants.{Done, Exited}
use Rattle.td_words.specs.declared.names.LifeState.{LifeState}
use Rattle.td_words.specs.declared.names.VcpuState.{VcpuState}
use Rattle.td_words.specs.declared.names.OpState.{OpState}
use Rattle.td_words.specs.declared.names.VcpuState.TheVariants as vcpu
use Rattle.td_words.specs.NameNumber.{op_number}
use Rattle.td_words.specs.Packing.{Entry}
use Rattle.flat_core.specs.Conditions.{same_vp_state, running_ops}
use Rattle.flat_core.specs.Tree.{page_of_gpa}
use Rattle.flat_core.specs.World.{World, Pages, Vps, put}
use Rattle.flat_core.specs.Processor.{LockId, OfPage, OfOp, name_of, Held, Phase, Trying, Undoing, Answered, Progress, Translation, Walk, Guest, Entering, new_guest, Lp, idle, nothing_yet}
use Rattle.flat_core.specs.Opening.{Opening, Incoming}
use Rattle.flat_core.specs.Row.{Item, Check, Try, Row, OperationRow, Passes, Move, Attempts, Undoes, Refuses, Succeeds, Releases, Rests, next, next_in, tries_in, but_newest}
use Rattle.flat_core.specs.Table.{row_of, most_tries, guest_events}
use Rattle.flat_core.specs.Translations.{look_up, cache}
use Rattle.flat_core.specs.Guest.{Operation, ByRow, Private, operation_of, is_pending_at, reach, walk_level, walk_step, walked_on, walked_entry, goes_on, walk_cached, cached_after, translation_of, answered}
use Rattle.flat_core.specs.Event.{State, Event, walk_translations, OfCall, OfOperation, Walks, Reaches, Leaves, is_epoch_lock, start, next_event, event_for, lines_left, calls_of, event, after_event, world_after, call_world, lp_after, call_lp, succeeded, settled, settle, settled_guest, settle_operation, operation_guest, operation_world, operation_due, operation_busy, nothing_more, call_busy, is_granted}
use Rattle.flat_core.specs.Effects.{pass_operation, tell_words, leave_guest}
use Rattle.flat_core.specs.Run.{play, events_in, to_the_end}
use Rattle.flat_core.specs.Lawful.{Lawful}
use Rattle.flat_core.specs.Guests.{IsOccupied, SameVp, Spares, guest_locks, entry_locks}
use Rattle.flat_core.specs.Locks.{one_if, alone_in, shared_in, alone_of, shared_of}
use Rattle.flat_core.specs.Laws.{reached, with_bundles, TimelinessIsKept, HoldsInRuns, own_items}
use Rattle.flat_core.specs.Inside.{WalkFits, OperationAt, DueAt, PhaseAt, GuestAt, InGuest, IsNotDone, LocksFit, LineAt, StandsAt, IsTimely, AreTimely}
use Rattle.flat_core.specs.Bounds.{call_left, private_used, operation_used, due_used, phase_used, guest_left, line_left, left_of, events_left, TimelyEventsRunOut, EventsRunOut, RunsEnd, IsBounded, EntriesAreBounded}
use Rattle.flat_core.specs.Entered.{EventsSpare}
use Rattle.flat_core.proofs.Induction.{event_keeps, in_runs, play_append}
use Rattle.flat_core.proofs.Passed.{vp_of}
use Rattle.flat_core.proofs.Tests.{by_test, put_here, tdr_kind, some_same}
use Rattle.flat_core.proofs.Keeps.{first-lawful}
use Rattle.flat_core.proofs.Kept.{events_keep, timely_occupied, timely_runs}
use Rattle.flat_core.proofs.Ranges.{configured}
use Rattle.flat_core.proofs.Spared.{row_spares}
use Rattle.flat_core.proofs.Operations.{each_operation, operation_row, accepted}
use Rattle.flat_core.proofs.Cached.{cached_found, allowed_cached}
use Rattle.flat_core.proofs.Tries.{row_tries}
use Rattle.flat_core.proofs.Enter.{fits_first, fits_later, fits_undo, fits_more, enter_held, pause_held, enters_or_none, all_pass}
use Rattle.flat_core.proofs.LockLaw.{exclusion_kept, exclusive_step, le-sum}
use Rattle.flat_core.proofs.Due.{IsInside, IsOnWay, Due, calls, frees, leaves, stops, fills, operates, walks, reaches, undoes, gives_back, due_event_is}

-- what holds of each move that a row may give
pub next_is : {R : Type 0} (C : Move R → Type 0) (items : List (Item R)) (k : ℕ) → ((r : R) → C (Refuses r)) → C Succeeds → ((l : LockId) (m : Mode) → k < tries_in items → C (Attempts l m)) → C (next items k)
next_is C [] k refuses succeeds attempts = succeeds
next_is C (Check true r ∷ items) k refuses succeeds attempts = next_is C items k refuses succeeds attempts
next_is C (Check false r ∷ items) k refuses succeeds attempts = refuses r
next_is C (Try l m ∷ items) zero refuses succeeds attempts = attempts l m (omega arith)
next_is C (Try l m ∷ items) (suc k) refuses succeeds attempts = next_is C items k refuses succeeds (λ l m h. attempts l m (omega arith))

pub drop_next : {A : Type 0} (k : ℕ) (xs : List A) (y : A) (ys : List A) → drop k xs ≡ y ∷ ys → drop (suc k) xs ≡ ys
drop_next zero [] y ys e = cc
drop_next zero (x ∷ xs) y ys e = cc
drop_next (suc k) [] y ys e = cc
drop_next (suc k) (x ∷ xs) y ys e = drop_next k xs y ys e

-- a processor with a line left is one of the machine
pub below_calls : (css : List (List Call)) (p k : ℕ) (c : Call) (cs : List Call) → drop k (calls_of css p) ≡ c ∷ cs → p < length css
below_calls [] p zero c cs e = cc
below_calls [] p (suc k) c cs e = cc
below_calls (x ∷ css) zero k c cs e = omega arith
below_calls (x ∷ css) (suc p) k c cs e = let b = below_calls css p k c cs e in omega (arith, b)

-- of its own lines
abbrev IsInTime : Opening → World → ℕ → Lp → Type 0
IsInTime o w p lp = IsTimely o w p (calls_of o.calls p) lp

-- with nothing done of the first line
pub fresh_left : (o : Opening) (w : World) (cs : List Call) (lp : Lp) → lp.guest ≡ None → left_of o w cs (record lp { call = nothing_yet }) ≡ events_in cs
fresh_left o w [] lp g = refl
fresh_left o w (c ∷ cs) lp g = rw g (omega arith)

fresh_stands : (o : Opening) (w : World) (p : ℕ) (cs : List Call) (lp : Lp) → lp.guest ≡ None → lp.call ≡ nothing_yet → StandsAt o w p cs lp
fresh_stands o w p [] lp g e = (g, e)
fresh_stands o w p (c ∷ cs) lp g e = rw (g, e) (omega arith, tt, fits_first c)

-- a processor after its event: it is timely, and can make fewer
record Lowers (o : Opening) (p : ℕ) (bound : ℕ) (w : World) (lp : Lp) : Type 0 where
  timely : IsInTime o w p lp
  fewer : left_of o w (lines_left o p lp) lp < bound

module _ (o : Opening) (p : ℕ) (c : Call) (cs : List Call) where
  -- the call goes on
  goes_call : (w : World) (lp : Lp) (phase : Phase Reply) (hs : List Held) (bound : ℕ) → lp.guest ≡ None → lines_left o p lp ≡ c ∷ cs → length hs ≤ most_tries c → IsNotDone phase hs → LocksFit c phase hs
      → call_left (most_tries c) (guest_events c) phase (length hs) + events_in cs < bound → Lowers o p bound w (record lp { call = record { phase = phase; held = hs } })
  goes_call w lp phase hs bound g e few under fits less = record {
    timely = rw (e, g) (few, under, fits);
    fewer = rw (e, g) less;
  }

  -- or it is done
  ends : (w : World) (lp : Lp) (r : Reply) (bound : ℕ) → lp.guest ≡ None → lines_left o p lp ≡ c ∷ cs → events_in cs < bound
      → Lowers o p bound w (record lp { call = nothing_yet; replies = lp.replies ++ r ∷ [] })
  ends w lp r bound g e less =
      let at : length (lp.replies ++ r ∷ []) ≡ suc (length lp.replies) = omega (arith, length-append lp.replies (r ∷ [])) in
      let left : drop (length (lp.replies ++ r ∷ [])) (calls_of o.calls p) ≡ cs = ap (λ (n : ℕ). drop n (calls_of o.calls p)) at ∙ drop_next (length lp.replies) (calls_of o.calls p) c cs e in
      record {
        timely = rw left (fresh_stands o w p cs (record lp { call = nothing_yet; replies = lp.replies ++ r ∷ [] }) g refl);
        fewer = rw (left, fresh_left o w cs (record lp { replies = lp.replies ++ r ∷ [] }) g) less;
      }

  -- an answered call: it is done where it holds nothing
  answers : (w : World) (lp : Lp) (r : Reply) (hs : List Held) (bound : ℕ) → lp.guest ≡ None → lines_left o p lp ≡ c ∷ cs → length hs ≤ most_tries c → length hs + events_in cs < bound
      → Lowers o p bound w (settle (Answered r) hs (record lp { call = record { phase = Answered r; held = hs } }))
  answers w lp r [] bound g e few less = ends w (record lp { call = record { phase = Answered r; held = [] } }) r bound g e (omega arith)
  answers w lp r (h ∷ hs) bound g e few less = goes_call w lp (Answered r) (h ∷ hs) bound g e few tt (fits_later c r (h ∷ hs)) (omega arith)

-- an operation's rows try two locks at most
few_tries : (o : Opening) (t v line : ℕ) (op : GuestOp) (row : OperationRow) (w : World) → operation_of o t v line op ≡ ByRow row → tries_in (row.items w) ≤ 2
few_tries o t v line op row w e =
    operation_row o t v line (λ x. tries_in (x.items w) ≤ 2)
    (λ r x. omega arith) (λ r s. omega arith) (λ r gpa. omega arith) (λ r gpa. omega arith) (λ gpa. omega arith) (λ i. omega arith) (omega arith) (λ r. omega arith) op row e

most_after : (most completed : ℕ) → nat_le most completed ≡ false → completed < most
most_after most completed e = grind (arith, nat_tests)

-- a guest whose operation begins
fresh_due : (o : Opening) (lp : Lp) (g : Guest) (x : Option GuestOp) → g.operation ≡ nothing_yet → g.walk ≡ None → DueAt o lp g x
fresh_due o lp g None e k = rw e refl
fresh_due o lp g (Some op) e k =
    each_operation o g.tdr g.vp (length lp.replies + 1) (OperationAt g)
    (λ r x. none) (λ r s. none) (λ r gpa. none) (λ r gpa. none) (λ gpa. none) (λ i. none) none (λ r. none)
    (λ access r gpa. rw (e, k) (refl, omega arith, tt)) op
  where
    none : (length g.operation.held ≤ 2) × (1 ≤ length g.operation.held → g.completed < g.most)
    none = rw e (omega arith, λ some. absurd (omega (arith, some)))

fresh_at : (o : Opening) (w : World) (lp : Lp) (g : Guest) → g.operation ≡ nothing_yet → g.walk ≡ None → GuestAt o w lp g None
fresh_at o w lp g e k = subst (λ (x : Phase (Option Outcome)). PhaseAt o w lp g x) (sym (ap (λ (x : Progress (Option Outcome)). x.phase) e)) (fresh_due o lp g (operation_due o w g) e k)

-- what is left is at most five for each operation
left_most : (o : Opening) (w : World) (lp : Lp) (g : Guest) → guest_left o w lp g None ≤ 5 * (g.most - g.completed)
left_most o w lp g = omega arith

-- a processor that goes on in guest
module _ (o : Opening) (p : ℕ) (c : Call) (cs : List Call) (w : World) (lp : Lp) (g : Guest) (i : IsInside o p lp c cs g) (at : InGuest o w p c lp g) where
  abbrev before : ℕ
  before = left_of o w (c ∷ cs) lp

  -- E is given back
  pub freed_locks : lp.call.held ≡ guest_locks g.tdr g.vp
  freed_locks = elim at.locks [
    | inl e ↦ e
    | inr e ↦ absurd (let no : false ≡ true = rw (e.0) at i.freed in cc)
  ]

  goes : (w' : World) (lp' : Lp) (g' : Guest) → lp'.replies ≡ lp.replies → lp'.call ≡ lp.call → lp'.guest ≡ Some g' → g'.tdr ≡ g.tdr → g'.vp ≡ g.vp → g'.most ≡ g.most → IsOccupied w' p g.tdr g.vp
      → g'.completed ≤ g.most → GuestAt o w' lp' g' g'.leaving → guest_left o w' lp' g' g'.leaving < guest_left o w lp g g.leaving → Lowers o p before w' lp'
  goes w' lp' g' rs cl gs t v m occ few op less =
      let line' : lines_left o p lp' ≡ c ∷ cs = ap (λ (x : List Reply). drop (length x) (calls_of o.calls p)) rs ∙ i.line in
      let held' : lp'.call.held ≡ guest_locks g.tdr g.vp = ap (λ (x : Progress Reply). x.held) cl ∙ freed_locks in
      let inside : InGuest o w' p c lp' g' = record {
        entered = at.entered ∙ (ap (λ (x : ℕ). call.VpEnter x g.vp g.most) (sym t) ∙ (ap (λ (x : ℕ). call.VpEnter g'.tdr x g.most) (sym v) ∙ ap (λ (x : ℕ). call.VpEnter g'.tdr g'.vp x) (sym m)));
        trying = ap (λ (x : Progress Reply). x.phase) cl ∙ at.trying;
        locks = inl (held' ∙ (ap (λ (x : ℕ). guest_locks x g.vp) (sym t) ∙ ap (λ (x : ℕ). guest_locks g'.tdr x) (sym v)));
        occupied = subst (λ (x : ℕ). IsOccupied w' p x g'.vp) (sym t) (subst (λ (x : ℕ). IsOccupied w' p g.tdr x) (sym v) occ);
        few = subst (λ (n : ℕ). g'.completed ≤ n) (sym m) few;
        operation = op;
      } in
      let was : line_left o w c lp lp.guest ≡ length lp.call.held + 1 + guest_left o w lp g g.leaving = ap (λ (x : Option Guest). line_left o w c lp x) i.guest in
      let same : length lp'.call.held ≡ length lp.call.held = ap (λ (x : Progress Reply). length x.held) cl in
      record {
        timely = subst (λ (x : List Call). StandsAt o w' p x lp') (sym line') (subst (λ (x : Option Guest). LineAt o w' p c lp' x) (sym gs) inside);
        fewer = subst (λ (x : List Call). left_of o w' x lp' < before) (sym line') (subst (λ (x : Option Guest). line_left o w' c lp' x + events_in cs < before) (sym gs) (omega (arith, less, was, same)));
      }

  -- an operation of which so many events are used
  module _ (u : ℕ) (stays : g.leaving ≡ None) (more : g.completed < g.most) (used : phase_used o w lp g g.operation.phase ≡ u) (few : u ≤ 4) where
    left_now : guest_left o w lp g g.leaving ≡ 5 * (g.most - g.completed) - u
    left_now = rw (stays, used) refl

    -- it goes on
    going : (w' : World) (lp' : Lp) (g' : Guest) → lp'.replies ≡ lp.replies → lp'.call ≡ lp.call → lp'.guest ≡ Some g' → g'.tdr ≡ g.tdr → g'.vp ≡ g.vp → g'.most ≡ g.most → g'.completed ≡ g.completed → g'.leaving ≡ None
        → IsOccupied w' p g.tdr g.vp → PhaseAt o w' lp' g' g'.operation.phase → u < phase_used o w' lp' g' g'.operation.phase → Lowers o p before w' lp'
    going w' lp' g' rs cl gs t v m k stays' occ op less =
        goes w' lp' g' rs cl gs t v m occ (let f = at.few in omega (arith, k, f)) (rw stays' op) (let l = left_now in rw (l, stays', m, k) (omega (arith, more, few, less)))

    -- it is answered
    module _ (w' : World) (occ : IsOccupied w' p g.tdr g.vp) where
      abbrev with_op : Option Outcome → List Held → Guest
      with_op out hs = record g { operation = record { phase = Answered out; held = hs } }

      answered_op : (lp' : Lp) (out : Option Outcome) (hs : List Held) → lp'.replies ≡ lp.replies → lp'.call ≡ lp.call → lp'.guest ≡ Some (settle_operation (Answered out) hs (with_op out hs))
          → u + length hs < 5 → length hs ≤ 2 → Lowers o p before w' lp'
      answered_op lp' None [] rs cl gs less two =
          let g' : Guest = record g { operation = nothing_yet; walk = None; completed = g.completed + 1 } in
          let l = left_now in
          goes w' lp' g' rs cl gs refl refl refl occ (omega (arith, more)) (rw stays (fresh_at o w' lp' g' refl refl)) (rw (l, stays) (let most = left_most o w' lp' g' in omega (arith, most, more, few)))
      answered_op lp' (Some out) [] rs cl gs less two =
          let g' : Guest = record g { operation = nothing_yet; walk = None; leaving = Some out } in
          let l = left_now in
          goes w' lp' g' rs cl gs refl refl refl occ at.few refl (rw l (omega (arith, more, few)))
      answered_op lp' None (h ∷ hs) rs cl gs less two =
          going w' lp' (with_op None (h ∷ hs)) rs cl gs refl refl refl refl stays occ (omega arith, two, more) (omega (arith, less))
      answered_op lp' (Some out) (h ∷ hs) rs cl gs less two =
          going w' lp' (with_op (Some out) (h ∷ hs)) rs cl gs refl refl refl refl stays occ (omega arith, two, more) (omega (arith, less))

-- a guest's own event leaves it as it is, but for its position
still_occupied : (w w' : World) (p t v : ℕ) → w'.pages ≡ w.pages → w'.tds.lives ≡ w.tds.lives → w'.tds.ops ≡ w.tds.ops → w'.vps.states ≡ w.vps.states → w'.vps.associated ≡ w.vps.associated → w'.vps.lasts ≡ w.vps.lasts → w'.vps.entered ≡ w.vps.entered
    → IsOccupied w p t v → IsOccupied w' p t v
still_occupied w w' p t v pages lives ops states associated lasts entered x = record {
  tdr = ap (λ (z : Pages). z.kinds t) pages ∙ x.tdr;
  life = ap (λ (f : ℕ → LifeState). f t) lives ∙ x.life;
  running = ap (λ (f : ℕ → OpState). list_any (λ s. op_number s == op_number (f t)) running_ops) ops ∙ x.running;
  page = record { kind = ap (λ (z : Pages). z.kinds v) pages ∙ x.page.kind; owner = ap (λ (z : Pages). z.owners v) pages ∙ x.page.owner };
  ready = ap (λ (f : ℕ → VcpuState). f v) states ∙ x.ready;
  associated = ap (λ (f : ℕ → Option ℕ). f v) associated ∙ x.associated;
  epoch = x.epoch;
  entered = ap (λ (f : ℕ → Option ℕ). f v) entered ∙ x.entered;
  current = ap (λ (f : ℕ → ℕ). f v) lasts ∙ x.current;
}

operation_occupied : (o : Opening) (t v line : ℕ) (op : GuestOp) (row : OperationRow) (w : World) (p u q : ℕ) → operation_of o t v line op ≡ ByRow row → IsOccupied w p u q → IsOccupied (tell_words (row.tells w) (row.act w)) p u q
operation_occupied o t v line op row w p u q e x =
    operation_row o t v line (λ y. IsOccupied (tell_words (y.tells w) (y.act w)) p u q)
    (λ r n. same _ refl refl refl refl refl refl refl) (λ r s. same _ refl refl refl refl refl refl refl) (λ r gpa. same _ refl refl refl refl refl refl refl) (λ r gpa. same _ refl refl refl refl refl refl refl)
    (λ gpa. accepted (λ z. IsOccupied (tell_words [] (pass_operation v z)) p u q) (is_pending_at w t gpa) t gpa w (λ pends. same _ refl refl refl refl refl refl refl) (λ stays. same _ refl refl refl refl refl refl refl))
    (λ i. same _ refl refl refl refl refl refl refl) (same _ refl refl refl refl refl refl refl) (λ r. same _ refl refl refl refl refl refl refl) op row e
  where
    same : (z : World) → z.pages ≡ w.pages → z.tds.lives ≡ w.tds.lives → z.tds.ops ≡ w.tds.ops → z.vps.states ≡ w.vps.states → z.vps.associated ≡ w.vps.associated → z.vps.lasts ≡ w.vps.lasts → z.vps.entered ≡ w.vps.entered → IsOccupied z p u q
    same z a b c d f g h = still_occupied w z p u q a b c d f g h x

reach_occupied : (t v : ℕ) (access : Access) (r gpa page : ℕ) (w : World) (p u q : ℕ) → IsOccupied w p u q → IsOccupied (reach t v access r gpa page w) p u q
reach_occupied t v Read r gpa page w p u q x = still_occupied w _ p u q refl refl refl refl refl refl refl x
reach_occupied t v Write r gpa page w p u q x = still_occupied w _ p u q refl refl refl refl refl refl refl x

module _ (o : Opening) (p : ℕ) (c : Call) (cs : List Call) (w : World) (lp : Lp) (g : Guest) (i : IsInside o p lp c cs g) (at : InGuest o w p c lp g) where
  abbrev Made : Event → Bool → Type 0
  Made e b = Lowers o p (left_of o w (c ∷ cs) lp) (world_after e w) (lp_after w b e lp)

  guest_made : (f : Guest → Guest) → option_map f lp.guest ≡ Some (f g)
  guest_made f = ap (λ (x : Option Guest). option_map f x) i.guest

  phase_of : (phase : Phase (Option Outcome)) → g.leaving ≡ None → g.operation.phase ≡ phase → PhaseAt o w lp g phase
  phase_of phase stays e =
      subst (λ (x : Phase (Option Outcome)). PhaseAt o w lp g x) e (subst (λ (x : Option Outcome). GuestAt o w lp g x) stays at.operation)

  -- its operation goes by a row
  module _ (op : GuestOp) (row : OperationRow) (way : IsOnWay o w g op) (is : operation_of o g.tdr g.vp (length lp.replies + 1) op ≡ ByRow row) where
    here : OperationAt g (ByRow row)
    here =
        subst (λ (x : Operation). OperationAt g x) is
        (subst (λ (x : Option GuestOp). DueAt o lp g x) way.due (phase_of Trying way.stays way.trying))

    more : g.completed < g.most
    more = most_after g.most g.completed way.more

    used_now : phase_used o w lp g g.operation.phase ≡ length g.operation.held
    used_now =
        ap (λ (x : Phase (Option Outcome)). phase_used o w lp g x) way.trying
        ∙ (ap (λ (x : Option GuestOp). due_used o lp g x) way.due ∙ ap (λ (x : Operation). operation_used lp g x) is)

    few_used : length g.operation.held ≤ 4
    few_used = let h = here.0 in omega (arith, h)

    attempts : (b : Bool) (l : LockId) (m : Mode) → length g.operation.held < tries_in (row.items w) → Made (OfOperation row (Attempts l m)) b
    attempts true l m room =
        let g' : Guest = record g { operation = record { phase = Trying; held = record { lock = l; mode = m } ∷ g.operation.held } } in
        let lp' : Lp = lp_after w true (OfOperation row (Attempts l m)) lp in
        let two = few_tries o g.tdr g.vp (length lp.replies + 1) op row w is in
        let standing : DueAt o lp' g' (operation_due o w g') =
        subst (λ (x : Option GuestOp). DueAt o lp' g' x) (sym way.due) (subst (λ (x : Operation). OperationAt g' x) (sym is) (omega (arith, room, two), λ some. more)) in
        let used' : phase_used o w lp' g' Trying ≡ length g'.operation.held = ap (λ (x : Option GuestOp). due_used o lp' g' x) way.due ∙ ap (λ (x : Operation). operation_used lp' g' x) is in
        going o p c cs w lp g i at (length g.operation.held) way.stays more used_now few_used w lp' g' refl refl (guest_made (operation_guest w true row (Attempts l m))) refl refl refl refl way.stays at.occupied standing (omega (arith, used'))
    attempts false l Shared room =
        let g' : Guest = record g { operation = record { phase = Undoing l; held = g.operation.held } } in
        let lp' : Lp = lp_after w false (OfOperation row (Attempts l Shared)) lp in
        let two = few_tries o g.tdr g.vp (length lp.replies + 1) op row w is in
        going o p c cs w lp g i at (length g.operation.held) way.stays more used_now few_used w lp' g' refl refl (guest_made (operation_guest w false row (Attempts l Shared))) refl refl refl refl way.stays at.occupied (omega (arith, room, two), more) (omega (arith, room, two))
    attempts false l Exclusive room =
        let h = here.0 in
        answered_op o p c cs w lp g i at (length g.operation.held) way.stays more used_now few_used w at.occupied (lp_after w false (OfOperation row (Attempts l Exclusive)) lp) (operation_busy (name_of l)) g.operation.held refl refl
        (guest_made (operation_guest w false row (Attempts l Exclusive))) (omega (arith, h)) h

    by_row : (b : Move (Option Outcome) → Bool) → let move = next (row.items w) (length g.operation.held) in Made (OfOperation row move) (b move)
    by_row b =
        let h = here.0 in
        next_is (λ x. Made (OfOperation row x) (b x)) (row.items w) (length g.operation.held)
        (λ r. answered_op o p c cs w lp g i at (length g.operation.held) way.stays more used_now few_used w at.occupied (lp_after w (b (Refuses r)) (OfOperation row (Refuses r)) lp) r g.operation.held refl refl
        (guest_made (operation_guest w (b (Refuses r)) row (Refuses r))) (omega (arith, h)) h)
        (answered_op o p c cs w lp g i at (length g.operation.held) way.stays more used_now few_used (operation_world row Succeeds w)
        (operation_occupied o g.tdr g.vp (length lp.replies + 1) op row w p g.tdr g.vp is at.occupied) (lp_after w (b Succeeds) (OfOperation row Succeeds) lp) (row.answer w) g.operation.held refl refl
        (guest_made (operation_guest w (b Succeeds) row Succeeds)) (omega (arith, h)) h)
        (λ l m room. attempts (b (Attempts l m)) l m room)

  -- it takes back a try
  by_undo : (b : Bool) (l : LockId) → g.leaving ≡ None → g.operation.phase ≡ Undoing l → Made (OfOperation nothing_more (Undoes l)) b
  by_undo b l stays e =
      let here = phase_of (Undoing l) stays e in
      let one : length g.operation.held ≤ 1 = here.0 in
      answered_op o p c cs w lp g i at (4 - length g.operation.held) stays here.1 (ap (λ (x : Phase (Option Outcome)). phase_used o w lp g x) e) (omega arith) w at.occupied
      (lp_after w b (OfOperation nothing_more (Undoes l)) lp) (operation_busy (name_of l)) g.operation.held refl refl (guest_made (operation_guest w b nothing_more (Undoes l))) (omega (arith, one)) (omega (arith, one))

  -- or gives a lock back
  by_release : (b : Bool) (out : Option Outcome) → g.leaving ≡ None → g.operation.phase ≡ Answered out → Made (OfOperation nothing_more (next_in [] (Answered out) g.operation.held)) b
  by_release b out stays e = by g.operation.held refl
    where
      here : (1 ≤ length g.operation.held) × (length g.operation.held ≤ 2) × (g.completed < g.most)
      here = phase_of (Answered out) stays e

      by : (hs : List Held) → g.operation.held ≡ hs → Made (OfOperation nothing_more (next_in [] (Answered out) hs)) b
      by [] same = absurd (let one = here.0 in let z = ap length same in omega (arith, one, z))
      by (h ∷ hs) same =
          let two = here.1 in
          let z : length g.operation.held ≡ suc (length hs) = ap length same in
          let f : Guest → Guest = operation_guest w b nothing_more (Releases h) in
          let now : Some (f g) ≡ Some (settle_operation (Answered out) hs (record g { operation = record { phase = Answered out; held = hs } })) = rw (e, same) refl in
          answered_op o p c cs w lp g i at (5 - length g.operation.held) stays here.2 (ap (λ (x : Phase (Option Outcome)). phase_used o w lp g x) e) (let one = here.0 in omega (arith, one)) w at.occupied
          (lp_after w b (OfOperation nothing_more (Releases h)) lp) out hs refl refl (guest_made f ∙ now) (omega (arith, z, two)) (omega (arith, z, two))

  -- a private access
  module _ (op : GuestOp) (access : Access) (r gpa : ℕ) (way : IsOnWay o w g op) (is : operation_of o g.tdr g.vp (length lp.replies + 1) op ≡ Private access r gpa) where
    private_here : OperationAt g (Private access r gpa)
    private_here =
        subst (λ (x : Operation). OperationAt g x) is
        (subst (λ (x : Option GuestOp). DueAt o lp g x) way.due (phase_of Trying way.stays way.trying))

    private_more : g.completed < g.most
    private_more = most_after g.most g.completed way.more

    private_now : (found : Option ℕ) → look_up lp.cached g.tdr (page_of_gpa gpa) access ≡ found → phase_used o w lp g g.operation.phase ≡ private_used found g.walk
    private_now found e =
        ap (λ (x : Phase (Option Outcome)). phase_used o w lp g x) way.trying
        ∙ (ap (λ (x : Option GuestOp). due_used o lp g x) way.due ∙ (ap (λ (x : Operation). operation_used lp g x) is ∙ ap (λ (x : Option ℕ). private_used x g.walk) e))

    by_reach : (b : Bool) (page : ℕ) → look_up lp.cached g.tdr (page_of_gpa gpa) access ≡ Some page → Made (Reaches g.tdr g.vp access r gpa page) b
    by_reach b page found =
        let none : length g.operation.held ≡ 0 = ap length private_here.0 in
        answered_op o p c cs w lp g i at 4 way.stays private_more (private_now (Some page) found) (omega arith) (reach g.tdr g.vp access r gpa page w) (reach_occupied g.tdr g.vp access r gpa page w p g.tdr g.vp at.occupied)
        (lp_after w b (Reaches g.tdr g.vp access r gpa page) lp) None g.operation.held refl refl (guest_made (λ x. settled_guest (answered None x))) (omega (arith, none)) (omega (arith, none))

    module _ (b : Bool) (lost : look_up lp.cached g.tdr (page_of_gpa gpa) access ≡ None) where
      abbrev lp' : Lp
      lp' = lp_after w b (Walks access gpa) lp

      walk_translations_are : lp'.cached ≡ walk_cached w g access gpa lp.cached
      walk_translations_are = ap (λ (x : Option Guest). walk_translations w access gpa x lp.cached) i.guest

      level_now : phase_used o w lp g g.operation.phase ≡ 3 - walk_level g.walk
      level_now = private_now None lost

      -- it comes to an answer
      walk_ends : (g1 : Guest) → settled_guest (walk_step w g access gpa) ≡ settle_operation (Answered (Some (EptViolation gpa access))) g.operation.held g1 → g1 ≡ record g { operation = record { phase = Answered (Some (EptViolation gpa access)); held = g.operation.held } }
          → Made (Walks access gpa) b
      walk_ends g1 e same =
          let none : length g.operation.held ≡ 0 = ap length private_here.0 in
          let now : Some (settled_guest (walk_step w g access gpa)) ≡ Some (settle_operation (Answered (Some (EptViolation gpa access))) g.operation.held (record g { operation = record { phase = Answered (Some (EptViolation gpa access)); held = g.operation.held } })) =
          ap Some (e ∙ ap (λ (x : Guest). settle_operation (Answered (Some (EptViolation gpa access))) g.operation.held x) same) in
          answered_op o p c cs w lp g i at (3 - walk_level g.walk) way.stays private_more level_now (omega arith) w at.occupied lp' (Some (EptViolation gpa access)) g.operation.held refl refl
          (guest_made (λ x. settled_guest (walk_step w x access gpa)) ∙ now) (omega (arith, none)) (omega (arith, none))

      -- or goes on
      walk_goes : (g' : Guest) → settled_guest (walk_step w g access gpa) ≡ g' → g'.tdr ≡ g.tdr → g'.vp ≡ g.vp → g'.most ≡ g.most → g'.completed ≡ g.completed → g'.leaving ≡ None → g'.operation ≡ g.operation → walk_level g'.walk ≤ 3 → WalkFits g'.walk gpa
          → 3 - walk_level g.walk < private_used (look_up lp'.cached g.tdr (page_of_gpa gpa) access) g'.walk → Made (Walks access gpa) b
      walk_goes g' e t v m k stays same level fits more =
          let due' : operation_due o w g' ≡ Some op = ap (λ (x : ℕ). slice_get (o.codes x (w.vps.indexes g'.vp)) (w.vps.positions g'.vp)) t ∙ (ap (λ (x : ℕ). slice_get (o.codes g.tdr (w.vps.indexes x)) (w.vps.positions x)) v ∙ way.due) in
          let is' : operation_of o g'.tdr g'.vp (length lp'.replies + 1) op ≡ Private access r gpa = ap (λ (x : ℕ). operation_of o x g'.vp (length lp.replies + 1) op) t ∙ (ap (λ (x : ℕ). operation_of o g.tdr x (length lp.replies + 1) op) v ∙ is) in
          let phase' : g'.operation.phase ≡ Trying = ap (λ (x : Progress (Option Outcome)). x.phase) same ∙ way.trying in
          let held' : g'.operation.held ≡ [] = ap (λ (x : Progress (Option Outcome)). x.held) same ∙ private_here.0 in
          let standing : PhaseAt o w lp' g' g'.operation.phase =
          subst (λ (x : Phase (Option Outcome)). PhaseAt o w lp' g' x) (sym phase') (subst (λ (x : Option GuestOp). DueAt o lp' g' x) (sym due') (subst (λ (x : Operation). OperationAt g' x) (sym is') (held', level, fits))) in
          let used' : phase_used o w lp' g' g'.operation.phase ≡ private_used (look_up lp'.cached g.tdr (page_of_gpa gpa) access) g'.walk =
          ap (λ (x : Phase (Option Outcome)). phase_used o w lp' g' x) phase'
          ∙ (ap (λ (x : Option GuestOp). due_used o lp' g' x) due' ∙ (ap (λ (x : Operation). operation_used lp' g' x) is' ∙ ap (λ (x : ℕ). private_used (look_up lp'.cached x (page_of_gpa gpa) access) g'.walk) t)) in
          going o p c cs w lp g i at (3 - walk_level g.walk) way.stays private_more level_now (omega arith) w lp' g' refl refl (guest_made (λ x. settled_guest (walk_step w x access gpa)) ∙ ap Some e) t v m k stays at.occupied standing
          (omega (arith, used', more))

      settled_same : (x : Guest) → x.operation.phase ≡ Trying → settled_guest x ≡ x
      settled_same x e = ap (λ (y : Phase (Option Outcome)). settle_operation y x.operation.held x) e

      abbrev e0 : Entry
      e0 = walked_entry w g gpa

      by_level : (level : ℕ) (ok : Bool) → walk_level g.walk ≡ level → goes_on access level e0 ≡ ok → Made (Walks access gpa) b
      by_level level false l k =
          let stepped : walk_step w g access gpa ≡ record g { operation = record { phase = Answered (Some (EptViolation gpa access)); held = g.operation.held } } =
          ap (λ (x : ℕ). walked_on access gpa (goes_on access x e0) x e0 g) l ∙ ap (λ (x : Bool). walked_on access gpa x level e0 g) k in
          walk_ends _ (ap settled_guest stepped) refl
      by_level zero true l k =
          let stepped : walk_step w g access gpa ≡ record g { walk = None } =
          ap (λ (x : ℕ). walked_on access gpa (goes_on access x e0) x e0 g) l ∙ ap (λ (x : Bool). walked_on access gpa x 0 e0 g) k in
          let now : lp'.cached ≡ cache (translation_of g gpa e0) lp.cached =
          walk_translations_are ∙ (ap (λ (x : ℕ). cached_after (goes_on access x e0) x (translation_of g gpa e0) lp.cached) l ∙ ap (λ (x : Bool). cached_after x 0 (translation_of g gpa e0) lp.cached) k) in
          let found : look_up lp'.cached g.tdr (page_of_gpa gpa) access ≡ Some e0.page =
          ap (λ (x : List Translation). look_up x g.tdr (page_of_gpa gpa) access) now ∙ cached_found (translation_of g gpa e0) lp.cached access (allowed_cached access e0.state (translation_of g gpa e0) refl k) in
          walk_goes (record g { walk = None }) (ap settled_guest stepped ∙ settled_same (record g { walk = None }) way.trying) refl refl refl refl way.stays refl (omega arith) tt
          (let f : private_used (look_up lp'.cached g.tdr (page_of_gpa gpa) access) None ≡ 4 = ap (λ (x : Option ℕ). private_used x None) found in omega (arith, f))
      by_level (suc level) true l k =
          let walk' : Option Walk = Some (record { gpa_page = page_of_gpa gpa; level = level; page = e0.page }) in
          let stepped : walk_step w g access gpa ≡ record g { walk = walk' } =
          ap (λ (x : ℕ). walked_on access gpa (goes_on access x e0) x e0 g) l ∙ ap (λ (x : Bool). walked_on access gpa x (suc level) e0 g) k in
          let now : lp'.cached ≡ lp.cached =
          walk_translations_are ∙ (ap (λ (x : ℕ). cached_after (goes_on access x e0) x (translation_of g gpa e0) lp.cached) l ∙ ap (λ (x : Bool). cached_after x (suc level) (translation_of g gpa e0) lp.cached) k) in
          let still : private_used (look_up lp'.cached g.tdr (page_of_gpa gpa) access) walk' ≡ 3 - level =
          ap (λ (x : List Translation). private_used (look_up x g.tdr (page_of_gpa gpa) access) walk') now ∙ ap (λ (x : Option ℕ). private_used x walk') lost in
          let low = private_here.1 in
          walk_goes (record g { walk = walk' }) (ap settled_guest stepped ∙ settled_same (record g { walk = walk' }) way.trying) refl refl refl refl way.stays refl (omega (arith, l, low)) refl (omega (arith, still, l, low))

      by_walk : Made (Walks access gpa) b
      by_walk = by_level (walk_level g.walk) (goes_on access (walk_level g.walk) e0) refl refl

  -- it is left
  by_leave : (b : Bool) (out : Outcome) → Made (Leaves g.vp out) b
  by_leave b out =
      let held : lp.call.held ≡ guest_locks g.tdr g.vp = freed_locks o p c cs w lp g i at in
      let long : length lp.call.held ≡ 3 = ap length held in
      let lp' : Lp = record lp { guest = None } in
      let was : line_left o w c lp lp.guest ≡ length lp.call.held + 1 + guest_left o w lp g g.leaving = ap (λ (x : Option Guest). line_left o w c lp x) i.guest in
      let most : most_tries c ≡ 4 = ap most_tries at.entered in
      goes_call o p c cs (leave_guest g.vp w) lp' (Answered (Exited out)) lp.call.held (left_of o w (c ∷ cs) lp) refl i.line (omega (arith, long, most))
      (subst (λ (x : List Held). IsNotDone (Answered (Exited out)) x) (sym held) tt) (fits_later c (Exited out) lp.call.held) (omega (arith, was))

-- E is given back
module _ (o : Opening) (p : ℕ) (c : Call) (cs : List Call) (w : World) (lp : Lp) (g : Guest) (h : Held) (hs : List Held) (line : lines_left o p lp ≡ c ∷ cs) (guest : lp.guest ≡ Some g) (held : lp.call.held ≡ h ∷ hs)
    (epoch : is_epoch_lock h.lock ≡ true) (at : InGuest o w p c lp g) where
  entry_is : (lp.call.held ≡ entry_locks g.tdr g.vp) × (g ≡ new_guest (record { tdr = g.tdr; vp = g.vp; most = g.most }))
  entry_is = elim at.locks [
    | inl e ↦ absurd (let same : h ≡ record { lock = OfPage g.vp; mode = Exclusive } = (let x : h ∷ hs ≡ guest_locks g.tdr g.vp = sym held ∙ e in cc) in let no : false ≡ true = ap (λ (x : Held). is_epoch_lock x.lock) (sym same) ∙ epoch in cc)
    | inr e ↦ e
  ]

  by_free : (b : Bool) → Lowers o p (left_of o w (c ∷ cs) lp) w (lp_after w b (OfCall (row_of o p c) (Releases h)) lp)
  by_free b =
      let lp1 : Lp = record lp { call = record { phase = Trying; held = guest_locks g.tdr g.vp } } in
      let same : call_lp w b (row_of o p c) (Releases h) lp ≡ lp1 =
      ap (λ (x : Phase Reply). record lp { call = record { phase = x; held = but_newest lp.call.held } }) at.trying ∙ ap (λ (x : List Held). record lp { call = record { phase = Trying; held = but_newest x } }) entry_is.0 in
      let inside : InGuest o w p c lp1 g = record { entered = at.entered; trying = refl; locks = inl refl; occupied = at.occupied; few = at.few; operation = at.operation } in
      let was : line_left o w c lp lp.guest ≡ length lp.call.held + 1 + guest_left o w lp g g.leaving = ap (λ (x : Option Guest). line_left o w c lp x) guest in
      let long : length lp.call.held ≡ 4 = ap length entry_is.0 in
      let made : Lowers o p (left_of o w (c ∷ cs) lp) w lp1 = record {
        timely = subst (λ (x : List Call). StandsAt o w p x lp1) (sym line) (subst (λ (x : Option Guest). LineAt o w p c lp1 x) (sym guest) inside);
        fewer = subst (λ (x : List Call). left_of o w x lp1 < left_of o w (c ∷ cs) lp) (sym line) (subst (λ (x : Option Guest). line_left o w c lp1 x + events_in cs < left_of o w (c ∷ cs) lp) (sym guest) (omega (arith, was, long)));
      } in
      subst (λ (x : Lp). Lowers o p (left_of o w (c ∷ cs) lp) w (settled x)) (sym same) made

ready_state : (s : VcpuState) → same_vp_state s vcpu.Ready ≡ true → s ≡ vcpu.Ready
ready_state vcpu.Ready e = refl
ready_state vcpu.Created e = cc

-- the act of VP.ENTER leaves its virtual processor in guest
enter_occupies : (o : Opening) (me t v most : ℕ) (w : World) → Passes ((row_of o me (call.VpEnter t v most)).items w) → IsOccupied ((row_of o me (call.VpEnter t v most)).act w) me t v
enter_occupies o me t v most w ps =
    let here : (v == v) ≡ true = eq-eqb v v refl in
    record {
      tdr = tdr_kind _ (search);
      life = configured (w.tds.lives t) (search);
      running = search;
      page = vp_of w t v (search);
      ready = ready_state _ (search);
      associated = rw here refl;
      epoch = w.tds.epochs t;
      entered = rw here refl;
      current = rw here refl;
    }

-- outside guests
module _ (o : Opening) (p : ℕ) (c : Call) (cs : List Call) (w : World) where
  abbrev row : Row
  row = row_of o p c

  module _ (lp : Lp) (g : lp.guest ≡ None) (line : lines_left o p lp ≡ c ∷ cs) (bound : ℕ) (few : length lp.call.held ≤ most_tries c) (fits : lp.call.phase ≡ Trying → LocksFit c Trying lp.call.held)
      (is : 2 * most_tries c + 1 + guest_events c - length lp.call.held + events_in cs ≤ bound) where
    tries : (b : Bool) (l : LockId) (m : Mode) → lp.call.phase ≡ Trying → length lp.call.held < most_tries c → next (row.items w) (length lp.call.held) ≡ Attempts l m → Lowers o p bound w (settled (call_lp w b row (Attempts l m) lp))
    tries true l m t room n = goes_call o p c cs w lp Trying (record { lock = l; mode = m } ∷ lp.call.held) bound g line (omega (arith, room)) tt (fits_more o p c w lp.call.held l m n (fits t)) (omega (arith, room, is))
    tries false l Shared t room n = goes_call o p c cs w lp (Undoing l) lp.call.held bound g line few tt (fits_undo c l lp.call.held) (omega (arith, room, is))
    tries false l Exclusive t room n = answers o p c cs w lp (call_busy (name_of l)) lp.call.held bound g line few (omega (arith, room, is))

    succeeds : lp.call.phase ≡ Trying → next (row.items w) (length lp.call.held) ≡ Succeeds → Lowers o p bound (row.act w) (settled (succeeded w row row.enters lp))
    succeeds t n = elim (enters_or_none o p c) [
      | inl none ↦
          subst (λ (x : Option Entering). Lowers o p bound (row.act w) (settled (succeeded w row x lp))) (sym none)
          (answers o p c cs (row.act w) (record lp { cached = row.cached w lp.cached }) (Done (row.value w)) lp.call.held bound g line few (omega (arith, few, is)))
      | inr x ↦ enters x.0 x.1 x.2 x.3
    ]
      where
        enters : (u v most : ℕ) → c ≡ call.VpEnter u v most → Lowers o p bound (row.act w) (settled (succeeded w row row.enters lp))
        enters u v most same =
            let e : Entering = record { tdr = u; vp = v; most = most } in
            let is_entering : row.enters ≡ Some e = ap (λ (x : Call). (row_of o p x).enters) same in
            let lp1 : Lp = record lp { guest = Some (new_guest e); cached = row.cached w lp.cached } in
            let held : lp.call.held ≡ entry_locks u v =
            enter_held o p u v most w lp.call.held (subst (λ (x : Call). next ((row_of o p x).items w) (length lp.call.held) ≡ Succeeds) same n) (subst (λ (x : Call). LocksFit x Trying lp.call.held) same (fits t)) in
            let long : length lp.call.held ≡ 4 = ap length held in
            let four : most_tries c ≡ 4 = ap most_tries same in
            let most_is : guest_events c ≡ 5 * most + 1 = ap guest_events same in
            let occ : IsOccupied (row.act w) p u v =
            subst (λ (x : Call). IsOccupied ((row_of o p x).act w) p u v) (sym same) (enter_occupies o p u v most w (subst (λ (x : Call). Passes ((row_of o p x).items w)) same (all_pass (row.items w) (length lp.call.held) n))) in
            let inside : InGuest o (row.act w) p c lp1 (new_guest e) = record { entered = same; trying = t; locks = inr (held, refl); occupied = occ; few = omega arith; operation = fresh_at o (row.act w) lp1 (new_guest e) refl refl } in
            let most_left = left_most o (row.act w) lp1 (new_guest e) in
            let made : Lowers o p bound (row.act w) lp1 = record {
              timely = subst (λ (x : List Call). StandsAt o (row.act w) p x lp1) (sym line) inside;
              fewer = subst (λ (x : List Call). left_of o (row.act w) x lp1 < bound) (sym line) (omega (arith, long, four, most_is, most_left, is));
            } in
            subst (λ (x : Option Entering). Lowers o p bound (row.act w) (settled (succeeded w row x lp))) (sym is_entering)
            (subst (λ (x : Phase Reply). Lowers o p bound (row.act w) (settle x lp.call.held lp1)) (sym t) made)

  -- in any phase
  abbrev MadeOutside : Lp → Move Reply → Bool → Type 0
  MadeOutside lp mv b = Lowers o p (left_of o w (c ∷ cs) lp) (call_world row mv w) (settled (call_lp w b row mv lp))

  moves : (lp : Lp) (phase : Phase Reply) (hs : List Held) (b : Move Reply → Bool) → lp.guest ≡ None → lines_left o p lp ≡ c ∷ cs → LineAt o w p c (record lp { call = record { phase = phase; held = hs } }) None
      → let mv = next_in (row.items w) phase hs in MadeOutside (record lp { call = record { phase = phase; held = hs } }) mv (b mv)
  moves lp Trying hs b g line at =
      let lp0 : Lp = record lp { call = record { phase = Trying; held = hs } } in
      let was : line_left o w c lp0 lp0.guest ≡ 2 * most_tries c + 1 + guest_events c - length hs = ap (λ (x : Option Guest). line_left o w c lp0 x) g in
      let few = at.0 in
      let rows : tries_in (row.items w) ≤ most_tries c = row_tries o p c w in
      let bound : ℕ = left_of o w (c ∷ cs) lp0 in
      let is : 2 * most_tries c + 1 + guest_events c - length hs + events_in cs ≤ bound = omega (arith, was) in
      next_is (λ x. next (row.items w) (length hs) ≡ x → MadeOutside lp0 x (b x)) (row.items w) (length hs)
      (λ r n. answers o p c cs w lp0 r hs bound g line few (omega (arith, few, is)))
      (λ n. succeeds lp0 g line bound few (λ t. at.2) is refl n)
      (λ l m room n. tries lp0 g line bound few (λ t. at.2) is (b (Attempts l m)) l m refl (omega (arith, room, rows)) n) refl
  moves lp (Undoing l) hs b g line at =
      let lp0 : Lp = record lp { call = record { phase = Undoing l; held = hs } } in
      let was : line_left o w c lp0 lp0.guest ≡ length hs + 1 = ap (λ (x : Option Guest). line_left o w c lp0 x) g in
      answers o p c cs w lp0 (call_busy (name_of l)) hs (left_of o w (c ∷ cs) lp0) g line at.0 (omega (arith, was))
  moves lp (Answered r) [] b g line at = absurd at.1
  moves lp (Answered r) (h ∷ hs) b g line at =
      let lp0 : Lp = record lp { call = record { phase = Answered r; held = h ∷ hs } } in
      let was : line_left o w c lp0 lp0.guest ≡ suc (length hs) = ap (λ (x : Option Guest). line_left o w c lp0 x) g in
      let few = at.0 in
      answers o p c cs w lp0 r hs (left_of o w (c ∷ cs) lp0) g line (omega (arith, few)) (omega (arith, was))

-- each event of a processor that is timely
module _ (o : Opening) (w : World) (p : ℕ) (lp : Lp) (timely : IsInTime o w p lp) (b : Event → Bool) where
  abbrev After : Event → Type 0
  After e = Lowers o p (left_of o w (lines_left o p lp) lp) (world_after e w) (lp_after w (b e) e lp)

  here_at : (c : Call) (cs : List Call) (x : Option Guest) → lines_left o p lp ≡ c ∷ cs → lp.guest ≡ x → LineAt o w p c lp x
  here_at c cs x line g = subst (λ (y : Option Guest). LineAt o w p c lp y) g (subst (λ (y : List Call). StandsAt o w p y lp) line timely)

  as_line : (c : Call) (cs : List Call) (e : Event) → lines_left o p lp ≡ c ∷ cs → Lowers o p (left_of o w (c ∷ cs) lp) (world_after e w) (lp_after w (b e) e lp) → After e
  as_line c cs e line h = subst (λ (y : List Call). Lowers o p (left_of o w y lp) (world_after e w) (lp_after w (b e) e lp)) (sym line) h

  by_due : (e : Event) → Due o w p lp e → After e
  by_due e (calls c cs line g) =
      let at : LineAt o w p c lp None = here_at c cs None line g in
      as_line c cs (OfCall (row_of o p c) (next_in ((row_of o p c).items w) lp.call.phase lp.call.held)) line (moves o p c cs w lp lp.call.phase lp.call.held (λ m. b (OfCall (row_of o p c) m)) g line at)
  by_due e (frees c cs g h hs line guest held epoch) =
      let x : Event = OfCall (row_of o p c) (Releases h) in as_line c cs x line (by_free o p c cs w lp g h hs line guest held epoch (here_at c cs (Some g) line guest) (b x))
  by_due e (leaves c cs g out i l) = let x : Event = Leaves g.vp out in as_line c cs x i.line (by_leave o p c cs w lp g i (here_at c cs (Some g) i.line i.guest) (b x) out)
  by_due e (stops c cs g i l t d) = let x : Event = Leaves g.vp Stop in as_line c cs x i.line (by_leave o p c cs w lp g i (here_at c cs (Some g) i.line i.guest) (b x) Stop)
  by_due e (fills c cs g op i l t d m) = let x : Event = Leaves g.vp Max in as_line c cs x i.line (by_leave o p c cs w lp g i (here_at c cs (Some g) i.line i.guest) (b x) Max)
  by_due e (operates c cs g op row i way is) =
      as_line c cs (OfOperation row (next (row.items w) (length g.operation.held))) i.line (by_row o p c cs w lp g i (here_at c cs (Some g) i.line i.guest) op row way is (λ m. b (OfOperation row m)))
  by_due e (walks c cs g op access r gpa i way is lost) =
      let x : Event = Walks access gpa in as_line c cs x i.line (by_walk o p c cs w lp g i (here_at c cs (Some g) i.line i.guest) op access r gpa way is (b x) lost)
  by_due e (reaches c cs g op access r gpa page i way is found) =
      let x : Event = Reaches g.tdr g.vp access r gpa page in as_line c cs x i.line (by_reach o p c cs w lp g i (here_at c cs (Some g) i.line i.guest) op access r gpa way is (b x) page found)
  by_due e (undoes c cs g l i s h) = let x : Event = OfOperation nothing_more (Undoes l) in as_line c cs x i.line (by_undo o p c cs w lp g i (here_at c cs (Some g) i.line i.guest) (b x) l s h)
  by_due e (gives_back c cs g out i s h) =
      let x : Event = OfOperation nothing_more (next_in [] (Answered out) g.operation.held) in as_line c cs x i.line (by_release o p c cs w lp g i (here_at c cs (Some g) i.line i.guest) (b x) out s h)

-- an event of another processor leaves a virtual processor in guest as it is

same_world : (w : World) (q t v : ℕ) → IsOccupied w q t v → Spares w w q t v
same_world w q t v x = record { occupied = x; same = record { index = refl; state = refl; associated = refl; last = refl; position = refl; exported = refl; entered = refl; registers = λ r. refl } }

-- two virtual processors in guest on two logical processors are two
two_vps : (w : World) (p q t v u x : ℕ) → IsOccupied w p t v → IsOccupied w q u x → q ≢ p → (x == v) ≡ false
two_vps w p q t v u x a b apart = by_test (x == v)
    (λ y. absurd (apart (some_same q p (sym b.associated ∙ (ap w.vps.associated (eqb-true x v y) ∙ a.associated)))))
    (λ n. n)

module _ (o : Opening) (w : World) (lawful : Lawful o.machine w) (p : ℕ) (lp : Lp) (timely : IsInTime o w p lp) (q u x : ℕ) (occ : IsOccupied w q u x) (apart : q ≢ p)
    (free : 1 ≤ alone_in (OfOp u) lp.call.held → ⊥) where
  abbrev Left : World → Type 0
  Left w' = Spares w w' q u x

  of_call : (c : Call) (mv : Move Reply) → (mv ≡ Succeeds → Passes ((row_of o p c).items w) × (c ≢ call.ExportPause u)) → Left (call_world (row_of o p c) mv w)
  of_call c Succeeds ps = (let k = ps refl in row_spares o p c u k.1 w q x lawful k.0 occ apart)
  of_call c (Attempts l m) ps = same_world w q u x occ
  of_call c (Undoes l) ps = same_world w q u x occ
  of_call c (Refuses r) ps = same_world w q u x occ
  of_call c (Releases h) ps = same_world w q u x occ
  of_call c Rests ps = same_world w q u x occ

  passed : (items : List (Item Reply)) (phase : Phase Reply) (hs : List Held) → next_in items phase hs ≡ Succeeds → Passes items
  passed items Trying hs e = all_pass items (length hs) e
  passed items (Undoing l) hs e = cc
  passed items (Answered r) [] e = cc
  passed items (Answered r) (h ∷ hs) e = cc

  -- EXPORT.PAUSE of its TD would hold O alone
  not_paused : (c : Call) (cs : List Call) → lines_left o p lp ≡ c ∷ cs → lp.guest ≡ None → next_in ((row_of o p c).items w) lp.call.phase lp.call.held ≡ Succeeds → c ≢ call.ExportPause u
  not_paused c cs line g n same =
      let at : LineAt o w p c lp None = subst (λ (y : Option Guest). LineAt o w p c lp y) g (subst (λ (y : List Call). StandsAt o w p y lp) line timely) in
      free (by lp.call.phase lp.call.held n at.2)
    where
      by : (phase : Phase Reply) (hs : List Held) → next_in ((row_of o p c).items w) phase hs ≡ Succeeds → LocksFit c phase hs → 1 ≤ alone_in (OfOp u) hs
      by Trying hs n f = pause_held o p u w hs (subst (λ (z : Call). next ((row_of o p z).items w) (length hs) ≡ Succeeds) same n) (subst (λ (z : Call). LocksFit z Trying hs) same f)
      by (Undoing l) hs n f = cc
      by (Answered r) [] n f = cc
      by (Answered r) (h ∷ hs) n f = cc

  module _ (g : Guest) (own : IsOccupied w p g.tdr g.vp) where
    off : (x == g.vp) ≡ false
    off = two_vps w p q g.tdr g.vp u x own occ apart

    moved : (w' : World) → w'.pages ≡ w.pages → w'.tds.lives ≡ w.tds.lives → w'.tds.ops ≡ w.tds.ops → w'.vps ≡ record (w.vps) { positions = put w.vps.positions g.vp (w.vps.positions g.vp + 1) }
        → ((r : ℕ) → w'.hidden.registers x r ≡ w.hidden.registers x r) → Left w'
    moved w' a lives ops d k = record {
      occupied = still_occupied w w' q u x a lives ops (ap (λ (z : Vps). z.states) d) (ap (λ (z : Vps). z.associated) d) (ap (λ (z : Vps). z.lasts) d) (ap (λ (z : Vps). z.entered) d) occ;
      same = record {
        index = ap (λ (z : Vps). z.indexes x) d;
        state = ap (λ (z : Vps). z.states x) d;
        associated = ap (λ (z : Vps). z.associated x) d;
        last = ap (λ (z : Vps). z.lasts x) d;
        position = ap (λ (z : Vps). z.positions x) d ∙ (let n = off in rw n refl);
        exported = ap (λ (z : Vps). z.exported x) d;
        registers = k;
        entered = ap (λ (z : Vps). z.entered x) d;
      };
    }

    of_operation_act : (line : ℕ) (op : GuestOp) (row : OperationRow) → operation_of o g.tdr g.vp line op ≡ ByRow row → Left (tell_words (row.tells w) (row.act w))
    of_operation_act line op row is =
        operation_row o g.tdr g.vp line (λ y. Left (tell_words (y.tells w) (y.act w)))
        (λ r n. moved _ refl refl refl refl (λ k. let d = off in rw d refl)) (λ r s. moved _ refl refl refl refl (λ k. let d = off in rw d refl)) (λ r gpa. moved _ refl refl refl refl (λ k. let d = off in rw d refl)) (λ r gpa. moved _ refl refl refl refl (λ k. refl))
        (λ gpa. accepted (λ z. Left (tell_words [] (pass_operation g.vp z))) (is_pending_at w g.tdr gpa) g.tdr gpa w (λ pends. moved _ refl refl refl refl (λ k. refl)) (λ stays. moved _ refl refl refl refl (λ k. refl)))
        (λ i. moved _ refl refl refl refl (λ k. refl)) (moved _ refl refl refl refl (λ k. refl)) (λ r. moved _ refl refl refl refl (λ k. refl)) op row is

    of_operation : (line : ℕ) (op : GuestOp) (row : OperationRow) (mv : Move (Option Outcome)) → operation_of o g.tdr g.vp line op ≡ ByRow row → Left (operation_world row mv w)
    of_operation line op r Succeeds is = of_operation_act line op r is
    of_operation line op r (Attempts l m) is = same_world w q u x occ
    of_operation line op r (Undoes l) is = same_world w q u x occ
    of_operation line op r (Refuses out) is = same_world w q u x occ
    of_operation line op r (Releases h) is = same_world w q u x occ
    of_operation line op r Rests is = same_world w q u x occ

    of_ending : (out : Option Outcome) (hs : List Held) → Left (operation_world nothing_more (next_in [] (Answered out) hs) w)
    of_ending out [] = same_world w q u x occ
    of_ending out (h ∷ hs) = same_world w q u x occ

    of_reach : (access : Access) (r gpa page : ℕ) → Left (reach g.tdr g.vp access r gpa page w)
    of_reach Read r gpa page = moved _ refl refl refl refl (λ k. let n = off in rw n refl)
    of_reach Write r gpa page = moved _ refl refl refl refl (λ k. refl)

    of_leave : Left (leave_guest g.vp w)
    of_leave = record {
      occupied = record { tdr = occ.tdr; life = occ.life; running = occ.running; page = record { kind = occ.page.kind; owner = occ.page.owner }; ready = occ.ready; associated = occ.associated; epoch = occ.epoch; entered = (let n = off in rw n (occ.entered)); current = occ.current };
      same = record { index = refl; state = refl; associated = refl; last = refl; position = refl; exported = refl; entered = (let n = off in rw n refl); registers = λ r. refl };
    }

  own_of : (c : Call) (cs : List Call) (g : Guest) → IsInside o p lp c cs g → IsOccupied w p g.tdr g.vp
  own_of c cs g i = (subst (λ (y : Option Guest). LineAt o w p c lp y) i.guest (subst (λ (y : List Call). StandsAt o w p y lp) i.line timely)).occupied

  others_left : (e : Event) → Due o w p lp e → Left (world_after e w)
  others_left e (calls c cs line g) =
      of_call c (next_in ((row_of o p c).items w) lp.call.phase lp.call.held) (λ n. (passed ((row_of o p c).items w) lp.call.phase lp.call.held n, not_paused c cs line g n))
  others_left e (frees c cs g h hs line guest held epoch) = same_world w q u x occ
  others_left e (leaves c cs g out i l) = of_leave g (own_of c cs g i)
  others_left e (stops c cs g i l t d) = of_leave g (own_of c cs g i)
  others_left e (fills c cs g op i l t d m) = of_leave g (own_of c cs g i)
  others_left e (operates c cs g op row i way is) = of_operation g (own_of c cs g i) (length lp.replies + 1) op row (next (row.items w) (length g.operation.held)) is
  others_left e (walks c cs g op access r gpa i way is lost) = same_world w q u x occ
  others_left e (reaches c cs g op access r gpa page i way is found) = of_reach g (own_of c cs g i) access r gpa page
  others_left e (undoes c cs g l i s h) = same_world w q u x occ
  others_left e (gives_back c cs g out i s h) = of_ending g (own_of c cs g i) out g.operation.held

-- where a processor stands depends on its own virtual processor alone

pub same_due : (o : Opening) (w w' : World) (g : Guest) → SameVp w w' g.vp → operation_due o w' g ≡ operation_due o w g
same_due o w w' g same = ap (λ (n : ℕ). slice_get (o.codes g.tdr n) (w'.vps.positions g.vp)) same.index ∙ ap (λ (n : ℕ). slice_get (o.codes g.tdr (w.vps.indexes g.vp)) n) same.position

guest_stands : (o : Opening) (w w' : World) (lp : Lp) (g : Guest) (leaving : Option Outcome) → SameVp w w' g.vp → GuestAt o w lp g leaving → GuestAt o w' lp g leaving
guest_stands o w w' lp g (Some out) same h = h
guest_stands o w w' lp g None same h = by g.operation.phase h
  where
    by : (phase : Phase (Option Outcome)) → PhaseAt o w lp g phase → PhaseAt o w' lp g phase
    by Trying h = subst (λ (x : Option GuestOp). DueAt o lp g x) (sym (same_due o w w' g same)) h
    by (Undoing l) h = h
    by (Answered out) h = h

guest_same : (o : Opening) (w w' : World) (lp : Lp) (g : Guest) (leaving : Option Outcome) → SameVp w w' g.vp → guest_left o w' lp g leaving ≡ guest_left o w lp g leaving
guest_same o w w' lp g (Some out) same = refl
guest_same o w w' lp g None same = ap (λ (n : ℕ). 5 * (g.most - g.completed) - n) (by g.operation.phase)
  where
    by : (phase : Phase (Option Outcome)) → phase_used o w' lp g phase ≡ phase_used o w lp g phase
    by Trying = ap (λ (x : Option GuestOp). due_used o lp g x) (same_due o w w' g same)
    by (Undoing l) = refl
    by (Answered out) = refl

module _ (o : Opening) (w w' : World) (q : ℕ) (lp : Lp) (leave : (c : Call) (cs : List Call) (g : Guest) → lines_left o q lp ≡ c ∷ cs → InGuest o w q c lp g → Spares w w' q g.tdr g.vp) where
  line_stands : (c : Call) (cs : List Call) (g : Option Guest) → lines_left o q lp ≡ c ∷ cs → LineAt o w q c lp g → LineAt o w' q c lp g
  line_stands c cs None line h = h
  line_stands c cs (Some g) line h =
      let l = leave c cs g line h in
      record { entered = h.entered; trying = h.trying; locks = h.locks; occupied = l.occupied; few = h.few; operation = guest_stands o w w' lp g g.leaving l.same h.operation }

  line_same : (c : Call) (cs : List Call) (g : Option Guest) → lines_left o q lp ≡ c ∷ cs → LineAt o w q c lp g → line_left o w' c lp g ≡ line_left o w c lp g
  line_same c cs None line h = refl
  line_same c cs (Some g) line h = ap (λ (n : ℕ). length lp.call.held + 1 + n) (guest_same o w w' lp g g.leaving (leave c cs g line h).same)

  stands_still : (cs : List Call) → lines_left o q lp ≡ cs → StandsAt o w q cs lp → StandsAt o w' q cs lp
  stands_still [] line h = h
  stands_still (c ∷ cs) line h = line_stands c cs lp.guest line h

  left_same : (cs : List Call) → lines_left o q lp ≡ cs → StandsAt o w q cs lp → left_of o w' cs lp ≡ left_of o w cs lp
  left_same [] line h = refl
  left_same (c ∷ cs) line h = ap (λ (n : ℕ). n + events_in cs) (line_same c cs lp.guest line h)

module _ (o : Opening) (s : State) (p : ℕ) (e : Event) (is : next_event o s p ≡ Some e) (h : AreTimely o s) where
  lowers : Lowers o p (events_left o s p) (world_after e s.world) (lp_after s.world (is_granted s e) e (s.lps p))
  lowers = by_due o s.world p (s.lps p) (h.each p) (is_granted s) e (due_event_is o s p e is)

  in_machine : (q : ℕ) (c : Call) (cs : List Call) → lines_left o q (s.lps q) ≡ c ∷ cs → q < s.lp_count
  in_machine q c cs line = (let b = below_calls o.calls q (length (s.lps q).replies) c cs line in let count = h.count in omega (arith, b, count))

  used : (t : ℕ) → 1 ≤ alone_in (OfOp t) (s.lps p).call.held → p < s.lp_count
  used t some = by (lines_left o p (s.lps p)) refl (h.each p)
    where
      by : (cs : List Call) → lines_left o p (s.lps p) ≡ cs → StandsAt o s.world p cs (s.lps p) → p < s.lp_count
      by [] line at = absurd (let none : alone_in (OfOp t) (s.lps p).call.held ≡ 0 = ap (λ (x : Progress Reply). alone_in (OfOp t) x.held) at.1 in omega (arith, none, some))
      by (c ∷ cs) line at = in_machine p c cs line

  -- a guest's VP.ENTER shares O of its TD
  guest_shares : (q : ℕ) (c : Call) (g : Guest) → InGuest o s.world q c (s.lps q) g → 1 ≤ shared_in (OfOp g.tdr) (s.lps q).call.held
  guest_shares q c g at =
      let here : (g.tdr == g.tdr) ≡ true = eq-eqb g.tdr g.tdr refl in
      elim at.locks [
        | inl e ↦
            let one : shared_in (OfOp g.tdr) (guest_locks g.tdr g.vp) ≡ 1 = rw here refl in
            let same = ap (shared_in (OfOp g.tdr)) e in
            omega (arith, one, same)
        | inr e ↦
            let one : shared_in (OfOp g.tdr) (entry_locks g.tdr g.vp) ≡ 1 = rw here refl in
            let same = ap (shared_in (OfOp g.tdr)) e.0 in
            omega (arith, one, same)
      ]

  -- so nobody holds it alone
  free_beside : (q : ℕ) (c : Call) (cs : List Call) (g : Guest) → lines_left o q (s.lps q) ≡ c ∷ cs → InGuest o s.world q c (s.lps q) g → 1 ≤ alone_in (OfOp g.tdr) (s.lps p).call.held → ⊥
  free_beside q c cs g line at some =
      let sole = h.exclusive (OfOp g.tdr) in
      let alone : alone_in (OfOp g.tdr) (s.lps p).call.held ≤ alone_of (OfOp g.tdr) (s.lps p) = omega arith in
      let shares : shared_in (OfOp g.tdr) (s.lps q).call.held ≤ shared_of (OfOp g.tdr) (s.lps q) = omega arith in
      let mine = le-sum (λ k. alone_of (OfOp g.tdr) (s.lps k)) p s.lp_count (used g.tdr some) in
      let theirs = le-sum (λ k. shared_of (OfOp g.tdr) (s.lps k)) q s.lp_count (in_machine q c cs line) in
      let one = guest_shares q c g at in
      elim sole.apart [
        | inl none ↦ omega (arith, none, mine, alone, some)
        | inr none ↦ omega (arith, none, theirs, shares, one)
      ]

  leave_line : (q : ℕ) → q ≢ p → (c : Call) (cs : List Call) (g : Guest) → lines_left o q (s.lps q) ≡ c ∷ cs → InGuest o s.world q c (s.lps q) g → Spares s.world (world_after e s.world) q g.tdr g.vp
  leave_line q apart c cs g line at = others_left o s.world h.lawful p (s.lps p) (h.each p) q g.tdr g.vp at.occupied apart (free_beside q c cs g line at) e (due_event_is o s p e is)

  pub leave : (q : ℕ) (g : Guest) → q ≢ p → (s.lps q).guest ≡ Some g → Spares s.world (world_after e s.world) q g.tdr g.vp
  leave q g apart guest = by (lines_left o q (s.lps q)) refl (h.each q)
    where
      by : (cs : List Call) → lines_left o q (s.lps q) ≡ cs → StandsAt o s.world q cs (s.lps q) → Spares s.world (world_after e s.world) q g.tdr g.vp
      by [] line at = absurd (let no : None ≡ Some g = sym at.0 ∙ guest in cc)
      by (c ∷ cs) line at = leave_line q apart c cs g line (subst (λ (y : Option Guest). LineAt o s.world q c (s.lps q) y) guest at)

  pub timely_step : AreTimely o (after_event p s (Some e))
  timely_step = record {
    lawful = subst (λ (t : State). Lawful o.machine t.world) (ap (λ (x : Option Event). after_event p s x) is) (events_keep o s p h.lawful (timely_runs o s.world p (calls_of o.calls p) (s.lps p) (h.each p)));
    exclusive = exclusive_step o s p e is h.exclusive;
    count = h.count;
    each = λ q. by_test (q == p)
        (λ y. let here : p ≡ q = sym (eqb-true q p y) in rw y (subst (λ (x : ℕ). IsInTime o (world_after e s.world) x (lp_after s.world (is_granted s e) e (s.lps p))) here (lowers.timely)))
        (λ n. rw n (stands_still o s.world (world_after e s.world) q (s.lps q) (leave_line q (eqb-false q p n)) (lines_left o q (s.lps q)) refl (h.each q)));
  }

  other_left : (q : ℕ) → q ≢ p → left_of o (world_after e s.world) (lines_left o q (s.lps q)) (s.lps q) ≡ events_left o s q
  other_left q apart = left_same o s.world (world_after e s.world) q (s.lps q) (leave_line q apart) (lines_left o q (s.lps q)) refl (h.each q)

-- none of this is about bundles
line_rebundled : (o : Opening) (bundles : ℕ → Option Incoming) (w : World) (p : ℕ) (c : Call) (lp : Lp) (g : Option Guest) → LineAt o w p c lp g → LineAt (with_bundles o bundles) w p c lp g
line_rebundled o bundles w p c lp None h = h
line_rebundled o bundles w p c lp (Some g) h = record { entered = h.entered; trying = h.trying; locks = h.locks; occupied = h.occupied; few = h.few; operation = h.operation }

stands_rebundled : (o : Opening) (bundles : ℕ → Option Incoming) (w : World) (p : ℕ) (cs : List Call) (lp : Lp) → StandsAt o w p cs lp → StandsAt (with_bundles o bundles) w p cs lp
stands_rebundled o bundles w p [] lp h = h
stands_rebundled o bundles w p (c ∷ cs) lp h = line_rebundled o bundles w p c lp lp.guest h

pub timely_rebundled : (o : Opening) (bundles : ℕ → Option Incoming) (s : State) → AreTimely o s → AreTimely (with_bundles o bundles) s
timely_rebundled o bundles s h = record { lawful = h.lawful; exclusive = h.exclusive; count = h.count; each = λ q. stands_rebundled o bundles s.world q (lines_left o q (s.lps q)) (s.lps q) (h.each q) }

pub timeliness_kept : TimelinessIsKept
timeliness_kept = record {
  start = λ o ws. record { lawful = first-lawful o.machine ws; exclusive = exclusion_kept.start o ws; count = refl; each = λ q. fresh_stands o (start o ws).world q (calls_of o.calls q) idle refl refl };
  event = λ o bundles s p h.
      timely_rebundled (with_bundles o bundles) o.bundles (event (with_bundles o bundles) s p)
      (event_keeps (with_bundles o bundles) (AreTimely (with_bundles o bundles)) (timely_step (with_bundles o bundles)) s p (timely_rebundled o bundles s h));
}

pub always_timely : HoldsInRuns AreTimely
always_timely = in_runs AreTimely timeliness_kept

pub events_spare : EventsSpare
events_spare = record {
  occupied = λ o s p g h guest. occupied o s p g h guest;
  spared = λ o bundles s p q g h guest apart. spared (with_bundles o bundles) s p q g (timely_rebundled o bundles s h) guest (λ e. apart (sym e)) (next_event (with_bundles o bundles) s q) refl;
}
  where
    occupied : (o : Opening) (s : State) (p : ℕ) (g : Guest) → AreTimely o s → (s.lps p).guest ≡ Some g → IsOccupied s.world p g.tdr g.vp
    occupied o s p g h guest = timely_occupied o s.world p (calls_of o.calls p) (s.lps p) (h.each p) g guest

    spared : (o : Opening) (s : State) (p q : ℕ) (g : Guest) → AreTimely o s → (s.lps p).guest ≡ Some g → p ≢ q → (x : Option Event) → next_event o s q ≡ x → Spares s.world (after_event q s x).world p g.tdr g.vp
    spared o s p q g h guest apart None is = same_world s.world p g.tdr g.vp (occupied o s p g h guest)
    spared o s p q g h guest apart (Some e) is = leave o s q e is h p g apart guest

event_lowers : (o : Opening) (s : State) (p : ℕ) (e : Event) → AreTimely o s → next_event o s p ≡ Some e → events_left o (event o s p) p < events_left o s p
event_lowers o s p e h is =
    let x : Lp = lp_after s.world (is_granted s e) e (s.lps p) in
    let after_is : event o s p ≡ after_event p s (Some e) = ap (λ (y : Option Event). after_event p s y) is in
    let here : (after_event p s (Some e)).lps p ≡ x = put_here s.lps p x in
    subst (λ (t : State). events_left o t p < events_left o s p) (sym after_is)
    (subst (λ (y : Lp). left_of o (world_after e s.world) (lines_left o p y) y < events_left o s p) (sym here) (lowers o s p e is h).fewer)

pub runs_out : EventsRunOut
runs_out o ws ls p e is = event_lowers o (play o ls (start o ws)) p e (always_timely o ws ls) is

-- over a schedule
pub one_item : (o : Opening) (s : State) (p q : ℕ) → AreTimely o s → events_left o (event o s q) p ≤ events_left o s p - one_if (q == p)
one_item o s p q h = by_test (q == p)
    (λ y. (let here : q ≡ p = eqb-true q p y in
    rw y (subst (λ (x : ℕ). events_left o (event o s x) p ≤ events_left o s p - 1) (sym here) (mine (next_event o s p) refl))))
    (λ y. rw y (others (λ e. eqb-false q p y (sym e)) (next_event o s q) refl))
  where
    mine : (x : Option Event) → next_event o s p ≡ x → events_left o (event o s p) p ≤ events_left o s p - 1
    mine None is =
        let same : event o s p ≡ s = ap (λ (y : Option Event). after_event p s y) is in
        let none : events_left o s p ≡ 0 = ended (lines_left o p (s.lps p)) is in
        subst (λ (t : State). events_left o t p ≤ events_left o s p - 1) (sym same) (omega arith)
      where
        ended : (cs : List Call) → event_for o s.world p (s.lps p) cs ≡ None → left_of o s.world cs (s.lps p) ≡ 0
        ended [] e = refl
        ended (c ∷ cs) e = cc
    mine (Some e) is = let l = event_lowers o s p e h is in omega arith

    others : p ≢ q → (x : Option Event) → next_event o s q ≡ x → events_left o (after_event q s x) p ≤ events_left o s p - 0
    others n None is = omega arith
    others n (Some e) is =
        let ne : (p == q) ≡ false = ne_eqb p q n in
        let same = other_left o s q e is h p n in
        rw ne (omega (arith, same))

schedule_lowers : (o : Opening) (p : ℕ) (ls : List ℕ) (s : State) → AreTimely o s → events_left o (play o ls s) p ≤ events_left o s p - own_items p ls
schedule_lowers o p [] s h = omega arith
schedule_lowers o p (q ∷ qs) s h =
    let rest = schedule_lowers o p qs (event o s q) (event_keeps o (AreTimely o) (timely_step o) s q h) in
    let one = one_item o s p q h in
    omega arith

pub items_append : (p : ℕ) (xs ys : List ℕ) → own_items p (xs ++ ys) ≡ own_items p xs + own_items p ys
items_append p [] ys = omega arith
items_append p (x ∷ xs) ys = omega (arith, items_append p xs ys)

pub items_replicate : (p n : ℕ) → own_items p (replicate n p) ≡ n
items_replicate p zero = refl
items_replicate p (suc n) = let e : (p == p) ≡ true = eq-eqb p p refl in rw e (omega (arith, items_replicate p n))

-- the end of a run has as many items for each processor as its lines can need
pub items_end : (css : List (List Call)) (k p q : ℕ) → q ≡ k + p → events_in (calls_of css p) ≤ own_items q (to_the_end k css)
items_end [] k p q e = omega arith
items_end (cs ∷ css) k zero q e =
    let here : q ≡ k = omega arith in
    subst (λ (x : ℕ). events_in cs ≤ own_items x (replicate (events_in cs) k ++ to_the_end (suc k) css)) (sym here)
    (omega (arith, items_append k (replicate (events_in cs) k) (to_the_end (suc k) css), items_replicate k (events_in cs)))
items_end (cs ∷ css) k (suc p) q e =
    omega (arith, items_append q (replicate (events_in cs) k) (to_the_end (suc k) css), items_end css (suc k) p q (omega arith))

-- a line that is left has an event left
some_left : (o : Opening) (w : World) (p : ℕ) (c : Call) (lp : Lp) (g : Option Guest) → LineAt o w p c lp g → 1 ≤ line_left o w c lp g
some_left o w p c lp (Some g) h = omega arith
some_left o w p c lp None h = by lp.call.phase lp.call.held h
  where
    by : (phase : Phase Reply) (hs : List Held) → (length hs ≤ most_tries c) × IsNotDone phase hs × LocksFit c phase hs → 1 ≤ call_left (most_tries c) (guest_events c) phase (length hs)
    by Trying hs x = let few = x.0 in omega (arith, few)
    by (Undoing l) hs x = omega arith
    by (Answered r) [] x = absurd x.1
    by (Answered r) (y ∷ hs) x = omega arith

none_left : (o : Opening) (s : State) (p : ℕ) (cs : List Call) → StandsAt o s.world p cs (s.lps p) → left_of o s.world cs (s.lps p) ≡ 0 → event_for o s.world p (s.lps p) cs ≡ None
none_left o s p [] t e = refl
none_left o s p (c ∷ cs) t e = absurd (let l = some_left o s.world p c (s.lps p) (s.lps p).guest t in omega arith)

pub timely_run_out : TimelyEventsRunOut
timely_run_out = record {
  lowers = λ o bundles s p e h is. event_lowers (with_bundles o bundles) s p e (timely_rebundled o bundles s h) is;
  ended = λ o bundles s p h none. none_left (with_bundles o bundles) s p (lines_left o p (s.lps p)) ((timely_rebundled o bundles s h).each p) none;
}

pub runs_end : RunsEnd
runs_end o ws ls p =
    let s0 = start o ws in
    let end = to_the_end 0 o.calls in
    let first : AreTimely o s0 = always_timely o ws [] in
    let middle : AreTimely o (play o ls s0) = always_timely o ws ls in
    let last : AreTimely o (play o (ls ++ end) s0) = always_timely o ws (ls ++ end) in
    let begin : events_left o s0 p ≡ events_in (calls_of o.calls p) = fresh_left o (start o ws).world (calls_of o.calls p) idle refl in
    let so_far = schedule_lowers o p ls s0 first in
    let to_end = schedule_lowers o p end (play o ls s0) middle in
    let enough = items_end o.calls 0 p p (omega arith) in
    let same : events_left o (play o (ls ++ end) s0) p ≡ events_left o (play o end (play o ls s0)) p = ap (λ (t : State). events_left o t p) (play_append o ls end s0) in
    let zero_left : events_left o (play o (ls ++ end) s0) p ≡ 0 = omega arith in
    none_left o (play o (ls ++ end) s0) p (lines_left o p ((play o (ls ++ end) s0).lps p)) (last.each p) zero_left

module _ (o : Opening) (s : State) (p : ℕ) where
  line_bounded : (c : Call) (cs : List Call) (g : Option Guest) → lines_left o p (s.lps p) ≡ c ∷ cs → LineAt o s.world p c (s.lps p) g → IfSome g (IsBounded o p (s.lps p))
  line_bounded c cs None line h = tt
  line_bounded c cs (Some g) line h = record { rest = cs; line = line ∙ ap (λ (x : Call). x ∷ cs) h.entered; few = h.few }

  stands_bounded : (cs : List Call) → lines_left o p (s.lps p) ≡ cs → StandsAt o s.world p cs (s.lps p) → IfSome (s.lps p).guest (IsBounded o p (s.lps p))
  stands_bounded [] line h = subst (λ (g : Option Guest). IfSome g (IsBounded o p (s.lps p))) (sym h.0) tt
  stands_bounded (c ∷ cs) line h = line_bounded c cs (s.lps p).guest line h

pub entries_bounded : EntriesAreBounded
entries_bounded o ws ls p = let s = reached o ws ls in stands_bounded o s p (lines_left o p (s.lps p)) refl ((always_timely o ws ls).each p)
