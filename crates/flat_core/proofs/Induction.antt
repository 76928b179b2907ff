-- The inductions over a run, written once: what each event keeps of the state, what each act keeps of the world, what
-- each event keeps of the processors' records, and what one event in each of two runs keeps of both.
use Rattle.std.proofs.Common.{◌≡◌, refl, ℕ, zero, suc, ◌+◌, List, [], ◌∷◌, ◌++◌, length, Option, Some, None, Bool, true, false}
use Rattle.td_words.specs.declared.names.Access.{Access}
use Rattle.td_words.specs.declared.calls.Call.{Call}
use Rattle.td_words.specs.declared.calls.GuestOp.{GuestOp}
use Rattle.td_words.specs.declared.replies.Outcome.{Outcome}
use Rattle.td_words.specs.declared.replies.Reply.{Reply}
use Rattle.flat_core.specs.World.{World}
use Rattle.flat_core.specs.Processor.{Phase, Trying, Undoing, Answered, Held, Guest, Lp}
use Rattle.flat_core.specs.Opening.{Opening}
use Rattle.flat_core.specs.Row.{Item, Check, Try, Row, OperationRow, Passes, next, next_in}
use Rattle.flat_core.specs.Table.{row_of}
use Rattle.flat_core.specs.Tree.{page_of_gpa}
use Rattle.flat_core.specs.Guest.{Operation, ByRow, Private, operation_of, reach}
use Rattle.flat_core.specs.Effects.{leave_guest, tell_words}
use Rattle.flat_core.specs.Translations.{look_up}
use Rattle.flat_core.specs.Event.{State, Event, next_event, event_for, line_event, entered_event, epoch_event, max_event, guest_event, staying_event, due_event, operation_due, operation_event, private_event, lines_left, is_epoch_lock, nothing_more, world_after, call_world, operation_world, after_event, event, start}
use Rattle.flat_core.specs.Run.{play}
use Rattle.flat_core.specs.Laws.{IsKept, IsKeptInRuns, HoldsInRuns}
use Rattle.std.specs.Prelude.{nat_le}

-- what every event keeps of the state, every schedule keeps
module _ (o : Opening) (Q : State → Type 0) (step : (s : State) (p : ℕ) (e : Event) → next_event o s p ≡ Some e → Q s → Q (after_event p s (Some e))) where
  pub event_keeps : (s : State) (p : ℕ) → Q s → Q (event o s p)
  event_keeps s p h = by (next_event o s p) refl
    where
      by : (x : Option Event) → next_event o s p ≡ x → Q (after_event p s x)
      by None e = h
      by (Some x) e = step s p x e h

  pub play_keeps : (ps : List ℕ) (s : State) → Q s → Q (play o ps s)
  play_keeps [] s h = h
  play_keeps (p ∷ ps) s h = play_keeps ps (event o s p) (event_keeps s p h)

-- what every run starts with and one event keeps, every schedule keeps
pub in_runs : (holds : Opening → State → Type 0) → IsKept holds → HoldsInRuns holds
in_runs holds kept o ws schedule = by schedule (start o ws) (kept.start o ws)
  where
    by : (ps : List ℕ) (s : State) → holds o s → holds o (play o ps s)
    by [] s h = h
    by (p ∷ ps) s h = by ps (event o s p) (kept.event o o.bundles s p h)

-- so too what goes by the bundles that have come in
pub in_runs_of : (holds : Opening → State → Type 0) → IsKeptInRuns holds → HoldsInRuns holds
in_runs_of holds kept o ws schedule = by schedule (start o ws) (kept.start o ws)
  where
    by : (ps : List ℕ) (s : State) → holds o s → holds o (play o ps s)
    by [] s h = h
    by (p ∷ ps) s h = by ps (event o s p) (kept.event o s p h)

-- as many processors as before
pub count_stays : (o : Opening) (s : State) (p : ℕ) → (event o s p).lp_count ≡ s.lp_count
count_stays o s p = event_keeps o (λ (t : State). t.lp_count ≡ s.lp_count) (λ t q e is h. h) s p refl

pub counts_stay : (o : Opening) (ps : List ℕ) (s : State) → (play o ps s).lp_count ≡ s.lp_count
counts_stay o ps s = play_keeps o (λ (t : State). t.lp_count ≡ s.lp_count) (λ t q e is h. h) ps s refl

pub play_append : (o : Opening) (xs ys : List ℕ) (s : State) → play o (xs ++ ys) s ≡ play o ys (play o xs s)
play_append o [] ys s = refl
play_append o (x ∷ xs) ys s = play_append o xs ys (event o s x)

-- what one event in each of two runs keeps of both, every schedule keeps
module _ (o o' : Opening) (R : State → State → Type 0) (step : (s t : State) (p : ℕ) → R s t → R (event o s p) (event o' t p)) where
  pub both_play : (ps : List ℕ) (s t : State) → R s t → R (play o ps s) (play o' ps t)
  both_play [] s t h = h
  both_play (p ∷ ps) s t h = both_play ps (event o s p) (event o' t p) (step s t p h)

-- what each act, each access of a guest and each count step keeps of the world, every event keeps
module _ (o : Opening) (P : World → Type 0)
    (calls : (me : ℕ) (c : Call) (w : World) → P w → Passes ((row_of o me c).items w) → P ((row_of o me c).act w))
    (operations : (t v line : ℕ) (op : GuestOp) (row : OperationRow) (w : World) → operation_of o t v line op ≡ ByRow row → P w → Passes (row.items w) → P (tell_words (row.tells w) (row.act w)))
    (reaches : (t v line : ℕ) (op : GuestOp) (access : Access) (r gpa page : ℕ) (w : World) → operation_of o t v line op ≡ Private access r gpa → P w → P (reach t v access r gpa page w))
    (leaves : (v : ℕ) (w : World) → P w → P (leave_guest v w)) where
  by_items : (row : Row) (w : World) (items : List (Item Reply)) (n : ℕ) → P w → (Passes items → P (row.act w)) → P (call_world row (next items n) w)
  by_items row w [] n h act = act tt
  by_items row w (Check true r ∷ items) n h act = by_items row w items n h (λ ps. act (refl, ps))
  by_items row w (Check false r ∷ items) n h act = h
  by_items row w (Try l m ∷ items) zero h act = h
  by_items row w (Try l m ∷ items) (suc n) h act = by_items row w items n h act

  by_call : (row : Row) (w : World) (phase : Phase Reply) (hs : List Held) → P w → (Passes (row.items w) → P (row.act w)) → P (call_world row (next_in (row.items w) phase hs) w)
  by_call row w Trying hs h act = by_items row w (row.items w) (length hs) h act
  by_call row w (Undoing l) hs h act = h
  by_call row w (Answered r) [] h act = h
  by_call row w (Answered r) (x ∷ hs) h act = h

  by_operation_items : (row : OperationRow) (w : World) (items : List (Item (Option Outcome))) (n : ℕ) → P w → (Passes items → P (tell_words (row.tells w) (row.act w))) → P (operation_world row (next items n) w)
  by_operation_items row w [] n h act = act tt
  by_operation_items row w (Check true r ∷ items) n h act = by_operation_items row w items n h (λ ps. act (refl, ps))
  by_operation_items row w (Check false r ∷ items) n h act = h
  by_operation_items row w (Try l m ∷ items) zero h act = h
  by_operation_items row w (Try l m ∷ items) (suc n) h act = by_operation_items row w items n h act

  by_operation_row : (row : OperationRow) (w : World) (phase : Phase (Option Outcome)) (hs : List Held) → P w → (Passes (row.items w) → P (tell_words (row.tells w) (row.act w))) → P (operation_world row (next_in (row.items w) phase hs) w)
  by_operation_row row w Trying hs h act = by_operation_items row w (row.items w) (length hs) h act
  by_operation_row row w (Undoing l) hs h act = h
  by_operation_row row w (Answered r) [] h act = h
  by_operation_row row w (Answered r) (x ∷ hs) h act = h

  by_private : (w : World) (g : Guest) (line : ℕ) (op : GuestOp) (access : Access) (r gpa : ℕ) (found : Option ℕ) → operation_of o g.tdr g.vp line op ≡ Private access r gpa → P w → P (world_after (private_event g access r gpa found) w)
  by_private w g line op access r gpa None e h = h
  by_private w g line op access r gpa (Some page) e h = reaches g.tdr g.vp line op access r gpa page w e h

  by_operation : (w : World) (lp : Lp) (g : Guest) (line : ℕ) (op : GuestOp) (x : Operation) → operation_of o g.tdr g.vp line op ≡ x → P w → P (world_after (operation_event w lp g x) w)
  by_operation w lp g line op (ByRow row) e h = by_operation_row row w g.operation.phase g.operation.held h (operations g.tdr g.vp line op row w e h)
  by_operation w lp g line op (Private access r gpa) e h = by_private w g line op access r gpa (look_up lp.cached g.tdr (page_of_gpa gpa) access) e h

  by_max : (w : World) (lp : Lp) (g : Guest) (op : GuestOp) (b : Bool) → P w → P (world_after (max_event o w lp g op b) w)
  by_max w lp g op true h = leaves g.vp w h
  by_max w lp g op false h = by_operation w lp g (length lp.replies + 1) op (operation_of o g.tdr g.vp (length lp.replies + 1) op) refl h

  by_due : (w : World) (lp : Lp) (g : Guest) (op : Option GuestOp) → P w → P (world_after (due_event o w lp g op) w)
  by_due w lp g None h = leaves g.vp w h
  by_due w lp g (Some op) h = by_max w lp g op (nat_le g.most g.completed) h

  by_released : (w : World) (out : Option Outcome) (hs : List Held) → P w → P (operation_world nothing_more (next_in [] (Answered out) hs) w)
  by_released w out [] h = h
  by_released w out (x ∷ hs) h = h

  by_staying : (w : World) (lp : Lp) (g : Guest) (phase : Phase (Option Outcome)) → P w → P (world_after (staying_event o w lp g phase) w)
  by_staying w lp g Trying h = by_due w lp g (operation_due o w g) h
  by_staying w lp g (Undoing l) h = h
  by_staying w lp g (Answered out) h = by_released w out g.operation.held h

  by_guest : (w : World) (lp : Lp) (g : Guest) (leaving : Option Outcome) → P w → P (world_after (guest_event o w lp g leaving) w)
  by_guest w lp g (Some out) h = leaves g.vp w h
  by_guest w lp g None h = by_staying w lp g g.operation.phase h

  by_epoch : (w : World) (lp : Lp) (row : Row) (g : Guest) (x : Held) (b : Bool) → P w → P (world_after (epoch_event o w lp row g x b) w)
  by_epoch w lp row g x true h = h
  by_epoch w lp row g x false h = by_guest w lp g g.leaving h

  by_entered : (w : World) (lp : Lp) (row : Row) (g : Guest) (hs : List Held) → P w → P (world_after (entered_event o w lp row g hs) w)
  by_entered w lp row g [] h = by_guest w lp g g.leaving h
  by_entered w lp row g (x ∷ hs) h = by_epoch w lp row g x (is_epoch_lock x.lock) h

  by_line : (w : World) (me : ℕ) (lp : Lp) (c : Call) (g : Option Guest) → P w → P (world_after (line_event o w lp (row_of o me c) g) w)
  by_line w me lp c None h = by_call (row_of o me c) w lp.call.phase lp.call.held h (calls me c w h)
  by_line w me lp c (Some g) h = by_entered w lp (row_of o me c) g lp.call.held h

  by_event : (s : State) (p : ℕ) (cs : List Call) → P s.world → P ((after_event p s (event_for o s.world p (s.lps p) cs)).world)
  by_event s p [] h = h
  by_event s p (c ∷ cs) h = by_line s.world p (s.lps p) c (s.lps p).guest h

  pub world_event : (s : State) (p : ℕ) → P s.world → P ((event o s p).world)
  world_event s p h = by_event s p (lines_left o p (s.lps p)) h

  pub world_kept : (ps : List ℕ) (s : State) → P s.world → P ((play o ps s).world)
  world_kept [] s h = h
  world_kept (p ∷ ps) s h = world_kept ps (event o s p) (by_event s p (lines_left o p (s.lps p)) h)
