-- Where a processor stands, at a line, it does what the leaf there means.
use Rattle.std.proofs.Common.{◌≡◌, ◌⊎◌, inl, inr, ℕ, ◌+◌, ◌<◌, Bool, true, false, List, [], ◌∷◌, ◌++◌, length, Option, Some, None, refl, ap, sym, ◌∙◌, subst}
use Rattle.std.specs.Prelude.{slice_get, slice_index}
use Rattle.std.proofs.lemmas.List.{append-nil}
use Rattle.td_words.specs.declared.machines.Machine.{Machine}
use Rattle.td_words.specs.declared.names.Mode.TheVariants.{Shared, Exclusive}
use Rattle.td_words.specs.declared.calls.Call.{Call}
use Rattle.td_words.specs.declared.replies.Outcome.{Outcome}
use Rattle.td_words.specs.declared.replies.Reply.{Reply}
use Rattle.td_words.specs.Place.{WordPlace}
use Rattle.flat_core.specs.World.{World, Made}
use Rattle.flat_core.specs.Processor.{OfPage, OfOp, OfEpoch, Held, Phase, Trying, Undoing, Answered, Progress, nothing_yet, Guest, new_guest, Lp}
use Rattle.flat_core.specs.Opening.{Opening}
use Rattle.flat_core.specs.Row.{Row, next_in}
use Rattle.flat_core.specs.Table.{row_of}
use Rattle.flat_core.specs.Guests.{guest_locks, entry_locks}
use Rattle.flat_core.specs.Guest.{walk_level}
use Rattle.flat_core.specs.Inside.{InGuest, AreTimely}
use Rattle.flat_core.specs.Event.{State, Event, OfCall, next_event, event_for, line_event, entered_event, guest_event, staying_event, due_event, event, lines_left}
use Rattle.lock_words.specs.Grips.{operation_locks, locks_of}
use Rattle.step_core.specs.Items.{Table}
use Rattle.leaf_engine.specs.declared.events.Event.{Event as RunEvent}
use Rattle.leaf_engine.specs.declared.events.Stage.{Stage}
use Rattle.leaf_engine.specs.declared.events.Stage.TheVariants as stages
use Rattle.leaf_engine.specs.Facts.{Facts}
use Rattle.leaf_engine.specs.Changes.{Memory, Hand}
use Rattle.leaf_engine.specs.Trees.{Tree}
use Rattle.leaf_engine.specs.Besides.{Beside, beside_of, beside_after}
use Rattle.leaf_engine.specs.Decides.{IsHand}
use Rattle.leaf_engine.specs.Means as meaning
use Rattle.leaf_engine.specs.Means.{Task, Meaning, MeansRow}
use Rattle.leaf_engine.specs.Turns.{Standing, last_reply}
use Rattle.leaf_engine.specs.Guests.{WordGuest, Step, walk_page, guest_after, step_of, gives_epoch_back}
use Rattle.leaf_engine.specs.OwnLists.{LeafTable, WordLp, running, step_leaf, after_turn, after_step}
use Rattle.leaf_engine.specs.Merges.{AreLeaves, AreCodes, ByItsRow, IsStepOf}
use Rattle.leaf_engine.specs.Calls.{AreLocks, IsStage, IsCallAt}
use Rattle.leaf_engine.specs.Doing.{HasMoves, LeafAfter}
use Rattle.leaf_engine.specs.Standing.{out_phase, out_progress, position_in, position_at, HasNoHasher, RunOfStep, IsStepRun, IsGuestAt, RunStands, LpStands}
use Rattle.leaf_engine.specs.Following.{task_in, task_at, run_in, run_at, then_in, then_at, Does, ProcessorsDo}
use Rattle.leaf_engine.proofs.Showing.{current-end, granted-end, not-acted-end}
use Rattle.leaf_engine.proofs.Beginning.{calls-begin}
use Rattle.leaf_engine.proofs.Calling.{next-is, is-next}
use Rattle.leaf_engine.proofs.Steps.{seen, IsDue, leaves, ends, operates, walks, reaches, going_event, due-is, step-fits}
use Rattle.leaf_engine.proofs.GuestDoing.{level-fits, operation-is, doing}
use Rattle.leaf_engine.proofs.GuestActs.{row-is}
use Rattle.leaf_engine.proofs.GuestThen.{no-hasher}
use Rattle.leaf_engine.proofs.GuestGoes.{table_of, operation-goes, access-goes, walk-goes, exit-goes}
use Rattle.leaf_engine.proofs.Making.{adds-bundles}
use Rattle.leaf_engine.proofs.Grasp.{hold-is, grasp-is}
use Rattle.leaf_engine.proofs.Processing.{stage-position, gives-back, inside-of, outside-then, given-back-then}

out-trying : (ph : Phase Reply) → out_phase ph ≡ Trying → ph ≡ Trying
out-trying Trying e = refl
out-trying (Undoing l) e = cc
out-trying (Answered r) e = cc

trying-stage : (m : Machine) (w : World) (st : Stage) (ph : Phase Reply) → ph ≡ Trying → IsStage m w st ph → st ≡ stages.Trying
trying-stage m w stages.Trying ph e i = refl
trying-stage m w (stages.Undoing name at) ph e i = absurd (subst (λ (z : Phase Reply). IsStage m w (stages.Undoing name at) z) e i)
trying-stage m w (stages.Answered r) ph e i = absurd (subst (λ (z : Phase Reply). IsStage m w (stages.Answered r) z) e i)

-- a step's run that hasn't begun
started : (task : Task) (w : World) (words : WordPlace → ℕ) (x : Progress (Option Outcome)) → x ≡ nothing_yet → RunOfStep task w words (running task None) x
started task w words x none = record {
  own = nothing_yet;
  is = sym none;
  at = record { stage = tt; held = refl; told = λ z. record { told = []; current = current-end words task.tree; waits = not-acted-end task.tree; rest = refl; locks = granted-end task.tree [] } };
  waits = λ z. refl;
  single = inr refl;
  answers = tt;
}

run-of : (task : Task) (w : World) (words : WordPlace → ℕ) (run : Option Standing) (x : Progress (Option Outcome)) → IsStepRun task w words run x → RunOfStep task w words (running task run) x
run-of task w words None x i = started task w words x i
run-of task w words (Some r) x i = record { own = i.own; is = i.is; at = i.at; waits = i.waits; single = i.single; answers = i.answers }

run-position : (task : Task) (n : ℕ) (run : Option Standing) → position_at n run ≡ position_in n (running task run).stage
run-position task n None = refl
run-position task n (Some r) = refl

module _ (o : Opening) (p : ℕ) (s : State) (mem : Memory) (c : Call) (cs : List Call) (trees : Call → Tree) (steps : (tdr vp line : ℕ) → Step → Tree) (kinds : (tdr vp line : ℕ) → Step → Meaning) (bs : List Made)
    (inside : p < s.lp_count) (timely : AreTimely o s) (facts : Facts s) (codes : AreCodes o) (is-line : lines_left o p (s.lps p) ≡ c ∷ cs)
    (means : (k : Call) → MeansRow (record { place = record { machine = o.machine; lp = p }; tree = trees k; meaning = meaning.OfCall (row_of o p k) }))
    (rows : (t v l : ℕ) (st : Step) → ByItsRow o t v l st (kinds t v l st))
    (step-means : (t v l : ℕ) (st : Step) → IsStepOf st → MeansRow (record { place = record { machine = o.machine; lp = p }; tree = steps t v l st; meaning = kinds t v l st })) where
  abbrev w : World
  w = s.world

  abbrev lp : Lp
  lp = s.lps p

  abbrev m : Machine
  m = o.machine

  abbrev table : LeafTable
  table = table_of o p trees steps kinds

  abbrev row : Row
  row = row_of o p c

  abbrev b : Beside
  b = beside_of lp bs

  abbrev number : ℕ
  number = length lp.replies + 1

  -- outside guests
  locks-outside : lp.guest ≡ None → locks_of lp ≡ [] ++ lp.call.held
  locks-outside none = ap (λ (z : Option Guest). lp.call.held ++ operation_locks z) none ∙ append-nil lp.call.held

  locks-inside : (g : Guest) → lp.guest ≡ Some g → locks_of lp ≡ lp.call.held ++ g.operation.held
  locks-inside g is = ap (λ (z : Option Guest). lp.call.held ++ operation_locks z) is

  outside : (run : Standing) → IsCallAt o (table.call c) row w mem.words lp run → HasNoHasher run
      → Does o table p s mem (table.call c) run (λ e stands. after_turn c cs (guest_after e stands.rest None) lp.replies (beside_after e stands.rest b) stands (last_reply stands.stage stands.held))
  outside run ca waits = record {
    processor = refl;
    machine = refl;
    kept = [];
    progress = lp.call;
    means = means c;
    does = record { next = is-next o s p row (next_in (row.items w) lp.call.phase lp.call.held) inside (next-is o s p row lp.call.phase lp.call.held ca.line ca.guest refl refl); single = inl tt; maker = λ e. (ca.guest, refl) };
    at = record { stage = ca.stage; held = ca.held; told = ca.told };
    waits = waits;
    locks = locks-outside ca.guest;
    hold_is = hold-is s p [] lp.call.held (locks-outside ca.guest);
    grasp_is = grasp-is s p [] lp.call.held (locks-outside ca.guest);
    then_ = λ u e stands a. outside-then o p s mem c cs trees steps kinds bs timely is-line u e stands ca.guest a;
    makes = λ u e stands a. adds-bundles o (table.call c) s lp.call u stands e (inl tt) a;
  }

  -- in a guest
  module _ (line : Standing) (reply : Reply) (g : Guest) (is-in : lp.guest ≡ Some g) (answered-by : line.stage ≡ stages.Answered reply) (held : AreLocks m w line.held lp.call.held) (hand : Hand) (in-hand : IsHand line.hasher hand) where
    abbrev root : ℕ
    root = slice_index (w.tds.controls g.tdr) 1

    abbrev index : ℕ
    index = w.vps.indexes g.vp

    at-guest : InGuest o w p c lp g
    at-guest = inside-of o p s mem c cs trees steps kinds bs timely is-line w lp g is-line is-in (timely.each p)

    entered-is : next_event o s p ≡ Some (entered_event o w lp row g lp.call.held)
    entered-is = ap (event_for o w p lp) is-line ∙ ap (λ (z : Option Guest). Some (line_event o w lp row z)) is-in

    not-trying : line.stage ≡ stages.Trying → ⊥
    not-trying z = (let no : stages.Answered reply ≡ stages.Trying = sym answered-by ∙ z in cc)

    not-epoch : lp.call.held ≡ guest_locks g.tdr g.vp → gives_epoch_back line.held ≡ false
    not-epoch h =
        gives-back m w line.held (record { lock = OfPage g.vp; mode = Exclusive }) (record { lock = OfOp g.tdr; mode = Shared } ∷ record { lock = OfPage g.tdr; mode = Shared } ∷ [])
        (subst (λ (z : List Held). AreLocks m w line.held z) h held)

    is-epoch : lp.call.held ≡ entry_locks g.tdr g.vp → gives_epoch_back line.held ≡ true
    is-epoch h = gives-back m w line.held (record { lock = OfEpoch g.tdr; mode = Shared }) (guest_locks g.tdr g.vp) (subst (λ (z : List Held). AreLocks m w line.held z) h held)

    -- with E to give back
    giving : (n : ℕ) → w.vps.positions g.vp ≡ n → gives_epoch_back line.held ≡ true
        → Does o table p s mem (table.call c) line (λ e stands. after_turn c cs (guest_after e stands.rest (Some (seen g root index n None))) lp.replies (beside_after e stands.rest b) stands (last_reply stands.stage stands.held))
    giving n position gives = by at-guest.locks
      where
        by : (lp.call.held ≡ guest_locks g.tdr g.vp) ⊎ ((lp.call.held ≡ entry_locks g.tdr g.vp) × (g ≡ new_guest (record { tdr = g.tdr; vp = g.vp; most = g.most })))
            → Does o table p s mem (table.call c) line (λ e stands. after_turn c cs (guest_after e stands.rest (Some (seen g root index n None))) lp.replies (beside_after e stands.rest b) stands (last_reply stands.stage stands.held))
        by (inl h) = (let no : true ≡ false = sym gives ∙ not-epoch h in cc)
        by (inr h) =
            let none : g.operation ≡ nothing_yet = ap (λ (z : Guest). z.operation) h.1 in
            let locks : locks_of lp ≡ [] ++ lp.call.held = locks-inside g is-in ∙ (ap (λ (z : Progress (Option Outcome)). lp.call.held ++ z.held) none ∙ append-nil lp.call.held) in
            record {
              processor = refl;
              machine = refl;
              kept = [];
              progress = record { phase = Answered reply; held = lp.call.held };
              means = means c;
              does = record {
                next = record {
                  processor = inside;
                  next = entered-is ∙ (ap (λ (z : List Held). Some (entered_event o w lp row g z)) h.0 ∙ ap (λ (z : List Held). Some (OfCall row (next_in (row.items w) (Answered reply) z))) (sym h.0));
                  lets_go = tt;
                };
                single = inl tt;
                maker = λ e. cc;
              };
              at = record { stage = subst (λ (z : Stage). IsStage m w z (Answered reply)) (sym answered-by) refl; held = held; told = λ z. absurd (not-trying z) };
              waits = λ z. absurd (not-trying z);
              locks = locks;
              hold_is = hold-is s p [] lp.call.held locks;
              grasp_is = grasp-is s p [] lp.call.held locks;
              then_ = λ u e stands a. given-back-then o p s mem c cs trees steps kinds bs timely is-line u e stands line reply g n is-in answered-by h.0 at-guest.trying none position a;
              makes = λ u e stands a. adds-bundles o (table.call c) s (record { phase = Answered reply; held = lp.call.held }) u stands e (inl tt) a;
            }

    -- with E given back
    module _ (freed : gives_epoch_back line.held ≡ false) where
      locked : lp.call.held ≡ guest_locks g.tdr g.vp
      locked = by at-guest.locks
        where
          by : (lp.call.held ≡ guest_locks g.tdr g.vp) ⊎ ((lp.call.held ≡ entry_locks g.tdr g.vp) × (g ≡ new_guest (record { tdr = g.tdr; vp = g.vp; most = g.most }))) → lp.call.held ≡ guest_locks g.tdr g.vp
          by (inl h) = h
          by (inr h) = (let no : true ≡ false = sym (is-epoch h.0) ∙ freed in cc)

      guest-next : next_event o s p ≡ Some (guest_event o w lp g g.leaving)
      guest-next = entered-is ∙ ap (λ (z : List Held). Some (entered_event o w lp row g z)) locked

      module _ (n : ℕ) (run : Option Standing) where
        abbrev x : WordGuest
        x = seen g root index n run

        abbrev leaf : Step → Task
        leaf st = table.step g.tdr g.vp number st

        abbrev IsNow : Step → Event → Type 0
        IsNow st ev = IsDue o w lp g root index n run st ev

        abbrev After : Step → RunEvent → Standing → WordLp
        After st e stands = after_step c cs line x lp.replies (beside_after e stands.rest b) st stands (last_reply stands.stage stands.held)

        trying-at : (st : Step) (r : Standing) (at : RunOfStep (leaf st) w mem.words r g.operation) → w.vps.positions g.vp ≡ position_in n r.stage → g.operation.phase ≡ Trying → w.vps.positions g.vp ≡ n
        trying-at st r at position t =
            let own-trying : at.own.phase ≡ Trying = out-trying at.own.phase (ap (λ (z : Progress (Option Outcome)). z.phase) at.is ∙ t) in
            position ∙ ap (position_in n) (trying-stage m w r.stage at.own.phase own-trying at.at.stage)

        event-is : (st : Step) (r : Standing) (at : RunOfStep (leaf st) w mem.words r g.operation) → w.vps.positions g.vp ≡ position_in n r.stage → g.operation.phase ≡ Trying
            → guest_event o w lp g g.leaving ≡ going_event o w lp g root index n run g.leaving
        event-is st r at position t = by g.leaving
          where
            by : (l : Option Outcome) → guest_event o w lp g l ≡ going_event o w lp g root index n run l
            by (Some out) = refl
            by None =
                ap (λ (z : Phase (Option Outcome)). staying_event o w lp g z) t
                ∙ ap (λ (z : ℕ). due_event o w lp g (slice_get (o.codes g.tdr index) z)) (trying-at st r at position t)

        module _ (r : Standing) (position : w.vps.positions g.vp ≡ position_in n r.stage) (u : Table) (e : RunEvent) (stands : Standing) where
          abbrev Then : Step → Meaning → Progress Reply → Type 0
          Then st k own = (a : LeafAfter o (record { place = record { machine = o.machine; lp = p }; tree = steps g.tdr g.vp number st; meaning = k }) s own u stands e)
              → LpStands o table p (event o s p).world a.mem.words ((event o s p).lps p) (After st e stands)

          abbrev Freed : Progress Reply → Type 0
          Freed own = (own ≡ nothing_yet) × (g.operation ≡ nothing_yet) × (w.vps.positions g.vp ≡ n)

          fresh-of : (st : Step) (at : RunOfStep (leaf st) w mem.words r g.operation) → at.own ≡ nothing_yet → Freed at.own
          fresh-of st at fresh =
              let none : g.operation ≡ nothing_yet = sym at.is ∙ ap out_progress fresh in
              (fresh, none, trying-at st r at position (ap (λ (z : Progress (Option Outcome)). z.phase) none))

          -- one that is a single event
          single-of : (st : Step) (k : Meaning) (at : RunOfStep (leaf st) w mem.words r g.operation) → kinds g.tdr g.vp number st ≡ k → (HasMoves k → ⊥) → (Freed at.own → Then st k at.own) → Then st (kinds g.tdr g.vp number st) at.own
          single-of st k at k-is moves goes = by at.single
            where
              by : HasMoves (kinds g.tdr g.vp number st) ⊎ (at.own ≡ nothing_yet) → Then st (kinds g.tdr g.vp number st) at.own
              by (inl h) = absurd (moves (subst HasMoves k-is h))
              by (inr fresh) = subst (λ (z : Meaning). Then st z at.own) (sym k-is) (goes (fresh-of st at fresh))

          step-then : (st : Step) (ev : Event) → step_of o.codes lp.cached x ≡ st → IsNow st ev → (at : RunOfStep (leaf st) w mem.words r g.operation) → Then st (kinds g.tdr g.vp number st) at.own
          step-then st ev step-is (leaves out l) at =
              single-of st (meaning.OfExit g.tdr g.vp out) at (rows g.tdr g.vp number st) (λ h. h)
              (λ f a. exit-goes o s p c cs g trees steps kinds line reply bs n run is-line is-in answered-by held locked freed hand in-hand e stands at.own f.0 f.1 f.2 u out a)
          step-then st ev step-is (ends out l) at =
              single-of st (meaning.OfExit g.tdr g.vp out) at (rows g.tdr g.vp number st) (λ h. h)
              (λ f a. exit-goes o s p c cs g trees steps kinds line reply bs n run is-line is-in answered-by held locked freed hand in-hand e stands at.own f.0 f.1 f.2 u out a)
          step-then st ev step-is (walks op access q gpa l below is misses) at =
              single-of st (meaning.OfWalk g.tdr g.vp access gpa (walk_level g.walk) (walk_page root g.walk)) at (rows g.tdr g.vp number st) (λ h. h)
              (λ f a. walk-goes o s p c cs g trees steps kinds line reply bs n run is-line is-in answered-by held locked freed hand in-hand e stands at.own f.0 f.1 f.2 u access gpa a)
          step-then st ev step-is (reaches op access q gpa page l fits is hits) at =
              single-of st (meaning.OfAccess g.tdr g.vp number access q gpa page) at (rows g.tdr g.vp number st) (λ h. h)
              (λ f a. access-goes o s p c cs g trees steps kinds line reply bs n run is-line is-in answered-by held locked freed hand in-hand e stands at.own f.0 f.1 f.2 u access q gpa page a)
          step-then st ev step-is (operates op of-row l i is) at =
              subst (λ (z : Meaning). Then st z at.own) (sym (rows g.tdr g.vp number st of-row is.1))
              (λ a. operation-goes o s p c cs g trees steps kinds line reply bs n run is-line is-in answered-by held locked freed hand in-hand e stands op of-row step-is (rows g.tdr g.vp number st of-row is.1)
              (λ z. no-hasher stands.hasher a.mem.hand (a.empty_hand z) a.memory.hand) (row-is o g.tdr g.vp number op of-row is.1) at.own at.is
              (position ∙ stage-position m w n r.stage at.own.phase at.at.stage) at.answers u a)

        goes-on : (at : IsGuestAt (leaf (step_of o.codes lp.cached x)) w mem.words g x)
            → Does o table p s mem (leaf (step_of o.codes lp.cached x)) (running (leaf (step_of o.codes lp.cached x)) run) (λ e stands. After (step_of o.codes lp.cached x) e stands)
        goes-on at =
            let st : Step = step_of o.codes lp.cached x in
            let ev : Event = going_event o w lp g root index n run g.leaving in
            let r : Standing = running (leaf st) run in
            let now : IsNow st ev = due-is o w lp g root index n run (operation-is o s p mem inside timely facts codes g is-in c at-guest n) in
            let it : RunOfStep (leaf st) w mem.words r g.operation = run-of (leaf st) w mem.words run g.operation at.operation in
            let position : w.vps.positions g.vp ≡ position_in n r.stage = at.position ∙ run-position (leaf st) n run in
            let locks : locks_of lp ≡ lp.call.held ++ it.own.held = locks-inside g is-in ∙ ap (λ (z : Progress (Option Outcome)). lp.call.held ++ z.held) (sym it.is) in
            record {
              processor = refl;
              machine = refl;
              kept = lp.call.held;
              progress = it.own;
              means = step-means g.tdr g.vp number st (step-fits o w lp g root index n run st ev (level-fits o s p mem inside timely facts codes g is-in c at-guest) now);
              does = doing o s p mem inside timely facts codes g is-in c at-guest n (steps g.tdr g.vp number st) it.own r run it.is it.at.stage position guest-next (kinds g.tdr g.vp number st) st ev now (event-is st r it position)
                  (rows g.tdr g.vp number st) it.single;
              at = record { stage = it.at.stage; held = it.at.held; told = it.at.told };
              waits = it.waits;
              locks = locks;
              hold_is = hold-is s p lp.call.held it.own.held locks;
              grasp_is = grasp-is s p lp.call.held it.own.held locks;
              then_ = λ u e stands a. step-then r position u e stands st ev refl now it a;
              makes = λ u e stands a. adds-bundles o (leaf st) s it.own u stands e it.single a;
            }

    -- as its word guest has it
    abbrev Result : WordGuest → Bool → Type 0
    Result z give = let task = task_in table c z lp.replies b give in Does o table p s mem task (running task (run_in z line give)) (λ e stands. then_in table c cs z line lp.replies b e stands give)

    in-guest : (z : WordGuest) → IsGuestAt (step_leaf table z lp.replies b) w mem.words g z → (gives_epoch_back line.held ≡ true → z.run ≡ None) → (give : Bool) → gives_epoch_back line.held ≡ give → Result z give
    in-guest z at fresh true gives =
        let z-is : seen g root index z.position z.run ≡ z = λ i. record {
          tdr = at.tdr i;
          vp = at.vp i;
          root = (ap (λ (q : ℕ). slice_index (w.tds.controls q) 1) at.tdr ∙ at.root) i;
          most = at.most i;
          completed = at.completed i;
          index = (ap w.vps.indexes at.vp ∙ at.index) i;
          position = z.position;
          walk = at.walk i;
          leaving = at.leaving i;
          run = z.run;
        } in
        let none : z.run ≡ None = fresh gives in
        let x-is : seen g root index z.position None ≡ z = ap (λ (q : Option Standing). seen g root index z.position q) (sym none) ∙ z-is in
        let position : w.vps.positions g.vp ≡ z.position = ap w.vps.positions at.vp ∙ (at.position ∙ ap (position_at z.position) none) in
        subst (λ (q : WordGuest). Result q true) x-is (giving z.position position gives)
    in-guest z at fresh false gives =
        let z-is : seen g root index z.position z.run ≡ z = λ i. record {
          tdr = at.tdr i;
          vp = at.vp i;
          root = (ap (λ (q : ℕ). slice_index (w.tds.controls q) 1) at.tdr ∙ at.root) i;
          most = at.most i;
          completed = at.completed i;
          index = (ap w.vps.indexes at.vp ∙ at.index) i;
          position = z.position;
          walk = at.walk i;
          leaving = at.leaving i;
          run = z.run;
        } in
        subst (λ (q : WordGuest). IsGuestAt (step_leaf table q lp.replies b) w mem.words g q → Result q false) z-is (λ h. goes-on gives z.position z.run h) at

  pub does-at : (guest : Option WordGuest) (run : Option Standing) → RunStands o table p w mem.words lp (c ∷ cs) run guest lp.replies b
      → let task = task_at table c guest run lp.replies b in Does o table p s mem task (running task (run_at guest run)) (λ e stands. then_at table c cs guest run lp.replies b e stands)
  does-at None None i = outside (running (table.call c) None) (calls-begin o (table.call c) row w mem.words lp (record { call = c; further = cs; lines = is-line; row_is = refl }) i) (λ z. refl)
  does-at None (Some run) i = outside run i.at i.waits
  does-at (Some z) None i = absurd i
  does-at (Some z) (Some line) i = in-guest line i.reply i.guest i.is_in i.answered i.held i.hand i.in_hand z i.at i.fresh (gives_epoch_back line.held) refl

-- with what it has
stood : (o : Opening) (t : LeafTable) (p : ℕ) (w : World) (words : WordPlace → ℕ) (lp : Lp) (c : Call) (cs : List Call) (at : WordLp) → LpStands o t p w words lp at → at.lines ≡ c ∷ cs
    → at ≡ record { lines = c ∷ cs; run = at.run; guest = at.guest; replies = lp.replies; beside = beside_of lp at.beside.bundles }
stood o t p w words l c cs at stands lines = λ i. record { lines = lines i; run = at.run; guest = at.guest; replies = sym stands.replies i; beside = sym stands.beside i }

-- the table's leaves, by their trees and meanings
leaves-are : (o : Opening) (leaf : ℕ → LeafTable) (p : ℕ) → AreLeaves o leaf → leaf p ≡ table_of o p (λ c. ((leaf p).call c).tree) (λ t v l st. ((leaf p).step t v l st).tree) (λ t v l st. ((leaf p).step t v l st).meaning)
leaves-are o leaf p are = λ i. record {
  call = λ c. record { place = record { machine = are.machine p c i; lp = are.processor p c i }; tree = ((leaf p).call c).tree; meaning = are.row p c i };
  step = λ t v l st. record { place = record { machine = are.step_machine p t v l st i; lp = are.step_processor p t v l st i }; tree = ((leaf p).step t v l st).tree; meaning = ((leaf p).step t v l st).meaning };
  codes = λ t n. are.codes p t n i;
}

pub processors-do : ProcessorsDo
processors-do o leaf p s mem at c cs are codes timely facts inside stands lines =
    let t : LeafTable = leaf p in
    let same = leaves-are o leaf p are in
    let trees : Call → Tree = λ c. (t.call c).tree in
    let steps : ℕ → ℕ → ℕ → Step → Tree = λ td v l st. (t.step td v l st).tree in
    let kinds : ℕ → ℕ → ℕ → Step → Meaning = λ td v l st. (t.step td v l st).meaning in
    subst (λ (z : LeafTable). LpStands o z p s.world mem.words (s.lps p) at → let task = task_at z c at.guest at.run at.replies at.beside in Does o z p s mem task (running task (run_at at.guest at.run)) (λ e stands. then_at z c cs at.guest at.run at.replies at.beside e stands)) (sym same)
    (λ (st : LpStands o (table_of o p trees steps kinds) p s.world mem.words (s.lps p) at).
    let z : LeafTable = table_of o p trees steps kinds in
    let at-is = stood o z p s.world mem.words (s.lps p) c cs at st lines in
    subst (λ (q : WordLp). let task = task_at z c q.guest q.run q.replies q.beside in Does o z p s mem task (running task (run_at q.guest q.run)) (λ e stands. then_at z c cs q.guest q.run q.replies q.beside e stands)) (sym at-is)
    (let now : LpStands o z p s.world mem.words (s.lps p) (record { lines = c ∷ cs; run = at.run; guest = at.guest; replies = (s.lps p).replies; beside = beside_of (s.lps p) at.beside.bundles }) = subst (λ (q : WordLp). LpStands o z p s.world mem.words (s.lps p) q) at-is st in
    does-at o p s mem c cs trees steps kinds at.beside.bundles inside timely facts codes (st.lines ∙ lines)
    (λ k. subst (λ (q : LeafTable). MeansRow (q.call k)) same (are.means p k))
    (λ td v l x. are.step_row p td v l x)
    (λ td v l x fits. subst (λ (q : LeafTable). MeansRow (q.step td v l x)) same (are.step_means p td v l x fits))
    at.guest at.run now.run)) stands
