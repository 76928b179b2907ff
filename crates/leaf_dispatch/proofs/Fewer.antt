-- Each turn in a guest leaves fewer events to its processor, and so does the entry.
use Rattle.std.proofs.Common.{◌≡◌, ℕ, ◌+◌, ◌-◌, ◌*◌, ◌<◌, ◌≤◌, ◌||◌, Bool, true, false, if◌then◌else◌, List, [], ◌∷◌, length, Option, Some, None, slice_get, refl, ap, sym, ◌∙◌, subst, arith}
use Rattle.std.specs.Prelude.{nat_le}
use Rattle.td_words.specs.declared.names.Access.{Access}
use Rattle.td_words.specs.declared.names.Access.TheVariants.{Read, Write}
use Rattle.td_words.specs.declared.calls.Call.{Call}
use Rattle.td_words.specs.declared.calls.GuestOp.{GuestOp}
use Rattle.td_words.specs.declared.calls.GuestOp.TheVariants as op
use Rattle.td_words.specs.declared.refusals.Status.TheVariants.{OperandBusy}
use Rattle.td_words.specs.declared.replies.Outcome.{Outcome}
use Rattle.td_words.specs.declared.replies.Outcome.TheVariants.{Max}
use Rattle.td_words.specs.declared.replies.Value.TheVariants as value
use Rattle.td_words.specs.declared.replies.Reply.{Reply}
use Rattle.td_words.specs.declared.replies.Reply.TheVariants.{Done, Refused, Exited}
use Rattle.flat_core.specs.Processor.{Translation}
use Rattle.flat_core.specs.Tree.{page_of_gpa}
use Rattle.flat_core.specs.Table.{most_tries, operation_events, guest_events}
use Rattle.flat_core.specs.Run.{events_in}
use Rattle.flat_core.specs.Translations.{look_up}
use Rattle.flat_core.specs.Guest.{is_private}
use Rattle.leaf_engine.specs.declared.events.Event.{Event}
use Rattle.leaf_engine.specs.declared.events.HeldLock.{HeldLock}
use Rattle.leaf_engine.specs.declared.events.Stage.{Stage}
use Rattle.leaf_engine.specs.declared.events.Stage.TheVariants as stages
use Rattle.leaf_engine.specs.Besides.{Beside}
use Rattle.leaf_engine.specs.Turns.{Standing, last_reply}
use Rattle.leaf_engine.specs.Guests.{WordGuest, Step, Operates, Accesses, Loads, Leaves, private_step, operation_step, due_step, staying_step, step_of, loaded}
use Rattle.leaf_engine.specs.OwnLists.{WordLp, after_step}
use Rattle.leaf_table.specs.Ends.{Ends, step_fits, step_tries, step_ends}
use Rattle.guest_turns.specs.Turns.{act_of}
use Rattle.leaf_dispatch.specs.Answers.{is_busy, FitsStage, beside_by}
use Rattle.leaf_dispatch.specs.Bounds.{stage_left, stage_used, run_used, guest_left, events_left}
use Rattle.leaf_dispatch.specs.Guests.{is_outcome}
use Rattle.leaf_dispatch.proofs.Lowering.{Gives}
use Rattle.leaf_dispatch.proofs.StepTurns.{few-left, cached-stays, goes-lower, passes-lower}
use Rattle.leaf_dispatch.proofs.StepBounds.{operated-lower, loaded-lower}
use Rattle.leaf_dispatch.proofs.Walking.{WalkDue, walk-due}

-- a step doesn't go by how far its run is

module _ (codes : ℕ → ℕ → List GuestOp) (ts : List Translation) (g : WordGuest) (run : Option Standing) where
  abbrev h : WordGuest
  h = record g { run = run }

  by-found : (a : Access) (r n : ℕ) (found : Option ℕ) → private_step h a r n found ≡ private_step g a r n found
  by-found a r n None = refl
  by-found a r n (Some p) = refl

  by-private : (a : Access) (r n : ℕ) (o : GuestOp) (b : Bool) → (if b then private_step h a r n (look_up ts g.tdr (page_of_gpa n) a) else Operates o) ≡ (if b then private_step g a r n (look_up ts g.tdr (page_of_gpa n) a) else Operates o)
  by-private a r n o true = by-found a r n (look_up ts g.tdr (page_of_gpa n) a)
  by-private a r n o false = refl

  by-operation : (o : GuestOp) → operation_step ts h o ≡ operation_step ts g o
  by-operation (op.Load r n) = by-private Read r n (op.Load r n) (is_private n)
  by-operation (op.Store r n) = by-private Write r n (op.Store r n) (is_private n)
  by-operation (op.Set r x) = refl
  by-operation (op.Secret r k) = refl
  by-operation (op.Add r s) = refl
  by-operation (op.Accept n) = refl
  by-operation (op.Rtmr i) = refl
  by-operation op.Report = refl
  by-operation (op.Vmcall r) = refl

  by-count : (o : GuestOp) (b : Bool) → (if b then Leaves Max else operation_step ts h o) ≡ (if b then Leaves Max else operation_step ts g o)
  by-count o true = refl
  by-count o false = by-operation o

  by-due : (o : Option GuestOp) → due_step ts h o ≡ due_step ts g o
  by-due None = refl
  by-due (Some o) = by-count o (nat_le g.most g.completed)

  by-leaving : (l : Option Outcome) → staying_step codes ts h l ≡ staying_step codes ts g l
  by-leaving None = by-due (slice_get (codes g.tdr g.index) g.position)
  by-leaving (Some out) = refl

  pub run-same : step_of codes ts h ≡ step_of codes ts g
  run-same = by-leaving g.leaving

-- the reply of a run that has ended

pub answered-by : (s : Stage) (held : List HeldLock) (r : Reply) → last_reply s held ≡ Some r → s ≡ stages.Answered r
answered-by (stages.Answered x) [] r e = (let same : x ≡ r = cc in ap stages.Answered same)
answered-by (stages.Answered x) (h ∷ hs) r e = cc
answered-by stages.Trying held r e = cc
answered-by (stages.Undoing name at) held r e = cc

pub outcome-of : (o : GuestOp) (r : Reply) → (step_fits (Operates o) r || is_busy r) ≡ true → is_outcome r ≡ true
outcome-of o (Done v) h = refl
outcome-of o (Exited x) h = refl
outcome-of o (Refused (OperandBusy n)) h = refl
outcome-of o (Refused s) h = h

-- where it isn't left, the guest stays, and may complete one more operation
abbrev pub Counts : WordGuest → Step → Type 0
Counts g (Leaves out) = Unit {0}
Counts g s = (g.leaving ≡ None) × (g.completed < g.most)

-- the level of a walk is one of the four
abbrev pub IsLowStep : Step → Type 0
IsLowStep (Loads access gpa level page) = level ≤ 3
IsLowStep s = Unit {0}

module _ (codes : ℕ → ℕ → List GuestOp) (c : Call) (cs : List Call) (line : Standing) (g : WordGuest) (rs : List Reply) (b b' : Beside) (t n : ℕ) (run stands : Standing) (ev : Event) where
  abbrev before : WordLp
  before = record { lines = c ∷ cs; run = Some line; guest = Some g; replies = rs; beside = b }

  abbrev Fewer : Step → Option Reply → Type 0
  Fewer s reply = events_left codes (after_step c cs line g rs b' s stands reply) < events_left codes before

  module _ (used : run_used g.run ≡ stage_used run.stage (length run.held)) where
    operates : (o : GuestOp) → step_of codes b.cached g ≡ Operates o → Counts g (Operates o) → Gives (step_ends t n (Operates o)) run stands ev → b'.cached ≡ b.cached
        → (reply : Option Reply) → reply ≡ last_reply stands.stage stands.held → Fewer (Operates o) reply
    operates o is counts gives cached None e =
        let two = gives.used (omega arith) in
        let again : step_of codes b'.cached (record g { run = Some stands }) ≡ Operates o = ap (λ (ts : List Translation). step_of codes ts (record g { run = Some stands })) cached ∙ (run-same codes b.cached g (Some stands) ∙ is) in
        let lower = goes-lower codes b.cached b'.cached g o stands counts.0 counts.1 is again (subst (λ (k : ℕ). k < stage_used stands.stage (length stands.held)) (sym used) two.0) (subst (λ (k : ℕ). k < 5) (sym used) two.1) in
        omega (arith, lower)
    operates o is counts gives cached (Some r) e =
        let two = gives.used (omega arith) in
        let on = answered-by stands.stage stands.held r (sym e) in
        let fits = outcome-of o r (subst (λ (s : Stage). FitsStage (step_ends t n (Operates o)) s) on gives.fits) in
        let lower = operated-lower codes b.cached g (Operates o) is counts.0 counts.1 (subst (λ (k : ℕ). k < 5) (sym used) two.1) b'.cached r fits in
        omega (arith, lower)

  accesses : (access : Access) (r gpa page : ℕ) → step_of codes b.cached g ≡ Accesses access r gpa page → Counts g (Accesses access r gpa page) → (reply : Option Reply) (x : Reply) → reply ≡ Some x → Fewer (Accesses access r gpa page) reply
  accesses access r gpa page is counts None x e = cc
  accesses access r gpa page is counts (Some y) x e =
      let lower = passes-lower codes b.cached b'.cached g (Accesses access r gpa page) counts.0 counts.1 is (omega arith) in
      omega (arith, lower)

  loads : (access : Access) (gpa level page : ℕ) → step_of codes b.cached g ≡ Loads access gpa level page → level ≤ 3 → (x : Reply) → step_fits (Loads access gpa level page) x ≡ true
      → b'.cached ≡ (beside_by (step_ends t n (Loads access gpa level page)).answer [] (Some x) b).cached → t ≡ g.tdr → (reply : Option Reply) → reply ≡ Some x → Fewer (Loads access gpa level page) reply
  loads access gpa level page is low (Done (value.Number seen)) fits cached tdr None e = cc
  loads access gpa level page is low (Done (value.Number seen)) fits cached tdr (Some y) e =
      let due : WalkDue codes b.cached g access gpa level = walk-due codes b.cached g access gpa level page is in
      let lower = loaded-lower codes b.cached g access gpa level page is due low seen in
      let same : y ≡ Done (value.Number seen) = cc in
      more y same (subst (λ (z : ℕ). b'.cached ≡ (beside_by (step_ends z n (Loads access gpa level page)).answer [] (Some (Done (value.Number seen))) b).cached) tdr cached) lower
    where
      more : (y : Reply) → y ≡ Done (value.Number seen) → b'.cached ≡ (beside_by (step_ends g.tdr n (Loads access gpa level page)).answer [] (Some (Done (value.Number seen))) b).cached
          → guest_left codes (beside_by (step_ends g.tdr n (Loads access gpa level page)).answer [] (Some (Done (value.Number seen))) b).cached (loaded access gpa level (Done (value.Number seen)) g) < guest_left codes b.cached g
          → Fewer (Loads access gpa level page) (Some y)
      more y same at lower = rw (same, at) (omega (arith, lower))
  loads access gpa level page is low _ fits cached tdr reply e = cc

  leaves : (out : Outcome) → (reply : Option Reply) (x : Reply) → reply ≡ Some x → Fewer (Leaves out) reply
  leaves out None x e = cc
  leaves out (Some y) x e = omega arith

  -- a run with a reply at its act has that reply
  once : (s : Step) → Gives (step_ends t n s) run stands ev → step_tries s ≡ 0 → run.stage ≡ stages.Trying → (reply : Option Reply) → reply ≡ last_reply stands.stage stands.held
      → (r : Reply) × (act_of ev stands.stage ≡ Some r) × (reply ≡ Some r) × (step_fits s r ≡ true)
  once s gives none on reply e = (let x = gives.once none on in (x.0, x.1, e ∙ x.2, (gives.act x.0 x.1).fits))

  -- whatever the step is
  pub step-fewer : (s : Step) → step_of codes b.cached g ≡ s → Counts g s → IsLowStep s → t ≡ g.tdr → run_used g.run ≡ stage_used run.stage (length run.held) → (step_tries s ≡ 0 → run.stage ≡ stages.Trying) → Gives (step_ends t n s) run stands ev
      → b'.cached ≡ (beside_by (step_ends t n s).answer [] (act_of ev stands.stage) b).cached → (reply : Option Reply) → reply ≡ last_reply stands.stage stands.held → Fewer s reply
  step-fewer (Operates o) is counts low tdr used first gives cached reply e = operates used o is counts gives (cached ∙ stays (act_of ev stands.stage)) reply e
    where
      stays : (act : Option Reply) → (beside_by (step_ends t n (Operates o)).answer [] act b).cached ≡ b.cached
      stays None = refl
      stays (Some r) = cached-stays t n o r b.cached
  step-fewer (Accesses access r gpa page) is counts low tdr used first gives cached reply e =
      let x = once (Accesses access r gpa page) gives refl (first refl) reply e in accesses access r gpa page is counts reply x.0 x.2
  step-fewer (Loads access gpa level page) is counts low tdr used first gives cached reply e =
      let x = once (Loads access gpa level page) gives refl (first refl) reply e in
      loads access gpa level page is low x.0 x.3 (cached ∙ ap (λ (a : Option Reply). (beside_by (step_ends t n (Loads access gpa level page)).answer [] a b).cached) x.1) tdr reply x.2
  step-fewer (Leaves out) is counts low tdr used first gives cached reply e =
      let x = once (Leaves out) gives refl (first refl) reply e in leaves out reply x.0 x.2

-- the entry, and the release of E behind it

pub enters-fewer : (codes : ℕ → ℕ → List GuestOp) (ts : List Translation) (c : Call) (cs : List Call) (e : Ends) (s stands : Standing) (ev : Event) (x : WordGuest) (rs : List Reply) (b : Beside) (r : Reply) → e.tries ≡ most_tries c → guest_events c ≡ operation_events * x.most + 1 → x.completed ≡ 0
    → Gives e s stands ev → act_of ev stands.stage ≡ Some r
    → events_left codes (record { lines = c ∷ cs; run = Some stands; guest = Some x; replies = rs; beside = b }) < stage_left (most_tries c) (guest_events c) s.stage (length s.held) + events_in cs
enters-fewer codes ts c cs e s stands ev x rs b r tries many none gives is =
    let a = gives.act r is in
    let left : guest_left codes b.cached x ≤ operation_events * (x.most - x.completed) = few-left codes b.cached x in
    let held : length stands.held ≡ length s.held = ap length a.held in
    let few : length s.held ≤ e.tries = a.few in
    rw a.on (omega (arith, left, held, few, tries, many, none))

pub releases-fewer : (codes : ℕ → ℕ → List GuestOp) (c : Call) (cs : List Call) (s stands : Standing) (x : WordGuest) (rs : List Reply) (b : Beside) → length stands.held < length s.held
    → events_left codes (record { lines = c ∷ cs; run = Some stands; guest = Some x; replies = rs; beside = b }) < events_left codes (record { lines = c ∷ cs; run = Some s; guest = Some x; replies = rs; beside = b })
releases-fewer codes c cs s stands x rs b few = omega (arith, few)
