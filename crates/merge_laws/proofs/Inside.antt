-- What a processor in a guest does, and where it then stands, as the leaf engine has it.
use Rattle.std.proofs.Common.{◌≡◌, ◌⊎◌, ℕ, ◌+◌, ◌<◌, true, false, List, ◌∷◌, ◌++◌, length, Option, Some, None, refl, ap, sym, ◌∙◌, subst, inl, inr}
use Rattle.std.specs.Prelude.{slice_get, slice_index}
use Rattle.td_words.specs.declared.names.Mode.TheVariants.{Shared}
use Rattle.td_words.specs.declared.machines.Machine.{Machine}
use Rattle.td_words.specs.declared.calls.Call.{Call}
use Rattle.td_words.specs.declared.replies.Reply.{Reply}
use Rattle.td_words.specs.declared.replies.Outcome.{Outcome}
use Rattle.td_words.specs.Place.{WordPlace}
use Rattle.flat_core.specs.World.{World, Made}
use Rattle.flat_core.specs.Processor.{OfEpoch, Held, Phase, Trying, Undoing, Answered, Progress, nothing_yet, Guest, new_guest, Lp}
use Rattle.flat_core.specs.Opening.{Opening}
use Rattle.flat_core.specs.Row.{Row}
use Rattle.flat_core.specs.Table.{row_of}
use Rattle.flat_core.specs.Guest.{walk_level}
use Rattle.flat_core.specs.Guests.{guest_locks, entry_locks}
use Rattle.flat_core.specs.Inside.{InGuest}
use Rattle.flat_core.specs.Event.{State, Event, next_event, event_for, line_event, entered_event, guest_event, staying_event, due_event, event, lines_left}
use Rattle.lock_words.specs.Grips.{HoldTdrs, UndoTdr, GuestTdrs, operation_locks}
use Rattle.step_core.specs.Items.{Table}
use Rattle.leaf_engine.specs.declared.events.Event.{Event as RunEvent}
use Rattle.leaf_engine.specs.declared.events.Stage.{Stage}
use Rattle.leaf_engine.specs.declared.events.Stage.TheVariants as stages
use Rattle.leaf_engine.specs.Besides.{Beside, beside_of, beside_after}
use Rattle.leaf_engine.specs.Changes.{Hand}
use Rattle.leaf_engine.specs.Decides.{IsHand}
use Rattle.leaf_engine.specs.Means as meaning
use Rattle.leaf_engine.specs.Means.{Task, Meaning}
use Rattle.leaf_engine.specs.Turns.{Standing, last_reply}
use Rattle.leaf_engine.specs.Calls.{AreLocks, IsStage, no_memory}
use Rattle.leaf_engine.specs.Doing.{HasMoves, LeafAfter}
use Rattle.leaf_engine.specs.Standing.{out_phase, out_progress, AnswersGuest, IsGuestAt, LpStands}
use Rattle.leaf_engine.specs.Guests.{WordGuest, Step, walk_page, step_of, gives_epoch_back}
use Rattle.leaf_engine.specs.OwnLists.{after_step}
use Rattle.leaf_engine.proofs.Steps.{seen, IsDue, leaves, ends, operates, walks, reaches, going_event, due-is, step-fits}
use Rattle.leaf_engine.proofs.GuestDoing.{level-fits, operation-is, doing}
use Rattle.leaf_engine.proofs.GuestActs.{row-is}
use Rattle.leaf_engine.proofs.GuestThen.{no-hasher, position_of}
use Rattle.leaf_engine.proofs.GuestGoes.{operation-goes, access-goes, walk-goes, exit-goes}
use Rattle.leaf_engine.proofs.Processing.{stage-position, gives-back, inside-of}
use Rattle.merge_laws.proofs.Holding.{locks_at}
use Rattle.merge_laws.proofs.Standing.{Trees, table_for, AreTrees, Known, Does, task_for, step_does, DoesHere}

undo-same : (ph : Phase Reply) (hs : List Held) → UndoTdr (out_phase ph) hs → UndoTdr ph hs
undo-same Trying hs u = tt
undo-same (Undoing l) hs u = u
undo-same (Answered r) hs u = tt

pub out-trying : (ph : Phase Reply) → out_phase ph ≡ Trying → ph ≡ Trying
out-trying Trying e = refl
out-trying (Undoing l) e = cc
out-trying (Answered r) e = cc

pub trying-phase : (m : Machine) (w : World) (st : Stage) (ph : Phase Reply) → IsStage m w st ph → st ≡ stages.Trying → ph ≡ Trying
trying-phase m w st Trying i e = refl
trying-phase m w st (Undoing l) i e = absurd (subst (λ (z : Stage). IsStage m w z (Undoing l)) e i)
trying-phase m w st (Answered r) i e = absurd (subst (λ (z : Stage). IsStage m w z (Answered r)) e i)

-- the flat machine's guest, with what its record doesn't have
abbrev pub seen_in : World → Guest → ℕ → Option Standing → WordGuest
seen_in w g n run = seen g (slice_index (w.tds.controls g.tdr) 1) (w.vps.indexes g.vp) n run

pub seen-is : (task : Task) (w : World) (words : WordPlace → ℕ) (g : Guest) (x : WordGuest) (run : Option Standing) → IsGuestAt task w words g (record x { run = run }) → seen_in w g x.position x.run ≡ x
seen-is task w words g x run at = λ j. record {
  tdr = at.tdr j;
  vp = at.vp j;
  root = (ap (λ (q : ℕ). slice_index (w.tds.controls q) 1) at.tdr ∙ at.root) j;
  most = at.most j;
  completed = at.completed j;
  index = (ap w.vps.indexes at.vp ∙ at.index) j;
  position = x.position;
  walk = at.walk j;
  leaving = at.leaving j;
  run = x.run;
}

module _ (o : Opening) (trees : Trees) (s : State) (p : ℕ) (c : Call) (cs : List Call) (line : Standing) (bs : List Made) (g : Guest) (own : Progress Reply) (n : ℕ) (before : Option Standing) (are : AreTrees o trees) (known : Known o s) (i : p < length o.calls)
    (lines : lines_left o p (s.lps p) ≡ c ∷ cs) (is_in : (s.lps p).guest ≡ Some g) (far : out_progress own ≡ g.operation) (place : s.world.vps.positions g.vp ≡ position_of n own.phase) (held : AreLocks o.machine s.world line.held (s.lps p).call.held)
    (freed : gives_epoch_back line.held ≡ false) where
  abbrev lp : Lp
  lp = s.lps p

  abbrev w : World
  w = s.world

  abbrev row : Row
  row = row_of o p c

  abbrev root : ℕ
  root = slice_index (w.tds.controls g.tdr) 1

  abbrev index : ℕ
  index = w.vps.indexes g.vp

  abbrev x : WordGuest
  x = seen g root index n before

  abbrev number : ℕ
  number = length lp.replies + 1

  abbrev st : Step
  st = step_of o.codes lp.cached x

  abbrev kind : Step → Meaning
  kind z = trees.means p g.tdr g.vp number z

  abbrev b : Beside
  b = beside_of lp bs

  abbrev its : Does
  its = step_does o trees p lp own c cs line x lp.replies b

  inside : p < s.lp_count
  inside = subst (λ (m : ℕ). p < m) (sym known.count) i

  at-guest : InGuest o w p c lp g
  at-guest = inside-of o p s no_memory c cs (trees.call p) (trees.step p) (trees.means p) bs known.guarded.timely lines w lp g lines is_in (known.guarded.timely.each p)

  locked : lp.call.held ≡ guest_locks g.tdr g.vp
  locked = by at-guest.locks
    where
      by : (lp.call.held ≡ guest_locks g.tdr g.vp) ⊎ ((lp.call.held ≡ entry_locks g.tdr g.vp) × (g ≡ new_guest (record { tdr = g.tdr; vp = g.vp; most = g.most }))) → lp.call.held ≡ guest_locks g.tdr g.vp
      by (inl h) = h
      by (inr h) =
          let gives : gives_epoch_back line.held ≡ true = gives-back o.machine w line.held (record { lock = OfEpoch g.tdr; mode = Shared }) (guest_locks g.tdr g.vp) (subst (λ (z : List Held). AreLocks o.machine w line.held z) h.0 held) in
          (let no : true ≡ false = sym gives ∙ freed in cc)

  guest-next : next_event o s p ≡ Some (guest_event o w lp g g.leaving)
  guest-next = ap (event_for o w p lp) lines ∙ (ap (λ (z : Option Guest). Some (line_event o w lp row z)) is_in ∙ ap (λ (z : List Held). Some (entered_event o w lp row g z)) locked)

  at-n : g.operation.phase ≡ Trying → w.vps.positions g.vp ≡ n
  at-n t = place ∙ ap (position_of n) (out-trying own.phase (ap (λ (z : Progress (Option Outcome)). z.phase) far ∙ t))

  abbrev ev : Event
  ev = going_event o w lp g root index n before g.leaving

  now : IsDue o w lp g root index n before st ev
  now = due-is o w lp g root index n before (operation-is o s p no_memory inside known.guarded.timely known.facts are.codes g is_in c at-guest n)

  event-is : g.operation.phase ≡ Trying → guest_event o w lp g g.leaving ≡ ev
  event-is t = by g.leaving
    where
      by : (l : Option Outcome) → guest_event o w lp g l ≡ going_event o w lp g root index n before l
      by (Some out) = refl
      by None = ap (λ (z : Phase (Option Outcome)). staying_event o w lp g z) t ∙ ap (λ (z : ℕ). due_event o w lp g (slice_get (o.codes g.tdr index) z)) (at-n t)

  locks-are : locks_at lp ≡ g.operation.held ++ lp.call.held
  locks-are = ap (λ (z : Option Guest). operation_locks z ++ lp.call.held) is_in

  tdrs : GuestTdrs lp.call.held (Some g)
  tdrs = subst (λ (z : Option Guest). GuestTdrs lp.call.held z) is_in (known.facts.tdrs p).1

  -- its leaf means what it does
  seen-here : (run : Standing) → IsStage o.machine w run.stage own.phase → HasMoves (kind st) ⊎ (own ≡ nothing_yet) → DoesHere o s p its
  seen-here run stage single = record {
    means = are.steps_mean p g.tdr g.vp number st (step-fits o w lp g root index n before st ev (level-fits o s p no_memory inside known.guarded.timely known.facts are.codes g is_in c at-guest) now);
    doing = λ mem. doing o s p mem inside known.guarded.timely known.facts are.codes g is_in c at-guest n (trees.step p g.tdr g.vp number st) own run before far stage
        (place ∙ sym (stage-position o.machine w n run.stage own.phase stage)) guest-next (kind st) st ev now event-is (are.steps p g.tdr g.vp number st) single;
    locks = ap (λ (z : Progress (Option Outcome)). z.held ++ lp.call.held) far ∙ sym locks-are;
    held_tdrs = subst (λ (z : List Held). HoldTdrs z) (sym locks-are) tdrs.0;
    undo_tdr = undo-same own.phase (locks_at lp) (subst (λ (z : List Held). UndoTdr (out_phase own.phase) z) (sym locks-are) (subst (λ (z : Phase (Option Outcome)). UndoTdr z (g.operation.held ++ lp.call.held)) (ap (λ (z : Progress (Option Outcome)). z.phase) (sym far)) tdrs.1));
  }

  -- which is no call
  seen-no-call : (r : Row) → kind st ≡ meaning.OfCall r → ⊥
  seen-no-call r = by st ev now
    where
      by : (z : Step) (e : Event) → IsDue o w lp g root index n before z e → kind z ≡ meaning.OfCall r → ⊥
      by z e (leaves out l) is = (let no : meaning.OfExit g.tdr g.vp out ≡ meaning.OfCall r = sym (are.steps p g.tdr g.vp number z) ∙ is in cc)
      by z e (ends out l) is = (let no : meaning.OfExit g.tdr g.vp out ≡ meaning.OfCall r = sym (are.steps p g.tdr g.vp number z) ∙ is in cc)
      by z e (operates op of-row l fits at) is = (let no : meaning.OfOperation g.tdr g.vp of-row ≡ meaning.OfCall r = sym (are.steps p g.tdr g.vp number z of-row at.1) ∙ is in cc)
      by z e (walks op access q gpa l below at misses) is =
          (let no : meaning.OfWalk g.tdr g.vp access gpa (walk_level g.walk) (walk_page root g.walk) ≡ meaning.OfCall r = sym (are.steps p g.tdr g.vp number z) ∙ is in cc)
      by z e (reaches op access q gpa page l fits at hits) is = (let no : meaning.OfAccess g.tdr g.vp number access q gpa page ≡ meaning.OfCall r = sym (are.steps p g.tdr g.vp number z) ∙ is in cc)

  -- after a turn of that leaf
  module _ (hand : (y : Hand) × IsHand line.hasher y) (reply : Reply) (answered : line.stage ≡ stages.Answered reply) (fine : AnswersGuest own.phase) (u : Table) (stands : Standing) (e : RunEvent) where
    abbrev Then : Step → Meaning → Type 0
    Then z k = (a : LeafAfter o (record { place = record { machine = o.machine; lp = p }; tree = trees.step p g.tdr g.vp number z; meaning = k }) s own u stands e)
        → LpStands o (table_for o trees p) p (event o s p).world a.mem.words ((event o s p).lps p) (after_step c cs line x lp.replies (beside_after e stands.rest b) z stands (last_reply stands.stage stands.held))

    -- one that is a single event
    single-of : (z : Step) (k : Meaning) → kind z ≡ k → (HasMoves k → ⊥) → HasMoves (kind z) ⊎ (own ≡ nothing_yet) → ((own ≡ nothing_yet) → (g.operation ≡ nothing_yet) → (w.vps.positions g.vp ≡ n) → Then z k) → Then z (kind z)
    single-of z k is moves (inl h) goes = absurd (moves (subst HasMoves is h))
    single-of z k is moves (inr fresh) goes =
        let none : g.operation ≡ nothing_yet = sym far ∙ ap out_progress fresh in
        subst (λ (y : Meaning). Then z y) (sym is) (goes fresh none (at-n (ap (λ (y : Progress (Option Outcome)). y.phase) none)))

    by-due : (z : Step) (f : Event) → st ≡ z → IsDue o w lp g root index n before z f → HasMoves (kind z) ⊎ (own ≡ nothing_yet) → Then z (kind z)
    by-due z f is (leaves out l) single =
        single-of z (meaning.OfExit g.tdr g.vp out) (are.steps p g.tdr g.vp number z) (λ h. h) single
        (λ fresh none at a. exit-goes o s p c cs g (trees.call p) (trees.step p) (trees.means p) line reply bs n before lines is_in answered held locked freed hand.0 hand.1 e stands own fresh none at u out a)
    by-due z f is (ends out l) single =
        single-of z (meaning.OfExit g.tdr g.vp out) (are.steps p g.tdr g.vp number z) (λ h. h) single
        (λ fresh none at a. exit-goes o s p c cs g (trees.call p) (trees.step p) (trees.means p) line reply bs n before lines is_in answered held locked freed hand.0 hand.1 e stands own fresh none at u out a)
    by-due z f is (walks op access q gpa l below of misses) single =
        single-of z (meaning.OfWalk g.tdr g.vp access gpa (walk_level g.walk) (walk_page root g.walk)) (are.steps p g.tdr g.vp number z) (λ h. h) single
        (λ fresh none at a. walk-goes o s p c cs g (trees.call p) (trees.step p) (trees.means p) line reply bs n before lines is_in answered held locked freed hand.0 hand.1 e stands own fresh none at u access gpa a)
    by-due z f is (reaches op access q gpa page l fits of hits) single =
        single-of z (meaning.OfAccess g.tdr g.vp number access q gpa page) (are.steps p g.tdr g.vp number z) (λ h. h) single
        (λ fresh none at a. access-goes o s p c cs g (trees.call p) (trees.step p) (trees.means p) line reply bs n before lines is_in answered held locked freed hand.0 hand.1 e stands own fresh none at u access q gpa page a)
    by-due z f is (operates op of-row l fits of) single =
        subst (λ (y : Meaning). Then z y) (sym (are.steps p g.tdr g.vp number z of-row of.1))
        (λ a. operation-goes o s p c cs g (trees.call p) (trees.step p) (trees.means p) line reply bs n before lines is_in answered held locked freed hand.0 hand.1 e stands op of-row is (are.steps p g.tdr g.vp number z of-row of.1)
        (λ y. no-hasher stands.hasher a.mem.hand (a.empty_hand y) a.memory.hand) (row-is o g.tdr g.vp number op of-row of.1) own far place fine u a)

    seen-then : HasMoves (kind st) ⊎ (own ≡ nothing_yet) → Then st (kind st)
    seen-then single = by-due st ev refl now single

-- the same of the guest over words that it is
module _ (o : Opening) (trees : Trees) (s : State) (p : ℕ) (c : Call) (cs : List Call) (line : Standing) (x : WordGuest) (rs : List Reply) (b : Beside) (g : Guest) (own : Progress Reply) (are : AreTrees o trees) (known : Known o s) (i : p < length o.calls)
    (lines : lines_left o p (s.lps p) ≡ c ∷ cs) (replies : (s.lps p).replies ≡ rs) (beside : beside_of (s.lps p) b.bundles ≡ b) (is_in : (s.lps p).guest ≡ Some g) (is : seen_in s.world g x.position x.run ≡ x) (far : out_progress own ≡ g.operation)
    (place : s.world.vps.positions g.vp ≡ position_of x.position own.phase) (single : HasMoves (trees.means p x.tdr x.vp (length rs + 1) (step_of o.codes b.cached x)) ⊎ (own ≡ nothing_yet)) (held : AreLocks o.machine s.world line.held (s.lps p).call.held)
    (freed : gives_epoch_back line.held ≡ false) where
  abbrev Kind : WordGuest → List Reply → Beside → Meaning
  Kind z r y = trees.means p z.tdr z.vp (length r + 1) (step_of o.codes y.cached z)

  abbrev Single : WordGuest → List Reply → Beside → Type 0
  Single z r y = HasMoves (Kind z r y) ⊎ (own ≡ nothing_yet)

  abbrev of_step : WordGuest → List Reply → Beside → Does
  of_step z r y = step_does o trees p (s.lps p) own c cs line z r y

  carried : (P : WordGuest → List Reply → Beside → Type 0) → P (seen_in s.world g x.position x.run) (s.lps p).replies (beside_of (s.lps p) b.bundles) → P x rs b
  carried P h =
      subst (λ (z : WordGuest). P z rs b) is
      (subst (λ (r : List Reply). P (seen_in s.world g x.position x.run) r b) replies (subst (λ (y : Beside). P (seen_in s.world g x.position x.run) (s.lps p).replies y) beside h))

  pub step-here : (run : Standing) → IsStage o.machine s.world run.stage own.phase → DoesHere o s p (step_does o trees p (s.lps p) own c cs line x rs b)
  step-here run stage =
      carried (λ (z : WordGuest) (r : List Reply) (y : Beside). Single z r y → DoesHere o s p (of_step z r y))
      (seen-here o trees s p c cs line b.bundles g own x.position x.run are known i lines is_in far place held freed run stage) single

  pub step-no-call : (row : Row) → trees.means p x.tdr x.vp (length rs + 1) (step_of o.codes b.cached x) ≡ meaning.OfCall row → ⊥
  step-no-call row =
      carried (λ (z : WordGuest) (r : List Reply) (y : Beside). Kind z r y ≡ meaning.OfCall row → ⊥)
      (seen-no-call o trees s p c cs line b.bundles g own x.position x.run are known i lines is_in far place held freed row)

  pub step-stands : (hand : (y : Hand) × IsHand line.hasher y) (reply : Reply) → line.stage ≡ stages.Answered reply → AnswersGuest own.phase → (u : Table) (stands : Standing) (e : RunEvent)
      → (a : LeafAfter o (task_for o p (step_does o trees p (s.lps p) own c cs line x rs b)) s own u stands e)
      → LpStands o (table_for o trees p) p (event o s p).world a.mem.words ((event o s p).lps p) (after_step c cs line x rs (beside_after e stands.rest b) (step_of o.codes b.cached x) stands (last_reply stands.stage stands.held))
  step-stands hand reply answered fine u stands e =
      carried (λ (z : WordGuest) (r : List Reply) (y : Beside). Single z r y → (a : LeafAfter o (task_for o p (of_step z r y)) s own u stands e)
      → LpStands o (table_for o trees p) p (event o s p).world a.mem.words ((event o s p).lps p) (after_step c cs line z r (beside_after e stands.rest y) (step_of o.codes y.cached z) stands (last_reply stands.stage stands.held)))
      (seen-then o trees s p c cs line b.bundles g own x.position x.run are known i lines is_in far place held freed hand reply answered fine u stands e) single
