-- What a turn of a guest's step leaves: its run, and its locks.
use Rattle.std.proofs.Common.{◌≡◌, ◌⊎◌, ℕ, zero, suc, Bool, true, false, List, [], ◌∷◌, ◌++◌, Option, Some, None, option_map, refl, ap, sym, ◌∙◌, inl, inr}
use Rattle.td_words.specs.declared.names.Access.{Access}
use Rattle.td_words.specs.declared.refusals.Status.TheVariants.{OperandBusy}
use Rattle.td_words.specs.declared.replies.Value.TheVariants as value
use Rattle.td_words.specs.declared.replies.Reply.{Reply}
use Rattle.td_words.specs.declared.replies.Reply.TheVariants.{Done, Refused, Exited}
use Rattle.td_words.specs.declared.replies.Outcome.{Outcome}
use Rattle.td_words.specs.declared.replies.Outcome.TheVariants.{Vmcall}
use Rattle.flat_core.specs.World.{World}
use Rattle.flat_core.specs.Processor.{Held, Phase, Trying, Undoing, Answered, Progress, nothing_yet, Guest, Lp}
use Rattle.flat_core.specs.Opening.{Opening}
use Rattle.flat_core.specs.Row.{OperationRow, Move, Attempts, Undoes, Refuses, Succeeds, Releases, Rests, next_in, after_move}
use Rattle.flat_core.specs.Guest.{answered, walk_level, walk_step, walked_on, goes_on, walked_entry}
use Rattle.flat_core.specs.Event.{State, Event, event, after_event, lp_after, is_granted, settle_operation, settled_guest, operation_guest, operation_busy}
use Rattle.lock_words.specs.Grips.{operation_locks}
use Rattle.lock_words.specs.LockWords.{IsNext}
use Rattle.leaf_engine.specs.Means as meaning
use Rattle.leaf_engine.specs.Means.{Meaning, work_of}
use Rattle.leaf_engine.specs.Turns.{Standing}
use Rattle.leaf_engine.specs.Doing.{event_of, row_then, outcome_of, HasMoves}
use Rattle.leaf_engine.specs.Standing.{out_progress}
use Rattle.leaf_engine.specs.Guests.{WordGuest, Step, Operates, Accesses, Loads, Leaves as Left, stepped, walked, is_right}
use Rattle.leaf_engine.specs.OwnLists.{line_after}
use Rattle.leaf_engine.proofs.Calling.{lp-now}
use Rattle.merge_laws.proofs.Holding.{locks_at}
use Rattle.merge_laws.proofs.Standing.{guest_run, IsAct}

-- a step that has ended has no run

walked-fresh : (access : Access) (gpa level rights : ℕ) (b : Bool) (x : WordGuest) → (walked access gpa level rights b x).run ≡ None
walked-fresh access gpa zero rights true x = refl
walked-fresh access gpa (suc level) rights true x = refl
walked-fresh access gpa zero rights false x = refl
walked-fresh access gpa (suc level) rights false x = refl

pub stepped-fresh : (step : Step) (r : Reply) (x : WordGuest) → guest_run (stepped step r x) ≡ None
stepped-fresh (Operates o) (Done v) x = refl
stepped-fresh (Operates o) (Exited (Vmcall y)) x = refl
stepped-fresh (Operates o) (Exited _) x = refl
stepped-fresh (Operates o) (Refused (OperandBusy n)) x = refl
stepped-fresh (Operates o) (Refused _) x = refl
stepped-fresh (Accesses access r' gpa page) r x = refl
stepped-fresh (Loads access gpa level page) (Done (value.Number rights)) x = walked-fresh access gpa level rights (is_right access level rights) x
stepped-fresh (Loads access gpa level page) (Done _) x = refl
stepped-fresh (Loads access gpa level page) (Exited out) x = refl
stepped-fresh (Loads access gpa level page) (Refused s) x = refl
stepped-fresh (Left out) r x = refl

pub line-hasher : (step : Step) (r : Reply) (line : Standing) → (line_after step r line).hasher ≡ line.hasher
line-hasher (Operates o) r line = refl
line-hasher (Accesses access r' gpa page) r line = refl
line-hasher (Loads access gpa level page) r line = refl
line-hasher (Left out) r line = refl

-- the locks held stay through an act

settled-held : (ph : Phase (Option Outcome)) (hs : List Held) (g : Guest) → g.operation.held ≡ hs → (settle_operation ph hs g).operation.held ≡ hs
settled-held (Answered None) [] g e = refl
settled-held (Answered (Some out)) [] g e = refl
settled-held (Answered None) (h ∷ hs) g e = e
settled-held (Answered (Some out)) (h ∷ hs) g e = e
settled-held Trying hs g e = e
settled-held (Undoing l) hs g e = e

settled-of : (g : Guest) → (settled_guest g).operation.held ≡ g.operation.held
settled-of g = settled-held g.operation.phase g.operation.held g refl

walked-held : (access : Access) (gpa : ℕ) (b : Bool) (l : ℕ) (d : Rattle.td_words.specs.Packing.Entry) (g : Guest) → (walked_on access gpa b l d g).operation.held ≡ g.operation.held
walked-held access gpa true zero d g = refl
walked-held access gpa true (suc l) d g = refl
walked-held access gpa false zero d g = refl
walked-held access gpa false (suc l) d g = refl

module _ (o : Opening) (s : State) (p : ℕ) (g : Guest) (is_in : (s.lps p).guest ≡ Some g) (own : Progress Reply) (far : out_progress own ≡ g.operation) where
  abbrev lp : Lp
  lp = s.lps p

  abbrev w : World
  w = s.world

  lp-is : (ev : Event) → IsNext o s p ev → (event o s p).lps p ≡ lp_after w (is_granted s ev) ev lp
  lp-is ev next = ap (λ (y : Option Event). (after_event p s y).lps p) next.next ∙ lp-now s p (lp_after w (is_granted s ev) ev lp)

  kept-by : (f : Guest → Guest) → (f g).operation.held ≡ g.operation.held → operation_locks (option_map f lp.guest) ++ lp.call.held ≡ operation_locks lp.guest ++ lp.call.held
  kept-by f held =
      ap (λ (z : Option Guest). operation_locks (option_map f z) ++ lp.call.held) is_in
      ∙ (ap (λ (z : List Held). z ++ lp.call.held) held ∙ sym (ap (λ (z : Option Guest). operation_locks z ++ lp.call.held) is_in))

  pub stays-at : (k : Meaning) → HasMoves k ⊎ (own ≡ nothing_yet) → (((row : Rattle.flat_core.specs.Row.Row) → k ≡ meaning.OfCall row → ⊥)) → (mv : Move Reply) → IsAct mv → IsNext o s p (event_of k mv) → locks_at ((event o s p).lps p) ≡ locks_at lp
  stays-at (meaning.OfCall row) m never mv act next = absurd (never row refl)
  stays-at (meaning.OfOperation t v row) m never mv act next = ap locks_at (lp-is (event_of (meaning.OfOperation t v row) mv) next) ∙ by mv act
    where
      by : (mv : Move Reply) → IsAct mv → locks_at (lp_after w (is_granted s (event_of (meaning.OfOperation t v row) mv)) (event_of (meaning.OfOperation t v row) mv) lp) ≡ locks_at lp
      by (Refuses r) act = kept-by (operation_guest w false (row_then row (Refuses r)) (Refuses (outcome_of r))) (settled-of (record g { operation = after_move operation_busy false ((row_then row (Refuses r)).answer w) (Refuses (outcome_of r)) g.operation }))
      by Succeeds act = kept-by (operation_guest w false (row_then row Succeeds) Succeeds) (settled-of (record g { operation = after_move operation_busy false ((row_then row Succeeds).answer w) Succeeds g.operation }))
      by (Attempts l m) act = absurd act
      by (Undoes l) act = absurd act
      by (Releases h) act = absurd act
      by Rests act = absurd act
  stays-at (meaning.OfAccess t v line access r gpa page) m never mv act next =
      ap locks_at (lp-is (event_of (meaning.OfAccess t v line access r gpa page) mv) next) ∙ kept-by (λ y. settled_guest (answered None y)) (settled-of (answered None g))
  stays-at (meaning.OfWalk t v access gpa level page) m never mv act next =
      ap locks_at (lp-is (event_of (meaning.OfWalk t v access gpa level page) mv) next)
      ∙ kept-by (λ y. settled_guest (walk_step w y access gpa)) (settled-of (walk_step w g access gpa) ∙ walked-held access gpa (goes_on access (walk_level g.walk) (walked_entry w g gpa)) (walk_level g.walk) (walked_entry w g gpa) g)
  stays-at (meaning.OfExit t v out) m never mv act next =
      ap locks_at (lp-is (event_of (meaning.OfExit t v out) mv) next)
      ∙ (ap (λ (z : List Held). z ++ lp.call.held) (sym (ap (λ (z : Progress (Option Outcome)). z.held) (sym far) ∙ ap (λ (z : Progress Reply). z.held) (nothing m))) ∙ sym (ap (λ (z : Option Guest). operation_locks z ++ lp.call.held) is_in))
    where
      nothing : HasMoves (meaning.OfExit t v out) ⊎ (own ≡ nothing_yet) → own ≡ nothing_yet
      nothing (inl z) = absurd z
      nothing (inr z) = z
