-- A call that is refused changes nothing of its processor's record but its locks and its replies.
use Rattle.std.proofs.Common.{◌≡◌, refl, sym, ◌∙◌, subst, ap, ℕ, List, [], ◌∷◌, ◌++◌, Option, Some, None, IfSome, Bool, ◌==◌}
use Rattle.std.proofs.lemmas.Bool.{eqb-true, eqb-false}
use Rattle.td_words.specs.declared.calls.Call.{Call}
use Rattle.td_words.specs.declared.replies.Reply.{Reply}
use Rattle.td_words.specs.declared.replies.Reply.TheVariants.{Refused}
use Rattle.flat_core.specs.World.{World}
use Rattle.flat_core.specs.Processor.{Held, Phase, Trying, Undoing, Answered, Guest, Lp}
use Rattle.flat_core.specs.Opening.{Opening}
use Rattle.flat_core.specs.Row.{Row, Move, Attempts, Undoes, Refuses, Succeeds, Releases, Rests, next_in}
use Rattle.flat_core.specs.Table.{row_of}
use Rattle.flat_core.specs.Event.{State, Event, OfCall, next_event, event_for, line_event, lines_left, event, after_event, lp_after, call_lp, settle, is_granted}
use Rattle.flat_core.specs.Run.{play}
use Rattle.flat_core.specs.Laws.{IsQuiet, OwnEventsAreQuiet, IsKeptBesides, QuietCallsKeep, RefusalsLeaveTheirReply}
use Rattle.flat_core.proofs.Tests.{by_test}
use Rattle.flat_core.proofs.Kept.{others_stay}
use Rattle.flat_core.proofs.Induction.{play_append}
use Rattle.flat_core.proofs.Refused.{after_here, refused_stay}

kept_settled : (phase : Phase Reply) (hs : List Held) (lp : Lp) → IsKeptBesides lp (settle phase hs lp)
kept_settled (Answered r) [] lp = record { cached = refl; guest = refl; notes = refl; told = refl }
kept_settled (Answered r) (h ∷ hs) lp = record { cached = refl; guest = refl; notes = refl; told = refl }
kept_settled Trying hs lp = record { cached = refl; guest = refl; notes = refl; told = refl }
kept_settled (Undoing l) hs lp = record { cached = refl; guest = refl; notes = refl; told = refl }

kept_move : (w : World) (b : Bool) (row : Row) (move : Move Reply) (lp : Lp) → IsQuiet (OfCall row move) → IsKeptBesides lp (call_lp w b row move lp)
kept_move w b row (Attempts l m) lp quiet = record { cached = refl; guest = refl; notes = refl; told = refl }
kept_move w b row (Undoes l) lp quiet = record { cached = refl; guest = refl; notes = refl; told = refl }
kept_move w b row (Refuses r) lp quiet = record { cached = refl; guest = refl; notes = refl; told = refl }
kept_move w b row Succeeds lp quiet = absurd quiet
kept_move w b row (Releases h) lp quiet = record { cached = refl; guest = refl; notes = refl; told = refl }
kept_move w b row Rests lp quiet = record { cached = refl; guest = refl; notes = refl; told = refl }

kept_then : (x y z : Lp) → IsKeptBesides x y → IsKeptBesides y z → IsKeptBesides x z
kept_then x y z h k = record { cached = k.cached ∙ h.cached; guest = k.guest ∙ h.guest; notes = k.notes ∙ h.notes; told = k.told ∙ h.told }

kept_call : (w : World) (b : Bool) (row : Row) (move : Move Reply) (lp : Lp) → IsQuiet (OfCall row move) → IsKeptBesides lp (lp_after w b (OfCall row move) lp)
kept_call w b row move lp quiet =
    let x : Lp = call_lp w b row move lp in
    kept_then lp x (settle x.call.phase x.call.held x) (kept_move w b row move lp quiet) (kept_settled x.call.phase x.call.held x)

pub quiet_calls_keep : QuietCallsKeep
quiet_calls_keep o s p row move next quiet =
    let e : Event = OfCall row move in
    let here : (event o s p).lps p ≡ lp_after s.world (is_granted s e) e (s.lps p) = ap (λ (x : Option Event). (after_event p s x).lps p) next ∙ after_here p s e in
    subst (λ (x : Lp). IsKeptBesides (s.lps p) x) (sym here) (kept_call s.world (is_granted s e) row move (s.lps p) quiet)

-- outside guests every event is one of a call
module _ (o : Opening) (s : State) (p : ℕ) (outside : (s.lps p).guest ≡ None) where
  by_guest : (c : Call) (g : Option Guest) → g ≡ None → let e = line_event o s.world (s.lps p) (row_of o p c) g in
      IsQuiet e → IsKeptBesides (s.lps p) (lp_after s.world (is_granted s e) e (s.lps p))
  by_guest c None none quiet =
      let row = row_of o p c in
      let move = next_in (row.items s.world) (s.lps p).call.phase (s.lps p).call.held in
      kept_call s.world (is_granted s (OfCall row move)) row move (s.lps p) quiet
  by_guest c (Some g) none quiet = cc

  by_lines : (cs : List Call) → IfSome (event_for o s.world p (s.lps p) cs) IsQuiet → IsKeptBesides (s.lps p) ((after_event p s (event_for o s.world p (s.lps p) cs)).lps p)
  by_lines [] quiet = record { cached = refl; guest = refl; notes = refl; told = refl }
  by_lines (c ∷ cs) quiet =
      subst (λ (x : Lp). IsKeptBesides (s.lps p) x) (sym (after_here p s (line_event o s.world (s.lps p) (row_of o p c) (s.lps p).guest))) (by_guest c (s.lps p).guest outside quiet)

  own_kept : IfSome (next_event o s p) IsQuiet → IsKeptBesides (s.lps p) ((event o s p).lps p)
  own_kept quiet = by_lines (lines_left o p (s.lps p)) quiet

kept_over : (o : Opening) (p : ℕ) (base : Lp) → base.guest ≡ None → (qs : List ℕ) (s : State) → IsKeptBesides base (s.lps p) → OwnEventsAreQuiet o p qs s → IsKeptBesides base ((play o qs s).lps p)
kept_over o p base outside [] s kept quiet = kept
kept_over o p base outside (q ∷ qs) s kept quiet =
    kept_over o p base outside qs (event o s q)
    (by_test (q == p)
    (λ y. let here : q ≡ p = eqb-true q p y in
    subst (λ (x : ℕ). IsKeptBesides base ((event o s x).lps p)) (sym here) (kept_then base (s.lps p) ((event o s p).lps p) kept (own_kept o s p (kept.guest ∙ outside) (quiet.0 here))))
    (λ y. subst (λ (x : Lp). IsKeptBesides base x) (sym (others_stay o s q p (λ e. eqb-false q p y (sym e)))) kept))
    quiet.1

pub refusals_leave_their_reply : RefusalsLeaveTheirReply
refusals_leave_their_reply o s p schedule status b h =
    let base : Lp = s.lps p in
    let t : State = play o schedule s in
    let quiet : OwnEventsAreQuiet o p (schedule ++ p ∷ []) s = refused_stay.quiet o s p schedule status b h.none_yet h.last in
    let over : IsKeptBesides base ((play o (schedule ++ p ∷ []) s).lps p) =
    kept_over o p base b.guest (schedule ++ p ∷ []) s (record { cached = refl; guest = refl; notes = refl; told = refl }) quiet in
    let kept : IsKeptBesides base ((event o t p).lps p) = subst (λ (x : State). IsKeptBesides base (x.lps p)) (play_append o schedule (p ∷ []) s) over in
    let last : ((event o t p).lps p).replies ≡ (t.lps p).replies ++ Refused status ∷ [] = h.last ∙ ap (λ (rs : List Reply). rs ++ Refused status ∷ []) (sym h.none_yet) in
    let call : ((event o t p).lps p).call ≡ base.call = refused_stay.ended o t p (Refused status) last ∙ sym b.call in
    λ j. record { call = call j; guest = kept.guest j; cached = kept.cached j; replies = h.last j; notes = kept.notes j; told = kept.told j }
