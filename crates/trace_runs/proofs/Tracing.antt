-- A turn tells the next event of the trace, and where all have ended the whole trace is told.
use Rattle.std.proofs.Common.{◌≡◌, sym, ◌∙◌, ap, subst, ℕ, ◌+◌, ◌%◌, ◌<◌, List, [], ◌∷◌, ◌++◌, length, None, true, arith, append-nil, append_assoc}
use Rattle.std.proofs.lemmas.List.{length_push}
use Rattle.std.specs.Global.{Vec}
use Rattle.td_words.specs.declared.calls.GuestOp.{GuestOp}
use Rattle.td_words.specs.declared.machines.Machine.{Machine}
use Rattle.flat_core.specs.Opening.{Opening}
use Rattle.flat_core.specs.Event.{State, start, event}
use Rattle.flat_core.specs.Run.{play}
use Rattle.leaf_engine.specs.declared.events.Event.{Event}
use Rattle.leaf_engine.specs.OwnLists.{Piece, taken_in, LeafTable, WordLp}
use Rattle.leaf_engine.specs.Merges.{order}
use Rattle.leaf_table.specs.Given.{given_of}
use Rattle.leaf_table.specs.Table.{code_in, leaf_table}
use Rattle.leaf_dispatch.specs.Shown.{TurnsAs, epoch_loaded}
use Rattle.leaf_dispatch.specs.States.{seen_of}
use Rattle.leaf_dispatch.specs.declared.states.LpState.{LpState}
use Rattle.trace_lines.specs.declared.traces.Traced.{Traced}
use Rattle.trace_lines.specs.declared.traces.What.{What}
use Rattle.trace_lines.specs.Traces.{reply_behind, traces_from, traces}
use Rattle.trace_lines.specs.Laws.{TracesGoOn}
use Rattle.trace_laws.specs.Told.{act_told, event_told, turn_told}
use Rattle.trace_laws.specs.Laws.{TurnsAreTold}
use Rattle.leaf_dispatch.proofs.Shown.{told-again}
use Rattle.run_texts.specs.Replaying.{StandsAt, TurnsAreEvents}
use Rattle.run_texts.specs.Looking.{IsNext, SeeksOn, HasRun}
use Rattle.run_texts.specs.declared.turns.Ran.{Ran}
use Rattle.run_texts.proofs.Replayed.{IsOpen, ended-flat, went-on}
use Rattle.trace_runs.specs.Tracing.{IsTelling}

-- the event of a turn is told as that of its run is
same-told : (t : LeafTable) (m : Machine) (number p : ℕ) (at after : WordLp) (e : Event) (ps : List Piece) → (turned : TurnsAs t m at e ps after) → turn_told t.codes number p at after e ≡ turn_told t.codes number p at after turned.event_is
same-told t m number p at after e ps turned =
    let act : What = act_told t.codes at.guest at.beside in
    let same : event_told act e ≡ event_told act turned.event_is = ap (event_told act) turned.tells ∙ told-again act (epoch_loaded (taken_in ps) % 2) turned.event_is in
    (λ i. record { number = number; lp = p; line = length at.replies + 1; what = same i; reply = reply_behind (length at.replies) after.replies })

pub told-next : TurnsAreTold → (o : Opening) (schedule : List ℕ) (s : State) (items : List ℕ) (p : ℕ) (l l' : LpState) (e : Event) (told told' : Vec Traced) (x : Traced)
    → x ≡ turn_told (code_in l.codes.now) (length told.items + 1) p (seen_of l) (seen_of l') e → told'.items ≡ told.items ++ x ∷ []
    → IsNext o s p l e l' → IsTelling told o schedule s (p ∷ items) → IsTelling told' o schedule (event o s p) items
told-next law o schedule s items p l l' e told told' x is more n h =
    let before : List Traced = told.items in
    let number : ℕ = length before + 1 in
    let rest : ℕ → List Traced = λ k. traces_from o (event o s p) k items in
    let run : Event = n.turned.event_is in
    let tells : traces_from o s number (p ∷ items) ≡ turn_told o.codes number p (n.now p) (seen_of l') run ∷ rest (number + 1) =
    subst (λ (z : State). traces_from o z number (p ∷ items) ≡ turn_told o.codes number p (n.now p) (seen_of l') run ∷ traces_from o (event o z p) (number + 1) items) (sym n.is)
    (law.told o (leaf_table o.machine (given_of o) o.codes) n.made n.now n.before n.after p (seen_of l') run n.pieces n.few n.leaves n.limits n.merge n.inside n.turned.turns n.did number items) in
    let named : x ≡ turn_told o.codes number p (n.now p) (seen_of l') run =
    is ∙ (ap (λ (c : ℕ → ℕ → List GuestOp). turn_told c number p (seen_of l) (seen_of l') e) n.codes ∙ (ap (λ (a : WordLp). turn_told o.codes number p a (seen_of l') e) (sym n.here)
    ∙ same-told (leaf_table o.machine (given_of o) o.codes p) o.machine number p (n.now p) (seen_of l') e n.pieces n.turned)) in
    h
    ∙ (ap (λ (xs : List Traced). before ++ xs) (tells ∙ ap (λ (y : Traced). y ∷ rest (number + 1)) (sym named))
    ∙ (sym (append_assoc before (x ∷ []) (rest (number + 1)))
    ∙ (ap (λ (k : ℕ). (before ++ x ∷ []) ++ rest k) (omega (arith, length_push before x)) ∙ ap (λ (ts : List Traced). ts ++ rest (length ts + 1)) (sym more))))

pub traces-seek-on : TracesGoOn → (o : Opening) (schedule : List ℕ) → SeeksOn IsTelling o schedule
traces-seek-on go o schedule told = record {
  idle = λ s p items none h. h ∙ ap (λ (xs : List Traced). told.items ++ xs) (go.idle o s (length told.items + 1) p items none);
  one_more = λ events p inside ended h. h ∙ ap (λ (xs : List Traced). told.items ++ xs) (sym (go.one_more o events (length told.items + 1) p inside ended));
}

pub all-told : TurnsAreEvents → TracesGoOn → (o : Opening) (schedule : List ℕ) (told : Vec Traced) (r : Ran) → IsOpen o → r.ended ≡ true → HasRun IsTelling (λ t. Unit {0}) o schedule told r → told.items ≡ traces o schedule
all-told ls go o schedule told r op ended ran =
    let h = went-on (Unit {0}) (length r.lps.items) r.lps.items (λ left. StandsAt o left (IsTelling told o schedule) r.lps.items r.words.words) r.ended ended ran in
    let l = h.1 in
    let none = λ (q : ℕ) (less : q < length o.calls). ended-flat ls o [] (IsTelling told o schedule) r.lps.items l.table q op l.midway less (h.0 q (omega (arith, l.count, less))) in
    sym (l.midway.holds ∙ (ap (λ (xs : List Traced). told.items ++ xs) (go.ended o (play o (order l.midway.made) (start o None)) (length told.items + 1) none) ∙ append-nil told.items))
