-- A turn of a logical processor is its next event, and is told so.
use Rattle.std.proofs.Common.{◌≡◌, ℕ, ◌%◌, ◌<◌, ◌==◌, not, false, true, None, List, [], ◌∷◌, length, ap, sym, ◌∙◌, subst, arith, refl}
use Rattle.std.proofs.lemmas.Bool.{ne_eqb}
use Rattle.td_words.specs.declared.calls.Call.{Call}
use Rattle.td_words.specs.declared.calls.GuestOp.{GuestOp}
use Rattle.td_words.specs.Seen.{CodeSeen}
use Rattle.td_words.specs.Limits.{IsMachine}
use Rattle.flat_core.specs.Opening.{Opening}
use Rattle.flat_core.specs.Event.{State, start, calls_of, event_for, event}
use Rattle.flat_core.specs.Laws.{reached}
use Rattle.step_core.specs.Items.{Table, PlaysTo}
use Rattle.leaf_engine.specs.declared.needs.Place.{Place}
use Rattle.leaf_engine.specs.declared.events.Event.{Event as RunEvent}
use Rattle.leaf_engine.specs.declared.processors.Turn.{Turn}
use Rattle.leaf_engine.specs.declared.processors.Turn.TheVariants as turn
use Rattle.leaf_engine.specs.OwnLists.{taken_in, WordLp, first_lp}
use Rattle.leaf_engine.specs.Processors.{Turned, has_moved}
use Rattle.leaf_engine.specs.Merges.{no_table, AreCodes, AreLeaves}
use Rattle.leaf_engine.specs.Following.{StandsOn, IsRunning, IsFollowed}
use Rattle.leaf_engine.specs.Following as engine
use Rattle.trace_laws.specs.Told.{told}
use Rattle.trace_laws.specs.Laws.{WasTold, TurnsAreTold}
use Rattle.leaf_dispatch.specs.Bounds.{events_left}
use Rattle.leaf_table.specs.Given.{Given, given_in}
use Rattle.leaf_table.specs.Table.{code_in, place_table, leaf_table}
use Rattle.leaf_dispatch.specs.Shown.{event_as, epoch_loaded, TurnsAs}
use Rattle.leaf_dispatch.specs.States.{seen_of, Moves}
use Rattle.leaf_table.specs.Laws.{CallsHaveLeaves}
use Rattle.leaf_dispatch.specs.Follows.{IsProcessor, LpStands, IsNext, LpStatesFollow}
use Rattle.leaf_dispatch.specs.declared.states.LpState.{LpState}
use Rattle.leaf_dispatch.proofs.Epochs.{shown-as, exit-epoch}

same-table : (t u : Table) → u.words ≡ t.words → u.slots ≡ t.slots → u ≡ t
same-table t u a b = λ i. record { words = a i; slots = b i }

no-lines : (cs : List Call) → false ≡ not (length cs == 0) → cs ≡ []
no-lines [] e = refl
no-lines (c ∷ cs) e = (let apart : false ≡ true = e ∙ ap not (ne_eqb (length (c ∷ cs)) 0 (λ z. absurd (omega (arith, z)))) in cc)

module _ (law : engine.ProcessorsFollow) (tells : TurnsAreTold) (leaves : CallsHaveLeaves) (o : Opening) (s : State) (p : ℕ) (machine : IsMachine o.machine) (codes : AreCodes o) (runs : IsRunning o s) where
  next : (l l' : LpState) (t u : Table) (r : Turn) → IsProcessor o p l → LpStands o s t p l → Turned Moves (λ z. events_left (code_in z.codes.now) (seen_of z)) (PlaysTo t) l u l' r → has_moved r ≡ not (length l.lines.now == 0)
      → IsNext o s u p l l' r
  next l l' t u (turn.Moved e) is stands t' h =
      let ps = t'.0.0 in
      let moves = t'.0.2 in
      let given : Given = given_in l.given in
      let list : List CodeSeen = l.codes.now in
      let run : RunEvent = moves.3.event_is in
      let at = subst (λ (z : Place). StandsOn o (place_table z given (code_in list)) p s t (seen_of l)) is.place stands in
      let lt = subst (λ (z : Place). TurnsAs (place_table z given (code_in list)) z.machine (seen_of l) e ps (seen_of l')) is.place moves.3 in
      let are : AreLeaves o (leaf_table o.machine given (code_in list)) = leaves o given (code_in list) machine is.given is.codes in
      let inside : p < s.lp_count = subst (λ (n : ℕ). p < n) (sym runs.timely.count) is.inside in
      let got : IsFollowed o (leaf_table o.machine given (code_in list) p) p s u (seen_of l) (seen_of l') =
      law.follow o (leaf_table o.machine given (code_in list)) p s t u (seen_of l) (seen_of l') lt.event_is ps are codes runs inside at lt.turns t'.0.1 in
      let was : WasTold o s p (seen_of l) lt.event_is = tells.one o (leaf_table o.machine given (code_in list)) p s t u (seen_of l) (seen_of l') lt.event_is ps are codes runs inside at lt.turns t'.0.1 in
      let same-codes : code_in list ≡ o.codes = λ i. λ (td n : ℕ). is.codes td n i in
      record {
        event_is = was.event_is;
        next = was.next;
        told_is =
            lt.tells
            ∙ (ap (λ (c : ℕ → ℕ → List GuestOp). event_as (epoch_loaded (taken_in ps) % 2) (told c (seen_of l) lt.event_is)) same-codes
            ∙ (ap (event_as (epoch_loaded (taken_in ps) % 2)) (sym was.what)
            ∙ shown-as s p (epoch_loaded (taken_in ps) % 2) was.event_is (λ v out left. exit-epoch o s p l l' t u given lt.event_is ps v is runs inside at lt.turns t'.0.1 (was.leaves v out left))));
        stands =
            subst (λ (z : Given). StandsOn o (place_table l'.place z (code_in l'.codes.now)) p (event o s p) u (seen_of l')) (sym moves.1)
            (subst (λ (z : List CodeSeen). StandsOn o (place_table l'.place given (code_in z)) p (event o s p) u (seen_of l')) (sym moves.2)
            (subst (λ (z : Place). StandsOn o (place_table z given (code_in list)) p (event o s p) u (seen_of l')) (sym (moves.0 ∙ is.place)) got.stands));
        more = got.more;
        bundles = got.bundles;
        own_bundles = got.own_bundles;
      }
  next l l' t u turn.Ended is stands t' h = (
    ap (event_for o s.world p (s.lps p)) (stands.stands.lines ∙ no-lines l.lines.now h),
    subst (λ (z : LpState). LpStands o s u p z) (sym t'.1) (subst (λ (z : Table). LpStands o s z p l) (sym (same-table t u t'.0.0 t'.0.1)) stands),
  )

starts : engine.ProcessorsFollow → (o : Opening) (p : ℕ) (l : LpState) → seen_of l ≡ first_lp (calls_of o.calls p) → LpStands o (start o None) no_table p l
starts law o p l first = subst (λ (z : WordLp). StandsOn o (place_table l.place (given_in l.given) (code_in l.codes.now)) p (start o None) no_table z) (sym first) (law.starts o (place_table l.place (given_in l.given) (code_in l.codes.now)) p)

pub lp-states-follow : engine.ProcessorsFollow → TurnsAreTold → CallsHaveLeaves → LpStatesFollow
lp-states-follow law tells leaves = record {
  starts = starts law;
  follow = λ o s p l l' t u r machine codes runs is stands t' h. next law tells leaves o s p machine codes runs l l' t u r is stands t' h;
  runs = λ o schedule p l l' t u r machine few codes is stands t' h. next law tells leaves o (reached o None schedule) p machine codes (law.runs o schedule few) l l' t u r is stands t' h;
}
