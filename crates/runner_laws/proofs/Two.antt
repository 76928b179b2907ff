-- Two hosts that both hold a TD, by one event of either.
use Rattle.std.proofs.Common.{◌≡◌, refl, sym, ◌∙◌, ap, subst, ℕ, ◌+◌, List, [], ◌∷◌, length, Option, Some, None, Bool, true, not, ◌==◌}
use Rattle.std.specs.List.{All, list_any}
use Rattle.std.proofs.lemmas.Bool.{eqb-true, eq-eqb, and_parts}
use Rattle.std.proofs.lemmas.List.Elements.{All-head, All-tail}
use Rattle.std.proofs.lemmas.List.Folds.{list_any-append}
use Rattle.td_words.specs.declared.calls.Call.{Call}
use Rattle.td_words.specs.Slots.{output_slot}
use Rattle.flat_core.specs.World.{World, ClearHeader, Made}
use Rattle.flat_core.specs.Opening.{Opening, Incoming}
use Rattle.flat_core.specs.Lawful.{IsAlive}
use Rattle.flat_core.specs.Event.{State, event}
use Rattle.flat_core.specs.Laws.{with_bundles}
use Rattle.flat_core.proofs.Tests.{by_test}
use Rattle.flat_core.proofs.Acts.{event_world}
use Rattle.flat_bundles.specs.Bundles.{AddsOwn}
use Rattle.flat_bundles.proofs.Rows.{calls-add}
use Rattle.mig_laws.specs.Imports.{DestinationHolds}
use Rattle.mig_laws.proofs.OneMore.{any_at}
use Rattle.runner_laws.specs.Runner.{Runs, IsCalledBack, Returned}
use Rattle.runner_laws.specs.Kept.{PausesIn, CommitsIn, exported, IsDue, waiting, noted, is_back, IsSentOrBack, sent, given_back, TwoAreKept}
use Rattle.runner_laws.proofs.Moves.{Asked, operation_same, reach_same}
use Rattle.runner_laws.proofs.Commits.{OtherBack}
use Rattle.runner_laws.proofs.Runner.{runs_in, waiting_stops, commits_have_starts, StaysOr, goes_on, instead, event_sent, sent_rests, due_is_kept, importing_due}

-- a token back that the destination made is there; and where none is left, it isn't
made_back : (q : Opening) (list : List Made) (t session : ℕ) → Returned q list → (c : Call) → IsCalledBack q t session c → list_any (is_back session) list ≡ true
made_back q list t session returned c b =
    let m = returned b.slot b.bundle b.header b.there b.header_is b.right b.kind in
    let six : (m.bundle.header.kind == 6) ≡ true = eq-eqb _ _ (ap (λ (h : ClearHeader). h.kind) m.same_header ∙ b.kind) in
    let own : (m.bundle.header.session == session) ≡ true = eq-eqb _ _ (ap (λ (h : ClearHeader). h.session) m.same_header ∙ b.own) in
    subst (λ (bs : List Made). list_any (is_back session) bs ≡ true) (sym m.place) (any_at (is_back session) m.before m.after m.bundle (rw (six, own) refl))

none_back : (session : ℕ) (list : List Made) → All (OtherBack session) list → list_any (is_back session) list ≡ true → ⊥
none_back session [] h e = cc
none_back session (b ∷ bs) h e = by_test (is_back session b)
    (λ y. (let parts = and_parts (b.header.kind == 6) (b.header.session == session) y in
    All-head (OtherBack session) b bs h (ap (λ (x : Bool). not x) parts.0) (eqb-true _ _ parts.1)))
    (λ n. none_back session bs (All-tail (OtherBack session) b bs h) (rw n at e))

-- an event makes no bundle disappear
back_stays : (o : Opening) (bundles : ℕ → Option Incoming) (s : State) (p session : ℕ) → list_any (is_back session) s.world.outgoing.bundles ≡ true
    → list_any (is_back session) (event (with_bundles o bundles) s p).world.outgoing.bundles ≡ true
back_stays o bundles s p session e =
    let q : Opening = with_bundles o bundles in
    event_world q s p (λ v. list_any (is_back session) v.outgoing.bundles ≡ true) e
    (λ c cs line none ps. added (output_slot c) s.world.outgoing.bundles _ (calls-add q p c s.world) e)
    (λ c cs g op row i is ps. subst (λ (bs : List Made). list_any (is_back session) bs ≡ true) (sym (ap (λ (z : Asked). z.bundles) (operation_same q g.tdr g.vp (length (s.lps p).replies + 1) op row s.world is))) e)
    (λ c cs g op access r gpa page i is found. subst (λ (bs : List Made). list_any (is_back session) bs ≡ true) (sym (ap (λ (z : Asked). z.bundles) (reach_same g.tdr g.vp access r gpa page s.world))) e)
    (λ c cs g i. e)
  where
    added : (x : Option ℕ) (before after : List Made) → AddsOwn x before after → list_any (is_back session) before ≡ true → list_any (is_back session) after ≡ true
    added None before after same f = subst (λ (bs : List Made). list_any (is_back session) bs ≡ true) (sym same) f
    added (Some slot) before after a f =
        subst (λ (bs : List Made). list_any (is_back session) bs ≡ true) (sym a.added) (list_any-append (is_back session) before (a.bundle ∷ []) ∙ rw f refl)

module _ (o : Opening) (bundles : ℕ → Option Incoming) (s : State) (p : ℕ) (destination : World) (t session : ℕ) (h : PausesIn o s) (returned : Returned (with_bundles o bundles) destination.outgoing.bundles) where
  abbrev after : World
  after = (event (with_bundles o bundles) s p).world

  abbrev IsBack : Type 0
  IsBack = list_any (is_back session) destination.outgoing.bundles ≡ true

  source_two : IsAlive after.pages after.tds t → IsSentOrBack s.world destination t session → IsSentOrBack after destination t session
  source_two alive (given_back e) = given_back e
  source_two alive (sent k) = by (event_sent IsBack true o bundles s p t session h (made_back (with_bundles o bundles) destination.outgoing.bundles t session returned) k alive)
    where
      by : StaysOr IsBack true after t session → IsSentOrBack after destination t session
      by (goes_on k) = sent k
      by (instead e) = given_back e

destination_two : (o : Opening) (bundles : ℕ → Option Incoming) (s : State) (p : ℕ) (source : World) (t session : ℕ) → IsSentOrBack source s.world t session
    → IsSentOrBack source (event (with_bundles o bundles) s p).world t session
destination_two o bundles s p source t session (sent k) = sent k
destination_two o bundles s p source t session (given_back e) = given_back (back_stays o bundles s p session e)

one_of_two : (q o : Opening) (s d : State) (t u session : ℕ) → PausesIn q s → CommitsIn o d → DestinationHolds s.world d.world → IsSentOrBack s.world d.world t session → IsDue d.world u session → Runs s t → Runs d u → ⊥
one_of_two q o s d t u session h k holds two (waiting r) runs others = waiting_stops (d.world.tds.ops u) r.waiting (runs_in o d k.0.0.0.timely u others)
one_of_two q o s d t u session h k holds (given_back e) (noted image from) runs others = none_back session d.world.outgoing.bundles (k.1 session image from).kept e
one_of_two q o s d t u session h k holds (sent x) (noted image from) runs others = (sent_rests true q s t session h (commits_have_starts s.world d.world holds session image from) x).1 runs

pub two_are_kept : TwoAreKept
two_are_kept = record {
  begin = λ source destination t u session paused importing. record { sent = sent (exported paused.exported (λ e. paused.paused)); due = importing_due destination u session importing };
  source = λ o bundles s p destination t u session h returned alive two. record { sent = source_two o bundles s p destination t session h returned alive two.sent; due = two.due };
  destination = λ o bundles s p source t u session alive two. record { sent = destination_two o bundles s p source t session two.sent; due = due_is_kept o bundles s p u session alive two.due };
  one = λ q o source destination t u session h d holds two runs others. one_of_two q o source destination t u session h d holds two.sent two.due runs others;
}
