-- Each event leaves the lists of bundles well made, and so they are in every run.
use Rattle.std.proofs.Common.{◌≡◌, refl, sym, ◌∙◌, ap, ap₂, ℕ, ◌+◌, List, [], ◌∷◌, ◌++◌, length, Option, true, false, ◌==◌, ◌&&◌, arith}
use Rattle.std.proofs.lemmas.Bool.{eqb-true, and_parts}
use Rattle.td_words.specs.declared.names.Access.{Access}
use Rattle.td_words.specs.declared.names.Access.TheVariants.{Read, Write}
use Rattle.td_words.specs.declared.names.EntryState.TheVariants as entry
use Rattle.td_words.specs.declared.calls.GuestOp.{GuestOp}
use Rattle.td_words.specs.Packing.{is_exported}
use Rattle.flat_core.specs.World.{World, Made}
use Rattle.flat_core.specs.Opening.{Opening, Incoming}
use Rattle.flat_core.specs.Row.{OperationRow}
use Rattle.flat_core.specs.Tree.{number_at, entry_at}
use Rattle.flat_core.specs.Effects.{pass_operation, tell_words}
use Rattle.flat_core.specs.Guest.{ByRow, operation_of, is_pending_at, accept_page, reach}
use Rattle.flat_core.specs.Event.{State, start, event}
use Rattle.flat_core.specs.Laws.{with_bundles, HoldsInRuns, ArePagesKnown}
use Rattle.flat_core.specs.AccessLaw.{IsGuarded}
use Rattle.flat_core.proofs.Tests.{by_test}
use Rattle.flat_core.proofs.Acts.{event_world}
use Rattle.flat_core.proofs.Operations.{operation_row, accepted}
use Rattle.flat_core.proofs.Induction.{in_runs}
use Rattle.flat_core.proofs.Kept.{is_pending}
use Rattle.mig_laws.specs.Source.{SourceHolds}
use Rattle.mig_laws.specs.Ivs.{is_forward}
use Rattle.mig_laws.specs.WellMade.{ComesAfter, WellHolds, WellIsKept, EveryListIsWellMade, EverySessionAgrees}
use Rattle.mig_laws.proofs.Source.{source_kept}
use Rattle.mig_laws.proofs.WellStays.{well_beside, marks, seen_well}
use Rattle.mig_laws.proofs.WellRows.{row-well}

-- a page that is accepted was pending, and so wasn't exported
accept_well : (t v gpa : ℕ) (w : World) → (entry_at w t 0 gpa).state ≡ entry.Pending → WellHolds w → WellHolds (tell_words [] (pass_operation v (accept_page true t gpa w)))
accept_well t v gpa w pending h = well_beside w after refl
    (λ x a. record {
      exporting = record { alive = record { kind = a.alive.kind; life = a.alive.life }; standing = a.standing };
      session = refl;
      streams = refl;
      counter = λ k m. refl;
      epoch = omega arith;
      mark = λ n epoch m. (let mark = marks w t 0 (number_at 0 gpa) (record { state = entry.Mapped; page = (entry_at w t 0 gpa).page; mark = 0 }) (λ e. never e) x n m.exported in
          record { exported = still x n m.exported; first = omega (arith, m.first, mark); last = omega (arith, m.last, mark) });
      room = λ room. room;
      started = λ e. e;
    }) h
  where
    after : World
    after = tell_words [] (pass_operation v (accept_page true t gpa w))

    never : {A : Type 0} → is_exported (entry_at w t 0 gpa).state ≡ true → A
    never e = absurd (let no : true ≡ false = sym e ∙ ap is_exported pending in cc)

    still : (x n : ℕ) → is_exported (w.tds.entries x 0 n).state ≡ true → is_exported (after.tds.entries x 0 n).state ≡ true
    still x n e = by_test (x == t && n == number_at 0 gpa)
        (λ y. (let both = and_parts (x == t) (n == number_at 0 gpa) y in
        never (ap₂ (λ (u j : ℕ). is_exported (w.tds.entries u 0 j).state) (sym (eqb-true x t both.0)) (sym (eqb-true n (number_at 0 gpa) both.1)) ∙ e)))
        (λ y. by_test (x == t)
        (λ z. let off : (n == number_at 0 gpa) ≡ false = rw z at y in rw (z, off) (ap (λ (u : ℕ). is_exported (w.tds.entries u 0 n).state) (sym (eqb-true x t z)) ∙ e))
        (λ z. rw z e))

operation_well : (o : Opening) (t v line : ℕ) (op : GuestOp) (row : OperationRow) (w : World) → operation_of o t v line op ≡ ByRow row → WellHolds w → WellHolds (tell_words (row.tells w) (row.act w))
operation_well o t v line op row w is h = operation_row o t v line (λ x. WellHolds (tell_words (x.tells w) (x.act w)))
    (λ r x. seen_well w _ refl h)
    (λ r s. seen_well w _ refl h)
    (λ r gpa. seen_well w _ refl h)
    (λ r gpa. seen_well w _ refl h)
    (λ gpa. accepted (λ x. WellHolds (tell_words [] (pass_operation v x))) (is_pending_at w t gpa) t gpa w
    (λ y. accept_well t v gpa w (is_pending (entry_at w t 0 gpa).state y) h)
    (λ y. seen_well w _ refl h))
    (λ i. seen_well w _ refl h)
    (seen_well w _ refl h)
    (λ r. seen_well w _ refl h) op row is

reached_well : (t v : ℕ) (access : Access) (r gpa page : ℕ) (w : World) → WellHolds w → WellHolds (reach t v access r gpa page w)
reached_well t v Read r gpa page w h = seen_well w _ refl h
reached_well t v Write r gpa page w h = seen_well w _ refl h

event_well : (o : Opening) (bundles : ℕ → Option Incoming) (s : State) (p : ℕ) → IsGuarded o s → SourceHolds s.world → WellHolds s.world → WellHolds (event (with_bundles o bundles) s p).world
event_well o bundles s p all source h =
    let q : Opening = with_bundles o bundles in
    event_world q s p WellHolds h
    (λ c cs line none ps. row-well q p s.world all.timely.lawful source.ivs h c ps)
    (λ c cs g op row i is ps. operation_well q g.tdr g.vp (length (s.lps p).replies + 1) op row s.world is h)
    (λ c cs g op access r gpa page i is found. reached_well g.tdr g.vp access r gpa page s.world h)
    (λ c cs g i. seen_well s.world _ refl h)

start_well : (o : Opening) (ws : Option (List ℕ)) → WellHolds (start o ws).world
start_well o ws = record { made = first; sessions = λ t a. absurd (let no : false ≡ true = a.standing in cc) }
  where
    first : (before after : List Made) (b : Made) → [] ≡ before ++ b ∷ after → is_forward b ≡ true → ComesAfter before b
    first [] after b e f = cc
    first (c ∷ before) after b e f = cc

pub well_kept : WellIsKept
well_kept = record {
  start = λ o ws. (source_kept.start o ws, start_well o ws);
  event = λ o bundles s p h. (source_kept.event o bundles s p h.0, event_well o bundles s p h.0.0.0 h.0.1 h.1);
}

always_well : HoldsInRuns (λ o s. ((IsGuarded o s × ArePagesKnown s.world) × SourceHolds s.world) × WellHolds s.world)
always_well = in_runs (λ o s. ((IsGuarded o s × ArePagesKnown s.world) × SourceHolds s.world) × WellHolds s.world) well_kept

pub every_list : EveryListIsWellMade
every_list o ws schedule = (always_well o ws schedule).1.made

pub every_session : EverySessionAgrees
every_session o ws schedule = (always_well o ws schedule).1.sessions
