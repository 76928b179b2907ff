-- What is asked of a state is so at the start and after each event, and tells what is known of it.
use Rattle.std.proofs.Common.{ℕ, ◌≤◌, length, Option, None, refl, arith}
use Rattle.flat_core.specs.Opening.{Opening, Incoming}
use Rattle.flat_core.specs.Event.{State, start, event}
use Rattle.flat_core.specs.Inside.{AreTimely}
use Rattle.flat_core.specs.Laws.{with_bundles}
use Rattle.flat_core.proofs.Due.{due_event_is}
use Rattle.flat_core.proofs.Ends.{timely_rebundled}
use Rattle.lock_words.proofs.Runs.{has-line, lets-go}
use Rattle.leaf_engine.specs.Facts.{EventsKeepFacts}
use Rattle.merge_laws.proofs.Standing.{Laws}
use Rattle.merge_laws.proofs.Merged.{Tells}
use Rattle.turn_laws.specs.Turns.{IsKnown}
use Rattle.turn_laws.proofs.Few.{low-bits}

module _ (ls : Laws) (facts : EventsKeepFacts) where
  pub first-known : (o : Opening) → IsKnown o (start o None)
  first-known o = (let f = facts.start o None in record { sound = f.0; guarded = f.1; facts = f.2; nothing_to_tell = refl })

  pub known-kept : (o : Opening) (bundles : ℕ → Option Incoming) (s : State) (p : ℕ) → IsKnown o s → IsKnown o (event (with_bundles o bundles) s p)
  known-kept o bundles s p h =
      let f = facts.event o bundles s p (h.sound, h.guarded, h.facts) in
      record { sound = f.0; guarded = f.1; facts = f.2; nothing_to_tell = ls.tell (with_bundles o bundles) s p h.nothing_to_tell }

  pub known-tells : (o : Opening) (bundles : ℕ → Option Incoming) → length o.calls ≤ 8 → Tells (with_bundles o bundles) (IsKnown o)
  known-tells o bundles most = record {
    known = λ s h.
        let o' : Opening = with_bundles o bundles in
        let timely : AreTimely o' s = timely_rebundled o bundles s h.guarded.timely in
        record {
          count = timely.count;
          lawful = timely.lawful;
          exclusive = λ l. timely.exclusive l;
          few = λ l. low-bits ls.follow o' s timely most l;
          nothing_to_tell = h.nothing_to_tell;
          facts = h.facts;
          guarded = record { timely = timely; access = h.guarded.access };
          next = λ p e is.
              let d = due_event_is o' s p e is in
              let b = has-line o' s.world p (s.lps p) e d in
              let c = timely.count in
              record { processor = omega (arith, b, c); next = is; lets_go = lets-go o' s p (timely.each p) e d };
          later = λ p. (facts.event o bundles s p (h.sound, h.guarded, h.facts)).2;
        };
    next = known-kept o bundles;
  }
